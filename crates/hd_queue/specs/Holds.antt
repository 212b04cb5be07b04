-- Lists of the holds of one title.
use Rattle.std.specs.Prelude.{◌≡◌, ◌≢◌, ℕ, ◌<◌, Bool, false, not, ◌||◌, ◌==◌, nat_lt, if◌then◌else◌}
use Rattle.std.specs.Prelude.{List, [], ◌∷◌, Option, None, find, filter, count_by}
use Rattle.hd_rules.specs.declared.holds.Hold.{Hold}

-- the hold of a patron, if any
abbrev pub hold_of : List Hold → ℕ → Option Hold
hold_of holds patron = find (λ h. h.patron == patron) holds

-- all holds but a patron's
abbrev pub without : List Hold → ℕ → List Hold
without holds patron = filter (λ h. not (h.patron == patron)) holds

-- how many holds have a smaller stamp
abbrev pub count_before : List Hold → ℕ → ℕ
count_before holds stamp = count_by (λ h. nat_lt h.stamp stamp) holds

-- whether the first hold has this stamp or a smaller one
abbrev pub begins_by : ℕ → List Hold → Bool
begins_by stamp [] = false
begins_by stamp (h ∷ hs) = not (nat_lt stamp h.stamp)

-- each hold has a greater stamp
abbrev pub AllAfter : ℕ → List Hold → Type 0
AllAfter stamp [] = Unit {0}
AllAfter stamp (h ∷ hs) = (stamp < h.stamp) × AllAfter stamp hs

-- the stamps rise
abbrev pub IsInOrder : List Hold → Type 0
IsInOrder [] = Unit {0}
IsInOrder (h ∷ hs) = AllAfter h.stamp hs × IsInOrder hs

-- no patron has two holds
abbrev pub HasPatronsOnce : List Hold → Type 0
HasPatronsOnce [] = Unit {0}
HasPatronsOnce (h ∷ hs) = (hold_of hs h.patron ≡ None) × HasPatronsOnce hs

-- no hold has this stamp
abbrev pub HasNoStamp : ℕ → List Hold → Type 0
HasNoStamp stamp [] = Unit {0}
HasNoStamp stamp (h ∷ hs) = (h.stamp ≢ stamp) × HasNoStamp stamp hs

-- whether a hold has this stamp
abbrev pub has_stamp : List Hold → ℕ → Bool
has_stamp [] stamp = false
has_stamp (h ∷ hs) stamp = (h.stamp == stamp) || has_stamp hs stamp

-- the list with one more hold, behind those of smaller stamps
abbrev pub with_hold : List Hold → Hold → List Hold
with_hold [] x = x ∷ []
with_hold (h ∷ hs) x = if nat_lt h.stamp x.stamp then h ∷ with_hold hs x else x ∷ h ∷ hs
