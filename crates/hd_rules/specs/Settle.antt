-- Where a copy goes when it is handed in at a branch, or its hold ends on a hold shelf (§ Settling a copy).
use Rattle.std.specs.Prelude.{◌==◌, Option, Some, None, List, [], ◌∷◌, if◌then◌else◌}
use Rattle.hd_rules.specs.Words.{Hold, CopyState, Shelf, OnHoldShelf, InTransit, CopyCell, HoldCell}
use Rattle.hd_rules.specs.Words.{CopyHas, HoldHas, Change, ValueOf, Choice, Place}
use Rattle.hd_rules.specs.Numbers.{BranchNo, TitleNo, CopyNo, PatronNo, Day, PlaceNo}
use Rattle.hd_rules.specs.Facts.{Facts}
use Rattle.hd_rules.specs.Ask.{Plan, Ask}

-- the patron that a copy is kept for or on the way to (§ State)
abbrev pub tied_to : CopyState → Option PatronNo
tied_to (OnHoldShelf s) = Some s.patron
tied_to (InTransit t) = t.patron
tied_to _ = None

-- on the way from the branch to the hold's pickup
abbrev pub sent_to : BranchNo → Hold → CopyState
sent_to b h = InTransit (record { from = b; to = h.pickup; patron = Some h.patron })

-- the place that a copy has on the branch's hold shelf
abbrev pub place_at : BranchNo → CopyState → Option PlaceNo
place_at b (OnHoldShelf s) = if s.branch == b then Some s.place else None
place_at b _ = None

-- Kept for the hold's patron: at its pickup on the place that
-- it has or on the least free one, else on the way there (1).
abbrev pub keep : BranchNo → Hold → Option PlaceNo → (CopyState → Plan) → Plan
keep b h None rest =
    if h.pickup == b
    then Ask (Place b) (λ place. rest (OnHoldShelf (record { branch = b; place = place; patron = h.patron })))
    else rest (sent_to b h)
keep b h (Some place) rest =
    rest (if h.pickup == b then OnHoldShelf (record { branch = b; place = place; patron = h.patron })
    else sent_to b h)

-- a hold with another copy, or with none
abbrev pub with_copy : Option CopyNo → Hold → Hold
with_copy c h = record h { copy = c }

-- a change of a copy's cell
abbrev pub copy_becomes : CopyNo → CopyState → CopyState → Change
copy_becomes c old new = record { cell = CopyCell c; old = CopyHas old; new = CopyHas new }

-- a change of the cell of a title and a patron
abbrev pub hold_becomes : TitleNo → PatronNo → Option Hold → Option Hold → Change
hold_becomes t p old new = record { cell = HoldCell t p; old = HoldHas old; new = HoldHas new }

-- The copy c. What goes on from its new value and the change of the hold that gets it is the rest.
module _ (k : Facts) (c : CopyNo) where
  -- with nobody to have it, a copy stands on its home's shelf, or is on the way there (3)
  abbrev pub sent_home : BranchNo → CopyState
  sent_home b =
      if (k.home c) == b then Shelf b else InTransit (record { from = b; to = k.home c; patron = None })

  -- A copy that no hold has, at a branch on a day: the first hold that may have it gets it (2).
  abbrev pub allot : BranchNo → Option PlaceNo → Option Hold → (CopyState → List Change → Plan) → Plan
  allot b at None rest = rest (sent_home b) []
  allot b at (Some h) rest = Ask (ValueOf (HoldCell (k.title_of c) h.patron)) (λ held.
      keep b h at
      (λ new. rest new (hold_becomes (k.title_of c) h.patron held (Some (with_copy (Some c) h)) ∷ [])))

  -- A copy that its hold keeps. In a sound desk the hold is there.
  abbrev pub settle_tied : BranchNo → CopyState → Option Hold → (CopyState → List Change → Plan) → Plan
  settle_tied b old None rest = rest (sent_home b) []
  settle_tied b old (Some h) rest = keep b h (place_at b old) (λ new. rest new [])

  -- the copy, tied to a patron or to nobody, at a branch on a day
  abbrev pub settle :
      BranchNo → Day → CopyState → Option PatronNo → (CopyState → List Change → Plan) → Plan
  settle b day old (Some p) rest =
      Ask (ValueOf (HoldCell (k.title_of c) p)) (λ held. settle_tied b old held rest)
  settle b day old None rest = Ask (Choice c b day) (λ chosen. allot b None chosen rest)
