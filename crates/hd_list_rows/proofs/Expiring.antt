-- Holds past their day: one hold more, and one title more.
use Rattle.std.proofs.Common.{arith, ◌≡◌, refl, sym, ◌∙◌, ap, subst, ℕ, ◌+◌, ◌-◌, ◌*◌, ◌%◌, ◌<◌, ◌≤◌, suc}
use Rattle.std.proofs.Common.{Bool, true, false, not, cond, ◌==◌, nat_lt, List, [], ◌∷◌, ◌++◌, append_assoc}
use Rattle.std.proofs.Common.{filter, filter_map, length, length-append, Option, Some, None, inl, inr}
use Rattle.std.specs.Prelude.{◌⊎◌}
use Rattle.std.proofs.lemmas.Nat.{div-mul-add, mod-mul-add}
use Rattle.std.proofs.lemmas.Bool.{lt-ltb, le-ltb}
use Rattle.std.proofs.lemmas.Bool.Decides.{nat_tests}
use Rattle.std.proofs.lemmas.Grind.{common_steps}
use Rattle.std.proofs.lemmas.List.Elements.{filter_map-append}
use Rattle.hd_rules.specs.Facts.{Facts}
use Rattle.hd_rules.specs.Desk.{Desk}
use Rattle.hd_rules.specs.declared.holds.Hold.{Hold}
use Rattle.hd_rules.specs.declared.views.TitleHold.{TitleHold}
use Rattle.hd_queue.specs.Holds.{AllAfter, HasPatronsOnce, IsInOrder, hold_of}
use Rattle.hd_list_rows.specs.Expired.{from_stamp, of_title, of_titles, stamp_at, stamp_or_first, title_at}
use Rattle.hd_list_rows.specs.Expired.{IsExpiredPage, expired_row, expired_rows, holds_at, title_left}
use Rattle.hd_list_rows.specs.PageValue.{PageValue}

-- a hold before the stamp is passed over
pub passed : (stamp : ℕ) (h : Hold) (hs : List Hold) → h.stamp < stamp
    → from_stamp stamp (h ∷ hs) ≡ from_stamp stamp hs
passed stamp h hs less = rw (lt-ltb h.stamp stamp less) refl

-- one from the stamp on isn't
pub gone_over : (stamp : ℕ) (h : Hold) (hs : List Hold) → stamp ≤ h.stamp
    → from_stamp stamp (h ∷ hs) ≡ h ∷ from_stamp stamp hs
gone_over stamp h hs le = rw (le-ltb h.stamp stamp le) refl

-- behind a hold all are from its stamp on
pub all_after : (stamp low : ℕ) (hs : List Hold) → low ≤ stamp → AllAfter stamp hs → from_stamp low hs ≡ hs
all_after stamp low [] le after = refl
all_after stamp low (h ∷ hs) le after =
    gone_over low h hs (omega (arith, le, after.0)) ∙ ap (λ (xs : List Hold). h ∷ xs)
    (all_after stamp low hs le after.1)

-- a hold behind others has a greater stamp
after_first : (stamp : ℕ) (before : List Hold) (h : Hold) (rest : List Hold)
    → AllAfter stamp (before ++ h ∷ rest) → stamp < h.stamp
after_first stamp [] h rest after = after.0
after_first stamp (g ∷ before) h rest after = after_first stamp before h rest after.1

-- in order, those from a hold's stamp on are the hold and those behind it
pub from_hold : (before : List Hold) (h : Hold) (rest : List Hold) (stamp : ℕ)
    → IsInOrder (before ++ h ∷ rest) → stamp ≤ h.stamp
    → from_stamp h.stamp (before ++ h ∷ rest) ≡ from_stamp stamp (h ∷ rest)
from_hold [] h rest stamp ordered le =
    gone_over h.stamp h rest (omega arith)
    ∙ ap (λ (xs : List Hold). h ∷ xs) (all_after h.stamp h.stamp rest (omega arith) ordered.0
    ∙ sym (all_after h.stamp stamp rest le ordered.0))
    ∙ sym (gone_over stamp h rest le)
from_hold (g ∷ before) h rest stamp ordered le =
    passed h.stamp g (before ++ h ∷ rest) (after_first g.stamp before h rest ordered.0)
    ∙ from_hold before h rest stamp ordered.1 le

-- a patron's hold is found where it stands
pub found : (before : List Hold) (h : Hold) (rest : List Hold) → HasPatronsOnce (before ++ h ∷ rest)
    → hold_of (before ++ h ∷ rest) h.patron ≡ Some h
found [] h rest once = grind (arith, nat_tests, common_steps)
found (g ∷ before) h rest once =
    by_patron (g.patron == h.patron) refl (found before h rest once.1)
  where
    by_patron : (b : Bool) → (g.patron == h.patron) ≡ b → hold_of (before ++ h ∷ rest) h.patron ≡ Some h
        → hold_of (g ∷ before ++ h ∷ rest) h.patron ≡ Some h
    by_patron true is there = grind (arith, nat_tests, common_steps, is, there, once.0)
    by_patron false is there = rw is there

-- one title more
pub title_more : (queues : ℕ → List Hold) (titles t stamp : ℕ) → t < titles
    → of_titles queues (titles - t) t stamp
    ≡ of_title t (from_stamp stamp (queues t)) ++ of_titles queues (titles - (t + 1)) (t + 1) 0
title_more queues titles t stamp less =
    ap (λ (n : ℕ). of_titles queues n t stamp)
    (let more : titles - t ≡ suc (titles - (t + 1)) = omega (arith, less) in more)

-- no title is left
pub no_title : (queues : ℕ → List Hold) (titles t stamp : ℕ) → titles ≤ t
    → of_titles queues (titles - t) t stamp ≡ []
no_title queues titles t stamp le =
    ap (λ (n : ℕ). of_titles queues n t stamp)
    (let none : titles - t ≡ 0 = omega (arith, le) in none)

-- where a look stops before a hold, the hold and those behind it are the ones from its stamp on
pub left_from : (queue before : List Hold) (h : Hold) (rest : List Hold) (stamp : ℕ) (o : Option Hold)
    → queue ≡ before ++ h ∷ rest → IsInOrder queue → HasPatronsOnce queue → o ≡ hold_of queue h.patron
    → stamp ≤ h.stamp → from_stamp (stamp_or_first o) queue ≡ from_stamp stamp (h ∷ rest)
left_from queue before h rest stamp o split ordered once held le =
    let there : o ≡ Some h = held ∙ ap (λ (hs : List Hold). hold_of hs h.patron) split
    ∙ found before h rest (subst HasPatronsOnce split once) in
    ap (λ (x : Option Hold). from_stamp (stamp_or_first x) queue) there
    ∙ ap (from_stamp h.stamp) split
    ∙ from_hold before h rest stamp (subst IsInOrder split ordered) le

-- one hold more is gone over
pub put_more : {R : Type 0} (row : TitleHold → Option R) (rows : List R) (t stamp : ℕ) (h : Hold)
    (hs : List Hold) → stamp ≤ h.stamp
    → (rows ++ filter_map row (record { title = t; hold = h } ∷ []))
    ++ filter_map row (of_title t (from_stamp stamp hs))
    ≡ rows ++ filter_map row (of_title t (from_stamp stamp (h ∷ hs)))
put_more {R} row rows t stamp h hs le =
    let one : List TitleHold = record { title = t; hold = h } ∷ [] in
    let others : List TitleHold = of_title t (from_stamp stamp hs) in
    append_assoc rows (filter_map row one) (filter_map row others)
    ∙ ap (λ (xs : List R). rows ++ xs) (sym (filter_map-append row one others))
    ∙ ap (λ (xs : List Hold). rows ++ filter_map row (of_title t xs)) (sym (gone_over stamp h hs le))

-- what is behind a title stays
pub with_others : {R : Type 0} (row : TitleHold → Option R) (new old : List R)
    (rest all others : List TitleHold)
    → new ++ filter_map row rest ≡ old ++ filter_map row all
    → new ++ filter_map row (rest ++ others) ≡ old ++ filter_map row (all ++ others)
with_others {R} row new old rest all others same =
    ap (λ (xs : List R). new ++ xs) (filter_map-append row rest others)
    ∙ sym (append_assoc new (filter_map row rest) (filter_map row others))
    ∙ ap (λ (xs : List R). xs ++ filter_map row others) same
    ∙ append_assoc old (filter_map row all) (filter_map row others)
    ∙ ap (λ (xs : List R). old ++ xs) (sym (filter_map-append row all others))

-- a place of a title
title_of_place : (t b : ℕ) → b < 1000001 → title_at (t * 1000001 + b) ≡ t
title_of_place t b less = div-mul-add t 1000001 b less

-- the holds from a patron's on
pub from_patron : (d : Desk) (queues : ℕ → List Hold) (titles t p : ℕ) → t < titles → p < 1000000
    → (let place : ℕ = t * 1000001 + p + 1 in
    of_titles queues (titles - title_at place) (title_at place)
    (stamp_at d (title_at place) (place % 1000001)))
    ≡ title_left d queues t (Some p) ++ of_titles queues (titles - (t + 1)) (t + 1) 0
from_patron d queues titles t p less few =
    let place : ℕ = t * 1000001 + p + 1 in
    let same : place ≡ t * 1000001 + suc p = omega arith in
    let below : suc p < 1000001 = omega (arith, few) in
    let title : title_at place ≡ t = ap title_at same ∙ title_of_place t (suc p) below in
    let at : place % 1000001 ≡ suc p =
    ap (λ (n : ℕ). n % 1000001) same ∙ mod-mul-add t 1000001 (suc p) below in
    (λ j. of_titles queues (titles - title j) (title j) (stamp_at d (title j) (at j)))
    ∙ title_more queues titles t (stamp_or_first (d.hold t p)) less

-- a page that ends before a patron's hold of a title
pub ends_before : (k : Facts) (d : Desk) (queues : ℕ → List Hold) (day first t stamp p most left : ℕ)
    (old new : PageValue) → t < k.titles → p < 1000000
    → old.rows ++ expired_rows k d day (of_titles queues (k.titles - t) t stamp)
    ≡ expired_rows k d day (holds_at k d queues first)
    → 65536 + length (of_titles queues (k.titles - t) t stamp) ≡ most + length (holds_at k d queues first)
    → new.rows ++ expired_rows k d day (title_left d queues t (Some p))
    ≡ old.rows ++ expired_rows k d day (of_title t (from_stamp stamp (queues t)))
    → most + length (title_left d queues t (Some p))
    ≡ left + length (of_title t (from_stamp stamp (queues t)))
    → (length new.rows ≡ 512) ⊎ (left ≡ 0)
    → IsExpiredPage k d queues day first (record new { next = Some (t * 1000001 + p + 1) })
ends_before k d queues day first t stamp p most left old new less few whole walked rows gone far =
    let all : List TitleHold = of_title t (from_stamp stamp (queues t)) in
    let rest : List TitleHold = title_left d queues t (Some p) in
    let others : List TitleHold = of_titles queues (k.titles - (t + 1)) (t + 1) 0 in
    let at : holds_at k d queues (t * 1000001 + p + 1) ≡ rest ++ others =
    from_patron d queues k.titles t p less few in
    let more : of_titles queues (k.titles - t) t stamp ≡ all ++ others =
    title_more queues k.titles t stamp less in
    let behind : length (holds_at k d queues (t * 1000001 + p + 1)) ≡ length rest + length others =
    ap (λ (hs : List TitleHold). length hs) at ∙ length-append rest others in
    let before : length (of_titles queues (k.titles - t) t stamp) ≡ length all + length others =
    ap (λ (hs : List TitleHold). length hs) more ∙ length-append all others in
    record {
      rows = ap (λ (hs : List TitleHold). new.rows ++ expired_rows k d day hs) at
          ∙ with_others (expired_row k d day) new.rows old.rows rest all others rows
          ∙ ap (λ (hs : List TitleHold). old.rows ++ expired_rows k d day hs) (sym more)
          ∙ whole;
      far = elim far [
        | inl full ↦ inl full
        | inr none ↦ inr (inl (omega (arith, behind, before, walked, gone, none)))
      ];
    }
