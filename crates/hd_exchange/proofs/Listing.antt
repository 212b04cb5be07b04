-- The items of a patron's lists are of the catalogue, and a look takes down more of them than a reply prints.
use Rattle.std.proofs.Common.{◌≡◌, refl, ap, ℕ, ◌+◌, ◌*◌, ◌-◌, ◌<◌, ◌≤◌, zero, suc, arith, Bool, true, false}
use Rattle.std.proofs.Common.{cond}
use Rattle.std.proofs.Common.{List, [], ◌∷◌, ◌++◌, length, length-append, map, take, All, filter, filter_map}
use Rattle.std.proofs.Common.{Option, Some, None, option_map, nat_lt, if◌then◌else◌, codes}
use Rattle.std.specs.Borrow.{Bor}
use Rattle.std.specs.List.{AllByRecursion, cons_option, flat_map, range_with_len}
use Rattle.std.proofs.lemmas.List.Elements.{All-drop, All-from_recursion, All-nil, All-take}
use Rattle.hd_message.specs.PatronReplies.{fitting, item_field, items_text}
use Rattle.hd_rules.specs.Desk.{Desk}
use Rattle.hd_rules.specs.Facts.{Facts}
use Rattle.hd_rules.specs.Known.{IsKnownCopy, IsKnownDesk, IsKnownHeld, IsKnownHold}
use Rattle.hd_rules.specs.Views.{as_far_as, holds_below, holds_of, insert_hold, items_of, kept_of, loans_of}
use Rattle.hd_rules.specs.Views.{overdue_of, page, waiting_of, with_hold_of}
use Rattle.hd_rules.specs.declared.holds.Hold.{Hold}
use Rattle.hd_rules.specs.declared.views.ListItem.{ListItem}
use Rattle.hd_rules.specs.declared.views.ListItem.TheVariants.{Copy as CopyItem, Title as TitleItem}
use Rattle.hd_rules.specs.declared.views.Summary.{Summary}
use Rattle.hd_rules.specs.declared.views.Summary.TheVariants.{HoldItems, OverdueItems, ChargedItems}
use Rattle.hd_rules.specs.declared.views.Summary.TheVariants.{UnavailableHolds, Empty}
use Rattle.hd_rules.specs.declared.views.TitleHold.{TitleHold}
use Rattle.hd_rules.specs.declared.views.Wanted.{Wanted}
use Rattle.hd_catalogue.specs.Contents.{Contents, facts_of}
use Rattle.hd_exchange.specs.PatronInformation.{HasBytes, IsItemOf, items_wanted}
use Rattle.hd_exchange.specs.declared.patron_message.PatronLook.{PatronLook}

-- the numbers from one on, below another
numbers_within : (a n b : ℕ) → a + n ≤ b → AllByRecursion (λ c. c < b) (range_with_len a n)
numbers_within a zero b within = tt
numbers_within a (suc n) b within =
    (omega (arith, within), numbers_within (a + 1) n b (omega (arith, within)))

module _ (k : Facts) where
  -- a hold of a title of the catalogue, with a copy of it if it has one
  abbrev IsHoldOf : TitleHold → Type 0
  IsHoldOf h = (h.title < k.titles) × IsKnownHold k h.hold

  inserted : (h : TitleHold) (hs : List TitleHold) → IsHoldOf h → AllByRecursion IsHoldOf hs
      → AllByRecursion IsHoldOf (insert_hold h hs)
  inserted h [] is all = (is, tt)
  inserted h (g ∷ gs) is all = by_order (nat_lt h.hold.stamp g.hold.stamp) (inserted h gs is all.1)
    where
      by_order : (first : Bool) → AllByRecursion IsHoldOf (insert_hold h gs)
          → AllByRecursion IsHoldOf (cond first (h ∷ g ∷ gs) (g ∷ insert_hold h gs))
      by_order true later = (is, all)
      by_order false later = (all.0, later)

  with_one : (t : ℕ) (o : Option Hold) (hs : List TitleHold) → t < k.titles → IsKnownHeld k o
      → AllByRecursion IsHoldOf hs
      → AllByRecursion IsHoldOf (with_hold_of t o hs)
  with_one t None hs title is all = all
  with_one t (Some h) hs title is all = inserted (record { title = t; hold = h }) hs (title, is) all

  -- the copies of holds that have one
  copies_within : (hs : List TitleHold) → AllByRecursion IsHoldOf hs
      → AllByRecursion (IsItemOf k) (filter_map (λ (h : TitleHold). option_map CopyItem h.hold.copy) hs)
  copies_within [] all = tt
  copies_within (h ∷ hs) all = by_copy h.hold.copy all.0.1.copy (copies_within hs all.1)
    where
      by_copy : (o : Option ℕ) → IsKnownCopy k o
          → AllByRecursion (IsItemOf k) (filter_map (λ (h : TitleHold). option_map CopyItem h.hold.copy) hs)
          → AllByRecursion (IsItemOf k)
          (cons_option (option_map CopyItem o)
          (filter_map (λ (h : TitleHold). option_map CopyItem h.hold.copy) hs))
      by_copy None is later = later
      by_copy (Some c) is later = (is, later)

  -- their titles
  titles_within : (hs : List TitleHold) → AllByRecursion IsHoldOf hs
      → AllByRecursion (IsItemOf k) (map (λ (h : TitleHold). TitleItem h.title) hs)
  titles_within [] all = tt
  titles_within (h ∷ hs) all = (all.0.0, titles_within hs all.1)

  copy_items : (cs : List ℕ) → AllByRecursion (λ c. c < k.copies) cs
      → AllByRecursion (IsItemOf k) (map CopyItem cs)
  copy_items [] all = tt
  copy_items (c ∷ cs) all = (all.0, copy_items cs all.1)

  -- what passes a test is among all
  passed : {A : Type 0} (P : A → Type 0) (test : A → Bool) (xs : List A) → AllByRecursion P xs
      → AllByRecursion P (filter test xs)
  passed P test [] all = tt
  passed {A} P test (x ∷ xs) all = by_test (test x) (passed P test xs all.1)
    where
      by_test : (b : Bool) → AllByRecursion P (filter test xs)
          → AllByRecursion P (cond b (x ∷ filter test xs) (filter test xs))
      by_test true later = (all.0, later)
      by_test false later = later

  module _ (d : Desk) (p : ℕ) (known : IsKnownDesk k d) (patron : p < k.patrons) where
    holds_within : (n : ℕ) → n ≤ k.titles → AllByRecursion IsHoldOf (holds_below d p n)
    holds_within zero within = tt
    holds_within (suc t) within =
        let title : t < k.titles = omega (arith, within) in
        with_one t (d.hold t p) (holds_below d p t) title (known.holds t p title patron)
        (holds_within t (omega (arith, within)))

    all_holds : AllByRecursion IsHoldOf (holds_of k d p)
    all_holds = holds_within k.titles (omega arith)

    all_loans : AllByRecursion (λ c. c < k.copies) (loans_of k d p)
    all_loans = passed (λ c. c < k.copies) _ (range_with_len 0 k.copies)
        (numbers_within 0 k.copies k.copies (omega arith))

    all_items : (summary : Summary) (day : ℕ) → AllByRecursion (IsItemOf k) (items_of k d p summary day)
    all_items HoldItems day = copies_within (kept_of k d p) (passed IsHoldOf _ (holds_of k d p) all_holds)
    all_items OverdueItems day =
        copy_items (overdue_of k d p day) (passed (λ c. c < k.copies) _ (loans_of k d p) all_loans)
    all_items ChargedItems day = copy_items (loans_of k d p) all_loans
    all_items UnavailableHolds day =
        titles_within (waiting_of k d p) (passed IsHoldOf _ (holds_of k d p) all_holds)
    all_items Empty day = tt

    as_far : (last : Option ℕ) (xs : List ListItem) → All (IsItemOf k) xs
        → All (IsItemOf k) (as_far_as last xs)
    as_far None xs all = all
    as_far (Some last) xs all = All-take (IsItemOf k) last xs all

    pub page_within : (day : ℕ) (wanted : Wanted) → All (IsItemOf k) (page k d p day wanted)
    page_within day wanted =
        All-drop (IsItemOf k) (wanted.first - 1) (as_far_as wanted.last (items_of k d p wanted.summary day))
        (as_far wanted.last (items_of k d p wanted.summary day)
        (All-from_recursion (IsItemOf k) (items_of k d p wanted.summary day) (all_items wanted.summary day)))

-- the items that a look sees are of the catalogue
pub items_within : (k : Contents) (d : Desk) (look : PatronLook) (wanted : Option Wanted)
    → IsKnownDesk (facts_of k) d
    → look.patron < (facts_of k).patrons → All (IsItemOf (facts_of k)) (items_wanted k d look wanted)
items_within k d look None known patron = All-nil (IsItemOf (facts_of k))
items_within k d look (Some wanted) known patron =
    All-take (IsItemOf (facts_of k)) 512 (page (facts_of k) d look.patron look.day wanted)
    (page_within (facts_of k) d look.patron known patron look.day wanted)

-- A list is cut at what there is room for, with or without the items behind so many.
module _ (code : List ℕ) (two : length code ≡ 2) where
  item_bytes : (name : Bor (List ℕ)) → HasBytes name → 4 ≤ length (item_field code name)
  item_bytes name has =
      let all : length (item_field code name)
      ≡ length (code ++ name.now) + 1 = length-append (code ++ name.now) (codes "|") in
      let value : length (code ++ name.now) ≡ length code + length name.now = length-append code name.now in
      let some : 1 ≤ length name.now = has in
      omega (arith, some, two, all, value)

  pub same_items : (n room : ℕ) (names : List (Bor (List ℕ))) → room < 4 * n + 4
      → AllByRecursion HasBytes names
      → items_text code room (take n names) ≡ items_text code room names
  same_items zero room [] small all = refl
  same_items (suc n) room [] small all = refl
  same_items zero room (name ∷ names) small all =
      let item = length (item_field code name) in
      elim (nat_lt room item) as (λ t. nat_lt room item ≡ t →
      [] ≡ flat_map (item_field code)
      (take (if t then 0 else suc (fitting code (room - item) names)) (name ∷ names))) [
        | true ↦ λ h. refl
        | false ↦ λ h.
            let fits : item ≤ room = grind arith in
            absurd (omega (arith, small, fits, item_bytes name all.0))
      ] refl
  same_items (suc n) room (name ∷ names) small all =
      let item = length (item_field code name) in
      elim (nat_lt room item) as (λ t. nat_lt room item ≡ t →
      flat_map (item_field code)
      (take (if t then 0 else suc (fitting code (room - item) (take n names))) (name ∷ take n names))
      ≡ flat_map (item_field code)
      (take (if t then 0 else suc (fitting code (room - item) names)) (name ∷ names))) [
        | true ↦ λ h. refl
        | false ↦ λ h.
            let fits : item ≤ room = grind arith in
            ap (λ (rest : List ℕ). item_field code name ++ rest)
            (same_items n (room - item) names (omega (arith, small, fits, item_bytes name all.0)) all.1)
      ] refl
