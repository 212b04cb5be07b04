-- A catalogue that has grown twice has grown.
use Rattle.std.proofs.Common.{arith, ◌≡◌, refl, ◌∙◌, ℕ, ◌<◌, ◌≤◌, ◌⊎◌, inl, inr, None}
use Rattle.hd_rules.specs.Facts.{Facts}
use Rattle.hd_rules.specs.Growth.{IsOnItsWay, IsLonger, Grows}
use Rattle.hd_rules.proofs.Growing.{old_or_new}
use Rattle.hd_rules.proofs.GrownOpening.{pair_old_or_new}

module _ (k j i : Facts) (one : Grows k j) (two : Grows j i) where
  up_copies : (c : ℕ) → c < k.copies → c < j.copies
  up_copies c lt = let le : k.copies ≤ j.copies = one.longer.copies in omega arith

  up_titles : (t : ℕ) → t < k.titles → t < j.titles
  up_titles t lt = let le : k.titles ≤ j.titles = one.longer.titles in omega arith

  up_patrons : (p : ℕ) → p < k.patrons → p < j.patrons
  up_patrons p lt = let le : k.patrons ≤ j.patrons = one.longer.patrons in omega arith

  longer_twice : IsLonger k i
  longer_twice = record {
    branches = (let a : k.branches ≤ j.branches = one.longer.branches in
        let b : j.branches ≤ i.branches = two.longer.branches in omega arith);
    terminals = (let a : k.terminals ≤ j.terminals = one.longer.terminals in
        let b : j.terminals ≤ i.terminals = two.longer.terminals in omega arith);
    titles = (let a : k.titles ≤ j.titles = one.longer.titles in
        let b : j.titles ≤ i.titles = two.longer.titles in omega arith);
    copies = (let a : k.copies ≤ j.copies = one.longer.copies in
        let b : j.copies ≤ i.copies = two.longer.copies in omega arith);
    patrons = (let a : k.patrons ≤ j.patrons = one.longer.patrons in
        let b : j.patrons ≤ i.patrons = two.longer.patrons in omega arith);
    home = λ c lt. two.longer.home c (up_copies c lt) ∙ one.longer.home c lt;
    title_of = λ c lt. two.longer.title_of c (up_copies c lt) ∙ one.longer.title_of c lt;
    loan_days = λ t lt. two.longer.loan_days t (up_titles t lt) ∙ one.longer.loan_days t lt;
    renewals = λ t lt. two.longer.renewals t (up_titles t lt) ∙ one.longer.renewals t lt;
    loan_limit = λ p lt. two.longer.loan_limit p (up_patrons p lt) ∙ one.longer.loan_limit p lt;
    priority = λ t lt. two.longer.priority t (up_titles t lt) ∙ one.longer.priority t lt;
    command_limit = two.longer.command_limit ∙ one.longer.command_limit;
    last = two.longer.last ∙ one.longer.last;
  }

  pub grows_twice : Grows k i
  grows_twice = record {
    longer = longer_twice;
    opening = record {
      copies = λ c lt. two.opening.copies c (up_copies c lt) ∙ one.opening.copies c lt;
      holds = λ t p in_t in_p.
          two.opening.holds t p (up_titles t in_t) (up_patrons p in_p) ∙ one.opening.holds t p in_t in_p;
      new_copies = λ c new. refl;
      new_holds = λ t p new. refl;
    };
    on_the_way = λ c new in_c. by_copy c new in_c (old_or_new c j.copies);
    past = two.past;
    not_held = λ t p new. by_pair t p new (pair_old_or_new j i two t p);
  }
    where
      by_copy : (c : ℕ) → k.copies ≤ c → c < i.copies → (c < j.copies) ⊎ (j.copies ≤ c)
          → IsOnItsWay i (i.opening.desk.copy c)
      by_copy c new in_c (inr newer) = two.on_the_way c newer in_c
      by_copy c new in_c (inl old) =
          let way : IsOnItsWay j (j.opening.desk.copy c) = one.on_the_way c new old in
          let le : j.branches ≤ i.branches = two.longer.branches in
          let a : way.from < j.branches = way.known_from in
          let b : way.to < j.branches = way.known_to in
          record {
            from = way.from;
            to = way.to;
            is = two.opening.copies c old ∙ way.is;
            known_from = omega arith;
            known_to = omega arith;
          }

      by_pair : (t p : ℕ) → (k.titles ≤ t) ⊎ (k.patrons ≤ p)
          → ((t < j.titles) × (p < j.patrons)) ⊎ ((j.titles ≤ t) ⊎ (j.patrons ≤ p))
          → i.opening.desk.hold t p ≡ None
      by_pair t p new (inl old) = two.opening.holds t p old.0 old.1 ∙ one.not_held t p new
      by_pair t p new (inr newer) = two.not_held t p newer
