use Rattle.std.proofs.Common.{arith, ◌≡◌, ◌<◌, true, ℕ, Some}
use Rattle.hd_rules.specs.Words.{TitleHold}
use Rattle.hd_rules.specs.Choose.{is_lent_to}
use Rattle.hd_rules.specs.Views.{ComesBefore, loans_of, holds_of}
use Rattle.hd_rules.proofs.Listed.{loans_are, holds_are, only_list, not_before_itself, not_both_before}
use Rattle.hd_rules.proofs.laws.listed_once.Goals as goal

pub returns : goal.returns
returns c = record {
  loans = λ k d p cs.
      only_list (λ (c : ℕ). (c < k.copies) × (is_lent_to p (d.copy c) ≡ true)) (λ b c. b < c)
      (λ x lt. omega (arith, lt)) (λ x y lt gt. omega (arith, lt, gt)) cs (loans_of k d p) (loans_are k d p);
  holds = λ k d p hs.
      only_list (λ (h : TitleHold). (h.title < k.titles) × (d.hold h.title p ≡ Some h.hold)) ComesBefore
      not_before_itself not_both_before hs (holds_of k d p) (holds_are d p k);
}
