use Rattle.std.proofs.Common.{not, refl}
use Rattle.std.proofs.lemmas.List.Filters.{length-filter_both}
use Rattle.hd_rules.specs.Views.{is_kept, holds_of}
use Rattle.hd_rules.proofs.Filters.{in_either, in_both}
use Rattle.hd_rules.proofs.laws.kept_and_waiting_are_the_holds.Goals as goal

pub returns : goal.returns
returns c = record {
  counted = λ k d p. length-filter_both (is_kept d) (λ h. not (is_kept d h)) (λ h. refl) (holds_of k d p);
  either = λ k d p h. in_either (is_kept d) h (holds_of k d p);
  apart = λ k d p h. in_both (is_kept d) h (holds_of k d p);
}
