use Rattle.hd_rules.specs.Choose.{is_lent_to}
use Rattle.hd_rules.proofs.Listed.{passing_counted}
use Rattle.hd_rules.proofs.laws.charged_are_counted.Goals as goal

pub returns : goal.returns
returns c = λ k d p. passing_counted (λ n. is_lent_to p (d.copy n)) k.copies
