use Rattle.std.proofs.Common.{◌≡◌, subst, Bool, true}
use Rattle.hd_rules.specs.Same.{same_value, same_answer, same_asked, same_line, same_turn_reply}
use Rattle.hd_rules.specs.Laws.{IsExact}
use Rattle.hd_rules.proofs.Same.{value_self, answer_self, asked_self, line_self, turn_reply_self}
use Rattle.hd_rules.proofs.Alike.{value_is, answer_is, asked_is, line_is, turn_reply_is}
use Rattle.hd_rules.proofs.laws.tests_are_exact.Goals as goal

exact : {A : Type 0} (same : A → A → Bool) → ((x y : A) → same x y ≡ true → x ≡ y)
    → ((x : A) → same x x ≡ true) → IsExact same
exact same is self x y = (is x y, (λ e. subst (λ z. same x z ≡ true) e (self x)))

pub returns : goal.returns
returns c = record {
  values = exact same_value value_is value_self;
  answers = exact same_answer answer_is answer_self;
  asked = exact same_asked asked_is asked_self;
  lines = exact same_line line_is line_self;
  replies = exact same_turn_reply turn_reply_is turn_reply_self;
}
