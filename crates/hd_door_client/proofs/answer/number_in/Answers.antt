use Rattle.std.proofs.Common.{IfNone, List, subst, ℕ}
use Rattle.std.proofs.lemmas.Str.{IsUtf8-from_ascii}
use Rattle.std.specs.Result.{result_ok}
use Rattle.hd_door_client.specs.Answers.{IsNoNumber}
use Rattle.hd_door_client.proofs.Numbers.{none_parsed, number_ascii}
use Rattle.hd_door_client.proofs.answer.number_in.Goals as goal

pub returns-in-Err-clause-none : goal.returns-in-Err-clause-none
returns-in-Err-clause-none c = λ n small is.
    c.in-Err.ensures.cases.0 (IsUtf8-from_ascii _ (number_ascii _ n is))

pub returns-in-Ok-clause-none : goal.returns-in-Ok-clause-none
returns-in-Ok-clause-none c =
    rw c.ok.ensures.value
    (subst (λ (t : List ℕ). IfNone (result_ok c.parse.result) (IsNoNumber t)) c.in-Ok.ensures.cases.0
    (none_parsed c.parse.result c.in-Ok.text.now c.parse.ensures.value.0))
