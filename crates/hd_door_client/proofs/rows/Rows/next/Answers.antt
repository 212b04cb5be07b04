use Rattle.std.proofs.Common.{◌∙◌, ap, option_and_then}
use Rattle.serde_json.specs.Find.{as_number, as_u64}
use Rattle.serde_json.specs.View.{view}
use Rattle.hd_door_client.proofs.Lasts.{next_by}
use Rattle.hd_door_client.proofs.rows.Rows.next.Goals as goal

pub returns-in_err-get : goal.returns-in_err-get
returns-in_err-get c =
    c.from_residual-in_err-get.ensures
    ∙ ap (λ o. option_and_then as_u64 (option_and_then as_number o)) c.in_err-get.ensures
    ∙ next_by _ (view c.args.self.now.array) _ c.all.ensures c.in_ok-last.ensures.value

pub returns : goal.returns
returns c =
    c.as_u64.ensures
    ∙ ap (λ o. option_and_then as_u64 (option_and_then as_number o)) c.in_ok-get.ensures
    ∙ next_by _ (view c.args.self.now.array) _ c.all.ensures c.in_ok-last.ensures.value
