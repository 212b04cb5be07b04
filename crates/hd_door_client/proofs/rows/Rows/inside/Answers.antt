use Rattle.std.proofs.Common.{◌∙◌, List, Option, subst, sym, ℕ}
use Rattle.hd_door_client.specs.Rows.{HasRows}
use Rattle.hd_door_client.proofs.Fronts.{without_comma}
use Rattle.hd_door_client.proofs.rows.Rows.inside.Goals as goal

pub returns-in-Some : goal.returns-in-Some
returns-in-Some c = λ rows has.
    let there =
    subst (λ (o : Option ℕ). HasRows o c.args.self.now.text.items rows) (sym c.in-Some.ensures) has in
    let behind = c.without_first-text.ensures _ (c.as_slice.ensures.value ∙ there.2) in
    without_comma rows _ _ c.without_last.ensures.some c.without_last.ensures.none
    (c.before_last_brace.ensures _ _ behind there.1)

pub returns-in-None : goal.returns-in-None
returns-in-None c = λ rows has.
    let there =
    subst (λ (o : Option ℕ). HasRows o c.args.self.now.text.items rows) (sym c.in-None.ensures) has in
    let behind = c.without_first-text.ensures _ (c.as_slice.ensures.value ∙ there) in
    c.without_last-in-None.ensures.some rows behind
