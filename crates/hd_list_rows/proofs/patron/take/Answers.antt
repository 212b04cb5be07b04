use Rattle.std.proofs.Common.{arith, rules, ◌≡◌, ◌∙◌, ap, ◌<◌, length}
use Rattle.hd_list_rows.specs.Making.{with_rest}
use Rattle.hd_list_rows.specs.PageValue.{PageValue}
use Rattle.hd_list_rows.proofs.Making.{put_behind}
use Rattle.hd_list_rows.proofs.patron.take.Goals as goal

pub returns-then-not-is_full : goal.returns-then-not-is_full
returns-then-not-is_full c = λ rest.
    let below : length c.args.page.now.rows < 512 = search rules in
    ap (λ (p : PageValue). with_rest p c.args.others.now rest) c.put.ensures
    ∙ put_behind c.args.page.now c.args.others.now c.args.row.now rest
    (λ some. let never : ⊥ = omega (arith, some, c.if-others-gt0.false) in never) below
