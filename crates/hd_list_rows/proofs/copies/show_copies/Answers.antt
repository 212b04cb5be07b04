use Rattle.std.proofs.Common.{arith, rules, ◌≡◌, ◌∙◌, sym, ap, ℕ, ◌∷◌, [], ◌++◌, None, filter_map}
use Rattle.hd_desk.specs.Desks.{desk_of}
use Rattle.hd_list_rows.specs.PageValue.{PageValue}
use Rattle.hd_list_rows.specs.Rows.{copies_on, row_on}
use Rattle.hd_list_rows.proofs.Walking.{copies_more}
use Rattle.hd_list_rows.proofs.copies.show_copies.Goals as goal

pub loop-number-preserved : goal.loop-number-preserved
loop-number-preserved g c =
    let d = desk_of c.args.desk.now in
    let which = c.args.which.now in
    let same : c.unwrap.result ≡ c.loop-number.number = search rules in
    let rows = ap (λ (n : ℕ). copies_on d which c.args.first c.loop-number.number
    ++ filter_map (row_on d which) (n ∷ [])) same
    ∙ sym (copies_more d which c.args.first c.loop-number.number c.loop-number.invariant.1) in (
      c.put_if_on.ensures
          ∙ ap (λ (p : PageValue). record p {
            rows = p.rows ++ filter_map (row_on d which) (c.unwrap.result ∷ []);
          }) c.loop-number.invariant.0
          ∙ (λ j. record { rows = rows j; next = None }),
      omega (arith, c.loop-number.invariant.1),
    )
