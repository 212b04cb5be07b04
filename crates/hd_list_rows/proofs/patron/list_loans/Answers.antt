use Rattle.std.proofs.Common.{rules, ◌≡◌, ◌∙◌, sym, ap, ℕ, ◌<◌, List, ◌∷◌, ◌++◌, map}
use Rattle.std.proofs.lemmas.List.Elements.{All-rest}
use Rattle.hd_rules.specs.declared.copies.CopyState.{CopyState}
use Rattle.hd_desk.specs.Desks.{desk_of, facts}
use Rattle.hd_list_rows.specs.declared.row.Row.TheVariants.{Copy}
use Rattle.hd_list_rows.specs.Making.{with_rest}
use Rattle.hd_list_rows.specs.Rows.{copy_row}
use Rattle.hd_list_rows.proofs.patron.list_loans.Goals as goal

pub loop-copy-preserved : goal.loop-copy-preserved
loop-copy-preserved g c =
    let d = desk_of c.args.desk.now in
    let step : c.loop-copy.copy-iterator ≡ c.in-Some.copy ∷ c.next.new.self = search rules in (
      λ rest. c.take.ensures (map (copy_row d) c.next.new.self ++ rest)
          ∙ ap (λ (s : CopyState). with_rest c.loop-copy.page c.loop-copy.others
          (Copy c.in-Some.copy s ∷ (map (copy_row d) c.next.new.self ++ rest))) c.copy-state.ensures.state
          ∙ ap (λ (cs : List ℕ). with_rest c.loop-copy.page c.loop-copy.others (map (copy_row d) cs ++ rest))
          (sym step)
          ∙ c.loop-copy.invariant.0 rest,
      All-rest (λ (copy : ℕ). copy < (facts c.args.desk.now).copies) c.in-Some.copy c.next.new.self
          c.loop-copy.copy-iterator step c.loop-copy.invariant.1,
    )
