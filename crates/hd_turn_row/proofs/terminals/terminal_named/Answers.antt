use Rattle.std.proofs.Common.{◌≡◌, Some, sym, subst, below_more, arith, rules}
use Rattle.hd_catalogue.specs.Contents.{facts_of, terminal_name}
use Rattle.hd_catalogue.specs.Names.{name_at}
use Rattle.hd_turn_row.proofs.NumberLemmas.{number_known, other_name}
use Rattle.hd_turn_row.proofs.terminals.terminal_named.Goals as goal
use Rattle.hd_lemmas.proofs.Options.{no_number}

pub loop-number-preserved : goal.loop-number-preserved
unfolding terminal_name
loop-number-preserved g c =
    below_more _ _ c.loop-number.invariant (λ found.
    other_name c.args.catalogue.now.terminals c.args.name.now c.terminal_name.result.now c.loop-number.number
    (subst (λ n. name_at c.args.catalogue.now.terminals n ≡ Some c.terminal_name.result.now)
    (search rules) c.terminal_name.ensures.name) (λ same. search rules) found)

pub returns : goal.returns
unfolding facts_of
returns g c =
    sym (no_number _ (λ n found.
    c.loop-number.invariant n
    (omega (arith, number_known c.args.catalogue.now.terminals c.args.name.now n found)) found))
