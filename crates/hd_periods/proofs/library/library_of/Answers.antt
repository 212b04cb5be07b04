use Rattle.std.proofs.Common.{arith, rules}
use Rattle.std.specs.List.{Contains}
use Rattle.hd_periods.specs.Periods.{IsAccounted}
use Rattle.std.proofs.lemmas.List.Elements.{All-contains}
use Rattle.hd_periods.proofs.LastLemmas.{more_within}
use Rattle.hd_periods.proofs.library.library_of.Goals as goal

pub loop-name-preserved : goal.loop-name-preserved
loop-name-preserved c =
    more_within (IsAccounted (Contains c.args.names.now) c.last_complete-last.result) c.args.names.now
    c.loop-name.name-index _ (search rules) c.loop-name.invariant c.in-None.ensures.none

pub returns-clause-library : goal.returns-clause-library
returns-clause-library c = record {
  is_last = c.last_complete-last.ensures;
  later = λ name listed.
      All-contains (IsAccounted (Contains c.args.names.now) c.last_complete-last.result) c.args.names.now name
      (λ k d within. c.loop-name.invariant k d (omega arith) (omega (arith, within))) listed;
}
