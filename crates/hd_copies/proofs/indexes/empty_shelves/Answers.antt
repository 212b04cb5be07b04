use Rattle.std.proofs.Common.{refl, arith}
use Rattle.std.proofs.lemmas.Grind.{common_steps}
use Rattle.hd_catalogue.specs.Contents.{facts_of}
use Rattle.hd_copies.proofs.Opening.{none-at, none-more, shelves-home}
use Rattle.hd_copies.proofs.indexes.empty_shelves.Goals as goal

pub loop-init : goal.loop-init
loop-init g c = rw c.in_ok-shelves.ensures.items record { branches = refl; empty = none-at }

pub loop-preserved : goal.loop-preserved
loop-preserved g c = rw c.in_ok-push.ensures.items record {
  branches = grind (arith, common_steps, c.loop.invariant.branches);
  empty = none-more c.loop.shelves.items c.new.result c.loop.invariant.empty c.new.ensures.copies;
}

pub returns : goal.returns
returns g c =
    shelves-home (facts_of c.args.catalogue.now) c.loop.shelves.items
    (omega (arith, c.loop.invariant.branches, c.branches-branches.ensures.count)) c.loop.invariant.empty
