use Rattle.hd_rules.specs.Facts.{Facts}
use Rattle.hd_catalogue.specs.Contents.{facts_of}
use Rattle.hd_carry.specs.ByNames.{by_names}
use Rattle.hd_carry.specs.WriteOffs.{without_loans}
use Rattle.hd_carry.proofs.WrittenOff.{written_named, written_queues}
use Rattle.hd_carry.proofs.Exact.{told_exactly}
use Rattle.hd_carry.proofs.laws.obstacles_are_exact.Goals as goal

pub returns : goal.returns
returns c old new last listed d queues named its obstacle =
    let k : Facts = facts_of old in
    told_exactly k (facts_of new) (by_names old new) (without_loans k listed d) last queues
    (written_queues k listed d queues its)
    (written_named k listed d named) obstacle
