use Rattle.hd_rules.specs.Facts.{Facts}
use Rattle.hd_catalogue.specs.Contents.{facts_of}
use Rattle.hd_carry.specs.ByNames.{by_names, IsRenumbering}
use Rattle.hd_carry.specs.WriteOffs.{without_loans}
use Rattle.hd_carry.proofs.Renamed.{is_renumbering}
use Rattle.hd_carry.proofs.WrittenOff.{written_queues}
use Rattle.hd_carry.proofs.Real.{nothing_is_in_the_way}
use Rattle.hd_carry.proofs.laws.obstacles_are_real.Goals as goal

pub returns : goal.returns
returns c old new listed d e queues distinct its over =
    let k : Facts = facts_of old in
    let names : IsRenumbering k (facts_of new) (by_names old new) = is_renumbering old new distinct in
    nothing_is_in_the_way k (facts_of new) (by_names old new) (without_loans k listed d) e names.names over
    queues
    (written_queues k listed d queues its)
