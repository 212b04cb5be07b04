use Rattle.hd_rules.specs.Facts.{Facts}
use Rattle.hd_catalogue.specs.Contents.{facts_of}
use Rattle.hd_carry.specs.ByNames.{by_names, IsRenumbering}
use Rattle.hd_carry.specs.WriteOffs.{without_loans}
use Rattle.hd_carry.proofs.Renamed.{is_renumbering}
use Rattle.hd_carry.proofs.WrittenOff.{written_sound, written_known, written_queues}
use Rattle.hd_carry.proofs.Over.{are_carried}
use Rattle.hd_carry.proofs.laws.rows_carry_a_desk_over.Goals as goal

pub returns : goal.returns
returns c old new n listed d queues distinct range sound known its free =
    let k : Facts = facts_of old in
    let names : IsRenumbering k (facts_of new) (by_names old new) = is_renumbering old new distinct in
    are_carried k (facts_of new) (by_names old new) n (without_loans k listed d) queues names.names
    names.known_patron names.new_title
    (written_sound k n listed d sound) (written_known k listed d range known)
    (written_queues k listed d queues its) free
