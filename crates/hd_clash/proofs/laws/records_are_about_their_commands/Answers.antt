use Rattle.hd_clash.proofs.About.{records_about, all_records_about}
use Rattle.hd_clash.proofs.laws.records_are_about_their_commands.Goals as goal

pub returns : goal.returns
returns c =
    record { from_sound = records_about c.rules.ensures; from_opening = all_records_about c.rules.ensures }
