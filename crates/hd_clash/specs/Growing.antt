-- What is kept of commands, where the catalogue has grown.
use Rattle.std.specs.Prelude.{◌≡◌, List}
use Rattle.hd_rules.specs.declared.commands.Command.{Command}
use Rattle.hd_rules.specs.declared.commands.Survivor.{Survivor}
use Rattle.hd_rules.specs.Facts.{Facts, AreInRange}
use Rattle.hd_rules.specs.Known.{IsKnownAction, IsKnownDesk}
use Rattle.hd_rules.specs.Record.{Record}
use Rattle.hd_rules.specs.Growth.{Grows}
use Rattle.hd_clash.specs.CommandKeys.{keys_of_command}
use Rattle.hd_clash.specs.Records.{AreRecords, EachCommandIsKnown}

-- It stays as it is, under the same keys.
pub record RecordsGrow : Type 0 where
  pub records : (k j : Facts) (ss : List Survivor) (rs : List Record) → Grows k j → AreInRange k →
      IsKnownDesk k k.opening.desk → EachCommandIsKnown k ss → AreRecords k k.opening.desk ss rs →
      AreRecords j j.opening.desk ss rs
  pub keys : (k j : Facts) (command : Command) → Grows k j → IsKnownAction k command.action →
      keys_of_command j command ≡ keys_of_command k command
