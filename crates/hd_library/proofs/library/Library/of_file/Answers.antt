use Rattle.std.proofs.Common.{rules}
use Rattle.hd_library.proofs.library.Library.of_file.Goals as goal

pub returns : goal.returns
returns c = record { says = search rules; digest = search rules; text = search rules }
