use Rattle.hd_json.proofs.Utf8.{arrays_are_utf8}
use Rattle.hd_json.proofs.laws.arrays_are_utf8.Goals as goal

pub returns : goal.returns
returns c = arrays_are_utf8
