use Rattle.hd_clash.proofs.Growing.{records_grow, keys_grow}
use Rattle.hd_clash.proofs.laws.records_grow.Goals as goal

pub returns : goal.returns
returns c = record { records = records_grow; keys = keys_grow }
