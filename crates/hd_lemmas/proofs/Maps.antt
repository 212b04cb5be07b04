-- Std's finite maps from numbers. What a table rests on is proved with it, and handed on here.
-- after an insertion, and after a removal
pub use Rattle.hd_table.proofs.Maps.{get-insert_number, get-remove_number}
-- nothing is to remove where the map has no value
pub use Rattle.hd_table.proofs.Maps.{remove-absent}
