-- The list of the fields of some bytes, step by step: a bar, a field, and where a value ends.
pub use Rattle.hd_field.proofs.FieldLemmas.{fields_at-bar, fields_at-field, is_bar, value_end_is}
