-- Where the bytes of a name are. No public clause cites this module.
use Rattle.std.specs.Prelude.{ℕ, List}
use Rattle.hd_catalogue.specs.declared.name.Kept.{Kept}
use Rattle.hd_catalogue.specs.declared.name.Kept.TheVariants.{Apart, Within}

-- the bytes, wherever they are
abbrev pub kept_bytes : {A : Type 0} → Kept A → List ℕ
kept_bytes (Within short) = short
kept_bytes (Apart long) = long.value.items
