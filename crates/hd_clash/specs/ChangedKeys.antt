-- A list of keys, each once.
use Rattle.std.specs.Prelude.{◌↔◌, List, [], ◌∷◌, ◌++◌, if◌then◌else◌}
use Rattle.std.specs.List.{list_any}
use Rattle.hd_rules.specs.Run.{IsAmong}
use Rattle.hd_clash.specs.declared.key.Key.{Key}
use Rattle.hd_clash.specs.Keys.{same_key}

-- no key stands twice
abbrev pub AreDistinct : List Key → Type 0
AreDistinct [] = Unit {0}
AreDistinct (x ∷ xs) = (IsAmong x xs → ⊥) × AreDistinct xs

-- the same keys are in both
abbrev pub HaveSameKeys : List Key → List Key → Type 0
HaveSameKeys xs ys = (x : Key) → IsAmong x xs ↔ IsAmong x ys

-- the keys with one more, where they don't have it
abbrev pub with_key : List Key → Key → List Key
with_key keys x = if list_any (same_key x) keys then keys else keys ++ x ∷ []

-- and with each of these
abbrev pub with_keys : List Key → List Key → List Key
with_keys keys [] = keys
with_keys keys (x ∷ xs) = with_keys (with_key keys x) xs
