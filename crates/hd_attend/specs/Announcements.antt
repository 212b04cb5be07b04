-- Turns that are announced.
use Rattle.std.specs.Prelude.{◌≡◌, ℕ, ◌<◌, ◌≤◌, Bool, true}

-- each turn up to the nth was announced, none left out
abbrev pub AreAnnounced : (ℕ → Bool) → ℕ → Type 0
AreAnnounced is_announced n = (k : ℕ) → 0 < k → k ≤ n → is_announced k ≡ true
