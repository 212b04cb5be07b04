-- The laws of trailers.
use Rattle.std.specs.Prelude.{◌≡◌, ◌↔◌, ℕ, ◌<◌, List, ◌++◌, Option, None, Some, IfNone, IfSome}
use Rattle.hd_guard.specs.Check.{IsRight, check_number}
use Rattle.hd_guard.specs.Reading.{IsGuarded, Reading}
use Rattle.hd_guard.specs.Sequence.{EndsInSequence, sequence}
use Rattle.hd_guard.specs.Trailer.{IsChecked, with_trailer}

-- just one number of 16 bits is right for some bytes
abbrev pub OneNumberIsRight : Type 0
OneNumberIsRight =
    (bytes : List ℕ)
    → IsRight bytes (check_number bytes) × ((n : ℕ) → n < 65536 → IsRight bytes n → n ≡ check_number bytes)

-- A sealed body is read back as it was, with its digit, exactly where
-- a digit is given or the body doesn't itself end in the text of one.
abbrev pub SealedIsReadBack : Type 0
SealedIsReadBack =
    (body : List ℕ) (seq : Option ℕ) → IfSome seq (λ d. d < 10)
    → IsChecked (with_trailer body seq) body seq ↔ IfNone seq (¬ EndsInSequence body)

-- A body that ends in the text of a digit and is sealed with none is read as the rest of it, with that digit.
abbrev pub OwnDigitIsRead : Type 0
OwnDigitIsRead =
    (front : List ℕ) (d : ℕ) → d < 10 →
    IsChecked (with_trailer (front ++ sequence (Some d)) None) front (Some d)

-- Of one line one reading holds: one kind, one body and one digit.
abbrev pub OneReadingHolds : Type 0
OneReadingHolds = (line : List ℕ) (a b : Reading) → IsGuarded line a → IsGuarded line b → a ≡ b
