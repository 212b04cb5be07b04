-- What is printed of a script's events.
use Rattle.std.specs.Prelude.{◌≡◌, ℕ, ◌+◌, List, [], ◌∷◌, ◌++◌, Option, Some, Result, Ok, Err}
use Rattle.std.specs.Prelude.{codes}
use Rattle.std.specs.Prelude.{decimal, flat_map}
use Rattle.hd_session.specs.Scripts.{Event}
use Rattle.hd_session.specs.declared.ended.Ended.{Ended}
use Rattle.hd_session.specs.declared.ended.Ended.TheVariants.{TooLong}
use Rattle.hd_replay.specs.Inputs.{AreLines}

-- a line that is printed: the number of a session, a blank (32), a text, and a line feed (10)
abbrev pub printed_line : ℕ → List ℕ → List ℕ
printed_line number text = decimal number ++ 32 ∷ (text ++ 10 ∷ [])

-- that a session has ended, where a line too long has ended it; another end stops the replay instead
abbrev pub end_text : ℕ → Option Ended → List ℕ
end_text number (Some TooLong) = printed_line number (codes "ENDED")
end_text number end = []

-- Of an event each reply is printed, without its carriage return (13), and that its session has ended.
-- Sessions are counted from 0, and numbered from 1.
pub record IsEventText (event : Event) (text : List ℕ) : Type 0 where
  pub replies : List (List ℕ)
  pub rest : List ℕ
  pub parts : AreLines 13 event.text replies rest
  pub spelled : text
      ≡ flat_map (printed_line (event.session + 1)) replies ++ end_text (event.session + 1) event.ended

-- what is printed of some events, in order
abbrev pub ArePrinted : List Event → List ℕ → Type 0
ArePrinted [] text = text ≡ []
ArePrinted (event ∷ events) text =
    (first : List ℕ) × (rest : List ℕ)
    × IsEventText event first × ArePrinted events rest × (text ≡ first ++ rest)

-- a text begins so
abbrev pub BeginsWith : List ℕ → List ℕ → Type 0
BeginsWith text part = (rest : List ℕ) × (text ≡ part ++ rest)

-- a text is printed behind what there is: whole, or up to some point where it is out of memory
abbrev pub PrintsBehind : {E : Type 0} → List ℕ → List ℕ → List ℕ → Result (Unit {0}) E → Type 0
PrintsBehind out out' text (Ok _) = out' ≡ out ++ text
PrintsBehind out out' text (Err _) = (part : List ℕ) × BeginsWith text part × (out' ≡ out ++ part)
