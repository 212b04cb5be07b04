-- What a session logs of the lines that it hears.
use Rattle.std.specs.Prelude.{◌≡◌, ⊤, ℕ, List, [], ◌∷◌, ◌++◌, Option, Some, None, Vec, flat_map}
use Rattle.std.specs.Option.{option_copied}
use Rattle.hd_date.specs.Stamps.{Stamp}
use Rattle.hd_guard.specs.Reading.{Reading, PlainLine, CheckedLine, WrongLine, read_line}
use Rattle.hd_exchange.specs.declared.login.Login.{Login}
use Rattle.hd_field.specs.Streams.{lines_in}
use Rattle.hd_session.specs.States.{State}
use Rattle.hd_session.specs.Sessions.{Hearing}
use Rattle.hd_session.specs.declared.ended.Ended.{Ended}
use Rattle.hd_session.specs.declared.ended.Ended.TheVariants.{Turn}
use Rattle.hd_session.specs.declared.session_log.Answered.{Answered}

-- The answer to a line: the present; the line's body, none where its check number is wrong; the session's login
-- after it; and the reply.
pub record Answer : Type 0 where
  pub present : Stamp
  pub body : Option (List ℕ)
  pub login : Option Login
  pub reply : List ℕ

-- An entry of a log: a line was heard, or answered, or a piece has ended with the beginning of a line.
pub data Entry : Type 0 where
  Heard : (line : List ℕ) → Entry
  Said : (answer : Answer) → Entry
  Unended : (line : List ℕ) → Entry

-- the answer, from Rust's values
abbrev pub answer_shown : Answered → Answer
answer_shown answer = record {
  present = answer.present;
  body = option_copied answer.body;
  login = answer.login;
  reply = answer.reply.now;
}

-- these entries are added to a log that keeps an account
abbrev pub Logs : Option (List Entry) → Option (List Entry) → List Entry → Type 0
Logs None after entries = ⊤
Logs (Some before) None entries = ⊥
Logs (Some before) (Some after) entries = after ≡ before ++ entries

-- the lines that some entries have, and the replies, one after the other
abbrev pub line_of : Entry → List (List ℕ)
line_of (Heard line) = line ∷ []
line_of entry = []

abbrev pub reply_of : Entry → List ℕ
reply_of (Said answer) = answer.reply
reply_of entry = []

abbrev pub heard_in : List Entry → List (List ℕ)
heard_in entries = flat_map line_of entries

abbrev pub said_in : List Entry → List ℕ
said_in entries = flat_map reply_of entries

-- the body of a line by its trailer
abbrev pub body_of : Reading → Option (List ℕ)
body_of (PlainLine body) = Some body
body_of (CheckedLine body digit) = Some body
body_of WrongLine = None

-- the entries of a line that is answered with this text at a present: it was heard, and, unless it is empty,
-- answered by a session that is then in this state
abbrev pub entries_of : Stamp → List ℕ → State → List ℕ → List Entry
entries_of now [] next text = Heard [] ∷ []
entries_of now (byte ∷ bytes) next text =
    Heard (byte ∷ bytes)
    ∷ Said (record {
      present = now;
      body = body_of (read_line (byte ∷ bytes));
      login = next.login;
      reply = text;
    })
    ∷ []

-- the lines that a session has heard of those of a piece: all, or up to the one at which it ended
abbrev pub AreHeardOf : Option Ended → List (List ℕ) → List (List ℕ) → Type 0
AreHeardOf (Some (Turn why)) lines heard = (later : List (List ℕ)) × (lines ≡ heard ++ later)
AreHeardOf end lines heard = heard ≡ lines

-- the entry of a line that hasn't ended; none where the session ended at a line
abbrev pub unended_in : Option Ended → List ℕ → List Entry
unended_in (Some (Turn why)) line = []
unended_in end line = Unended line ∷ []

-- What an out and a log are before some lines are answered, and then.
module _ {A : Type 0} (out out' : Vec ℕ A) (log log' : Option (List Entry)) where
  -- A line is logged, with the text that is appended.
  pub record LogsLine (now : Stamp) (line : List ℕ) (next : State) : Type 0 where
    pub text : List ℕ
    pub logged : Logs log log' (entries_of now line next text)
    pub appended : out'.items ≡ out.items ++ said_in (entries_of now line next text)

  -- Some lines are logged, and their replies are what is appended.
  pub record LogsLines (lines : List (List ℕ)) : Type 0 where
    pub entries : List Entry
    pub heard : heard_in entries ≡ lines
    pub logged : Logs log log' entries
    pub appended : out'.items ≡ out.items ++ said_in entries

  -- A piece is logged: its lines, with the replies that are appended, and the line that hasn't ended.
  pub record LogsPiece (h : Hearing) (piece : List ℕ) (h' : Hearing) : Type 0 where
    pub entries : List Entry
    pub heard : AreHeardOf h'.ended (lines_in h.begun piece) (heard_in entries)
    pub logged : Logs log log' (entries ++ unended_in h'.ended h'.begun.text)
    pub appended : out'.items ≡ out.items ++ said_in entries
