-- How a reply is closed, and what is sent in place of one.
use Rattle.std.specs.Prelude.{ℕ, Bool, true, false, List, [], ◌∷◌, ◌++◌, Option, None, codes}
use Rattle.hd_guard.specs.Trailer.{with_trailer}
use Rattle.hd_exchange.specs.declared.reply_kind.ReplyKind.{ReplyKind}
use Rattle.hd_exchange.specs.declared.reply_kind.ReplyKind.TheVariants.{Reply, LastReply, SendAgain}

-- a text with the trailer that the reply to a checked line has, and a carriage return (13)
abbrev pub text_and_trailer : Bool → Option ℕ → List ℕ → List ℕ
text_and_trailer true digit text = with_trailer text digit ++ 13 ∷ []
text_and_trailer false digit text = text ++ 13 ∷ []

-- a 96, which never has a sequence digit
abbrev pub send_again : Bool → List ℕ
send_again checked = text_and_trailer checked None (codes "96")

-- the last reply once more; a 96 before any
abbrev pub once_more : Bool → List ℕ → List ℕ
once_more checked [] = send_again checked
once_more checked (byte ∷ bytes) = byte ∷ bytes

-- what is written where this is said: a reply by its text, or else
abbrev pub text_said : List ℕ → Bool → Option ℕ → ReplyKind → List ℕ → List ℕ
text_said last checked digit Reply text = text_and_trailer checked digit text
text_said last checked digit LastReply text = once_more checked last
text_said last checked digit SendAgain text = send_again checked

-- the last reply then; no 96 is one
abbrev pub last_after : List ℕ → Bool → Option ℕ → ReplyKind → List ℕ → List ℕ
last_after last checked digit Reply text = text_and_trailer checked digit text
last_after last checked digit LastReply text = last
last_after last checked digit SendAgain text = last
