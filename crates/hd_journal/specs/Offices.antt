-- What an office keeps, and a turn that it makes.
use Rattle.std.specs.Prelude.{◌≡◌, ℕ, List, [], ◌∷◌, ◌++◌}
use Rattle.std.specs.Borrow.{GName}
use Rattle.hd_rules.specs.Facts.{Facts}
use Rattle.hd_rules.specs.Journal.{Turn}
use Rattle.hd_rules.specs.Known.{IsKnownTurnReply}
use Rattle.hd_rules.specs.Messages.{turn_with_reply, message_of}
use Rattle.hd_rules.specs.Replies.{IsReplyTo}
use Rattle.hd_rules.specs.declared.ask.Ask.{Ask}
use Rattle.hd_catalogue.specs.Contents.{Contents}
use Rattle.hd_journal.specs.declared.turn.Turn.{Turn as Made}

-- What stays the same of an office: what its catalogue says, the seat that its turns carry, and the borrows
-- that it holds.
pub record Keeps : Type 0 where
  pub contents : Contents
  pub seat : ℕ
  pub borrows : List GName

-- A turn was made of what was asked, after these turns. It has the number of the last turn. Its reply is one to
-- what was asked, and names things of the library.
pub record MakesTurn (k : Facts) (ask : Ask) (old new : List Turn) (last : ℕ) (made : Made) : Type 0 where
  pub turn : new ≡ old ++ turn_with_reply (message_of ask) made.reply ∷ []
  pub number : made.at ≡ last
  pub reply : IsReplyTo ask.asked made.reply
  pub names : IsKnownTurnReply k made.reply
