-- The turn that a journal adds.
use Rattle.std.proofs.Common.{◌≡◌, ℕ, List, length, inl, inr, refl, sym, ap, ◌∙◌, subst, ◌∷◌, [], ◌++◌}
use Rattle.hd_rules.specs.Run.{IsAmong}
use Rattle.hd_rules.specs.Turns.{Message}
use Rattle.hd_rules.specs.Journal.{Turn}
use Rattle.hd_rules.specs.Replies.{IsReplyTo}
use Rattle.hd_rules.specs.Known.{IsKnownTurnReply}
use Rattle.hd_rules.specs.Messages.{message_of}
use Rattle.hd_rules.specs.declared.ask.Ask.{Ask}
use Rattle.hd_rules.specs.declared.replies.TurnReply.{TurnReply}
use Rattle.hd_catalogue.specs.Contents.{Contents, facts_of}
use Rattle.hd_journal.specs.Books.{Book, AddsTurn, IsLegalBook, next_turn}
use Rattle.hd_journal.specs.Offices.{MakesTurn}
use Rattle.hd_journal.specs.declared.turn.Turn.{Turn as Made}

-- the last turn is one of them
among_last : (turn : Turn) (turns : List Turn) → IsAmong turn (turns ++ turn ∷ [])
among_last turn [] = inl refl
among_last turn (first ∷ turns) = inr (among_last turn turns)

module _ (old new : Book) (seat : ℕ) (m : Message) (made : Made) (adds : AddsTurn old new seat m made) where
  -- the turns with it at their end
  turns_grow : new.turns ≡ old.turns ++ record { seat = seat; message = m; reply = made.reply } ∷ []
  turns_grow =
      adds.turns
      ∙ ap (λ (reply : TurnReply). old.turns ++ record { seat = seat; message = m; reply = reply } ∷ [])
      (sym adds.reply)

  -- it is one of them
  among_new : IsAmong (next_turn old seat m) new.turns
  among_new =
      subst (λ (turns : List Turn). IsAmong (next_turn old seat m) turns) (sym adds.turns)
      (among_last (next_turn old seat m) old.turns)

  -- its reply is one to its message
  reply_fits : IsLegalBook new.contents new.turns → IsReplyTo m.asked made.reply
  reply_fits legal = subst (IsReplyTo m.asked) (sym adds.reply)
      (legal.replies (next_turn old seat m) among_new)

  -- and names things of the catalogue
  reply_known : IsLegalBook new.contents new.turns → IsKnownTurnReply (facts_of old.contents) made.reply
  reply_known legal =
      subst (λ (k : Contents). IsKnownTurnReply (facts_of k) made.reply) adds.contents
      (subst (IsKnownTurnReply (facts_of new.contents)) (sym adds.reply)
      (legal.known.replies (next_turn old seat m) among_new))

-- an office's turn
pub makes_turn : (old new : Book) (ask : Ask) (made : Made)
    → AddsTurn old new (message_of ask).seat (message_of ask).message made → IsLegalBook new.contents new.turns
    → MakesTurn (facts_of old.contents) ask old.turns new.turns (length new.turns) made
makes_turn old new ask made adds legal = record {
  turn = turns_grow old new (message_of ask).seat (message_of ask).message made adds;
  number = adds.number;
  reply = reply_fits old new (message_of ask).seat (message_of ask).message made adds legal;
  names = reply_known old new (message_of ask).seat (message_of ask).message made adds legal;
}
