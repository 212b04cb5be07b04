use Rattle.hd_exchange.proofs.ShortTexts.{short_texts}
use Rattle.hd_exchange.proofs.messages.message_of.Goals as goal

pub patron_message-requires : goal.patron_message-requires
patron_message-requires g c = record {
  short =
      short_texts c.args.catalogue.now c.profile_of.result c.args.body.now c.in-Patron.read
      (c.named_patrons_fit_their_body.ensures.request c.args.body.now)
      (c.named_patrons_fit_their_body.ensures.unreadable c.args.body.now) c.requires.short
      c.in-Patron.ensures;
}
