-- The texts of replies.
use Rattle.std.specs.Prelude.{ℕ, List, [], ◌∷◌, codes, if◌then◌else◌}
use Rattle.std.specs.List.{concat}
use Rattle.hd_message.specs.CheckinReplies.{checkin_text}
use Rattle.hd_message.specs.Fields.{field_text}
use Rattle.hd_message.specs.HoldReplies.{hold_text}
use Rattle.hd_message.specs.ItemReplies.{item_text}
use Rattle.hd_message.specs.LoanReplies.{checkout_text, renew_text}
use Rattle.hd_message.specs.PatronReplies.{patron_text}
use Rattle.hd_message.specs.SorterReplies.{sorter_item_text, sorter_text}
use Rattle.hd_message.specs.declared.reply.LoginReply.{LoginReply}
use Rattle.hd_message.specs.declared.reply.StatusReply.{StatusReply}
use Rattle.hd_message.specs.declared.reply.Reply.{Reply}
use Rattle.hd_message.specs.declared.reply.Reply.TheVariants.{Login, Status, Checkout, Checkin, Hold, Renew}
use Rattle.hd_message.specs.declared.reply.Reply.TheVariants.{Item, RequestScResend}
use Rattle.hd_message.specs.declared.reply.Reply.TheVariants.{StatusWithPatrons, Patron, Sorter, SorterItem}

-- 94: accepted, refused
abbrev pub login_text : LoginReply → List ℕ
login_text reply = if reply.taken then codes "941" else codes "940"

-- BX: which messages are supported, and the same where patron messages are read
abbrev pub supported : List ℕ
supported = codes "NYYNYYYNNNYNNYYN"

abbrev pub supported_with_patrons : List ℕ
supported_with_patrons = codes "YYYNYYYYYNYNNYYN"

-- 98
abbrev pub status_layout : List ℕ → StatusReply → List (List ℕ)
status_layout messages reply =
    codes "98YYYYNY100003"
    ∷ reply.date.now
    ∷ codes "2.00"
    ∷ field_text (codes "AO") reply.institution.now
    ∷ field_text (codes "BX") messages
    ∷ []

-- a reply, without trailer and carriage return
abbrev pub reply_text : Reply → List ℕ
reply_text (Login reply) = login_text reply
reply_text (Status reply) = concat (status_layout supported reply)
reply_text (Checkout reply) = checkout_text reply
reply_text (Checkin reply) = checkin_text reply
reply_text (Hold reply) = hold_text reply
reply_text (Renew reply) = renew_text reply
reply_text (Item reply) = item_text reply
reply_text RequestScResend = codes "96"
reply_text (StatusWithPatrons reply) = concat (status_layout supported_with_patrons reply)
reply_text (Patron reply) = patron_text reply
reply_text (Sorter reply) = sorter_text reply
reply_text (SorterItem reply) = sorter_item_text reply
