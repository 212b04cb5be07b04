-- The reply to a patron message: of its own code, with what the message states, and what a look saw.
use Rattle.std.specs.Prelude.{◌≡◌, List, [], ◌∷◌, None, Some, Result, Ok, Err}
use Rattle.std.specs.Option.{option_copied}
use Rattle.hd_message.specs.declared.patron_kind.PatronKind.{PatronKind}
use Rattle.hd_message.specs.declared.patron_kind.PatronKind.TheVariants as Kinds
use Rattle.hd_message.specs.declared.patron_reply.PasswordValidity.{PasswordValidity}
use Rattle.hd_message.specs.declared.patron_reply.PasswordValidity.TheVariants.{Wrong}
use Rattle.hd_message.specs.declared.patron_reply.PatronInformationOutcome.TheVariants as OfInformation
use Rattle.hd_message.specs.declared.patron_reply.PatronReply.{PatronReply}
use Rattle.hd_message.specs.declared.patron_reply.PatronReply.TheVariants.{Status, Information, SessionEnd}
use Rattle.hd_message.specs.declared.patron_reply.PatronReply.TheVariants.{FeePaid, RenewAll}
use Rattle.hd_message.specs.declared.patron_reply.PatronStatusOutcome.TheVariants as OfStatus
use Rattle.hd_message.specs.declared.patron_reply.RenewAllOutcome.TheVariants as OfRenewAll
use Rattle.hd_patrons.specs.Checks.{language_in}
use Rattle.hd_rules.specs.Desk.{Desk}
use Rattle.hd_rules.specs.Journal.{state_after}
use Rattle.hd_rules.specs.Numbers.{PatronNo}
use Rattle.hd_rules.specs.declared.replies.Refusal.{Refusal}
use Rattle.hd_rules.specs.declared.views.ListItem.{ListItem}
use Rattle.hd_rules.specs.declared.views.PatronView.{PatronView}
use Rattle.hd_catalogue.specs.Contents.{Contents, facts_of}
use Rattle.hd_exchange.specs.Cards.{IsCardReply, IsRenewAllReply}
use Rattle.hd_exchange.specs.Deeds.{Deed, Looked}
use Rattle.hd_exchange.specs.Extensions.{Extensions}
use Rattle.hd_exchange.specs.PatronInformation.{IsInformationReply, IsKnownInformation, items_seen}
use Rattle.hd_exchange.specs.PatronInformation.{look_allowed, view_seen}
use Rattle.hd_exchange.specs.PatronStatus.{IsKnownStatus, IsNotBlocked, IsStatusReply}
use Rattle.hd_exchange.specs.ToldPatrons.{language_told, password_told}
use Rattle.hd_exchange.specs.declared.patron_message.PatronAsk.{PatronAsk}
use Rattle.hd_exchange.specs.declared.patron_message.PatronAsk.TheVariants as ask
use Rattle.hd_exchange.specs.declared.patron_message.PatronLook.{PatronLook}
use Rattle.hd_exchange.specs.declared.patron_message.PatronQuestion.{PatronQuestion}
use Rattle.hd_exchange.specs.declared.patron_message.PatronQuestion.TheVariants as about
use Rattle.hd_exchange.specs.declared.patron_message.PatronValues.{PatronValues}

module _ (k : Contents) (values : PatronValues) where
  -- the reply to a message of this kind that is refused: in the message's language
  abbrev pub IsRefusedPatron : PatronKind → Refusal → PatronReply → Type 0
  IsRefusedPatron Kinds.Status refusal (Status reply) =
      IsStatusReply k values values.language.now reply × (reply.outcome ≡ OfStatus.Refused refusal)
  IsRefusedPatron Kinds.Information refusal (Information reply) =
      IsInformationReply k values values.language.now reply
      × (reply.outcome ≡ OfInformation.Refused refusal)
  IsRefusedPatron Kinds.EndSession refusal (SessionEnd reply) = IsCardReply k values (Some refusal) reply
  IsRefusedPatron Kinds.Block refusal (Status reply) =
      IsStatusReply k values values.language.now reply × (reply.outcome ≡ OfStatus.Refused refusal)
  IsRefusedPatron Kinds.FeePaid refusal (FeePaid reply) = IsCardReply k values (Some refusal) reply
  IsRefusedPatron Kinds.RenewAll refusal (RenewAll reply) =
      IsRenewAllReply k values (OfRenewAll.Refused refusal) reply
  IsRefusedPatron _ _ _ = ⊥

  -- the reply to a question about a patron of whom this view and these items are seen, in the patron's
  -- language; the password is checked so
  module _ (e : Extensions) (p : PatronNo) (check : PasswordValidity) (seen : PatronView)
      (items : List ListItem)
    where
      abbrev pub IsLookReply : PatronQuestion → PatronReply → Type 0
      IsLookReply about.Status (Status reply) =
          IsStatusReply k values (language_told e.patrons p values.language.now) reply
          × IsKnownStatus e.patrons p check seen values reply.outcome
      IsLookReply about.Block (Status reply) =
          IsStatusReply k values (language_told e.patrons p values.language.now) reply
          × IsNotBlocked e.patrons p check seen values reply.outcome
      IsLookReply (about.Information wanted) (Information reply) =
          IsInformationReply k values (language_told e.patrons p values.language.now) reply
          × IsKnownInformation k e.patrons p check seen items wanted values reply.outcome
      IsLookReply about.RenewAll (RenewAll reply) =
          IsRenewAllReply k values (OfRenewAll.NotRenewed seen.charged) reply
      IsLookReply _ _ = ⊥

  -- and where a look saw this desk, which asked what the password allows
  abbrev pub IsReplyOfLook : Extensions → PasswordValidity → PatronLook → Desk → PatronReply → Type 0
  IsReplyOfLook e check made desk reply =
      IsLookReply e made.patron check (view_seen k desk made) (items_seen k desk made) made.question reply

  -- the password of the message is checked before the look
  abbrev pub IsReplyAt : Extensions → PatronLook → Desk → PatronReply → Type 0
  IsReplyAt e look desk reply =
      let check = password_told e.patrons look.patron (option_copied values.password) in
      IsReplyOfLook e check (look_allowed check look) desk reply

  -- To two servers that read these values the password is wrong. Their patrons' files have the same language
  -- of the patron, and their desks the same numbers.
  pub record AreMistaken (look : PatronLook) (e f : Extensions) (desk other : Desk) : Type 0 where
    pub first : password_told e.patrons look.patron (option_copied values.password) ≡ Wrong
    pub second : password_told f.patrons look.patron (option_copied values.password) ≡ Wrong
    pub language : language_in e.patrons look.patron ≡ language_in f.patrons look.patron
    pub view : view_seen k desk look ≡ view_seen k other look

  -- the reply to a message of this kind that asks this, or is refused beforehand: a look was shown the
  -- journal that has just these turns, and nothing else asks anything of the office
  abbrev pub IsPatronReply : Extensions → PatronKind → Result PatronAsk Refusal → List Deed → PatronReply
      → Type 0
  IsPatronReply e kind (Err refusal) [] reply = IsRefusedPatron kind refusal reply
  IsPatronReply e kind (Ok ask.EndSession) [] (SessionEnd reply) = IsCardReply k values None reply
  IsPatronReply e kind (Ok ask.TakePayment) [] (FeePaid reply) = IsCardReply k values None reply
  IsPatronReply e kind (Ok (ask.Look look)) (Looked shown ∷ []) reply =
      IsReplyAt e look (state_after (facts_of k) shown).desk reply
  IsPatronReply _ _ _ _ _ = ⊥
