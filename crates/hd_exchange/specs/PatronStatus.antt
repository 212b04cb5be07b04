-- The replies that report whether a patron may borrow (24): to questions about it (23), and to wishes to
-- block a card (01), which are never done.
use Rattle.std.specs.Prelude.{◌≡◌, ℕ, List, Option}
use Rattle.hd_message.specs.declared.patron_reply.PasswordValidity.{PasswordValidity}
use Rattle.hd_message.specs.declared.patron_reply.PatronStatusOutcome.{PatronStatusOutcome}
use Rattle.hd_message.specs.declared.patron_reply.PatronStatusOutcome.TheVariants as OfStatus
use Rattle.hd_message.specs.declared.patron_reply.PatronStatusReply.{PatronStatusReply}
use Rattle.hd_patrons.specs.Stored.{Stored}
use Rattle.hd_rules.specs.Numbers.{PatronNo}
use Rattle.hd_rules.specs.declared.views.PatronView.{PatronView}
use Rattle.hd_catalogue.specs.Contents.{Contents}
use Rattle.hd_exchange.specs.ToldPatrons.{IsToldOf}
use Rattle.hd_exchange.specs.declared.patron_message.PatronValues.{PatronValues}

-- The reply, in this language, to a message with these values.
pub record IsStatusReply (k : Contents) (values : PatronValues) (spoken : List ℕ)
    (reply : PatronStatusReply) : Type 0 where
  pub language : reply.language.now ≡ spoken
  pub date : reply.date.now ≡ values.date
  pub institution : reply.institution.now ≡ k.institution
  pub patron : reply.patron.now ≡ values.patron.now

module _ (file : Option Stored) (p : PatronNo) (check : PasswordValidity) (view : PatronView)
    (values : PatronValues)
  where
    -- what is reported of a patron who is asked about
    abbrev pub IsKnownStatus : PatronStatusOutcome → Type 0
    IsKnownStatus (OfStatus.Known known) = IsToldOf file p check view values.patron.now known
    IsKnownStatus _ = ⊥

    -- and of one whose card was to be blocked
    abbrev pub IsNotBlocked : PatronStatusOutcome → Type 0
    IsNotBlocked (OfStatus.NotBlocked known) = IsToldOf file p check view values.patron.now known
    IsNotBlocked _ = ⊥
