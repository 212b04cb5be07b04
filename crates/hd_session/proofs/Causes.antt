-- Sessions that end, and why.
use Rattle.std.proofs.Common.{◌≡◌, inl, inr, ℕ, Bool, true, false, Option, None, Some, List, length, sym, ap}
use Rattle.std.proofs.Common.{◌∙◌, subst, refl}
use Rattle.std.proofs.lemmas.Option.{none-some}
use Rattle.hd_date.specs.Stamps.{Stamp}
use Rattle.hd_catalogue.specs.Contents.{Contents}
use Rattle.hd_exchange.specs.Deeds.{Deed}
use Rattle.hd_journal.specs.declared.fault.TurnFault.{TurnFault}
use Rattle.hd_journal.specs.declared.fault.TurnFault.TheVariants.{Memory}
use Rattle.hd_session.specs.declared.ended.Ended.{Ended}
use Rattle.hd_session.specs.declared.ended.Ended.TheVariants as end
use Rattle.hd_session.specs.States.{State}
use Rattle.hd_session.specs.Sessions.{Hearing, IsCause, IsFed, IsFedAt, Room}
use Rattle.hd_session.proofs.Feeding.{end_of}

-- a line too long is no turn
no_length : (long : Bool) (f : TurnFault) → end_of long ≡ Some (end.Turn f) → ⊥
no_length true f is = let same : Some end.TooLong ≡ Some (end.Turn f) = is in cc
no_length false f is = none-some (end.Turn f) is

-- A fault that isn't for want of memory, and that the office can't give.
module _ (k : Contents) (seat : ℕ) (faults : TurnFault → Type 0) (f : TurnFault) (other : ¬ (f ≡ Memory))
    (never : ¬ faults f) where
  no_cause : (room : Room) (s : State) (earlier : ℕ) (line : List ℕ) → IsCause k faults room s earlier line f
      → ⊥
  no_cause room s earlier line (inl turn) = never turn.0
  no_cause room s earlier line (inr reply) = other reply.0

  -- the cause of an end
  abbrev CauseOf : Room → State → ℕ → List ℕ → Option Ended → Type 0
  CauseOf room s earlier line (Some (end.Turn why)) = IsCause k faults room s earlier line why
  CauseOf room s earlier line other = ⊥

  pub other_at : (now : Stamp) (e : Option Ended) (room : Room) (piece : List ℕ) (did : List Deed)
      (h h' : Hearing) (text : List ℕ)
      → h.ended ≡ e → IsFedAt k seat faults e now room h piece did h' text → ¬ (h.ended ≡ Some (end.Turn f))
      → ¬ (h'.ended ≡ Some (end.Turn f))
  other_at now (Some why) room piece did h h' text is a not same =
      not (sym (ap (λ (x : Hearing). x.ended) a.1) ∙ same)
  other_at now None room piece did h h' text is (inl a) not same =
      no_length h'.begun.too_long f (sym a.ended ∙ same)
  other_at now None room piece did h h' text is (inr a) not same =
      no_cause room h'.state (length a.before) a.line
      (subst (CauseOf room h'.state (length a.before) a.line) (sym a.ended ∙ same) a.cause)

  -- no session ends by it
  pub fed_other : (now : Stamp) (room : Room) (piece : List ℕ) (did : List Deed) (h h' : Hearing)
      (text : List ℕ)
      → IsFed k seat faults now room h piece did h' text → ¬ (h.ended ≡ Some (end.Turn f))
      → ¬ (h'.ended ≡ Some (end.Turn f))
  fed_other now room piece did h h' text fed not = other_at now h.ended room piece did h h' text refl fed not
