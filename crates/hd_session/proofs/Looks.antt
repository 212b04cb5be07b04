-- Sessions keep their extensions, and look only where patron messages are on.
use Rattle.std.proofs.Common.{◌≡◌, inl, inr, ℕ, false, Option, None, Some, List, [], ◌∷◌, set, sym, ap, ◌∙◌}
use Rattle.std.proofs.Common.{subst}
use Rattle.hd_date.specs.Stamps.{Stamp}
use Rattle.hd_guard.specs.Reading.{Reading, CheckedLine, PlainLine, WrongLine, read_line}
use Rattle.hd_catalogue.specs.Contents.{Contents}
use Rattle.hd_field.specs.Streams.{lines_in}
use Rattle.hd_exchange.specs.Answers.{IsAnswer}
use Rattle.hd_exchange.specs.Deeds.{AreTurns, Deed}
use Rattle.hd_exchange.specs.Extensions.{Extensions}
use Rattle.hd_exchange.specs.declared.login.Login.{Login}
use Rattle.hd_exchange.specs.declared.reply_kind.ReplyKind.{ReplyKind}
use Rattle.hd_journal.specs.declared.fault.TurnFault.{TurnFault}
use Rattle.hd_session.specs.Scripts.{AreFed, Event, HaveNoPatronMessages, Step, deeds_of, session_at}
use Rattle.hd_session.specs.Sessions.{AreHeard, Hearing, IsFed, IsFedAt, Room, any_room}
use Rattle.hd_session.specs.States.{IsHeard, IsReadAndAnswered, State, line_with}
use Rattle.hd_session.specs.declared.ended.Ended.{Ended}
use Rattle.hd_session.proofs.Deeds.{are_turns_append}
use Rattle.hd_session.proofs.Knowing.{each_goes_on}

-- patron messages are off
abbrev pub IsOff : State → Type 0
IsOff s = s.extensions.profile.patron_messages ≡ false

off_again : (s next : State) → next.extensions ≡ s.extensions → IsOff s → IsOff next
off_again s next same off = ap (λ (e : Extensions). e.profile.patron_messages) same ∙ off

module _ (k : Contents) (seat : ℕ) where
  module _ (now : Stamp) where
    -- a line leaves the extensions as they are
    read_stays : (s : State) (line : List ℕ) (reading : Reading) (did : List Deed) (next : State)
        (text : List ℕ)
        → IsReadAndAnswered k seat now s line reading did next text → next.extensions ≡ s.extensions
    read_stays s line (PlainLine body) did next text a = a.extensions_stay
    read_stays s line (CheckedLine body digit) did next text a = a.extensions_stay
    read_stays s line WrongLine did next text a = ap (λ (x : State). x.extensions) a.1

    line_stays : (s : State) (line : List ℕ) (did : List Deed) (next : State) (text : List ℕ)
        → IsHeard k seat now s line did next text → next.extensions ≡ s.extensions
    line_stays s [] did next text a = ap (λ (x : State). x.extensions) a.1
    line_stays s (byte ∷ bytes) did next text a =
        read_stays s (byte ∷ bytes) (read_line (byte ∷ bytes)) did next text a

    lines_stay : (lines : List (List ℕ)) (s : State) (did : List Deed) (next : State) (text : List ℕ)
        → AreHeard k seat now lines s did next text → next.extensions ≡ s.extensions
    lines_stay [] s did next text a = ap (λ (x : State). x.extensions) a.1
    lines_stay (line ∷ lines) s did next text a =
        lines_stay lines a.between a.then_did next a.then_text a.rest
        ∙ line_stays s line a.first_did a.between a.first_text a.first

  module _ (faults : TurnFault → Type 0) where
    -- and so does a piece
    fed_stays_at : (e : Option Ended) (now : Stamp) (room : Room) (piece : List ℕ) (did : List Deed)
        (h h' : Hearing) (text : List ℕ)
        → IsFedAt k seat faults e now room h piece did h' text → h'.state.extensions ≡ h.state.extensions
    fed_stays_at (Some why) now room piece did h h' text a = ap (λ (x : Hearing). x.state.extensions) a.1
    fed_stays_at None now room piece did h h' text (inl a) =
        lines_stay now (lines_in h.begun piece) h.state did h'.state text a.heard
    fed_stays_at None now room piece did h h' text (inr a) =
        lines_stay now a.before h.state did h'.state text a.heard

    pub fed_stays : (now : Stamp) (room : Room) (piece : List ℕ) (did : List Deed) (h h' : Hearing)
        (text : List ℕ)
        → IsFed k seat faults now room h piece did h' text → h'.state.extensions ≡ h.state.extensions
    fed_stays now room piece did h h' text a = fed_stays_at h.ended now room piece did h h' text a

-- Where patron messages are off, no body is answered by a look.
module _ (only : (k : Contents) (e : Extensions) (seat : ℕ) (now : Stamp) (login : Option Login)
    (line : Option (List ℕ)) (body : List ℕ)
    (says : ReplyKind) (text : List ℕ) (did : List Deed) (next : Option Login) → e.profile.patron_messages
    ≡ false
    → IsAnswer k e seat now login line body says text did next → AreTurns did) (k : Contents) (seat : ℕ) where
  -- nothing is done
  nothing_done : (did : List Deed) → did ≡ [] → AreTurns did
  nothing_done did none = subst (λ (d : List Deed). AreTurns d) (sym none) tt

  module _ (now : Stamp) where
    read_turns : (s : State) (line : List ℕ) (reading : Reading) (did : List Deed) (next : State)
        (text : List ℕ) → IsOff s
        → IsReadAndAnswered k seat now s line reading did next text → AreTurns did
    read_turns s line (PlainLine body) did next text off a =
        only k s.extensions seat now s.login (line_with None line) body a.says a.reply did next.login off
        a.answer
    read_turns s line (CheckedLine body digit) did next text off a =
        only k s.extensions seat now s.login (line_with digit line) body a.says a.reply did next.login off
        a.answer
    read_turns s line WrongLine did next text off a = nothing_done did a.0

    line_turns : (s : State) (line : List ℕ) (did : List Deed) (next : State) (text : List ℕ) → IsOff s
        → IsHeard k seat now s line did next text → AreTurns did
    line_turns s [] did next text off a = nothing_done did a.0
    line_turns s (byte ∷ bytes) did next text off a =
        read_turns s (byte ∷ bytes) (read_line (byte ∷ bytes)) did next text off a

    lines_turns : (lines : List (List ℕ)) (s : State) (did : List Deed) (next : State) (text : List ℕ)
        → IsOff s
        → AreHeard k seat now lines s did next text → AreTurns did
    lines_turns [] s did next text off a = nothing_done did a.0
    lines_turns (line ∷ lines) s did next text off a =
        let still = off_again s a.between
        (line_stays k seat now s line a.first_did a.between a.first_text a.first) off in
        subst (λ (d : List Deed). AreTurns d) (sym a.all_did)
        (are_turns_append a.first_did a.then_did
        (line_turns s line a.first_did a.between a.first_text off a.first)
        (lines_turns lines a.between a.then_did next a.then_text still a.rest))

  module _ (faults : TurnFault → Type 0) where
    fed_turns_at : (e : Option Ended) (now : Stamp) (room : Room) (piece : List ℕ) (did : List Deed)
        (h h' : Hearing) (text : List ℕ)
        → IsOff h.state → IsFedAt k seat faults e now room h piece did h' text → AreTurns did
    fed_turns_at (Some why) now room piece did h h' text off a = nothing_done did a.0
    fed_turns_at None now room piece did h h' text off (inl a) =
        lines_turns now (lines_in h.begun piece) h.state did h'.state text off a.heard
    fed_turns_at None now room piece did h h' text off (inr a) =
        lines_turns now a.before h.state did h'.state text off a.heard

    -- nor is a piece
    pub fed_turns : (now : Stamp) (room : Room) (piece : List ℕ) (did : List Deed) (h h' : Hearing)
        (text : List ℕ) → IsOff h.state
        → IsFed k seat faults now room h piece did h' text → AreTurns did
    fed_turns now room piece did h h' text off a = fed_turns_at h.ended now room piece did h h' text off a

    -- nor those of a script
    pub script_turns : (steps : List Step) (ss ss' : List Hearing) (events : List Event)
        → HaveNoPatronMessages ss
        → AreFed k seat faults steps ss events ss' → AreTurns (deeds_of events) × HaveNoPatronMessages ss'
    script_turns [] ss ss' events off (none, same) = (
      subst (λ (es : List Event). AreTurns (deeds_of es)) (sym none) tt,
      subst (λ (s : List Hearing). HaveNoPatronMessages s) (sym same) off,
    )
    script_turns (step ∷ steps) ss ss' [] off none = absurd none
    script_turns (step ∷ steps) ss ss' (event ∷ events) off first =
        let h = session_at ss step.session in
        let stays = fed_stays k seat faults step.piece.now any_room step.piece.bytes event.did h first.next
        event.text first.fed in
        let still : IsOff first.next.state = off_again h.state first.next.state stays (off step.session) in
        let rest = script_turns steps (set ss step.session first.next) ss' events
        (each_goes_on (λ (x : Hearing). IsOff x.state) ss step.session first.next off still) first.rest in
        let here = fed_turns step.piece.now any_room step.piece.bytes event.did h first.next event.text
        (off step.session) first.fed in
        (are_turns_append event.did (deeds_of events) here rest.0, rest.1)
