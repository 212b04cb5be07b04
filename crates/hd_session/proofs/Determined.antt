-- What is written in a script is determined by its pieces.
use Rattle.std.proofs.Common.{◌≡◌, inl, inr, ℕ, zero, Bool, true, false, Option, None, Some, List, [], ◌∷◌}
use Rattle.std.proofs.Common.{◌++◌, All, length, drop}
use Rattle.std.proofs.Common.{arith, refl, sym, ap, ap₂, ◌∙◌, subst, append_assoc, set}
use Rattle.std.proofs.lemmas.Option.{none-some, same_Some}
use Rattle.hd_date.specs.Stamps.{Stamp}
use Rattle.hd_field.specs.Streams.{Begun, lines_in}
use Rattle.hd_guard.specs.Reading.{Reading, CheckedLine, PlainLine, WrongLine, read_line}
use Rattle.hd_rules.specs.Facts.{Facts}
use Rattle.hd_rules.specs.Journal.{IsLegal, IsLegalFrom, Turn, state_from}
use Rattle.hd_rules.specs.Turns.{Message, State, start}
use Rattle.hd_rules.specs.Machine.{turn_of}
use Rattle.hd_rules.specs.declared.replies.TurnReply.{TurnReply}
use Rattle.hd_catalogue.specs.Contents.{Contents, facts_of}
use Rattle.hd_rules.specs.Messages.{SeatMessage}
use Rattle.hd_exchange.specs.Answers.{IsAnswer}
use Rattle.hd_exchange.specs.Deeds.{AreShown, AreTurns, Deed, Made, Looked, message_for, messages_of}
use Rattle.hd_exchange.specs.Deeds.{turns_in}
use Rattle.hd_exchange.specs.Extensions.{Extensions}
use Rattle.hd_journal.specs.Books.{Book}
use Rattle.hd_journal.specs.declared.fault.TurnFault.{TurnFault}
use Rattle.hd_exchange.specs.declared.login.Login.{Login}
use Rattle.hd_exchange.specs.declared.reply_kind.ReplyKind.{ReplyKind}
use Rattle.hd_session.specs.Endings.{EndsWell}
use Rattle.hd_session.specs.Scripts.{AreFed, Event, HaveNoPatronMessages, ShowsTheSame, Step, deeds_of}
use Rattle.hd_session.specs.Scripts.{session_at, turns_of}
use Rattle.hd_session.specs.Sessions.{AreHeard, Hearing, IsFedAt, any_room}
use Rattle.hd_session.specs.States.{IsAnswered, IsHeard, IsReadAndAnswered, State as SessionState, line_with}
use Rattle.hd_session.specs.Trailers.{last_after, text_said}
use Rattle.hd_session.specs.declared.ended.Ended.{Ended}
use Rattle.hd_session.specs.declared.ended.Ended.TheVariants as end
use Rattle.hd_session.proofs.Deeds.{none_shown, shown_before, shown_behind, turns_append}
use Rattle.hd_session.proofs.Feeding.{end_of}
use Rattle.hd_session.proofs.Looks.{script_turns}
use Rattle.hd_session.proofs.Strangers.{all_behind}

-- the first of some legal turns
legal_before : (k : Facts) (s : State) (turns more : List Turn) → IsLegalFrom k s (turns ++ more)
    → IsLegalFrom k s turns
legal_before k s [] more legal = tt
legal_before k s (turn ∷ turns) more legal =
    (legal.0, legal_before k (turn_of k s turn.message).state turns more legal.1)

-- and those behind them
legal_behind : (k : Facts) (s : State) (turns more : List Turn) → IsLegalFrom k s (turns ++ more)
    → IsLegalFrom k (state_from k s turns) more
legal_behind k s [] more legal = legal
legal_behind k s (turn ∷ turns) more legal =
    legal_behind k (turn_of k s turn.message).state turns more legal.1

-- turns of the same values
same_turn : (a b : Turn) → a.seat ≡ b.seat → a.message ≡ b.message → a.reply ≡ b.reply → a ≡ b
same_turn a b seat message reply =
    ap (λ (s : ℕ). let t : Turn = record { seat = s; message = a.message; reply = a.reply } in t) seat
    ∙ (ap (λ (m : Message). let t : Turn = record { seat = b.seat; message = m; reply = a.reply } in t)
    message
    ∙ ap (λ (r : TurnReply). let t : Turn = record { seat = b.seat; message = b.message; reply = r } in t)
    reply)

-- the first of some messages, where it is a turn's
first_of : Option SeatMessage → List (Option SeatMessage) → Option SeatMessage
first_of m [] = m
first_of m (first ∷ rest) = first

-- Of a library, at an office that may show a look these journals after some turns.
module _ (k : Contents) (shows : List Turn → Book → Type 0) where
  -- legal turns, and looks that are shown what may be shown
  abbrev pub Fits : State → List Turn → List Deed → Type 0
  Fits at turns did = IsLegalFrom (facts_of k) at (turns_in did) × AreShown k shows turns did

  -- the first of them
  fits_before : (at : State) (turns : List Turn) (did more : List Deed) → Fits at turns (did ++ more)
      → Fits at turns did
  fits_before at turns did more fits = (
    legal_before (facts_of k) at (turns_in did) (turns_in more)
        (subst (λ (t : List Turn). IsLegalFrom (facts_of k) at t) (turns_append did more) fits.0),
    shown_before k shows turns did more fits.1,
  )

  -- and those behind
  fits_behind : (at : State) (turns : List Turn) (did more : List Deed) → Fits at turns (did ++ more)
      → Fits (state_from (facts_of k) at (turns_in did)) (turns ++ turns_in did) more
  fits_behind at turns did more fits = (
    legal_behind (facts_of k) at (turns_in did) (turns_in more)
        (subst (λ (t : List Turn). IsLegalFrom (facts_of k) at t) (turns_append did more) fits.0),
    shown_behind k shows turns did more fits.1,
  )

  module _ (one : ShowsTheSame shows) where
    -- where it shows the same after the same turns, deeds are told by what is asked
    one_done : (at : State) (turns : List Turn) (xs ys : List Deed) → Fits at turns xs → Fits at turns ys
        → messages_of xs ≡ messages_of ys → xs ≡ ys
    unfolding first_of
    one_done at turns [] [] p q same = refl
    one_done at turns [] (y ∷ ys) p q same =
        absurd (omega (arith, ap (λ (l : List (Option SeatMessage)). length l) same))
    one_done at turns (x ∷ xs) [] p q same =
        absurd (omega (arith, ap (λ (l : List (Option SeatMessage)). length l) same))
    one_done at turns (Made x ∷ xs) (Made y ∷ ys) p q same =
        let asked : SeatMessage = record { seat = x.seat; message = x.message } in
        let is : Some asked ≡ message_for (Made y) =
        ap (λ (l : List (Option SeatMessage)). first_of (Some asked) l) same in
        let so : asked ≡ record { seat = y.seat; message = y.message } = same_Some _ _ is in
        let seat : x.seat ≡ y.seat = ap (λ (m : SeatMessage). m.seat) so in
        let message : x.message ≡ y.message = ap (λ (m : SeatMessage). m.message) so in
        let later : messages_of xs ≡ messages_of ys = ap (λ (l : List (Option SeatMessage)). drop 1 l) same in
        let reply : x.reply ≡ y.reply = p.0.0
        ∙ (ap (λ (m : Message). (turn_of (facts_of k) at m).reply) message ∙ sym q.0.0) in
        let first : x ≡ y = same_turn x y seat message reply in
        let legal : IsLegalFrom (facts_of k) (turn_of (facts_of k) at x.message).state (turns_in ys) =
        subst (λ (m : Message). IsLegalFrom (facts_of k) (turn_of (facts_of k) at m).state (turns_in ys))
        (sym message) q.0.1 in
        let shown : AreShown k shows (turns ++ x ∷ []) ys =
        subst (λ (t : Turn). AreShown k shows (turns ++ t ∷ []) ys) (sym first) q.1 in
        ap₂ (λ (t : Turn) (did : List Deed). Made t ∷ did) first
        (one_done (turn_of (facts_of k) at x.message).state (turns ++ x ∷ []) xs ys (p.0.1, p.1)
        (legal, shown) later)
    one_done at turns (Made x ∷ xs) (Looked y ∷ ys) p q same =
        let asked : SeatMessage = record { seat = x.seat; message = x.message } in
        absurd (none-some asked (sym (ap (λ (l : List (Option SeatMessage)). first_of (Some asked) l) same)))
    one_done at turns (Looked x ∷ xs) (Made y ∷ ys) p q same =
        let asked : SeatMessage = record { seat = y.seat; message = y.message } in
        absurd (none-some asked (ap (λ (l : List (Option SeatMessage)). first_of (Some asked) l) same))
    one_done at turns (Looked x ∷ xs) (Looked y ∷ ys) p q same =
        let first : x ≡ y =
        sym p.1.0.turns_are ∙ (one turns p.1.0.book q.1.0.book p.1.0.may_show q.1.0.may_show
        ∙ q.1.0.turns_are) in
        let later : messages_of xs ≡ messages_of ys = ap (λ (l : List (Option SeatMessage)). drop 1 l) same in
        ap₂ (λ (t : List Turn) (did : List Deed). Looked t ∷ did) first
        (one_done at turns xs ys (p.0, p.1.1) (q.0, q.1.1) later)

-- where a session stands, by its values
same_state : (a b : SessionState) → a.extensions ≡ b.extensions → a.login ≡ b.login → a.last ≡ b.last
    → a.digit ≡ b.digit
    → a.gaps ≡ b.gaps → a ≡ b
same_state a b on login last digit gaps =
    ap (λ (e : Extensions). let s : SessionState =
    record { extensions = e; login = a.login; last = a.last; digit = a.digit; gaps = a.gaps } in s) on
    ∙ (ap (λ (p : Option Login). let s : SessionState =
    record { extensions = b.extensions; login = p; last = a.last; digit = a.digit; gaps = a.gaps } in s) login
    ∙ (ap (λ (l : List ℕ). let s : SessionState =
    record { extensions = b.extensions; login = b.login; last = l; digit = a.digit; gaps = a.gaps } in s) last
    ∙ (ap (λ (d : Option ℕ). let s : SessionState =
    record { extensions = b.extensions; login = b.login; last = b.last; digit = d; gaps = a.gaps } in s) digit
    ∙ ap (λ (g : ℕ). let s : SessionState =
    record { extensions = b.extensions; login = b.login; last = b.last; digit = b.digit; gaps = g } in s)
    gaps)))

-- a session, by its values
same_hearing : (a b : Hearing) → a.begun ≡ b.begun → a.state ≡ b.state → a.ended ≡ b.ended → a ≡ b
same_hearing a b begun state ended =
    ap (λ (x : Begun). let h : Hearing = record { begun = x; state = a.state; ended = a.ended } in h) begun
    ∙ (ap (λ (x : SessionState). let h : Hearing = record { begun = b.begun; state = x; ended = a.ended } in
    h) state
    ∙ ap (λ (x : Option Ended). let h : Hearing = record { begun = b.begun; state = b.state; ended = x } in h)
    ended)

-- an event, by its values
same_event : (a b : Event) → a.session ≡ b.session → a.did ≡ b.did → a.text ≡ b.text → a.ended ≡ b.ended → a
    ≡ b
same_event a b session did text ended =
    ap (λ (x : ℕ). let e : Event = record { session = x; did = a.did; text = a.text; ended = a.ended } in e)
    session
    ∙ (ap (λ (x : List Deed). let e : Event =
    record { session = b.session; did = x; text = a.text; ended = a.ended } in e) did
    ∙ (ap (λ (x : List ℕ). let e : Event =
    record { session = b.session; did = b.did; text = x; ended = a.ended } in e) text
    ∙ ap (λ (x : Option Ended). let e : Event =
    record { session = b.session; did = b.did; text = b.text; ended = x } in e) ended))

-- where a line's turn isn't made it doesn't end well
no_turn : (why : TurnFault) → EndsWell (Some (end.Turn why)) → ⊥
no_turn why (inl none) = none-some (end.Turn why) (sym none)
no_turn why (inr long) = let other : Some (end.Turn why) ≡ Some end.TooLong = long in cc

module _ (asks : (k : Contents) (e : Extensions) (seat : ℕ) (now : Stamp) (login : Option Login)
    (line : Option (List ℕ)) (body : List ℕ)
    (says says' : ReplyKind) (text text' : List ℕ) (did did' : List Deed) (next next' : Option Login)
    → IsAnswer k e seat now login line body says text did next
    → IsAnswer k e seat now login line body says' text' did' next'
    → messages_of did ≡ messages_of did')
    (answer : (k : Contents) (e : Extensions) (seat : ℕ) (now : Stamp) (login : Option Login)
    (line : Option (List ℕ)) (body : List ℕ)
    (says says' : ReplyKind) (text text' : List ℕ) (did : List Deed) (next next' : Option Login)
    → IsAnswer k e seat now login line body says text did next
    → IsAnswer k e seat now login line body says' text' did next'
    → (says ≡ says') × (text ≡ text') × (next ≡ next'))
    (k : Contents) (seat : ℕ) where
  module _ (now : Stamp) where
    -- of two answers, both ask the same, and are the same where the same is done
    abbrev AreOne : List Deed → List Deed → SessionState → SessionState → List ℕ → List ℕ → Type 0
    AreOne did did' next next' text text' =
        (messages_of did ≡ messages_of did') × (did ≡ did' → (next ≡ next') × (text ≡ text'))

    one_answered : (s : SessionState) (line body : List ℕ) (checked : Bool) (digit : Option ℕ)
        (did did' : List Deed) (next next' : SessionState)
        (text text' : List ℕ) → IsAnswered k seat now s line body checked digit did next text
        → IsAnswered k seat now s line body checked digit did' next' text'
        → AreOne did did' next next' text text'
    one_answered s line body checked digit did did' next next' text text' p q = (
      asks k s.extensions seat now s.login (line_with digit line) body p.says q.says p.reply q.reply did did'
          next.login next'.login p.answer q.answer,
      λ same.
          let one =
          answer k s.extensions seat now s.login (line_with digit line) body p.says q.says p.reply q.reply did
          next.login next'.login p.answer
          (subst (λ (m : List Deed). IsAnswer k s.extensions seat now s.login (line_with digit line) body
          q.says q.reply m next'.login) (sym same)
          q.answer)
          in (
            same_state next next' (p.extensions_stay ∙ sym q.extensions_stay) one.2
                (p.last ∙ (ap₂ (λ (says : ReplyKind) (reply : List ℕ). last_after s.last checked digit says
                reply) one.0 one.1 ∙ sym q.last))
                (p.digit_is ∙ sym q.digit_is) (p.gaps_are ∙ sym q.gaps_are),
            p.spelled ∙ (ap₂ (λ (says : ReplyKind) (reply : List ℕ). text_said s.last checked digit says
                reply) one.0 one.1 ∙ sym q.spelled),
          ),
    )

    -- where nothing is done and this is answered
    one_unasked : (s : SessionState) (all : List ℕ) (did did' : List Deed) (next next' : SessionState)
        (text text' : List ℕ)
        → (did ≡ []) × (next ≡ s) × (text ≡ all) → (did' ≡ []) × (next' ≡ s) × (text' ≡ all)
        → AreOne did did' next next' text text'
    one_unasked s all did did' next next' text text' p q =
        (ap (λ (t : List Deed). messages_of t) (p.0 ∙ sym q.0), λ same. (p.1 ∙ sym q.1, p.2 ∙ sym q.2))

    one_read : (s : SessionState) (line : List ℕ) (reading : Reading) (did did' : List Deed)
        (next next' : SessionState) (text text' : List ℕ)
        → IsReadAndAnswered k seat now s line reading did next text
        → IsReadAndAnswered k seat now s line reading did' next' text'
        → AreOne did did' next next' text text'
    one_read s line (PlainLine body) did did' next next' text text' p q =
        one_answered s line body false None did did' next next' text text' p q
    one_read s line (CheckedLine body digit) did did' next next' text text' p q =
        one_answered s line body true digit did did' next next' text text' p q
    one_read s line WrongLine did did' next next' text text' p q =
        one_unasked s _ did did' next next' text text' p q

    one_line : (s : SessionState) (line : List ℕ) (did did' : List Deed) (next next' : SessionState)
        (text text' : List ℕ)
        → IsHeard k seat now s line did next text → IsHeard k seat now s line did' next' text'
        → AreOne did did' next next' text text'
    one_line s [] did did' next next' text text' p q = one_unasked s [] did did' next next' text text' p q
    one_line s (byte ∷ bytes) did did' next next' text text' p q =
        one_read s (byte ∷ bytes) (read_line (byte ∷ bytes)) did did' next next' text text' p q

    module _ (shows : List Turn → Book → Type 0) (shows_one : ShowsTheSame shows) where
      -- lines that are answered at a legal journal, with more behind them
      one_hearing : (at : State) (turns : List Turn) (lines : List (List ℕ)) (s : SessionState)
          (did did' : List Deed)
          (next next' : SessionState) (text text' : List ℕ) (more more' : List Deed)
          → Fits k shows at turns (did ++ more) → Fits k shows at turns (did' ++ more')
          → AreHeard k seat now lines s did next text → AreHeard k seat now lines s did' next' text'
          → (did ≡ did') × (next ≡ next') × (text ≡ text')
      one_hearing at turns [] s did did' next next' text text' more more' fits fits' p q =
          (p.0 ∙ sym q.0, p.1 ∙ sym q.1, p.2 ∙ sym q.2)
      one_hearing at turns (line ∷ lines) s did did' next next' text text' more more' fits fits' p q =
          let whole : Fits k shows at turns (p.first_did ++ (p.then_did ++ more)) =
          subst (λ (d : List Deed). Fits k shows at turns d)
          (ap (λ (d : List Deed). d ++ more) p.all_did ∙ append_assoc p.first_did p.then_did more) fits in
          let whole' : Fits k shows at turns (q.first_did ++ (q.then_did ++ more')) =
          subst (λ (d : List Deed). Fits k shows at turns d)
          (ap (λ (d : List Deed). d ++ more') q.all_did ∙ append_assoc q.first_did q.then_did more') fits' in
          let one = one_line s line p.first_did q.first_did p.between q.between p.first_text q.first_text
          p.first q.first in
          let first : p.first_did ≡ q.first_did =
          one_done k shows shows_one at turns p.first_did q.first_did
          (fits_before k shows at turns p.first_did (p.then_did ++ more) whole)
          (fits_before k shows at turns q.first_did (q.then_did ++ more') whole') one.0 in
          let here = one.1 first in
          let behind = fits_behind k shows at turns p.first_did (p.then_did ++ more) whole in
          let behind' : Fits k shows (state_from (facts_of k) at (turns_in p.first_did))
          (turns ++ turns_in p.first_did)
          (q.then_did ++ more') =
          subst (λ (d : List Deed). Fits k shows (state_from (facts_of k) at (turns_in d))
          (turns ++ turns_in d)
          (q.then_did ++ more')) (sym first)
          (fits_behind k shows at turns q.first_did (q.then_did ++ more') whole') in
          let rest =
          one_hearing (state_from (facts_of k) at (turns_in p.first_did)) (turns ++ turns_in p.first_did)
          lines p.between
          p.then_did q.then_did next next' p.then_text q.then_text more more' behind behind' p.rest
          (subst (λ (b : SessionState). AreHeard k seat now lines b q.then_did next' q.then_text) (sym here.0)
          q.rest) in (
            p.all_did ∙ (ap₂ (λ (a b : List Deed). a ++ b) first rest.0 ∙ sym q.all_did),
            rest.1,
            p.all_text ∙ (ap₂ (λ (a b : List ℕ). a ++ b) here.1 rest.2 ∙ sym q.all_text),
          )

  module _ (shows : List Turn → Book → Type 0) (shows_one : ShowsTheSame shows) (faults : TurnFault → Type 0)
    where
      -- a piece that is fed to a session, which ends well
      one_piece : (now : Stamp) (at : State) (turns : List Turn) (before : Option Ended) (h : Hearing)
          (piece : List ℕ) (did did' : List Deed)
          (next next' : Hearing) (text text' : List ℕ) (more more' : List Deed)
          → Fits k shows at turns (did ++ more)
          → Fits k shows at turns (did' ++ more') → EndsWell next.ended → EndsWell next'.ended
          → IsFedAt k seat faults before now any_room h piece did next text
          → IsFedAt k seat faults before now any_room h piece did' next' text'
          → (did ≡ did') × (next ≡ next') × (text ≡ text')
      one_piece now at turns (Some why) h piece did did' next next' text text' more more' fits fits'
          well well' p q =
          (p.0 ∙ sym q.0, p.1 ∙ sym q.1, p.2 ∙ sym q.2)
      one_piece now at turns None h piece did did' next next' text text' more more' fits fits' well well'
          (inl p) (inl q) =
          let one =
          one_hearing now shows shows_one at turns (lines_in h.begun piece) h.state did did' next.state
          next'.state text text' more more'
          fits fits' p.heard q.heard in
          let begun : next.begun ≡ next'.begun = p.begun ∙ sym q.begun in (
            one.0,
            same_hearing next next' begun one.1
                (p.ended ∙ (ap (λ (b : Begun). end_of b.too_long) begun ∙ sym q.ended)),
            one.2,
          )
      one_piece now at turns None h piece did did' next next' text text' more more' fits fits' well
          well' (inr p) q =
          absurd (no_turn p.why (subst EndsWell p.ended well))
      one_piece now at turns None h piece did did' next next' text text' more more' fits fits' well well'
          (inl p) (inr q) =
          absurd (no_turn q.why (subst EndsWell q.ended well'))

      -- steps that are played one after the other
      one_play : (at : State) (turns : List Turn) (steps : List Step) (ss ends ends' : List Hearing)
          (events events' : List Event)
          → Fits k shows at turns (deeds_of events) → Fits k shows at turns (deeds_of events')
          → All (λ event. EndsWell event.ended) events → All (λ event. EndsWell event.ended) events'
          → AreFed k seat faults steps ss events ends → AreFed k seat faults steps ss events' ends'
          → (events ≡ events') × (ends ≡ ends')
      one_play at turns [] ss ends ends' events events' fits fits' well well' p q =
          (p.0 ∙ sym q.0, p.1 ∙ sym q.1)
      one_play at turns (step ∷ steps) ss ends ends' [] events' fits fits' well well' p q = absurd p
      one_play at turns (step ∷ steps) ss ends ends' (event ∷ events) [] fits fits' well well' p q = absurd q
      one_play at turns (step ∷ steps) ss ends ends' (event ∷ events) (event' ∷ events') fits fits'
          well well' p q =
          let good : EndsWell p.next.ended = subst EndsWell p.ended (well zero event (omega arith)) in
          let good' : EndsWell q.next.ended = subst EndsWell q.ended (well' zero event' (omega arith)) in
          let one =
          one_piece step.piece.now at turns (session_at ss step.session).ended (session_at ss step.session)
          step.piece.bytes event.did
          event'.did p.next q.next event.text event'.text (deeds_of events) (deeds_of events') fits fits' good
          good' p.fed q.fed in
          let first : event ≡ event' =
          same_event event event' (p.same ∙ sym q.same) one.0 one.2
          (p.ended ∙ (ap (λ (h : Hearing). h.ended) one.1 ∙ sym q.ended)) in
          let behind' : Fits k shows (state_from (facts_of k) at (turns_in event.did))
          (turns ++ turns_in event.did) (deeds_of events') =
          subst (λ (d : List Deed). Fits k shows (state_from (facts_of k) at (turns_in d))
          (turns ++ turns_in d)
          (deeds_of events'))
          (sym one.0) (fits_behind k shows at turns event'.did (deeds_of events') fits') in
          let rest =
          one_play (state_from (facts_of k) at (turns_in event.did)) (turns ++ turns_in event.did) steps
          (set ss step.session p.next) ends ends'
          events events' (fits_behind k shows at turns event.did (deeds_of events) fits) behind'
          (all_behind (λ (e : Event). EndsWell e.ended) event events well)
          (all_behind (λ (e : Event). EndsWell e.ended) event' events' well')
          p.rest (subst (λ (n : Hearing). AreFed k seat faults steps (set ss step.session n) events' ends')
          (sym one.1) q.rest) in
          (ap₂ (λ (e : Event) (es : List Event). e ∷ es) first rest.0, rest.1)

      -- and after legal turns
      pub one_script : (turns : List Turn) (steps : List Step) (ss ends ends' : List Hearing)
          (events events' : List Event)
          → IsLegal (facts_of k) (turns ++ turns_of events) → IsLegal (facts_of k) (turns ++ turns_of events')
          → AreShown k shows turns (deeds_of events) → AreShown k shows turns (deeds_of events')
          → All (λ event. EndsWell event.ended) events → All (λ event. EndsWell event.ended) events'
          → AreFed k seat faults steps ss events ends → AreFed k seat faults steps ss events' ends'
          → (events ≡ events') × (ends ≡ ends')
      one_script turns steps ss ends ends' events events' legal legal' shown shown' well well' p q =
          one_play (state_from (facts_of k) (start (facts_of k)) turns) turns steps ss ends ends' events
          events'
          (legal_behind (facts_of k) (start (facts_of k)) turns (turns_of events) legal, shown)
          (legal_behind (facts_of k) (start (facts_of k)) turns (turns_of events') legal', shown') well well'
          p
          q

-- at an office that shows nothing
abbrev pub shows_none : List Turn → Book → Type 0
shows_none turns book = ⊥

-- of sessions that make no look
pub standard_script : (asks : (k : Contents) (e : Extensions) (seat : ℕ) (now : Stamp) (login : Option Login)
    (line : Option (List ℕ))
    (body : List ℕ) (says says' : ReplyKind) (text text' : List ℕ) (did did' : List Deed)
    (next next' : Option Login)
    → IsAnswer k e seat now login line body says text did next
    → IsAnswer k e seat now login line body says' text' did' next'
    → messages_of did ≡ messages_of did')
    → (answer : (k : Contents) (e : Extensions) (seat : ℕ) (now : Stamp) (login : Option Login)
    (line : Option (List ℕ)) (body : List ℕ)
    (says says' : ReplyKind) (text text' : List ℕ) (did : List Deed) (next next' : Option Login)
    → IsAnswer k e seat now login line body says text did next
    → IsAnswer k e seat now login line body says' text' did next'
    → (says ≡ says') × (text ≡ text') × (next ≡ next'))
    → (only : (k : Contents) (e : Extensions) (seat : ℕ) (now : Stamp) (login : Option Login)
    (line : Option (List ℕ)) (body : List ℕ)
    (says : ReplyKind) (text : List ℕ) (did : List Deed) (next : Option Login) → e.profile.patron_messages
    ≡ false
    → IsAnswer k e seat now login line body says text did next → AreTurns did)
    → (k : Contents) (seat : ℕ) (faults : TurnFault → Type 0) (turns : List Turn) (steps : List Step)
    (ss ends ends' : List Hearing)
    (events events' : List Event) → HaveNoPatronMessages ss
    → IsLegal (facts_of k) (turns ++ turns_of events) → IsLegal (facts_of k) (turns ++ turns_of events')
    → All (λ event. EndsWell event.ended) events → All (λ event. EndsWell event.ended) events'
    → AreFed k seat faults steps ss events ends → AreFed k seat faults steps ss events' ends'
    → (events ≡ events') × (ends ≡ ends')
standard_script asks answer only k seat faults turns steps ss ends ends' events events' off legal legal' well
    well' p q =
    let here = (script_turns only k seat faults steps ss ends events off p).0 in
    let there = (script_turns only k seat faults steps ss ends' events' off q).0 in
    one_script asks answer k seat shows_none (λ turns book book' none. absurd none) faults turns steps ss ends
    ends' events events' legal legal'
    (none_shown k shows_none turns (deeds_of events) here)
    (none_shown k shows_none turns (deeds_of events') there) well well' p q
