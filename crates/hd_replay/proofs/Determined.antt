-- What a replay that ends well writes.
use Rattle.std.proofs.Common.{◌≡◌, ◌∙◌, ◌+◌, ℕ, ℤ, zero, suc, Bool, true, All, Option, None, Some, List, []}
use Rattle.std.proofs.Common.{◌∷◌, ◌++◌, Ok}
use Rattle.std.proofs.Common.{append-nil, arith, decimal, drop, flat_map, length, take, map, refl, sym, ap}
use Rattle.std.proofs.Common.{ap₂, subst}
use Rattle.std.proofs.lemmas.Fmt.{decimal_injective}
use Rattle.std.proofs.lemmas.List.{append_cancel_left}
use Rattle.std.specs.Io.KnownBytes.{Consumes, IsAtEnd}
use Rattle.hd_date.specs.Stamps.{IsStamp, Stamp}
use Rattle.hd_rules.specs.Journal.{IsLegal, Turn}
use Rattle.hd_catalogue.specs.Contents.{Contents, facts_of}
use Rattle.hd_catalogue.specs.Files.{IsAccepted, lines_of}
use Rattle.hd_session.specs.Endings.{EndsWell}
use Rattle.hd_exchange.specs.Deeds.{AreShown}
use Rattle.hd_exchange.specs.Extensions.{Extensions, no_extensions}
use Rattle.hd_session.specs.Scripts.{AreFed, Event, ShowsTheSame, Step, deeds_of, turns_of}
use Rattle.hd_session.specs.Sessions.{Hearing}
use Rattle.hd_replay.specs.Endings.{WritesWell, WritesWellOver}
use Rattle.hd_connection.specs.Streams.{Streams}
use Rattle.hd_replay.specs.Ends.{HasLines, Replay}
use Rattle.hd_replay.specs.Inputs.{HasSession, InputMessage, line_of, with_rest}
use Rattle.hd_replay.specs.Printing.{ArePrinted, IsEventText, end_text, printed_line}
use Rattle.hd_replay.specs.Replays.{AllReplayed, Progress, faults, before_any_line, shows, step_of}
use Rattle.hd_replay.proofs.Lining.{first_alone, lines_alone}
use Rattle.hd_replay.proofs.Prefixes.{no_blank}

-- the events of two replays print the same
one_event : (event : Event) (text other : List ℕ) → IsEventText event text → IsEventText event other → text
    ≡ other
one_event event text other p q =
    let parts = lines_alone 13 event.text p.rest q.rest p.replies q.replies p.parts q.parts in
    p.spelled
    ∙ (ap (λ (l : List (List ℕ)). flat_map (printed_line (event.session + 1)) l ++ end_text
    (event.session + 1) event.ended) parts.0
    ∙ sym q.spelled)

one_print : (events : List Event) (text other : List ℕ) → ArePrinted events text → ArePrinted events other
    → text ≡ other
one_print [] text other p q = p ∙ sym q
one_print (event ∷ events) text other p q =
    p.4 ∙ (ap₂ (λ (a b : List ℕ). a ++ b) (one_event event p.0 q.0 p.2 q.2) (one_print events p.1 q.1 p.3 q.3)
    ∙ sym q.4)

-- a line is that of one message
same_message : (a b : InputMessage) → a.session ≡ b.session → a.text ≡ b.text → a ≡ b
same_message a b session text =
    ap (λ (s : ℕ). let m : InputMessage = record { session = s; text = a.text } in m) session
    ∙ ap (λ (t : List ℕ). let m : InputMessage = record { session = b.session; text = t } in m) text

one_message : (a b : InputMessage) → HasSession a → HasSession b → line_of a ≡ line_of b → a ≡ b
one_message a b p q same =
    let parts = first_alone 32 (decimal a.session) (decimal b.session) a.text b.text (no_blank a.session p)
    (no_blank b.session q) same in
    same_message a b
    (decimal_injective a.session b.session (let small = p.1 in omega (arith, small))
    (let small = q.1 in omega (arith, small)) parts.0)
    parts.1

-- the first of some lines
first_line : List (List ℕ) → List ℕ
first_line [] = []
first_line (line ∷ lines) = line

one_input : (xs ys : List InputMessage) → All HasSession xs → All HasSession ys → map line_of xs
    ≡ map line_of ys → xs ≡ ys
unfolding first_line
one_input [] [] p q same = refl
one_input [] (y ∷ ys) p q same = absurd (omega (arith, ap (λ (l : List (List ℕ)). length l) same))
one_input (x ∷ xs) [] p q same = absurd (omega (arith, ap (λ (l : List (List ℕ)). length l) same))
one_input (x ∷ xs) (y ∷ ys) p q same =
    ap₂ (λ (m : InputMessage) (ms : List InputMessage). m ∷ ms)
    (one_message x y (p zero x (omega arith)) (q zero y (omega arith)) (ap first_line same))
    (one_input xs ys (λ i d within. p (suc i) d (omega (arith, within)))
    (λ i d within. q (suc i) d (omega (arith, within)))
    (ap (λ (l : List (List ℕ)). drop 1 l) same))

-- all of an input that comes to its end is read
all_read : (input got : List ℕ) (left : Option (List ℕ)) → Consumes (Some input) left got → IsAtEnd left → got
    ≡ input
all_read input got None reads end = absurd reads
all_read input got (Some rest) reads end = sym (reads ∙ (ap (λ (r : List ℕ). got ++ r) end ∙ append-nil got))

-- and its lines are these
one_lines : (got : List ℕ) (lines others : List (List ℕ)) → HasLines got true lines → HasLines got true others
    → lines ≡ others
one_lines got lines others p q =
    let whole = lines_alone 10 (take 16777216 got) p.rest q.rest p.whole q.whole p.are q.are in
    p.lines_are ∙ (ap₂ (λ (w : List (List ℕ)) (r : List ℕ). with_rest w r) whole.0 whole.1 ∙ sym q.lines_are)

-- a journal alone shows the same after the same turns
same_shown : ShowsTheSame shows
same_shown turns book book' one other = one ∙ sym other

module _ (one_script : (k : Contents) (seat : ℕ) (turns : List Turn) (steps : List Step)
    (ss ends ends' : List Hearing)
    (events events' : List Event) → ShowsTheSame shows → IsLegal (facts_of k) (turns ++ turns_of events)
    → IsLegal (facts_of k) (turns ++ turns_of events') → AreShown k shows turns (deeds_of events)
    → AreShown k shows turns (deeds_of events') → All (λ event. EndsWell event.ended) events
    → All (λ event. EndsWell event.ended) events' → AreFed k seat faults steps ss events ends
    → AreFed k seat faults steps ss events' ends' → (events ≡ events') × (ends ≡ ends')) where
  -- lines that are replayed from the beginning have one text
  one_text : (k : Contents) (e : Extensions) (now : Stamp) (after after' : Progress) (lines : List (List ℕ))
      (text other : List ℕ)
      → AllReplayed (before_any_line k e now) after lines text
      → AllReplayed (before_any_line k e now) after' lines other
      → IsLegal (facts_of after.contents) after.turns → IsLegal (facts_of after'.contents) after'.turns → text
      ≡ other
  one_text k e now after after' lines text other p q legal legal' =
      let messages : p.messages ≡ q.messages =
      one_input p.messages q.messages p.have_session q.have_session (sym p.lines_are ∙ q.lines_are) in
      let there : AreFed k 0 faults (map (step_of now) p.messages) (before_any_line k e now).sessions q.events
      after'.sessions =
      subst (λ (m : List InputMessage). AreFed k 0 faults (map (step_of now) m)
      (before_any_line k e now).sessions q.events after'.sessions)
      (sym messages) q.fed in
      let here_legal : IsLegal (facts_of k) ([] ++ turns_of p.events) =
      legal_of after p.events p.same.0 p.turns_are legal in
      let there_legal : IsLegal (facts_of k) ([] ++ turns_of q.events) =
      legal_of after' q.events q.same.0 q.turns_are legal' in
      let one =
      one_script k 0 [] (map (step_of now) p.messages) (before_any_line k e now).sessions after.sessions
      after'.sessions p.events q.events
      same_shown here_legal there_legal p.shown q.shown p.holds q.holds p.fed there in
      one_print p.events text other p.printed
      (subst (λ (es : List Event). ArePrinted es other) (sym one.0) q.printed)
    where
      legal_of : (end : Progress) (events : List Event) → end.contents ≡ k → end.turns ≡ [] ++ turns_of events
          → IsLegal (facts_of end.contents) end.turns → IsLegal (facts_of k) ([] ++ turns_of events)
      legal_of end events here turns legal =
          subst (λ (c : Contents). IsLegal (facts_of c) ([] ++ turns_of events)) here
          (subst (λ (t : List Turn). IsLegal (facts_of end.contents) t) turns legal)

  -- replays of one input over one library
  one_replay : (k : Contents) (e : Extensions) (now : Stamp) (input text other held held' : List ℕ)
      (left left' : Option (List ℕ))
      → Replay k e now (record { from = Some input; from' = left; to = Some held; to' = Some (held ++ text) })
      (Ok tt)
      → Replay k e now (record
      { from = Some input; from' = left'; to = Some held'; to' = Some (held' ++ other) }) (Ok tt) → text
      ≡ other
  one_replay k e now input text other held held' left left' p q =
      let end : p.reads.at_end ≡ true = p.reads.time.0 in
      let end' : q.reads.at_end ≡ true = q.reads.time.0 in
      let got : p.reads.got ≡ input = all_read input p.reads.got left p.reads.read (p.reads.all end) in
      let got' : q.reads.got ≡ input = all_read input q.reads.got left' q.reads.read (q.reads.all end') in
      let has : HasLines input true p.reads.lines =
      subst (λ (t : Bool). HasLines input t p.reads.lines) end
      (subst (λ (g : List ℕ). HasLines g p.reads.at_end p.reads.lines) got p.reads.heard) in
      let has' : HasLines input true q.reads.lines =
      subst (λ (t : Bool). HasLines input t q.reads.lines) end'
      (subst (λ (g : List ℕ). HasLines g q.reads.at_end q.reads.lines) got' q.reads.heard) in
      let lines : q.reads.lines ≡ p.reads.lines = one_lines input q.reads.lines p.reads.lines has' has in
      let put : p.reads.put ≡ q.reads.put =
      one_text k e now p.after q.after p.reads.lines p.reads.put q.reads.put p.reads.replayed
      (subst (λ (l : List (List ℕ)). AllReplayed (before_any_line k e now) q.after l q.reads.put) lines
      q.reads.replayed)
      p.legal.legal q.legal.legal in
      append_cancel_left held text p.reads.put p.reads.wrote
      ∙ (put ∙ sym (append_cancel_left held' other q.reads.put q.reads.wrote))

  pub one_written_over : (k : Contents) (e : Extensions) (now : Stamp) (input text other : List ℕ)
      → WritesWellOver k e now input text → WritesWellOver k e now input other → text ≡ other
  one_written_over k e now input text other p q =
      one_replay k e now input text other p.held q.held p.left q.left p.replay q.replay

  module _ (one_catalogue : (all : List (List ℕ)) (k h : Contents) → IsAccepted all k → IsAccepted all h → k
      ≡ h)
      (one_stamp : (text : List ℕ) (offset : ℤ) (s t : Stamp) → IsStamp text offset s → IsStamp text offset t
      → s ≡ t) where
    pub one_written : (file present input text other : List ℕ) → WritesWell file present input text
        → WritesWell file present input other → text ≡ other
    one_written file present input text other p q =
        let k : p.replay.k ≡ q.replay.k =
        one_catalogue (lines_of file) p.replay.k q.replay.k p.replay.accepted q.replay.accepted in
        let stamp : IsStamp present p.replay.k.settings.offset q.replay.now =
        subst (λ (c : Contents). IsStamp present c.settings.offset q.replay.now) (sym k) q.replay.stamp in
        let now : p.replay.now ≡ q.replay.now =
        one_stamp present p.replay.k.settings.offset p.replay.now q.replay.now p.replay.stamp stamp in
        let bytes : Streams =
        record { from = Some input; from' = q.left; to = Some q.held; to' = Some (q.held ++ other) } in
        one_replay p.replay.k no_extensions p.replay.now input text other p.held q.held p.left q.left
        p.replay.replay
        (subst (λ (c : Contents). Replay c no_extensions p.replay.now bytes (Ok tt)) (sym k)
        (subst (λ (n : Stamp). Replay q.replay.k no_extensions n bytes (Ok tt)) (sym now) q.replay.replay))
