-- A command at a desk, from its questions to its changes.
use Rattle.std.proofs.Common.{arith, Bool, true, false, ◌≡◌, sym, ◌∙◌, ap, subst, ℕ, ◌+◌, ◌==◌}
use Rattle.std.proofs.Common.{Bor, Option, Some, None, is_some, IfSome, List, [], ◌∷◌, ◌++◌, Result, Ok, Err}
use Rattle.std.proofs.Common.{length}
use Rattle.std.proofs.lemmas.Bool.{cond_both}
use Rattle.std.specs.Option.{option_copied}
use Rattle.std.specs.Prelude.{OnErr}
use Rattle.std.specs.Result.{is_err}
use Rattle.hd_rules.specs.declared.holds.Hold.{Hold}
use Rattle.hd_rules.specs.declared.copies.CopyState.{CopyState}
use Rattle.hd_rules.specs.declared.copies.CopyState.TheVariants.{Shelf}
use Rattle.hd_rules.specs.Choose.{count_below}
use Rattle.hd_rules.specs.Turns.{item_view}
use Rattle.hd_rules.specs.declared.questions.Question.{Question}
use Rattle.hd_rules.specs.declared.questions.Noted.{Noted}
use Rattle.hd_rules.specs.declared.questions.Finding.{Finding}
use Rattle.hd_rules.specs.declared.replies.Refusal.{Refusal}
use Rattle.hd_rules.specs.declared.replies.Reply.{Reply}
use Rattle.hd_rules.specs.declared.commands.Command.{Command}
use Rattle.hd_rules.specs.Facts.{Facts}
use Rattle.hd_rules.specs.Desk.{Desk, after, at_home}
use Rattle.hd_rules.specs.Ask.{Plan, Done, outcome, asks}
use Rattle.hd_rules.specs.Known.{IsKnownAction, IsKnownHeld, IsKnownQuestion}
use Rattle.hd_rules.specs.Record.{findings}
use Rattle.hd_rules.specs.Notes.{note}
use Rattle.hd_rules.specs.Run.{AreChanges}
use Rattle.hd_rules.specs.Sound.{Sound, EachOnIsFit}
use Rattle.hd_rules.specs.Step.{plan}
use Rattle.hd_catalogue.specs.Contents.{Contents, facts_of}
use Rattle.hd_queue.specs.Holds.{hold_of}
use Rattle.hd_copies.specs.CopiesValue.{CopiesValue}
use Rattle.hd_copies.specs.Standing.{standing}
use Rattle.hd_holds.specs.HoldsValue.{HoldsValue}
use Rattle.hd_holds.specs.Held.{patron_hold, AreOfPatrons, AreKnown as AreKnownHolds}
use Rattle.hd_allocate.specs.Choosing.{AreOfPatrons as AreAllOfPatrons, IsAt, Waits}
use Rattle.hd_allocate.specs.declared.facts.CopyFacts.{CopyFacts}
use Rattle.hd_rules.specs.declared.cells.Change.{Change}
use Rattle.hd_desk.specs.Accepting.{CanBeMade, IsAccepted}
use Rattle.hd_desk.specs.Asking.{InquiryValue, ending_of, asked_of, AreKnownQuestions}
use Rattle.hd_inverse.specs.Cells.{AreKnownChanges, CanBeUndone, HaveRoom}
use Rattle.hd_desk.specs.Cells.{HasRoomFor, IsShortOfRoom}
use Rattle.hd_desk.specs.Laws.{CommandLaws}
use Rattle.hd_desk.specs.DeskValue.{DeskValue}
use Rattle.hd_desk.specs.Desks.{IsKeptDesk, contents, desk_of, facts, outcome_at}
use Rattle.hd_desk.specs.DoneValue.{DoneValue, done_of}
use Rattle.hd_desk.proofs.Following.{ending_is, findings_more, asked_more, known_more}
use Rattle.hd_desk.proofs.TakenBack.{back-again}
use Rattle.hd_desk.proofs.Writing.{are-known}

-- where a plan led, from the start
pub record Followed (k : Facts) (d : Desk) (p : Plan) (r : Result Done Refusal) (asked : List Question) : Type
    0 where
  pub outcome : r ≡ outcome k d p
  pub asks : asked ≡ asks k d p

pub followed : (d : DeskValue) (n : ℕ) (command : Command) (q : InquiryValue) (r : Result Done Refusal)
    (asked : List Question) →
    q ≡ record { desk = d; asked = [] } → (r, asked) ≡ ending_of q (plan (facts q.desk) n command) →
    Followed (facts d) (desk_of d) (plan (facts d) n command) r asked
followed d n command q r asked start ends =
    let p : Plan = plan (facts d) n command in
    let all : (r, asked) ≡ (outcome (facts d) (desk_of d) p, asks (facts d) (desk_of d) p) =
    ends ∙ ap (λ (x : InquiryValue). ending_of x (plan (facts x.desk) n command)) start
    ∙ ending_is (facts d) (desk_of d) p [] in
    record {
      outcome = ap (λ (x : Result Done Refusal × List Question). x.0) all;
      asks = ap (λ (x : Result Done Refusal × List Question). x.1) all;
    }

-- one more finding is kept
pub keep-more : (k : Facts) (d : Desk) (fs : List Finding) (q : Question) (n : Noted) (new : List Finding) →
    new ≡ fs ++ record { question = q; noted = n } ∷ [] → fs ≡ findings k d (asked_of fs)
    → AreKnownQuestions k (asked_of fs) →
    IsKnownQuestion k q → n ≡ note k d q
    → (new ≡ findings k d (asked_of new)) × AreKnownQuestions k (asked_of new)
keep-more k d fs q n new goes are known is noted =
    let asked : asked_of new ≡ asked_of fs ++ q ∷ [] = ap asked_of goes
    ∙ asked_more fs (record { question = q; noted = n }) in (
      goes ∙ (λ i. are i ++ record { question = q; noted = noted i } ∷ [])
          ∙ sym (findings_more k d (asked_of fs) q)
          ∙ ap (findings k d) (sym asked),
      subst (AreKnownQuestions k) (sym asked) (known_more k (asked_of fs) q known is),
    )

-- the opening desk
pub desk-opening : (copies : CopiesValue) (holds : HoldsValue) (k : Facts) → standing copies
    ≡ (λ c. Shelf (k.home c)) →
    patron_hold holds ≡ (λ t p. None) → desk_of (record { copies = copies; holds = holds }) ≡ at_home k.home
unfolding desk_of
desk-opening copies holds k home none = λ i. record { copy = home i; hold = none i }

-- and what stays true of it
pub desk-opened : (copies : CopiesValue) (holds : HoldsValue) (x : Contents) → copies.contents ≡ x →
    standing copies ≡ (λ c. Shelf ((facts_of x).home c)) → patron_hold holds ≡ (λ t p. None) →
    desk_of (record { copies = copies; holds = holds }) ≡ at_home (facts_of copies.contents).home
desk-opened copies holds x same home none =
    desk-opening copies holds (facts_of copies.contents)
    (home ∙ ap (λ (y : Contents). λ n. Shelf ((facts_of y).home n)) (sym same)) none

all-of-patrons : (n : ℕ) (hs : List Hold) → AreOfPatrons n hs → AreAllOfPatrons n hs
all-of-patrons n [] all = tt
all-of-patrons n (h ∷ hs) all = (all.0, all-of-patrons n hs all.1)

-- a queue as the one of a copy's title
pub is-at : (d : DeskValue) (h : HoldsValue) (holds : List Hold) (copy : CopyFacts) (t : ℕ) → h ≡ d.holds
    → h.contents ≡ d.copies.contents →
    t ≡ (facts d).title_of copy.copy → copy.home ≡ (facts d).home copy.copy → copy.priority
    ≡ (facts d).priority t →
    ((p : ℕ) → patron_hold h t p ≡ hold_of holds p) → AreOfPatrons (facts_of h.contents).patrons holds
    → IsAt (facts d) (desk_of d) holds copy
unfolding desk_of
is-at d h holds copy t same contents title home priority each patrons = record {
  home = sym home;
  priority = ap (facts d).priority (sym title) ∙ sym priority;
  queue = λ p. sym (λ i. patron_hold (same i) (title i) p) ∙ each p;
  patrons = all-of-patrons (facts d).patrons holds
      (subst (λ x. AreOfPatrons (facts_of x).patrons holds) contents patrons);
}

-- a hold of a queue names things of the catalogue
known-hold : (k : Facts) (holds : List Hold) (p : ℕ) → AreKnownHolds k holds → IsKnownHeld k (hold_of holds p)
known-hold k [] p known = tt
known-hold k (h ∷ holds) p known =
    cond_both (h.patron == p) (Some h) (hold_of holds p) (IsKnownHeld k) (λ e. known.0)
    (λ e. known-hold k holds p known.1)

-- what was chosen names things of the catalogue
pub chosen-known : (k : Facts) (holds : List Hold) (r : Option (Bor Hold)) (o : Option Hold) → o
    ≡ option_copied r →
    IfSome r (λ h. Waits holds h.now) → AreKnownHolds k holds → IsKnownHeld k o
chosen-known k holds None o is waits known = subst (IsKnownHeld k) (sym is) tt
chosen-known k holds (Some b) o is waits known =
    subst (IsKnownHeld k) (waits.queued ∙ sym is) (known-hold k holds b.now.patron known)

-- an accepted command's changes can be made, and taken back
can-be-made : CommandLaws → (k : Facts) (d : Desk) (n : ℕ) (command : Command) (done : Done)
    → IsKeptDesk k d →
    IsKnownAction k command.action → Sound k n d → outcome k d (plan k n command) ≡ Ok done
    → CanBeMade k d n done.changes
can-be-made laws k d n command done kept action sound is =
    let fit : EachOnIsFit k done.changes d = laws.commands.fit k d n command done sound is in
    let after_it : AreChanges done.changes × Sound k (n + 1) (after done.changes d) =
    laws.commands.sound k d n command done sound is in
    let known : AreKnownChanges k done.changes =
    are-known k d d done.changes kept.known kept.fit after_it.0 (record {
      known = (laws.commands.known k d n command done kept.range kept.known action is).changes;
      old = λ c among. (laws.answers.written k d n command done is c among).1;
    }) fit in
    record { fit = fit; sound = after_it.1; back = back-again laws k d n command done sound is known }

-- a plan that was followed to a command's acceptance
pub accepted : CommandLaws
    → (d : DeskValue) (n : ℕ) (command : Command) (q new : InquiryValue) (r : Result Done Refusal)
    (done : DoneValue) (reply : Reply) → q ≡ record { desk = d; asked = [] }
    → (r, new.asked) ≡ ending_of q (plan (facts q.desk) n command)
    → new.desk ≡ q.desk → r ≡ Ok (done_of done reply)
    → done.findings ≡ findings (facts new.desk) (desk_of new.desk) new.asked
    → IsKeptDesk (facts d) (desk_of d) → IsKnownAction (facts d) command.action
    → Sound (facts d) n (desk_of d) → IsAccepted d n command done reply
accepted laws d n command q new r done reply start ends same is found kept action sound =
    let f : Followed (facts d) (desk_of d) (plan (facts d) n command) r new.asked =
    followed d n command q r new.asked start ends in
    let outcome : outcome_at d n command ≡ Ok (done_of done reply) = sym f.outcome ∙ is in
    let here : new.desk ≡ d = same ∙ ap (λ (x : InquiryValue). x.desk) start in
    record {
      outcome = outcome;
      findings = found ∙ (λ i. findings (facts (here i)) (desk_of (here i)) (f.asks i));
      can =
          can-be-made laws (facts d) (desk_of d) n command (done_of done reply) kept action sound outcome;
    }

-- once there is room for them
pub can-still : (d e : DeskValue) (n : ℕ) (told cs : List Change) → CanBeMade (facts d) (desk_of d) n told →
    contents e ≡ contents d → desk_of e ≡ desk_of d → cs ≡ told → CanBeMade (facts e) (desk_of e) n cs
can-still d e n told cs can same desk are =
    subst (CanBeMade (facts e) (desk_of e) n) (sym are)
    (subst (λ (x : Desk). CanBeMade (facts e) x n told) (sym desk)
    (subst (λ (x : Contents). CanBeMade (facts_of x) (desk_of d) n told) (sym same) can))

-- and when they are made
pub left-sound : (d e : DeskValue) (n : ℕ) (cs : List Change) → CanBeMade (facts d) (desk_of d) n cs →
    contents e ≡ contents d → desk_of e ≡ after cs (desk_of d) → Sound (facts e) (n + 1) (desk_of e)
left-sound d e n cs can same made =
    subst (λ (x : Desk). Sound (facts e) (n + 1) x) (sym made)
    (subst (λ (x : Contents). Sound (facts_of x) (n + 1) (after cs (desk_of d))) (sym same) can.sound)

pub left-back : (d e : DeskValue) (n : ℕ) (cs : List Change) → CanBeMade (facts d) (desk_of d) n cs →
    contents e ≡ contents d → desk_of e ≡ after cs (desk_of d)
    → CanBeUndone (facts e) (desk_of d) (desk_of e) cs
left-back d e n cs can same made =
    subst (λ (x : Desk). CanBeUndone (facts e) (desk_of d) x cs) (sym made)
    (subst (λ (x : Contents). CanBeUndone (facts_of x) (desk_of d) (after cs (desk_of d)) cs) (sym same)
    can.back)

-- a copy's view
pub item-so : (d : DeskValue) (h : HoldsValue) (copy t : ℕ) (state : CopyState) (n : ℕ) → h ≡ d.holds
    → h.contents ≡ d.copies.contents →
    state ≡ (desk_of d).copy copy → t ≡ (facts d).title_of copy →
    n ≡ count_below (λ p. is_some (patron_hold h t p)) (facts_of h.contents).patrons →
    record { state = state; holds = n } ≡ item_view (facts d) (desk_of d) copy
unfolding desk_of
item-so d h copy t state n same contents is title count = λ i. record {
  state = is i;
  holds = (count ∙ (λ j. count_below (λ p. is_some (patron_hold (same j) (title j) p))
      (facts_of (contents j)).patrons)) i;
}

-- there was too little room
pub was-short : {T E : Type 0}
    → (d : DeskValue) (o : Result Done Refusal) (done : Done) (cs : List Change) (r : Result T E) (b : Bool)
    → o ≡ Ok done → cs ≡ done.changes → b ≡ is_err r → b ≡ true
    → OnErr r (HaveRoom (HasRoomFor d) (length cs) cs → ⊥) → IsShortOfRoom d o
was-short d o done cs (Ok x) b is are test on full = let t : true ≡ false = sym on ∙ test in cc
was-short d o done cs (Err x) b is are test on full =
    subst (λ (x : Result Done Refusal). IsShortOfRoom d x) (sym is)
    (subst (λ (xs : List Change). HaveRoom (HasRoomFor d) (length xs) xs → ⊥) are full)
