-- The queues of all titles.
use Rattle.std.proofs.Common.{◌≡◌, ℕ, ◌+◌, ◌<◌, ◌≤◌, ◌==◌, ◌&&◌, Bool, true, false, cond, List, [], Option}
use Rattle.std.proofs.Common.{None, Some, is_some}
use Rattle.std.proofs.Common.{refl, ap, arith, sym, ◌∙◌, inl, inr, length, eq-eqb}
use Rattle.std.proofs.Math.ListN.{set}
use Rattle.std.proofs.lemmas.Bool.{cases_Bool, cases_lt, eqb-true}
use Rattle.std.proofs.lemmas.List.{get_or-set_same, get_or-set_other, get_or_past, length-set}
use Rattle.hd_rules.specs.declared.holds.Hold.{Hold}
use Rattle.hd_rules.specs.Facts.{Facts}
use Rattle.hd_rules.specs.Desk.{Desk}
use Rattle.hd_rules.specs.Known.{IsKnownHeld}
use Rattle.hd_rules.specs.Sound.{AreNamed, StampsApart}
use Rattle.hd_rules.specs.Choose.{count_below, is_before, position}
use Rattle.hd_queue.specs.Holds.{HasNoStamp, count_before, hold_of, without}
use Rattle.hd_queue.specs.QueueValue.{QueueValue}
use Rattle.hd_holds.specs.HoldsValue.{HoldsValue}
use Rattle.hd_holds.specs.Held.{AreQueues, IsQueue, IsWelcome, facts, no_queue, patron_hold, queue_of}
use Rattle.hd_holds.specs.Held.{with_held}
use Rattle.hd_holds.proofs.Counts.{count-all, count-holds}
use Rattle.hd_queue.specs.Laws.{QueuesStayInOrder}
use Rattle.hd_holds.proofs.Lists.{hold-named, hold_of-with_held, known-patrons, no_stamp-without}
use Rattle.hd_holds.proofs.Lists.{queue-with_held, stamps-apart}
use Rattle.hd_lemmas.proofs.Counts.{count_below-le}

pub queue-empty : (k : Facts) (hs : List Hold) → hs ≡ [] → IsQueue k hs
queue-empty k hs e = rw e record { ordered = tt; once = tt; known = tt }

pub held-empty : (v : HoldsValue) → ((t : ℕ) → (queue_of v.queues t).holds ≡ []) → patron_hold v
    ≡ (λ t p. None)
unfolding patron_hold
held-empty v none = λ i t p. hold_of (none t i) p

-- the queues after one of them is written
pub queue_of-set : (qs : List QueueValue) (i : ℕ) (q : QueueValue) (t : ℕ) → i < length qs →
    queue_of (set qs i q) t ≡ cond (i == t) q (queue_of qs t)
queue_of-set qs i q t l = elim (cases_Bool (i == t)) [
  | inl b ↦ (let e : i
      ≡ t = eqb-true i t b in rw b (ap (queue_of (set qs i q)) (sym e) ∙ get_or-set_same qs i q _ l))
  | inr b ↦ rw b (get_or-set_other qs i t q _ (λ e. let s : (i == t) ≡ true = eq-eqb i t (sym e) in cc))
]

pub queues-set : (k : Facts) (qs : List QueueValue) (i : ℕ) (q : QueueValue) → i < length qs → AreQueues k qs
    → IsQueue k q.holds →
    AreQueues k (set qs i q)
queues-set k qs i q l all is = record {
  range = all.range;
  titles = length-set qs i q ∙ all.titles;
  queue = λ t. rw (queue_of-set qs i q t l) (one (i == t) t);
}
  where
    one : (b : Bool) (t : ℕ) → IsQueue k (cond b q (queue_of qs t)).holds
    one true t = is
    one false t = all.queue t

-- what is held after a queue is written that has a patron's hold otherwise, and is otherwise the title's
pub held-set : (v e : HoldsValue) (i : ℕ) (q : QueueValue) (p : ℕ) (o : Option Hold) → e.queues
    ≡ set v.queues i q → i < length v.queues →
    ((n : ℕ) → hold_of q.holds n ≡ cond (p == n) o (patron_hold v i n)) → patron_hold e
    ≡ (λ t n. cond ((i == t) && (p == n)) o (patron_hold v t n))
unfolding patron_hold
held-set v e i q p o queues l holds = λ j t n. all t n j
  where
    one : (b : Bool) (t n : ℕ) → (i == t) ≡ b → hold_of (cond b q (queue_of v.queues t)).holds n
        ≡ cond (b && (p == n)) o (hold_of (queue_of v.queues t).holds n)
    one true t n is = holds n
        ∙ ap (λ (u : ℕ). cond (p == n) o (hold_of (queue_of v.queues u).holds n)) (eqb-true i t is)
    one false t n is = refl

    all : (t n : ℕ) → hold_of (queue_of e.queues t).holds n
        ≡ cond ((i == t) && (p == n)) o (hold_of (queue_of v.queues t).holds n)
    all t n = ap (λ (qs : List QueueValue). hold_of (queue_of qs t).holds n) queues
        ∙ ap (λ (r : QueueValue). hold_of r.holds n) (queue_of-set v.queues i q t l) ∙ one (i == t) t n refl

-- the holds are as they were
pub held-same : (v e : HoldsValue) (i : ℕ) (q : QueueValue) → e.queues ≡ set v.queues i q
    → i < length v.queues →
    q.holds ≡ (queue_of v.queues i).holds → patron_hold e ≡ patron_hold v
unfolding patron_hold
held-same v e i q queues l holds = λ j t n. hold_of (all t j) n
  where
    one : (b : Bool) (t : ℕ) → (i == t) ≡ b → (cond b q (queue_of v.queues t)).holds
        ≡ (queue_of v.queues t).holds
    one true t is = holds ∙ ap (λ (u : ℕ). (queue_of v.queues u).holds) (eqb-true i t is)
    one false t is = refl

    all : (t : ℕ) → (queue_of e.queues t).holds ≡ (queue_of v.queues t).holds
    all t = ap (λ (qs : List QueueValue). (queue_of qs t).holds) queues
        ∙ ap (λ (r : QueueValue). r.holds) (queue_of-set v.queues i q t l) ∙ one (i == t) t refl

-- a welcome hold is the patron's own, and its stamp is not in the title's queue beside the patron's
welcome-own : (v : HoldsValue) (t p : ℕ) (o : Option Hold) → IsWelcome (patron_hold v) t p o → (h : Hold) → o
    ≡ Some h → h.patron ≡ p
welcome-own v t p None fit h is = cc
welcome-own v t p (Some x) fit h is = let same : x ≡ h = cc in ap (λ (y : Hold). y.patron) (sym same) ∙ fit.0

welcome-stamp : QueuesStayInOrder → (v : HoldsValue) (t p : ℕ) (o : Option Hold)
    → IsQueue (facts v) (queue_of v.queues t).holds → IsWelcome (patron_hold v) t p o →
    (h : Hold) → o ≡ Some h → HasNoStamp h.stamp (without (queue_of v.queues t).holds p)
unfolding patron_hold
welcome-stamp law v t p None is fit h e = cc
welcome-stamp law v t p (Some x) is fit h e =
    let same : x ≡ h = cc in
    rw (← same) (no_stamp-without law x.stamp (queue_of v.queues t).holds p is.once fit.1)

-- the answers from a queue
pub position-queue : (v : HoldsValue) (t stamp : ℕ) → IsQueue (facts v) (queue_of v.queues t).holds
    → (d : Desk) → d.hold ≡ patron_hold v →
    count_before (queue_of v.queues t).holds stamp + 1 ≡ position (facts v) d t stamp
unfolding patron_hold
position-queue v t stamp is d same =
    sym (ap (λ (n : ℕ). n + 1)
    (ap (λ (h : ℕ → ℕ → Option Hold). count_below (λ n. is_before stamp (h t n)) (facts v).patrons) same
    ∙ count-holds (is_before stamp) refl (queue_of v.queues t).holds (facts v).patrons is.once
    (known-patrons (facts v) (queue_of v.queues t).holds is.known)))

pub count-queue : (v : HoldsValue) (t : ℕ) → IsQueue (facts v) (queue_of v.queues t).holds →
    length (queue_of v.queues t).holds ≡ count_below (λ p. is_some (patron_hold v t p)) (facts v).patrons
unfolding patron_hold
count-queue v t is =
    sym (count-holds is_some refl (queue_of v.queues t).holds (facts v).patrons is.once
    (known-patrons (facts v) (queue_of v.queues t).holds is.known) ∙ count-all (queue_of v.queues t).holds)

pub few-holds : (v : HoldsValue) (t : ℕ) → IsQueue (facts v) (queue_of v.queues t).holds →
    length (queue_of v.queues t).holds ≤ (facts v).patrons
few-holds v t is = rw (count-queue v t is)
    (count_below-le (λ p. is_some (patron_hold v t p)) (facts v).patrons)

-- the queue of a title, of holds v that are w
pub record Reads (v w : HoldsValue) (t : ℕ) (q : QueueValue) : Type 0 where
  pub same : v ≡ w
  pub within : t < (facts w).titles
  pub read : q ≡ queue_of v.queues t
  pub all : AreQueues (facts v) v.queues

-- the holds with another queue of a title
abbrev pub written : HoldsValue → ℕ → QueueValue → HoldsValue
written v t r = record v { queues = set v.queues t r }

module _ {v w : HoldsValue} {t : ℕ} {q : QueueValue} (reads : Reads v w t q) where
  pub reads-within : t < length v.queues
  reads-within = rw (reads.all.titles, reads.same) reads.within

  -- the patron's hold, as it was read
  pub held-read : (p : ℕ) → hold_of q.holds p ≡ patron_hold w t p
  unfolding patron_hold
  held-read p = ap (λ (x : QueueValue). hold_of x.holds p) reads.read
      ∙ ap (λ (x : HoldsValue). patron_hold x t p) reads.same

  -- more room alone
  pub held-ready : (r : QueueValue) → r.holds ≡ q.holds → patron_hold (written v t r) ≡ patron_hold w
  held-ready r holds =
      held-same v (written v t r) t r refl reads-within (holds ∙ ap (λ (x : QueueValue). x.holds) reads.read)
      ∙ ap patron_hold reads.same

  pub queue-ready : (r : QueueValue) → r.holds ≡ q.holds → IsQueue (facts v) r.holds
  queue-ready r holds = rw (holds, reads.read) (reads.all.queue t)

  -- a patron's hold becomes another, or none
  module _ (law : QueuesStayInOrder) (p : ℕ) (o : Option Hold) (fit : IsWelcome (patron_hold w) t p o) where
    welcome-read : IsWelcome (patron_hold v) t p o
    welcome-read = rw reads.same fit

    pub stamp-put : (h : Hold) → o ≡ Some h → HasNoStamp h.stamp (without q.holds p)
    stamp-put = rw reads.read (welcome-stamp law v t p o (reads.all.queue t) welcome-read)

    own : (h : Hold) → o ≡ Some h → h.patron ≡ p
    own = welcome-own v t p o welcome-read

    pub queue-put : (r : QueueValue) → IsKnownHeld (facts w) o → r.holds ≡ with_held q.holds p o
        → IsQueue (facts v) r.holds
    queue-put r known holds =
        let is : IsQueue (facts v) q.holds = rw reads.read (reads.all.queue t) in
        rw holds (queue-with_held law (facts v) q.holds p o is (rw reads.same known) own stamp-put)

    pub held-put : (r : QueueValue) → r.holds ≡ with_held q.holds p o →
        patron_hold (written v t r) ≡ (λ u n. cond ((t == u) && (p == n)) o (patron_hold w u n))
    unfolding patron_hold
    held-put r holds =
        let each : (n : ℕ) → hold_of r.holds n ≡ cond (p == n) o (patron_hold v t n) = λ n.
        ap (λ (hs : List Hold). hold_of hs n)
        (holds ∙ ap (λ (x : QueueValue). with_held x.holds p o) reads.read)
        ∙ hold_of-with_held law (queue_of v.queues t).holds p n o own in
        held-set v (written v t r) t r p o refl reads-within each
        ∙ (λ j u n. cond ((t == u) && (p == n)) o (patron_hold (reads.same j) u n))

-- holds of queues are fit
pub held-named : (v : HoldsValue) → AreNamed (patron_hold v)
unfolding patron_hold
held-named v = λ t p h is. hold-named (queue_of v.queues t).holds p h is

pub held-apart : (v : HoldsValue) → AreQueues (facts v) v.queues → StampsApart (patron_hold v)
unfolding patron_hold
held-apart v all = λ t p q g h one two same. stamps-apart (queue_of v.queues t).holds (all.queue t).ordered p
    q g h one two same

pub held-within : (v : HoldsValue) → AreQueues (facts v) v.queues → (t p : ℕ) (h : Hold) → patron_hold v t p
    ≡ Some h → t < (facts v).titles
unfolding patron_hold
held-within v all t p h is = elim (cases_lt t (facts v).titles) [
  | inl below ↦ below
  | inr past ↦ absurd (let none : queue_of v.queues t
      ≡ no_queue = get_or_past v.queues t no_queue (omega (arith, past, all.titles)) in
      let nothing : hold_of (queue_of v.queues t).holds p
      ≡ None = ap (λ (q : QueueValue). hold_of q.holds p) none in
      let no : ⊥ = cc in no)
]
