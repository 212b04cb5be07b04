-- The queues of the titles, by their places.
use Rattle.std.proofs.Common.{◌≡◌, ℕ, zero, suc, ◌+◌, ◌<◌, ◌≤◌, ◌==◌, nat_lt, Bool, true, false, cond, List}
use Rattle.std.proofs.Common.{[], ◌∷◌, ◌++◌}
use Rattle.std.proofs.Common.{refl, ap, sym, ◌∙◌, inl, inr, arith, length, get_or, replicate}
use Rattle.std.proofs.Math.ListN.{set, get_or-map}
use Rattle.std.specs.List.{count_by}
use Rattle.std.proofs.lemmas.Bool.{cases_Bool, cases_eq, eq-eqb, ne_eqb, eqb-true, lt-ltb, le-ltb}
use Rattle.std.proofs.lemmas.List.{ext_get_or, get_or-set_same, get_or-set_other, get_or_append_left}
use Rattle.std.proofs.lemmas.List.{get_or_push}
use Rattle.std.proofs.lemmas.List.{length-map, length-set, length_push, length-replicate}
use Rattle.std.proofs.lemmas.List.Sums.{count_by-le-length, sum_by-set}
use Rattle.std.proofs.lemmas.List.Folds.{sum_by-replicate}
use Rattle.hd_rules.specs.Facts.{Facts, AreInRange}
use Rattle.hd_queue.specs.QueueValue.{QueueValue}
use Rattle.hd_holds.specs.Held.{IsQueue, no_queue, queue_of}
use Rattle.hd_holds.specs.Places.{IsPlaced, queue_at, queues_at}
use Rattle.hd_holds.proofs.Queues.{queue-empty, queue_of-set, queues-set}

-- the place of a title
abbrev pub place_of : List ℕ → ℕ → ℕ
place_of places t = get_or places t 0

-- what a title's place says of its queue
pub queue_of-queues_at : (qs : List QueueValue) (ps : List ℕ) (t : ℕ) → queue_of (queues_at qs ps) t
    ≡ queue_at qs (place_of ps t)
queue_of-queues_at qs ps t = get_or-map (queue_at qs) ps t 0

queue_at-none : (qs : List QueueValue) (p : ℕ) → p ≡ 0 → queue_at qs p ≡ no_queue
queue_at-none qs p none = rw (eq-eqb p 0 none) refl

queue_at-own : (qs : List QueueValue) (p : ℕ) → 0 < p → queue_at qs p ≡ queue_of qs p
queue_at-own qs p own = rw (ne_eqb p 0 (λ e. omega arith)) refl

-- and it is the title's own where that is not the first
pub queue-own : (qs : List QueueValue) (ps : List ℕ) (t : ℕ) → 0 < place_of ps t →
    queue_of qs (place_of ps t) ≡ queue_of (queues_at qs ps) t
queue-own qs ps t own = sym (queue_of-queues_at qs ps t ∙ queue_at-own qs (place_of ps t) own)

pub queue-none : (qs : List QueueValue) (ps : List ℕ) (t : ℕ) → place_of ps t ≡ 0
    → queue_of (queues_at qs ps) t ≡ no_queue
queue-none qs ps t none = queue_of-queues_at qs ps t ∙ queue_at-none qs (place_of ps t) none

-- lists of queues that have the same queue of each title
same-queues : (qs rs : List QueueValue) → length qs ≡ length rs → ((t : ℕ) → queue_of qs t ≡ queue_of rs t)
    → qs ≡ rs
same-queues qs rs long same = ext_get_or no_queue qs rs long (λ t l. same t)

-- one title's queue written

queue_at-set : (qs : List QueueValue) (p x : ℕ) (r : QueueValue) → 0 < p → p < length qs →
    queue_at (set qs p r) x ≡ cond (x == p) r (queue_at qs x)
queue_at-set qs p x r own l = elim (cases_Bool (x == p)) [
  | inl b ↦ (let e : x ≡ p = eqb-true x p b in
      rw b (ap (queue_at (set qs p r)) e ∙ queue_at-own (set qs p r) p own
      ∙ get_or-set_same qs p r no_queue l))
  | inr b ↦ rw b (ap (λ (q : QueueValue). cond (x == 0) no_queue q)
      (get_or-set_other qs p x r no_queue (λ e. let s : (x == p) ≡ true = eq-eqb x p e in cc)))
]

module _ (k : Facts) (ps : List ℕ) (qs : List QueueValue) (is : IsPlaced k ps qs) where
  -- a place of its own is one title's
  own-place : (t u : ℕ) → 0 < place_of ps t → (place_of ps u == place_of ps t) ≡ (t == u)
  own-place t u own = elim (cases_eq t u) [
    | inl e ↦ eq-eqb (place_of ps u) (place_of ps t) (ap (place_of ps) (sym e)) ∙ sym (eq-eqb t u e)
    | inr ne ↦ ne_eqb (place_of ps u) (place_of ps t) (λ e. ne (is.apart t u own (sym e)))
        ∙ sym (ne_eqb t u ne)
  ]

  pub titles-places : length ps ≡ k.titles
  titles-places = sym (length-map ps (queue_at qs)) ∙ is.titles.titles

  written-at : (t u : ℕ) (r : QueueValue) → t < k.titles → 0 < place_of ps t →
      queue_of (queues_at (set qs (place_of ps t) r) ps) u ≡ queue_of (set (queues_at qs ps) t r) u
  written-at t u r l own =
      let other : queue_at qs (place_of ps u)
      ≡ queue_of (queues_at qs ps) u = sym (queue_of-queues_at qs ps u) in
      queue_of-queues_at (set qs (place_of ps t) r) ps u
      ∙ queue_at-set qs (place_of ps t) (place_of ps u) r own (is.within t)
      ∙ (λ i. cond (own-place t u own i) r (other i))
      ∙ sym (queue_of-set (queues_at qs ps) t r u (rw is.titles.titles l))

  -- a write of a title's own queue is a write of the title's
  pub queues-written : (t : ℕ) (r : QueueValue) → t < k.titles → 0 < place_of ps t →
      queues_at (set qs (place_of ps t) r) ps ≡ set (queues_at qs ps) t r
  queues-written t r l own =
      same-queues (queues_at (set qs (place_of ps t) r) ps) (set (queues_at qs ps) t r)
      (length-map ps (queue_at (set qs (place_of ps t) r))
      ∙ sym (length-set (queues_at qs ps) t r ∙ length-map ps (queue_at qs)))
      (λ u. written-at t u r l own)

  pub placed-written : (t : ℕ) (r : QueueValue) → t < k.titles → 0 < place_of ps t → IsQueue k r.holds →
      IsPlaced k ps (set qs (place_of ps t) r)
  placed-written t r l own queue = record {
    titles = rw (queues-written t r l own)
        (queues-set k (queues_at qs ps) t r (rw is.titles.titles l) is.titles queue);
    none = rw (get_or-set_other qs (place_of ps t) 0 r no_queue (λ e. omega arith)) is.none;
    within = λ u. rw (length-set qs (place_of ps t) r) (is.within u);
    apart = is.apart;
    count = length-set qs (place_of ps t) r ∙ is.count;
  }

  -- a new queue, behind the others

  -- there are at most as many queues of titles as titles
  pub few-queues : length qs ≤ k.titles + 1
  few-queues = omega (arith, is.count, count_by-le-length (λ p. nat_lt 0 p) ps, titles-places)

  place-added : (t u : ℕ) → t < length ps → place_of (set ps t (length qs)) u
      ≡ cond (t == u) (length qs) (place_of ps u)
  place-added t u l = elim (cases_eq t u) [
    | inl e ↦ rw (eq-eqb t u e)
        (ap (place_of (set ps t (length qs))) (sym e) ∙ get_or-set_same ps t (length qs) 0 l)
    | inr ne ↦ rw (ne_eqb t u ne) (get_or-set_other ps t u (length qs) 0 (λ e. ne (sym e)))
  ]

  queue_at-added : (q : QueueValue) (p : ℕ) → p < length qs → queue_at (qs ++ q ∷ []) p ≡ queue_at qs p
  queue_at-added q p l =
      ap (λ (r : QueueValue). cond (p == 0) no_queue r) (get_or_append_left qs (q ∷ []) no_queue p l)

  queue_at-last : (q : QueueValue) → queue_at (qs ++ q ∷ []) (length qs) ≡ q
  queue_at-last q = queue_at-own (qs ++ q ∷ []) (length qs) (omega (arith, is.count))
      ∙ get_or_push qs q no_queue (length qs) refl

  added-at : (t u : ℕ) (q : QueueValue) → t < k.titles →
      queue_of (queues_at (qs ++ q ∷ []) (set ps t (length qs))) u ≡ queue_of (set (queues_at qs ps) t q) u
  added-at t u q l =
      queue_of-queues_at (qs ++ q ∷ []) (set ps t (length qs)) u
      ∙ ap (queue_at (qs ++ q ∷ [])) (place-added t u (rw titles-places l))
      ∙ by_title (t == u)
      ∙ ap (λ (r : QueueValue). cond (t == u) q r) (sym (queue_of-queues_at qs ps u))
      ∙ sym (queue_of-set (queues_at qs ps) t q u (rw is.titles.titles l))
    where
      by_title : (b : Bool) → queue_at (qs ++ q ∷ []) (cond b (length qs) (place_of ps u))
          ≡ cond b q (queue_at qs (place_of ps u))
      by_title true = queue_at-last q
      by_title false = queue_at-added q (place_of ps u) (is.within u)

  pub queues-added : (t : ℕ) (q : QueueValue) → t < k.titles →
      queues_at (qs ++ q ∷ []) (set ps t (length qs)) ≡ set (queues_at qs ps) t q
  queues-added t q l =
      same-queues (queues_at (qs ++ q ∷ []) (set ps t (length qs))) (set (queues_at qs ps) t q)
      (length-map (set ps t (length qs)) (queue_at (qs ++ q ∷ [])) ∙ length-set ps t (length qs)
      ∙ sym (length-set (queues_at qs ps) t q ∙ length-map ps (queue_at qs)))
      (λ u. added-at t u q l)

  within-added : (t u : ℕ) → t < length ps → place_of (set ps t (length qs)) u < length qs + 1
  within-added t u l = rw (place-added t u l) (by_title (t == u))
    where
      by_title : (b : Bool) → cond b (length qs) (place_of ps u) < length qs + 1
      by_title true = omega arith
      by_title false = omega (arith, is.within u)

  apart-added : (t u w : ℕ) → t < length ps → 0 < place_of (set ps t (length qs)) u →
      place_of (set ps t (length qs)) u ≡ place_of (set ps t (length qs)) w → u ≡ w
  apart-added t u w l own same =
      by_titles (t == u) (t == w) refl refl (rw (place-added t u l) at own)
      (sym (place-added t u l) ∙ same ∙ place-added t w l)
    where
      by_titles : (a b : Bool) → (t == u) ≡ a → (t == w) ≡ b → 0 < cond a (length qs) (place_of ps u) →
          cond a (length qs) (place_of ps u) ≡ cond b (length qs) (place_of ps w) → u ≡ w
      by_titles true true p q own same = sym (eqb-true t u p) ∙ eqb-true t w q
      by_titles true false p q own same = absurd (omega (arith, is.within w))
      by_titles false true p q own same = absurd (omega (arith, is.within u))
      by_titles false false p q own same = is.apart u w own same

  count-added : (t : ℕ) → t < length ps → place_of ps t ≡ 0 →
      length qs + 1 ≡ count_by (λ p. nat_lt 0 p) (set ps t (length qs)) + 1
  count-added t l none =
      let more : count_by (λ p. nat_lt 0 p) (set ps t (length qs)) + cond (nat_lt 0 (place_of ps t)) 1 0
      ≡ count_by (λ p. nat_lt 0 p) ps + cond (nat_lt 0 (length qs)) 1 0 =
      sum_by-set (λ p. cond (nat_lt 0 p) 1 0) ps t (length qs) 0 l in
      let no : nat_lt 0 (place_of ps t) ≡ false = le-ltb 0 (place_of ps t) (omega (arith, none)) in
      let yes : nat_lt 0 (length qs) ≡ true = lt-ltb 0 (length qs) (omega (arith, is.count)) in
      omega (arith, rw (no, yes) at more, is.count)

  pub placed-added : (t : ℕ) (q : QueueValue) → t < k.titles → place_of ps t ≡ 0 → q.holds ≡ [] →
      IsPlaced k (set ps t (length qs)) (qs ++ q ∷ [])
  placed-added t q l none empty =
      let at : t < length ps = rw titles-places l in
      record {
        titles = rw (queues-added t q l)
            (queues-set k (queues_at qs ps) t q (rw is.titles.titles l) is.titles
            (queue-empty k q.holds empty));
        none = rw (get_or_append_left qs (q ∷ []) no_queue 0 (omega (arith, is.count))) is.none;
        within = λ u. rw (length_push qs q) (within-added t u at);
        apart = λ u w. apart-added t u w at;
        count = length_push qs q ∙ count-added t at none;
      }

-- no title has a queue

place-first : (n t : ℕ) → place_of (replicate n 0) t ≡ 0
place-first zero t = refl
place-first (suc n) zero = refl
place-first (suc n) (suc t) = place-first n t

pub none-first : (qs : List QueueValue) (n t : ℕ) → (queue_of (queues_at qs (replicate n 0)) t).holds ≡ []
none-first qs n t = ap (λ (q : QueueValue). q.holds) (queue-none qs (replicate n 0) t (place-first n t))

count-first : (n : ℕ) → count_by (λ p. nat_lt 0 p) (replicate n 0) ≡ 0
count-first n = sum_by-replicate (λ p. cond (nat_lt 0 p) 1 0) n 0 ∙ omega arith

pub placed-first : (k : Facts) (q : QueueValue) → AreInRange k → q.holds ≡ []
    → IsPlaced k (replicate k.titles 0) (q ∷ [])
placed-first k q range empty = record {
  titles = record {
    range = range;
    titles = length-map (replicate k.titles 0) (queue_at (q ∷ [])) ∙ length-replicate k.titles 0;
    queue = λ t. rw (queue-none (q ∷ []) (replicate k.titles 0) t (place-first k.titles t))
        (queue-empty k [] refl);
  };
  none = empty;
  within = λ t. rw (place-first k.titles t) (omega arith);
  apart = λ t u own same. absurd (omega (arith, own, place-first k.titles t));
  count = rw (count-first k.titles) refl;
}
