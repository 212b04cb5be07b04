-- The holds of all titles, as the code reads and writes them.
use Rattle.std.proofs.Common.{◌≡◌, ℕ, ◌+◌, ◌<◌, ◌≤◌, ◌^◌, ◌==◌, ◌&&◌, Bool, true, false, cond, List, [], ◌∷◌}
use Rattle.std.proofs.Common.{◌++◌, Option, None, Some}
use Rattle.std.proofs.Common.{Result, Ok, Err, OnOk, OnErr, refl, ap, sym, subst, ◌∙◌, inl, inr, arith}
use Rattle.std.proofs.Common.{length, get_or}
use Rattle.std.proofs.Math.ListN.{set}
use Rattle.std.proofs.lemmas.Bool.{cases_eq, eq-eqb, ne_eqb, eqb-true}
use Rattle.std.proofs.lemmas.List.{get_or_read, set-get_or}
use Rattle.hd_rules.specs.declared.holds.Hold.{Hold}
use Rattle.hd_rules.specs.Facts.{Facts}
use Rattle.hd_catalogue.specs.Contents.{Contents, facts_of}
use Rattle.hd_queue.specs.Holds.{hold_of}
use Rattle.hd_queue.specs.QueueValue.{QueueValue}
use Rattle.hd_holds.specs.HoldsValue.{HoldsValue}
use Rattle.hd_holds.specs.Held.{IsQueue, facts, patron_hold, no_queue, queue_of, queue_room, room_of}
use Rattle.hd_holds.specs.declared.held_title.HeldTitle.{HeldTitle}
use Rattle.hd_holds.specs.HeldListsValue.{AreListed, HeldListsValue}
use Rattle.hd_holds.specs.Places.{HasOneMore, IsPlaced, kept, queues_at}
use Rattle.hd_holds.proofs.Queues.{Reads, held-ready, queue_of-set, reads-within, written}
use Rattle.hd_holds.proofs.Placed.{few-queues, place_of, placed-added, placed-written, queue-none, queue-own}
use Rattle.hd_holds.proofs.Placed.{queues-added, queues-written, titles-places}

-- a title's queue written

module _ {v w : HoldsValue} {t : ℕ} {q : QueueValue} (reads : Reads v w t q) where
  pub room-read : queue_room w t ≡ q.room
  room-read = ap (λ (x : HoldsValue). (queue_of x.queues t).room) (sym reads.same)
      ∙ ap (λ (x : QueueValue). x.room) (sym reads.read)

  room-set : (r : QueueValue) (u : ℕ) → queue_room (written v t r) u ≡ cond (t == u) r.room (queue_room w u)
  room-set r u =
      ap (λ (x : QueueValue). x.room) (queue_of-set v.queues t r u (reads-within reads)) ∙ by_title (t == u)
    where
      by_title : (b : Bool) → (cond b r (queue_of v.queues u)).room ≡ cond b r.room (queue_of w.queues u).room
      by_title true = refl
      by_title false = ap (λ (x : HoldsValue). (queue_of x.queues u).room) reads.same

  -- no title has less room than before by more than this title's queue
  pub room-kept : (r : QueueValue) (n u : ℕ) → q.room ≤ r.room + n
      → queue_room w u ≤ queue_room (written v t r) u + n
  room-kept r n u le = elim (cases_eq t u) [
    | inl e ↦ (let new : queue_room (written v t r) u ≡ r.room = room-set r u ∙ rw (eq-eqb t u e) refl in
        let old : queue_room w u ≡ q.room = ap (queue_room w) (sym e) ∙ room-read in
        omega (arith, new, old))
    | inr ne ↦ (let new : queue_room (written v t r) u ≡ queue_room w u = room-set r u
        ∙ rw (ne_eqb t u ne) refl in omega (arith, new))
  ]

  room-new : (r : QueueValue) → queue_room (written v t r) t ≡ r.room
  room-new r = room-set r t ∙ rw (eq-eqb t t refl) refl

  -- the title's queue as it was
  pub written-same : written v t q ≡ w
  written-same =
      ap (written v t) reads.read
      ∙ ap (λ (qs : List QueueValue). record v { queues = qs }) (set-get_or v.queues t no_queue) ∙ reads.same

-- what making room for more of a title's holds comes to
pub record IsReady {T E : Type 0} (o : Result T E) (old new : HoldsValue) (t more : ℕ) : Type 0 where
  pub held : patron_hold new ≡ patron_hold old
  pub contents : new.contents ≡ old.contents
  pub lists : new.room ≡ old.room
  pub ok : OnOk o (more ≤ queue_room new t)
  pub err : OnErr o (new ≡ old)
  pub full : OnErr o (queue_room old t < more)
  pub room : (u : ℕ) → queue_room old u ≤ queue_room new u

pub ready-written : {T E : Type 0} (o : Result T E) {v w : HoldsValue} {t : ℕ} {q : QueueValue}
    → Reads v w t q →
    (new : HoldsValue) (more : ℕ) (r : QueueValue) → new ≡ written v t r → r.holds ≡ q.holds
    → OnOk o (more ≤ r.room) → OnErr o (r ≡ q) → OnErr o (q.room < more) → q.room ≤ r.room →
    IsReady o w new t more
ready-written (Ok x) {v} reads new more r is holds ok err full room = record {
  held = ap patron_hold is ∙ held-ready reads r holds;
  contents = ap (λ (x : HoldsValue). x.contents) is ∙ ap (λ (x : HoldsValue). x.contents) reads.same;
  lists = ap (λ (x : HoldsValue). x.room) is ∙ ap (λ (x : HoldsValue). x.room) reads.same;
  ok = rw (is, room-new reads r) ok;
  err = tt;
  full = tt;
  room = λ u. rw is (omega (arith, room-kept reads r 0 u (omega arith)));
}
ready-written (Err e) {v} {w} {t} reads new more r is holds ok err full room = record {
  held = ap patron_hold is ∙ held-ready reads r holds;
  contents = ap (λ (x : HoldsValue). x.contents) is ∙ ap (λ (x : HoldsValue). x.contents) reads.same;
  lists = ap (λ (x : HoldsValue). x.room) is ∙ ap (λ (x : HoldsValue). x.room) reads.same;
  ok = tt;
  err = is ∙ ap (written v t) err ∙ written-same reads;
  full = rw (room-read reads) full;
  room = λ u. rw is (omega (arith, room-kept reads r 0 u (omega arith)));
}

-- where there is room for a hold of a title, its queue has room and the patrons' lists do
pub queue-some : (v : HoldsValue) (t : ℕ) → 0 < room_of v t → 0 < queue_room v t
unfolding room_of
queue-some v t some = omega (arith, some)

pub lists-some : (v : HoldsValue) (t : ℕ) → 0 < room_of v t → 0 < v.room
unfolding room_of
lists-some v t some = omega (arith, some)

-- room in the patrons' lists says nothing of what is held
pub held-room : (v : HoldsValue) (n : ℕ) → patron_hold (record v { room = n }) ≡ patron_hold v
unfolding patron_hold
held-room v n = refl

-- no title has less room than before by more than its queue or the patrons' lists
pub room-less : (v w : HoldsValue) (n : ℕ) → ((t : ℕ) → queue_room v t ≤ queue_room w t + n)
    → v.room ≤ w.room + n → (t : ℕ) → room_of v t ≤ room_of w t + n
unfolding room_of
room-less v w n queues lists t = omega (arith, queues t, lists)

-- a title without a queue has no hold, and no room for one
pub held-none : {v w : HoldsValue} {t : ℕ} → Reads v w t no_queue → (p : ℕ) (o : Option Hold)
    → ((x : Hold) → o ≡ Some x → 0 < queue_room w t) →
    patron_hold w ≡ (λ u n. cond ((t == u) && (p == n)) o (patron_hold w u n))
unfolding patron_hold
held-none {v} {w} {t} reads p None room = λ j u n. each u n j
  where
    none : (n : ℕ) → hold_of (queue_of w.queues t).holds n ≡ None
    none n = ap (λ (x : HoldsValue). hold_of (queue_of x.queues t).holds n) (sym reads.same)
        ∙ ap (λ (x : QueueValue). hold_of x.holds n) (sym reads.read)

    each : (u n : ℕ) → hold_of (queue_of w.queues u).holds n
        ≡ cond ((t == u) && (p == n)) None (hold_of (queue_of w.queues u).holds n)
    each u n = by_title (t == u) refl (p == n)
      where
        by_title : (b : Bool) → (t == u) ≡ b → (d : Bool) →
            hold_of (queue_of w.queues u).holds n ≡ cond (b && d) None (hold_of (queue_of w.queues u).holds n)
        by_title true e true = ap (λ (x : ℕ). hold_of (queue_of w.queues x).holds n) (sym (eqb-true t u e))
            ∙ none n
        by_title true e false = refl
        by_title false e d = refl
held-none {v} {w} {t} reads p (Some x) room =
    let some : 0 < queue_room w t = room x refl in
    let none : queue_room w t ≡ 0 = room-read reads in
    absurd (omega arith)

-- the place of a title, as the code reads it, of holds w
pub record ReadsPlace (contents : Contents) (ps : List ℕ) (qs : List QueueValue) (n : ℕ) (w : HoldsValue)
    (i t p : ℕ) : Type 0 where
  pub same : kept contents ps qs n ≡ w
  pub all : IsPlaced (facts_of contents) ps qs
  pub index : i ≡ t
  pub within : t < (facts w).titles
  pub read : p ≡ get_or ps i p

-- a title has a place
pub index-within : {contents : Contents} {ps : List ℕ} {qs : List QueueValue} {n : ℕ} {w : HoldsValue}
    {i t : ℕ} → kept contents ps qs n ≡ w →
    IsPlaced (facts_of contents) ps qs → i ≡ t → t < (facts w).titles → i < length ps
index-within {contents} {ps} {qs} {n} {w} {i} {t} same all index within =
    let P : HoldsValue → Type 0 = λ x. t < (facts x).titles in
    omega (arith, index, subst P (sym same) within, titles-places (facts_of contents) ps qs all)

-- and there are few queues
pub queues-few : {k : Facts} {ps : List ℕ} {qs : List QueueValue} → IsPlaced k ps qs → length qs < 2 ^ 32
queues-few {k} {ps} {qs} all = omega (arith, few-queues k ps qs all, all.titles.range.titles)

module _ {contents : Contents} {ps : List ℕ} {qs : List QueueValue} {n : ℕ} {w : HoldsValue} {i t p : ℕ}
    (at : ReadsPlace contents ps qs n w i t p) where
  of_title : t < (facts_of contents).titles
  of_title = let P : HoldsValue → Type 0 = λ x. t < (facts x).titles in subst P (sym at.same) at.within

  is-place : p ≡ place_of ps t
  is-place =
      get_or_read ps i p (omega (arith, at.index, of_title, titles-places (facts_of contents) ps qs at.all))
      at.read 0
      ∙ ap (place_of ps) at.index

  pub place-within : p < length qs
  place-within = omega (arith, is-place, at.all.within t)

  -- a queue of its own
  module _ (own : 0 < p) where
    own-place : 0 < place_of ps t
    own-place = omega (arith, is-place)

    pub reads-own : (q : QueueValue) → q ≡ get_or qs p q → Reads (kept contents ps qs n) w t q
    reads-own q read = record {
      same = at.same;
      within = at.within;
      read = get_or_read qs p q (omega (arith, is-place, at.all.within t)) read no_queue
          ∙ ap (queue_of qs) is-place
          ∙ queue-own qs ps t own-place;
      all = at.all.titles;
    }

    pub written-own : (r : QueueValue) → kept contents ps (set qs p r) n ≡ written (kept contents ps qs n) t r
    written-own r = ap (λ (m : ℕ). kept contents ps (set qs m r) n) is-place
        ∙ ap (λ (ls : List QueueValue). record { contents = contents; queues = ls; room = n })
        (queues-written (facts_of contents) ps qs at.all t r of_title own-place)

    pub placed-own : (r : QueueValue) → IsQueue (facts_of contents) r.holds
        → IsPlaced (facts_of contents) ps (set qs p r)
    placed-own r is =
        let P : ℕ → Type 0 = λ n. IsPlaced (facts_of contents) ps (set qs n r) in
        subst P (sym is-place) (placed-written (facts_of contents) ps qs at.all t r of_title own-place is)

  -- no queue yet
  module _ (none : p ≡ 0) where
    no-place : place_of ps t ≡ 0
    no-place = sym is-place ∙ none

    pub reads-none : Reads (kept contents ps qs n) w t no_queue
    reads-none = record {
      same = at.same;
      within = at.within;
      read = sym (queue-none qs ps t no-place);
      all =
          at.all.titles;
    }

    -- after one was added for the title, or there was no memory for it
    module _ (new_ps : List ℕ) (new_qs : List QueueValue) (more : ℕ) (some : 0 < more) where
      pub ready-added : {T E : Type 0} (o : Result T E) → OnOk o (new_ps ≡ set ps i (length qs))
          → OnOk o (HasOneMore more qs new_qs) →
          OnErr o (new_ps ≡ ps) → OnErr o (new_qs ≡ qs) → IsReady o w (kept contents new_ps new_qs n) t more
      ready-added (Ok x) places queues same_places same_queues =
          let new : kept contents new_ps new_qs n ≡ written (kept contents ps qs n) t queues.0 =
          (λ j. kept contents (places j) (queues.1 j) n)
          ∙ ap (λ (m : ℕ). kept contents (set ps m (length qs)) (qs ++ queues.0 ∷ []) n) at.index
          ∙ ap (λ (ls : List QueueValue). record { contents = contents; queues = ls; room = n })
          (queues-added (facts_of contents) ps qs at.all t queues.0 of_title) in
          ready-written (Ok x) reads-none (kept contents new_ps new_qs n) more queues.0 new queues.2 queues.3
          tt tt (omega arith)
      ready-added (Err e) places queues same_places same_queues =
          let new : kept contents new_ps new_qs n ≡ written (kept contents ps qs n) t no_queue =
          (λ j. kept contents (same_places j) (same_queues j) n) ∙ at.same
          ∙ sym (written-same reads-none) in
          ready-written (Err e) reads-none (kept contents new_ps new_qs n) more no_queue new refl tt refl some
          (omega arith)

      pub placed-ready : {T E : Type 0} (o : Result T E) → OnOk o (new_ps ≡ set ps i (length qs))
          → OnOk o (HasOneMore more qs new_qs) →
          OnErr o (new_ps ≡ ps) → OnErr o (new_qs ≡ qs) → IsPlaced (facts_of contents) new_ps new_qs
      placed-ready (Ok x) places queues same_places same_queues =
          rw (places, queues.1, at.index)
          (placed-added (facts_of contents) ps qs at.all t queues.0 of_title no-place queues.2)
      placed-ready (Err e) places queues same_places same_queues = rw (same_places, same_queues) at.all

-- what is listed, where the patrons' lists got room or gave it up
pub listed-room : (v w : HeldListsValue) (h : HoldsValue) (n : ℕ) → w.lists ≡ v.lists
    → AreListed v (patron_hold h) →
    AreListed w (patron_hold (record h { room = n }))
listed-room v w h n same listed =
    subst (AreListed w) (sym (held-room h n))
    (subst (λ (ls : List (List HeldTitle)). AreListed (record { lists = ls; room = 0 }) (patron_hold h))
    (sym same) listed)
