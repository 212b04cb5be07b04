-- The places of the titles' queues.
use Rattle.std.specs.Prelude.{◌≡◌, ℕ, ◌+◌, ◌<◌, ◌≤◌, ◌==◌, nat_lt, if◌then◌else◌, List, [], ◌∷◌, ◌++◌}
use Rattle.std.specs.Prelude.{length, map, count_by, slice_index}
use Rattle.hd_rules.specs.Facts.{Facts}
use Rattle.hd_catalogue.specs.Contents.{Contents}
use Rattle.hd_queue.specs.QueueValue.{QueueValue}
use Rattle.hd_holds.specs.HoldsValue.{HoldsValue}
use Rattle.hd_holds.specs.Held.{AreQueues, no_queue, queue_of}

-- the queue at a place; a title at place 0 has none
abbrev pub queue_at : List QueueValue → ℕ → QueueValue
queue_at queues place = if place == 0 then no_queue else queue_of queues place

-- the queue of each title, by its place
abbrev pub queues_at : List QueueValue → List ℕ → List QueueValue
queues_at queues places = map (queue_at queues) places

-- The queues of the titles stand at these places: one without holds at place 0, and at each other place that
-- of just one title.
pub record IsPlaced (k : Facts) (places : List ℕ) (queues : List QueueValue) : Type 0 where
  pub titles : AreQueues k (queues_at queues places)
  pub none : (queue_of queues 0).holds ≡ []
  pub within : (t : ℕ) → slice_index places t < length queues
  pub apart : (t u : ℕ) → 0 < slice_index places t → slice_index places t ≡ slice_index places u → t ≡ u
  pub count : length queues ≡ count_by (λ p. nat_lt 0 p) places + 1

-- the holds of these queues, which stand at these places
abbrev pub kept : Contents → List ℕ → List QueueValue → ℕ → HoldsValue
kept contents places queues room =
    record { contents = contents; queues = queues_at queues places; room = room }

-- one more queue stands last, without holds, and with room for that many
abbrev pub HasOneMore : ℕ → List QueueValue → List QueueValue → Type 0
HasOneMore more old new = (q : QueueValue) × (new ≡ old ++ q ∷ []) × (q.holds ≡ []) × (more ≤ q.room)
