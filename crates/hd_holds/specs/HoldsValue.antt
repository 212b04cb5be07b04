-- What the holds of a library are to their users.
use Rattle.std.specs.Prelude.{ℕ, List}
use Rattle.hd_catalogue.specs.Contents.{Contents}
use Rattle.hd_queue.specs.QueueValue.{QueueValue}

-- what its catalogue says, the queue of each title, by number, and how many more holds the patrons' lists
-- have room for
pub record HoldsValue : Type 0 where
  pub contents : Contents
  pub queues : List QueueValue
  pub room : ℕ
