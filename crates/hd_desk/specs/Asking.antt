-- How a plan is followed at a desk, question by question.
use Rattle.std.specs.Prelude.{◌≡◌, ℕ, ◌<◌, ◌≤◌, Option, None, Some, Result, Ok}
use Rattle.std.specs.Prelude.{Err, List, [], ◌∷◌, ◌++◌, map}
use Rattle.hd_rules.specs.declared.questions.Question.{Question}
use Rattle.hd_rules.specs.declared.holds.Hold.{Hold}
use Rattle.hd_rules.specs.declared.questions.Finding.{Finding}
use Rattle.hd_rules.specs.declared.cells.Change.{Change}
use Rattle.hd_rules.specs.declared.replies.Refusal.{Refusal}
use Rattle.hd_rules.specs.declared.replies.Reply.{Reply}
use Rattle.hd_rules.specs.Facts.{Facts}
use Rattle.hd_rules.specs.Desk.{Desk}
use Rattle.hd_rules.specs.Ask.{Plan, Ask, Refuse, Accept, Done, answer}
use Rattle.hd_rules.specs.Known.{IsKnownQuestion}
use Rattle.hd_queue.specs.Holds.{HasPatronsOnce, IsInOrder, hold_of}
use Rattle.hd_holds.specs.Held.{queue_of}
use Rattle.hd_desk.specs.DeskValue.{DeskValue}
use Rattle.hd_desk.specs.Desks.{facts, desk_of}

-- a desk, and what it was asked
pub record InquiryValue : Type 0 where
  pub desk : DeskValue
  pub asked : List Question

-- the questions of findings
abbrev pub asked_of : List Finding → List Question
asked_of fs = map (λ (f : Finding). f.question) fs

-- where a plan leads at a desk: how it ends, and all that was asked until then, that before it included
abbrev pub ending : Facts → Desk → Plan → List Question → Result Done Refusal × List Question
ending k d (Ask q rest) asked = ending k d (rest (answer k d q)) (asked ++ q ∷ [])
ending k d (Refuse r) asked = (Err r, asked)
ending k d (Accept done) asked = (Ok done, asked)

-- what is told of a command, with its changes where it is accepted
abbrev pub told_with : List Change → Result Reply Refusal → Result Done Refusal
told_with changes (Ok reply) = Ok (record { changes = changes; reply = reply })
told_with changes (Err refusal) = Err refusal

-- where it leads from here
abbrev pub ending_of : InquiryValue → Plan → Result Done Refusal × List Question
ending_of q plan = ending (facts q.desk) (desk_of q.desk) plan q.asked

-- a change, or none, as a list
abbrev pub as_list : Option Change → List Change
as_list None = []
as_list (Some change) = change ∷ []

-- questions about things of the catalogue
abbrev pub AreKnownQuestions : Facts → List Question → Type 0
AreKnownQuestions k [] = Unit {0}
AreKnownQuestions k (q ∷ qs) = IsKnownQuestion k q × AreKnownQuestions k qs

-- the holds of a title at a desk, in order of stamp, each patron's once
pub record IsQueueOf (k : Facts) (d : Desk) (t : ℕ) (holds : List Hold) : Type 0 where
  pub each : (p : ℕ) → d.hold t p ≡ hold_of holds p
  pub ordered : IsInOrder holds
  pub once : HasPatronsOnce holds

-- Each title's holds in order of stamp. Past the last title nobody has a hold.
pub record AreQueuesOf (k : Facts) (d : Desk) (queues : ℕ → List Hold) : Type 0 where
  pub queue : (t : ℕ) → t < k.titles → IsQueueOf k d t (queues t)
  pub past : (t p : ℕ) → k.titles ≤ t → d.hold t p ≡ None

-- the holds of each title, as the desk has them
unfoldable pub queues_of : DeskValue → ℕ → List Hold
queues_of d t = (queue_of d.holds.queues t).holds
