-- What is shown at a target.
use Rattle.std.specs.Prelude.{◌≡◌, ℕ, List, Option, Some, None}
use Rattle.hd_lists.specs.declared.question.Question.{Question}
use Rattle.hd_lists.specs.declared.question.Heard.{Heard}
use Rattle.hd_lists.specs.declared.question.Heard.TheVariants.{Nothing, Malformed, Asked}
use Rattle.hd_lists.specs.Cuts.{after_mark, before_mark}
use Rattle.hd_lists.specs.Hearing.{heard_in}
use Rattle.hd_http.specs.declared.place.Place.{Place}
use Rattle.hd_http.specs.declared.place.Place.TheVariants.{Home, Health, Metrics}
use Rattle.hd_http.specs.declared.state.State.{State}
use Rattle.hd_http.specs.Answers.{fault_answer, health_answer, metrics_answer, page_answer, rows_answer}
use Rattle.hd_http.specs.Answers.{bad_request, not_found}
use Rattle.hd_http.specs.Places.{place_of}
use Rattle.hd_http.specs.Replies.{Answer}
use Rattle.hd_http.specs.Sights.{Sight, Rows, NoSuchName, NoSuchDay, NoSight}

-- what there is to show: the page, what may be seen of what is asked, and the states that may be told
pub record Shown : Type 1 where
  pub page : List ℕ
  pub shows : Question (List ℕ) → Sight → Type 0
  pub tells : State → Type 0

-- the answer to what is seen
abbrev pub sight_answer : Sight → Answer
sight_answer (Rows rows) = rows_answer rows
sight_answer NoSuchName = not_found
sight_answer NoSuchDay = bad_request
sight_answer (NoSight fault) = fault_answer fault

-- what is asked is answered by what may be seen of it
abbrev pub ShowsAsked : (Question (List ℕ) → Sight → Type 0) → Question (List ℕ) → Answer → Type 0
ShowsAsked shows asked a = (sight : Sight) × shows asked sight × (a ≡ sight_answer sight)

-- the same; a target that names no list is not found, and one that asks it otherwise is a bad request
abbrev pub AnswersHeard : (Question (List ℕ) → Sight → Type 0) → Heard (List ℕ) → Answer → Type 0
AnswersHeard shows Nothing a = a ≡ not_found
AnswersHeard shows Malformed a = a ≡ bad_request
AnswersHeard shows (Asked asked) a = ShowsAsked shows asked a

-- the answer that some state gives that may be told
abbrev pub ShowsState : (State → Type 0) → (State → Answer) → Answer → Type 0
ShowsState tells answer a = (state : State) × tells state × (a ≡ answer state)

-- the answer at a place that is no list: it has no query
abbrev pub ShowsPlace : Shown → Place → Option (List ℕ) → Answer → Type 0
ShowsPlace s _ (Some query) a = a ≡ bad_request
ShowsPlace s Home None a = a ≡ page_answer s.page
ShowsPlace s Health None a = ShowsState s.tells (λ state. health_answer state.health) a
ShowsPlace s Metrics None a = ShowsState s.tells metrics_answer a

abbrev pub ShowsAt : Shown → Option Place → List ℕ → Answer → Type 0
ShowsAt s None target a = AnswersHeard s.shows (heard_in target) a
ShowsAt s (Some place) target a = ShowsPlace s place (after_mark 63 target) a

-- The answer to a target. Its path ends at the first ?, and its query is all after that.
abbrev pub Shows : Shown → List ℕ → Answer → Type 0
Shows s target a = ShowsAt s (place_of (before_mark 63 target)) target a
