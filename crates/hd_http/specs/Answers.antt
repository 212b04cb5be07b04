-- What is answered.
use Rattle.std.specs.Prelude.{ℕ, List, codes}
use Rattle.hd_json.specs.Texts.{Member, array_text}
use Rattle.hd_http.specs.declared.reply.Status.TheVariants.{Ok, Accepted, BadRequest, NotFound, Unavailable}
use Rattle.hd_http.specs.declared.reply.Media.TheVariants.{Html, Json, Metrics}
use Rattle.hd_http.specs.declared.state.Health.{Health}
use Rattle.hd_http.specs.declared.state.Health.TheVariants.{Well, Shut, Full, Gone}
use Rattle.hd_http.specs.declared.state.State.{State}
use Rattle.hd_http.specs.declared.view.ViewFault.{ViewFault}
use Rattle.hd_http.specs.Faults.{fault_text}
use Rattle.hd_http.specs.Metrics.{metrics_text}
use Rattle.hd_http.specs.Replies.{Answer, refusal, words}

-- refusals
abbrev pub bad_request : Answer
bad_request = refusal BadRequest

abbrev pub not_found : Answer
not_found = refusal NotFound

-- that a stop is under way
abbrev pub accepted : Answer
accepted = refusal Accepted

-- rows, as JSON
abbrev pub rows_answer : List (List Member) → Answer
rows_answer rows = record { status = Ok; media = Json; body = array_text rows }

-- that nothing can be shown now, and why
abbrev pub fault_answer : ViewFault → Answer
fault_answer fault = words Unavailable (fault_text fault)

-- that the library can do its work, or why it can't
abbrev pub health_answer : Health → Answer
health_answer Well = words Ok (codes "ok")
health_answer Shut = words Unavailable (codes "the journal is shut")
health_answer Full = words Unavailable (codes "no seat can be had")
health_answer Gone = words Unavailable (codes "the journal's file is gone")

-- the state, for Prometheus
abbrev pub metrics_answer : State → Answer
metrics_answer state = record { status = Ok; media = Metrics; body = metrics_text state }

-- the page
abbrev pub page_answer : List ℕ → Answer
page_answer text = record { status = Ok; media = Html; body = text }
