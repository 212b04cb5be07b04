-- A request has one head, and so one number of fields.
use Rattle.std.proofs.Common.{◌≡◌, ◌≢◌, ◌<◌, ◌≤◌, ℕ, List, [], length, take, Result, Ok, Err}
use Rattle.std.proofs.Common.{◌∙◌, ap, append-nil, arith, subst, sym}
use Rattle.std.proofs.lemmas.List.{length-map, length-take-le}
use Rattle.httparse.proofs.GrammarLemmas.{request_unique}
use Rattle.httparse.specs.Grammar.{HasNoRequest, NeverHasRequest, ReadsRequest, RequestHead}
use Rattle.httparse.specs.Outcome.{IfComplete, OnInvalid, OnPartial}
use Rattle.httparse.specs.Spans.{IsRequestOf, IsRequestWithin, header_bytes, name_and_value}
use Rattle.httparse.specs.declared.Error.{Error}
use Rattle.httparse.specs.declared.Error.TheVariants.{TooManyHeaders}
use Rattle.httparse.specs.declared.Status.{Status}
use Rattle.httparse.specs.declared.Status.TheVariants.{Complete, Partial}
use Rattle.httparse.specs.declared.spans.HeaderSpan.{HeaderSpan}
use Rattle.httparse.specs.declared.spans.RequestSpans.{RequestSpans}

-- where spans cover a head, there was room for the fields of each head
fields_fit : (request : List ℕ) (spans : List HeaderSpan) (found : RequestSpans)
    → IsRequestWithin request spans found → IsRequestOf request spans found
    → (head : RequestHead) (rest : List ℕ) → ReadsRequest request head rest
    → length head.fields ≤ length spans
fields_fit request spans found within (other, covered) head rest reads =
    let same = (request_unique request other head _ rest covered.reads reads).0 in
    let count : length other.fields ≡ found.headers =
    sym (length-map other.fields name_and_value) ∙ ap length (sym covered.fields)
    ∙ length-map (take found.headers spans) (header_bytes request)
    ∙ length-take-le found.headers spans within.section.count_fits in
    subst (λ (h : RequestHead). length h.fields ≤ length spans) same
    (rw count within.section.count_fits)

-- a request with more fields than there is room for is refused for that alone
pub no_other_fault : (request : List ℕ) (spans : List HeaderSpan) (r : Result (Status RequestSpans) Error)
    → IfComplete r (IsRequestWithin request spans) → IfComplete r (IsRequestOf request spans)
    → OnPartial r (HasNoRequest request) → OnInvalid r (NeverHasRequest request)
    → (head : RequestHead) (rest : List ℕ) → ReadsRequest request head rest
    → length spans < length head.fields → ¬ (r ≢ Err TooManyHeaders)
no_other_fault request spans (Ok (Complete found)) within covered _ _ head rest reads over other =
    let fit = fields_fit request spans found within covered head rest reads in omega arith
no_other_fault request spans (Ok Partial) _ _ none _ head rest reads over other = none head rest reads
no_other_fault request spans (Err error) _ _ _ never head rest reads over other =
    never (λ same. other (ap Err same)) [] head rest (rw append-nil reads)
