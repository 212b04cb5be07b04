-- Texts that are printed one after the other.
use Rattle.std.proofs.Common.{◌≡◌, ◌∙◌, ℕ, List, [], ◌∷◌, ◌++◌, Result, Ok, Err, IsErr, decimal, flat_map}
use Rattle.std.proofs.Common.{take, drop, refl, sym, ap}
use Rattle.std.proofs.Common.{append_assoc, append-nil, take-append-drop}
use Rattle.std.proofs.lemmas.Bool.{false≢true}
use Rattle.std.proofs.lemmas.List.Concat.{flat_map-append}
use Rattle.std.specs.Borrow.{Bor}
use Rattle.hd_replay.specs.Printing.{BeginsWith, PrintsBehind, printed_line}

-- behind a text that was printed whole
pub prints_after : {E : Type 0} (out between out' text more : List ℕ) (r : Result (Unit {0}) E) → between
    ≡ out ++ text →
    PrintsBehind between out' more r → PrintsBehind out out' (text ++ more) r
prints_after out between out' text more (Ok done) first rest = rest
    ∙ (ap (λ (t : List ℕ). t ++ more) first ∙ append_assoc out text more)
prints_after out between out' text more (Err fault) first rest = (
  text ++ rest.0,
  (rest.1.0, ap (λ (t : List ℕ). text ++ t) rest.1.1 ∙ sym (append_assoc text rest.0 rest.1.0)),
  rest.2
      ∙ (ap (λ (t : List ℕ). t ++ rest.0) first ∙ append_assoc out text rest.0),
)

-- the parts of a line that is printed, up to one of them
pub line_begins : (session : ℕ) (number blank text feed : Bor (List ℕ)) (i : ℕ) → number.now ≡ decimal session
    → blank.now ≡ 32 ∷ [] →
    feed.now ≡ 10 ∷ []
    → BeginsWith (printed_line session text.now)
    (flat_map (λ part. part.now) (take i (number ∷ blank ∷ text ∷ feed ∷ [])))
line_begins session number blank text feed i is_number is_blank is_feed =
    let parts = number ∷ blank ∷ text ∷ feed ∷ [] in
    let whole : printed_line session text.now ≡ flat_map (λ (part : Bor (List ℕ)). part.now) parts =
    rw (is_number, is_blank, is_feed) refl in (
      flat_map (λ part. part.now) (drop i parts),
      whole
          ∙ (ap (flat_map (λ (part : Bor (List ℕ)). part.now)) (sym (take-append-drop i parts))
          ∙ flat_map-append (λ (part : Bor (List ℕ)). part.now) (take i parts) (drop i parts)),
    )

-- a text is printed up to some point
pub printed_part : {E : Type 0} (out out' text part : List ℕ) (r : Result (Unit {0}) E) → IsErr r
    → BeginsWith text part → out' ≡ out ++ part →
    PrintsBehind out out' text r
printed_part out out' text part (Ok done) err begins is = absurd (false≢true err)
printed_part out out' text part (Err fault) err begins is = (part, begins, is)

-- some replies, and part of another
pub line_within : (session : ℕ) (done later : List (List ℕ)) (reply part : List ℕ)
    → BeginsWith (printed_line session reply) part →
    BeginsWith (flat_map (printed_line session) (done ++ reply ∷ later))
    (flat_map (printed_line session) done ++ part)
line_within session done later reply part begins =
    let front = flat_map (printed_line session) done in
    let behind = flat_map (printed_line session) later in (
      begins.0 ++ behind,
      flat_map-append (printed_line session) done (reply ∷ later)
          ∙ (ap (λ (t : List ℕ). front ++ (t ++ behind)) begins.1
          ∙ (ap (λ (t : List ℕ). front ++ t) (append_assoc part begins.0 behind)
          ∙ sym (append_assoc front part (begins.0 ++ behind)))),
    )

-- one reply more
pub line_printed : (session : ℕ) (out between out' reply : List ℕ) (done : List (List ℕ)) →
    between ≡ out ++ flat_map (printed_line session) done → out' ≡ between ++ printed_line session reply →
    out' ≡ out ++ flat_map (printed_line session) (done ++ reply ∷ [])
line_printed session out between out' reply done first then =
    then ∙ (ap (λ (t : List ℕ). t ++ printed_line session reply) first
    ∙ (append_assoc out (flat_map (printed_line session) done) (printed_line session reply)
    ∙ ap (λ (t : List ℕ). out ++ t)
    (ap (λ (t : List ℕ). flat_map (printed_line session) done ++ t)
    (sym (append-nil (printed_line session reply)))
    ∙ sym (flat_map-append (printed_line session) done (reply ∷ [])))))

-- what begins a text begins a longer one
pub begins_more : (text more part : List ℕ) → BeginsWith text part → BeginsWith (text ++ more) part
begins_more text more part begins =
    (begins.0 ++ more, ap (λ (t : List ℕ). t ++ more) begins.1 ∙ append_assoc part begins.0 more)
