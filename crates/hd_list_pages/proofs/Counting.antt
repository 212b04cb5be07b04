-- What is counted, when one turn more is.
use Rattle.std.proofs.Common.{arith, ◌≡◌, ◌≢◌, refl, sym, ◌∙◌, ap, subst, ℕ, suc, ◌+◌, ◌<◌, ◌≤◌, ◌==◌, Bool}
use Rattle.std.proofs.Common.{true, false, cond, List, length, get_or, set, Option, Some, None}
use Rattle.std.specs.Prelude.{nat_lt, option_and_then}
use Rattle.std.proofs.lemmas.Bool.{eqb-true, eqb-false}
use Rattle.std.proofs.lemmas.List.{get_or-set_same, get_or-set_other}
use Rattle.hd_rules.specs.Messages.{is_query}
use Rattle.hd_rules.specs.Journal.{Turn}
use Rattle.hd_journal.specs.Books.{turn_numbered}
use Rattle.hd_list_pages.specs.declared.tallied.TurnTallies.{TurnTallies}
use Rattle.hd_list_pages.specs.Tallies.{Counted, counted, counted_with, last_with}
use Rattle.hd_list_pages.specs.Counting.{IsOf, last_in, noted, seen_in, tallies_then}

-- the last turns by terminal
last_noted : (turns : List Turn) (numbers : List (Option ℕ)) (turn : Turn) (n : ℕ)
    → turn.message.terminal < length numbers → turn_numbered turns n ≡ Some turn
    → last_in turns (noted numbers turn n) ≡ last_with (last_in turns numbers) turn
last_noted turns numbers turn n below is = by_test (is_query turn.message.asked)
  where
    place : ℕ
    place = turn.message.terminal

    at : (t : ℕ) (b : Bool) → (t == place) ≡ b
        → option_and_then (turn_numbered turns) (get_or (set numbers place (Some n)) t None)
        ≡ cond b (Some turn) (last_in turns numbers t)
    at t true same =
        let own : t ≡ place = eqb-true t place same in
        ap (λ (m : ℕ). option_and_then (turn_numbered turns) (get_or (set numbers place (Some n)) m None)) own
        ∙ ap (option_and_then (turn_numbered turns)) (get_or-set_same numbers place (Some n) None below)
        ∙ is
    at t false same =
        let other : t ≢ place = eqb-false t place same in
        ap (option_and_then (turn_numbered turns)) (get_or-set_other numbers place t (Some n) None other)

    by_test : (b : Bool)
        → last_in turns (cond b numbers (set numbers place (Some n)))
        ≡ cond b (last_in turns numbers) (λ t. cond (t == place) (Some turn) (last_in turns numbers t))
    by_test true = refl
    by_test false = λ j t. at t (t == place) refl j

-- one turn more
pub one_more : (turns : List Turn) (old new : TurnTallies) (turn : Turn) (n : ℕ)
    → Some turn ≡ turn_numbered turns n → n ≡ old.place + 1 → old.place < length turns
    → new.begun ≡ old.begun → new.place ≡ n → new.turns ≡ tallies_then turns old turn n
    → length new.last.items ≡ length old.last.items
    → (turn.message.terminal < length old.last.items → new.last.items ≡ noted old.last.items turn n)
    → IsOf turns old → IsOf turns new
one_more turns old new turn n there next below begun place tallies room last of =
    let is : turn_numbered turns n ≡ Some turn = sym there in
    let own : turn.message.terminal < length old.last.items = of.room n turn is in
    let count : n ≡ suc old.place = omega (arith, next) in
    let lasts : last_in turns new.last.items ≡ last_with (last_in turns old.last.items) turn =
    ap (last_in turns) (last own) ∙ last_noted turns old.last.items turn n own is in
    let step : seen_in turns new ≡ counted_with (nat_lt old.begun n) (seen_in turns old) (Some turn) =
    (λ j. record { tallies = tallies j; last = lasts j }) in
    let counts : counted_with (nat_lt old.begun n) (seen_in turns old) (Some turn)
    ≡ counted old.begun turns (suc old.place) =
    ap (λ (c : Counted). counted_with (nat_lt old.begun n) c (Some turn)) of.is
    ∙ ap (counted_with (nat_lt old.begun n) (counted old.begun turns old.place)) there
    ∙ (λ j. counted_with (nat_lt old.begun (count j)) (counted old.begun turns old.place)
    (turn_numbered turns (count j))) in
    record {
      within = omega (arith, below, place, next);
      room = λ m other found. subst (λ (k : ℕ). other.message.terminal < k) (sym room)
          (of.room m other found);
      is = step ∙ counts ∙ (λ j. counted (sym begun j) turns (sym (place ∙ count) j));
    }
