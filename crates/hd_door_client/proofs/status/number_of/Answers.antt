use Rattle.std.proofs.Common.{◌==◌, List, None, Some, nat_eq, rules, sym, tests, ℕ}
use Rattle.std.specs.List.{starts_with}
use Rattle.std.proofs.lemmas.Iterator.Search.{find_from_yields_List}
use Rattle.std.proofs.lemmas.Iterator.Splits.{YieldsList-from_slice_split}
use Rattle.hd_door_client.proofs.Numbers.{behind_name}
use Rattle.hd_door_client.proofs.status.number_of.Goals as goal

pub returns-in_err-line : goal.returns-in_err-line
returns-in_err-line c =
    let found =
    find_from_yields_List (λ (line : List ℕ). starts_with nat_eq line c.args.name.now) _ _ None
    c.in_err-line.ensures.ran
    (YieldsList-from_slice_split _ (λ (byte : ℕ). byte == 10) c.args.text.now c.split-lines.ensures.rest
    c.split-lines.ensures.done c.split-lines.ensures.closure (λ x r q k. search (rules, tests)))
    (λ x b q k. search (rules, tests)) in
    rw (sym found) c.from_residual.ensures

pub returns : goal.returns
returns c =
    let found =
    find_from_yields_List (λ (line : List ℕ). starts_with nat_eq line c.args.name.now) c.find.new.self _
    (Some c.in_ok-line.line) c.in_ok-line.ensures.ran
    (YieldsList-from_slice_split _ (λ (byte : ℕ). byte == 10) c.args.text.now c.split-lines.ensures.rest
    c.split-lines.ensures.done c.split-lines.ensures.closure (λ x r q k. search (rules, tests)))
    (λ x b q k. search (rules, tests)) in
    rw (sym found)
    (behind_name c.args.name.now c.in_ok-line.line.now c.number_in.result c.number_in.ensures.some
    c.number_in.ensures.none)
