use Rattle.std.proofs.Common.{◌≡◌, ◌∙◌, ◌++◌, ◌+◌, [], ap, sym, arith, length, map}
use Rattle.std.specs.Str.Lines.{lines}
use Rattle.std.proofs.lemmas.Grind.{common_steps}
use Rattle.std.proofs.lemmas.List.{length-map, nil_from_length}
use Rattle.hd_catalogue.specs.Files.{lines_of}
use Rattle.hd_diagnosis.specs.Odd.{odd_lines}
use Rattle.hd_diagnosis.specs.declared.diagnosing.TheConstants.{MOST_TOLD}
use Rattle.hd_diagnosis.specs.declared.warning.Warning.{Warning}
use Rattle.hd_diagnosis.proofs.FaultLemmas.{all_told, enough_told}
use Rattle.hd_diagnosis.proofs.warning.warn.Goals as goal

pub returns-then-len-ge-MOST_TOLD : goal.returns-then-len-ge-MOST_TOLD
returns-then-len-ge-MOST_TOLD c =
    let count = length-map c.loop-rest.told.items (λ (w : Warning). w.line) in
    enough_told _ _ _ MOST_TOLD c.loop-rest.invariant.told
    (omega (arith, count, c.loop-rest.invariant.few, c.if-len-ge-MOST_TOLD.true, c.len.ensures))

pub returns : goal.returns
returns c =
    let count = length-map c.loop-rest.told.items (λ (w : Warning). w.line) in
    let none : length c.loop-rest.rest.now ≡ 0 = grind (arith, common_steps) in
    let ended : lines c.loop-rest.rest.now ≡ [] = ap lines (nil_from_length c.loop-rest.rest.now none) in
    let whole : map (λ (w : Warning). w.line) c.loop-rest.told.items ++ []
    ≡ odd_lines 1 (lines_of c.args.bytes.now) =
    ap (λ ls. map (λ (w : Warning). w.line) c.loop-rest.told.items ++ odd_lines (c.loop-rest.number + 1) ls)
    (sym ended)
    ∙ c.loop-rest.invariant.told in
    all_told _ _ MOST_TOLD whole (omega (arith, count, c.loop-rest.invariant.few))
