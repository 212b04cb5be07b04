use Rattle.std.proofs.Common.{◌≡◌, ◌∙◌, ◌+◌, ◌<◌, ◌++◌, ◌∷◌, [], ap, sym, arith, length, map}
use Rattle.std.specs.Str.Lines.{lines}
use Rattle.std.proofs.lemmas.Grind.{common_steps}
use Rattle.std.proofs.lemmas.List.{length-map, nil_from_length}
use Rattle.hd_catalogue.specs.Files.{lines_of}
use Rattle.hd_diagnosis.specs.Faults.{faults_from, faults_of}
use Rattle.hd_diagnosis.specs.declared.diagnosing.TheConstants.{MOST_TOLD}
use Rattle.hd_diagnosis.specs.declared.fault.Fault.{Fault}
use Rattle.hd_diagnosis.proofs.FaultLemmas.{all_told, alone_told, are_told, begun, begun_few, enough_told}
use Rattle.hd_diagnosis.proofs.FaultLemmas.{one_more}
use Rattle.hd_diagnosis.specs.Known.{nothing_known}
use Rattle.std.specs.Prelude.{option_to_list}
use Rattle.hd_diagnosis.proofs.diagnosing.diagnose.Goals as goal

pub returns-then-len-ge-MOST_TOLD : goal.returns-then-len-ge-MOST_TOLD
returns-then-len-ge-MOST_TOLD c =
    let count = length-map c.loop-rest.told.items (λ (f : Fault). f.at) in
    are_told (lines_of c.args.bytes.now) c.in-Err.refused _ c.in-Err.ensures.refused
    (enough_told _ _ _ MOST_TOLD c.loop-rest.invariant.told
    (omega (arith, count, c.loop-rest.invariant.few, c.if-len-ge-MOST_TOLD.true, c.len.ensures)))

pub returns : goal.returns
returns c =
    let count = length-map c.loop-rest.told.items (λ (f : Fault). f.at) in
    let none : length c.loop-rest.rest.now ≡ 0 = grind (arith, common_steps) in
    let ended : lines c.loop-rest.rest.now ≡ [] = ap lines (nil_from_length c.loop-rest.rest.now none) in
    let whole : map (λ (f : Fault). f.at) c.loop-rest.told.items ++ []
    ≡ faults_of c.in-Err.refused (lines_of c.args.bytes.now) =
    ap
    (λ ls. map (λ (f : Fault). f.at) c.loop-rest.told.items
    ++ faults_from c.in-Err.refused c.loop-rest.known (c.loop-rest.number + 1) ls)
    (sym ended)
    ∙ c.loop-rest.invariant.told in
    are_told (lines_of c.args.bytes.now) c.in-Err.refused _ c.in-Err.ensures.refused
    (all_told _ _ MOST_TOLD whole (omega (arith, count, c.loop-rest.invariant.few)))

pub returns-then-is_alone : goal.returns-then-is_alone
returns-then-is_alone c =
    alone_told (lines_of c.args.bytes.now) c.in-Err.refused c.first_line-first.result.line.now
    (lines c.first_line-first.result.after.now) _ c.in-Err.ensures.refused c.first_line-first.ensures.first
    (sym c.is_alone.ensures ∙ c.if-is_alone.true) c.in_ok-told.ensures

pub loop-rest-init : goal.loop-rest-init
loop-rest-init c =
    let count = length-map c.in_ok-told.told.items (λ (f : Fault). f.at) in
    record {
      counted = omega (arith, c.first_line-first.ensures.within);
      few = omega (arith, count, begun_few c.in-Err.refused _ c.in_ok-told.ensures);
      told =
          begun (lines_of c.args.bytes.now) c.in-Err.refused c.first_line-first.result.line.now
          (lines c.first_line-first.result.after.now) _ _ c.first_line-first.ensures.first
          (sym c.is_alone.ensures ∙ c.if-is_alone.false) c.in_ok-told.ensures
          (c.new-known.ensures ∙ ap nothing_known c.has_priorities.ensures);
    }

pub loop-rest-preserved : goal.loop-rest-preserved
loop-rest-preserved c =
    let some : 0 < length c.loop-rest.rest.now = grind (arith, common_steps) in
    let whole : lines c.loop-rest.rest.now
    ≡ c.first_line-next.result.line.now ∷ lines c.first_line-next.result.after.now =
    c.first_line-next.ensures.lines some in
    record {
      counted = omega (arith, c.first_line-next.ensures.shorter some, c.loop-rest.invariant.counted);
      few = omega (arith, c.in_ok-tell.ensures.count, c.if-len-ge-MOST_TOLD.false, c.len.ensures);
      told =
          one_more c.in-Err.refused c.loop-rest.known _
          (c.loop-rest.number + 1) c.first_line-next.result.line.now
          (lines c.loop-rest.rest.now)
          (lines c.first_line-next.result.after.now) _ _ _ c.loop-rest.invariant.told whole
          (c.in_ok-tell.ensures.told
          ∙ ap (λ more. map (λ (f : Fault). f.at) c.loop-rest.told.items ++ option_to_list more)
          c.in_ok-fault.ensures)
          c.in_ok-add.ensures;
    }
