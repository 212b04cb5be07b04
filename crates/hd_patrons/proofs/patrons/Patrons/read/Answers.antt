use Rattle.std.proofs.Common.{◌≡◌, ◌<◌, ◌∷◌, ◌∙◌, ℕ, List, Some, ap, false, true, inl, inr, sym, subst, arith}
use Rattle.std.proofs.Common.{length}
use Rattle.std.specs.Str.Lines.{lines}
use Rattle.std.proofs.lemmas.Grind.{common_steps}
use Rattle.hd_catalogue.specs.Files.{lines_of}
use Rattle.hd_lemmas.proofs.Results.{when_ok}
use Rattle.hd_patrons.specs.Lines.{is_heading}
use Rattle.hd_patrons.proofs.ReadLemmas.{HasRead, begun, first_bad, heading, line_bad, no_heading, not_told}
use Rattle.hd_patrons.proofs.ReadLemmas.{one_more}
use Rattle.hd_patrons.proofs.patrons.Patrons.read.Goals as goal

pub returns-then-not-is_heading-clause-refused : goal.returns-then-not-is_heading-clause-refused
returns-then-not-is_heading-clause-refused g c =
    let first = c.first_line-first.result in
    let no : is_heading first.line.now ≡ false = grind (arith, common_steps) in
    first_bad c.args.catalogue.now (lines_of c.args.bytes.now) first.line.now
    (lines first.after.now) c.refused.result
    c.first_line-first.ensures.first c.refused.ensures.line
    (inl (no_heading first.line.now no ∙ ap Some (sym c.refused.ensures.cause)))

pub returns-in_default-clause-refused : goal.returns-in_default-clause-refused
returns-in_default-clause-refused g c =
    let first = c.first_line-first.result in
    let yes : is_heading first.line.now ≡ true = grind (arith, common_steps) in
    first_bad c.args.catalogue.now (lines_of c.args.bytes.now) first.line.now
    (lines first.after.now) c.refused-in_default.result
    c.first_line-first.ensures.first c.refused-in_default.ensures.line
    (inr (c.refused-in_default.ensures.cause, heading first.line.now yes))

pub loop-rest-init : goal.loop-rest-init
loop-rest-init g c =
    let first = c.first_line-first.result in
    let yes : is_heading first.line.now ≡ true = grind (arith, common_steps) in
    record {
      counted = omega (arith, c.first_line-first.ensures.within);
      room = c.in-Ok.ensures.count ∙ c.patrons.ensures.count;
      so_far = begun c.args.catalogue.now (lines_of c.args.bytes.now) first.line.now
          (lines first.after.now) c.in-Ok.table
          c.first_line-first.ensures.first (heading first.line.now yes) c.in-Ok.ensures.empty;
    }

pub returns-in-Err-clause-refused : goal.returns-in-Err-clause-refused
returns-in-Err-clause-refused g c =
    let k = c.args.catalogue.now in
    let all = lines_of c.args.bytes.now in
    let line = c.first_line-next.result.line.now in
    let left = lines c.first_line-next.result.after.now in
    let some : 0 < length c.loop-rest.rest.now = grind (arith, common_steps) in
    let whole : lines c.loop-rest.rest.now ≡ line ∷ left = c.first_line-next.ensures.lines some in
    line_bad k all c.loop-rest.table c.loop-rest.number line left c.refused-in-Err.result
    (subst (λ (ls : List (List ℕ)). HasRead k all c.loop-rest.table c.loop-rest.number ls) whole
    c.loop-rest.invariant.so_far)
    c.refused-in-Err.ensures.line
    (inl (c.in-Err.ensures ∙ ap Some (sym c.refused-in-Err.ensures.cause)))

pub returns-then-is_err-clause-refused : goal.returns-then-is_err-clause-refused
returns-then-is_err-clause-refused g c =
    let k = c.args.catalogue.now in
    let all = lines_of c.args.bytes.now in
    let line = c.first_line-next.result.line.now in
    let left = lines c.first_line-next.result.after.now in
    let some : 0 < length c.loop-rest.rest.now = grind (arith, common_steps) in
    let whole : lines c.loop-rest.rest.now ≡ line ∷ left = c.first_line-next.ensures.lines some in
    line_bad k all c.loop-rest.table c.loop-rest.number line left c.refused-then-is_err.result
    (subst (λ (ls : List (List ℕ)). HasRead k all c.loop-rest.table c.loop-rest.number ls) whole
    c.loop-rest.invariant.so_far)
    c.refused-then-is_err.ensures.line
    (inr (c.refused-then-is_err.ensures.cause, c.in-Ok-read_line.ensures.passes))

pub loop-rest-preserved : goal.loop-rest-preserved
loop-rest-preserved g c =
    let k = c.args.catalogue.now in
    let all = lines_of c.args.bytes.now in
    let line = c.first_line-next.result.line.now in
    let left = lines c.first_line-next.result.after.now in
    let some : 0 < length c.loop-rest.rest.now = grind (arith, common_steps) in
    let whole : lines c.loop-rest.rest.now ≡ line ∷ left = c.first_line-next.ensures.lines some in
    record {
      counted = omega (arith, c.first_line-next.ensures.shorter some, c.loop-rest.invariant.counted);
      room = c.add.ensures.count ∙ c.loop-rest.invariant.room;
      so_far =
          one_more k all c.loop-rest.table c.add.new.self c.loop-rest.number line left c.in-Ok-read_line.said
          (subst (λ (ls : List (List ℕ)). HasRead k all c.loop-rest.table c.loop-rest.number ls) whole
          c.loop-rest.invariant.so_far)
          c.in-Ok-read_line.ensures.passes c.in-Ok-read_line.ensures.says
          (not_told c.loop-rest.table c.in-Ok-read_line.said.patron c.in-Ok-read_line.ensures.new)
          (when_ok c.add.result _ c.add.ensures.added (sym c.is_err.ensures.value ∙ c.if-is_err.false));
    }
