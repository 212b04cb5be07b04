use Rattle.std.proofs.Common.{◌≡◌, ◌+◌, ◌<◌, ◌∷◌, [], inl, inr, refl, sym, ap, subst, arith, length, Result}
use Rattle.std.proofs.Common.{Err, Ok}
use Rattle.std.specs.Str.Lines.{lines}
use Rattle.std.proofs.lemmas.Grind.{common_steps}
use Rattle.std.proofs.lemmas.List.{nil_from_length}
use Rattle.hd_catalogue.specs.Contents.{Contents}
use Rattle.hd_catalogue.specs.Files.{lines_of}
use Rattle.hd_catalogue.specs.declared.cause.CatFault.{CatFault}
use Rattle.hd_catalogue.proofs.FileLemmas.{Follows, accepted_fresh, begun_reading, first_refused}
use Rattle.hd_catalogue.proofs.catalogue.Catalogue.read.Goals as goal

pub returns-in-Err-clause-refused : goal.returns-in-Err-clause-refused
returns-in-Err-clause-refused g c =
    let first = c.first_line-first.result in
    first_refused first.line.now (lines first.after.now)
    (lines_of c.args.bytes.now) c.in-Err.cause c.first_line-first.ensures.first
    c.in-Err.ensures

pub loop-rest-init : goal.loop-rest-init
loop-rest-init g c =
    let first = c.first_line-first.result in
    record {
      counted = omega (arith, c.first_line-first.ensures.within);
      follows =
          λ r f. begun_reading first.line.now (lines first.after.now)
          (lines_of c.args.bytes.now) _ r c.first_line-first.ensures.first
          c.in-Ok.ensures.0 c.in-Ok.ensures.1 f;
    }

pub returns-in-Err-read_line-clause-refused : goal.returns-in-Err-read_line-clause-refused
returns-in-Err-read_line-clause-refused g c =
    let some : 0 < length c.loop-rest.rest.now = grind (arith, common_steps) in
    let whole : lines c.loop-rest.rest.now
    ≡ c.first_line-next.result.line.now ∷ lines c.first_line-next.result.after.now =
    c.first_line-next.ensures.lines some in
    let answer : Result Contents CatFault =
    Err (record { line = c.loop-rest.number + 1; cause = c.in-Err-read_line.cause }) in
    c.loop-rest.invariant.follows answer
    (subst (λ ls. Follows (c.loop-rest.number + 1) ls c.loop-rest.catalogue answer) (sym whole)
    (inr (c.in-Err-read_line.cause, c.in-Err-read_line.ensures, refl)))

pub loop-rest-preserved : goal.loop-rest-preserved
loop-rest-preserved g c =
    let some : 0 < length c.loop-rest.rest.now = grind (arith, common_steps) in
    let whole : lines c.loop-rest.rest.now
    ≡ c.first_line-next.result.line.now ∷ lines c.first_line-next.result.after.now =
    c.first_line-next.ensures.lines some in
    record {
      counted = omega (arith, c.first_line-next.ensures.shorter some, c.loop-rest.invariant.counted);
      follows = λ r f. c.loop-rest.invariant.follows r
          (subst (λ ls. Follows (c.loop-rest.number + 1) ls c.loop-rest.catalogue r) (sym whole)
          (inl (
            c.in_default.ensures.0,
            subst (λ k. Follows (c.loop-rest.number + 1 + 1) (lines c.first_line-next.result.after.now) k r)
                c.in_default.ensures.1 f,
          )));
    }

pub returns-clause-accepted : goal.returns-clause-accepted
returns-clause-accepted g c =
    let none : length c.loop-rest.rest.now ≡ 0 = grind (arith, common_steps) in
    let whole : lines c.loop-rest.rest.now ≡ [] = ap lines (nil_from_length c.loop-rest.rest.now none) in
    let answer : Result Contents CatFault = Ok c.loop-rest.catalogue in
    c.loop-rest.invariant.follows answer
    (subst (λ ls. Follows (c.loop-rest.number + 1) ls c.loop-rest.catalogue answer) (sym whole) refl)

pub returns-clause-rows : goal.returns-clause-rows
returns-clause-rows g c =
    accepted_fresh (lines_of c.args.bytes.now) c.loop-rest.catalogue (returns-clause-accepted g c)
