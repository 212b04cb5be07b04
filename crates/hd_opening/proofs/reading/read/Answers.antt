use Rattle.std.proofs.Common.{◌≡◌, ◌+◌, ◌<◌, ◌∷◌, ◌++◌, [], List, sym, ap, subst, arith, length}
use Rattle.std.specs.Str.Lines.{lines}
use Rattle.std.proofs.lemmas.Grind.{common_steps}
use Rattle.std.proofs.lemmas.List.{nil_from_length}
use Rattle.hd_rules.specs.declared.rows.OpeningRow.{OpeningRow}
use Rattle.hd_catalogue.specs.Contents.{told_by}
use Rattle.hd_catalogue.specs.Files.{lines_of}
use Rattle.hd_opening.proofs.ReadLemmas.{HasRead, counted, done, one_more}
use Rattle.hd_opening.proofs.reading.read.Goals as goal

pub loop-rest-preserved : goal.loop-rest-preserved
loop-rest-preserved g c =
    let k = c.args.catalogue.now in
    let digest = c.args.digest.now in
    let all = lines_of c.args.bytes.now in
    let last = c.in-Ok.last in
    let number = c.loop-rest.number in
    let line = c.first_line-next.result.line.now in
    let left = lines c.first_line-next.result.after.now in
    let row = c.in-Ok-read_row.row in
    let some : 0 < length c.loop-rest.rest.now = grind (arith, common_steps) in
    let whole : lines c.loop-rest.rest.now
    ≡ c.first_line-next.result.line.now ∷ lines c.first_line-next.result.after.now =
    c.first_line-next.ensures.lines some in
    let pushed : c.keep.new.rows.items ≡ c.loop-rest.rows.items ++ c.in-Ok-read_row.row ∷ [] =
    grind (arith, common_steps) in
    record {
      counted = omega (arith, c.first_line-next.ensures.shorter some, c.loop-rest.invariant.counted);
      so_far =
          subst (λ (rows : List OpeningRow). HasRead k digest all last (number + 1) rows left)
          (sym {b = c.loop-rest.rows.items ++ c.in-Ok-read_row.row ∷ []} pushed)
          (one_more k digest all last number c.loop-rest.rows.items line left row
          (subst (λ (ls : List (List _)). HasRead k digest all last number c.loop-rest.rows.items ls) whole
          c.loop-rest.invariant.so_far)
          (sym c.in-Ok-read_row.ensures));
    }

pub returns-clause-lines : goal.returns-clause-lines
returns-clause-lines g c =
    let k = c.args.catalogue.now in
    let digest = c.args.digest.now in
    let all = lines_of c.args.bytes.now in
    let none : length c.loop-rest.rest.now ≡ 0 = grind (arith, common_steps) in
    let whole : lines c.loop-rest.rest.now ≡ [] = ap lines (nil_from_length c.loop-rest.rest.now none) in
    let read = subst (λ (ls : List (List _)). HasRead k digest all c.in-Ok.last c.loop-rest.number
    c.loop-rest.rows.items ls) whole c.loop-rest.invariant.so_far in
    let kept : c.shrink_to_fit.new.self.items ≡ c.loop-rest.rows.items = c.shrink_to_fit.ensures.items in
    subst (λ (rows : List OpeningRow). length all ≡ length rows + 1) (sym {b = c.loop-rest.rows.items} kept)
    (counted k digest all (told_by c.loop-rest.rows.items c.in-Ok.last)
    (done k digest all c.in-Ok.last c.loop-rest.number c.loop-rest.rows.items read))
