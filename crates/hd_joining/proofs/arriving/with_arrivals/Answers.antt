use Rattle.std.proofs.Common.{◌≡◌, ◌∙◌, List, ◌∷◌, [], ◌++◌, ◌-◌, ◌+◌, ◌<◌, ap, arith}
use Rattle.std.proofs.lemmas.Grind.{common_steps}
use Rattle.hd_rules.specs.declared.rows.OpeningRow.{OpeningRow}
use Rattle.hd_rules.specs.declared.rows.OpeningRow.TheVariants as row
use Rattle.hd_rules.specs.Growth.{arrivals}
use Rattle.hd_catalogue.specs.Contents.{facts_of}
use Rattle.hd_joining.proofs.ArrivalLemmas.{one_arrives}
use Rattle.hd_joining.proofs.arriving.with_arrivals.Goals as goal

pub loop-number-preserved : goal.loop-number-preserved
loop-number-preserved g c =
    let k = facts_of c.args.catalogue.now in
    let n = c.loop-number.number in
    let below : n < k.copies = omega (arith, c.loop-number-test.true, c.copies-number-end.ensures.count) in
    let pushed : c.push.new.self.items ≡ c.loop-number.rows.items ++ row.Transit n (k.home n) (k.home n) ∷ [] =
    grind (arith, common_steps) in
    ap (λ (rows : List OpeningRow). rows ++ arrivals k.home (n + 1) (k.copies - (n + 1))) pushed
    ∙ one_arrives k.home n k.copies c.loop-number.rows.items below ∙ c.loop-number.invariant
