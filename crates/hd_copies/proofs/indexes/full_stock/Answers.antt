use Rattle.std.proofs.Common.{◌≡◌, ℕ, ◌∙◌, ◌==◌, ◌&&◌, ap, arith, below_more}
use Rattle.std.proofs.lemmas.Grind.{common_steps}
use Rattle.hd_catalogue.specs.Contents.{facts_of}
use Rattle.hd_open_shelf.specs.Counts.{HasEntry, HasOneCopyMore}
use Rattle.hd_lemmas.proofs.Counts.{count_below-le}
use Rattle.hd_copies.proofs.Opening.{count-next, stock-home}
use Rattle.hd_copies.proofs.indexes.full_stock.Goals as goal

pub stock-requires-clause-copies : goal.stock-requires-clause-copies
stock-requires-clause-copies g c =
    let k = facts_of c.args.catalogue.now in
    omega (
      arith,
      c.loop-number.invariant.title c.title_of.result,
      count_below-le (λ n. (k.title_of n) == c.title_of.result) c.loop-number.number,
      c.loop-number-test.true,
      c.copies-number-end.ensures.count,
      c.titles.ensures.facts.copies,
    )

pub stock-requires-clause-copies_of_home : goal.stock-requires-clause-copies_of_home
stock-requires-clause-copies_of_home g c =
    let k = facts_of c.args.catalogue.now in
    omega (
      arith,
      c.loop-number.invariant.home c.title_of.result c.home.result,
      count_below-le
          (λ n. ((k.title_of n) == c.title_of.result) && ((k.home n) == c.home.result)) c.loop-number.number,
      c.loop-number-test.true,
      c.copies-number-end.ensures.count,
      c.titles.ensures.facts.copies,
    )

pub loop-number-preserved : goal.loop-number-preserved
loop-number-preserved g c =
    let k = facts_of c.args.catalogue.now in
    let at : c.unwrap-copy.result ≡ c.loop-number.number = grind (arith, common_steps) in
    let title : c.title_of.result ≡ k.title_of c.loop-number.number =
    c.title_of.ensures.title ∙ ap k.title_of at in
    let home : c.home.result ≡ k.home c.loop-number.number = c.home.ensures.branch ∙ ap k.home at in
    let more : HasOneCopyMore c.stock.new.self c.loop-number.stock c.title_of.result c.home.result =
    c.in_ok-stock-2.ensures.ok in
    record {
      titles = c.in_ok-stock-2.ensures.entries.titles ∙ c.loop-number.invariant.titles;
      title = λ t. count-next (λ n. (k.title_of n) == t) c.loop-number.number _ _ (c.title_of.result == t)
          (ap (λ (x : ℕ). x == t) title)
          (c.loop-number.invariant.title t) (more.titles t);
      home = λ t b. count-next (λ n. ((k.title_of n) == t) && ((k.home n) == b)) c.loop-number.number _ _
          ((c.title_of.result == t) && (c.home.result == b))
          (λ i. (title i == t) && (home i == b)) (c.loop-number.invariant.home t b) (more.homes t b);
      entry = below_more (λ n. HasEntry c.stock.new.self (k.title_of n) (k.home n)) c.loop-number.number
          (λ n l. c.in_ok-stock-2.ensures.entries.homes (k.title_of n) (k.home n)
          (c.loop-number.invariant.entry n l))
          (rw (← title, ← home) c.in_ok-stock-2.ensures.entry);
    }

pub returns : goal.returns
returns g c =
    stock-home (facts_of c.args.catalogue.now) c.loop-number.stock c.loop-number.number
    (omega (arith, c.copies-number-end.ensures.count))
    c.loop-number.invariant.title c.loop-number.invariant.home c.loop-number.invariant.entry
