use Rattle.std.proofs.Common.{◌≡◌, ◌+◌, ◌<◌, IsSome, unwrap_or, length, set, refl, sym, ap, subst, true≢false}
use Rattle.std.proofs.Common.{arith}
use Rattle.std.specs.Map.{lookup}
use Rattle.hd_open_shelf.specs.StockValue.{StockValue}
use Rattle.hd_open_shelf.specs.Counts.{is_home, of_title, of_home}
use Rattle.hd_open_shelf.proofs.StockLemmas.{IsWritten, keeps_entries, one_more, read_at}
use Rattle.hd_open_shelf.proofs.stock.Stock.put.Goals as goal
use Rattle.hd_open_shelf.proofs.stock.Stock.put.Goals.{in-Some, in_default}

pub overflow_add-count : goal.overflow_add-count
overflow_add-count g c =
    let few = rw (← c.self.view_is) at c.requires.copies_of_home in
    let found : c.in-Some.count.now
    ≡ unwrap_or (lookup (is_home c.args.title c.args.home) c.self.inside.homes.entries) 0 =
    ap (λ o. unwrap_or o 0) c.in-Some.ensures.value in
    omega (arith, few, found)

pub returns : goal.returns
returns g c = elim c.match-get_mut.branch [
  | in-Some w ↦
      let old : StockValue =
      record { titles = c.self.inside.titles.items; homes = c.self.inside.homes.entries } in
      let within : c.args.title < length old.titles = (rw (← c.self.view_is) at c.requires.entry).of_title in
      let read : c.index_mut.result.now ≡ of_title old c.args.title =
      read_at old.titles c.number.result c.args.title c.index_mut.result.now c.number.ensures.value within
      c.index_mut.ensures.value in
      let found : w.in-Some.count.now ≡ of_home old c.args.title c.args.home =
      ap (λ o. unwrap_or o 0) w.in-Some.ensures.value in
      let some : IsSome (lookup (is_home c.args.title c.args.home) old.homes) =
      subst IsSome w.in-Some.ensures.value refl in
      let new : StockValue =
      record {
        titles = set old.titles c.number.result (c.index_mut.result.now + 1);
        homes = (c.get_mut.follows.lender (w.in-Some.count.now + 1)).entries;
      } in
      let written : IsWritten old new c.args.title c.args.home (c.index_mut.result.now + 1)
      (w.in-Some.count.now + 1) = record {
        within = within;
        titles = ap (λ i. set old.titles i (c.index_mut.result.now + 1)) c.number.ensures.value;
        homes = λ t b. ((c.get_mut.follows.holds (w.in-Some.count.now + 1)).3 some).0
            (record { title = t; branch = b });
      }
      in
      rw (w.self-inside-is, ← c.self.view_is) (record {
        one_more =
            one_more old new c.args.title c.args.home (c.index_mut.result.now + 1) (w.in-Some.count.now + 1)
            (ap (λ n. n + 1) read)
            (ap (λ n. n + 1) found) written;
        entries = keeps_entries old new c.args.title c.args.home (c.index_mut.result.now + 1)
            (w.in-Some.count.now + 1) written;
      })
  | in_default w ↦
      let there : IsSome (lookup (is_home c.args.title c.args.home) c.self.inside.homes.entries) =
      (rw (← c.self.view_is) at c.requires.entry).of_home in
      absurd (true≢false (sym (subst IsSome (sym w.in_default.ensures.value) there)))
]
