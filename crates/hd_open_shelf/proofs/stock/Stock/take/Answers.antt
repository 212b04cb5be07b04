use Rattle.std.proofs.Common.{◌≡◌, ◌-◌, ◌<◌, IsSome, unwrap_or, length, set, refl, sym, ap, subst, arith}
use Rattle.std.specs.Map.{lookup}
use Rattle.hd_open_shelf.specs.StockValue.{StockValue}
use Rattle.hd_open_shelf.specs.Counts.{is_home, of_title, of_home}
use Rattle.hd_open_shelf.proofs.StockLemmas.{IsWritten, has_entry, keeps_entries, one_less, read_at, within_counts}
use Rattle.hd_open_shelf.proofs.stock.Stock.take.Goals as goal
use Rattle.hd_open_shelf.proofs.stock.Stock.take.Goals.{in-Some, in_default}

pub overflow_sub-count : goal.overflow_sub-count
overflow_sub-count g c =
    let some = rw (← c.self.view_is) at c.requires.some_of_home in
    let found : c.in-Some.count.now
    ≡ unwrap_or (lookup (is_home c.args.title c.args.home) c.self.inside.homes.entries) 0 =
    ap (λ o. unwrap_or o 0) c.in-Some.ensures.value in
    omega (arith, some, found)

pub returns : goal.returns
returns g c = elim c.match-get_mut.branch [
  | in-Some w ↦
      let old : StockValue =
      record { titles = c.self.inside.titles.items; homes = c.self.inside.homes.entries } in
      let some_of_title : 0 < of_title old c.args.title = rw (← c.self.view_is) at c.requires.some_of_title in
      let some_of_home : 0 < of_home old c.args.title c.args.home =
      rw (← c.self.view_is) at c.requires.some_of_home in
      let within : c.args.title < length old.titles = within_counts old.titles c.args.title some_of_title in
      let read : c.index_mut.result.now ≡ of_title old c.args.title =
      read_at old.titles c.number.result c.args.title c.index_mut.result.now c.number.ensures.value within
      c.index_mut.ensures.value in
      let found : w.in-Some.count.now ≡ of_home old c.args.title c.args.home =
      ap (λ o. unwrap_or o 0) w.in-Some.ensures.value in
      let some : IsSome (lookup (is_home c.args.title c.args.home) old.homes) =
      subst IsSome w.in-Some.ensures.value refl in
      let new : StockValue =
      record {
        titles = set old.titles c.number.result (c.index_mut.result.now - 1);
        homes = (c.get_mut.follows.lender (w.in-Some.count.now - 1)).entries;
      } in
      let written : IsWritten old new c.args.title c.args.home (c.index_mut.result.now - 1)
      (w.in-Some.count.now - 1) = record {
        within = within;
        titles = ap (λ i. set old.titles i (c.index_mut.result.now - 1)) c.number.ensures.value;
        homes = λ t b. ((c.get_mut.follows.holds (w.in-Some.count.now - 1)).3 some).0
            (record { title = t; branch = b });
      }
      in
      rw (w.self-inside-is, ← c.self.view_is) (record {
        one_less =
            one_less old new c.args.title c.args.home (c.index_mut.result.now - 1) (w.in-Some.count.now - 1)
            (omega (arith, read, some_of_title)) (omega (arith, found, some_of_home)) written;
        entry = has_entry old new c.args.title c.args.home (c.index_mut.result.now - 1)
            (w.in-Some.count.now - 1) written;
        entries = keeps_entries old new c.args.title c.args.home (c.index_mut.result.now - 1)
            (w.in-Some.count.now - 1) written;
      })
  | in_default w ↦
      let some : 0 < unwrap_or (lookup (is_home c.args.title c.args.home) c.self.inside.homes.entries) 0 =
      rw (← c.self.view_is) at c.requires.some_of_home in
      absurd (omega (arith, subst (λ o. 0 < unwrap_or o 0) (sym w.in_default.ensures.value) some))
]
