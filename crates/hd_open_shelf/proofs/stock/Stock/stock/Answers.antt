use Rattle.std.proofs.Common.{◌≡◌, ◌+◌, ◌<◌, IsSome, length, set, refl, sym, ap, subst, true≢false}
use Rattle.std.specs.Map.{lookup}
use Rattle.hd_open_shelf.specs.StockValue.{StockValue}
use Rattle.hd_open_shelf.specs.Counts.{is_home, of_title, of_home}
use Rattle.hd_open_shelf.proofs.StockLemmas.{IsWritten, has_entry, keeps_entries, one_more, read_at}
use Rattle.hd_open_shelf.proofs.stock.Stock.stock.Goals as goal

pub returns-in_err-insert-clause-full : goal.returns-in_err-insert-clause-full
returns-in_err-insert-clause-full g c = λ entry.
    let there : IsSome (lookup (is_home c.args.title c.args.home) c.self.inside.homes.entries) =
    (rw (← c.self.view_is) at entry).of_home in
    absurd (true≢false (sym (subst IsSome c.in_err-insert.ensures.absent there)))

pub returns : goal.returns
returns g c =
    let old : StockValue =
    record { titles = c.self.inside.titles.items; homes = c.self.inside.homes.entries } in
    let within : c.args.title < length old.titles = rw (← c.self.view_is) at c.requires.title in
    let read : c.index_mut.result.now ≡ of_title old c.args.title =
    read_at old.titles c.number-at.result c.args.title c.index_mut.result.now c.number-at.ensures.value within
    c.index_mut.ensures.value
    in
    let found : c.of_home-count.result ≡ of_home old c.args.title c.args.home =
    rw (← c.self.view_is) at c.of_home-count.ensures in
    let new : StockValue =
    record {
      titles = set old.titles c.number-at.result (c.index_mut.result.now + 1);
      homes = c.insert.new.self.entries;
    } in
    let written : IsWritten old new c.args.title c.args.home (c.index_mut.result.now + 1)
    (c.of_home-count.result + 1) = record {
      within = within;
      titles = ap (λ i. set old.titles i (c.index_mut.result.now + 1)) c.number-at.ensures.value;
      homes = λ t b. c.in_ok-insert.ensures.updates.0 (record { title = t; branch = b });
    }
    in
    rw (← c.self.view_is) (record {
      ok = one_more old new c.args.title c.args.home (c.index_mut.result.now + 1) (c.of_home-count.result + 1)
          (ap (λ n. n + 1) read)
          (ap (λ n. n + 1) found) written;
      entry = has_entry old new c.args.title c.args.home (c.index_mut.result.now + 1)
          (c.of_home-count.result + 1) written;
      err = tt;
      full = λ _. refl;
      entries = keeps_entries old new c.args.title c.args.home (c.index_mut.result.now + 1)
          (c.of_home-count.result + 1) written;
    })
