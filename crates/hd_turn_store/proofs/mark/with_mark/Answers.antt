use Rattle.std.proofs.Common.{◌≡◌, ◌≢◌, ◌∙◌, ℕ, ap, arith, subst, sym}
use Rattle.sqlite.proofs.Theorems.{copied as lies_alone}
use Rattle.hd_turn_store.specs.Words.{Database, IsClean, IsSound, Trees, file_state, settled_at, version_tree}
use Rattle.hd_turn_store.specs.Words.{view}
use Rattle.hd_turn_store.proofs.Marking.{keeps_marked, keeps_turns, sound_beside, stores_beside}
use Rattle.hd_turn_store.proofs.mark.with_mark.Goals as goal

pub returns-in-Ok-clause-marked : goal.returns-in-Ok-clause-marked
returns-in-Ok-clause-marked g c none =
    let conn = c.args.conn in
    let back = c.release-store.result in
    let last = c.put_mark.new.store in
    let stays = g.met.D.Disk.seen_may_stay in
    let early : IsClean (view back) = omega (arith, c.put_mark.ensures.clean) in
    let undone = c.release-store.ensures.undone in
    let kept = undone.kept early in
    let put = c.in-Ok.ensures.ok none in
    let was = (undone.undone put.0).0 in
    let puts = put.1 (was ∙ sym (kept.committed put.0)) in
    let fresh = puts.fresh (c.release-store.ensures.numbered early) in
    let rows : (db : Trees) → (view conn.store).committed ≡ db → (tree : ℕ) → tree ≢ version_tree
    → (view last).committed tree ≡ db tree =
    λ db is tree other. puts.others tree other ∙ ap (λ (t : Trees). t tree) (was ∙ is) in
    record {
      was_clean = omega (arith, c.release-store.ensures.quiet.clean);
      fresh = fresh;
      mark_is = puts.mark_is;
      kept = λ head ks holds.
          stores_beside _ (view last).committed head ks
          (rows _ (ap (λ (d : Database). d.trees) holds.settled)) holds.rows;
      copied = λ head ks holds left may.
          let now = (file_state conn).now in
          let same = rows _ (ap (λ (d : Database). d.trees) holds.settled) in
          let live : IsSound now.schema now.trees = (c.shows_journal-is_ours.ensures.live holds.is_open).0 in
          let sound = sound_beside now.trees (view last).committed same now.schema holds.schema live in
          lies_alone last stays puts.is_open fresh.numbered
          (λ db found. (
            now.schema,
            subst (IsSound now.schema) (sym (settled_at last stays db puts.is_open found)) sound,
          ))
          puts.emptied left may;
    }

pub returns-then-not-is_ours-clause-left : goal.returns-then-not-is_ours-clause-left
returns-then-not-is_ours-clause-left g c =
    keeps_turns g.met.D.Disk.seen_may_stay c.args.conn c.release-store.result
    c.release-store.ensures.quiet.outcomes

pub returns-in-Ok-clause-kept : goal.returns-in-Ok-clause-kept
returns-in-Ok-clause-kept g c =
    let e = c.release-store.ensures in
    keeps_marked g.met.D.Disk.seen_may_stay c.args.conn c.release-store.result e.quiet.outcomes
    c.put_mark.new.store e.undone c.put_mark.ensures.crash

pub returns-in-Err-clause-left : goal.returns-in-Err-clause-left
returns-in-Err-clause-left g c =
    let e = c.release-store.ensures in
    keeps_marked g.met.D.Disk.seen_may_stay c.args.conn c.release-store.result e.quiet.outcomes
    c.put_mark.new.store e.undone c.put_mark.ensures.crash
