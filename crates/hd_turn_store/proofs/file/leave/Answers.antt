use Rattle.std.proofs.Math.Logic.{∥∥₁_map}
use Rattle.sqlite.proofs.Theorems.{opens_again}
use Rattle.hd_turn_store.specs.Words.{HoldsDatabase, Trees, settled_at}
use Rattle.hd_turn_store.specs.Tables.{Stores}
use Rattle.hd_turn_store.proofs.Commits.{lasting}
use Rattle.hd_turn_store.proofs.file.leave.Goals as goal

pub returns : goal.returns
returns g c clean head ks holds left may =
    let last = c.release.result in
    let e = c.release.ensures in
    ∥∥₁_map (opens_again last (e.numbered clean) (e.sound clean) left may)
    (λ x. let r : (db : Trees) × HoldsDatabase left db × Stores head ks db = (
      x.0,
      x.2,
      lasting x.0 holds
          (settled_at c.args.conn.store g.met.D.Disk.seen_may_stay _ holds.is_open (e.quiet.outcomes _ x.1)),
    ) in r)
