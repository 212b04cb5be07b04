use Rattle.std.proofs.Common.{◌≡◌, ◌∙◌, List, subst}
use Rattle.sqlite_pool.proofs.StateLemmas.{clean_is, may_leave_is}
use Rattle.sqlite_trees.proofs.Doubt.{no_doubt}
use Rattle.hd_turn_store.specs.Words.{AreClean, FileStore, Ghosts, Held, Image, IsClean, file_state, files}
use Rattle.hd_turn_store.specs.Words.{outcomes, view}
use Rattle.hd_turn_store.specs.Kept.{Head, KeptTurn}
use Rattle.hd_turn_store.specs.Holds.{Holds}
use Rattle.hd_turn_store.specs.Marks.{HoldsEnded, IsMarked, ended_mark}
use Rattle.hd_turn_store.proofs.mark.end.Goals as goal

-- what a marked store has is held by whatever a crash leaves of its files
ended : {D : Type 0} {g : Ghosts D} (conn : Held (FileStore D g)) (last : FileStore D g) (log db : D)
    → (log, db) ≡ files last → (IsClean (view last) → IsMarked conn ended_mark last)
    → AreClean g log db → (head : Head) (ks : List KeptTurn) → Holds (file_state conn) head ks
    → (left : Image) → outcomes g log db left → HoldsEnded left head ks
ended {g} conn last log db is marked honest head ks holds left may =
    let now = subst (λ p. AreClean g p.0 p.1) is honest in
    let then = subst (λ p. outcomes g p.0 p.1 left) is may in
    let it = marked (no_doubt _ (clean_is last.pool ∙ now)) in (
      (view last).committed,
      it.copied head ks holds left (may_leave_is last.pool left now then),
      it.kept head ks holds,
      it.mark_is,
    )

pub returns-clause-ended : goal.returns-clause-ended
returns-clause-ended g c =
    ended c.args.conn c.in_ok-store.store _ _ c.close.ensures c.in_ok-store.ensures.marked
