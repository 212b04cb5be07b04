use Rattle.std.proofs.Common.{◌≡◌, ◌<◌, ap, refl, sym, arith, length, []}
use Rattle.hd_journal_file.proofs.Results.{not_both, passes}
use Rattle.hd_journal_file.proofs.Retaken.{all_rows, all_taken, fits, hears_then, joined, reads_then}
use Rattle.hd_journal_file.proofs.Retaken.{refuses_piece, takes_none, takes_then}
use Rattle.hd_journal_file.proofs.restoring.restore_turns.Goals as goal

pub loop-piece-init : goal.loop-piece-init
loop-piece-init g c = record {
  reads = record {
    clean = λ clean. clean;
    same = λ done clean head rows holds. holds;
    crash = λ clean head rows holds db may. may;
  };
  took = ([], takes_none);
  rows = λ clean head rows holds. (takes_none, omega arith);
  many = omega arith;
  count = sym (ap length c.requires);
  told = ([], (refl, refl));
}

pub loop-piece-preserved : goal.loop-piece-preserved
loop-piece-preserved g c =
    let some = c.loop-piece.invariant in
    let one = c.in_ok-last.ensures in
    let more : c.loop-piece.at < c.in_ok-last.last = omega (arith, one.more) in
    record {
      reads = reads_then tt (λ done. refl) some.reads one.reads;
      took = (_, takes_then some.took.1 one.took.1);
      rows = λ clean head rows holds.
          let early = one.reads.clean clean in
          let before = some.rows early head rows holds in
          let next = one.rows clean head rows (some.reads.same tt early head rows holds) in (
            rw (next.0, ← joined rows c.loop-piece.at before.1) (takes_then before.0 next.1),
            rw next.0 (fits rows c.loop-piece.at before.1),
          );
      many = omega (arith, some.many, one.more);
      count = omega (arith, some.count, one.count);
      told = (
        _,
        hears_then g.P.Progress.hears some.told.0 0 c.loop-piece.at c.in_ok-last.last _ _ _ some.told.1
            more c.taken.ensures,
      );
    }

pub returns-in_err-last-clause-reads : goal.returns-in_err-last-clause-reads
returns-in_err-last-clause-reads g c =
    let both = reads_then tt (λ done. done) c.loop-piece.invariant.reads c.take_piece.ensures.reads in
    record {
      clean = both.clean;
      same = λ done. absurd (not_both c.from_residual.result c.from_residual.ensures.0 done);
      crash = both.crash;
    }

pub returns-in_err-last-clause-why : goal.returns-in_err-last-clause-why
returns-in_err-last-clause-why g c clean =
    passes c.from_residual.result c.in_err-last.field-0.0 _ c.from_residual.ensures.1 (λ head rows holds.
    let early = c.take_piece.ensures.reads.clean clean in
    let before = c.loop-piece.invariant.rows early head rows holds in
    refuses_piece rows c.loop-piece.at before.1 c.in_err-last.field-0.0 before.0
    (c.in_err-last.ensures.why clean head rows
    (c.loop-piece.invariant.reads.same tt early head rows holds)))

pub returns-then-last-at-clause-reads : goal.returns-then-last-at-clause-reads
returns-then-last-at-clause-reads g c =
    reads_then tt (λ done. refl) c.loop-piece.invariant.reads c.in_ok-last.ensures.reads

pub returns-then-last-at-clause-rows : goal.returns-then-last-at-clause-rows
returns-then-last-at-clause-rows g c clean head rows holds =
    let some = c.loop-piece.invariant in
    let early = c.take_piece.ensures.reads.clean clean in
    let before = some.rows early head rows holds in
    let seen = some.reads.same tt early head rows holds in
    let next = c.in_ok-last.ensures.rows clean head rows seen in
    let all = all_taken rows c.loop-piece.at before.1 (omega (arith, next.0)) in
    all_rows c.requires (rw all at (takes_then before.0 next.1))

pub returns-then-last-at-clause-taken : goal.returns-then-last-at-clause-taken
returns-then-last-at-clause-taken g c =
    let took = takes_then c.loop-piece.invariant.took.1 c.in_ok-last.ensures.took.1 in
    record { contents = took.contents; changes = took.changes (rw c.requires refl) }

pub returns-then-last-at-clause-told : goal.returns-then-last-at-clause-told
returns-then-last-at-clause-told g c =
    let some = c.loop-piece.invariant in
    let same : c.front.result ≡ c.loop-piece.at =
    omega (arith, some.count, c.in_ok-last.ensures.count, c.front.ensures) in
    rw same some.told

pub returns-clause-reads : goal.returns-clause-reads
returns-clause-reads g c =
    let some = c.loop-piece.invariant.reads in
    record { clean = some.clean; same = λ done. some.same tt; crash = some.crash }

pub returns-clause-why : goal.returns-clause-why
returns-clause-why g c clean head rows holds =
    omega (arith, c.loop-piece.invariant.many, (c.loop-piece.invariant.rows clean head rows holds).1)
