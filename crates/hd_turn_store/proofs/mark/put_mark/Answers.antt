use Rattle.std.proofs.Common.{◌≡◌, ◌∙◌, ℕ, IsTrue, ap, arith, inr, subst, sym}
use Rattle.sqlite_store.specs.FileStore.{state}
use Rattle.sqlite_trees.proofs.Doubt.{clean_of as sure}
use Rattle.sqlite_wal.proofs.StateLemmas.{open_from}
use Rattle.hd_turn_store.specs.Words.{IsClean, IsFresh, View, view}
use Rattle.hd_turn_store.specs.Marks.{GetsMark, HasMark, SameButMark}
use Rattle.hd_turn_store.proofs.Marking.{through}
use Rattle.hd_turn_store.proofs.mark.put_mark.Goals as goal

-- a store that gets a mark after a copy, which changes nothing, gets it
marked_from : {mark : ℕ} {old copied new : View} → (IsTrue copied.is_open → copied ≡ old)
    → (IsTrue new.is_open → GetsMark mark copied new) → IsTrue new.is_open → GetsMark mark old new
marked_from same gets is_open =
    let it = gets is_open in
    rw (same (sym it.is_open ∙ is_open)) at it

pub returns-in_err-checkpoint-clause-crash : goal.returns-in_err-checkpoint-clause-crash
returns-in_err-checkpoint-clause-crash g c db may = inr (c.checkpoint.ensures.quiet.outcomes db may)

pub returns-in_err-commit_mark-clause-crash : goal.returns-in_err-commit_mark-clause-crash
returns-in_err-commit_mark-clause-crash g c =
    through c.args.store.now c.checkpoint.new.self c.commit_mark.new.store c.checkpoint.ensures.same
    c.checkpoint.ensures.quiet.outcomes c.commit_mark.ensures.crash

pub returns-in_err-checkpoint-2-clause-crash : goal.returns-in_err-checkpoint-2-clause-crash
returns-in_err-checkpoint-2-clause-crash g c db may =
    through c.args.store.now c.checkpoint.new.self c.commit_mark.new.store c.checkpoint.ensures.same
    c.checkpoint.ensures.quiet.outcomes c.commit_mark.ensures.crash db
    (c.rollback.ensures.quiet.outcomes db (c.checkpoint-2.ensures.quiet.outcomes db may))

pub returns-clause-crash : goal.returns-clause-crash
returns-clause-crash g c db may =
    through c.args.store.now c.checkpoint.new.self c.commit_mark.new.store c.checkpoint.ensures.same
    c.checkpoint.ensures.quiet.outcomes c.commit_mark.ensures.crash db
    (c.rollback.ensures.quiet.outcomes db (c.checkpoint-2.ensures.quiet.outcomes db may))

pub returns-clause-ok : goal.returns-clause-ok
returns-clause-ok g c none =
    let before = c.rollback.new.self in
    let clean : IsClean (view before) = omega (arith, c.checkpoint-2.ensures.quiet.clean) in
    let middle : IsClean (view c.commit_mark.new.store) = omega (arith, c.rollback.ensures.quiet.clean) in
    let h = open_from (state before) c.in_ok-checkpoint-2.ensures.ready (sure (view before).is_clean clean) in
    let undone = c.rollback.ensures.undone in
    let kept = undone.kept clean in
    let it = marked_from c.checkpoint.ensures.same (c.in_ok-commit_mark.ensures.ok middle)
    (kept.was_open h) in
    let on = c.in_ok-checkpoint-2.ensures.open none in
    let same = c.checkpoint-2.ensures.same on in (
      sym it.is_open ∙ kept.was_open h,
      λ settled.
          let committed = ap (λ (v : View). v.committed) same ∙ kept.committed h ∙ sym (it.settled settled) in
          record {
            is_open = on;
            fresh = λ numbered. subst IsFresh (sym same) (record {
              sound = (undone.undone h).1;
              numbered = undone.numbered ∙ it.numbered ∙ numbered;
              clean = (undone.undone h).0 ∙ sym (kept.committed h);
              unmarked = kept.marks h;
            });
            mark_is = subst (HasMark c.args.mark) (sym committed) it.mark_is;
            others = subst (SameButMark (view c.args.store.now).trees) (sym committed) it.others;
            emptied = c.in_ok-checkpoint-2.ensures.moved (c.rollback.ensures.logged (kept.was_open h));
          },
    )
