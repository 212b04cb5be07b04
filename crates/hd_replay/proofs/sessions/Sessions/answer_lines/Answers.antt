use Rattle.std.proofs.Common.{◌∙◌, ◌+◌, ◌++◌, ◌∷◌, [], Contains, List, ℕ, arith, ap, append-nil, append_assoc}
use Rattle.std.proofs.Common.{drop, length-set, refl}
use Rattle.std.proofs.Common.{subst, sym, take-append-drop}
use Rattle.hd_replay.proofs.Lining.{all_done, all_none, are_from, behind_line, ends_same, line_and}
use Rattle.hd_replay.proofs.Lining.{line_first, line_more, lines_exist}
use Rattle.hd_replay.proofs.Replayed.{all_after, no_if_ok, none_replayed, passed_on, stops_after}
use Rattle.hd_replay.proofs.sessions.Sessions.answer_lines.Goals as goal

pub loop-end-init : goal.loop-end-init
loop-end-init g c = record {
  done = ([], [], refl, all_none (λ line. Contains line 10 → ⊥), none_replayed _, sym (append-nil _));
  behind = refl;
  size = refl;
  within = omega arith;
  room = omega arith;
  legal = λ l. l;
}

pub answer_line-requires : goal.answer_line-requires
answer_line-requires g c =
    let ends = c.in-Some.ensures.found in
    let place = ends.place in
    let within = ends.within in
    let size = c.loop-end.invariant.size in
    let room = c.loop-end.invariant.room in
    let fits = c.requires in
    omega (arith, place, within, size, room, fits)

pub loop-end-preserved : goal.loop-end-preserved
loop-end-preserved g c =
    let kept = c.loop-end.invariant in
    let done = kept.done in
    let ends = c.in-Some.ensures.found in
    let same = ends_same 10 c.args.text.now c.loop-end.text c.loop-end.used c.in-Some.end kept.behind
    kept.size ends in
    let one =
    c.in_ok-answer_line.ensures.replayed ends.first
    (line_and 10 13 c.loop-end.text c.loop-end.text c.loop-end.used c.in-Some.end ends refl) in
    let place = ends.place in
    let within = ends.within in
    let room = kept.room in
    let counted = one.1.counted in
    let long = length-set c.loop-end.text c.in-Some.end 13 in
    record {
      done = (
        done.0 ++ ends.first ∷ [],
        done.1 ++ one.0,
        line_more 10 c.args.text.now c.loop-end.used c.in-Some.end same done.0 done.2,
        all_done 10 ends.first done.0 done.3 ends.plain,
        all_after _ _ _ done.0 (ends.first ∷ []) done.1 one.0 done.4 one.1,
        one.2 ∙ (ap (λ (o : List ℕ). o ++ one.0) done.5 ∙ append_assoc _ done.1 one.0),
      );
      behind = behind_line 10 13 c.args.text.now c.loop-end.text c.loop-end.used c.in-Some.end same
          kept.behind;
      size = long ∙ kept.size;
      within = omega (arith, long, within);
      room = omega (arith, counted, room, place);
      legal = λ l. c.in_ok-answer_line.ensures.legal (kept.legal l);
    }

pub returns-in_err-answer_line-clause-replayed : goal.returns-in_err-answer_line-clause-replayed
returns-in_err-answer_line-clause-replayed g c =
    let kept = c.loop-end.invariant in
    let done = kept.done in
    let ends = c.in-Some.ensures.found in
    let same = ends_same 10 c.args.text.now c.loop-end.text c.loop-end.used c.in-Some.end kept.behind
    kept.size ends in
    let one =
    c.in_err-answer_line.ensures.replayed ends.first
    (line_and 10 13 c.loop-end.text c.loop-end.text c.loop-end.used c.in-Some.end ends refl) in
    let later = lines_exist 10 (drop (c.in-Some.end + 1) c.args.text.now) in (
      done.0 ++ ends.first ∷ later.0,
      later.1,
      are_from 10 c.args.text.now (drop c.loop-end.used c.args.text.now) later.1 done.0 (ends.first ∷ later.0)
          (sym (take-append-drop c.loop-end.used c.args.text.now)
          ∙ ap (λ (t : List ℕ). t ++ drop c.loop-end.used c.args.text.now) done.2)
          done.3
          (line_first 10 (drop c.loop-end.used c.args.text.now) ends.first
          (drop (c.in-Some.end + 1) c.args.text.now) later.1 later.0
          same.split ends.plain later.2),
      (
        done.1 ++ one.0,
        passed_on _ _ _ _ _ _ c.from_residual.ensures.0 c.from_residual.ensures.1
            (stops_after _ _ _ _ done.0 later.0 ends.first done.1 one.0 c.in_err-answer_line.ensures.stops
            done.4 one.1),
        one.2 ∙ (ap (λ (o : List ℕ). o ++ one.0) done.5 ∙ append_assoc _ done.1 one.0),
      ),
      no_if_ok _ _ c.from_residual.ensures.0,
    )

pub returns-clause-replayed : goal.returns-clause-replayed
returns-clause-replayed g c =
    let kept = c.loop-end.invariant in
    let done = kept.done in (
      done.0,
      drop c.loop-end.used c.args.text.now,
      record {
        whole = sym (take-append-drop c.loop-end.used c.args.text.now)
            ∙ ap (λ (t : List ℕ). t ++ drop c.loop-end.used c.args.text.now) done.2;
        plain = done.3;
        unended = subst (λ (t : List ℕ). Contains t 10 → ⊥) kept.behind c.in_default.ensures.none;
      },
      (done.1, done.4, done.5),
      (kept.within, kept.behind),
    )
