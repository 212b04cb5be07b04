use Rattle.std.proofs.Common.{◌∙◌, ◌++◌, List, ℕ, ap, arith, subst, sym}
use Rattle.hd_replay.specs.declared.fault.ReplayFault.TheVariants.{Write}
use Rattle.hd_replay.specs.Inputs.{AreLines}
use Rattle.hd_replay.proofs.Reading.{filled, stop_of_line, stop_passed}
use Rattle.hd_replay.proofs.Replayed.{no_ok, part_of_some, passed_on}
use Rattle.hd_replay.proofs.replaying.answer_whole.Goals as goal

pub returns-in_err-write_all-clause-replayed : goal.returns-in_err-write_all-clause-replayed
returns-in_err-write_all-clause-replayed g c =
    let told = c.answer_lines-answered.ensures.replayed in
    let wrote = c.in_err-write_all.ensures.wrote in
    let out = c.as_slice.ensures.value ∙ (told.3.2 ∙ ap (λ (o : List ℕ). o ++ told.3.0) c.requires.out) in (
      told.0,
      told.1,
      wrote.0,
      subst (λ (t : List ℕ). AreLines 10 t told.0 told.1) c.as_mut_slice.ensures.value told.2,
      passed_on _ Write _ _ _ _ c.from_residual.ensures.0 c.from_residual.ensures.1
          (part_of_some c.answer_lines-answered.result _ _ told.0 told.3.0 wrote.0 (rw out at wrote.1)
          told.3.1),
      wrote.2,
      no_ok _ _ c.from_residual.ensures.0,
    )

pub returns-in_err-used-clause-replayed : goal.returns-in_err-used-clause-replayed
returns-in_err-used-clause-replayed g c =
    let told = c.in_err-used.ensures.replayed in
    let out = c.as_slice.ensures.value ∙ (told.3.2 ∙ ap (λ (o : List ℕ). o ++ told.3.0) c.requires.out) in (
      told.0,
      told.1,
      told.3.0,
      subst (λ (t : List ℕ). AreLines 10 t told.0 told.1) c.as_mut_slice.ensures.value told.2,
      passed_on _ _ _ _ _ _ c.from_residual-in_err-used.ensures.0 c.from_residual-in_err-used.ensures.1
          told.3.1,
      rw out at c.in_ok-write_all.ensures.wrote,
      no_ok _ _ c.from_residual-in_err-used.ensures.0,
    )

pub returns-in_err-write_all-clause-stops : goal.returns-in_err-write_all-clause-stops
returns-in_err-write_all-clause-stops g c = stop_passed _ Write c.from_residual.ensures.1 tt

pub returns-in_err-used-clause-stops : goal.returns-in_err-used-clause-stops
returns-in_err-used-clause-stops g c =
    stop_passed _ _ c.from_residual-in_err-used.ensures.1 (stop_of_line _ c.in_err-used.ensures.stops)

pub take_front-requires : goal.take_front-requires
take_front-requires g c =
    let told = c.in_ok-used.ensures.replayed in
    let long = c.as_mut_slice.ensures.len in
    let same = c.answer_lines-answered.auto.text in
    let within = told.4.0 in
    omega (arith, long, same, within)

pub returns-clause-replayed : goal.returns-clause-replayed
returns-clause-replayed g c =
    let told = c.in_ok-used.ensures.replayed in
    let out = c.as_slice.ensures.value ∙ (told.3.2 ∙ ap (λ (o : List ℕ). o ++ told.3.0) c.requires.out) in
    let buffer =
    filled c.args.input.now.len c.answer_lines-answered.new.text c.args.input.now.items
    (sym (c.answer_lines-answered.auto.text ∙ c.as_mut_slice.ensures.len)) in (
      told.0,
      told.1,
      told.3.0,
      subst (λ (t : List ℕ). AreLines 10 t told.0 told.1) c.as_mut_slice.ensures.value told.2,
      told.3.1,
      rw out at c.in_ok-write_all.ensures.wrote,
      c.take_front.ensures ∙ rw buffer told.4.1,
    )
