use Rattle.std.proofs.Common.{[], length, take, ap, arith}
use Rattle.std.specs.List.{flat_map}
use Rattle.std.proofs.lemmas.List.{length-append}
use Rattle.std.proofs.lemmas.List.Folds.{length-flat_map-take}
use Rattle.hd_message.specs.Part.{part_text}
use Rattle.hd_message.specs.declared.part.Part.TheVariants.{Text}
use Rattle.hd_message.proofs.appending.append.Goals as goal

-- the part that found no room lies within the whole text
pub returns-in-Err-clause-full : goal.returns-in-Err-clause-full
returns-in-Err-clause-full g c =
    let parts = c.args.parts.now in
    let at = c.loop-part.part-index in
    let within = length-flat_map-take part_text parts at
    (Text (record { ref_ptr = (0, 0); now = [] })) c.loop-part-test.true in
    let text = ap length c.loop-part.invariant.text in
    omega (
      arith,
      within,
      text,
      c.in-Err.ensures.full,
      length-append c.args.out.now.items (flat_map part_text (take at parts)),
    )
