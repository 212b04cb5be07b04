use Rattle.std.proofs.Common.{◌∙◌, sym, take, []}
use Rattle.std.proofs.lemmas.List.{length-map}
use Rattle.hd_session.specs.Scripts.{steps_of}
use Rattle.hd_session.proofs.Playing.{plays_append}
use Rattle.hd_session.proofs.Strangers.{one_known, steps_more}
use Rattle.hd_session.proofs.script.run.Goals as goal

pub play-requires : goal.play-requires
play-requires g c =
    let played = c.loop-session.invariant in
    record {
      outs = sym (length-map _ (λ out. out.items))
          ∙ (played.sizes.1 ∙ (length-map _ (λ out. out.items) ∙ (c.requires.outs ∙ sym played.sizes.0)));
      known = rw played.works.same (played.known c.requires.known);
      session = rw played.sizes.0
          (one_known _ c.args.pieces.now c.loop-session.session-index _ c.loop-session-test.true
          c.in-None.ensures.known);
    }

pub loop-session-preserved : goal.loop-session-preserved
loop-session-preserved g c =
    rw (steps_more c.args.now.now c.args.pieces.now c.loop-session.session-index
    (0, record { ref_ptr = (0, 0); now = [] })
    c.loop-session-test.true)
    (plays_append _ _ _ _ (take c.loop-session.session-index (steps_of c.args.now.now c.args.pieces.now)) _ _
    _ _ _ _ _ c.loop-session.invariant
    c.play.ensures)
