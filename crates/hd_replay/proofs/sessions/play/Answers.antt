use Rattle.std.proofs.Common.{◌∙◌, ◌≡◌, ◌<◌, ◌∷◌, [], arith, length, map, subst, sym}
use Rattle.std.proofs.lemmas.List.{length-map}
use Rattle.hd_session.specs.Scripts.{AreKnownTo}
use Rattle.hd_replay.specs.Replays.{AreOfOffice}
use Rattle.hd_replay.proofs.Playing.{plays_it, written_back}
use Rattle.hd_replay.proofs.sessions.play.Goals as goal

pub returns-clause-plays : goal.returns-clause-plays
returns-clause-plays g c =
    let size = c.as_mut_slice.ensures.len ∙ c.requires.sessions in
    let at = c.requires.at in
    let within : c.args.at < length c.as_mut_slice.result.now = omega (arith, size, at) in
    let plays = plays_it c.run.result (length c.as_mut_slice.result.now) c.args.at within
    c.run.ensures.stranger c.run.ensures.plays in
    let sessions =
    written_back c.args.sessions.now.len c.run.new.sessions c.args.sessions.now.items
    (sym (c.run.ensures.plays.sizes.0 ∙ c.as_mut_slice.ensures.len)) in
    let as_many : length c.run.new.outs ≡ length c.as_mut_slice-2.result.now =
    sym (length-map c.run.new.outs (λ out. out.items))
    ∙ (c.run.ensures.plays.sizes.1 ∙ length-map c.as_mut_slice-2.result.now (λ out. out.items)) in
    let outs =
    written_back c.args.outs.now.len c.run.new.outs c.args.outs.now.items
    (sym (as_many ∙ c.as_mut_slice-2.ensures.len)) in
    rw (sessions, outs) (rw (c.as_mut_slice.ensures.value, c.as_mut_slice-2.ensures.value) at plays)

pub returns-clause-office : goal.returns-clause-office
returns-clause-office g c =
    let size = c.as_mut_slice.ensures.len ∙ c.requires.sessions in
    let at = c.requires.at in
    let within : c.args.at < length c.as_mut_slice.result.now = omega (arith, size, at) in
    let plays = plays_it c.run.result (length c.as_mut_slice.result.now) c.args.at within
    c.run.ensures.stranger c.run.ensures.plays in
    let sessions =
    written_back c.args.sessions.now.len c.run.new.sessions c.args.sessions.now.items
    (sym (c.run.ensures.plays.sizes.0 ∙ c.as_mut_slice.ensures.len)) in
    let before = subst AreOfOffice (sym c.as_mut_slice.ensures.value) c.requires.office in
    let law = c.no_session_ends_by_another_fault.ensures.script c.args.journal.now.contents 0
    (record { session = c.args.at; piece = record { now = c.args.now.now; bytes = c.args.piece.now } } ∷ [])
    c.as_mut_slice.result.now c.run.new.sessions plays.events in
    rw sessions (λ i what other. (law what other other plays.fed (λ j. before j what other)).1 i)

pub run-requires-clause-known : goal.run-requires-clause-known
run-requires-clause-known g c =
    subst (AreKnownTo c.args.journal.now.contents) (sym c.as_mut_slice.ensures.value) c.requires.known
