use Rattle.std.proofs.Common.{◌≡◌, ◌∙◌, ◌-◌, ◌+◌, ◌∷◌, [], List, ℕ, arith, ap, length, map, refl, subst, sym}
use Rattle.std.proofs.lemmas.List.{length-map, map-set}
use Rattle.hd_catalogue.specs.Contents.{Contents}
use Rattle.hd_journal.specs.Offices.{Keeps}
use Rattle.hd_session.specs.Scripts.{AreKnownTo, session_at}
use Rattle.hd_session.specs.Sessions.{Hearing}
use Rattle.hd_replay.specs.Inputs.{AreLines, line_of}
use Rattle.hd_replay.specs.Replays.{IsLegalReplay, IsOfOffice, Progress, ReplayedOnto}
use Rattle.hd_replay.proofs.Playing.{at_place, emptied, line_put, said_at}
use Rattle.hd_replay.proofs.sessions.Sessions.feed.Goals as goal

pub invariant_of-self : goal.invariant_of-self
invariant_of-self g c =
    let sessions : length c.self.inside.sessions.items ≡ 64 = sym c.self.inside.sessions.ok.0
    ∙ c.self.invariant.0 in
    let outs : length (map (λ out. out.items) c.play.new.outs.items) ≡ 64 =
    length-map c.play.new.outs.items (λ out. out.items)
    ∙ (sym c.play.new.outs.ok.0 ∙ c.play.ensures.sizes.1) in
    let played = c.play.ensures.plays in (
      c.play.ensures.sizes.0,
      c.play.ensures.sizes.1,
      rw (map-set, c.clear.ensures.items)
          (emptied (c.args.number - 1) _ _ _ _ _ _ _ c.self.invariant.2 refl sessions outs
          played.fed played.outs_are),
      subst (λ (k : Contents). AreKnownTo k c.play.new.sessions.items)
          (sym (ap (λ (keeps : Keeps). keeps.contents) played.works.same))
          (played.known c.self.invariant.3),
      c.play.ensures.office,
    )

pub print_answer-printed-requires : goal.print_answer-printed-requires
print_answer-printed-requires g c =
    let one = c.requires.from_one in
    let few = c.requires.number in
    let sessions_then : length c.play.new.sessions.items ≡ 64 = sym c.play.new.sessions.ok.0
    ∙ c.play.ensures.sizes.0 in
    let end : c.end-end.result ≡ (session_at c.play.new.sessions.items (c.args.number - 1)).ended =
    c.end-end.ensures ∙ ap (λ (h : Hearing). h.ended)
    (c.index.ensures ∙ at_place c.play.new.sessions.items (c.args.number - 1) _
    (omega (arith, one, few, sessions_then))) in
    subst IsOfOffice (sym end) (c.play.ensures.office (c.args.number - 1))

pub returns-clause-replayed : goal.returns-clause-replayed
returns-clause-replayed g c text is =
    let prints = c.print_answer-printed.ensures.printed in
    let played = c.play.ensures.plays in
    let one = c.requires.from_one in
    let few = c.requires.number in
    let sessions : length c.self.inside.sessions.items ≡ 64 = sym c.self.inside.sessions.ok.0
    ∙ c.self.invariant.0 in
    let sessions_then : length c.play.new.sessions.items ≡ 64 = sym c.play.new.sessions.ok.0
    ∙ c.play.ensures.sizes.0 in
    let outs : length c.play.new.outs.items ≡ 64 = sym c.play.new.outs.ok.0 ∙ c.play.ensures.sizes.1 in
    let before : Progress =
    record {
      contents = c.self.inside.journal.contents;
      now = c.self.inside.now;
      sessions = c.self.inside.sessions.items;
      turns = c.self.inside.journal.turns;
      lines = c.self.inside.lines;
    } in
    let after : Progress =
    record {
      contents = c.play.new.journal.contents;
      now = c.self.inside.now;
      sessions = c.play.new.sessions.items;
      turns = c.play.new.journal.turns;
      lines = c.self.inside.lines + 1;
    } in
    let end : c.end-end.result ≡ (session_at c.play.new.sessions.items (c.args.number - 1)).ended =
    c.end-end.ensures ∙ ap (λ (h : Hearing). h.ended)
    (c.index.ensures ∙ at_place c.play.new.sessions.items (c.args.number - 1) _
    (omega (arith, one, few, sessions_then))) in
    let said =
    c.as_slice.ensures.value ∙ (ap (λ out. out.items) c.index-2.ensures
    ∙ sym (said_at (λ out. out.items) c.play.new.outs.items (c.args.number - 1) _
    (omega (arith, one, few, outs)))) in
    subst (λ (p : Progress). ReplayedOnto {X = Unit {0}} p after
    (line_of (record { session = c.args.number; text = text }) ∷ [])
    c.print_answer-printed.result c.args.out.now.items
    c.print_answer-printed.new.out.items) c.self.view_is
    (line_put c.args.number text c.args.piece.now prints.1 prints.0 before after
    (map (λ out. out.items) c.self.inside.outs.items)
    (map (λ out. out.items) c.play.new.outs.items) one few is c.self.invariant.2 sessions played.events
    played.fed
    played.works.turns played.works.shown played.outs_are
    (subst (λ (t : List ℕ). AreLines 13 t prints.0 prints.1) said prints.2) c.print_answer-printed.result
    c.args.out.now.items
    c.print_answer-printed.new.out.items (ap (λ (keeps : Keeps). keeps.contents) played.works.same, refl) refl
    (c.play.ensures.office (c.args.number - 1)) c.print_answer-printed.ensures.memory
    (rw end at c.print_answer-printed.ensures.well)
    (rw end at prints.3))

pub returns-clause-legal : goal.returns-clause-legal
returns-clause-legal g c legal =
    c.play.ensures.plays.works.holds (subst IsLegalReplay (sym c.self.view_is) legal)
