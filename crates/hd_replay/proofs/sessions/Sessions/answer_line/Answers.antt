use Rattle.std.proofs.Common.{◌∙◌, ◌+◌, ◌∷◌, [], List, ℕ, ap, append-nil, decimal, subst, sym}
use Rattle.hd_replay.specs.Replays.{Progress, ReplayedOnto}
use Rattle.hd_replay.proofs.Prefixes.{behind_blank, no_message}
use Rattle.hd_replay.proofs.Replayed.{stopped_here}
use Rattle.hd_replay.proofs.sessions.Sessions.answer_line.Goals as goal

pub returns-in-None-clause-replayed : goal.returns-in-None-clause-replayed
returns-in-None-clause-replayed g c text is = (
  [],
  stopped_here _ text (c.self.inside.lines + 1) (no_message _ text is c.in-None.ensures.none)
      (ap (λ (p : Progress). p.lines + 1) c.self.view_is),
  sym (append-nil _),
)

pub returns-in-Some-clause-replayed : goal.returns-in-Some-clause-replayed
returns-in-Some-clause-replayed g c text is =
    let found = c.in-Some.ensures.found in
    let behind = behind_blank (decimal c.in-Some.number) c.in-Some.piece.now text (sym found.1 ∙ is) in
    subst (λ (l : List ℕ). ReplayedOnto {X = Unit {0}} c.args.self.now c.feed.new.self (l ∷ []) c.feed.result
    c.args.out.now.items
    c.feed.new.out.items) (sym behind.2) (c.feed.ensures.replayed behind.0 behind.1)
