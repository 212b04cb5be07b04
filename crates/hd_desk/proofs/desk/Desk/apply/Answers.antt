use Rattle.std.proofs.Common.{sym, ◌∙◌, ◌≡◌, subst, ◌+◌, List, arith}
use Rattle.hd_rules.specs.declared.cells.Change.{Change}
use Rattle.hd_rules.specs.Desk.{after}
use Rattle.hd_inverse.specs.Cells.{AreKnownChanges}
use Rattle.hd_desk.specs.Accepting.{CanBeMade}
use Rattle.hd_desk.specs.Desks.{desk_of, facts}
use Rattle.hd_desk.specs.DoneValue.{done_of}
use Rattle.hd_desk.proofs.Kept.{sound-same}
use Rattle.hd_desk.proofs.Planned.{can-still, left-back, left-sound, was-short}
use Rattle.hd_desk.proofs.desk.Desk.apply.Given.{Over}
use Rattle.hd_desk.proofs.desk.Desk.apply.Goals.{After-changes-2}
use Rattle.hd_desk.proofs.desk.Desk.apply.Goals as goal
use Rattle.hd_lemmas.proofs.Rules.{later_sound as sound-later}

pub returns-in-Err-clause-sound : goal.returns-in-Err-clause-sound
returns-in-Err-clause-sound g c = λ n above.
    sound-later (facts c.args.self.now) c.args.number n (desk_of c.args.self.now) (omega arith)
    c.requires.sound

pub ready-requires : goal.ready-requires
ready-requires g c =
    subst (λ (xs : List Change). AreKnownChanges (facts c.args.self.now) xs) (sym c.changes.ensures)
    c.in-Ok.ensures.can.back.known

pub returns-then-is_err-clause-sound : goal.returns-then-is_err-clause-sound
returns-then-is_err-clause-sound g c = λ n above.
    sound-later (facts c.ready.new.self) c.args.number n (desk_of c.ready.new.self) (omega arith)
    (sound-same c.args.self.now c.ready.new.self c.args.number c.ready.ensures.contents c.ready.ensures.desk
    c.requires.sound)

pub returns-then-is_err-clause-outcome : goal.returns-then-is_err-clause-outcome
returns-then-is_err-clause-outcome g c =
    was-short c.args.self.now _ (done_of c.decide.new.done c.in-Ok.reply) c.changes.result.now c.ready.result
    c.is_err.result
    c.in-Ok.ensures.outcome
    c.changes.ensures c.is_err.ensures.value c.if-is_err.true c.ready.ensures.full

-- there is room for the changes, and they can still be made
can : (g : Over) (c : After-changes-2 g)
    → CanBeMade (facts c.ready.new.self) (desk_of c.ready.new.self) c.args.number c.changes-2.result.now
can g c =
    can-still c.args.self.now c.ready.new.self c.args.number c.decide.new.done.changes c.changes-2.result.now
    c.in-Ok.ensures.can
    c.ready.ensures.contents c.ready.ensures.desk c.changes-2.ensures

pub make-requires-clause-known : goal.make-requires-clause-known
make-requires-clause-known g c = (can g (goal.at.make-requires-clause-known g c).After-changes-2).back.known

pub make-requires-clause-apart : goal.make-requires-clause-apart
make-requires-clause-apart g c = (can g (goal.at.make-requires-clause-apart g c).After-changes-2).back.apart

pub make-requires-clause-fit : goal.make-requires-clause-fit
make-requires-clause-fit g c = (can g (goal.at.make-requires-clause-fit g c).After-changes-2).fit

pub returns-clause-sound : goal.returns-clause-sound
returns-clause-sound g c = λ n above.
    sound-later (facts c.make.new.self) (c.args.number + 1) n (desk_of c.make.new.self) (omega arith)
    (left-sound c.ready.new.self c.make.new.self c.args.number c.changes-2.result.now
    (can g (goal.at.returns-clause-sound g c).After-changes-2) c.make.ensures.contents c.make.ensures.desk)

pub returns-clause-did : goal.returns-clause-did
returns-clause-did g c =
    let made : desk_of c.make.new.self ≡ after c.decide.new.done.changes (desk_of c.args.self.now) =
    c.make.ensures.desk ∙ (λ i. after (c.changes-2.ensures i) (c.ready.ensures.desk i)) in record {
      findings = c.in-Ok.ensures.findings;
      after = made;
      back =
          left-back c.args.self.now c.make.new.self c.args.number c.decide.new.done.changes c.in-Ok.ensures.can
          (c.make.ensures.contents ∙ c.ready.ensures.contents) made;
    }
