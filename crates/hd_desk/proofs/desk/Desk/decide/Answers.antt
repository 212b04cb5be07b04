use Rattle.std.proofs.Common.{sym, ◌∙◌, ap}
use Rattle.std.proofs.lemmas.Result.{err_from_is_err_and}
use Rattle.hd_desk.specs.Asking.{told_with}
use Rattle.hd_desk.proofs.Planned.{accepted, followed}
use Rattle.hd_desk.proofs.desk.Desk.decide.Goals as goal

pub returns-in_err-reply : goal.returns-in_err-reply
returns-in_err-reply g c =
    let p = err_from_is_err_and c.from_residual.result c.from_residual.ensures.1 in
    rw (p.1, p.2)
    (sym (followed c.args.self.now c.args.number c.args.command.now c.new-inquiry.result
    (told_with c.follow.new.footprint c.follow.result) c.follow.new.self.asked
    c.new-inquiry.ensures.start c.follow.ensures.ends).outcome
    ∙ ap (told_with c.follow.new.footprint) c.in_err-reply.was)

pub returns : goal.returns
returns g c =
    accepted c.laws.ensures c.args.self.now c.args.number c.args.command.now c.new-inquiry.result
    c.follow.new.self
    (told_with c.follow.new.footprint c.follow.result)
    (record { changes = c.follow.new.footprint; findings = c.into_findings.result })
    c.in_ok-reply.reply c.new-inquiry.ensures.start c.follow.ensures.ends c.follow.ensures.desk
    (ap (told_with c.follow.new.footprint) c.in_ok-reply.was)
    c.into_findings.ensures.findings c.new-inquiry.ensures.kept c.requires.known c.requires.sound
