use Rattle.std.proofs.Common.{◌+◌, subst}
use Rattle.hd_catalogue.specs.Contents.{facts_of}
use Rattle.hd_desk.specs.Desks.{desk_of}
use Rattle.hd_records.specs.Survivors.{survivors_of}
use Rattle.hd_rules.specs.Sound.{Sound}
use Rattle.hd_journal.specs.SurvivorRun.{SurvivorRun}
use Rattle.hd_journal.proofs.Runs.{sound_below}
use Rattle.hd_journal.proofs.survivor_run.SurvivorRun.desk.Goals as goal

pub returns-clause-sound : goal.returns-clause-sound
returns-clause-sound g c =
    let k = facts_of c.self.inside.desk.copies.contents in
    let rs = c.self.inside.records in
    let d = desk_of c.self.inside.desk in
    let leads = c.self.invariant.0 in
    subst (λ (x : SurvivorRun). Sound (facts_of x.contents) (x.last + 1) d) c.self.view_is
    (sound_below c.laws.ensures.commands k (survivors_of rs.records)
    (rs.last + 1) d leads.desk leads.may_run leads.last)
