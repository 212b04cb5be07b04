use Rattle.std.proofs.Common.{◌∙◌, subst}
use Rattle.hd_rules.specs.Facts.{AreInRange}
use Rattle.hd_catalogue.specs.Contents.{Contents, facts_of}
use Rattle.hd_desk.specs.Desks.{contents, desk_of}
use Rattle.hd_journal.specs.TurnLog.{kept_by}
use Rattle.hd_journal.proofs.Growing.{to_grown, grown_kept, grown_state}
use Rattle.hd_journal.proofs.Keeping.{legal_book}
use Rattle.hd_journal.proofs.journal.Journal.grow.Goals as goal

pub grow-requires : goal.grow-requires
grow-requires g c = to_grown c.args.self.now c.self.inside.run c.self.inside.log.turns c.self.inside.meter
    (kept_by c.self.inside.log) (contents c.args.desk) c.self.view_is c.self.invariant (desk_of c.args.desk)
    c.requires.grows c.requires.grown
    (subst (λ (x : Contents). AreInRange (facts_of x)) (c.deref.ensures ∙ c.catalogue.ensures)
    c.opening-range.ensures.facts)

pub invariant_of-self : goal.invariant_of-self
invariant_of-self g c = grown_kept c.args.self.now c.self.inside.run c.self.inside.log.turns c.self.inside.meter
    (kept_by c.self.inside.log) (contents c.args.desk) c.self.view_is c.self.invariant c.grow.new.self
    c.grow.ensures c.requires.grows
    (subst (λ (x : Contents). AreInRange (facts_of x)) (c.deref.ensures ∙ c.catalogue.ensures)
    c.opening-range.ensures.facts)

pub returns-clause-state : goal.returns-clause-state
returns-clause-state g c = grown_state c.args.self.now c.self.inside.run c.self.inside.log.turns
    c.self.inside.meter (kept_by c.self.inside.log) (contents c.args.desk) c.self.view_is c.self.invariant
    c.grow.new.self c.grow.ensures c.requires.grows

pub returns-clause-legal : goal.returns-clause-legal
returns-clause-legal g c = legal_book c.journal_laws.ensures _ _ _
    (grown_kept c.args.self.now c.self.inside.run c.self.inside.log.turns c.self.inside.meter
    (kept_by c.self.inside.log) (contents c.args.desk) c.self.view_is c.self.invariant c.grow.new.self
    c.grow.ensures c.requires.grows
    (subst (λ (x : Contents). AreInRange (facts_of x)) (c.deref.ensures ∙ c.catalogue.ensures)
    c.opening-range.ensures.facts))
