use Rattle.std.proofs.Common.{◌∙◌, subst}
use Rattle.hd_rules.specs.Facts.{AreInRange}
use Rattle.hd_catalogue.specs.Contents.{Contents, facts_of}
use Rattle.hd_journal.specs.Books.{IsKept}
use Rattle.hd_journal.specs.TurnLog.{kept_in}
use Rattle.hd_journal.proofs.Keeping.{kept_at_start, legal_book}
use Rattle.hd_journal.proofs.journal.Journal.new.Goals as goal

pub invariant_of-result : goal.invariant_of-result
invariant_of-result g c =
    kept_at_start c.args.desk.copies.contents c.new.result c.new-2.result.turns c.new-2.result.places
    (subst (λ (x : Contents). AreInRange (facts_of x)) (c.deref.ensures ∙ c.catalogue.ensures)
    c.command_limit.ensures.facts)
    c.requires.opens c.new.ensures c.new-2.ensures.turns c.new-2.ensures.places

pub returns-clause-legal : goal.returns-clause-legal
returns-clause-legal g c =
    let kept : IsKept c.new-2.result.turns c.new.result (kept_in c.new-2.result.turns c.new-2.result.places) =
    kept_at_start c.args.desk.copies.contents c.new.result c.new-2.result.turns c.new-2.result.places
    (subst (λ (x : Contents). AreInRange (facts_of x)) (c.deref.ensures ∙ c.catalogue.ensures)
    c.command_limit.ensures.facts)
    c.requires.opens c.new.ensures c.new-2.ensures.turns c.new-2.ensures.places in
    legal_book c.journal_laws.ensures _ _ _ kept
