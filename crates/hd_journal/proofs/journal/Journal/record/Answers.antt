use Rattle.std.proofs.Common.{ap, sym, subst, option_map, List}
use Rattle.hd_rules.specs.declared.commands.Survivor.{Survivor}
use Rattle.hd_rules.specs.Turns.{State}
use Rattle.hd_catalogue.specs.Contents.{facts_of}
use Rattle.hd_records.specs.Shown.{record_shown}
use Rattle.hd_journal.specs.Books.{Book, facts, state}
use Rattle.hd_journal.specs.Stored.{IsRecordOf}
use Rattle.hd_journal.proofs.journal.Journal.record.Goals as goal

pub returns : goal.returns
returns g c =
    let r = c.self.inside.run in
    subst (λ (x : Book). IsRecordOf (facts x) (state x).survivors c.args.number
    (option_map record_shown c.record.result)) c.self.view_is
    (subst (λ (ss : List Survivor). IsRecordOf (facts_of r.contents) ss c.args.number
    (option_map record_shown c.record.result))
    (sym (ap (λ (s : State). s.survivors) c.self.invariant.state)) c.record.ensures)
