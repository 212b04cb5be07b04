use Rattle.std.proofs.Common.{refl}
use Rattle.hd_journal.specs.Shown.{turn_shown}
use Rattle.hd_list_pages.proofs.Counting.{one_more}
use Rattle.hd_list_pages.proofs.tallied.TurnTallies.count.Goals as goal

pub returns-clause-on : goal.returns-clause-on
returns-clause-on g c =
    one_more c.args.journal.now.turns c.args.self.now
    (record {
      begun = c.args.self.now.begun;
      place = c.args.number;
      last = c.note.new.last;
      turns = c.tallies_with-self.result;
    })
    (turn_shown c.in-Some.turn) c.args.number c.in-Some.ensures c.requires.next c.requires.within refl refl
    c.tallies_with-self.ensures c.note.ensures.room c.note.ensures.noted
