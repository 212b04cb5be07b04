use Rattle.std.proofs.Common.{rules}
use Rattle.hd_catalogue.specs.Contents.{facts_of}
use Rattle.hd_turn_row.proofs.ColumnLemmas.{day_column}
use Rattle.hd_turn_row.proofs.PartLemmas.{parts_known}
use Rattle.hd_turn_row.proofs.row.row_of.Goals as goal

also : {A B : Type 0} → A → B → A × B
also a b = (a, b)

pub returns-clause-row : goal.returns-clause-row
returns-clause-row g c =
    let known =
    (parts_known (facts_of c.args.catalogue.now) c.args.ask.now.asked c.args.asked.now.parts
    c.requires.asked.parts).0 c.requires.known.1 in record {
      seat_is = search rules;
      terminal = search rules;
      parts = c.args.asked.now.parts;
      asked = c.requires.asked.parts;
      shown =
          also (day_column _ _ _ c.day.ensures c.requires.asked.day) (also (search rules)
          (also (search (rules, known, c.map.ensures.cases))
          (also (search (rules, known, c.map-2.ensures.cases))
          (also (search (rules, known, c.map-3.ensures.cases))
          (also (search (rules, known, c.map-4.ensures.cases))
          (also (search (rules, c.map-5.ensures.cases))
          (also (search (rules, c.requires.asked.until)) tt)))))));
      line = search rules;
    }
