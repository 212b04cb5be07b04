-- A survivor of a legal journal has one record.
use Rattle.std.proofs.Common.{◌≡◌, refl, sym, ◌∙◌, List, Ok}
use Rattle.hd_rules.specs.Words.{Survivor}
use Rattle.hd_rules.specs.Facts.{Facts}
use Rattle.hd_rules.specs.Desk.{Desk}
use Rattle.hd_rules.specs.Ask.{Done, asks}
use Rattle.hd_rules.specs.Step.{plan}
use Rattle.hd_rules.specs.Run.{IsAmong, outcome_of, run}
use Rattle.hd_rules.specs.Depends.{before}
use Rattle.hd_rules.specs.Journal.{Turn, state_after, IsLegal, WasTold}
use Rattle.hd_rules.specs.Record.{findings, Record, IsRecordAt, IsKeptOf}
use Rattle.hd_rules.proofs.Tests.{done_is}
use Rattle.hd_rules.proofs.Journals.{legal_is_run}

one_record : (k : Facts) (d : Desk) (s : Survivor) (a b : Record) → IsRecordAt k d s a
    → IsRecordAt k d s b → a ≡ b
one_record k d s a b h g =
    let done : record { changes = a.changes; reply = a.reply }
    ≡ record { changes = b.changes; reply = b.reply } =
    done_is _ _ (sym h.done ∙ g.done) in
    λ i. record {
      number = (h.number ∙ sym g.number) i;
      terminal = (h.terminal ∙ sym g.terminal) i;
      command = (h.command ∙ sym g.command) i;
      reply = (done i).reply;
      findings = (h.findings ∙ sym g.findings) i;
      changes = (done i).changes;
    }

pub each_has_one : (k : Facts) (turns : List Turn) → IsLegal k turns → (s : Survivor)
    → IsAmong s (state_after k turns).survivors → IsKeptOf k turns (state_after k turns).survivors s
each_has_one k turns legal s among =
    let ss : List Survivor = (state_after k turns).survivors in
    let r : (done : Done) × (outcome_of k (run k (before s.number ss)) s ≡ Ok done)
    × WasTold turns s done.reply =
    (legal_is_run k turns legal).replies s among in
    record {
      kept = record {
        number = s.number;
        terminal = s.terminal;
        command = s.command;
        reply = r.0.reply;
        findings = findings k (run k (before s.number ss))
            (asks k (run k (before s.number ss)) (plan k s.number s.command));
        changes = r.0.changes;
      };
      is_record = record { number = refl; terminal = refl; command = refl; done = r.1; findings = refl };
      told = r.2;
      only = λ other is.
          one_record k (run k (before s.number ss)) s other _ is (record {
            number = refl;
            terminal = refl;
            command = refl;
            done = r.1;
            findings = refl;
          });
    }
