use Rattle.std.proofs.Common.{◌≡◌, ◌+◌, ◌∙◌, ap, sym, subst, refl, ℕ, ◌++◌, ◌∷◌, []}
use Rattle.hd_rules.specs.declared.commands.Survivor.{Survivor}
use Rattle.hd_rules.specs.declared.replies.TurnReply.TheVariants.{Done as Accepted}
use Rattle.hd_rules.specs.Ask.{asks}
use Rattle.hd_rules.specs.Desk.{Desk}
use Rattle.hd_rules.specs.Known.{IsKnownAction}
use Rattle.hd_rules.specs.Record.{Record, IsRecordAt, findings}
use Rattle.hd_rules.specs.Run.{outcome_of, run}
use Rattle.hd_rules.specs.Sound.{Sound}
use Rattle.hd_rules.specs.Step.{plan}
use Rattle.hd_catalogue.specs.Contents.{Contents, facts_of}
use Rattle.hd_clash.specs.CommandKeys.{keys_of_command}
use Rattle.hd_inverse.specs.Cells.{AreKnownChanges}
use Rattle.hd_desk.specs.Desks.{desk_of}
use Rattle.hd_desk.specs.DoneValue.{done_of}
use Rattle.hd_records.specs.RecordsValue.{AreListed, HasRoomFor}
use Rattle.hd_records.specs.Survivors.{survivor_of, survivors_of}
use Rattle.hd_journal.specs.Deciding.{run_at}
use Rattle.hd_journal.specs.SurvivorRun.{LeadsTo, SurvivorRun, Submitted}
use Rattle.hd_journal.specs.Stored.{AreStored}
use Rattle.hd_journal.proofs.Raising.{rise_step}
use Rattle.hd_journal.proofs.Runs.{sound_below}
use Rattle.hd_journal.proofs.Stored.{stored_more, survivors_joined}
use Rattle.hd_journal.proofs.Submitting.{running_more, submitted_done}
use Rattle.hd_journal.proofs.survivor_run.SurvivorRun.submit.Goals as goal

pub ready-requires : goal.ready-requires
ready-requires g c =
    subst (λ (x : Contents). IsKnownAction (facts_of x) c.args.command.now.action)
    (sym (c.deref.ensures ∙ c.catalogue.ensures))
    (subst (λ (x : SurvivorRun). IsKnownAction (facts_of x.contents) c.args.command.now.action)
    (sym c.self.view_is) c.requires.known)

pub push-requires-clause-known : goal.push-requires-clause-known
push-requires-clause-known g c =
    let lent = c.deref-in-Ok.ensures ∙ c.catalogue-in-Ok.ensures ∙ c.in-Ok.ensures.contents in
    subst (λ (x : Record). IsKnownAction (facts_of c.deref-in-Ok.result.now) x.command.action)
    (sym c.record_of-record.ensures)
    (subst (λ (x : Contents). IsKnownAction (facts_of x) c.args.command.now.action) (sym lent)
    (subst (λ (x : SurvivorRun). IsKnownAction (facts_of x.contents) c.args.command.now.action)
    (sym c.self.view_is) c.requires.known))

pub push-requires-clause-room : goal.push-requires-clause-room
push-requires-clause-room g c =
    let lent = c.deref-in-Ok.ensures ∙ c.catalogue-in-Ok.ensures ∙ c.in-Ok.ensures.contents in
    let same = c.deref.ensures ∙ c.catalogue.ensures ∙ sym lent in
    subst (λ (x : Record). HasRoomFor
    (keys_of_command (facts_of c.deref-in-Ok.result.now) x.command) c.ready.new.self)
    (sym c.record_of-record.ensures)
    (subst (λ (x : Contents). HasRoomFor (keys_of_command (facts_of x) c.args.command.now) c.ready.new.self)
    same c.in_ok-ready.ensures.ok)

pub push-requires-clause-listed : goal.push-requires-clause-listed
push-requires-clause-listed g c =
    let lent = c.deref-in-Ok.ensures ∙ c.catalogue-in-Ok.ensures ∙ c.in-Ok.ensures.contents in
    subst (λ (x : Contents). AreListed (facts_of x) c.ready.new.self) (sym lent)
    (c.in_ok-ready.ensures.listed (facts_of c.self.inside.desk.copies.contents) c.self.invariant.2)

pub apply-requires-clause-sound : goal.apply-requires-clause-sound
apply-requires-clause-sound g c =
    let k = facts_of c.self.inside.desk.copies.contents in
    let same : c.last-number.result ≡ c.self.inside.records.last =
    c.last-number.ensures.last ∙ c.in_ok-ready.ensures.last in
    subst (λ (n : ℕ). Sound k (n + 1) (desk_of c.self.inside.desk)) (sym same)
    (sound_below c.laws.ensures.commands k (survivors_of c.self.inside.records.records)
    (c.self.inside.records.last + 1)
    (desk_of c.self.inside.desk) c.self.invariant.0.desk c.self.invariant.0.may_run c.self.invariant.0.last)

pub push-requires-clause-number : goal.push-requires-clause-number
push-requires-clause-number g c =
    ap (λ (x : Record). x.number) c.record_of-record.ensures
    ∙ ap (λ (n : ℕ). n + 1) c.last-number.ensures.last

pub invariant_of-self-in-Ok : goal.invariant_of-self-in-Ok
invariant_of-self-in-Ok g c =
    let contents = c.self.inside.desk.copies.contents in
    let k = facts_of contents in
    let rs = c.self.inside.records.records in
    let n : ℕ = c.last-number.result in
    let same : n ≡ c.self.inside.records.last = c.last-number.ensures.last ∙ c.in_ok-ready.ensures.last in
    let r : SurvivorRun = run_at contents rs n in
    let runs : LeadsTo r (desk_of c.self.inside.desk) =
    subst (λ (m : ℕ). LeadsTo (run_at contents rs m) (desk_of c.self.inside.desk))
    (sym same) c.self.invariant.0 in
    let new : Survivor =
    record { number = n + 1; terminal = c.args.terminal; command = c.args.command.now } in
    let kept : Record = record {
      number = n + 1;
      terminal = c.args.terminal;
      command = c.args.command.now;
      reply = c.in-Ok.reply;
      findings = c.apply.new.done.findings;
      changes = c.apply.new.done.changes;
    } in
    let known : IsKnownAction k c.args.command.now.action =
    subst (λ (x : SurvivorRun). IsKnownAction (facts_of x.contents) c.args.command.now.action)
    (sym c.self.view_is) c.requires.known in
    let more : c.push.new.self.records ≡ rs ++ kept ∷ [] =
    c.push.ensures.records ∙ (λ j. c.in_ok-ready.ensures.records j ++ c.record_of-record.ensures j ∷ []) in
    let last : n + 1 ≡ c.push.new.self.last =
    sym (c.push.ensures.last ∙ ap (λ (m : ℕ). m + 1) (sym c.last-number.ensures.last)) in
    let desk : desk_of c.self.inside.desk ≡ run k (survivors_of rs) = c.self.invariant.0.desk in
    let one : IsRecordAt k (run k (survivors_of rs)) (survivor_of kept) kept = record {
      number = refl;
      terminal = refl;
      command = refl;
      done = ap (λ (x : Desk). outcome_of k x new) (sym desk) ∙ c.in-Ok.ensures.outcome;
      findings =
          c.in-Ok.ensures.did.findings ∙ ap (λ (x : Desk). findings k x
          (asks k x (plan k (n + 1) c.args.command.now))) desk;
    } in
    let next : LeadsTo (record {
      contents = c.apply.new.self.copies.contents;
      survivors = survivors_of c.push.new.self.records;
      last = n + 1;
    }) (desk_of c.apply.new.self) =
    running_more r (desk_of c.self.inside.desk) (desk_of c.apply.new.self) c.apply.new.self.copies.contents
    (survivors_of c.push.new.self.records) new (done_of c.apply.new.done c.in-Ok.reply) runs known refl
    c.in-Ok.ensures.contents
    (ap survivors_of more ∙ survivors_joined rs (kept ∷ []))
    c.in-Ok.ensures.outcome c.in-Ok.ensures.did.after in (
      subst (λ (m : ℕ). LeadsTo (record {
        contents = c.apply.new.self.copies.contents;
        survivors = survivors_of c.push.new.self.records;
        last = m;
      }) (desk_of c.apply.new.self)) last next,
      subst (λ (x : Contents). AreStored (facts_of x) c.push.new.self.records) (sym c.in-Ok.ensures.contents)
          (stored_more c.laws.ensures k rs c.push.new.self.records kept c.self.invariant.1 one
          (subst (λ (x : Contents). AreKnownChanges (facts_of x) c.apply.new.done.changes)
          c.in-Ok.ensures.contents c.in-Ok.ensures.did.back.known)
          c.in-Ok.ensures.did.back.apart more),
      subst (λ (x : Contents). AreListed (facts_of x) c.push.new.self)
          (c.deref-in-Ok.ensures ∙ c.catalogue-in-Ok.ensures)
          c.push.ensures.listed,
    )

pub returns-in-Ok-clause-submitted : goal.returns-in-Ok-clause-submitted
returns-in-Ok-clause-submitted g c =
    let contents = c.self.inside.desk.copies.contents in
    let rs = c.self.inside.records.records in
    let n : ℕ = c.last-number.result in
    let same : n ≡ c.self.inside.records.last = c.last-number.ensures.last ∙ c.in_ok-ready.ensures.last in
    let r : SurvivorRun = run_at contents rs n in
    let kept : Record = record {
      number = n + 1;
      terminal = c.args.terminal;
      command = c.args.command.now;
      reply = c.in-Ok.reply;
      findings = c.apply.new.done.findings;
      changes = c.apply.new.done.changes;
    } in
    let more : c.push.new.self.records ≡ rs ++ kept ∷ [] =
    c.push.ensures.records ∙ (λ j. c.in_ok-ready.ensures.records j ++ c.record_of-record.ensures j ∷ []) in
    let last : n + 1 ≡ c.push.new.self.last =
    sym (c.push.ensures.last ∙ ap (λ (m : ℕ). m + 1) (sym c.last-number.ensures.last)) in
    let next : ℕ → SurvivorRun = λ m. record {
      contents = c.apply.new.self.copies.contents;
      survivors = survivors_of c.push.new.self.records;
      last = m;
    } in
    let done : Submitted r c.args.terminal c.args.command.now (Accepted (n + 1) c.in-Ok.reply)
    (next (n + 1)) =
    submitted_done r (desk_of c.self.inside.desk) c.apply.new.self.copies.contents
    (survivors_of c.push.new.self.records) c.args.terminal
    c.args.command.now (done_of c.apply.new.done c.in-Ok.reply) c.self.invariant.0.desk
    c.in-Ok.ensures.contents
    (ap survivors_of more ∙ survivors_joined rs (kept ∷ [])) c.in-Ok.ensures.outcome in
    subst
    (λ (x : SurvivorRun). Submitted x c.args.terminal c.args.command.now
    (Accepted (n + 1) c.in-Ok.reply) (next c.push.new.self.last))
    (ap (run_at contents rs) same ∙ c.self.view_is)
    (subst (λ (m : ℕ). Submitted r c.args.terminal c.args.command.now (Accepted (n + 1) c.in-Ok.reply)
    (next m)) last done)

pub returns-in-Err-Memory-clause-rise : goal.returns-in-Err-Memory-clause-rise
returns-in-Err-Memory-clause-rise g c = rise_step _ _ c.in-Err-Memory.ensures.counted
