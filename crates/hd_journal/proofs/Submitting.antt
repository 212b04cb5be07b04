-- What a command leaves.
use Rattle.std.proofs.Common.{arith, ◌≡◌, refl, sym, ◌∙◌, ap, subst, ℕ, ◌+◌, ◌≤◌, List, [], ◌∷◌, ◌++◌, Result}
use Rattle.std.proofs.Common.{Ok}
use Rattle.hd_rules.specs.declared.commands.Command.{Command}
use Rattle.hd_rules.specs.declared.commands.Survivor.{Survivor}
use Rattle.hd_rules.specs.declared.replies.Refusal.{Refusal}
use Rattle.hd_rules.specs.declared.replies.TurnReply.TheVariants.{Done as Accepted}
use Rattle.hd_rules.specs.Facts.{Facts, first_number}
use Rattle.hd_rules.specs.Desk.{Desk, after}
use Rattle.hd_rules.specs.Ask.{Done}
use Rattle.hd_rules.specs.Run.{run, outcome_of, changed_by, step, next_number}
use Rattle.hd_rules.specs.Machine.{answered_command}
use Rattle.hd_catalogue.specs.Contents.{Contents, facts_of}
use Rattle.hd_journal.specs.SurvivorRun.{SurvivorRun, LeadsTo, IsKnownSurvivor, Submitted, state_at}
use Rattle.hd_journal.proofs.Runs.{run_more, may_run_last}
use Rattle.hd_lemmas.proofs.Rules.{next_more}

-- an accepted command is one step
stepped : (k : Facts) (d e : Desk) (s : Survivor) (done : Done) → outcome_of k d s ≡ Ok done
    → e ≡ after done.changes d → e ≡ step k d s
stepped k d e s done is goes = goes ∙ sym (ap (λ (r : Result Done Refusal). changed_by r d) is)

more : (r : SurvivorRun) (d e : Desk) (new : Survivor) (done : Done) → LeadsTo r d
    → IsKnownSurvivor (facts_of r.contents) new
    → new.number ≡ r.last + 1 → outcome_of (facts_of r.contents) d new ≡ Ok done → e ≡ after done.changes d
    → LeadsTo (record { contents = r.contents; survivors = r.survivors ++ new ∷ []; last = r.last + 1 }) e
more r d e new done is adds number accepted goes =
    let first : ℕ = first_number (facts_of r.contents) in
    let low : next_number first r.survivors ≤ r.last + 1 = is.last in
    let next : next_number first (r.survivors ++ new ∷ []) ≡ new.number + 1 =
    next_more first r.survivors new in
    record {
      desk = run_more (facts_of r.contents) r.survivors new d e is.desk
          (stepped (facts_of r.contents) d e new done accepted goes);
      may_run = may_run_last (facts_of r.contents) r.survivors new is.may_run adds (omega arith);
      last = omega arith;
    }

pub running_more : (r : SurvivorRun) (d e : Desk) (contents : Contents) (items : List Survivor)
    (new : Survivor) (done : Done) → LeadsTo r d
    → IsKnownSurvivor (facts_of r.contents) new → new.number ≡ r.last + 1 → contents ≡ r.contents
    → items ≡ r.survivors ++ new ∷ []
    → outcome_of (facts_of r.contents) d new ≡ Ok done → e ≡ after done.changes d
    → LeadsTo (record { contents = contents; survivors = items; last = r.last + 1 }) e
running_more r d e contents items new done is adds number same goes_on accepted goes =
    subst (λ (x : Contents). LeadsTo (record { contents = x; survivors = items; last = r.last + 1 }) e)
    (sym same)
    (subst (λ (xs : List Survivor). LeadsTo
    (record { contents = r.contents; survivors = xs; last = r.last + 1 }) e) (sym goes_on)
    (more r d e new done is adds number accepted goes))

-- the survivor that a command becomes
abbrev new_of : SurvivorRun → ℕ → Command → Survivor
new_of r terminal command = record { number = r.last + 1; terminal = terminal; command = command }

done_so : (r : SurvivorRun) (d : Desk) (terminal : ℕ) (command : Command) (done : Done)
    → d ≡ run (facts_of r.contents) r.survivors
    → outcome_of (facts_of r.contents) d (new_of r terminal command) ≡ Ok done
    → Submitted r terminal command (Accepted (r.last + 1) done.reply)
    (record {
      contents = r.contents;
      survivors = r.survivors ++ new_of r terminal command ∷ [];
      last = r.last + 1;
    })
done_so r d terminal command done at accepted kept =
    let k : Facts = facts_of r.contents in
    let new : Survivor = new_of r terminal command in
    let there : outcome_of k (run k r.survivors) new ≡ Ok done =
    ap (λ (x : Desk). outcome_of k x new) (sym at) ∙ accepted in
    let desk : after done.changes (run k r.survivors) ≡ run k (r.survivors ++ new ∷ []) =
    run_more k r.survivors new (run k r.survivors) (after done.changes (run k r.survivors)) refl
    (stepped k (run k r.survivors) (after done.changes (run k r.survivors)) new done there refl) in
    ap (answered_command (state_at r kept) new) there
    ∙ (λ j. record {
      reply = Accepted new.number done.reply;
      state = record { desk = desk j; survivors = r.survivors ++ new ∷ []; last = new.number; kept = kept };
    })

pub submitted_done : (r : SurvivorRun) (d : Desk) (contents : Contents) (items : List Survivor) (terminal : ℕ)
    (command : Command) (done : Done)
    → d ≡ run (facts_of r.contents) r.survivors → contents ≡ r.contents
    → items ≡ r.survivors ++ new_of r terminal command ∷ []
    → outcome_of (facts_of r.contents) d (new_of r terminal command) ≡ Ok done
    → Submitted r terminal command (Accepted (r.last + 1) done.reply)
    (record { contents = contents; survivors = items; last = r.last + 1 })
submitted_done r d contents items terminal command done at same goes_on accepted =
    subst (λ (x : SurvivorRun). Submitted r terminal command (Accepted (r.last + 1) done.reply) x)
    (λ j. record { contents = sym same j; survivors = sym goes_on j; last = r.last + 1 })
    (done_so r d terminal command done at accepted)
