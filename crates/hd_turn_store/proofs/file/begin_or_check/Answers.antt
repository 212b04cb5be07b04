use Rattle.std.proofs.Common.{◌≡◌, ◌⊎◌, ◌∙◌, [], ◌∷◌, ap, arith, inl, inr, is_ok, sym, List, Result, Ok, Err}
use Rattle.std.proofs.Common.{IfErr, IsErrOf}
use Rattle.std.proofs.lemmas.Grind.{common_steps}
use Rattle.std.proofs.lemmas.Result.{IfErr-weaker, MatchResult-weaker}
use Rattle.hd_turn_store.specs.Words.{HasCleanDisk, Schema, State, state}
use Rattle.hd_turn_store.specs.declared.fault.Fault.{Fault}
use Rattle.hd_turn_store.specs.declared.fault.Fault.TheVariants.{NotAJournal}
use Rattle.hd_turn_store.specs.Faults.{IsWritingFault, RefusesDatabase, RefusesFormat}
use Rattle.hd_turn_store.specs.Holds.{Holds, IsBlank}
use Rattle.hd_turn_store.specs.Kept.{Head, KeptTurn}
use Rattle.hd_turn_store.specs.Tables.{IsJournal, journal_table, no_schema, turn_table}
use Rattle.hd_turn_store.proofs.file.begin_or_check.Goals as goal

-- what a result is told as, whose value alone is another
mapped : {A B : Type 0} (before : Result A Fault) (after : Result B Fault) (P : Fault → Type 0)
    → IfErr before (λ fault. after ≡ Err fault) → is_ok after ≡ is_ok before → IfErr before P → IfErr after P
mapped (Ok x) (Ok y) P same ok why = tt
mapped (Ok x) (Err y) P same ok why = absurd (cc)
mapped (Err x) after P same ok why = rw same why

no_journal : (schema : Schema) → schema ≡ no_schema → ¬ IsJournal schema
no_journal schema none (inl is) =
    let tables : [] ≡ journal_table ∷ turn_table ∷ [] = ap (λ (s : Schema). s.tables) (sym none ∙ is) in cc
no_journal schema none (inr is) =
    let tables : [] ≡ journal_table ∷ turn_table ∷ [] = ap (λ (s : Schema). s.tables) (sym none ∙ is) in cc

-- a database without a table
blank : (old new : State) (fault : Fault) → old.now.schema ≡ no_schema
    → ((fault ≡ NotAJournal) × ¬ IsBlank old) ⊎ IsWritingFault fault → RefusesDatabase old new fault
blank old new fault none why = record {
  other = λ some. absurd (some none);
  blank = λ is. elim why [ inl not ↦ absurd (not.1 is) | inr written ↦ written ];
  journal = λ clean head ks holds. absurd (no_journal old.now.schema none holds.schema);
}

-- one with a table
checked : {A : Type 0} (old new : State) (r : Result A Fault) → ¬ (old.now.schema ≡ no_schema)
    → (¬ IsJournal old.now.schema → IsErrOf r NotAJournal)
    → (HasCleanDisk new → IfErr r (λ fault. (head : Head) (ks : List KeptTurn) → Holds old head ks
    → RefusesFormat old new head fault)) → IfErr r (RefusesDatabase old new)
checked old new (Ok x) some other journal = tt
checked old new (Err fault) some other journal = record {
  other = λ there not. let is = other not in cc;
  blank = λ is. absurd (some is.schema);
  journal = journal;
}

pub returns-clause-reads : goal.returns-clause-reads
returns-clause-reads g c =
    let reads = c.check.ensures.reads in record {
      clean = reads.clean;
      same = λ done. reads.same (sym c.map-2.ensures.variant ∙ ap is_ok done);
      crash = reads.crash;
    }

pub returns-then-is_blank-clause-why : goal.returns-then-is_blank-clause-why
returns-then-is_blank-clause-why g c =
    let none : (state g.S.Store c.args.conn.now).now.schema ≡ no_schema = grind (arith, common_steps) in
    mapped c.begin.result c.map.result _
    (MatchResult-weaker c.begin.result c.map.ensures.cases (λ x is. tt) (λ fault is. is))
    c.map.ensures.variant
    (IfErr-weaker c.begin.result _ _ (λ fault. blank _ _ fault none) c.begin.ensures.fault)

pub returns-clause-why : goal.returns-clause-why
returns-clause-why g c =
    let some : ¬ ((state g.S.Store c.args.conn.now).now.schema ≡ no_schema) =
    λ is. grind (arith, common_steps) in
    mapped c.check.result c.map-2.result _
    (MatchResult-weaker c.check.result c.map-2.ensures.cases (λ x is. tt) (λ fault is. is))
    c.map-2.ensures.variant
    (checked _ _ c.check.result some c.check.ensures.other c.check.ensures.fault)
