-- Desks that differ by some changes go on to do so where a command is answered alike at both.
use Rattle.std.proofs.Common.{◌≡◌, refl, sym, ◌∙◌, subst, List, [], ◌∷◌, inl, inr, Result, Ok, Err}
use Rattle.hd_rules.specs.declared.cells.Change.{Change}
use Rattle.hd_rules.specs.declared.commands.Survivor.{Survivor}
use Rattle.hd_rules.specs.declared.replies.Refusal.{Refusal}
use Rattle.hd_rules.specs.Facts.{Facts}
use Rattle.hd_rules.specs.Desk.{Desk, value, put, after}
use Rattle.hd_rules.specs.Ask.{Done}
use Rattle.hd_rules.specs.Step.{plan}
use Rattle.hd_rules.specs.Run.{IsAmong, outcome_of, changed_by, step, AreChanges}
use Rattle.hd_rules.specs.Depends.{AnsweredAlike}
use Rattle.hd_rules.specs.Differ.{DifferAtEach, DifferBy}
use Rattle.hd_clash.specs.Rules.{Rules}
use Rattle.hd_lemmas.proofs.Rules.{EachSame, put_same, same_cell_refl, after_elsewhere, differ_after}

-- what is the same at both desks for each of these changes
each_same : (d e : Desk) (gs : List Change) → ((g : Change) → IsAmong g gs → value d g.cell ≡ value e g.cell)
    → EachSame d e gs
each_same d e [] same = tt
each_same d e (g ∷ gs) same = (same g (inl refl), each_same d e gs (λ x among. same x (inr among)))

-- each has its new value once the changes are made
each_made : (d e : Desk) (cs : List Change) → AreChanges cs
    → ((c : Change) → IsAmong c cs → value e c.cell ≡ c.old) → DifferAtEach (after cs d) e cs
each_made d e [] are old = tt
each_made d e (c ∷ cs) are old = (
  record {
    new = after_elsewhere cs (put d c.cell c.new) c.cell are.2
        ∙ put_same d c.cell c.new c.cell are.1 (same_cell_refl c.cell);
    old = old c (inl refl);
    differ = are.0;
  },
  each_made (put d c.cell c.new) e cs are.3 (λ x among. old x (inr among)),
)

module _ (rules : Rules) (k : Facts) where
  -- the desk after a command differs by its changes from the desk before it
  pub differ_made : (d : Desk) (s : Survivor) (done : Done) → AreChanges done.changes
      → outcome_of k d s ≡ Ok done → DifferBy done.changes (after done.changes d) d
  differ_made d s done are is = record {
    elsewhere = λ y apart. after_elsewhere done.changes d y apart;
    each = each_made d d done.changes are
        (λ c among. (rules.answers.written k d s.number s.command done is c among).1);
  }

  differ_ended : (d e : Desk) (cs : List Change) (s : Survivor) → DifferBy cs d e
      → outcome_of k e s ≡ outcome_of k d s → (r : Result Done Refusal) → outcome_of k d s ≡ r
      → DifferBy cs (changed_by r d) (changed_by r e)
  differ_ended d e cs s h same (Err r) is = h
  differ_ended d e cs s h same (Ok done) is =
      differ_after d e cs done.changes h (each_same d e done.changes (λ g among.
      (rules.answers.written k d s.number s.command done is g among).1
      ∙ sym (rules.answers.written k e s.number s.command done (same ∙ is) g among).1))

  -- after a command that is answered alike at two desks they differ as before
  pub differ_on : (d e : Desk) (cs : List Change) (s : Survivor) → DifferBy cs d e
      → AnsweredAlike k d e (plan k s.number s.command) → DifferBy cs (step k d s) (step k e s)
  differ_on d e cs s h alike =
      let same : outcome_of k d s ≡ outcome_of k e s =
      (rules.answers.alike k d e s.number s.command alike).0 in
      subst (λ (r : Result Done Refusal). DifferBy cs (step k d s) (changed_by r e)) same
      (differ_ended d e cs s h (sym same) (outcome_of k d s) refl)
