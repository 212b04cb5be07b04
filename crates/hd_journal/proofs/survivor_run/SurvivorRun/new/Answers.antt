use Rattle.std.proofs.Common.{arith, ◌≡◌, ◌∙◌, ap, sym, subst, ℕ, List, []}
use Rattle.hd_catalogue.specs.Contents.{Contents, facts_of}
use Rattle.hd_desk.specs.Desks.{contents, desk_of}
use Rattle.hd_rules.specs.Record.{Record}
use Rattle.hd_journal.specs.Deciding.{run_at}
use Rattle.hd_journal.specs.SurvivorRun.{LeadsTo}
use Rattle.hd_journal.specs.Stored.{AreStored}
use Rattle.hd_journal.proofs.survivor_run.SurvivorRun.new.Goals as goal

pub invariant_of-result : goal.invariant_of-result
invariant_of-result g c =
    let lent = contents c.args.desk in
    let k = facts_of lent in
    let empty : LeadsTo (run_at lent [] k.opening.last) (desk_of c.args.desk) = record {
      desk = c.requires.desk;
      may_run = record { opens = c.requires.opens; rising = tt; known = tt };
      last = omega arith;
    } in
    let last : c.new.result.last ≡ k.opening.last =
    c.new.ensures.last ∙ c.last_before-before.ensures.last
    ∙ ap (λ (x : Contents). (facts_of x).opening.last) (c.deref.ensures ∙ c.catalogue.ensures) in (
      subst (λ (rs : List Record). LeadsTo (run_at lent rs c.new.result.last) (desk_of c.args.desk))
          (sym c.new.ensures.records)
          (subst (λ (n : ℕ). LeadsTo (run_at lent [] n) (desk_of c.args.desk)) (sym last) empty),
      subst (AreStored k) (sym c.new.ensures.records) (record { are = tt; undoable = tt }),
      c.new.ensures.listed k,
    )
