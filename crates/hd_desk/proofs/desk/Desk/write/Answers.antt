use Rattle.std.proofs.Common.{◌∙◌, refl, sym, subst}
use Rattle.hd_rules.specs.Desk.{put}
use Rattle.hd_rules.specs.Known.{IsKnownCell, IsKnownValue}
use Rattle.hd_rules.specs.Sound.{IsFit}
use Rattle.hd_desk.specs.DeskValue.{DeskValue}
use Rattle.hd_desk.specs.Desks.{desk_of, facts}
use Rattle.hd_desk.proofs.Kept.{kept-put, put-copy-is, put-hold-is}
use Rattle.hd_desk.proofs.Making.{put-copy, put-hold}
use Rattle.hd_desk.proofs.desk.Desk.write.Goals as goal

pub put-requires-clause-welcome : goal.put-requires-clause-welcome
put-requires-clause-welcome g c =
    put-copy (record { copies = c.self.inside.copies; holds = c.self.inside.holds }) c.args.cell.now
    c.args.value.now c.in-Copy-Copy.copy
    c.in-Copy-Copy.state c.in-Copy-Copy.is-0 c.in-Copy-Copy.is-1
    (subst (λ (d : DeskValue). IsKnownCell (facts d) c.args.cell.now) (sym c.self.view_is)
    c.requires.known.cell)
    (subst (λ (d : DeskValue). IsFit (facts d) (put (desk_of d) c.args.cell.now c.args.value.now))
    (sym c.self.view_is) c.requires.fit)

pub put-requires-in-Hold-Hold-clause-fit : goal.put-requires-in-Hold-Hold-clause-fit
put-requires-in-Hold-Hold-clause-fit g c =
    put-hold (record { copies = c.self.inside.copies; holds = c.self.inside.holds }) c.args.cell.now
    c.args.value.now c.in-Hold-Hold.title
    c.in-Hold-Hold.patron c.in-Hold-Hold.held c.in-Hold-Hold.is-0 c.in-Hold-Hold.is-1
    (subst (λ (d : DeskValue). IsFit (facts d) (put (desk_of d) c.args.cell.now c.args.value.now))
    (sym c.self.view_is) c.requires.fit)

pub invariant_of-self : goal.invariant_of-self
invariant_of-self g c =
    let d : DeskValue = record { copies = c.self.inside.copies; holds = c.self.inside.holds } in (
      c.self.invariant.0 ∙ sym c.put.ensures.contents,
      kept-put d (record { copies = c.put.new.self; holds = c.self.inside.holds }) c.args.cell.now
          c.args.value.now c.put.ensures.contents
          (put-copy-is d c.put.new.self c.in-Copy-Copy.copy c.in-Copy-Copy.state c.put.ensures.standing
          ∙ (λ i. put (desk_of d) (sym c.in-Copy-Copy.is-0 i) (sym c.in-Copy-Copy.is-1 i)))
          (subst (λ (x : DeskValue). IsKnownValue (facts x) c.args.value.now) (sym c.self.view_is)
          c.requires.known.known)
          (subst (λ (x : DeskValue). IsFit (facts x) (put (desk_of x) c.args.cell.now c.args.value.now))
          (sym c.self.view_is)
          c.requires.fit)
          c.self.invariant.1,
    )

pub invariant_of-self-in-Hold-value-2 : goal.invariant_of-self-in-Hold-value-2
invariant_of-self-in-Hold-value-2 g c =
    let d : DeskValue = record { copies = c.self.inside.copies; holds = c.self.inside.holds } in (
      c.put-in-Hold-Hold.ensures.contents ∙ c.self.invariant.0,
      kept-put d (record { copies = c.self.inside.copies; holds = c.put-in-Hold-Hold.new.self })
          c.args.cell.now c.args.value.now refl
          (put-hold-is d c.put-in-Hold-Hold.new.self c.in-Hold-Hold.title c.in-Hold-Hold.patron
          c.in-Hold-Hold.held
          c.put-in-Hold-Hold.ensures.held
          ∙ (λ i. put (desk_of d) (sym c.in-Hold-Hold.is-0 i) (sym c.in-Hold-Hold.is-1 i)))
          (subst (λ (x : DeskValue). IsKnownValue (facts x) c.args.value.now) (sym c.self.view_is)
          c.requires.known.known)
          (subst (λ (x : DeskValue). IsFit (facts x) (put (desk_of x) c.args.cell.now c.args.value.now))
          (sym c.self.view_is)
          c.requires.fit)
          c.self.invariant.1,
    )
