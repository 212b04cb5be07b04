use Rattle.std.proofs.Common.{◌≡◌, Some, refl, sym, ap, subst, ◌∙◌, true≢false}
use Rattle.hd_catalogue.specs.Contents.{IsTerminal, facts_of, is_password, terminal_number}
use Rattle.hd_catalogue.specs.Names.{name_at, number_of}
use Rattle.hd_catalogue.proofs.FoundLemmas.{place_is_number}
use Rattle.hd_catalogue.proofs.catalogue.Catalogue.terminal.Goals as goal

pub returns-in_err-number-clause-none : goal.returns-in_err-number-clause-none
unfolding IsTerminal
returns-in_err-number-clause-none g c =
    rw c.from_residual.ensures λ terminal is. c.in_err-number.ensures.none terminal
    (subst (λ k. name_at k.terminals terminal ≡ Some c.args.name.now) (sym c.self.view_is) is.0)

pub returns-then-not-is_password-clause-none : goal.returns-then-not-is_password-clause-none
unfolding IsTerminal
returns-then-not-is_password-clause-none g c = λ terminal is.
    let same = c.in_ok-number.ensures.only terminal
    (subst (λ k. name_at k.terminals terminal ≡ Some c.args.name.now) (sym c.self.view_is) is.0) in
    true≢false (sym is.1 ∙ ap (λ t. is_password c.args.self.now t c.args.word.now) same
    ∙ sym c.if-not-is_password.ensures)

pub returns-clause-number : goal.returns-clause-number
unfolding terminal_number facts_of
returns-clause-number g c =
    let few = c.self.invariant.0.facts.terminals in
    let found = subst (λ k. number_of k.terminals c.args.name.now ≡ Some c.in_ok-number.number)
    c.self.view_is (sym c.in_ok-number.ensures.value) in
    rw (
      place_is_number c.new.ensures c.in_ok-number.ensures.in_range few,
      found,
      ← c.if-not-is_password.ensures,
    ) refl

pub returns-clause-named : goal.returns-clause-named
unfolding IsTerminal facts_of
returns-clause-named g c =
    let few = c.self.invariant.0.facts.terminals in
    rw (place_is_number c.new.ensures c.in_ok-number.ensures.in_range few)
    (rw (← c.self.view_is) c.in_ok-number.ensures.found, sym c.if-not-is_password.ensures)

pub returns-clause-in_range : goal.returns-clause-in_range
unfolding facts_of
returns-clause-in_range g c =
    let few = c.self.invariant.0.facts.terminals in
    rw (place_is_number c.new.ensures c.in_ok-number.ensures.in_range few, ← c.self.view_is)
    c.in_ok-number.ensures.in_range

pub returns-clause-none : goal.returns-clause-none
unfolding facts_of
returns-clause-none g c =
    let few = c.self.invariant.0.facts.terminals in
    rw (place_is_number c.new.ensures c.in_ok-number.ensures.in_range few) tt
