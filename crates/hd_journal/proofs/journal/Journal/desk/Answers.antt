use Rattle.std.proofs.Common.{◌≡◌, ◌+◌, ap, ◌∙◌, sym, subst, ℕ}
use Rattle.hd_rules.specs.Sound.{Sound}
use Rattle.hd_rules.specs.Turns.{State}
use Rattle.hd_catalogue.specs.Contents.{Contents, facts_of}
use Rattle.hd_desk.specs.Desks.{desk_of}
use Rattle.hd_journal.specs.Books.{Book, state}
use Rattle.hd_journal.proofs.Keeping.{legal_there}
use Rattle.hd_journal.proofs.journal.Journal.desk.Goals as goal

pub returns-clause-sound : goal.returns-clause-sound
returns-clause-sound g c =
    let r = c.self.inside.run in
    let d = desk_of c.desk.result.now in
    let last : r.last ≡ (state c.args.self.now).last =
    sym (ap (λ (s : State). s.last) c.self.invariant.state)
    ∙ ap (λ (x : Book). (state x).last) c.self.view_is in
    subst (λ (n : ℕ). Sound (facts_of c.desk.result.now.copies.contents) (n + 1) d) last
    (subst (λ (x : Contents). Sound (facts_of x) (r.last + 1) d)
    (sym c.desk.ensures.contents) c.desk.ensures.sound)

pub returns-clause-legal : goal.returns-clause-legal
returns-clause-legal g c = legal_there c.journal_laws.ensures _ _ _ _ _ c.self.invariant c.self.view_is
