use Rattle.std.proofs.Common.{rules, ◌≡◌}
use Rattle.std.specs.Arc.{arc_value}
use Rattle.hd_journal_file.proofs.Held.{journal_held}
use Rattle.hd_journal_file.proofs.opening.durable.Goals as goal

pub new-requires-clause-held : goal.new-requires-clause-held
new-requires-clause-held g c =
    let told : arc_value c.in_ok-library.library ≡ c.args.journal.contents = search rules in
    let file = c.new-file.ensures in
    rw (file.conn, file.is_new, file.digest, file.catalogue, told, c.requires.change)
    (journal_held c.args.is_new c.desk.ensures.legal.legal c.requires.begun c.requires.found c.requires.told)

pub new-requires-clause-settled : goal.new-requires-clause-settled
new-requires-clause-settled g c =
    let told : arc_value c.in_ok-library.library ≡ c.args.journal.contents = search rules in
    let file = c.new-file.ensures in
    rw (file.conn, file.is_new, file.catalogue) (λ left may. file.settled _ left
    (rw (told, c.requires.change)
    (journal_held c.args.is_new c.desk.ensures.legal.legal c.requires.begun c.requires.found c.requires.told))
    may)

pub returns-clause-found : goal.returns-clause-found
returns-clause-found g c =
    let file = c.new-file.ensures in
    rw (c.new.ensures.contents, c.new.ensures.turns, c.new.ensures.table, file.conn, file.is_new)
    c.requires.found
