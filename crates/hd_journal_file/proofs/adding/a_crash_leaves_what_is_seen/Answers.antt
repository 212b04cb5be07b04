use Rattle.hd_journal_file.proofs.Held.{held_is_left, left_is_held, stored_turns}
use Rattle.hd_journal_file.proofs.adding.a_crash_leaves_what_is_seen.Goals as goal

pub returns-clause-one : goal.returns-clause-one
returns-clause-one g c k turns left db =
    stored_turns c.a_turn_is_read_of_its_values.ensures c.a_row_is_of_one_message.ensures.one

pub returns-clause-only : goal.returns-clause-only
returns-clause-only g c k turns left =
    left_is_held c.a_turn_is_read_of_its_values.ensures c.a_row_is_of_one_message.ensures.one
    (λ db. g.met.S.Store.settled c.args._conn.now.store db)

pub returns-clause-left : goal.returns-clause-left
returns-clause-left g c k turns held =
    held_is_left (g.met.S.Store.stays c.args._conn.now.store held.keeps.is_open) held
