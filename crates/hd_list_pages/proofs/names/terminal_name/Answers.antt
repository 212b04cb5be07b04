use Rattle.std.proofs.Common.{arith}
use Rattle.hd_list_pages.proofs.Past.{no_terminal}
use Rattle.hd_list_pages.proofs.names.terminal_name.Goals as goal

pub returns-else-number-terminals : goal.returns-else-number-terminals
returns-else-number-terminals g c =
    no_terminal c.args.catalogue.now c.args.terminal
    (omega (arith, c.terminals.ensures.count, c.if-number-terminals.false, c.number.ensures.value))
