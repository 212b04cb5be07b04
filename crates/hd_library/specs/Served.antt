-- How terminals are served, as the words of the command line say.
use Rattle.hd_command_line.specs.declared.orders.Beyond.{Beyond}
use Rattle.hd_command_line.specs.declared.orders.Beyond.TheVariants.{Wait, TurnAway}
use Rattle.hd_serve.specs.declared.options.Beyond as served
use Rattle.hd_serve.specs.declared.options.Beyond.TheVariants as serve

-- what becomes of a connection beyond those that are served at once: it waits, or it is closed
abbrev pub beyond_served : Beyond → served.Beyond
beyond_served Wait = serve.Wait
beyond_served TurnAway = serve.TurnAway
