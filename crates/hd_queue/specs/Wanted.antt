-- Which holds of a list are wanted.
use Rattle.std.specs.Prelude.{ℕ, Bool, true, ◌&&◌, ◌==◌, Option, None, Some}
use Rattle.hd_rules.specs.declared.holds.Hold.{Hold}
use Rattle.hd_queue.specs.declared.wanted.Wanted.{Wanted}
use Rattle.hd_queue.specs.declared.wanted.Wanted.TheVariants.{All, Naming}
use Rattle.hd_queue.specs.Waiting.{names}

-- whether a hold is picked up at this branch
abbrev pub is_picked_up_at : ℕ → Hold → Bool
is_picked_up_at branch h = h.pickup == branch

-- whether a hold is wanted
abbrev pub wants_hold : Wanted → Hold → Bool
wants_hold All h = true
wants_hold (Naming copy) h = names copy h.kind

-- whether it is, and its pickup is this branch, if one is given
abbrev pub wants_at : Wanted → Option ℕ → Hold → Bool
wants_at wanted None h = wants_hold wanted h
wants_at wanted (Some branch) h = wants_hold wanted h && is_picked_up_at branch h
