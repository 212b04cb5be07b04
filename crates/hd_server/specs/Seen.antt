-- What is seen of a server.
use Rattle.std.specs.Prelude.{◌≡◌, ℕ, Bool, Some, min, if◌then◌else◌}
use Rattle.hd_http.specs.declared.state.Health.{Health}
use Rattle.hd_http.specs.declared.state.Health.TheVariants.{Well, Shut, Full, Gone}
use Rattle.hd_http.specs.declared.state.State.{State}
use Rattle.hd_server.specs.declared.server_view.Service.{Service}

-- whether a server can do its work, by whether its journal's file is gone, whether a connection has found no seat,
-- and its journal's health
abbrev pub health_of : Bool → Bool → Health → Health
health_of is_gone is_full Well = if is_gone then Gone else if is_full then Full else Well
health_of is_gone is_full Shut = Shut
health_of is_gone is_full Full = Full
health_of is_gone is_full Gone = Gone

-- a state with what is told of the server beside its journal
abbrev pub with_service : State → Service → State
with_service state s = record state {
  health = health_of s.gone s.full state.health;
  connections = Some s.connections;
  workers_busy = Some s.busy;
  journal_bytes = s.bytes;
  commit_micros = s.micros;
}

-- The state of a server with so many workers is its hall's, with what is told of the service: as many workers
-- are busy as there are connections, or all of them.
abbrev pub Tells : ℕ → (State → Type 0) → State → Type 0
Tells workers OfHall state =
    (hall : State) × OfHall hall × (service : Service) × (service.busy ≡ min service.connections workers)
    × (state ≡ with_service hall service)
