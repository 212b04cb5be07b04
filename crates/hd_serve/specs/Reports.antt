-- What the log of a connection reports.
use Rattle.std.specs.Prelude.{◌≡◌, ◌⊎◌, ⊤, ℕ, List, Bool, Option, Some, None, true}
use Rattle.std.specs.Borrow.{Bor}
use Rattle.hd_catalogue.specs.Contents.{Contents}
use Rattle.hd_exchange.specs.declared.login.Login.{Login}
use Rattle.hd_log.specs.declared.event.ConnectionEvent.{ConnectionEvent}
use Rattle.hd_log.specs.declared.event.ConnectionEvent.TheVariants.{Line, Reply}
use Rattle.hd_log.specs.declared.event.Event.{Event}
use Rattle.hd_log.specs.declared.event.Event.TheVariants.{At}
use Rattle.hd_serve.specs.Logins.{IsLoginEvent, IsOther}

-- At the connection of this number, to an observer that was told these events.
module _ (was_told : Event → Bool) (connection : ℕ) where
  -- this was reported
  abbrev pub IsReported : ConnectionEvent → Type 0
  IsReported what = was_told (At connection what) ≡ true

  -- this line, and this reply
  abbrev pub IsLineReported : List ℕ → Type 0
  IsLineReported line = (text : Bor (List ℕ)) × (text.now ≡ line) × IsReported (Line text)

  abbrev pub IsReplyReported : List ℕ → Type 0
  IsReplyReported reply = (text : Bor (List ℕ)) × (text.now ≡ reply) × IsReported (Reply text)

  -- of a body with this reply the login, where it is one
  abbrev pub IsBodyReported : Contents → Option (List ℕ) → Option Login → List ℕ → Type 0
  IsBodyReported k None login reply = ⊤
  IsBodyReported k (Some body) login reply =
      IsOther body reply
      ⊎ ((what : ConnectionEvent) × IsLoginEvent k body login reply what × IsReported what)
