-- Accepts that fail: which of them pass (accept(2)).
use Rattle.std.specs.Prelude.{◌==◌, ℕ, ℤ, pos, List, [], ◌∷◌, Option, None, Some, if◌then◌else◌}
use Rattle.std.specs.List.{list_any}
use Rattle.std.specs.declared.io.ErrorKind.{ErrorKind}
use Rattle.std.specs.declared.io.ErrorKind.TheVariants.{ConnectionAborted, ConnectionReset, Interrupted}
use Rattle.hd_serve.specs.declared.failed.Failed.{Failed}
use Rattle.hd_serve.specs.declared.failed.Failed.TheVariants.{Lost, ForNow, ForGood}

-- The system's codes of a connection that was lost: forbidden by a firewall (1, EPERM), its machine off the
-- network (64, ENONET), its protocol failed, not there, or not able (71, EPROTO; 92, ENOPROTOOPT; 95,
-- EOPNOTSUPP), its network down or out of reach (100, ENETDOWN; 101, ENETUNREACH), its other side down or out
-- of reach (112, EHOSTDOWN; 113, EHOSTUNREACH).
abbrev pub lost_codes : List ℕ
lost_codes = 1 ∷ 64 ∷ 71 ∷ 92 ∷ 95 ∷ 100 ∷ 101 ∷ 112 ∷ 113 ∷ []

-- Those of what is lacking: memory (12, ENOMEM), a descriptor of the system's or of the process's (23,
-- ENFILE; 24, EMFILE), room for the network (105, ENOBUFS).
abbrev pub lack_codes : List ℕ
lack_codes = 12 ∷ 23 ∷ 24 ∷ 105 ∷ []

-- why an accept failed, by the system's code
abbrev pub of_code : ℤ → Failed
of_code (pos n) =
    if list_any (λ code. n == code) lost_codes then Lost
    else if list_any (λ code. n == code) lack_codes then ForNow else ForGood
of_code code = ForGood

abbrev pub of_some_code : Option ℤ → Failed
of_some_code (Some code) = of_code code
of_some_code None = ForGood

-- Why an accept failed: the connection was lost, also where its other side has gone or the call was
-- interrupted; or something is lacking now; or it failed for good.
abbrev pub kind_of : ErrorKind → Option ℤ → Failed
kind_of ConnectionAborted code = Lost
kind_of ConnectionReset code = Lost
kind_of Interrupted code = Lost
kind_of kind code = of_some_code code
