-- Sessions that stand as terminals of the catalogue, or as none.
use Rattle.std.proofs.Common.{◌≡◌, ◌<◌, ℕ, zero, suc, subst, refl, arith, length, List, [], ◌∷◌, get_or, set}
use Rattle.hd_catalogue.specs.Contents.{Contents}
use Rattle.hd_exchange.specs.Extensions.{no_extensions}
use Rattle.hd_session.specs.Sessions.{Hearing, new_session}
use Rattle.hd_session.specs.Scripts.{AreKnownTo, session_at}
use Rattle.hd_session.specs.States.{IsKnownTo}

-- what stands at a place that there is
pub at_place : (sessions : List Hearing) (at : ℕ) (a b : Hearing) → at < length sessions
    → get_or sessions at a ≡ get_or sessions at b
at_place [] at a b within = absurd (omega (arith, within))
at_place (s ∷ ss) zero a b within = refl
at_place (s ∷ ss) (suc at) a b within = at_place ss at a b (omega (arith, within))

-- what holds of each session holds of each after one of them has gone on
pub each_goes_on : (P : Hearing → Type 0) (sessions : List Hearing) (at : ℕ) (session : Hearing)
    → ((i : ℕ) → P (session_at sessions i)) → P session → (i : ℕ) → P (session_at (set sessions at session) i)
each_goes_on P [] at session all holds i = all i
each_goes_on P (s ∷ ss) zero session all holds zero = holds
each_goes_on P (s ∷ ss) zero session all holds (suc i) = all (suc i)
each_goes_on P (s ∷ ss) (suc at) session all holds zero = all zero
each_goes_on P (s ∷ ss) (suc at) session all holds (suc i) =
    each_goes_on P ss at session (λ j. all (suc j)) holds i

-- one of them
pub one_of_known : (k : Contents) (sessions : List Hearing) (at : ℕ) (session : Hearing)
    → AreKnownTo k sessions → at < length sessions
    → IsKnownTo k (get_or sessions at session).state
one_of_known k sessions at session all within =
    subst (λ (s : Hearing). IsKnownTo k s.state)
    (at_place sessions at (new_session no_extensions) session within) (all at)

-- after one of them has gone on
pub one_goes_on : (k : Contents) (sessions : List Hearing) (at : ℕ) (session : Hearing)
    → AreKnownTo k sessions
    → IsKnownTo k session.state → AreKnownTo k (set sessions at session)
one_goes_on k sessions at session all known =
    each_goes_on (λ (s : Hearing). IsKnownTo k s.state) sessions at session all known
