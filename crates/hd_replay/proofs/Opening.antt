-- The sessions before any input.
use Rattle.std.proofs.Common.{◌≡◌, ◌∙◌, ◌+◌, ℕ, zero, suc, None, List, [], ◌∷◌, ◌++◌, replicate, arith, refl}
use Rattle.std.proofs.Common.{sym, ap}
use Rattle.std.proofs.lemmas.Option.{none-some}
use Rattle.hd_catalogue.specs.Contents.{Contents}
use Rattle.hd_exchange.specs.Extensions.{Extensions}
use Rattle.hd_session.specs.Scripts.{AreKnownTo, session_at}
use Rattle.hd_session.specs.Sessions.{Hearing, new_session}
use Rattle.hd_session.specs.declared.ended.Ended.TheVariants as ended
use Rattle.hd_replay.specs.Replays.{AreEmpty, AreOfOffice}

-- new sessions
new_login : (e : Extensions) (n i : ℕ) → (session_at (replicate n (new_session e)) i).state.login ≡ None
new_login e zero i = refl
new_login e (suc n) zero = refl
new_login e (suc n) (suc i) = new_login e n i

new_open : (e : Extensions) (n i : ℕ) → (session_at (replicate n (new_session e)) i).ended ≡ None
new_open e zero i = refl
new_open e (suc n) zero = refl
new_open e (suc n) (suc i) = new_open e n i

pub new_known : (k : Contents) (e : Extensions) (n : ℕ) → AreKnownTo k (replicate n (new_session e))
new_known k e n i at some = absurd (none-some at (sym (new_login e n i) ∙ some))

-- and haven't ended
pub new_of_office : (e : Extensions) (n : ℕ) → AreOfOffice (replicate n (new_session e))
new_of_office e n i = λ what other same. none-some (ended.Turn what) (sym (new_open e n i) ∙ same)

-- one out more, with nothing in it
pub empty_more : (outs : List (List ℕ)) → AreEmpty outs → AreEmpty (outs ++ [] ∷ [])
empty_more [] empty zero = refl
empty_more [] empty (suc i) = refl
empty_more (out ∷ outs) empty zero = empty zero
empty_more (out ∷ outs) empty (suc i) = empty_more outs (λ j. empty (suc j)) i

-- one session more
pub new_more : (e : Extensions) (n : ℕ)
    → replicate n (new_session e) ++ new_session e ∷ [] ≡ replicate (n + 1) (new_session e)
new_more e zero = refl
new_more e (suc n) =
    let more : suc n + 1 ≡ suc (n + 1) = omega arith in
    rw more (ap (λ (l : List Hearing). new_session e ∷ l) (new_more e n))
