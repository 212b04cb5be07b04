-- Logins, by their replies.
use Rattle.std.proofs.Common.{◌≡◌, ℕ, Bool, true, false, Option, None, Some, refl}
use Rattle.std.specs.Prelude.{codes, is_some, nat_eq}
use Rattle.std.specs.List.{starts_with}
use Rattle.hd_exchange.specs.Answers.{login_answer_text}
use Rattle.hd_exchange.specs.declared.login.Login.{Login}
use Rattle.hd_session.specs.Trailers.{text_and_trailer}

-- whether the reply to a login begins with 941
pub taken_text : (made : Option Login) (checked : Bool) (digit : Option ℕ)
    → starts_with nat_eq (text_and_trailer checked digit (login_answer_text made)) (codes "941") ≡ is_some made
taken_text None true digit = refl
taken_text None false digit = refl
taken_text (Some at) true digit = refl
taken_text (Some at) false digit = refl
