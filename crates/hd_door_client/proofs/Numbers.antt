-- Numbers in texts.
use Rattle.std.proofs.Common.{arith, ◌≡◌, ◌==◌, refl, sym, subst, ℕ, ◌<◌, ◌^◌, Bool, true, false, cond, zero}
use Rattle.std.proofs.Common.{suc, List, [], ◌∷◌, ◌-◌, drop, eqb-true, length, take, Option, None, Some}
use Rattle.std.proofs.Common.{Result, Ok, Err}
use Rattle.std.proofs.Common.{IfNone, IfSome}
use Rattle.std.specs.Str.{IsAscii}
use Rattle.std.specs.Str.Parse.{AllDigits, ParsesUnsigned, without_leading_plus}
use Rattle.std.specs.Result.{result_ok}
use Rattle.std.proofs.lemmas.Fmt.{IsAscii-from_digits}
use Rattle.std.proofs.lemmas.List.{length-drop, take_all}
use Rattle.hd_door_client.specs.Answers.{IsNoNumber, IsNumberOf}
use Rattle.hd_door_client.specs.Lines.{IsNumberBehind}

-- digits are ASCII, behind a plus too
behind_first : (plus : Bool) (c : ℕ) (cs : List ℕ) → (c == 43) ≡ plus
    → AllDigits 10 (drop (cond plus 1 0) (c ∷ cs)) → IsAscii (c ∷ cs)
behind_first true c cs is all zero = let same = eqb-true c 43 is in omega (arith, same)
behind_first true c cs is all (suc i) = IsAscii-from_digits cs all i
behind_first false c cs is all i = IsAscii-from_digits (c ∷ cs) all i

pub number_ascii : (text : List ℕ) (n : ℕ) → IsNumberOf text n → IsAscii text
number_ascii [] n is = IsAscii-from_digits [] tt
number_ascii (c ∷ cs) n is = behind_first (c == 43) c cs refl is.0.1

-- what isn't parsed is no number
pub none_parsed : {E : Type 0} (r : Result ℕ E) (text : List ℕ) → ParsesUnsigned 64 10 text r
    → IfNone (result_ok r) (IsNoNumber text)
none_parsed (Ok n) text parses = tt
none_parsed (Err e) text parses =
    λ n small is. parses (is.0, subst (λ (m : ℕ). m < 2 ^ 64) is.1 small)

-- what is read behind a name is all that stands there
abbrev pub read_behind : List ℕ → List ℕ → List ℕ
read_behind name line = take (length line - length name) (drop (length name) line)

all_behind : (name line : List ℕ) → read_behind name line ≡ drop (length name) line
all_behind name line = take_all _ _ (omega (arith, length-drop (length name) line))

-- so the number that is read there is the one behind the name
pub behind_name : (name line : List ℕ) (r : Option ℕ) → IfSome r (IsNumberOf (read_behind name line))
    → IfNone r (IsNoNumber (read_behind name line)) → IsNumberBehind name (Some line) r
behind_name name line (Some n) some none = subst (λ (t : List ℕ). IsNumberOf t n) (all_behind name line) some
behind_name name line None some none = subst IsNoNumber (all_behind name line) none
