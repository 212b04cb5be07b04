-- A catalogue keeps proper names with one more.
use Rattle.std.proofs.Common.{◌≡◌, ℕ, zero, suc, true, List, [], ◌∷◌, ◌++◌, Some, subst, arith}
use Rattle.std.proofs.lemmas.Bool.Decides.{nat_tests}
use Rattle.std.proofs.lemmas.Option.{none-some}
use Rattle.hd_catalogue.specs.Contents.{AreNames, HasNames, IsShortName, without_names}
use Rattle.hd_catalogue.specs.Lines.{are_names}
use Rattle.hd_catalogue.specs.Text.{is_name}
use Rattle.hd_catalogue.specs.declared.facts.Settings.{Settings}

-- what is a name is short
pub name-short : (bytes : List ℕ) → is_name bytes ≡ true → IsShortName bytes
name-short bytes h = (grind (arith, nat_tests, h), grind (arith, nat_tests, h))

-- and the first of three names
pub first-name : (a b c : List ℕ) → are_names a b c ≡ true → is_name a ≡ true
unfolding are_names
first-name a b c h = grind (arith, h)

-- names, and one more
pub names-push : {F : Type 0} (names : List (List ℕ × F)) (e : List ℕ × F) → AreNames names
    → is_name e.0 ≡ true → AreNames (names ++ e ∷ [])
names-push [] e all new zero name h = subst (λ n. is_name n ≡ true) (some_is h) new
  where
    some_is : {A : Type 0} {x y : A} → Some x ≡ Some y → x ≡ y
    some_is h = cc
names-push [] e all new (suc i) name h = all i name h
names-push (x ∷ xs) e all new zero name h = all 0 name h
names-push (x ∷ xs) e all new (suc i) name h =
    names-push xs e (λ n other is. all (suc n) other is) new i name h

-- a catalogue without names
pub names-none : (settings : Settings) (institution : List ℕ) → is_name institution ≡ true
    → HasNames (without_names settings institution)
names-none settings institution name = record {
  institution = name;
  branches = λ i name is. absurd (none-some _ is);
  terminals = λ i name is. absurd (none-some _ is);
  patrons = λ i name is. absurd (none-some _ is);
  titles = λ i name is. absurd (none-some _ is);
  copies = λ i name is. absurd (none-some _ is);
}
