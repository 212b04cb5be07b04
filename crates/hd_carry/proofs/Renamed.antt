-- By names, numbers of the old catalogue become numbers of the new one, each name its own.
use Rattle.std.proofs.Common.{◌≡◌, refl, ◌∙◌, ap, subst, ℕ, Bool, true, false, cond, Option, Some, None}
use Rattle.std.proofs.Common.{option_and_then, eqb-true}
use Rattle.hd_rules.specs.Carry.{IsByNames}
use Rattle.hd_catalogue.specs.Contents.{Contents, facts_of, branch_name, title_name, copy_name, patron_name}
use Rattle.hd_catalogue.specs.Contents.{branch_number, title_number, copy_number, patron_number}
use Rattle.hd_carry.specs.ByNames.{is_number, new_title, new_copy, by_names, HasDistinctNames, IsRenumbering}
use Rattle.std.proofs.lemmas.Option.{same_Some}
use Rattle.hd_carry.proofs.Found.{Renamed, renamed, one_to_one, in_range, never_some}

number_is : (o : Option ℕ) (n : ℕ) → is_number o n ≡ true → o ≡ Some n
number_is None n is = let never : false ≡ true = is in cc
number_is (Some m) n is = ap (λ (x : ℕ). Some x) (eqb-true m n is)

module _ (old new : Contents) (distinct : HasDistinctNames old) where
  -- a copy that is there: its name is, under its title's
  pub record IsThere (c x : ℕ) : Type 0 where
    pub copy : Renamed old.copies new.copies c x
    pub title : new_title old new ((facts_of old).title_of c) ≡ Some ((facts_of new).title_of x)

  copy_there : (c x : ℕ) → option_and_then (copy_number new) (copy_name old c) ≡ Some x
      → Renamed old.copies new.copies c x
  unfolding copy_name copy_number
  copy_there c x same = renamed old.copies new.copies c x same

  pub is_there : (c x : ℕ) → new_copy old new c ≡ Some x → IsThere c x
  is_there c x same = by_number (option_and_then (copy_number new) (copy_name old c)) refl same
    where
      by_number : (o : Option ℕ) → option_and_then (copy_number new) (copy_name old c) ≡ o
          → option_and_then (λ y. cond
          (is_number (new_title old new ((facts_of old).title_of c)) ((facts_of new).title_of y)) (Some y)
          None) o
          ≡ Some x → IsThere c x
      by_number None at same = absurd (never_some x same)
      by_number (Some y) at same =
          by_title (is_number (new_title old new ((facts_of old).title_of c)) ((facts_of new).title_of y))
          refl same
        where
          by_title : (b : Bool)
              → is_number (new_title old new ((facts_of old).title_of c)) ((facts_of new).title_of y) ≡ b
              → cond b (Some y) None ≡ Some x → IsThere c x
          by_title false other same = absurd (never_some x same)
          by_title true title same =
              let one : y ≡ x = same_Some y x same in
              record {
                copy = copy_there c x (at ∙ same);
                title = subst (λ (z : ℕ). new_title old new ((facts_of old).title_of c)
                    ≡ Some ((facts_of new).title_of z)) one
                    (number_is (new_title old new ((facts_of old).title_of c)) ((facts_of new).title_of y)
                    title);
              }

  pub title_there : (t u : ℕ) → new_title old new t ≡ Some u → Renamed old.titles new.titles t u
  unfolding title_name title_number
  title_there t u same = renamed old.titles new.titles t u same

  branch_there : (b a : ℕ) → option_and_then (branch_number new) (branch_name old b) ≡ Some a
      → Renamed old.branches new.branches b a
  unfolding branch_name branch_number
  branch_there b a same = renamed old.branches new.branches b a same

  patron_there : (p q : ℕ) → option_and_then (patron_number new) (patron_name old p) ≡ Some q
      → Renamed old.patrons new.patrons p q
  unfolding patron_name patron_number
  patron_there p q same = renamed old.patrons new.patrons p q same

  is_by_names : IsByNames (facts_of old) (facts_of new) (by_names old new)
  unfolding by_names facts_of
  is_by_names = record {
    branches = λ x y z e f.
        one_to_one old.branches new.branches distinct.branches x y z (branch_there x z e)
        (branch_there y z f);
    titles = λ x y z e f. one_to_one old.titles new.titles distinct.titles x y z (title_there x z e)
        (title_there y z f);
    copies = λ x y z e f.
        let one : IsThere x z = is_there x z e in
        let two : IsThere y z = is_there y z f in
        one_to_one old.copies new.copies distinct.copies x y z one.copy two.copy;
    patrons = λ x y z e f.
        one_to_one old.patrons new.patrons distinct.patrons x y z (patron_there x z e) (patron_there y z f);
    known = λ c x e. let there : IsThere c x = is_there c x e in
        in_range old.copies c there.copy.name there.copy.was;
    new_branch = λ b a e.
        let there : Renamed old.branches new.branches b a = branch_there b a e in
        in_range new.branches a there.name there.is;
    new_copy = λ c x e. let there : IsThere c x = is_there c x e in
        in_range new.copies x there.copy.name there.copy.is;
    new_patron = λ p q e.
        let there : Renamed old.patrons new.patrons p q = patron_there p q e in
        in_range new.patrons q there.name there.is;
    title_of = λ c x e. let there : IsThere c x = is_there c x e in there.title;
  }

  pub is_renumbering : IsRenumbering (facts_of old) (facts_of new) (by_names old new)
  unfolding by_names facts_of
  is_renumbering = record {
    names = is_by_names;
    known_title = λ t u e.
        let there : Renamed old.titles new.titles t u = title_there t u e in
        in_range old.titles t there.name there.was;
    new_title = λ t u e.
        let there : Renamed old.titles new.titles t u = title_there t u e in
        in_range new.titles u there.name there.is;
    known_patron = λ p q e.
        let there : Renamed old.patrons new.patrons p q = patron_there p q e in
        in_range old.patrons p there.name there.was;
  }
