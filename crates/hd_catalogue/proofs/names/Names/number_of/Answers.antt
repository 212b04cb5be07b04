use Rattle.std.proofs.Common.{subst, ◌≡◌, ◌∙◌, ap, sym, Option, IfNone, IfSome, Some, None, ℕ, ◌<◌, List}
use Rattle.std.proofs.Common.{length}
use Rattle.hd_catalogue.specs.Names.{AreDistinct, name_at, number_of}
use Rattle.hd_catalogue.proofs.NamesLemmas.{position_of_name, number_found, number_in_range, number_none}
use Rattle.hd_catalogue.proofs.names.Names.number_of.Goals as goal

pub returns-clause-value : goal.returns-clause-value
returns-clause-value g c =
    c.get_index_of.ensures.index ∙ position_of_name c.args.name.now c.self.inside.table.entries
    ∙ ap (λ n. number_of n c.args.name.now) c.self.view_is

found_of : {F : Type 0} (names : List (List ℕ × F)) (name : List ℕ) (r : Option ℕ) → r ≡ number_of names name
    → IfSome r (λ n. name_at names n ≡ Some name)
found_of names name None e = tt
found_of names name (Some n) e = number_found names name n (sym e)

in_range_of : {F : Type 0} (names : List (List ℕ × F)) (name : List ℕ) (r : Option ℕ)
    → r ≡ number_of names name → IfSome r (λ n. n < length names)
in_range_of names name None e = tt
in_range_of names name (Some n) e = number_in_range names name n (sym e)

only_of : {F : Type 0} (names : List (List ℕ × F)) (name : List ℕ) (r : Option ℕ) → AreDistinct names
    → r ≡ number_of names name → IfSome r (λ n. (m : ℕ) → name_at names m ≡ Some name → m ≡ n)
only_of names name None distinct e = tt
only_of names name (Some n) distinct e = λ m at. same_some (sym (distinct m name at) ∙ sym e)
  where
    same_some : {a b : ℕ} → Some a ≡ Some b → a ≡ b
    same_some e = cc

none_of : {F : Type 0} (names : List (List ℕ × F)) (name : List ℕ) (r : Option ℕ) → r ≡ number_of names name
    → IfNone r ((n : ℕ) → ¬ (name_at names n ≡ Some name))
none_of names name None e = λ n at. number_none names name n (sym e) at
none_of names name (Some n) e = tt

pub returns-clause-found : goal.returns-clause-found
returns-clause-found g c =
    found_of c.args.self.now c.args.name.now c.get_index_of.result (returns-clause-value g c)

pub returns-clause-in_range : goal.returns-clause-in_range
returns-clause-in_range g c =
    in_range_of c.args.self.now c.args.name.now c.get_index_of.result (returns-clause-value g c)

pub returns-clause-none : goal.returns-clause-none
returns-clause-none g c =
    none_of c.args.self.now c.args.name.now c.get_index_of.result (returns-clause-value g c)

pub returns-clause-only : goal.returns-clause-only
returns-clause-only g c =
    only_of c.args.self.now c.args.name.now c.get_index_of.result
    (subst AreDistinct c.self.view_is c.self.invariant)
    (returns-clause-value g c)
