-- The lists of held titles, as one of them is read or written.
use Rattle.std.proofs.Common.{◌≡◌, ◌≢◌, ℕ, zero, suc, ◌<◌, ◌≤◌, ◌==◌, Bool, true, false, cond, List, [], ◌∷◌}
use Rattle.std.proofs.Common.{length, get_or, map}
use Rattle.std.proofs.Common.{refl, ap, sym, subst, ◌∙◌, inl, inr, ◌⊎◌, ⊎_elim, arith, eq-eqb}
use Rattle.std.specs.Prelude.{◌%◌, ◌↔◌}
use Rattle.std.specs.List.{All, Contains}
use Rattle.std.proofs.Math.ListN.{set}
use Rattle.std.proofs.lemmas.Bool.{cases_Bool, eqb-true, false≢true}
use Rattle.std.proofs.lemmas.List.{get_or-set_same, get_or-set_other, length-set}
use Rattle.std.proofs.lemmas.List.Elements.{All-set}
use Rattle.hd_holds.specs.declared.held_title.HeldTitle.{HeldTitle}
use Rattle.hd_holds.specs.HeldListsValue.{HeldListValue, HeldListsValue, IsListed, list_of}

-- the held titles of each list
abbrev pub titles_of : List HeldListValue → List (List HeldTitle)
titles_of ls = map (λ (l : HeldListValue). l.titles) ls

pub read_list : (ls : List HeldListValue) (at : ℕ) (l : HeldListValue) → at < length ls → l ≡ get_or ls at l
    → l.titles ≡ get_or (titles_of ls) at []
read_list [] at l within is = absurd (omega arith)
read_list (x ∷ ls) zero l within is = ap (λ (y : HeldListValue). y.titles) is
read_list (x ∷ ls) (suc at) l within is = read_list ls at l (omega arith) is

-- a list that got room has the same titles
pub titles_kept : (ls : List HeldListValue) (at : ℕ) (d r : HeldListValue) → r.titles
    ≡ (get_or ls at d).titles → titles_of (set ls at r) ≡ titles_of ls
titles_kept [] at d r same = refl
titles_kept (x ∷ ls) zero d r same = ap (λ ts. ts ∷ titles_of ls) same
titles_kept (x ∷ ls) (suc at) d r same = ap (λ tss. x.titles ∷ tss) (titles_kept ls at d r same)

pub room_kept : (ls : List HeldListValue) (at : ℕ) (d r : HeldListValue) → at < length ls
    → (get_or ls at d).room ≤ r.room → (n : ℕ) →
    All (λ (x : HeldListValue). n ≤ x.room) ls → All (λ (x : HeldListValue). n ≤ x.room) (set ls at r)
room_kept ls at d r within grown n all =
    All-set (λ (x : HeldListValue). n ≤ x.room) ls at r (omega (arith, grown, all at d within)) all

-- no list has any
pub none_listed : (ls : List HeldListValue) → All (λ (x : HeldListValue). x.titles ≡ []) ls → (n : ℕ)
    → get_or (titles_of ls) n [] ≡ []
none_listed [] none n = refl
none_listed (x ∷ ls) none zero = none 0 x (omega arith)
none_listed (x ∷ ls) none (suc n) = none_listed ls (λ k d l. none (suc k) d (omega arith)) n

pub empty_has_none : (ts : List HeldTitle) (x : HeldTitle) → ts ≡ [] → Contains ts x → ⊥
empty_has_none ts x none has = let within : has.0 < length ts = has.1 in let length_0 : length ts
    ≡ 0 = ap length none in omega arith

-- a patron's titles are those of the list
pub of_listed : (v : HeldListsValue) (p at : ℕ) (titles got : List HeldTitle) → at ≡ p % length v.lists
    → titles ≡ get_or v.lists at [] →
    ((x : HeldTitle) → Contains got x ↔ ((x.patron ≡ p) × Contains titles x)) → (x : HeldTitle)
    → Contains got x ↔ ((x.patron ≡ p) × IsListed v x)
of_listed v p at titles got number is each x = (
  λ has. let one = (each x).0 has in (one.0, subst (λ l. Contains l x) (there one.0) one.1),
  λ one. (each x).1 (one.0, subst (λ l. Contains l x) (sym (there one.0)) one.1),
)
  where
    there : x.patron ≡ p → titles ≡ list_of v x.patron
    there e = is ∙ ap (λ n. get_or v.lists n []) number ∙ ap (list_of v) (sym e)

-- one list written
module _ (v w : HeldListsValue) (y : HeldTitle) (at : ℕ) (old new : List HeldTitle)
    (number : at ≡ y.patron % length v.lists)
    (within : at < length v.lists) (is : old ≡ get_or v.lists at []) (written : w.lists ≡ set v.lists at new)
  where
    list_written : (p : ℕ) → list_of w p ≡ cond (at == p % length v.lists) new (list_of v p)
    list_written p =
        ap (λ ls. get_or ls (p % length ls) []) written
        ∙ ap (λ n. get_or (set v.lists at new) (p % n) []) (length-set v.lists at new)
        ∙ by_list (p % length v.lists)
      where
        by_list : (n : ℕ) → get_or (set v.lists at new) n [] ≡ cond (at == n) new (get_or v.lists n [])
        by_list n = elim (cases_Bool (at == n)) [
          | inl b ↦ (let e : at
              ≡ n = eqb-true at n b in
              rw b (ap (λ m. get_or (set v.lists at new) m []) (sym e)
              ∙ get_or-set_same v.lists at new [] within))
          | inr b ↦ rw b (get_or-set_other v.lists at n new []
              (λ e. false≢true (sym b ∙ eq-eqb at n (sym e))))
        ]

    -- its own list
    own_list : (x : HeldTitle) → (at == x.patron % length v.lists) ≡ true
        → (list_of w x.patron ≡ new) × (old ≡ list_of v x.patron)
    own_list x e = (
      list_written x.patron ∙ (λ i. cond (e i) new (list_of v x.patron)),
      is ∙ ap (λ n. get_or v.lists n []) (eqb-true at (x.patron % length v.lists) e),
    )

    -- another's
    other_list : (x : HeldTitle) → (at == x.patron % length v.lists) ≡ false
        → (list_of w x.patron ≡ list_of v x.patron) × (x ≢ y)
    other_list x e = (
      list_written x.patron ∙ (λ i. cond (e i) new (list_of v x.patron)),
      λ same. false≢true (sym e
          ∙ eq-eqb at (x.patron % length v.lists)
          (number ∙ ap (λ (z : HeldTitle). z.patron % length v.lists) (sym same))),
    )

    pub put_listed : ((x : HeldTitle) → Contains new x ↔ ((x ≡ y) ⊎ Contains old x)) → (x : HeldTitle)
        → IsListed w x ↔ ((x ≡ y) ⊎ IsListed v x)
    put_listed each x = by_list (at == x.patron % length v.lists) refl
      where
        by_list : (b : Bool) → (at == x.patron % length v.lists) ≡ b → IsListed w x ↔ ((x ≡ y) ⊎ IsListed v x)
        by_list true e = let own = own_list x e in (
          λ has. subst (λ l. (x ≡ y) ⊎ Contains l x) own.1 ((each x).0 (subst (λ l. Contains l x) own.0 has)),
          λ one. subst (λ l. Contains l x) (sym own.0)
              ((each x).1 (subst (λ l. (x ≡ y) ⊎ Contains l x) (sym own.1) one)),
        )
        by_list false e = let other = other_list x e in (
          λ has. inr (subst (λ l. Contains l x) other.0 has),
          λ one. subst (λ l. Contains l x) (sym other.0)
              (⊎_elim (λ same. absurd (other.1 same)) (λ has. has) one),
        )

    pub take_listed : ((x : HeldTitle) → Contains new x ↔ ((x ≢ y) × Contains old x)) → (x : HeldTitle)
        → IsListed w x ↔ ((x ≢ y) × IsListed v x)
    take_listed each x = by_list (at == x.patron % length v.lists) refl
      where
        by_list : (b : Bool) → (at == x.patron % length v.lists) ≡ b → IsListed w x ↔ ((x ≢ y) × IsListed v x)
        by_list true e = let own = own_list x e in (
          λ has. subst (λ l. (x ≢ y) × Contains l x) own.1 ((each x).0 (subst (λ l. Contains l x) own.0 has)),
          λ one. subst (λ l. Contains l x) (sym own.0)
              ((each x).1 (subst (λ l. (x ≢ y) × Contains l x) (sym own.1) one)),
        )
        by_list false e = let other = other_list x e in (
          λ has. (other.1, subst (λ l. Contains l x) other.0 has),
          λ one. subst (λ l. Contains l x) (sym other.0) one.1,
        )
