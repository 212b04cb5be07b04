-- The counts of copies on open shelves, as a copy goes.
use Rattle.std.proofs.Common.{◌≡◌, ℕ, ◌+◌, ◌<◌, ◌==◌, ◌&&◌, Bool, true, false, Option, None, Some, refl, ap}
use Rattle.std.proofs.Common.{sym, ◌∙◌, arith}
use Rattle.hd_rules.specs.declared.holds.HoldKind.{HoldKind}
use Rattle.hd_rules.specs.declared.holds.HoldKind.TheVariants.{Any, AtBranch}
use Rattle.hd_rules.specs.declared.copies.CopyState.{CopyState}
use Rattle.hd_rules.specs.declared.copies.CopyState.TheVariants.{Shelf}
use Rattle.hd_rules.specs.Facts.{Facts}
use Rattle.hd_rules.specs.Choose.{admits}
use Rattle.hd_lemmas.proofs.Counts.{one, count_below-same, count_below-changed}
use Rattle.hd_open_shelf.specs.StockValue.{StockValue}
use Rattle.hd_open_shelf.specs.Counts.{HasOneCopyMore, KeepsEntries}
use Rattle.hd_copies.specs.Indexing.{IsStock, is_on_open_shelf, shelf_count}
use Rattle.hd_copies.proofs.Moving.{Moves}

-- the copy is counted
abbrev pub is_counted : Facts → (ℕ → Option CopyState) → ℕ → HoldKind → ℕ → ℕ → Bool
is_counted k copies t kind pickup n =
    ((k.title_of n) == t) && (admits k kind pickup n && is_on_open_shelf (copies n))

counted-at : (k : Facts) (f : ℕ → Option CopyState) (t : ℕ) (kind : HoldKind) (pickup n : ℕ) (b : Bool)
    → is_on_open_shelf (f n) ≡ b
    → is_counted k f t kind pickup n ≡ (((k.title_of n) == t) && (admits k kind pickup n && b))
counted-at k f t kind pickup n b e =
    ap (λ (x : Bool). ((k.title_of n) == t) && (admits k kind pickup n && x)) e

pub shelved-alike : (k : Facts) (f g : ℕ → Option CopyState) (t : ℕ) (kind : HoldKind) (pickup : ℕ)
    → ((n : ℕ) → n < k.copies → is_on_open_shelf (g n) ≡ is_on_open_shelf (f n))
    → shelf_count k g t kind pickup ≡ shelf_count k f t kind pickup
shelved-alike k f g t kind pickup same =
    count_below-same (is_counted k f t kind pickup) (is_counted k g t kind pickup) k.copies
    (λ n l. counted-at k g t kind pickup n (is_on_open_shelf (f n)) (same n l))

-- no copy goes to or from an open shelf
pub stock-alike : (k : Facts) (f g : ℕ → Option CopyState) (stock : StockValue)
    → ((n : ℕ) → is_on_open_shelf (g n) ≡ is_on_open_shelf (f n)) → IsStock k f stock → IsStock k g stock
stock-alike k f g stock same is = record {
  title = λ t pickup. is.title t pickup ∙ sym (shelved-alike k f g t Any pickup (λ n l. same n));
  home = λ t b. is.home t b ∙ sym (shelved-alike k f g t AtBranch b (λ n l. same n));
  entry = is.entry;
}

no_and : (a b : Bool) → (a && (b && false)) ≡ false
no_and true true = refl
no_and true false = refl
no_and false b = refl

one_and : (a b : Bool) → one (a && (b && true)) ≡ one (a && b)
one_and true true = refl
one_and true false = refl
one_and false b = refl

and_true : (a : Bool) → one (a && true) ≡ one a
and_true true = refl
and_true false = refl

-- a copy leaves its open shelf: its title and home have one less
shelved-out : (k : Facts) (f g : ℕ → Option CopyState) (c x : ℕ) → Moves c f g (Some (Shelf x)) None
    → c < k.copies → (t : ℕ) (kind : HoldKind) (pickup : ℕ) → shelf_count k f t kind pickup
    ≡ shelf_count k g t kind pickup + one (((k.title_of c) == t) && admits k kind pickup c)
shelved-out k f g c x moves l t kind pickup =
    let changed =
    count_below-changed (is_counted k f t kind pickup) (is_counted k g t kind pickup) k.copies c l
    (λ n other. counted-at k g t kind pickup n (is_on_open_shelf (f n))
    (ap is_on_open_shelf (moves.others n other))) in
    let before : is_counted k f t kind pickup c
    ≡ (((k.title_of c) == t) && (admits k kind pickup c && true)) =
    counted-at k f t kind pickup c true (ap is_on_open_shelf moves.was) in
    let after : is_counted k g t kind pickup c ≡ false =
    counted-at k g t kind pickup c false (ap is_on_open_shelf moves.is)
    ∙ no_and ((k.title_of c) == t) (admits k kind pickup c) in
    omega
    (arith, changed, ap one before, ap one after, one_and ((k.title_of c) == t) (admits k kind pickup c))

-- and one more where it comes to one
shelved-in : (k : Facts) (f g : ℕ → Option CopyState) (c x : ℕ) → Moves c f g None (Some (Shelf x))
    → c < k.copies → (t : ℕ) (kind : HoldKind) (pickup : ℕ) → shelf_count k g t kind pickup
    ≡ shelf_count k f t kind pickup + one (((k.title_of c) == t) && admits k kind pickup c)
shelved-in k f g c x moves l t kind pickup =
    let changed =
    count_below-changed (is_counted k f t kind pickup) (is_counted k g t kind pickup) k.copies c l
    (λ n other. counted-at k g t kind pickup n (is_on_open_shelf (f n))
    (ap is_on_open_shelf (moves.others n other))) in
    let before : is_counted k f t kind pickup c ≡ false =
    counted-at k f t kind pickup c false (ap is_on_open_shelf moves.was)
    ∙ no_and ((k.title_of c) == t) (admits k kind pickup c) in
    let after : is_counted k g t kind pickup c ≡ (((k.title_of c) == t) && (admits k kind pickup c && true)) =
    counted-at k g t kind pickup c true (ap is_on_open_shelf moves.is) in
    omega
    (arith, changed, ap one before, ap one after, one_and ((k.title_of c) == t) (admits k kind pickup c))

pub stock-out : (k : Facts) (f g : ℕ → Option CopyState) (c x : ℕ) (old new : StockValue)
    → Moves c f g (Some (Shelf x)) None → c < k.copies → HasOneCopyMore old new (k.title_of c) (k.home c)
    → KeepsEntries old new → IsStock k f old → IsStock k g new
stock-out k f g c x old new moves l less keeps is = record {
  title = λ t pickup. omega (
    arith,
    less.titles t,
    is.title t pickup,
    shelved-out k f g c x moves l t Any pickup,
    and_true ((k.title_of c) == t),
  );
  home = λ t b. omega (arith, less.homes t b, is.home t b, shelved-out k f g c x moves l t AtBranch b);
  entry = λ n below. keeps.homes (k.title_of n) (k.home n) (is.entry n below);
}

pub stock-in : (k : Facts) (f g : ℕ → Option CopyState) (c x : ℕ) (old new : StockValue)
    → Moves c f g None (Some (Shelf x)) → c < k.copies → HasOneCopyMore new old (k.title_of c) (k.home c)
    → KeepsEntries old new → IsStock k f old → IsStock k g new
stock-in k f g c x old new moves l more keeps is = record {
  title = λ t pickup. omega (
    arith,
    more.titles t,
    is.title t pickup,
    shelved-in k f g c x moves l t Any pickup,
    and_true ((k.title_of c) == t),
  );
  home = λ t b. omega (arith, more.homes t b, is.home t b, shelved-in k f g c x moves l t AtBranch b);
  entry = λ n below. keeps.homes (k.title_of n) (k.home n) (is.entry n below);
}
