-- A seat with one more receipt, and its last receipt.
use Rattle.std.proofs.Common.{◌≡◌, ℕ, zero, suc, ◌+◌, ◌-◌, ◌<◌, ◌≤◌, List, [], ◌∷◌, ◌++◌, length, Some}
use Rattle.std.proofs.Common.{slice_get, refl, arith}
use Rattle.std.proofs.Common.{length-append, sym, subst, take, ◌∙◌, ◌⊎◌, inl, inr}
use Rattle.std.proofs.Math.Seq.{take-append_seam}
use Rattle.std.proofs.lemmas.List.{take-append-le}
use Rattle.std.proofs.lemmas.Option.{slice_get_within}
use Rattle.hd_rules.specs.Journal.{Turn}
use Rattle.hd_journal.specs.Openings.{Opening}
use Rattle.hd_hall.specs.Receipts.{Receipted, IsLast, StandsAt, last_receipt, number_of_last}
use Rattle.hd_hall.specs.Seats.{SeatView, IsSeat, AreOfSeat, RiseAbove}
use Rattle.hd_hall.specs.Submitting.{AreNext, IsNextOf}

pub own-snoc : (seat : ℕ) (rs : List Receipted) (r : Receipted) → AreOfSeat seat rs → r.turn.seat ≡ seat
    → AreOfSeat seat (rs ++ r ∷ [])
own-snoc seat [] r own is = (is, tt)
own-snoc seat (x ∷ xs) r own is = (own.0, own-snoc seat xs r own.1 is)

pub rise_last : (n : ℕ) (rs : List Receipted) (p : Receipted) → RiseAbove n rs → IsLast rs p → n < p.number
rise_last n [] p up is = cc
rise_last n (x ∷ []) p up is = let e : x ≡ p = cc in rw (← e) up.0
rise_last n (x ∷ y ∷ ys) p up is = let h = up.0 in let k = rise_last x.number (y ∷ ys) p up.1 is in
    omega arith

-- there is a last of some
pub some_last : (x : Receipted) (rs : List Receipted) → (p : Receipted) × IsLast (x ∷ rs) p
some_last x [] = (x, refl)
some_last x (y ∷ ys) = some_last y ys

pub rise-snoc : (n : ℕ) (rs : List Receipted) (r : Receipted) → RiseAbove n rs → n < r.number
    → ((p : Receipted) → IsLast rs p → p.number < r.number) → RiseAbove n (rs ++ r ∷ [])
rise-snoc n [] r up above last = (above, tt)
rise-snoc n (x ∷ []) r up above last = (up.0, (last x refl, tt))
rise-snoc n (x ∷ y ∷ ys) r up above last =
    let z = some_last y ys in
    let low = rise_last x.number (y ∷ ys) z.0 up.1 z.1 in
    let high = last z.0 z.1 in
    (up.0, rise-snoc x.number (y ∷ ys) r up.1 (omega arith) last)

last_read : (rs : List Receipted) (k : ℕ) → k + 1 ≡ length rs → slice_get rs k ≡ last_receipt rs
last_read [] k is = absurd (omega arith)
last_read (x ∷ []) zero is = refl
last_read (x ∷ []) (suc k) is = absurd (omega arith)
last_read (x ∷ y ∷ ys) zero is = absurd (omega arith)
last_read (x ∷ y ∷ ys) (suc k) is = last_read (y ∷ ys) k (omega arith)

-- what `last` of a slice reads is the last receipt
pub last_is : (rs : List Receipted) → slice_get rs (length rs - 1) ≡ last_receipt rs
last_is [] = refl
last_is (x ∷ xs) = last_read (x ∷ xs) (length (x ∷ xs) - 1) (omega arith)

-- the last receipt's number is that of the one added
pub number_of_last-snoc : (rs : List Receipted) (r : Receipted) → number_of_last (rs ++ r ∷ []) ≡ r.number
number_of_last-snoc [] r = refl
number_of_last-snoc (x ∷ []) r = refl
number_of_last-snoc (x ∷ y ∷ ys) r = number_of_last-snoc (y ∷ ys) r

-- a receipt whose turn stands in the list has a number within it
pub stands_within : (turns : List Turn) (p : Receipted) → StandsAt turns p → p.number ≤ length turns
stands_within turns p h = let first = h.0 in let k = slice_get_within turns (p.number - 1) p.turn h.1 in
    omega arith

below_or_at : (n m : ℕ) → n < m + 1 → (n < m) ⊎ (n ≡ m)
below_or_at zero zero h = inr refl
below_or_at zero (suc m) h = inl (omega arith)
below_or_at (suc n) zero h = absurd (omega arith)
below_or_at (suc n) (suc m) h =
    elim (below_or_at n m (omega arith)) [ inl below ↦ inl (omega arith) | inr at ↦ inr (omega arith) ]

-- what is read of a list with one more
read_before : (rs : List Receipted) (r : Receipted) (n : ℕ) → n < length rs
    → slice_get (rs ++ r ∷ []) n ≡ slice_get rs n
read_before [] r n h = absurd (omega arith)
read_before (x ∷ xs) r zero h = refl
read_before (x ∷ xs) r (suc n) h = read_before xs r n (omega arith)

read_added : (rs : List Receipted) (r : Receipted) → slice_get (rs ++ r ∷ []) (length rs) ≡ Some r
read_added [] r = refl
read_added (x ∷ xs) r = read_added xs r

-- receipts of which each is next of those before it, and one more
pub next-snoc : (o : Opening) (rs : List Receipted) (r : Receipted) → AreNext o rs → IsNextOf o rs r
    → AreNext o (rs ++ r ∷ [])
next-snoc o rs r all next n x is =
    let within = slice_get_within (rs ++ r ∷ []) n x is in
    elim (below_or_at n (length rs) (omega (arith, length-append rs (r ∷ [])))) [
      | inl below ↦
          subst (λ (b : List Receipted). IsNextOf o b x) (sym (take-append-le n rs (r ∷ []) (omega arith)))
          (all n x (sym (read_before rs r n below) ∙ is))
      | inr at ↦
          let here : Some r ≡ Some x = sym (read_added rs r)
          ∙ subst (λ m. slice_get (rs ++ r ∷ []) m ≡ Some x) at is in
          let same : r ≡ x = cc in
          subst (λ m. IsNextOf o (take m (rs ++ r ∷ [])) x) (sym at)
          (subst (λ (b : List Receipted). IsNextOf o b x) (sym (take-append_seam rs (r ∷ [])))
          (subst (λ (y : Receipted). IsNextOf o rs y) same next))
    ]

-- a seat that gains a receipt beyond a list in which its last one stands
pub seat-snoc : (o : Opening) (s : SeatView) (r : Receipted) → s.parts ≡ 1 → IsSeat o s
    → IsNextOf o s.receipts r
    → r.turn.seat ≡ s.number
    → IsSeat o (record {
      number = s.number;
      receipts = s.receipts ++ r ∷ [];
      parts = s.parts;
      share = s.share + 1;
    })
seat-snoc o s r whole ok next own =
    let number = next.number in
    record {
      own = own-snoc s.number s.receipts r ok.own own;
      in_order =
          rise-snoc 0 s.receipts r ok.in_order (omega arith)
          (λ p last. let below = stands_within next.before p (next.holds p last) in omega arith);
      counted = λ one. let count = ok.counted one in omega (arith, length-append s.receipts (r ∷ []));
      lent = λ none. absurd (omega arith);
      told = next-snoc o s.receipts r ok.told next;
    }
