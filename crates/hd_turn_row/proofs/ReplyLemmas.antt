-- Replies, read back from the numbers of their columns.
use Rattle.std.proofs.Common.{◌≡◌, ℕ, ◌^◌, ◌<◌, Bool, true, false, Option, Some, List, [], ◌∷◌, ◌++◌, get_or}
use Rattle.std.proofs.Common.{refl, sym, ap, subst, ◌∙◌, append_assoc, append-nil, arith}
use Rattle.std.specs.Int.{to_be_bytes, w64}
use Rattle.std.specs.List.{AllByRecursion, flat_map}
use Rattle.std.proofs.lemmas.Nat.{from_be_bytes-to_be_bytes_8}
use Rattle.hd_rules.specs.declared.copies.CopyState.{CopyState}
use Rattle.hd_rules.specs.declared.copies.CopyState.TheVariants.{Shelf, OnLoan, OnHoldShelf, InTransit}
use Rattle.hd_rules.specs.declared.holds.Hold.{Hold}
use Rattle.hd_rules.specs.declared.holds.HoldKind.{HoldKind}
use Rattle.hd_rules.specs.declared.holds.HoldKind.TheVariants as kind
use Rattle.hd_rules.specs.declared.replies.Refusal.{Refusal}
use Rattle.hd_rules.specs.declared.replies.Refusal.TheVariants as refusal
use Rattle.hd_rules.specs.declared.replies.Reply.TheVariants.{LentOrRenewed, Returned, Held, Deleted}
use Rattle.hd_rules.specs.declared.replies.TurnReply.{TurnReply}
use Rattle.hd_rules.specs.declared.replies.TurnReply.TheVariants.{Done, Refused, Cancelled, Item}
use Rattle.hd_turn_row.specs.Replies.{IsReplyColumn, kind_number, number_if_any, refusal_number, depended_on}
use Rattle.hd_turn_row.specs.Replies.{hold_numbers, reply_numbers, state_numbers, truth_number}
use Rattle.hd_turn_row.specs.Written.{IsWritten}

-- numbers, and more behind them
pub written_both : (ns ms : List ℕ) (old mid new : List ℕ) → IsWritten ns old mid → IsWritten ms mid new
    → IsWritten (ns ++ ms) old new
written_both [] ms old mid new h g = subst (λ (t : List ℕ). IsWritten ms t new) h g
written_both (n ∷ ns) ms old mid new h g = (h.0, written_both ns ms (old ++ to_be_bytes w64 n) mid new h.1 g)

-- so many numbers of 64 bits have these bytes
written_is : (ns old new : List ℕ) → IsWritten ns old new
    → AllByRecursion (λ n. n < 2 ^ 64) ns × (new ≡ old ++ flat_map (to_be_bytes w64) ns)
written_is [] old new h = (tt, h ∙ sym (append-nil old))
written_is (n ∷ ns) old new h =
    let rest = written_is ns (old ++ to_be_bytes w64 n) new h.1 in
    ((h.0, rest.0), rest.1 ∙ append_assoc old (to_be_bytes w64 n) (flat_map (to_be_bytes w64) ns))

-- numbers with the same bytes are the same
numbers_once : (ms ns : List ℕ) → AllByRecursion (λ n. n < 2 ^ 64) ms → AllByRecursion (λ n. n < 2 ^ 64) ns
    → flat_map (to_be_bytes w64) ms ≡ flat_map (to_be_bytes w64) ns → ms ≡ ns
numbers_once [] [] h g e = refl
numbers_once [] (n ∷ ns) h g e = cc
numbers_once (m ∷ ms) [] h g e = cc
numbers_once (m ∷ ms) (n ∷ ns) h g e =
    let first : to_be_bytes w64 m ≡ to_be_bytes w64 n = cc in
    let same : m ≡ n = cc (from_be_bytes-to_be_bytes_8 m h.0, from_be_bytes-to_be_bytes_8 n g.0) in
    cc (numbers_once ms ns h.1 g.1 (cc))

-- what is told by the same number is the same
truth_once : (a b : Bool) → truth_number a ≡ truth_number b → a ≡ b
truth_once true true e = refl
truth_once false false e = refl
truth_once a b e = cc

number_once : (o p : Option ℕ) → number_if_any o ≡ number_if_any p → o ≡ p
number_once (Some m) (Some n) e = ap (λ x. Some x) (omega arith)
number_once o p e = grind arith

kind_once : (k l : HoldKind) → kind_number k ≡ kind_number l → k ≡ l
kind_once (kind.One c) (kind.One d) e = ap (λ x. kind.One x) (omega arith)
kind_once k l e = grind arith

abbrev at : List ℕ → ℕ → ℕ
at ns k = get_or ns k 0

state_once : (s t : CopyState) → state_numbers s ≡ state_numbers t → s ≡ t
state_once (Shelf b) (Shelf c) e = cc
state_once (OnLoan l) (OnLoan m) e = λ i.
    OnLoan (record { patron = at (e i) 1; due = at (e i) 2; renewals = at (e i) 3 })
state_once (OnHoldShelf p) (OnHoldShelf q) e = λ i.
    OnHoldShelf (record { branch = at (e i) 1; place = at (e i) 2; patron = at (e i) 3 })
state_once (InTransit w) (InTransit v) e =
    let patron = number_once w.patron v.patron (cc) in
    λ i. InTransit (record { from = at (e i) 1; to = at (e i) 2; patron = patron i })
state_once s t e = cc

hold_once : (h g : Hold) → hold_numbers h ≡ hold_numbers g → h ≡ g
hold_once h g e =
    let kind = kind_once h.kind g.kind (cc) in
    let expiry = number_once h.expiry g.expiry (cc) in
    let copy = number_once h.copy g.copy (cc) in λ i. record {
      patron = at (e i) 0;
      stamp = at (e i) 1;
      kind = kind i;
      pickup = at (e i) 3;
      expiry = expiry i;
      copy = copy i;
    }

refusal_once : (r s : Refusal) → refusal_number r ∷ depended_on r ≡ refusal_number s ∷ depended_on s → r ≡ s
refusal_once refusal.NotLoggedIn refusal.NotLoggedIn e = refl
refusal_once r refusal.NotLoggedIn e = cc
refusal_once r s e = cc

-- and what is told by the same numbers
numbers_said : (r s : TurnReply) → reply_numbers r ≡ reply_numbers s → r ≡ s
numbers_said (Done m (LentOrRenewed t d a)) (Done n (LentOrRenewed u f b)) e = cc (truth_once a b (cc))
numbers_said (Done m (Returned t h a)) (Done n (Returned u i b)) e = cc (state_once a b (cc))
numbers_said (Done m (Held t a p h)) (Done n (Held u b q g)) e = cc (truth_once a b (cc), hold_once h g (cc))
numbers_said r (Done n (Deleted u)) e = cc
numbers_said (Refused a) (Refused b) e = cc (refusal_once a b (cc))
numbers_said (Cancelled m) (Cancelled n) e = cc
numbers_said (Item v) (Item w) e =
    let holds : v.holds ≡ w.holds = cc in
    let state = state_once v.state w.state (cc) in
    λ i. Item (record { holds = holds i; state = state i })
numbers_said r s e = cc

-- two replies with one column are one
pub reply_once : (r s : TurnReply) (column : List ℕ) → IsReplyColumn r column → IsReplyColumn s column → r ≡ s
reply_once r s column h g =
    let one = written_is (reply_numbers r) [] column h in
    let two = written_is (reply_numbers s) [] column g in
    numbers_said r s (numbers_once (reply_numbers r) (reply_numbers s) one.0 two.0 (sym one.1 ∙ two.1))

-- and a reply has one column
pub column_once : (r : TurnReply) (a b : List ℕ) → IsReplyColumn r a → IsReplyColumn r b → a ≡ b
column_once r a b h g =
    (written_is (reply_numbers r) [] a h).1 ∙ sym (written_is (reply_numbers r) [] b g).1
