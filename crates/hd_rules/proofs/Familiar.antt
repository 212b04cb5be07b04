-- Commands that name things of the catalogue lead to such again.
use Rattle.std.proofs.Common.{◌≡◌, refl, sym, subst, ℕ, ◌<◌, inl, inr, Bool, true, false, ◌==◌, if◌then◌else◌}
use Rattle.std.proofs.Common.{List, [], ◌∷◌, ◌++◌, Option}
use Rattle.std.proofs.Common.{Some, None, Ok}
use Rattle.std.specs.Prelude.{nat_lt, filter, unwrap_or}
use Rattle.hd_rules.specs.Words.{Hold, HoldKind, Loan, CopyState, Shelf, OnLoan, OnHoldShelf, InTransit}
use Rattle.hd_rules.specs.Words.{Change, Question, Action, Command}
use Rattle.hd_rules.specs.Words.{Refusal, Reply}
use Rattle.hd_rules.specs.declared.commands.Action.TheVariants as action
use Rattle.hd_rules.specs.Facts.{Facts, AreInRange, last_number}
use Rattle.hd_rules.specs.Desk.{Desk}
use Rattle.hd_rules.specs.Find.{choice}
use Rattle.hd_rules.specs.Choose.{has_expired, FirstCandidate}
use Rattle.hd_rules.specs.Ask.{Plan, Ask, Refuse, Accept, Done, AnswerTo, answer, outcome}
use Rattle.hd_rules.specs.Same.{real_changes}
use Rattle.hd_rules.specs.Settle.{tied_to, sent_home, sent_to, place_at, keep, with_copy, hold_becomes, allot}
use Rattle.hd_rules.specs.Settle.{settle_tied, settle}
use Rattle.hd_rules.specs.Step.{accept, due_day, last_day, lend, make_loan, lend_held, lend_from_shelf}
use Rattle.hd_rules.specs.Step.{cannot_renew, renew_loan, checkout_at}
use Rattle.hd_rules.specs.Step.{ends_with, end_of_hold, release_of_hold, off_line_at, checkin, add, release}
use Rattle.hd_rules.specs.Step.{delete_with, delete, changed_hold, change_to}
use Rattle.hd_rules.specs.Step.{change, renew_at, plan_of, plan}
use Rattle.hd_rules.specs.Run.{IsAmong}
use Rattle.hd_rules.specs.Known.{IsKnownCell, IsKnownKind, IsKnownChoice, IsKnownAction, IsKnownPatron}
use Rattle.hd_rules.specs.Known.{IsKnownCopy, IsKnownState}
use Rattle.hd_rules.specs.Known.{IsKnownHold, IsKnownHeld, IsKnownValue, IsKnownDesk, IsKnownReply}
use Rattle.hd_rules.specs.Known.{IsKnownDone}
use Rattle.hd_rules.proofs.Tests.{done_is}
use Rattle.hd_rules.proofs.Chosen.{candidate_is}
use Rattle.hd_rules.proofs.First.{choice_is_first}

abbrev EachFamiliar : Facts → List Change → Type 0
EachFamiliar k [] = Unit {0}
EachFamiliar k (c ∷ cs) = (IsKnownCell k c.cell × IsKnownValue k c.new) × EachFamiliar k cs

abbrev AllFamiliar : Facts → Desk → Plan → Type 0
AllFamiliar k d (Ask q rest) = AllFamiliar k d (rest (answer k d q))
AllFamiliar k d (Refuse r) = Unit {0}
AllFamiliar k d (Accept done) = EachFamiliar k done.changes × IsKnownReply k done.reply

-- as a record, so that antt finds the plan that a lemma speaks of
record Familiar (k : Facts) (d : Desk) (plan : Plan) : Type 0 where
  pub all : AllFamiliar k d plan

-- what the commands rest on
pub record Given (k : Facts) (d : Desk) : Type 0 where
  pub range : AreInRange k
  pub desk : IsKnownDesk k d

asked : {k : Facts} {d : Desk} {q : Question} {rest : AnswerTo q → Plan}
    → ((a : AnswerTo q) → answer k d q ≡ a → Familiar k d (rest a)) → Familiar k d (Ask q rest)
asked {k} {d} {q} h = record { all = (h (answer k d q) refl).all }

refused : {k : Facts} {d : Desk} {r : Refusal} → Familiar k d (Refuse r)
refused = record { all = tt }

either : (k : Facts) (d : Desk) (b : Bool) (x y : Plan) → Familiar k d x → Familiar k d y
    → Familiar k d (if b then x else y)
either k d true x y h g = h
either k d false x y h g = g

familiar_filter : (k : Facts) (keep_it : Change → Bool) (cs : List Change) → EachFamiliar k cs
    → EachFamiliar k (filter keep_it cs)
familiar_filter k keep_it [] h = tt
familiar_filter k keep_it (c ∷ cs) h = by_test (keep_it c) refl (familiar_filter k keep_it cs h.1)
  where
    by_test : (b : Bool) → keep_it c ≡ b → EachFamiliar k (filter keep_it cs)
        → EachFamiliar k (filter keep_it (c ∷ cs))
    by_test true is rest = rw is (h.0, rest)
    by_test false is rest = rw is rest

familiar_real : (k : Facts) (cs : List Change) → EachFamiliar k cs → EachFamiliar k (real_changes cs)
unfolding real_changes
familiar_real k cs h = familiar_filter k _ cs h

accepted : (k : Facts) (d : Desk) (n : ℕ) (cs : List Change) (r : Reply) → EachFamiliar k cs
    → IsKnownReply k r → Familiar k d (accept k n cs r)
accepted k d n cs r changes reply =
    either k d (nat_lt (last_number k) n) _ _ refused (record { all = (familiar_real k cs changes, reply) })

-- what is answered
pub copy_known : (k : Facts) (d : Desk) (c : ℕ) (old : CopyState) → Given k d → c < k.copies → d.copy c ≡ old
    → IsKnownState k old
copy_known k d c old g in_c is = subst (IsKnownState k) is (g.desk.copies c in_c)

pub hold_known : (k : Facts) (d : Desk) (t p : ℕ) (o : Option Hold) → Given k d → t < k.titles → p < k.patrons
    → d.hold t p ≡ o → IsKnownHeld k o
hold_known k d t p o g in_t in_p is = subst (IsKnownHeld k) is (g.desk.holds t p in_t in_p)

pub choice_known : (k : Facts) (d : Desk) (c b day : ℕ) (o : Option Hold) → Given k d → c < k.copies
    → choice k d c b day ≡ o → IsKnownHeld k o
choice_known k d c b day None g in_c is = tt
choice_known k d c b day (Some h) g in_c is =
    let first : FirstCandidate k d c b day (Some h) =
    subst (FirstCandidate k d c b day) is (choice_is_first k d c b day) in
    hold_known k d (k.title_of c) first.0.0 (Some h) g (g.range.title_of c in_c) first.0.1
    (candidate_is k c day (d.hold (k.title_of c) first.0.0) h first.0.2).0

-- checkouts and renewals
lend_familiar : (k : Facts) (d : Desk) (p c day : ℕ) (rest : Plan) → Familiar k d rest
    → Familiar k d (lend k p c day rest)
lend_familiar k d p c day rest ok =
    asked (λ room told. either k d room _ _
    (either k d (nat_lt last_day (due_day k c day)) _ _ refused ok) refused)

lent_familiar : (k : Facts) (d : Desk) (n p c day : ℕ) (old : CopyState) (ends : List Change) → Given k d
    → p < k.patrons → c < k.copies → EachFamiliar k ends → Familiar k d (make_loan k n p c day old ends)
lent_familiar k d n p c day old ends g in_p in_c ok =
    accepted k d n _ _ ((in_c, in_p), ok) (g.range.title_of c in_c)

lend_held_familiar : (k : Facts) (d : Desk) (n p c day : ℕ) (old : CopyState) → Given k d → p < k.patrons
    → c < k.copies → Familiar k d (lend_held k n p c day old)
lend_held_familiar k d n p c day old g in_p in_c =
    lend_familiar k d p c day _
    (asked (λ held told. lent_familiar k d n p c day old _ g in_p in_c
    (((g.range.title_of c in_c, in_p), tt), tt)))

from_shelf_familiar : (k : Facts) (d : Desk) (n p c day : ℕ) (old : CopyState) (chosen : Option Hold)
    → Given k d → p < k.patrons → c < k.copies → Familiar k d (lend_from_shelf k n p c day old chosen)
from_shelf_familiar k d n p c day old None g in_p in_c =
    lend_familiar k d p c day _ (lent_familiar k d n p c day old [] g in_p in_c tt)
from_shelf_familiar k d n p c day old (Some h) g in_p in_c =
    either k d (h.patron == p) _ _ (lend_held_familiar k d n p c day old g in_p in_c) refused

renew_loan_familiar : (k : Facts) (d : Desk) (n p c day : ℕ) (l : Loan) → Given k d → p < k.patrons
    → c < k.copies → Familiar k d (renew_loan k n p c day l)
renew_loan_familiar k d n p c day l g in_p in_c =
    asked (λ chosen told. either k d (cannot_renew k p c l chosen) _ _ refused
    (either k d (nat_lt last_day (due_day k c day)) _ _ refused
    (accepted k d n _ _ ((in_c, in_p), tt) (g.range.title_of c in_c))))

checkout_familiar : (k : Facts) (d : Desk) (n p c : ℕ) (may : Bool) (day : ℕ) (old : CopyState) → Given k d
    → p < k.patrons → c < k.copies → Familiar k d (checkout_at k n p c may day old)
checkout_familiar k d n p c may day (Shelf b) g in_p in_c =
    asked (λ chosen told. from_shelf_familiar k d n p c day (Shelf b) chosen g in_p in_c)
checkout_familiar k d n p c may day (OnLoan l) g in_p in_c =
    either k d (l.patron == p) _ _
    (either k d may _ _ (renew_loan_familiar k d n p c day l g in_p in_c) refused) refused
checkout_familiar k d n p c may day (OnHoldShelf s) g in_p in_c =
    either k d (s.patron == p) _ _ (lend_held_familiar k d n p c day (OnHoldShelf s) g in_p in_c) refused
checkout_familiar k d n p c may day (InTransit t) g in_p in_c = refused

renew_familiar : (k : Facts) (d : Desk) (n p c day : ℕ) (old : CopyState) → Given k d → p < k.patrons
    → c < k.copies → Familiar k d (renew_at k n p c day old)
renew_familiar k d n p c day (OnLoan l) g in_p in_c =
    either k d (l.patron == p) _ _ (renew_loan_familiar k d n p c day l g in_p in_c) refused
renew_familiar k d n p c day (Shelf b) g in_p in_c = refused
renew_familiar k d n p c day (OnHoldShelf s) g in_p in_c = refused
renew_familiar k d n p c day (InTransit t) g in_p in_c = refused

-- off-line loans
tied_known : (k : Facts) (s : CopyState) (q : ℕ) → IsKnownState k s → tied_to s ≡ Some q → q < k.patrons
tied_known k (Shelf b) q known is = cc
tied_known k (OnLoan l) q known is = cc
tied_known k (OnHoldShelf s) q known is = let e : s.patron ≡ q = cc in
    subst (λ (x : ℕ). x < k.patrons) e known.1
tied_known k (InTransit t) q known is = subst (IsKnownPatron k) is known.2

pub hold_with : (k : Facts) (c : Option ℕ) (h : Hold) → IsKnownHold k h → IsKnownCopy k c
    → IsKnownHold k (with_copy c h)
hold_with k c h known in_c =
    record { patron = known.patron; kind = known.kind; pickup = known.pickup; copy = in_c }

ended_familiar : (k : Facts) (c p : ℕ) (held : Option Hold) (gs : List Change) → k.title_of c < k.titles
    → p < k.patrons → EachFamiliar k gs → EachFamiliar k (end_of_hold k c p held ++ gs)
ended_familiar k c p None gs in_t in_p ok = ok
ended_familiar k c p (Some h) gs in_t in_p ok = by_test (ends_with k c h h.copy)
  where
    by_test : (b : Bool)
        → EachFamiliar k ((if b then hold_becomes (k.title_of c) p (Some h) None ∷ [] else []) ++ gs)
    by_test true = (((in_t, in_p), tt), ok)
    by_test false = ok

ended_alone : (k : Facts) (c p : ℕ) (held : Option Hold) → k.title_of c < k.titles → p < k.patrons
    → EachFamiliar k (end_of_hold k c p held)
ended_alone k c p None in_t in_p = tt
ended_alone k c p (Some h) in_t in_p = by_test (ends_with k c h h.copy)
  where
    by_test : (b : Bool) → EachFamiliar k (if b then hold_becomes (k.title_of c) p (Some h) None ∷ [] else [])
    by_test true = (((in_t, in_p), tt), tt)
    by_test false = tt

freed_familiar : (k : Facts) (c q : ℕ) (other : Option Hold) → k.title_of c < k.titles → q < k.patrons
    → IsKnownHeld k other → EachFamiliar k (release_of_hold k c q other)
freed_familiar k c q None in_t in_q known = tt
freed_familiar k c q (Some h) in_t in_q known = (((in_t, in_q), hold_with k None h known tt), tt)

off_line_familiar : (k : Facts) (d : Desk) (n p c due : ℕ) (old : CopyState) (held : Option Hold)
    (tied : Option ℕ) → Given k d → p < k.patrons → c < k.copies → IsKnownPatron k tied
    → Familiar k d (off_line_at k n p c due old held tied)
off_line_familiar k d n p c due old held None g in_p in_c in_q =
    accepted k d n _ _ ((in_c, in_p), ended_alone k c p held (g.range.title_of c in_c) in_p)
    (g.range.title_of c in_c)
off_line_familiar k d n p c due old held (Some q) g in_p in_c in_q = either k d (q == p) _ _
    (accepted k d n _ _ ((in_c, in_p), ended_alone k c p held (g.range.title_of c in_c) in_p)
    (g.range.title_of c in_c))
    (asked (λ other told. accepted k d n _ _ (
      (in_c, in_p),
      ended_familiar k c p held _ (g.range.title_of c in_c) in_p
          (freed_familiar k c q other (g.range.title_of c in_c) in_q
          (hold_known k d (k.title_of c) q other g (g.range.title_of c in_c) in_q told)),
    )
    (g.range.title_of c in_c)))

pub tied_patron : (k : Facts) (s : CopyState) (o : Option ℕ) → IsKnownState k s → tied_to s ≡ o
    → IsKnownPatron k o
tied_patron k s None known is = tt
tied_patron k s (Some q) known is = tied_known k s q known is

-- settling
keep_familiar : (k : Facts) (d : Desk) (b : ℕ) (h : Hold) (at : Option ℕ) (rest : CopyState → Plan)
    → b < k.branches → IsKnownHold k h → ((new : CopyState) → IsKnownState k new → Familiar k d (rest new))
    → Familiar k d (keep b h at rest)
keep_familiar k d b h None rest in_b known ok = either k d (h.pickup == b) _ _
    (asked (λ spot told. ok _ (in_b, known.patron))) (ok _ (in_b, known.pickup, known.patron))
keep_familiar k d b h (Some spot) rest in_b known ok = ok _ (by_test (h.pickup == b))
  where
    by_test : (t : Bool) → IsKnownState k
        (if t then OnHoldShelf (record { branch = b; place = spot; patron = h.patron }) else sent_to b h)
    by_test true = (in_b, known.patron)
    by_test false = (in_b, known.pickup, known.patron)

home_known : (k : Facts) (c b : ℕ) → AreInRange k → c < k.copies → b < k.branches
    → IsKnownState k (sent_home k c b)
home_known k c b range in_c in_b = by_test ((k.home c) == b)
  where
    by_test : (t : Bool) → IsKnownState k
        (if t then Shelf b else InTransit (record { from = b; to = k.home c; patron = None }))
    by_test true = in_b
    by_test false = (in_b, range.home c in_c, tt)

allot_familiar : (k : Facts) (d : Desk) (c b : ℕ) (at : Option ℕ) (chosen : Option Hold)
    (rest : CopyState → List Change → Plan) → Given k d → c < k.copies → b < k.branches → IsKnownHeld k chosen
    → ((new : CopyState) (gets : List Change) → IsKnownState k new → EachFamiliar k gets
    → Familiar k d (rest new gets)) → Familiar k d (allot k c b at chosen rest)
allot_familiar k d c b at None rest g in_c in_b known ok = ok _ [] (home_known k c b g.range in_c in_b) tt
allot_familiar k d c b at (Some h) rest g in_c in_b known ok = asked (λ held told.
    keep_familiar k d b h at _ in_b known
    (λ new fine. ok new _ fine
    (((g.range.title_of c in_c, known.patron), hold_with k (Some c) h known in_c), tt)))

settle_familiar : (k : Facts) (d : Desk) (c b day : ℕ) (old : CopyState) (tied : Option ℕ)
    (rest : CopyState → List Change → Plan) → Given k d → c < k.copies → b < k.branches → IsKnownPatron k tied
    → ((new : CopyState) (gets : List Change) → IsKnownState k new → EachFamiliar k gets
    → Familiar k d (rest new gets)) → Familiar k d (settle k c b day old tied rest)
settle_familiar k d c b day old (Some p) rest g in_c in_b in_p ok =
    asked (λ held told. tied_one held
    (hold_known k d (k.title_of c) p held g (g.range.title_of c in_c) in_p told))
  where
    tied_one : (held : Option Hold) → IsKnownHeld k held → Familiar k d (settle_tied k c b old held rest)
    tied_one None known = ok _ [] (home_known k c b g.range in_c in_b) tt
    tied_one (Some h) known =
        keep_familiar k d b h (place_at b old) _ in_b known (λ new fine. ok new [] fine tt)
settle_familiar k d c b day old None rest g in_c in_b in_p ok = asked (λ chosen told.
    allot_familiar k d c b None chosen rest g in_c in_b (choice_known k d c b day chosen g in_c told) ok)

checkin_familiar : (k : Facts) (d : Desk) (n c b day : ℕ) → Given k d → c < k.copies → b < k.branches
    → Familiar k d (checkin k n c b day)
checkin_familiar k d n c b day g in_c in_b = asked (λ old told.
    settle_familiar k d c b day old (tied_to old) _ g in_c in_b
    (tied_patron k old (tied_to old) (copy_known k d c old g in_c told) refl)
    (λ new gets fine ok. accepted k d n _ _ ((in_c, fine), ok)
    (g.range.title_of c in_c, g.range.home c in_c, fine)))

-- holds
add_familiar : (k : Facts) (d : Desk) (n : ℕ) (h : Hold) (t day : ℕ) (old : Option Hold) → Given k d
    → t < k.titles → IsKnownHold k h → Familiar k d (add k n h t day old)
add_familiar k d n h t day (Some old) g in_t known = refused
add_familiar k d n h t day None g in_t known = either k d (has_expired h.expiry day) _ _ refused
    (asked (λ spot told. asked
    (λ available heard. accepted k d n _ _ (((in_t, known.patron), known), tt) (in_t, known))))

release_familiar : (k : Facts) (d : Desk) (c day : ℕ) (old : CopyState) (rest : List Change → Plan)
    → Given k d → c < k.copies → IsKnownState k old
    → ((gets : List Change) → EachFamiliar k gets → Familiar k d (rest gets))
    → Familiar k d (release k c day old rest)
release_familiar k d c day (Shelf b) rest g in_c known ok = ok [] tt
release_familiar k d c day (OnLoan l) rest g in_c known ok = ok [] tt
release_familiar k d c day (InTransit t) rest g in_c known ok = ok _ ((in_c, (known.0, known.1, tt)), tt)
release_familiar k d c day (OnHoldShelf s) rest g in_c known ok = asked (λ chosen told.
    allot_familiar k d c s.branch (Some s.place) chosen _ g in_c known.0
    (choice_known k d c s.branch day chosen g in_c told)
    (λ new gets fine more. ok _ ((in_c, fine), more)))

delete_familiar : (k : Facts) (d : Desk) (n t p day : ℕ) (old : Option Hold) → Given k d → t < k.titles
    → p < k.patrons → IsKnownHeld k old → Familiar k d (delete k n t p day old)
delete_familiar k d n t p day None g in_t in_p known = refused
delete_familiar k d n t p day (Some h) g in_t in_p known = by_copy h.copy known.copy
  where
    by_copy : (o : Option ℕ) → IsKnownCopy k o → Familiar k d (delete_with k n t p day h o)
    by_copy None in_c = accepted k d n _ _ (((in_t, in_p), tt), tt) in_t
    by_copy (Some c) in_c = asked (λ old told.
        release_familiar k d c day old _ g in_c (copy_known k d c old g in_c told)
        (λ gets ok. accepted k d n _ _ (((in_t, in_p), tt), ok) in_t))

kind_known : (k : Facts) (kind : Option HoldKind) (pickup : Option ℕ) (old : HoldKind)
    → IsKnownChoice k kind pickup → IsKnownKind k old → IsKnownKind k (unwrap_or kind old)
kind_known k None None old given known = known
kind_known k None (Some b) old given known = known
kind_known k (Some kind) None old given known = given
kind_known k (Some kind) (Some b) old given known = given.0

pickup_known : (k : Facts) (kind : Option HoldKind) (pickup : Option ℕ) (old : ℕ)
    → IsKnownChoice k kind pickup → old < k.branches → unwrap_or pickup old < k.branches
pickup_known k None None old given known = known
pickup_known k (Some kind) None old given known = known
pickup_known k None (Some b) old given known = given
pickup_known k (Some kind) (Some b) old given known = given.1

change_to_familiar : (k : Facts) (d : Desk) (n t p : ℕ) (expiry : Option ℕ) (day : ℕ)
    (h new : Hold) (o : Option ℕ) → t < k.titles → p < k.patrons → IsKnownHold k new
    → Familiar k d (change_to k n t p expiry day h new o)
change_to_familiar k d n t p expiry day h new (Some c) in_t in_p known = refused
change_to_familiar k d n t p expiry day h new None in_t in_p known =
    either k d (has_expired expiry day) _ _ refused
    (asked (λ spot told. asked
    (λ available heard. accepted k d n _ _ (((in_t, in_p), known), tt) (in_t, known))))

change_familiar : (k : Facts) (d : Desk) (n t p : ℕ) (kind : Option HoldKind) (pickup expiry : Option ℕ)
    (day : ℕ) (old : Option Hold) → t < k.titles → p < k.patrons → IsKnownChoice k kind pickup
    → IsKnownHeld k old → Familiar k d (change k n t p kind pickup expiry day old)
change_familiar k d n t p kind pickup expiry day None in_t in_p given known = refused
change_familiar k d n t p kind pickup expiry day (Some h) in_t in_p given known =
    change_to_familiar k d n t p expiry day h (changed_hold kind pickup expiry h) h.copy in_t in_p (record {
      patron = known.patron;
      kind = kind_known k kind pickup h.kind given known.kind;
      pickup = pickup_known k kind pickup h.pickup given known.pickup;
      copy = known.copy;
    })

plan_familiar : (k : Facts) (d : Desk) (n day : ℕ) (a : Action) → Given k d → IsKnownAction k a
    → Familiar k d (plan_of k n day a)
plan_familiar k d n day (action.Checkout p c may_renew) g known =
    asked (λ old told. checkout_familiar k d n p c may_renew day old g known.0 known.1)
plan_familiar k d n day (action.OffLine p c due) g known = asked (λ old told. asked (λ held heard.
    off_line_familiar k d n p c due old held (tied_to old) g known.0 known.1
    (tied_patron k old (tied_to old) (copy_known k d c old g known.1 told) refl)))
plan_familiar k d n day (action.Checkin c b) g known = checkin_familiar k d n c b day g known.0 known.1
plan_familiar k d n day (action.Add p t kind pickup expiry) g known = asked (λ old told.
    add_familiar k d n _ t day old g known.1
    (record { patron = known.0; kind = known.2; pickup = known.3; copy = tt }))
plan_familiar k d n day (action.Delete p t) g known =
    asked (λ old told. delete_familiar k d n t p day old g known.1 known.0
    (hold_known k d t p old g known.1 known.0 told))
plan_familiar k d n day (action.Change p t kind pickup expiry) g known = asked (λ old told.
    change_familiar k d n t p kind pickup expiry day old known.1 known.0 known.2
    (hold_known k d t p old g known.1 known.0 told))
plan_familiar k d n day (action.Renewal p c) g known =
    asked (λ old told. renew_familiar k d n p c day old g known.0 known.1)

each_familiar : (k : Facts) (cs : List Change) → EachFamiliar k cs → (change : Change) → IsAmong change cs
    → IsKnownCell k change.cell × IsKnownValue k change.new
each_familiar k [] h change among = absurd among
each_familiar k (c ∷ cs) h change (inl e) =
    subst (λ (x : Change). IsKnownCell k x.cell × IsKnownValue k x.new) (sym e) h.0
each_familiar k (c ∷ cs) h change (inr among) = each_familiar k cs h.1 change among

ends_familiar : (k : Facts) (d : Desk) (p : Plan) → AllFamiliar k d p → (done : Done)
    → outcome k d p ≡ Ok done → IsKnownDone k done
ends_familiar k d (Ask q rest) h done is = ends_familiar k d (rest (answer k d q)) h done is
ends_familiar k d (Refuse r) h done is = cc
ends_familiar k d (Accept a) h done is =
    subst (IsKnownDone k) (done_is a done is)
    (record { changes = each_familiar k a.changes h.0; reply = h.1 })

pub known_done : (k : Facts) (d : Desk) (n : ℕ) (command : Command) (done : Done) → AreInRange k
    → IsKnownDesk k d → IsKnownAction k command.action → outcome k d (plan k n command) ≡ Ok done
    → IsKnownDone k done
known_done k d n command done range desk known is =
    ends_familiar k d (plan k n command)
    (plan_familiar k d n command.day command.action (record { range = range; desk = desk }) known).all
    done is
