-- A command about things of a catalogue asks and does the same at a grown desk.
use Rattle.std.proofs.Common.{◌≡◌, refl, sym, ◌∙◌, ap, subst, ℕ, ◌+◌, ◌<◌}
use Rattle.std.proofs.Common.{Bool, true, false, ◌==◌, ◌||◌, cond, if◌then◌else◌, Option, Some, None}
use Rattle.std.proofs.Common.{List, [], ◌∷◌, ◌++◌}
use Rattle.std.specs.Prelude.{nat_lt, nat_le}
use Rattle.hd_rules.specs.Words.{Hold, HoldKind, Loan, CopyState, Shelf, OnLoan, OnHoldShelf, InTransit}
use Rattle.hd_rules.specs.Words.{CopyCell, HoldCell, CopyHas, HoldHas, Change, Question, ValueOf, Choice, Place}
use Rattle.hd_rules.specs.Words.{Room, Position, OnShelf, Refusal, Reply, LentOrRenewed}
use Rattle.hd_rules.specs.Words.{Returned, Action, Command}
use Rattle.hd_rules.specs.declared.questions.Noted.TheVariants as noted
use Rattle.hd_rules.specs.declared.questions.Answer.TheVariants as answers
use Rattle.hd_rules.specs.declared.replies.Refusal.TheVariants as refusal
use Rattle.hd_rules.specs.declared.commands.Action.TheVariants as action
use Rattle.hd_rules.specs.Facts.{Facts, AreInRange, last_number}
use Rattle.hd_rules.specs.Desk.{Desk}
use Rattle.hd_rules.specs.Choose.{has_expired}
use Rattle.hd_rules.specs.Ask.{Plan, Ask, Refuse, Accept, Done, AnswerTo, answer, outcome, asks}
use Rattle.hd_rules.specs.Notes.{note, told_answer}
use Rattle.hd_rules.specs.Same.{real_changes, same_answer}
use Rattle.hd_rules.specs.Settle.{tied_to, sent_home, place_at, keep, with_copy, copy_becomes}
use Rattle.hd_rules.specs.Settle.{hold_becomes, allot, settle_tied, settle}
use Rattle.hd_rules.specs.Step.{accept, due_day, last_day, lend, make_loan, lend_held, lend_from_shelf, is_wanted}
use Rattle.hd_rules.specs.Step.{cannot_renew, renew_loan, renew_at, checkout_at, ends_with, end_of_hold}
use Rattle.hd_rules.specs.Step.{release_of_hold, lend_off_line, off_line_at, release, checkin, add}
use Rattle.hd_rules.specs.Step.{delete_with, delete, changed_hold, change_to, change, plan_of, plan}
use Rattle.hd_rules.specs.Searches.{answered_otherwise}
use Rattle.hd_rules.specs.Record.{findings}
use Rattle.hd_rules.specs.Known.{IsKnownAction, IsKnownPatron, IsKnownCopy}
use Rattle.hd_rules.specs.Known.{IsKnownHeld, IsKnownDesk}
use Rattle.hd_rules.specs.Growth.{IsGrownDesk, Grows}
use Rattle.hd_rules.proofs.Growing.{choice_same, place_same, loans_same, position_same, on_shelf_same}
use Rattle.hd_rules.proofs.Growing.{admits_same}
use Rattle.hd_rules.proofs.Familiar.{copy_known, hold_known, choice_known, tied_patron}
use Rattle.hd_rules.proofs.Familiar as familiar

-- a question about things of the catalogue
abbrev pub IsNear : Facts → Question → Type 0
IsNear k (ValueOf (CopyCell c)) = c < k.copies
IsNear k (ValueOf (HoldCell t p)) = (t < k.titles) × (p < k.patrons)
IsNear k (Choice c b day) = c < k.copies
IsNear k (Place b) = Unit {0}
IsNear k (Room p) = p < k.patrons
IsNear k (Position t stamp) = t < k.titles
IsNear k (OnShelf t kind pickup) = Unit {0}

module _ (k j : Facts) (grows : Grows k j) (range : AreInRange k) (d e : Desk) (grown : IsGrownDesk k j d e) where
  answer_same : (q : Question) → IsNear k q → answer j e q ≡ answer k d q
  answer_same (ValueOf (CopyCell c)) near = grown.copies c near
  answer_same (ValueOf (HoldCell t p)) near = grown.holds t p near.0 near.1
  answer_same (Choice c b day) near = choice_same k j grows range d e grown c b day near
  answer_same (Place b) near = place_same k j grows range d e grown b
  answer_same (Room p) near =
      λ i. nat_lt (loans_same k j grows range d e grown p i) (grows.longer.loan_limit p near i)
  answer_same (Position t stamp) near = position_same k j grows range d e grown t stamp near
  answer_same (OnShelf t kind pickup) near =
      ap (λ (n : ℕ). nat_lt 0 n) (on_shelf_same k j grows range d e grown t kind pickup)

  note_same : (q : Question) → IsNear k q → note j e q ≡ note k d q
  note_same (ValueOf (CopyCell c)) near = ap (λ (s : CopyState). noted.Value (CopyHas s)) (grown.copies c near)
  note_same (ValueOf (HoldCell t p)) near =
      ap (λ (o : Option Hold). noted.Value (HoldHas o)) (grown.holds t p near.0 near.1)
  note_same (Choice c b day) near = ap noted.Choice (choice_same k j grows range d e grown c b day near)
  note_same (Place b) near = ap noted.Place (place_same k j grows range d e grown b)
  note_same (Room p) near = ap noted.Room (loans_same k j grows range d e grown p)
  note_same (Position t stamp) near = ap noted.Position (position_same k j grows range d e grown t stamp near)
  note_same (OnShelf t kind pickup) near =
      ap noted.OnShelf (on_shelf_same k j grows range d e grown t kind pickup)

  told_same : (q : Question) → IsNear k q → told_answer j e q ≡ told_answer k d q
  told_same (ValueOf (CopyCell c)) near = ap (λ (s : CopyState). answers.Value (CopyHas s)) (grown.copies c near)
  told_same (ValueOf (HoldCell t p)) near =
      ap (λ (o : Option Hold). answers.Value (HoldHas o)) (grown.holds t p near.0 near.1)
  told_same (Choice c b day) near = ap answers.Choice (choice_same k j grows range d e grown c b day near)
  told_same (Place b) near = ap answers.Place (place_same k j grows range d e grown b)
  told_same (Room p) near =
      λ i. answers.Room (nat_lt (loans_same k j grows range d e grown p i) (grows.longer.loan_limit p near i))
  told_same (Position t stamp) near =
      ap answers.Position (position_same k j grows range d e grown t stamp near)
  told_same (OnShelf t kind pickup) near =
      ap (λ (n : ℕ). answers.OnShelf (nat_lt 0 n)) (on_shelf_same k j grows range d e grown t kind pickup)

-- two plans that go the same way, each at its own desk
pub record Same (k j : Facts) (d e : Desk) (p q : Plan) : Type 0 where
  pub ends : outcome j e q ≡ outcome k d p
  pub asked : asks j e q ≡ asks k d p
  pub found : findings j e (asks j e q) ≡ findings k d (asks k d p)
  pub otherwise : (f g : Desk) → IsGrownDesk k j f g → answered_otherwise j e g q ≡ answered_otherwise k d f p

pub record Related (k j : Facts) (d e : Desk) : Type 0 where
  pub grows : Grows k j
  pub range : AreInRange k
  pub desk : IsKnownDesk k d
  pub grown : IsGrownDesk k j d e

module _ (k j : Facts) (d e : Desk) (r : Related k j d e) where
  given : familiar.Given k d
  given = record { range = r.range; desk = r.desk }

  asked_same : {q : Question} {rest more : AnswerTo q → Plan} → IsNear k q
      → ((a : AnswerTo q) → answer k d q ≡ a → Same k j d e (rest a) (more a))
      → Same k j d e (Ask q rest) (Ask q more)
  asked_same {q} {rest} {more} near h =
      let is : answer j e q ≡ answer k d q = answer_same k j r.grows r.range d e r.grown q near in
      let later : Same k j d e (rest (answer k d q)) (more (answer k d q)) = h (answer k d q) refl in
      record {
        ends = ap (λ (a : AnswerTo q). outcome j e (more a)) is ∙ later.ends;
        asked =
            ap (λ (a : AnswerTo q). q ∷ asks j e (more a)) is ∙ ap (λ (qs : List Question). q ∷ qs) later.asked;
        found =
            ap (λ (a : AnswerTo q). findings j e (q ∷ asks j e (more a))) is
            ∙ (λ i. record { question = q; noted = note_same k j r.grows r.range d e r.grown q near i }
            ∷ later.found i);
        otherwise = λ f g other.
            ap (λ (a : AnswerTo q). cond (same_answer (told_answer j e q) (told_answer j g q))
            (answered_otherwise j e g (more a)) true) is
            ∙ (λ i. cond (same_answer (told_same k j r.grows r.range d e r.grown q near i)
            (told_same k j r.grows r.range f g other q near i))
            (later.otherwise f g other i) true);
      }

  refused_same : {why : Refusal} → Same k j d e (Refuse why) (Refuse why)
  refused_same = record { ends = refl; asked = refl; found = refl; otherwise = λ f g other. refl }

  done_same : (done : Done) → Same k j d e (Accept done) (Accept done)
  done_same done = record { ends = refl; asked = refl; found = refl; otherwise = λ f g other. refl }

  moved : {p q s : Plan} → Same k j d e p q → s ≡ q → Same k j d e p s
  moved {p} same is = subst (Same k j d e p) (sym is) same

  either : (b : Bool) (x y u v : Plan) → Same k j d e x y → Same k j d e u v
      → Same k j d e (if b then x else u) (if b then y else v)
  either true x y u v h g = h
  either false x y u v h g = g

  -- with tests that come out alike
  either_by : (b c : Bool) (x y u v : Plan) → c ≡ b → Same k j d e x y → Same k j d e u v
      → Same k j d e (if b then x else u) (if c then y else v)
  either_by b c x y u v is h g =
      moved (either b x y u v h g) (ap (λ (t : Bool). if t then y else v) is)

  last_same : last_number j ≡ last_number k
  last_same = λ i. r.grows.longer.last i + r.grows.longer.command_limit i

  accepted_same : (n : ℕ) (cs ds : List Change) (a b : Reply) → ds ≡ cs → b ≡ a
      → Same k j d e (accept k n cs a) (accept j n ds b)
  accepted_same n cs ds a b changes reply = moved
      (either (nat_lt (last_number k) n) _ _ _ _ refused_same
      (done_same (record { changes = real_changes cs; reply = a })))
      (λ i. if nat_lt (last_same i) n then Refuse refusal.JournalFull
      else Accept (record { changes = real_changes (changes i); reply = reply i }))

  -- what is known of a copy
  in_title : (c : ℕ) → c < k.copies → k.title_of c < k.titles
  in_title c in_c = r.range.title_of c in_c

  title_is : (c : ℕ) → c < k.copies → j.title_of c ≡ k.title_of c
  title_is c in_c = r.grows.longer.title_of c in_c

  due_is : (c day : ℕ) → c < k.copies → due_day j c day ≡ due_day k c day
  due_is c day in_c = ap (λ (n : ℕ). day + n)
      (ap j.loan_days (title_is c in_c) ∙ r.grows.longer.loan_days (k.title_of c) (in_title c in_c))

  asked_hold : (c p : ℕ) {rest more : Option Hold → Plan} → c < k.copies → p < k.patrons
      → ((held : Option Hold) → d.hold (k.title_of c) p ≡ held → Same k j d e (rest held) (more held))
      → Same k j d e (Ask (ValueOf (HoldCell (k.title_of c) p)) rest)
      (Ask (ValueOf (HoldCell (j.title_of c) p)) more)
  asked_hold c p {rest} {more} in_c in_p h = moved
      (asked_same {q = ValueOf (HoldCell (k.title_of c) p)} {rest = rest} {more = more}
      (in_title c in_c, in_p) h)
      (λ i. Ask (ValueOf (HoldCell (title_is c in_c i) p)) more)

  -- at the copy's home
  asked_choice : (c day : ℕ) {rest more : Option Hold → Plan} → c < k.copies
      → ((chosen : Option Hold) → Same k j d e (rest chosen) (more chosen))
      → Same k j d e (Ask (Choice c (k.home c) day) rest) (Ask (Choice c (j.home c) day) more)
  asked_choice c day {rest} {more} in_c h = moved
      (asked_same {q = Choice c (k.home c) day} {rest = rest} {more = more} in_c (λ a told. h a))
      (λ i. Ask (Choice c (r.grows.longer.home c in_c i) day) more)

  -- checkouts and renewals
  lend_same : (p c day : ℕ) (rest more : Plan) → p < k.patrons → c < k.copies → Same k j d e rest more
      → Same k j d e (lend k p c day rest) (lend j p c day more)
  lend_same p c day rest more in_p in_c h = asked_same {q = Room p} in_p (λ room told. either room _ _ _ _
      (either_by (nat_lt last_day (due_day k c day)) (nat_lt last_day (due_day j c day)) _ _ _ _
      (ap (λ (n : ℕ). nat_lt last_day n) (due_is c day in_c)) refused_same h)
      refused_same)

  loan_same : (n p c day : ℕ) (old : CopyState) (ends more : List Change) → c < k.copies → more ≡ ends
      → Same k j d e (make_loan k n p c day old ends) (make_loan j n p c day old more)
  loan_same n p c day old ends more in_c is = accepted_same n _ _ _ _
      (λ i. copy_becomes c old (OnLoan (record { patron = p; due = due_is c day in_c i; renewals = 0 })) ∷ is i)
      (λ i. LentOrRenewed (title_is c in_c i) (due_is c day in_c i) false)

  lend_held_same : (n p c day : ℕ) (old : CopyState) → p < k.patrons → c < k.copies
      → Same k j d e (lend_held k n p c day old) (lend_held j n p c day old)
  lend_held_same n p c day old in_p in_c = lend_same p c day _ _ in_p in_c
      (asked_hold c p in_c in_p (λ held told. loan_same n p c day old _ _ in_c
      (λ i. hold_becomes (title_is c in_c i) p held None ∷ [])))

  from_shelf_same : (n p c day : ℕ) (old : CopyState) (chosen : Option Hold) → p < k.patrons → c < k.copies
      → Same k j d e (lend_from_shelf k n p c day old chosen) (lend_from_shelf j n p c day old chosen)
  from_shelf_same n p c day old None in_p in_c =
      lend_same p c day _ _ in_p in_c (loan_same n p c day old [] [] in_c refl)
  from_shelf_same n p c day old (Some h) in_p in_c =
      either (h.patron == p) _ _ _ _ (lend_held_same n p c day old in_p in_c) refused_same

  renew_loan_same : (n p c day : ℕ) (l : Loan) → p < k.patrons → c < k.copies
      → Same k j d e (renew_loan k n p c day l) (renew_loan j n p c day l)
  renew_loan_same n p c day l in_p in_c = asked_choice c day in_c (λ chosen.
      either_by (cannot_renew k p c l chosen) (cannot_renew j p c l chosen) _ _ _ _
      (ap (λ (m : ℕ). nat_le m l.renewals || is_wanted p chosen)
      (ap j.renewals (title_is c in_c) ∙ r.grows.longer.renewals (k.title_of c) (in_title c in_c)))
      refused_same
      (either_by (nat_lt last_day (due_day k c day)) (nat_lt last_day (due_day j c day)) _ _ _ _
      (ap (λ (m : ℕ). nat_lt last_day m) (due_is c day in_c)) refused_same
      (accepted_same n _ _ _ _
      (λ i. copy_becomes c (OnLoan l)
      (OnLoan (record { patron = p; due = due_is c day in_c i; renewals = l.renewals + 1 })) ∷ [])
      (λ i. LentOrRenewed (title_is c in_c i) (due_is c day in_c i) true))))

  checkout_same : (n p c : ℕ) (may : Bool) (day : ℕ) (old : CopyState) → p < k.patrons → c < k.copies
      → Same k j d e (checkout_at k n p c may day old) (checkout_at j n p c may day old)
  checkout_same n p c may day (Shelf b) in_p in_c =
      asked_choice c day in_c (λ chosen. from_shelf_same n p c day (Shelf b) chosen in_p in_c)
  checkout_same n p c may day (OnLoan l) in_p in_c = either (l.patron == p) _ _ _ _
      (either may _ _ _ _ (renew_loan_same n p c day l in_p in_c) refused_same) refused_same
  checkout_same n p c may day (OnHoldShelf s) in_p in_c =
      either (s.patron == p) _ _ _ _ (lend_held_same n p c day (OnHoldShelf s) in_p in_c) refused_same
  checkout_same n p c may day (InTransit t) in_p in_c = refused_same

  renew_same : (n p c day : ℕ) (old : CopyState) → p < k.patrons → c < k.copies
      → Same k j d e (renew_at k n p c day old) (renew_at j n p c day old)
  renew_same n p c day (OnLoan l) in_p in_c =
      either (l.patron == p) _ _ _ _ (renew_loan_same n p c day l in_p in_c) refused_same
  renew_same n p c day (Shelf b) in_p in_c = refused_same
  renew_same n p c day (OnHoldShelf s) in_p in_c = refused_same
  renew_same n p c day (InTransit t) in_p in_c = refused_same

  -- off-line loans
  ends_same : (c : ℕ) (h : Hold) (o : Option ℕ) → c < k.copies → ends_with j c h o ≡ ends_with k c h o
  ends_same c h None in_c = admits_same k j r.grows h.kind h.pickup c in_c
  ends_same c h (Some x) in_c = refl

  end_same : (c p : ℕ) (held : Option Hold) → c < k.copies → end_of_hold j c p held ≡ end_of_hold k c p held
  end_same c p None in_c = refl
  end_same c p (Some h) in_c =
      λ i. if ends_same c h h.copy in_c i then hold_becomes (title_is c in_c i) p (Some h) None ∷ [] else []

  release_hold_same : (c q : ℕ) (other : Option Hold) → c < k.copies
      → release_of_hold j c q other ≡ release_of_hold k c q other
  release_hold_same c q None in_c = refl
  release_hold_same c q (Some h) in_c =
      λ i. hold_becomes (title_is c in_c i) q (Some h) (Some (with_copy None h)) ∷ []

  lent_off_line_same : (n p c due : ℕ) (old : CopyState) (cs ds : List Change) → c < k.copies → ds ≡ cs
      → Same k j d e (lend_off_line k n p c due old cs) (lend_off_line j n p c due old ds)
  lent_off_line_same n p c due old cs ds in_c is = accepted_same n _ _ _ _
      (λ i. copy_becomes c old (OnLoan (record { patron = p; due = due; renewals = 0 })) ∷ is i)
      (λ i. LentOrRenewed (title_is c in_c i) due false)

  off_line_same : (n p c due : ℕ) (old : CopyState) (held : Option Hold) (tied : Option ℕ) → c < k.copies
      → IsKnownPatron k tied
      → Same k j d e (off_line_at k n p c due old held tied) (off_line_at j n p c due old held tied)
  off_line_same n p c due old held None in_c in_q =
      lent_off_line_same n p c due old _ _ in_c (end_same c p held in_c)
  off_line_same n p c due old held (Some q) in_c in_q = either (q == p) _ _ _ _
      (lent_off_line_same n p c due old _ _ in_c (end_same c p held in_c))
      (asked_hold c q in_c in_q (λ other told. lent_off_line_same n p c due old _ _ in_c
      (λ i. end_same c p held in_c i ++ release_hold_same c q other in_c i)))

  -- settling
  keep_same : (b : ℕ) (h : Hold) (at : Option ℕ) (rest more : CopyState → Plan)
      → ((new : CopyState) → Same k j d e (rest new) (more new))
      → Same k j d e (keep b h at rest) (keep b h at more)
  keep_same b h None rest more ok = either (h.pickup == b) _ _ _ _
      (asked_same {q = Place b} tt (λ spot told. ok _)) (ok _)
  keep_same b h (Some spot) rest more ok = ok _

  home_same : (c b : ℕ) → c < k.copies → sent_home j c b ≡ sent_home k c b
  home_same c b in_c = λ i. if (r.grows.longer.home c in_c i) == b then Shelf b
      else InTransit (record { from = b; to = r.grows.longer.home c in_c i; patron = None })

  allot_same : (c b : ℕ) (at : Option ℕ) (chosen : Option Hold)
      (rest more : CopyState → List Change → Plan) → c < k.copies → IsKnownHeld k chosen
      → ((new : CopyState) (gets : List Change) → Same k j d e (rest new gets) (more new gets))
      → Same k j d e (allot k c b at chosen rest) (allot j c b at chosen more)
  allot_same c b at None rest more in_c known ok =
      moved (ok (sent_home k c b) []) (ap (λ (s : CopyState). more s []) (home_same c b in_c))
  allot_same c b at (Some h) rest more in_c known ok = asked_hold c h.patron in_c known.patron (λ held told.
      keep_same b h at _ _ (λ new. moved
      (ok new (hold_becomes (k.title_of c) h.patron held (Some (with_copy (Some c) h)) ∷ []))
      (λ i. more new (hold_becomes (title_is c in_c i) h.patron held (Some (with_copy (Some c) h)) ∷ []))))

  settle_same : (c b day : ℕ) (old : CopyState) (tied : Option ℕ)
      (rest more : CopyState → List Change → Plan) → c < k.copies → IsKnownPatron k tied
      → ((new : CopyState) (gets : List Change) → Same k j d e (rest new gets) (more new gets))
      → Same k j d e (settle k c b day old tied rest) (settle j c b day old tied more)
  settle_same c b day old (Some p) rest more in_c in_p ok =
      asked_hold c p in_c in_p (λ held told. tied_one held)
    where
      tied_one : (held : Option Hold)
          → Same k j d e (settle_tied k c b old held rest) (settle_tied j c b old held more)
      tied_one None =
          moved (ok (sent_home k c b) []) (ap (λ (s : CopyState). more s []) (home_same c b in_c))
      tied_one (Some h) = keep_same b h (place_at b old) _ _ (λ new. ok new [])
  settle_same c b day old None rest more in_c in_p ok = asked_same {q = Choice c b day} in_c (λ chosen told.
      allot_same c b None chosen rest more in_c (choice_known k d c b day chosen given in_c told) ok)

  checkin_same : (n c b day : ℕ) → c < k.copies
      → Same k j d e (checkin k n c b day) (checkin j n c b day)
  checkin_same n c b day in_c = asked_same {q = ValueOf (CopyCell c)} in_c (λ old told.
      settle_same c b day old (tied_to old) _ _ in_c
      (tied_patron k old (tied_to old) (copy_known k d c old given in_c told) refl)
      (λ new gets. accepted_same n _ _ _ _ refl
      (λ i. Returned (title_is c in_c i) (r.grows.longer.home c in_c i) new)))

  -- holds
  add_same : (n : ℕ) (h : Hold) (t day : ℕ) (old : Option Hold) → t < k.titles
      → Same k j d e (add k n h t day old) (add j n h t day old)
  add_same n h t day (Some old) in_t = refused_same
  add_same n h t day None in_t = either (has_expired h.expiry day) _ _ _ _ refused_same
      (asked_same {q = Position t n} in_t (λ spot told.
      asked_same {q = OnShelf t h.kind h.pickup} tt (λ available heard. accepted_same n _ _ _ _ refl refl)))

  release_same : (c day : ℕ) (old : CopyState) (rest more : List Change → Plan) → c < k.copies
      → ((gets : List Change) → Same k j d e (rest gets) (more gets))
      → Same k j d e (release k c day old rest) (release j c day old more)
  release_same c day (Shelf b) rest more in_c ok = ok []
  release_same c day (OnLoan l) rest more in_c ok = ok []
  release_same c day (InTransit t) rest more in_c ok = ok _
  release_same c day (OnHoldShelf s) rest more in_c ok = asked_same {q = Choice c s.branch day} in_c
      (λ chosen told. allot_same c s.branch (Some s.place) chosen _ _ in_c
      (choice_known k d c s.branch day chosen given in_c told) (λ new gets. ok _))

  delete_same : (n t p day : ℕ) (old : Option Hold) → IsKnownHeld k old
      → Same k j d e (delete k n t p day old) (delete j n t p day old)
  delete_same n t p day None known = refused_same
  delete_same n t p day (Some h) known = by_copy h.copy known.copy
    where
      by_copy : (o : Option ℕ) → IsKnownCopy k o
          → Same k j d e (delete_with k n t p day h o) (delete_with j n t p day h o)
      by_copy None in_c = accepted_same n _ _ _ _ refl refl
      by_copy (Some c) in_c = asked_same {q = ValueOf (CopyCell c)} in_c (λ old told.
          release_same c day old _ _ in_c (λ gets. accepted_same n _ _ _ _ refl refl))

  change_to_same : (n t p : ℕ) (expiry : Option ℕ) (day : ℕ) (h new : Hold) (o : Option ℕ) → t < k.titles
      → Same k j d e (change_to k n t p expiry day h new o) (change_to j n t p expiry day h new o)
  change_to_same n t p expiry day h new (Some c) in_t = refused_same
  change_to_same n t p expiry day h new None in_t = either (has_expired expiry day) _ _ _ _ refused_same
      (asked_same {q = Position t h.stamp} in_t (λ spot told.
      asked_same {q = OnShelf t new.kind new.pickup} tt
      (λ available heard. accepted_same n _ _ _ _ refl refl)))

  change_same : (n t p : ℕ) (kind : Option HoldKind) (pickup expiry : Option ℕ) (day : ℕ) (old : Option Hold)
      → t < k.titles
      → Same k j d e (change k n t p kind pickup expiry day old) (change j n t p kind pickup expiry day old)
  change_same n t p kind pickup expiry day None in_t = refused_same
  change_same n t p kind pickup expiry day (Some h) in_t =
      change_to_same n t p expiry day h (changed_hold kind pickup expiry h) h.copy in_t

  pub plan_of_same : (n day : ℕ) (a : Action) → IsKnownAction k a
      → Same k j d e (plan_of k n day a) (plan_of j n day a)
  plan_of_same n day (action.Checkout p c may_renew) known =
      asked_same {q = ValueOf (CopyCell c)} known.1
      (λ old told. checkout_same n p c may_renew day old known.0 known.1)
  plan_of_same n day (action.OffLine p c due) known = asked_same {q = ValueOf (CopyCell c)} known.1
      (λ old told. asked_hold c p known.1 known.0 (λ held heard.
      off_line_same n p c due old held (tied_to old) known.1
      (tied_patron k old (tied_to old) (copy_known k d c old given known.1 told) refl)))
  plan_of_same n day (action.Checkin c b) known = checkin_same n c b day known.0
  plan_of_same n day (action.Add p t kind pickup expiry) known =
      asked_same {q = ValueOf (HoldCell t p)} (known.1, known.0) (λ old told. add_same n _ t day old known.1)
  plan_of_same n day (action.Delete p t) known =
      asked_same {q = ValueOf (HoldCell t p)} (known.1, known.0) (λ old told. delete_same n t p day old
      (hold_known k d t p old given known.1 known.0 told))
  plan_of_same n day (action.Change p t kind pickup expiry) known =
      asked_same {q = ValueOf (HoldCell t p)} (known.1, known.0)
      (λ old told. change_same n t p kind pickup expiry day old known.1)
  plan_of_same n day (action.Renewal p c) known =
      asked_same {q = ValueOf (CopyCell c)} known.1 (λ old told. renew_same n p c day old known.0 known.1)

  pub plan_same : (n : ℕ) (command : Command) → IsKnownAction k command.action
      → Same k j d e (plan k n command) (plan j n command)
  plan_same n command known = plan_of_same n command.day command.action known
