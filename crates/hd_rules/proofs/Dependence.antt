-- A later command depends on an earlier one exactly where the test says so.
use Rattle.std.proofs.Common.{◌≡◌, refl, ap, subst, Bool, true, false, cond, ◌⊎◌, inl, inr, List, Option, ◌↔◌}
use Rattle.std.specs.Prelude.{IsTrue}
use Rattle.hd_rules.specs.Words.{CopyCell, HoldCell, CopyState, Hold, CopyHas, HoldHas, Question, ValueOf}
use Rattle.hd_rules.specs.Words.{Choice, Place, Room, Position}
use Rattle.hd_rules.specs.Words.{OnShelf, Answer, Survivor}
use Rattle.hd_rules.specs.declared.questions.Answer.TheVariants as answers
use Rattle.hd_rules.specs.Facts.{Facts}
use Rattle.hd_rules.specs.Desk.{Desk}
use Rattle.hd_rules.specs.Ask.{Plan, Ask, Refuse, Accept, answer}
use Rattle.hd_rules.specs.Notes.{told_answer}
use Rattle.hd_rules.specs.Same.{same_answer}
use Rattle.hd_rules.specs.Step.{plan}
use Rattle.hd_rules.specs.Run.{run}
use Rattle.hd_rules.specs.Depends.{AnsweredAlike, AnsweredOtherwise, before, less, Depends}
use Rattle.hd_rules.specs.Searches.{answered_otherwise, depends}
use Rattle.hd_rules.proofs.Same.{answer_self}
use Rattle.hd_rules.proofs.Alike.{answer_is}

-- what is told alike is answered alike
answer_is_told : (k : Facts) (d e : Desk) (q : Question) → told_answer k d q ≡ told_answer k e q
    → answer k d q ≡ answer k e q
answer_is_told k d e (ValueOf (CopyCell c)) h = cc
answer_is_told k d e (ValueOf (HoldCell t p)) h = cc
answer_is_told k d e (Choice c b day) h = cc
answer_is_told k d e (Place b) h = cc
answer_is_told k d e (Room p) h = cc
answer_is_told k d e (Position t stamp) h = cc
answer_is_told k d e (OnShelf t kind pickup) h = cc

told_is_answer : (k : Facts) (d e : Desk) (q : Question) → answer k d q ≡ answer k e q
    → told_answer k d q ≡ told_answer k e q
told_is_answer k d e (ValueOf (CopyCell c)) h = ap (λ (s : CopyState). answers.Value (CopyHas s)) h
told_is_answer k d e (ValueOf (HoldCell t p)) h = ap (λ (o : Option Hold). answers.Value (HoldHas o)) h
told_is_answer k d e (Choice c b day) h = ap answers.Choice h
told_is_answer k d e (Place b) h = ap answers.Place h
told_is_answer k d e (Room p) h = ap answers.Room h
told_is_answer k d e (Position t stamp) h = ap answers.Position h
told_is_answer k d e (OnShelf t kind pickup) h = ap answers.OnShelf h

pub told_alike : (k : Facts) (d e : Desk) (q : Question)
    → (told_answer k d q ≡ told_answer k e q) ↔ (answer k d q ≡ answer k e q)
told_alike k d e q = (answer_is_told k d e q, told_is_answer k d e q)

-- the test finds a question with another answer
pub otherwise_is : (k : Facts) (d e : Desk) (p : Plan) → answered_otherwise k d e p ≡ true
    → AnsweredOtherwise k d e p
otherwise_is k d e (Ask q rest) h = by_test (same_answer (told_answer k d q) (told_answer k e q)) refl h
    (otherwise_is k d e (rest (answer k d q)))
  where
    by_test : (b : Bool) → same_answer (told_answer k d q) (told_answer k e q) ≡ b
        → cond b (answered_otherwise k d e (rest (answer k d q))) true ≡ true
        → (answered_otherwise k d e (rest (answer k d q)) ≡ true
        → AnsweredOtherwise k d e (rest (answer k d q))) → AnsweredOtherwise k d e (Ask q rest)
    by_test true is h more = inr (more h)
    by_test false is h more = inl (λ same.
        let one : same_answer (told_answer k d q) (told_answer k e q) ≡ true =
        subst (λ (a : Answer). same_answer (told_answer k d q) a ≡ true) (told_is_answer k d e q same)
        (answer_self (told_answer k d q)) in
        (let no : ⊥ = cc in no))
otherwise_is k d e (Refuse r) h = cc
otherwise_is k d e (Accept done) h = cc

-- or else all are answered alike
pub alike_is : (k : Facts) (d e : Desk) (p : Plan) → answered_otherwise k d e p ≡ false
    → AnsweredAlike k d e p
alike_is k d e (Ask q rest) h = by_test (same_answer (told_answer k d q) (told_answer k e q)) refl h
    (alike_is k d e (rest (answer k d q)))
  where
    by_test : (b : Bool) → same_answer (told_answer k d q) (told_answer k e q) ≡ b
        → cond b (answered_otherwise k d e (rest (answer k d q))) true ≡ false
        → (answered_otherwise k d e (rest (answer k d q)) ≡ false → AnsweredAlike k d e (rest (answer k d q)))
        → AnsweredAlike k d e (Ask q rest)
    by_test true is h more =
        (answer_is_told k d e q (answer_is (told_answer k d q) (told_answer k e q) is), more h)
    by_test false is h more = cc
alike_is k d e (Refuse r) h = tt
alike_is k d e (Accept done) h = tt

pub not_both : (k : Facts) (d e : Desk) (plan : Plan) → AnsweredOtherwise k d e plan
    → AnsweredAlike k d e plan → ⊥
not_both k d e (Ask q rest) (inl ne) alike = ne alike.0
not_both k d e (Ask q rest) (inr other) alike = not_both k d e (rest (answer k d q)) other alike.1
not_both k d e (Refuse r) other alike = absurd other
not_both k d e (Accept done) other alike = absurd other

pub otherwise_or_alike : (k : Facts) (d e : Desk) (p : Plan)
    → AnsweredOtherwise k d e p ⊎ AnsweredAlike k d e p
otherwise_or_alike k d e p = by_test (answered_otherwise k d e p) refl
  where
    by_test : (b : Bool) → answered_otherwise k d e p ≡ b → AnsweredOtherwise k d e p ⊎ AnsweredAlike k d e p
    by_test true is = inl (otherwise_is k d e p is)
    by_test false is = inr (alike_is k d e p is)

pub is_otherwise : (k : Facts) (d e : Desk) (p : Plan) → AnsweredOtherwise k d e p
    → answered_otherwise k d e p ≡ true
is_otherwise k d e p h = by_test (answered_otherwise k d e p) refl
  where
    by_test : (b : Bool) → answered_otherwise k d e p ≡ b → b ≡ true
    by_test true is = refl
    by_test false is = absurd (not_both k d e p h (alike_is k d e p is))

-- the test of dependence is exact
pub depends_is : (k : Facts) (survivors : List Survivor) (c d : Survivor)
    → IsTrue (depends k survivors c d) ↔ Depends k survivors c d
depends_is k survivors c d = (
  otherwise_is k (run k (before d.number survivors)) (run k (less c.number (before d.number survivors)))
      (plan k d.number d.command),
  is_otherwise k (run k (before d.number survivors)) (run k (less c.number (before d.number survivors)))
      (plan k d.number d.command),
)
