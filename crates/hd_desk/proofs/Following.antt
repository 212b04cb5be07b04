-- What is asked on the way to a plan's end.
use Rattle.std.proofs.Common.{◌≡◌, refl, sym, ◌∙◌, ap, List, [], ◌∷◌, ◌++◌, Ok, Err, append_assoc}
use Rattle.std.proofs.lemmas.List.{append-nil}
use Rattle.hd_rules.specs.declared.questions.Question.{Question}
use Rattle.hd_rules.specs.Facts.{Facts}
use Rattle.hd_rules.specs.Desk.{Desk}
use Rattle.hd_rules.specs.Ask.{Plan, Ask, Refuse, Accept, answer, outcome, asks}
use Rattle.hd_rules.specs.Known.{IsKnownQuestion}
use Rattle.hd_rules.specs.Record.{findings}
use Rattle.hd_rules.specs.Notes.{note}
use Rattle.hd_rules.specs.declared.questions.Finding.{Finding}
use Rattle.hd_desk.specs.Asking.{ending, asked_of, AreKnownQuestions}

-- a plan's end is its outcome, and what was asked is what was asked before and its own questions
pub ending_is : (k : Facts) (d : Desk) (p : Plan) (asked : List Question) → ending k d p asked
    ≡ (outcome k d p, asked ++ asks k d p)
ending_is k d (Ask q rest) asked =
    ending_is k d (rest (answer k d q)) (asked ++ q ∷ [])
    ∙ ap (λ (qs : List Question). (outcome k d (rest (answer k d q)), qs))
    (append_assoc asked (q ∷ []) (asks k d (rest (answer k d q))))
ending_is k d (Refuse r) asked = ap (λ (qs : List Question). (Err r, qs)) (sym (append-nil asked))
ending_is k d (Accept done) asked = ap (λ (qs : List Question). (Ok done, qs)) (sym (append-nil asked))

-- one more question
pub findings_more : (k : Facts) (d : Desk) (qs : List Question) (q : Question) →
    findings k d (qs ++ q ∷ []) ≡ findings k d qs ++ record { question = q; noted = note k d q } ∷ []
findings_more k d [] q = refl
findings_more k d (x ∷ xs) q =
    ap (λ (fs : List Finding). record { question = x; noted = note k d x } ∷ fs) (findings_more k d xs q)

pub asked_more : (fs : List Finding) (f : Finding) → asked_of (fs ++ f ∷ []) ≡ asked_of fs ++ f.question ∷ []
asked_more [] f = refl
asked_more (x ∷ xs) f = ap (λ (qs : List Question). x.question ∷ qs) (asked_more xs f)

pub known_more : (k : Facts) (qs : List Question) (q : Question) → AreKnownQuestions k qs
    → IsKnownQuestion k q →
    AreKnownQuestions k (qs ++ q ∷ [])
known_more k [] q all is = (is, tt)
known_more k (x ∷ xs) q all is = (all.0, known_more k xs q all.1 is)
