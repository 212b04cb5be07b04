-- The replies to a checkout (12) and to a renewal (30).
use Rattle.std.specs.Prelude.{ℕ, List, [], ◌∷◌, ◌++◌, codes}
use Rattle.std.specs.List.{concat}
use Rattle.hd_message.specs.Fields.{cancelled_field, due_field, field_text, refusal_field, yes_no}
use Rattle.hd_message.specs.declared.reply.LoanReply.{LoanReply}
use Rattle.hd_message.specs.declared.reply.LoanOutcome.{LoanOutcome}
use Rattle.hd_message.specs.declared.reply.LoanOutcome.TheVariants.{Lent, Cancelled, Refused}

-- 12: ok, renewal ok, magnetic media, desensitize
abbrev pub checkout_front : LoanOutcome → List ℕ
checkout_front (Lent renewed title due) = codes "121" ++ yes_no renewed ++ codes "NY"
checkout_front (Cancelled title number) = codes "121NNY"
checkout_front (Refused refusal) = codes "120NNN"

-- 30: the same; a renewal is renewed
abbrev pub renew_front : LoanOutcome → List ℕ
renew_front (Lent renewed title due) = codes "301YNN"
renew_front (Cancelled title number) = codes "301NNN"
renew_front (Refused refusal) = codes "300NNN"

-- a reply behind its front that tells of a loan: of a copy of this title, due on this day
abbrev pub lent_layout : List ℕ → LoanReply → List ℕ → ℕ → List (List ℕ)
lent_layout front reply title due =
    front
    ∷ reply.date.now
    ∷ field_text (codes "AO") reply.institution.now
    ∷ field_text (codes "AA") reply.patron.now
    ∷ field_text (codes "AB") reply.copy.now
    ∷ field_text (codes "AJ") title
    ∷ due_field due
    ∷ []

-- a reply behind its front: accepted, accepted as a cancellation, refused
abbrev pub loan_layout : List ℕ → LoanReply → LoanOutcome → List (List ℕ)
loan_layout front reply (Lent renewed title due) = lent_layout front reply title.now due.now
loan_layout front reply (Cancelled title number) =
    front
    ∷ reply.date.now
    ∷ field_text (codes "AO") reply.institution.now
    ∷ field_text (codes "AA") reply.patron.now
    ∷ field_text (codes "AB") reply.copy.now
    ∷ field_text (codes "AJ") title.now
    ∷ field_text (codes "AH") []
    ∷ cancelled_field number
    ∷ []
loan_layout front reply (Refused refusal) =
    front
    ∷ reply.date.now
    ∷ field_text (codes "AO") reply.institution.now
    ∷ field_text (codes "AA") reply.patron.now
    ∷ field_text (codes "AB") reply.copy.now
    ∷ field_text (codes "AJ") []
    ∷ field_text (codes "AH") []
    ∷ refusal_field refusal
    ∷ []

-- the text of a reply behind a front
abbrev pub loan_text : List ℕ → LoanReply → List ℕ
loan_text front reply = concat (loan_layout front reply reply.outcome)

-- the text of the reply to a checkout
abbrev pub checkout_text : LoanReply → List ℕ
checkout_text reply = loan_text (checkout_front reply.outcome) reply

-- the text of the reply to a renewal
abbrev pub renew_text : LoanReply → List ℕ
renew_text reply = loan_text (renew_front reply.outcome) reply
