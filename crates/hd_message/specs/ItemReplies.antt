-- The reply to a question about a copy (18).
use Rattle.std.specs.Prelude.{ℕ, List, [], ◌∷◌, codes}
use Rattle.std.specs.List.{concat}
use Rattle.hd_message.specs.Fields.{due_field, field_text, holds_field, refusal_field}
use Rattle.hd_message.specs.declared.reply.ItemReply.{ItemReply}
use Rattle.hd_message.specs.declared.reply.ItemOutcome.{ItemOutcome}
use Rattle.hd_message.specs.declared.reply.ItemOutcome.TheVariants.{Found, Refused}
use Rattle.hd_message.specs.declared.reply.Circulation.{Circulation}
use Rattle.hd_message.specs.declared.reply.Circulation.TheVariants.{OpenShelf, Loan, HoldShelf, Transit}

-- the circulation status
abbrev pub status_code : Circulation → List ℕ
status_code (OpenShelf branch) = codes "03"
status_code (Loan due) = codes "04"
status_code (HoldShelf branch) = codes "08"
status_code Transit = codes "10"

-- AH, for a loan alone
abbrev pub loan_field : Circulation → List ℕ
loan_field (OpenShelf branch) = []
loan_field (Loan due) = due_field due.now
loan_field (HoldShelf branch) = []
loan_field Transit = []

-- AP, left out for a loan and a transit
abbrev pub branch_field : Circulation → List ℕ
branch_field (OpenShelf branch) = field_text (codes "AP") branch.now
branch_field (Loan due) = []
branch_field (HoldShelf branch) = field_text (codes "AP") branch.now
branch_field Transit = []

-- 18: accepted, refused
abbrev pub item_layout : ItemReply → ItemOutcome → List (List ℕ)
item_layout reply (Found holds title home circulation) =
    codes "18"
    ∷ status_code circulation
    ∷ codes "00"
    ∷ codes "01"
    ∷ reply.date.now
    ∷ holds_field holds
    ∷ loan_field circulation
    ∷ field_text (codes "AB") reply.copy.now
    ∷ field_text (codes "AJ") title.now
    ∷ field_text (codes "AQ") home.now
    ∷ branch_field circulation
    ∷ []
item_layout reply (Refused refusal) =
    codes "18010001"
    ∷ reply.date.now
    ∷ field_text (codes "AB") reply.copy.now
    ∷ field_text (codes "AJ") []
    ∷ refusal_field refusal
    ∷ []

-- the text of the reply
abbrev pub item_text : ItemReply → List ℕ
item_text reply = concat (item_layout reply reply.outcome)
