-- The reply to a hold message (16).
use Rattle.std.specs.Prelude.{ℕ, List, [], ◌∷◌, codes}
use Rattle.std.specs.List.{concat}
use Rattle.std.specs.Option.{option_copied}
use Rattle.hd_message.specs.Fields.{cancelled_field, expiry_field, field_text, optional_text, position_field}
use Rattle.hd_message.specs.Fields.{refusal_field, yes_no}
use Rattle.hd_message.specs.declared.reply.HoldReply.{HoldReply}
use Rattle.hd_message.specs.declared.reply.HoldOutcome.{HoldOutcome}
use Rattle.hd_message.specs.declared.reply.HoldOutcome.TheVariants.{Held, Deleted, Cancelled, Refused}

-- 16: accepted as an add or a change, as a delete, as a cancellation, refused
abbrev pub hold_layout : HoldReply → HoldOutcome → List (List ℕ)
hold_layout reply (Held available expiry position pickup title) =
    codes "161"
    ∷ yes_no available
    ∷ reply.date.now
    ∷ expiry_field (option_copied expiry)
    ∷ position_field position
    ∷ field_text (codes "BS") pickup.now
    ∷ field_text (codes "AO") reply.institution.now
    ∷ field_text (codes "AA") reply.patron.now
    ∷ optional_text (codes "AB") (option_copied reply.copy)
    ∷ field_text (codes "AJ") title.now
    ∷ []
hold_layout reply (Deleted title) =
    codes "161N"
    ∷ reply.date.now
    ∷ field_text (codes "AO") reply.institution.now
    ∷ field_text (codes "AA") reply.patron.now
    ∷ optional_text (codes "AB") (option_copied reply.copy)
    ∷ field_text (codes "AJ") title.now
    ∷ []
hold_layout reply (Cancelled title number) =
    codes "161N"
    ∷ reply.date.now
    ∷ field_text (codes "AO") reply.institution.now
    ∷ field_text (codes "AA") reply.patron.now
    ∷ optional_text (codes "AB") (option_copied reply.copy)
    ∷ field_text (codes "AJ") title.now
    ∷ cancelled_field number
    ∷ []
hold_layout reply (Refused title refusal) =
    codes "160N"
    ∷ reply.date.now
    ∷ field_text (codes "AO") reply.institution.now
    ∷ field_text (codes "AA") reply.patron.now
    ∷ optional_text (codes "AB") (option_copied reply.copy)
    ∷ optional_text (codes "AJ") (option_copied title)
    ∷ refusal_field refusal
    ∷ []

-- the text of the reply
abbrev pub hold_text : HoldReply → List ℕ
hold_text reply = concat (hold_layout reply reply.outcome)
