-- The reply to a checkin (10).
use Rattle.std.specs.Prelude.{ℕ, Bool, true, false, List, [], ◌∷◌, codes}
use Rattle.std.specs.List.{concat}
use Rattle.hd_message.specs.Fields.{bound_field, cancelled_field, field_text, place_field, refusal_field}
use Rattle.hd_message.specs.Fields.{yes_no}
use Rattle.hd_message.specs.declared.reply.CheckinReply.{CheckinReply}
use Rattle.hd_message.specs.declared.reply.CheckinOutcome.{CheckinOutcome}
use Rattle.hd_message.specs.declared.reply.CheckinOutcome.TheVariants.{Returned, Cancelled, Refused}
use Rattle.hd_message.specs.declared.reply.Whereabouts.{Whereabouts}
use Rattle.hd_message.specs.declared.reply.Whereabouts.TheVariants.{OpenShelf, HoldShelf, Transit}

-- whether the copy needs care: it isn't on its open shelf
abbrev pub is_alert : Whereabouts → Bool
is_alert OpenShelf = false
is_alert (HoldShelf place) = true
is_alert (Transit branch) = true

-- CL, left out for the open shelf
abbrev pub whereabouts_field : Whereabouts → List ℕ
whereabouts_field OpenShelf = []
whereabouts_field (HoldShelf place) = place_field place
whereabouts_field (Transit branch) = bound_field branch.now

-- 10: accepted, accepted as a cancellation, refused
abbrev pub checkin_layout : CheckinReply → CheckinOutcome → List (List ℕ)
checkin_layout reply (Returned home title whereabouts) =
    codes "101YN"
    ∷ yes_no (is_alert whereabouts)
    ∷ reply.date.now
    ∷ field_text (codes "AO") reply.institution.now
    ∷ field_text (codes "AB") reply.copy.now
    ∷ field_text (codes "AQ") home.now
    ∷ field_text (codes "AJ") title.now
    ∷ whereabouts_field whereabouts
    ∷ []
checkin_layout reply (Cancelled home title number) =
    codes "101YNN"
    ∷ reply.date.now
    ∷ field_text (codes "AO") reply.institution.now
    ∷ field_text (codes "AB") reply.copy.now
    ∷ field_text (codes "AQ") home.now
    ∷ field_text (codes "AJ") title.now
    ∷ cancelled_field number
    ∷ []
checkin_layout reply (Refused refusal) =
    codes "100NNN"
    ∷ reply.date.now
    ∷ field_text (codes "AO") reply.institution.now
    ∷ field_text (codes "AB") reply.copy.now
    ∷ field_text (codes "AQ") []
    ∷ refusal_field refusal
    ∷ []

-- the text of the reply
abbrev pub checkin_text : CheckinReply → List ℕ
checkin_text reply = concat (checkin_layout reply reply.outcome)
