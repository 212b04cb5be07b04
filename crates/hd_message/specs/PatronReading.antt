-- What a body is read as where patron messages may be read.
use Rattle.std.specs.Prelude.{◌≡◌, ◌≢◌, ℕ, Bool, true, false, ◌||◌, List, IfOk, IfErr, ⊤, MatchBool, codes}
use Rattle.std.specs.Prelude.{length, take, nat_lt}
use Rattle.std.specs.Option.{option_copied}
use Rattle.hd_message.specs.PatronRequests.{IsCard, IsPatronInformation, IsPatronStatus}
use Rattle.hd_message.specs.PatronTable.{language_in, patron_code, patron_date_start, patron_fields}
use Rattle.hd_message.specs.PatronTable.{patron_fixed, patron_width}
use Rattle.hd_message.specs.Reading.{IsRequest, IsUnreadable}
use Rattle.hd_message.specs.Table.{date_at}
use Rattle.hd_message.specs.Values.{first_value, lacks}
use Rattle.hd_message.specs.declared.patron_kind.PatronKind.{PatronKind}
use Rattle.hd_message.specs.declared.patron_kind.PatronKind.TheVariants as Kinds
use Rattle.hd_message.specs.declared.patron_reading.Reading.{Reading}
use Rattle.hd_message.specs.declared.patron_reading.Reading.TheVariants.{Standard, Patron}
use Rattle.hd_message.specs.declared.patron_request.PatronRequest.{PatronRequest}
use Rattle.hd_message.specs.declared.patron_request.PatronRequest.TheVariants.{Status, Information}
use Rattle.hd_message.specs.declared.patron_request.PatronRequest.TheVariants.{EndSession, Block, FeePaid}
use Rattle.hd_message.specs.declared.patron_request.PatronRequest.TheVariants.{RenewAll}
use Rattle.hd_message.specs.declared.patron_request.UnreadablePatron.{UnreadablePatron}
use Rattle.hd_message.specs.declared.profile.Profile.{Profile}

-- whether the body of a patron message can't be read: its fixed part is short, or AA is missing
abbrev pub is_unreadable_patron : PatronKind → List ℕ → Bool
is_unreadable_patron kind body =
    nat_lt (length body) (patron_width kind) || lacks (patron_fields kind body) (codes "AA")

-- a fixed part of this kind and the fields state this request
abbrev pub StatesPatron : PatronKind → List ℕ → List ℕ → PatronRequest → Type 0
StatesPatron kind fixed part (Status request) = (kind ≡ Kinds.Status) × IsPatronStatus fixed part request
StatesPatron kind fixed part (Information request) =
    (kind ≡ Kinds.Information) × IsPatronInformation fixed part request
StatesPatron kind fixed part (EndSession request) =
    (kind ≡ Kinds.EndSession) × IsCard Kinds.EndSession fixed part request
StatesPatron kind fixed part (Block request) = (kind ≡ Kinds.Block) × IsCard Kinds.Block fixed part request
StatesPatron kind fixed part (FeePaid request) =
    (kind ≡ Kinds.FeePaid) × IsCard Kinds.FeePaid fixed part request
StatesPatron kind fixed part (RenewAll request) =
    (kind ≡ Kinds.RenewAll) × IsCard Kinds.RenewAll fixed part request

-- The body is a readable patron message of some kind, and states the request.
pub record IsPatronMessage (body : List ℕ) (request : PatronRequest) : Type 0 where
  pub kind : PatronKind
  pub code : take 2 body ≡ patron_code kind
  pub readable : is_unreadable_patron kind body ≡ false
  pub states : StatesPatron kind (patron_fixed kind body) (patron_fields kind body) request

-- The body is an unreadable patron message of that kind; its refusal prints this language and this date,
-- where the fixed part has them whole, and this patron.
pub record IsUnreadablePatron (body : List ℕ) (message : UnreadablePatron) : Type 0 where
  pub code : take 2 body ≡ patron_code message.kind
  pub unreadable : is_unreadable_patron message.kind body ≡ true
  pub language : option_copied message.language ≡ language_in message.kind body
  pub date : option_copied message.date ≡ date_at body (patron_date_start message.kind)
  pub patron : option_copied message.patron ≡ first_value (patron_fields message.kind body) (codes "AA")

-- a body that is no patron message
abbrev pub HasNoPatronCode : List ℕ → Type 0
HasNoPatronCode body = (kind : PatronKind) → take 2 body ≢ patron_code kind

-- a body that is read as in the standard profile: it is no patron message, or these aren't read
abbrev pub IsStandardBody : Profile → List ℕ → Type 0
IsStandardBody profile body = MatchBool profile.patron_messages (HasNoPatronCode body) ⊤

-- what a body is read as under a profile: what `read` answers, or a patron message, readable or not
abbrev pub IsReading : Profile → List ℕ → Reading → Type 0
IsReading profile body (Standard answer) =
    IsStandardBody profile body × IfOk answer (IsRequest body) × IfErr answer (IsUnreadable body)
IsReading profile body (Patron answer) =
    (profile.patron_messages ≡ true)
    × IfOk answer (IsPatronMessage body)
    × IfErr answer (IsUnreadablePatron body)

-- what `read` answers
abbrev pub IsStandardReading : List ℕ → Reading → Type 0
IsStandardReading body (Standard answer) = IfOk answer (IsRequest body) × IfErr answer (IsUnreadable body)
IsStandardReading body (Patron answer) = ⊥
