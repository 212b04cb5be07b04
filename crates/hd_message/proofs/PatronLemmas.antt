-- Patron messages are read in one way.
use Rattle.std.proofs.Common.{◌≡◌, ℕ, ◌≤◌, ◌||◌, Bool, true, false, List, Ok, Err}
use Rattle.std.proofs.Common.{codes}
use Rattle.std.proofs.Common.{length, take, refl, sym, ap, subst, ◌∙◌, arith, nat_lt, length-append}
use Rattle.std.proofs.Common.{if◌then◌else◌, ◌++◌, MatchBool}
use Rattle.std.specs.Prelude.{⊤}
use Rattle.std.specs.Str.{bytes_eq}
use Rattle.hd_message.proofs.ReadBackLemmas.{drop_fixed, take_fixed}
use Rattle.hd_message.specs.PatronReading.{HasNoPatronCode, IsPatronMessage, IsReading, IsStandardReading}
use Rattle.hd_message.specs.PatronReading.{IsUnreadablePatron, StatesPatron}
use Rattle.hd_message.specs.PatronReading.{is_unreadable_patron}
use Rattle.hd_message.specs.PatronTable.{patron_code, patron_fields, patron_fixed, patron_width}
use Rattle.hd_message.specs.Values.{lacks}
use Rattle.hd_message.specs.declared.patron_kind.PatronKind.{PatronKind}
use Rattle.hd_message.specs.declared.patron_kind.PatronKind.TheVariants as Kinds
use Rattle.hd_message.specs.declared.patron_reading.Reading.{Reading}
use Rattle.hd_message.specs.declared.patron_reading.Reading.TheVariants.{Standard, Patron}
use Rattle.hd_message.specs.declared.patron_request.PatronRequest.{PatronRequest}
use Rattle.hd_message.specs.declared.patron_request.UnreadablePatron.{UnreadablePatron}
use Rattle.hd_message.specs.declared.profile.Profile.{Profile}

-- the kind of a code
decode : List ℕ → PatronKind
decode code =
    if bytes_eq code (codes "23") then Kinds.Status
    else if bytes_eq code (codes "63") then Kinds.Information
    else if bytes_eq code (codes "35") then Kinds.EndSession
    else if bytes_eq code (codes "01") then Kinds.Block
    else if bytes_eq code (codes "37") then Kinds.FeePaid
    else Kinds.RenewAll

decoded : (kind : PatronKind) → decode (patron_code kind) ≡ kind
unfolding decode
decoded Kinds.Status = refl
decoded Kinds.Information = refl
decoded Kinds.EndSession = refl
decoded Kinds.Block = refl
decoded Kinds.FeePaid = refl
decoded Kinds.RenewAll = refl

-- two kinds of one code are one
pub one_patron_kind : (a b : PatronKind) → patron_code a ≡ patron_code b → a ≡ b
one_patron_kind a b h = sym (decoded a) ∙ ap decode h ∙ decoded b

-- no body is a request and unreadable
pub patron_apart : (body : List ℕ) (request : PatronRequest) (message : UnreadablePatron) →
    IsPatronMessage body request → IsUnreadablePatron body message → ⊥
patron_apart body request message m u =
    let same = one_patron_kind m.kind message.kind (sym m.code ∙ u.code) in
    let both : false ≡ true = sym m.readable ∙ ap (λ k. is_unreadable_patron k body) same ∙ u.unreadable in
    cc

-- a body without the code of a patron message is none
no_message : (body : List ℕ) → HasNoPatronCode body → (request : PatronRequest)
    → IsPatronMessage body request → ⊥
no_message body none request m = none m.kind m.code

no_unreadable : (body : List ℕ) → HasNoPatronCode body → (message : UnreadablePatron)
    → IsUnreadablePatron body message → ⊥
no_unreadable body none message u = none message.kind u.code

-- where patron messages aren't read, or a body is none
pub read_off : (profile : Profile) (body : List ℕ) (reading : Reading) → profile.patron_messages ≡ false →
    ((IsReading profile body reading → IsStandardReading body reading)
    × (IsStandardReading body reading → IsReading profile body reading))
read_off profile body (Standard answer) off = (λ h. (h.1, h.2), λ h. (rw off tt, h.0, h.1))
read_off profile body (Patron answer) off =
    (λ h. absurd (let both : false ≡ true = sym off ∙ h.0 in cc), λ h. absurd h)

match_either : (b : Bool) (P : Type 0) → P → MatchBool b P ⊤
match_either true P p = p
match_either false P p = tt

pub read_on : (profile : Profile) (body : List ℕ) (reading : Reading) → HasNoPatronCode body →
    ((IsReading profile body reading → IsStandardReading body reading)
    × (IsStandardReading body reading → IsReading profile body reading))
read_on profile body (Standard answer) none =
    (λ h. (h.1, h.2), λ h. (match_either profile.patron_messages (HasNoPatronCode body) none, h.0, h.1))
read_on profile body (Patron (Ok request)) none =
    (λ h. absurd (no_message body none request h.1), λ h. absurd h)
read_on profile body (Patron (Err message)) none =
    (λ h. absurd (no_unreadable body none message h.2), λ h. absurd h)

not_less : (m n : ℕ) → n ≤ m → nat_lt m n ≡ false
not_less m n h = grind arith

-- a message is its fixed part and its fields
pub patron_message_of : (kind : PatronKind) (fixed part : List ℕ) (request : PatronRequest)
    → length fixed ≡ patron_width kind → take 2 (fixed ++ part) ≡ patron_code kind
    → lacks part (codes "AA") ≡ false → StatesPatron kind fixed part request
    → IsPatronMessage (fixed ++ part) request
patron_message_of kind fixed part request width code complete states =
    let front = take_fixed (patron_width kind) fixed part width in
    let back = drop_fixed (patron_width kind) fixed part width in
    let long : patron_width kind ≤ length (fixed ++ part) = omega (arith, length-append fixed part, width) in
    let whole = not_less (length (fixed ++ part)) (patron_width kind) long in
    record {
      kind = kind;
      code = code;
      readable = ap (λ t. t || lacks (patron_fields kind (fixed ++ part)) (codes "AA")) whole
          ∙ ap (λ p. lacks p (codes "AA")) back
          ∙ complete;
      states = subst (λ f. StatesPatron kind f (patron_fields kind (fixed ++ part)) request) (sym front)
          (subst (λ p. StatesPatron kind fixed p request) (sym back) states);
    }

-- and states the request that it is read as
pub patron_states_of : (kind : PatronKind) (fixed part : List ℕ) (request : PatronRequest)
    → length fixed ≡ patron_width kind → take 2 (fixed ++ part) ≡ patron_code kind
    → IsPatronMessage (fixed ++ part) request → StatesPatron kind fixed part request
patron_states_of kind fixed part request width code message =
    let same : message.kind ≡ kind = one_patron_kind message.kind kind (sym message.code ∙ code) in
    let front = take_fixed (patron_width kind) fixed part width in
    let back = drop_fixed (patron_width kind) fixed part width in
    let body = fixed ++ part in
    let stated : StatesPatron kind (patron_fixed kind body) (patron_fields kind body) request =
    subst (λ k. StatesPatron k (patron_fixed k body) (patron_fields k body) request) same message.states in
    subst (λ p. StatesPatron kind fixed p request) back
    (subst (λ f. StatesPatron kind f (patron_fields kind body) request) front stated)
