-- A body that states some values is read as a request that has them.
use Rattle.std.proofs.Common.{◌≡◌, ℕ, zero, suc, ◌≤◌, ◌||◌, Bool, true, false, Option, None, Some, IfSome}
use Rattle.std.proofs.Common.{List, [], ◌∷◌, ◌++◌, codes}
use Rattle.std.proofs.Common.{length, take, drop, refl, sym, ap, subst, ◌∙◌, arith, nat_lt, length-append}
use Rattle.std.proofs.Common.{if◌then◌else◌}
use Rattle.std.specs.Str.{bytes_eq}
use Rattle.hd_field.specs.Fields.{width_of}
use Rattle.hd_message.specs.Grammar.{AreWritable, IsGiven, Written, cancel, has_bar, optional, value_of}
use Rattle.hd_message.specs.Reading.{IsMessage, StatesRequest, is_incomplete}
use Rattle.hd_message.specs.Table.{code_of, fields_part, fixed_part, fixed_width}
use Rattle.hd_message.specs.Values.{is_yes, unless_empty}
use Rattle.hd_message.specs.declared.kind.Kind.{Kind}
use Rattle.hd_message.specs.declared.kind.Kind.TheVariants as Kinds
use Rattle.hd_message.specs.declared.kind.DeskKind.TheVariants as Desks
use Rattle.hd_message.specs.declared.request.Request.{Request}
use Rattle.hd_message.specs.declared.request.Request.TheVariants.{Login, Status, Checkout, Checkin, Hold}
use Rattle.hd_message.specs.declared.request.Request.TheVariants.{Renew, Item, Resend, Unsupported}

-- the kind of a code
decode : List ℕ → Kind
decode code =
    if bytes_eq code (codes "93") then Kinds.Login
    else if bytes_eq code (codes "99") then Kinds.Status
    else if bytes_eq code (codes "11") then Kinds.Desk Desks.Checkout
    else if bytes_eq code (codes "09") then Kinds.Desk Desks.Checkin
    else if bytes_eq code (codes "15") then Kinds.Desk Desks.Hold
    else if bytes_eq code (codes "29") then Kinds.Desk Desks.Renew
    else if bytes_eq code (codes "17") then Kinds.Desk Desks.Item
    else Kinds.Resend

decoded : (kind : Kind) → decode (code_of kind) ≡ kind
unfolding decode
decoded Kinds.Login = refl
decoded Kinds.Status = refl
decoded (Kinds.Desk Desks.Checkout) = refl
decoded (Kinds.Desk Desks.Checkin) = refl
decoded (Kinds.Desk Desks.Hold) = refl
decoded (Kinds.Desk Desks.Renew) = refl
decoded (Kinds.Desk Desks.Item) = refl
decoded Kinds.Resend = refl

-- two kinds of one code are one
pub one_kind : (a b : Kind) → code_of a ≡ code_of b → a ≡ b
one_kind a b h = sym (decoded a) ∙ ap decode h ∙ decoded b

-- the front of a text, and what stands behind it
pub take_fixed : (n : ℕ) (fixed part : List ℕ) → length fixed ≡ n → take n (fixed ++ part) ≡ fixed
take_fixed zero [] part h = refl
take_fixed zero (b ∷ fixed) part h = absurd (omega arith)
take_fixed (suc n) [] part h = absurd (omega arith)
take_fixed (suc n) (b ∷ fixed) part h = ap (λ bs. b ∷ bs) (take_fixed n fixed part (omega arith))

pub drop_fixed : (n : ℕ) (fixed part : List ℕ) → length fixed ≡ n → drop n (fixed ++ part) ≡ part
drop_fixed zero [] part h = refl
drop_fixed zero (b ∷ fixed) part h = absurd (omega arith)
drop_fixed (suc n) [] part h = absurd (omega arith)
drop_fixed (suc n) (b ∷ fixed) part h = drop_fixed n fixed part (omega arith)

-- a number that is not less
not_less : (m n : ℕ) → n ≤ m → nat_lt m n ≡ false
not_less m n h = grind arith

-- a message is its fixed part and its fields
pub message_of : (kind : Kind) (fixed part : List ℕ) (request : Request) → length fixed ≡ fixed_width kind
    → take 2 (fixed ++ part) ≡ code_of kind → is_incomplete kind fixed part ≡ false
    → StatesRequest (code_of kind) fixed part request → IsMessage (fixed ++ part) request
message_of kind fixed part request width code complete states =
    let front = take_fixed (fixed_width kind) fixed part width in
    let back = drop_fixed (fixed_width kind) fixed part width in
    let long : fixed_width kind ≤ length (fixed ++ part) = omega (arith, length-append fixed part) in
    let whole = not_less (length (fixed ++ part)) (fixed_width kind) long in
    record {
      kind = kind;
      code = code;
      readable = ap (λ t. t || is_incomplete kind (fixed_part kind (fixed ++ part))
          (fields_part kind (fixed ++ part))) whole
          ∙ ap (λ f. is_incomplete kind f (fields_part kind (fixed ++ part))) front
          ∙ ap (λ p. is_incomplete kind fixed p) back
          ∙ complete;
      states =
          subst (λ f. StatesRequest (code_of kind) f (fields_part kind (fixed ++ part)) request) (sym front)
          (subst (λ p. StatesRequest (code_of kind) fixed p request) (sym back) states);
    }

-- and states the request that it is read as
pub states_of : (kind : Kind) (fixed part : List ℕ) (request : Request) → length fixed ≡ fixed_width kind →
    take 2 (fixed ++ part) ≡ code_of kind →
    IsMessage (fixed ++ part) request → StatesRequest (code_of kind) fixed part request
states_of kind fixed part request width code message =
    let same : message.kind ≡ kind = one_kind message.kind kind (sym message.code ∙ code) in
    let front = take_fixed (fixed_width kind) fixed part width in
    let back = drop_fixed (fixed_width kind) fixed part width in
    let body = fixed ++ part in
    let stated : StatesRequest (code_of kind) (fixed_part kind body) (fields_part kind body) request =
    subst (λ k. StatesRequest (code_of k) (fixed_part k body) (fields_part k body) request) same
    message.states in
    subst (λ p. StatesRequest (code_of kind) fixed p request) back
    (subst (λ f. StatesRequest (code_of kind) f (fields_part kind body) request) front stated)

-- the kind of message that a request is
abbrev pub kind_of : Request → Kind
kind_of (Login request) = Kinds.Login
kind_of Status = Kinds.Status
kind_of (Checkout request) = Kinds.Desk Desks.Checkout
kind_of (Checkin request) = Kinds.Desk Desks.Checkin
kind_of (Hold request) = Kinds.Desk Desks.Hold
kind_of (Renew request) = Kinds.Desk Desks.Renew
kind_of (Item request) = Kinds.Desk Desks.Item
kind_of Resend = Kinds.Resend
kind_of Unsupported = Kinds.Resend

code_stated : (code fixed part : List ℕ) (request : Request) → StatesRequest code fixed part request
    → code ≡ code_of (kind_of request)
code_stated code fixed part (Login request) h = h.0
code_stated code fixed part Status h = h
code_stated code fixed part (Checkout request) h = h.0
code_stated code fixed part (Checkin request) h = h.0
code_stated code fixed part (Hold request) h = h.0
code_stated code fixed part (Renew request) h = h.0
code_stated code fixed part (Item request) h = h.0
code_stated code fixed part Resend h = h
code_stated code fixed part Unsupported h = absurd h

-- a message of a kind is read as a request of that kind
pub kind_stated : (kind : Kind) (fixed part : List ℕ) (request : Request)
    → StatesRequest (code_of kind) fixed part request → kind ≡ kind_of request
kind_stated kind fixed part request h =
    one_kind kind (kind_of request) (code_stated (code_of kind) fixed part request h)

-- a body isn't read as a request of another kind
pub apart : (kind : Kind) (fixed part : List ℕ) (request : Request) → length fixed ≡ fixed_width kind →
    take 2 (fixed ++ part) ≡ code_of kind →
    IsMessage (fixed ++ part) request → (kind ≡ kind_of request → ⊥) → ⊥
apart kind fixed part request width code message other =
    other (kind_stated kind fixed part request (states_of kind fixed part request width code message))

pub take_whole : (n : ℕ) (xs : List ℕ) → length xs ≡ n → take n xs ≡ xs
take_whole zero [] h = refl
take_whole zero (b ∷ xs) h = absurd (omega arith)
take_whole (suc n) [] h = absurd (omega arith)
take_whole (suc n) (b ∷ xs) h = ap (λ bs. b ∷ bs) (take_whole n xs (omega arith))

-- an answer that is there
pub some_is : (a b : List ℕ) → Some a ≡ Some b → a ≡ b
some_is a b h = cc

-- where a message cancels, and only there, BI is Y
pub cancel_is : (cancels : Bool) → is_yes (value_of (cancel cancels) (codes "BI")) ≡ cancels
cancel_is true = refl
cancel_is false = refl

-- an optional field can be written
pub optional_writable : (code : List ℕ) (value : Option (List ℕ)) (rest : List Written)
    → length code ≡ 2 → has_bar code ≡ false → IfSome value (λ x. has_bar x ≡ false)
    → IfSome value (λ x. IfSome (width_of code) (λ width. length x ≤ width)) → AreWritable rest
    → AreWritable (optional code value ++ rest)
optional_writable code None rest two begins plain narrow writable = writable
optional_writable code (Some value) rest two begins plain narrow writable =
    (record { two = two; begins = begins; plain = plain; narrow = narrow }, writable)

pub cancel_writable : (cancels : Bool) → AreWritable (cancel cancels)
cancel_writable true = (record { two = refl; begins = refl; plain = refl; narrow = omega arith }, tt)
cancel_writable false = tt

-- it is found by its identifier, and passed over by another
pub optional_found : (code : List ℕ) (value : Option (List ℕ)) (rest : List Written)
    → bytes_eq code code ≡ true → value_of rest code ≡ None
    → value_of (optional code value ++ rest) code ≡ value
optional_found code None rest same none = none
optional_found code (Some value) rest same none = rw same refl

pub optional_passed : (code other : List ℕ) (value : Option (List ℕ)) (rest : List Written)
    → bytes_eq code other ≡ false → value_of (optional code value ++ rest) other ≡ value_of rest other
optional_passed code other None rest apart = refl
optional_passed code other (Some value) rest apart = rw apart refl

-- no other field is BI
pub not_cancel : (cancels : Bool) (code : List ℕ) → bytes_eq (codes "BI") code ≡ false
    → value_of (cancel cancels) code ≡ None
not_cancel true code h = rw h refl
not_cancel false code h = refl

-- a value that is given counts
pub given_kept : (value : Option (List ℕ)) → IsGiven value → unless_empty value ≡ value
given_kept None h = refl
given_kept (Some []) h = absurd (omega (arith, h.1))
given_kept (Some (b ∷ bytes)) h = refl

-- and can be written, as wide as it is where its identifier has no width
pub given_plain : (value : Option (List ℕ)) → IsGiven value → IfSome value (λ x. has_bar x ≡ false)
given_plain None h = tt
given_plain (Some x) h = h.0

pub wide : (value : Option (List ℕ)) → IfSome value (λ x. Unit {0})
wide None = tt
wide (Some x) = tt
