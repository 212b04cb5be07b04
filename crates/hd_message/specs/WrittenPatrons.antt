-- What terminals write for a patron message, by the values of its fixed part and its fields.
use Rattle.std.specs.Prelude.{◌≡◌, ℕ, Bool, false, List, [], ◌∷◌, Some, codes, is_none, length}
use Rattle.std.specs.List.{concat}
use Rattle.std.specs.Option.{option_copied}
use Rattle.hd_message.specs.Fields.{yes_no}
use Rattle.hd_message.specs.Grammar.{AreWritable, IsDateText, Written, body_of, value_of}
use Rattle.hd_message.specs.PatronReading.{IsPatronMessage}
use Rattle.hd_message.specs.PatronRequests.{summary_of}
use Rattle.hd_message.specs.Values.{unless_empty}
use Rattle.hd_message.specs.declared.patron_kind.PatronKind.{PatronKind}
use Rattle.hd_message.specs.declared.patron_kind.PatronKind.TheVariants as Kinds
use Rattle.hd_message.specs.declared.patron_request.CardRequest.{CardRequest}
use Rattle.hd_message.specs.declared.patron_request.PatronInformationRequest.{PatronInformationRequest}
use Rattle.hd_message.specs.declared.patron_request.PatronRequest.{PatronRequest}
use Rattle.hd_message.specs.declared.patron_request.PatronRequest.TheVariants.{Status, Information}
use Rattle.hd_message.specs.declared.patron_request.PatronRequest.TheVariants.{EndSession, Block, FeePaid}
use Rattle.hd_message.specs.declared.patron_request.PatronRequest.TheVariants.{RenewAll}
use Rattle.hd_message.specs.declared.patron_request.PatronStatusRequest.{PatronStatusRequest}

-- The values of a patron message: those of its fixed part, of which each kind has some, and its fields.
pub record PatronValues : Type 0 where
  pub language : List ℕ
  pub date : List ℕ
  pub summary : List ℕ
  pub retained : Bool
  pub fee : List ℕ
  pub fields : List Written

-- its code and fixed part; the fee is the types of fee and payment, and the currency
abbrev pub patron_fixed_text : PatronKind → PatronValues → List ℕ
patron_fixed_text Kinds.Status v = concat (codes "23" ∷ v.language ∷ v.date ∷ [])
patron_fixed_text Kinds.Information v = concat (codes "63" ∷ v.language ∷ v.date ∷ v.summary ∷ [])
patron_fixed_text Kinds.EndSession v = concat (codes "35" ∷ v.date ∷ [])
patron_fixed_text Kinds.Block v = concat (codes "01" ∷ yes_no v.retained ∷ v.date ∷ [])
patron_fixed_text Kinds.FeePaid v = concat (codes "37" ∷ v.date ∷ v.fee ∷ [])
patron_fixed_text Kinds.RenewAll v = concat (codes "65" ∷ v.date ∷ [])

-- Its values are as wide as their columns, its fields can be written, and one of them is AA.
pub record IsPatronWritable (v : PatronValues) : Type 0 where
  pub language : length v.language ≡ 3
  pub date : IsDateText v.date
  pub summary : length v.summary ≡ 10
  pub fee : length v.fee ≡ 7
  pub fields : AreWritable v.fields
  pub patron : is_none (value_of v.fields (codes "AA")) ≡ false

-- The question whether a patron may borrow that it is read as.
pub record HasStatusValues (v : PatronValues) (request : PatronStatusRequest) : Type 0 where
  pub language : request.language.now ≡ v.language
  pub date : request.date.now ≡ v.date
  pub patron : value_of v.fields (codes "AA") ≡ Some request.patron.now
  pub password : option_copied request.password ≡ unless_empty (value_of v.fields (codes "AD"))

-- The question what a patron has that it is read as.
pub record HasInformationValues (v : PatronValues) (request : PatronInformationRequest) : Type 0 where
  pub language : request.language.now ≡ v.language
  pub date : request.date.now ≡ v.date
  pub summary : request.summary ≡ summary_of v.summary
  pub patron : value_of v.fields (codes "AA") ≡ Some request.patron.now
  pub password : option_copied request.password ≡ unless_empty (value_of v.fields (codes "AD"))
  pub first : option_copied request.first ≡ unless_empty (value_of v.fields (codes "BP"))
  pub last : option_copied request.last ≡ unless_empty (value_of v.fields (codes "BQ"))

-- The message that names a card that it is read as.
pub record HasCardValues (v : PatronValues) (request : CardRequest) : Type 0 where
  pub date : request.date.now ≡ v.date
  pub patron : value_of v.fields (codes "AA") ≡ Some request.patron.now

-- a request is of this kind and has these values
abbrev pub HasPatronValues : PatronKind → PatronValues → PatronRequest → Type 0
HasPatronValues kind v (Status r) = (kind ≡ Kinds.Status) × HasStatusValues v r
HasPatronValues kind v (Information r) = (kind ≡ Kinds.Information) × HasInformationValues v r
HasPatronValues kind v (EndSession r) = (kind ≡ Kinds.EndSession) × HasCardValues v r
HasPatronValues kind v (Block r) = (kind ≡ Kinds.Block) × HasCardValues v r
HasPatronValues kind v (FeePaid r) = (kind ≡ Kinds.FeePaid) × HasCardValues v r
HasPatronValues kind v (RenewAll r) = (kind ≡ Kinds.RenewAll) × HasCardValues v r

-- the body is read as a patron message exactly where that has these values
abbrev pub IsPatronReadBack : PatronKind → PatronValues → Type 0
IsPatronReadBack kind v =
    let body = body_of (patron_fixed_text kind v) v.fields in
    (request : PatronRequest) →
    ((IsPatronMessage body request → HasPatronValues kind v request)
    × (HasPatronValues kind v request → IsPatronMessage body request))
