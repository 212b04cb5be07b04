-- What each patron message holds: columns of its fixed part, and of its fields the first with an identifier.
use Rattle.std.specs.Prelude.{◌≡◌, ◌==◌, ℕ, List, Option, None, Some, codes, if◌then◌else◌, position}
use Rattle.std.specs.Option.{option_copied}
use Rattle.hd_message.specs.PatronTable.{patron_column, patron_date}
use Rattle.hd_message.specs.Values.{filled_value, first_value}
use Rattle.hd_message.specs.declared.patron_kind.PatronKind.{PatronKind}
use Rattle.hd_message.specs.declared.patron_kind.PatronKind.TheVariants as Kinds
use Rattle.hd_message.specs.declared.patron_request.CardRequest.{CardRequest}
use Rattle.hd_message.specs.declared.patron_request.PatronInformationRequest.{PatronInformationRequest}
use Rattle.hd_message.specs.declared.patron_request.PatronStatusRequest.{PatronStatusRequest}
use Rattle.hd_rules.specs.declared.views.Summary.{Summary}
use Rattle.hd_rules.specs.declared.views.Summary.TheVariants.{HoldItems, OverdueItems}
use Rattle.hd_rules.specs.declared.views.Summary.TheVariants.{ChargedItems, UnavailableHolds, Empty}

-- 23: language, transaction date; AA; AD.
pub record IsPatronStatus (fixed part : List ℕ) (request : PatronStatusRequest) : Type 0 where
  pub language : request.language.now ≡ patron_column Kinds.Status 0 fixed
  pub date : request.date.now ≡ patron_column Kinds.Status 1 fixed
  pub patron : first_value part (codes "AA") ≡ Some request.patron.now
  pub password : option_copied request.password ≡ filled_value part (codes "AD")

-- the list that a position of the summary wants; none where the position has none, or there is none
abbrev pub list_at : Option ℕ → Option Summary
list_at None = None
list_at (Some place) =
    if place == 0 then Some HoldItems
    else if place == 1 then Some OverdueItems
    else if place == 2 then Some ChargedItems
    else if place == 3 then Some Empty
    else if place == 4 then Some Empty
    else if place == 5 then Some UnavailableHolds
    else None

-- the list that a summary wants: the one of its first Y (89)
abbrev pub summary_of : List ℕ → Option Summary
summary_of text = list_at (position (λ byte. byte == 89) text)

-- 63: language, transaction date, summary; AA; AD, BP, BQ.
pub record IsPatronInformation (fixed part : List ℕ) (request : PatronInformationRequest) : Type 0 where
  pub language : request.language.now ≡ patron_column Kinds.Information 0 fixed
  pub date : request.date.now ≡ patron_column Kinds.Information 1 fixed
  pub summary : request.summary ≡ summary_of (patron_column Kinds.Information 2 fixed)
  pub patron : first_value part (codes "AA") ≡ Some request.patron.now
  pub password : option_copied request.password ≡ filled_value part (codes "AD")
  pub first : option_copied request.first ≡ filled_value part (codes "BP")
  pub last : option_copied request.last ≡ filled_value part (codes "BQ")

-- 35, 01, 37, 65: transaction date; AA.
pub record IsCard (kind : PatronKind) (fixed part : List ℕ) (request : CardRequest) : Type 0 where
  pub date : request.date.now ≡ patron_date kind fixed
  pub patron : first_value part (codes "AA") ≡ Some request.patron.now
