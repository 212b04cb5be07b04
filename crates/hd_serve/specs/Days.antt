-- Terminals whose clock is off: messages whose day lies too far from the server's.
use Rattle.std.specs.Prelude.{◌≡◌, ◌≢◌, ◌⊎◌, ◌<◌, ◌≤◌, ℕ, ◌+◌, ◌-◌, ℤ, List}
use Rattle.std.specs.Prelude.{Option, None, Some, Result, Ok, Err}
use Rattle.std.specs.Option.{option_copied}
use Rattle.hd_date.specs.Stamps.{IsStamp, Stamp}
use Rattle.hd_message.specs.declared.patron_reading.Reading.{Reading}
use Rattle.hd_message.specs.declared.patron_reading.Reading.TheVariants.{Standard, Patron}
use Rattle.hd_message.specs.declared.request.Request.{Request}
use Rattle.hd_message.specs.declared.request.Request.TheVariants as Ask
use Rattle.hd_message.specs.declared.patron_request.PatronRequest.{PatronRequest}
use Rattle.hd_message.specs.declared.patron_request.PatronRequest.TheVariants as Card
use Rattle.hd_message.specs.declared.patron_request.UnreadablePatron.{UnreadablePatron}
use Rattle.hd_message.specs.declared.unreadable.Unreadable.{Unreadable}
use Rattle.hd_message.specs.declared.unreadable.Unreadable.TheVariants as Unread
use Rattle.hd_message.specs.PatronReading.{IsReading}
use Rattle.hd_serve.specs.declared.day_watch.DayWatch.{DayWatch}
use Rattle.hd_serve.specs.declared.day_watch.OffDay.{OffDay}

-- the transaction date of a request: a login, a status message, a request for the last reply, and what isn't
-- read have none
abbrev pub request_date : Request → Option (List ℕ)
request_date (Ask.Checkout request) = Some request.date.now
request_date (Ask.Checkin request) = Some request.date.now
request_date (Ask.Hold request) = Some request.date.now
request_date (Ask.Renew request) = Some request.date.now
request_date (Ask.Item request) = Some request.date.now
request_date request = None

-- that of a patron message
abbrev pub patron_date : PatronRequest → List ℕ
patron_date (Card.Status request) = request.date.now
patron_date (Card.Information request) = request.date.now
patron_date (Card.EndSession request) = request.date.now
patron_date (Card.Block request) = request.date.now
patron_date (Card.FeePaid request) = request.date.now
patron_date (Card.RenewAll request) = request.date.now

-- that of a message that can't be read, where it is long enough for it
abbrev pub unreadable_date : Unreadable → Option (List ℕ)
unreadable_date Unread.Login = None
unreadable_date (Unread.Desk message) = option_copied message.date

abbrev pub standard_date : Result Request Unreadable → Option (List ℕ)
standard_date (Ok request) = request_date request
standard_date (Err message) = unreadable_date message

abbrev pub card_date : Result PatronRequest UnreadablePatron → Option (List ℕ)
card_date (Ok request) = Some (patron_date request)
card_date (Err message) = option_copied message.date

-- the transaction date of a message, as it is read
abbrev pub date_read : Reading → Option (List ℕ)
date_read (Standard answer) = standard_date answer
date_read (Patron answer) = card_date answer

-- how many days lie between two
abbrev pub days_apart : ℕ → ℕ → ℕ
days_apart one other = (one - other) + (other - one)

-- The date is of a day that lies so many days from today, and that is more than may be.
abbrev pub IsOff : ℕ → ℤ → ℕ → List ℕ → ℕ → Type 0
IsOff most offset today date days =
    (stamp : Stamp) × IsStamp date offset stamp × (days ≡ days_apart today stamp.day) × (most < days)

-- No day that the date is of lies further from today than may be.
abbrev pub IsNear : ℕ → ℤ → ℕ → List ℕ → Type 0
IsNear most offset today date =
    (stamp : Stamp) → IsStamp date offset stamp → days_apart today stamp.day ≤ most

-- What is told of a message on a day of which nothing was told: its date, which is off on that day.
pub record IsOffMessage (watch : DayWatch) (body : List ℕ) (today : ℕ) (off : OffDay) : Type 0 where
  pub most : ℕ
  pub looked : watch.most ≡ Some most
  pub reading : Reading
  pub read : IsReading watch.profile body reading
  pub dated : date_read reading ≡ Some off.date.now
  pub is_off : IsOff most watch.offset today off.date.now off.days
  pub news : watch.told ≢ Some today

-- Why nothing is told of a message today: no day is looked at, or it has no date, or its day isn't off, or
-- one was told already today.
abbrev pub IsSilent : DayWatch → List ℕ → ℕ → Type 0
IsSilent watch body today =
    (watch.most ≡ None)
    ⊎ ((reading : Reading) × IsReading watch.profile body reading × (date_read reading ≡ None))
    ⊎ ((most : ℕ) × (reading : Reading) × (date : List ℕ) × (watch.most ≡ Some most)
    × IsReading watch.profile body reading × (date_read reading ≡ Some date)
    × IsNear most watch.offset today date)
    ⊎ (watch.told ≡ Some today)

-- What is told of a message today: that its day is off, and then it was told today; or nothing, and then all
-- stays as it was.
abbrev pub Sees : DayWatch → DayWatch → List ℕ → ℕ → Option OffDay → Type 0
Sees watch watch' body today (Some off) =
    IsOffMessage watch body today off × (watch' ≡ record watch { told = Some today })
Sees watch watch' body today None = IsSilent watch body today × (watch' ≡ watch)
