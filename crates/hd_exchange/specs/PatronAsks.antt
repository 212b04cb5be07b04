-- What a patron message asks, or the first refusal: the checks are made in this order.
use Rattle.std.specs.Prelude.{ℕ, ◌==◌, ◌&&◌, List, Option, None, Some, Result, Ok, length, min, nat_lt}
use Rattle.std.specs.Prelude.{if◌then◌else◌, option_and_then, option_map}
use Rattle.std.specs.List.{list_all}
use Rattle.std.specs.Option.{option_copied, unwrap_or}
use Rattle.hd_message.specs.declared.patron_request.PatronInformationRequest.{PatronInformationRequest}
use Rattle.hd_rules.specs.declared.replies.Refusal.{Refusal}
use Rattle.hd_rules.specs.declared.replies.Refusal.TheVariants.{BadDate, UnknownPatron}
use Rattle.hd_rules.specs.declared.views.Summary.{Summary}
use Rattle.hd_rules.specs.declared.views.Wanted.{Wanted}
use Rattle.hd_catalogue.specs.Contents.{Contents, patron_number}
use Rattle.hd_catalogue.specs.Text.{is_digit, number_written}
use Rattle.hd_exchange.specs.Asks.{need}
use Rattle.hd_exchange.specs.declared.dates.Dates.{Dates}
use Rattle.hd_exchange.specs.declared.patron_message.PatronAsk.{PatronAsk}
use Rattle.hd_exchange.specs.declared.patron_message.PatronAsk.TheVariants as ask
use Rattle.hd_exchange.specs.declared.patron_message.PatronQuestion.{PatronQuestion}

-- the number that a text writes in decimal digits, if it writes one; at most 4,294,967,295, since no list has
-- as many items
abbrev pub item_number : List ℕ → Option ℕ
item_number text =
    if nat_lt 0 (length text) && list_all is_digit text
    then Some (min (number_written text) 4294967295)
    else None

-- a number other than 0
abbrev pub unless_zero : ℕ → Option ℕ
unless_zero number = if number == 0 then None else Some number

-- the item that BP or BQ wants, counted from 1: none where it is missing, writes no number, or writes 0
abbrev pub item_wanted : Option (List ℕ) → Option ℕ
item_wanted text = option_and_then unless_zero (option_and_then item_number text)

-- a part of a list, from the item that BP wants to the one that BQ wants, else from the first to the last
abbrev pub part_wanted : Option (List ℕ) → Option (List ℕ) → Summary → Wanted
part_wanted first last summary =
    record { summary = summary; first = unwrap_or (item_wanted first) 1; last = item_wanted last }

-- the part of a list that a 63 wants, where its summary wants a list
abbrev pub list_wanted : PatronInformationRequest → Option Wanted
list_wanted r = option_map (part_wanted (option_copied r.first) (option_copied r.last)) r.summary

-- a message that asks something about the patron of this name
abbrev pub look_asks : Contents → List ℕ → PatronQuestion → Dates → Result PatronAsk Refusal
look_asks k name question dates =
    need dates.transaction BadDate (λ stamp.
    need (patron_number k name) UnknownPatron (λ patron.
    Ok (ask.Look (record { patron = patron; day = stamp.day; question = question }))))

-- the end of a patron's session (35), whoever that is
abbrev pub end_asks : Dates → Result PatronAsk Refusal
end_asks dates = need dates.transaction BadDate (λ stamp. Ok ask.EndSession)

-- a payment (37)
abbrev pub payment_asks : Contents → List ℕ → Dates → Result PatronAsk Refusal
payment_asks k name dates =
    need dates.transaction BadDate (λ stamp.
    need (patron_number k name) UnknownPatron (λ patron.
    Ok ask.TakePayment))
