-- How many bytes of a message its reply repeats.
use Rattle.std.specs.Prelude.{ℕ, ◌+◌, length}
use Rattle.std.specs.Option.{option_copied}
use Rattle.hd_message.specs.Lengths.{bytes_of}
use Rattle.hd_message.specs.declared.request.Request.{Request}
use Rattle.hd_message.specs.declared.request.Request.TheVariants.{Checkout, Checkin, Hold, Renew, Item}
use Rattle.hd_message.specs.declared.unreadable.Unreadable.{Unreadable}
use Rattle.hd_message.specs.declared.unreadable.Unreadable.TheVariants.{Login, Desk}
use Rattle.hd_message.specs.declared.patron_request.PatronRequest.{PatronRequest}
use Rattle.hd_message.specs.declared.patron_request.PatronRequest.TheVariants as Patrons
use Rattle.hd_message.specs.declared.patron_request.UnreadablePatron.{UnreadablePatron}

-- of a request: the patron and the copy that it names, and the title of a hold message
abbrev pub repeated_bytes : Request → ℕ
repeated_bytes (Checkout r) = length r.patron.now + length r.copy.now
repeated_bytes (Checkin r) = length r.copy.now
repeated_bytes (Hold r) =
    length r.patron.now + bytes_of (option_copied r.copy) + bytes_of (option_copied r.title)
repeated_bytes (Renew r) = length r.patron.now + length r.copy.now
repeated_bytes (Item r) = length r.copy.now
repeated_bytes _ = 0

-- of a message that can't be read: the patron, the copy and the title that could be read of it; none of a
-- login
abbrev pub readable_bytes : Unreadable → ℕ
readable_bytes Login = 0
readable_bytes (Desk m) =
    bytes_of (option_copied m.patron) + bytes_of (option_copied m.copy) + bytes_of (option_copied m.title)

-- of a patron message: the patron that it names
abbrev pub patron_bytes : PatronRequest → ℕ
patron_bytes (Patrons.Status r) = length r.patron.now
patron_bytes (Patrons.Information r) = length r.patron.now
patron_bytes (Patrons.EndSession r) = length r.patron.now
patron_bytes (Patrons.Block r) = length r.patron.now
patron_bytes (Patrons.FeePaid r) = length r.patron.now
patron_bytes (Patrons.RenewAll r) = length r.patron.now

-- of one that can't be read
abbrev pub unreadable_patron_bytes : UnreadablePatron → ℕ
unreadable_patron_bytes message = bytes_of (option_copied message.patron)
