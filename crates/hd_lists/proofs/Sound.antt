-- Each row of the table is sound.
use Rattle.std.proofs.Common.{◌≡◌, ◌&&◌, refl, true, false, Bool, ℕ, List, Option, Some}
use Rattle.std.specs.List.{list_all}
use Rattle.std.specs.Prelude.{nat_lt}
use Rattle.httparse.specs.Grammar.{is_uri_byte}
use Rattle.hd_lists.specs.declared.list.Listing.{Listing}
use Rattle.hd_lists.specs.declared.list.Listing.TheVariants.{Copies, Copy, Queue, Patron, Shelf, Transits}
use Rattle.hd_lists.specs.declared.list.Listing.TheVariants.{Transit, Overdue, Expired, Turns, Command}
use Rattle.hd_lists.specs.Hearing.{bare_list, named_list}
use Rattle.hd_lists.specs.Lists.{folder_of, is_in_path, key_of, list_called, part_of, word_of}
use Rattle.hd_lists.proofs.Marks.{IsFrom, lacks}

-- a visible byte of ASCII
abbrev pub is_plain : ℕ → Bool
is_plain b = is_uri_byte b && nat_lt b 128

abbrev pub are_plain : List ℕ → Bool
are_plain bytes = list_all is_plain bytes

-- what is found where a list is, with its key in the path or without
abbrev pub list_at : Bool → Listing → Option Listing
list_at true list = named_list (folder_of list) (part_of list)
list_at false list = bare_list (folder_of list)

-- A row of the table is sound: its list is found where it is and by its word, and its path is visible ASCII
-- without a mark.
abbrev pub IsSound : Listing → Type 0
IsSound list =
    (list_at (is_in_path (key_of list)) list ≡ Some list) × (lacks 47 (folder_of list) ≡ true)
    × (lacks 63 (folder_of list) ≡ true) × IsFrom 47 (part_of list) × (lacks 63 (part_of list) ≡ true)
    × (are_plain (folder_of list) ≡ true) × (are_plain (part_of list) ≡ true)
    × (list_called (word_of list) ≡ Some list)

pub sound : (list : Listing) → IsSound list
unfolding named_list bare_list list_called
sound Copies = (refl, refl, refl, tt, refl, refl, refl, refl)
sound Copy = (refl, refl, refl, tt, refl, refl, refl, refl)
sound Queue = (refl, refl, refl, refl, refl, refl, refl, refl)
sound Patron = (refl, refl, refl, tt, refl, refl, refl, refl)
sound Shelf = (refl, refl, refl, refl, refl, refl, refl, refl)
sound Transits = (refl, refl, refl, tt, refl, refl, refl, refl)
sound Transit = (refl, refl, refl, refl, refl, refl, refl, refl)
sound Overdue = (refl, refl, refl, tt, refl, refl, refl, refl)
sound Expired = (refl, refl, refl, tt, refl, refl, refl, refl)
sound Turns = (refl, refl, refl, tt, refl, refl, refl, refl)
sound Command = (refl, refl, refl, tt, refl, refl, refl, refl)
