-- What is counted of a journal.
use Rattle.std.specs.Prelude.{◌≡◌, ◌-◌, length}
use Rattle.hd_rules.specs.Facts.{last_number}
use Rattle.hd_journal.specs.Books.{Book, facts, state}
use Rattle.hd_list_rows.specs.declared.counts.Counts.{Counts}

-- its turns, the last number that was given, and how many are left to be given
abbrev pub counts_of : Book → Counts
counts_of book = record {
  turns = length book.turns;
  last_number = (state book).last;
  numbers_left = last_number (facts book) - (state book).last;
}
