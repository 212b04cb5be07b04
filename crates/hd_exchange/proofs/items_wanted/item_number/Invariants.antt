use Rattle.std.proofs.Common.{◌≡◌, true, take, min}
use Rattle.std.specs.List.{list_all}
use Rattle.hd_catalogue.specs.Text.{number_written, is_digit}
use Rattle.hd_exchange.proofs.items_wanted.item_number.Given as goal

-- the number that the digits so far write
abbrev pub invariant-loop-digit : goal.invariant-loop-digit
invariant-loop-digit l = record {
  read : l.number ≡ min (number_written (take l.digit-index l.text)) 4294967295;
  digits : list_all is_digit (take l.digit-index l.text) ≡ true;
}
