use Rattle.std.proofs.Common.{◌≡◌, take, length}
use Rattle.hd_exchange.specs.PatronInformation.{AreNamesOf}
use Rattle.hd_exchange.proofs.patron_information.names_of.Given as goal

-- the names of the items so far
abbrev pub invariant-loop-item : goal.invariant-loop-item
invariant-loop-item g l = record {
  named : AreNamesOf l.catalogue (take l.item-index l.items) l.names.items;
  many : length l.names.items ≡ l.item-index;
}
