use Rattle.hd_carry.proofs.telling.Teller.missing_copy.Goals as goal

pub returns-in-Shelf : goal.returns-in-Shelf
returns-in-Shelf g c = rw c.in-Shelf.is c.text_of.ensures

pub returns-in-OnLoan : goal.returns-in-OnLoan
returns-in-OnLoan g c = rw c.in-OnLoan.is c.text_of-in-OnLoan.ensures

pub returns-in-OnHoldShelf : goal.returns-in-OnHoldShelf
returns-in-OnHoldShelf g c = rw c.in-OnHoldShelf.is c.text_of-in-OnHoldShelf.ensures
