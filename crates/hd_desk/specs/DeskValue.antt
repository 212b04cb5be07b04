-- What a desk is to its users.
use Rattle.hd_copies.specs.CopiesValue.{CopiesValue}
use Rattle.hd_holds.specs.HoldsValue.{HoldsValue}

-- where the copies are, and the holds
pub record DeskValue : Type 0 where
  pub copies : CopiesValue
  pub holds : HoldsValue
