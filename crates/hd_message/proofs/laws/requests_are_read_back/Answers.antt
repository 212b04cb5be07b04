use Rattle.hd_message.proofs.CheckinReadBack.{checkin_back}
use Rattle.hd_message.proofs.CheckoutReadBack.{checkout_back}
use Rattle.hd_message.proofs.HoldReadBack.{hold_back}
use Rattle.hd_message.proofs.ItemReadBack.{item_back}
use Rattle.hd_message.proofs.LoginReadBack.{login_back}
use Rattle.hd_message.proofs.RenewReadBack.{renew_back}
use Rattle.hd_message.proofs.laws.requests_are_read_back.Goals as goal

pub returns : goal.returns
returns c =
    record {
      checkout = checkout_back;
      checkin = checkin_back;
      hold = hold_back;
      renew = renew_back;
      item = item_back;
      login = login_back;
    }
