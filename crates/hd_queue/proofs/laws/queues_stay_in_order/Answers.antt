use Rattle.hd_queue.proofs.HoldsLemmas.{HasPatronsOnce-filter, HasPatronsOnce-with_hold, IsInOrder-filter}
use Rattle.hd_queue.proofs.HoldsLemmas.{IsInOrder-with_hold}
use Rattle.hd_queue.proofs.HoldsLemmas.{hold_of-with_hold}
use Rattle.hd_queue.proofs.laws.queues_stay_in_order.Goals as goal

pub returns : goal.returns
returns c = record {
  put_has = hold_of-with_hold;
  put_ordered = IsInOrder-with_hold;
  put_once = HasPatronsOnce-with_hold;
  left_ordered = λ holds patron. IsInOrder-filter _ holds;
  left_once = λ holds patron. HasPatronsOnce-filter _ holds;
}
