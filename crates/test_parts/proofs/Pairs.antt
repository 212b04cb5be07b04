-- One seat, and one more, with a part each.
use Rattle.std.proofs.Common.{◌≡◌, List, ◌∷◌, ◌++◌, [], zero, suc, subst}
use Rattle.std.proofs.lemmas.Option.{none-some, same_Some}
use Rattle.hd_hall.specs.Seats.{EachSeat, SeatView}

pub with_part : (one : SeatView) → one.parts ≡ 1 → EachSeat (one ∷ []) (λ s. s.parts ≡ 1)
with_part one has zero s is = subst (λ (seat : SeatView). seat.parts ≡ 1) (same_Some one s is) has
with_part one has (suc k) s is = absurd (none-some s is)

pub with_more : (seats : List SeatView) (one : SeatView) → EachSeat seats (λ s. s.parts ≡ 1) → one.parts ≡ 1
    → EachSeat (seats ++ one ∷ []) (λ s. s.parts ≡ 1)
with_more [] one each has k s is = with_part one has k s is
with_more (first ∷ seats) one each has zero s is = each zero s is
with_more (first ∷ seats) one each has (suc k) s is =
    with_more seats one (λ n t at. each (suc n) t at) has k s is
