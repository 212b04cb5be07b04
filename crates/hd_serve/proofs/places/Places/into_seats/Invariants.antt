use Rattle.std.proofs.Common.{◌≡◌, ◌+◌, ◌≤◌, ◌++◌, length, map, vec_capacity, vec_len}
use Rattle.std.specs.Vec.Iter.{into_iter_items}
use Rattle.hd_hall.specs.Seats.{EachSeat}
use Rattle.hd_serve.specs.Places.{all_in}
use Rattle.hd_serve.proofs.places.Places.into_seats.Given as goal

abbrev pub invariant-loop-place : goal.invariant-loop-place
invariant-loop-place g l = record {
  parts : EachSeat l.seats.items (λ s. s.parts ≡ 1);
  seats : l.seats.items ++ map (λ held. held.seat) (all_in (into_iter_items l.place-iterator))
      ≡ map (λ held. held.seat) (all_in l.fn.self.places.items);
  room : vec_len l.seats + length (into_iter_items l.place-iterator) ≤ vec_capacity l.seats;
}
