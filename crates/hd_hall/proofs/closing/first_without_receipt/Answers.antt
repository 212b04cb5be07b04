use Rattle.std.proofs.Common.{◌≡◌, ℕ, ◌+◌, Some, slice_get, arith}
use Rattle.std.proofs.lemmas.Option.{slice_get_within}
use Rattle.std.specs.List.{Contains}
use borrow.Author.Count.{below_more}
use Rattle.hd_rules.specs.Journal.{Turn}
use Rattle.hd_hall.specs.Seats.{all_receipts}
use Rattle.hd_hall.proofs.Walking.{place_of, number_of}
use Rattle.hd_hall.proofs.closing.first_without_receipt.Goals as goal

pub returns-then-not-is_received-clause-some : goal.returns-then-not-is_received-clause-some
returns-then-not-is_received-clause-some g c =
    let lacks = c.is_received.ensures.no c.if-not-is_received.true in (
      lacks.0,
      omega arith,
      place_of (g.T.Turns.turns c.args.journal.now) (c.loop-at.at + 1) lacks.0
          (omega arith) lacks.1,
      lacks.2,
    )

pub loop-at-preserved : goal.loop-at-preserved
loop-at-preserved g c =
    let turns = (g.T.Turns.turns c.args.journal.now) in
    let at = c.loop-at.at in
    below_more (λ (k : ℕ). (t : Turn) → slice_get turns k ≡ Some t → Contains (all_receipts c.args.seats.now)
    (record { number = k + 1; turn = t })) at c.loop-at.invariant
    (λ t is. c.is_received.ensures.yes c.if-not-is_received.false t (number_of turns at t is))

pub returns-clause-none : goal.returns-clause-none
returns-clause-none g c k t is =
    let within = slice_get_within (g.T.Turns.turns c.args.journal.now) k t is in
    c.loop-at.invariant k (omega (arith, c.requires)) t is
