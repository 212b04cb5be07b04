use Rattle.std.proofs.Common.{◌≡◌, ◌+◌, length, arith, sym, ◌∙◌, ap, subst, List, map}
use Rattle.std.specs.List.{Contains}
use Rattle.hd_hall.specs.Closings.{AreThere}
use Rattle.hd_hall.specs.Seats.{SeatView, with_part, shares, all_receipts}
use Rattle.hd_hall.proofs.Lending.{whole_counts, lent_receipts, lent_parts, held_again}
use Rattle.hd_hall.proofs.Covering.{covers_permutes, receipt_of}
use Rattle.hd_hall.proofs.Once.{lent_there, there_permutes}
use Rattle.hd_hall.proofs.closing.differing.Given.{Over}
use Rattle.hd_hall.proofs.closing.differing.Goals.{After-audit}
use Rattle.hd_hall.proofs.closing.differing.Goals as goal

-- the turns are as many as the seats' shares say
counted : (g : Over) (c : After-audit g)
    → length (g.T.Turns.turns c.args.journal.now) ≡ shares c.args.seats.now
counted g c =
    let total = c.audit.ensures.whole (omega (arith, c.gather.ensures.parts, c.requires.all.2)) in
    omega (arith, total, c.gather.ensures.amount, c.requires.all.0, c.requires.counted)

pub returns-then-are_there-clause-none : goal.returns-then-are_there-clause-none
returns-then-are_there-clause-none g c =
    let counts = counted g (goal.at.returns-then-are_there-clause-none g c).After-audit in
    let there = c.are_there.ensures.0 c.if-are_there.true in
    let here : AreThere (g.T.Turns.turns c.args.journal.now) 0 c.args.seats.now =
    lent_there (g.T.Turns.turns c.args.journal.now) 0 c.args.seats.now
    (subst (λ (ss : List SeatView). AreThere (g.T.Turns.turns c.args.journal.now) 0 ss) c.gather.ensures.lent
    there) in
    record {
      legal = c.front-front.ensures.legal;
      once = there_permutes (g.T.Turns.turns c.args.journal.now) c.args.seats.now here c.gather.ensures.whole
          counts;
      counted = counts;
    }

pub returns-in-None-clause-none : goal.returns-in-None-clause-none
returns-in-None-clause-none g c =
    let counts = counted g (goal.at.returns-in-None-clause-none g c).After-audit in
    let has = rw (c.gather.ensures.lent, lent_receipts) at c.in-None.ensures.none in
    record {
      legal = c.front-front.ensures.legal;
      once = covers_permutes 0 (g.T.Turns.turns c.args.journal.now) (all_receipts c.args.seats.now)
          (whole_counts c.args.seats.now c.gather.ensures.whole ∙ sym counts)
          (λ k m t is eq.
          let e : k + 1 ≡ m = omega arith in
          subst (λ n. Contains (all_receipts c.args.seats.now) (receipt_of n t)) e (has k t is));
      counted = counts;
    }

pub give_back-requires-clause-lent : goal.give_back-requires-clause-lent
give_back-requires-clause-lent g c = rw c.gather.ensures.lent (lent_parts c.args.seats.now)

pub give_back-requires-clause-amount : goal.give_back-requires-clause-amount
give_back-requires-clause-amount g c =
    let counts = whole_counts c.args.seats.now c.gather.ensures.whole in
    rw (c.gather.ensures.lent, lent_receipts)
    (omega (arith, counts, c.gather.ensures.amount, c.audit.ensures.same.1))

pub returns-in-Some-clause-some : goal.returns-in-Some-clause-some
returns-in-Some-clause-some g c =
    record {
      legal = c.front-front.ensures.legal;
      counted = counted g (goal.at.returns-in-Some-clause-some g c).After-audit;
      lacks = rw (c.gather.ensures.lent, lent_receipts) at c.in-Some.ensures.some;
    }

pub returns-in-Some-clause-same : goal.returns-in-Some-clause-same
returns-in-Some-clause-same g c =
    c.give_back.ensures
    ∙ (ap (λ (s : List SeatView). map with_part s) c.gather.ensures.lent
    ∙ held_again c.args.seats.now c.gather.ensures.whole c.requires.seats)
