use Rattle.std.proofs.Common.{◌≡◌, ◌+◌, ◌<◌, List, drop, length, arith, false, true, ◌∙◌, subst, sym}
use Rattle.std.specs.List.{All}
use Rattle.hd_hall.specs.Closings.{AreThere}
use Rattle.hd_hall.specs.Receipts.{Receipted, StandsAt}
use Rattle.hd_hall.proofs.Once.{there_here, there_more}
use Rattle.hd_hall.proofs.closing.are_there.Goals.{then-number-last-via-then-number-last}
use Rattle.hd_hall.proofs.closing.are_there.Goals.{then-number-last-via-else-number-last+then-not-all_stand}
use Rattle.hd_hall.proofs.closing.are_there.Goals as goal

pub loop-seat-preserved : goal.loop-seat-preserved
loop-seat-preserved g c =
    let turns = (g.T.Turns.turns c.args.journal.now) in
    let i = c.loop-seat.seat-index in
    let seat = c.seat-item.result in
    let number : c.number-number.result ≡ seat.number = c.number-number.ensures ∙ c.number.ensures in
    let stand : All (StandsAt turns) seat.receipts =
    subst (λ (rs : List Receipted). All (StandsAt turns) rs) c.receipts.ensures.receipts
    (c.all_stand.ensures.0 c.if-not-all_stand.false) in
    let within : i < length c.args.seats.now = omega arith in (
      (λ rest. c.loop-seat.invariant.0
          (there_more turns c.loop-seat.last c.args.seats.now i seat within c.seat-item.is
          (omega (arith, number)) stand
          (subst (λ n. AreThere turns n (drop (i + 1) c.args.seats.now)) number rest))),
      (λ all.
          let here = there_here turns c.loop-seat.last c.args.seats.now i seat within c.seat-item.is
          (c.loop-seat.invariant.1 all) in
          subst (λ n. AreThere turns n (drop (i + 1) c.args.seats.now)) (sym number) here.2),
    )

pub returns-then-number-last : goal.returns-then-number-last
returns-then-number-last g c =
    let turns = (g.T.Turns.turns c.args.journal.now) in
    let i = c.loop-seat.seat-index in
    let seat = c.seat-item.result in
    let within : i < length c.args.seats.now = omega arith in
    let number : c.number-number.result ≡ seat.number = c.number-number.ensures ∙ c.number.ensures in (
      (λ yes. absurd (let h : false ≡ true = yes in cc)),
      (λ all.
          let here = there_here turns c.loop-seat.last c.args.seats.now i seat within c.seat-item.is
          (c.loop-seat.invariant.1 all) in
          let above = here.0 in
          absurd (elim c.then-number-last.branch [
            | then-number-last-via-then-number-last w ↦ omega (arith, number, w.if-number-last.true)
            | then-number-last-via-else-number-last+then-not-all_stand w ↦
                let yes = w.all_stand.ensures.1
                (subst (λ (rs : List Receipted). All (StandsAt turns) rs)
                (sym w.receipts.ensures.receipts) here.1) in
                let no = w.if-not-all_stand.true in
                cc
          ])),
    )
