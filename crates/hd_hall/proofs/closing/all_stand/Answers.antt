use Rattle.std.proofs.Common.{◌≡◌, ◌<◌, length, arith, false, true, refl, sym, subst}
use Rattle.hd_hall.specs.Receipts.{StandsAt}
use Rattle.hd_hall.proofs.Walking.{first_more}
use Rattle.hd_hall.proofs.closing.all_stand.Goals as goal

pub returns-then-not-stands : goal.returns-then-not-stands
returns-then-not-stands g c =
    let i = c.loop-receipt.receipt-index in
    let x = c.receipt-item.result in
    let within : i < length c.args.receipts.now = omega arith in (
      (λ yes. absurd (let h : false ≡ true = yes in cc)),
      (λ all.
          let here = subst (StandsAt (g.T.Turns.turns c.args.journal.now)) (sym c.receipt-item.is)
          (all i x within) in
          let yes = c.stands.ensures.1 here in
          let no = c.if-not-stands.true in
          absurd cc),
    )

pub loop-receipt-preserved : goal.loop-receipt-preserved
loop-receipt-preserved g c =
    let within : c.loop-receipt.receipt-index < length c.args.receipts.now = omega arith in
    first_more (StandsAt (g.T.Turns.turns c.args.journal.now)) c.loop-receipt.receipt-index
    c.args.receipts.now
    c.receipt-item.result within c.receipt-item.is
    (c.stands.ensures.0 c.if-not-stands.false) c.loop-receipt.invariant

pub returns : goal.returns
returns g c = ((λ yes k d within. c.loop-receipt.invariant k (omega arith) d), (λ all. refl))
