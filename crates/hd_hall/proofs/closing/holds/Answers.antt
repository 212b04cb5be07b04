use Rattle.std.proofs.Common.{◌≡◌, ◌<◌, length, arith, false, true, refl, sym, ◌∙◌}
use Rattle.std.proofs.lemmas.List.{get_or_default}
use Rattle.hd_journal.specs.Shown.{turn_shown}
use Rattle.hd_hall.specs.Receipts.{Receipted}
use Rattle.hd_hall.proofs.Walking.{first_more}
use Rattle.hd_hall.proofs.closing.holds.Goals as goal

pub returns-then-is_of : goal.returns-then-is_of
returns-then-is_of g c =
    let i = c.loop-receipt.receipt-index in
    let rs = c.args.receipts.now in
    let x = c.receipt-item.result in
    let within : i < length rs = omega arith in
    let found : Receipted = record { number = c.args.number; turn = turn_shown c.args.turn.now } in (
      (λ yes. (
        i,
        within,
        get_or_default rs i found x within
            ∙ (sym c.receipt-item.is ∙ c.is_of.ensures.0 c.if-is_of.true),
      )),
      (λ has. refl),
    )

pub loop-receipt-preserved : goal.loop-receipt-preserved
loop-receipt-preserved g c =
    let i = c.loop-receipt.receipt-index in
    let rs = c.args.receipts.now in
    let within : i < length rs = omega arith in
    let found : Receipted = record { number = c.args.number; turn = turn_shown c.args.turn.now } in
    first_more (λ (r : Receipted). r ≡ found → ⊥) i rs c.receipt-item.result within c.receipt-item.is
    (λ is. let yes = c.is_of.ensures.1 is in let no = c.if-is_of.false in cc) c.loop-receipt.invariant

pub returns : goal.returns
returns g c = (
  (λ no. absurd (let h : false ≡ true = no in cc)),
  (λ has. let within = has.1 in absurd (c.loop-receipt.invariant has.0 (omega arith) _ has.2)),
)
