use Rattle.std.proofs.Common.{arith, ◌≡◌, ◌+◌, ◌-◌, ◌∙◌, ap, sym, subst, take, drop, length, ℕ, suc, List}
use Rattle.std.proofs.Common.{◌∷◌, Some, option_map}
use Rattle.std.proofs.lemmas.List.{map-append}
use Rattle.hd_meter.specs.Meter.{Counts, with_one_more}
use Rattle.hd_meter.specs.declared.count.Count.TheVariants.{Look}
use Rattle.hd_rules.specs.Record.{Record}
use Rattle.hd_rules.specs.Target.{Split, NoTarget, is_target}
use Rattle.hd_rules.specs.Searches.{target}
use Rattle.hd_rules.specs.declared.commands.Survivor.{Survivor}
use Rattle.hd_records.specs.Looks.{after_looks}
use Rattle.hd_records.specs.Slots.{records_at}
use Rattle.hd_records.specs.Survivors.{newer, survivor_of, survivors_of}
use Rattle.hd_records.proofs.Counted.{looked_more}
use Rattle.hd_records.proofs.Standing.{Reads, reads}
use Rattle.hd_records.proofs.walking.newest.Goals as goal

pub returns-then-is_target-clause-target : goal.returns-then-is_target-clause-target
returns-then-is_target-clause-target g c =
    let slots = c.args.slots.now.items in
    let numbers = c.args.numbers.now in
    let i : ℕ = c.loop-place.place - 1 in
    let r : Record = c.in-Some.stored in
    let next : c.loop-place.place ≡ i + 1 = omega arith in
    let at : Reads slots numbers i r =
    reads slots numbers i c.from.result r (omega arith) c.from.ensures c.in-Some.ensures c.requires in
    let split : Split = record {
      older = survivors_of (records_at (take i numbers) slots);
      survivor = survivor_of r;
      newer = survivors_of (records_at (drop (i + 1) numbers) slots);
    } in
    let found : target c.args.terminal c.args.what.now (survivors_of (records_at numbers slots))
    ≡ Some split =
    (c.the_target_is_the_newest.ensures.found c.args.terminal c.args.what.now
    (survivors_of (records_at numbers slots)) split).1 (record {
      split =
          ap survivors_of at.split
          ∙ map-append survivor_of (records_at (take i numbers) slots)
          (r ∷ records_at (drop (i + 1) numbers) slots);
      fits = ap (is_target c.args.terminal c.args.what.now) (sym c.survivor.ensures) ∙ sym c.is_target.ensures
          ∙ c.if-is_target.true;
      newest =
          subst (λ (n : ℕ). NoTarget c.args.terminal c.args.what.now
          (survivors_of (records_at (drop n numbers) slots))) next
          c.loop-place.invariant.none;
    }) in
    ap (λ (s : Survivor). Some s.number) c.survivor-then-is_target.ensures
    ∙ sym (ap (option_map (λ (x : Split). x.survivor.number)) found)

pub returns-then-is_target-clause-work : goal.returns-then-is_target-clause-work
returns-then-is_target-clause-work g c =
    let slots = c.args.slots.now.items in
    let numbers = c.args.numbers.now in
    let i : ℕ = c.loop-place.place - 1 in
    let r : Record = c.in-Some.stored in
    let next : c.loop-place.place ≡ i + 1 = omega arith in
    let at : Reads slots numbers i r =
    reads slots numbers i c.from.result r (omega arith) c.from.ensures c.in-Some.ensures c.requires in
    let number : c.survivor-then-is_target.result.now.number ≡ r.number =
    ap (λ (s : Survivor). s.number) c.survivor-then-is_target.ensures in
    let later : records_at (drop c.loop-place.place numbers) slots
    ≡ newer c.survivor-then-is_target.result.now.number (records_at numbers slots) =
    ap (λ (n : ℕ). records_at (drop n numbers) slots) next ∙ sym at.newer
    ∙ ap (λ (n : ℕ). newer n (records_at numbers slots)) (sym number) in
    let one : suc (length (newer c.survivor-then-is_target.result.now.number (records_at numbers slots)))
    ≡ length (newer c.survivor-then-is_target.result.now.number (records_at numbers slots)) + 1 =
    omega arith in
    c.add.ensures
    ∙ ap (λ (x : Counts). with_one_more x Look)
    (c.loop-place.invariant.work ∙ ap (λ (rs : List Record). after_looks (length rs) c.args.meter.now) later)
    ∙ looked_more (length (newer c.survivor-then-is_target.result.now.number (records_at numbers slots)))
    c.args.meter.now
    ∙ ap (λ (n : ℕ). after_looks n c.args.meter.now) one

pub loop-place-preserved-else-is_target : goal.loop-place-preserved-else-is_target
loop-place-preserved-else-is_target g c =
    let slots = c.args.slots.now.items in
    let numbers = c.args.numbers.now in
    let i : ℕ = c.loop-place.place - 1 in
    let r : Record = c.in-Some.stored in
    let next : c.loop-place.place ≡ i + 1 = omega arith in
    let at : Reads slots numbers i r =
    reads slots numbers i c.from.result r (omega arith) c.from.ensures c.in-Some.ensures c.requires in
    record {
      none =
          subst (λ (rs : List Record). NoTarget c.args.terminal c.args.what.now (survivors_of rs))
          (sym at.from) (
            ap (is_target c.args.terminal c.args.what.now) (sym c.survivor.ensures) ∙ sym c.is_target.ensures
                ∙ c.if-is_target.false,
            subst (λ (n : ℕ). NoTarget c.args.terminal c.args.what.now
                (survivors_of (records_at (drop n numbers) slots))) next
                c.loop-place.invariant.none,
          );
      work =
          c.add.ensures
          ∙ ap (λ (x : Counts). with_one_more x Look)
          (c.loop-place.invariant.work
          ∙ ap (λ (n : ℕ). after_looks (length (records_at (drop n numbers) slots)) c.args.meter.now) next)
          ∙ looked_more (length (records_at (drop (i + 1) numbers) slots)) c.args.meter.now
          ∙ ap (λ (rs : List Record). after_looks (length rs) c.args.meter.now) (sym at.from);
    }
