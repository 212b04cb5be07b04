use Rattle.std.proofs.Common.{◌≡◌, ◌⊎◌, inl, inr, ℕ, ◌^◌, ◌<◌, ◌≤◌, pos, arith, length, refl}
use Rattle.std.proofs.lemmas.Result.{err_from_is_err_and}
use Rattle.sqlite.specs.Order.{column}
use Rattle.hd_turn_store.specs.Words.{Int, Row}
use Rattle.hd_turn_store.specs.declared.fault.Fault.{Fault}
use Rattle.hd_turn_store.specs.declared.fault.Fault.TheVariants.{Damaged, Memory}
use Rattle.hd_turn_store.specs.Faults.{IsUnread}
use Rattle.hd_turn_store.specs.Kept.{Head, head_cells}
use Rattle.hd_turn_store.proofs.heading.head_among.Goals as goal

too_large : (n : ℕ) → ¬ (n < 2 ^ 32) → 2 ^ 32 ≤ n
too_large n not = omega arith

-- a format that isn't read is no number of 32 bits
unread : (head : Head) (row : Row) (fault : Fault) → row ≡ head_cells head
    → (0 < length row → (fault ≡ Memory) ⊎ ((fault ≡ Damaged)
    × ¬ ((n : ℕ) × (column row 0 ≡ Int (pos n)) × (n < 2 ^ 32)))) → IsUnread head fault
unread head row fault is why =
    elim (why (rw is (omega arith))) [
      | inl memory ↦ inl memory
      | inr damaged ↦ inr (
        damaged.0,
        too_large head.format (λ low.
            damaged.1 (head.format, rw is refl, low)),
      )
    ]

pub returns-in_err-value-clause-why : goal.returns-in_err-value-clause-why
returns-in_err-value-clause-why c =
    let p = err_from_is_err_and c.from_residual.result c.from_residual.ensures.1 in
    rw (p.1, p.2) (λ head shown.
    let is : c.row-item.result ≡ head_cells head = rw shown at c.row-item.is in
    unread head c.row-item.result c.in_err-value.field-0.0 is c.in_err-value.ensures.why)
