use Rattle.std.proofs.Common.{◌≡◌, ◌+◌, ◌-◌, pos, ◌+ℤ◌, ◌≤ℤ◌, w8, w16, arith, subst, sym, ap, ◌∙◌}
use Rattle.std.proofs.lemmas.Int.{to_z_pos}
use Rattle.jiff_core.specs.Date.{epoch_day}
use Rattle.jiff_core.proofs.SignedLemmas.{signed_arith}
use Rattle.hd_date.proofs.DayLemmas.{day_there, from_zero, made}
use Rattle.hd_date.proofs.calendar.day_of.Goals as goal

pub overflow_sub-days_since_min : goal.overflow_sub-days_since_min
overflow_sub-days_since_min c =
    let date = c.in-Ok.date in
    let year : date.year ≡ pos c.args.year =
    c.in-Ok.ensures.value.0 ∙ to_z_pos w16 c.args.year (omega arith) in
    let counted : epoch_day date +ℤ pos 4_371_587 ≡ pos c.days_since_min.result =
    c.days_since_min.ensures.value in
    let low = from_zero date (subst (λ z. pos 0 ≤ℤ z) (sym year) (omega (arith, signed_arith))) in
    omega (arith, signed_arith, low, counted)

pub returns-in-Ok-clause-found : goal.returns-in-Ok-clause-found
returns-in-Ok-clause-found c =
    let date = c.in-Ok.date in
    let low = overflow_sub-days_since_min c.before in
    let year : date.year ≡ pos c.args.year =
    c.in-Ok.ensures.value.0 ∙ to_z_pos w16 c.args.year (omega arith) in
    let months : pos date.month ≡ pos c.args.month =
    c.in-Ok.ensures.value.1 ∙ to_z_pos w8 c.args.month (omega arith) in
    let days : pos date.day ≡ pos c.args.day =
    c.in-Ok.ensures.value.2 ∙ to_z_pos w8 c.args.day (omega arith) in
    let month : date.month ≡ c.args.month = cc in
    let day : date.day ≡ c.args.day = cc in
    let n = c.days_since_min.result - 3_652_059 in
    let number : c.days_since_min.result ≡ n + 3_652_059 = omega (arith, low) in
    rw (day_there c.of_number.ensures (omega (arith, c.days_since_min.ensures.bound)))
    (made date c.args.year c.args.month c.args.day n year month day
    (c.days_since_min.ensures.value ∙ ap pos number))

pub returns-in-Ok-clause-none : goal.returns-in-Ok-clause-none
returns-in-Ok-clause-none c =
    rw (day_there c.of_number.ensures (omega (arith, c.days_since_min.ensures.bound))) tt
