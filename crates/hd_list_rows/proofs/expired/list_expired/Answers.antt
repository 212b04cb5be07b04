use Rattle.std.proofs.Common.{arith, rules, ◌≡◌, sym, ◌∙◌, ap, subst, ◌+◌, ◌<◌, ◌≤◌, List, [], ◌∷◌, ◌++◌}
use Rattle.std.proofs.Common.{append_assoc, length}
use Rattle.hd_rules.specs.declared.holds.Hold.{Hold}
use Rattle.hd_desk.specs.Asking.{IsQueueOf, queues_of}
use Rattle.hd_desk.specs.Desks.{desk_of, facts}
use Rattle.hd_list_rows.specs.Expired.{expired_row, expired_rows, from_stamp, of_title}
use Rattle.hd_list_rows.specs.PageValue.{PageValue}
use Rattle.hd_list_rows.proofs.Expiring.{gone_over, left_from, passed, put_more}
use Rattle.hd_list_rows.proofs.expired.list_expired.Goals as goal

pub returns-then-left-eq0-clause-rows : goal.returns-then-left-eq0-clause-rows
returns-then-left-eq0-clause-rows g c =
    let k = facts c.args.desk.now in
    let d = desk_of c.args.desk.now in
    let t = c.args.title in
    let h = c.in-Some.hold.now in
    let queue = queues_of c.args.desk.now t in
    let before = c.loop-hold.invariant.0.0 in
    let is : IsQueueOf k d t queue = subst (IsQueueOf k d t) c.queue.ensures.value c.queue.ensures.queue in
    let step : c.loop-hold.hold-iterator ≡ h ∷ c.next.new.self = search rules in
    let split = c.loop-hold.invariant.0.1 ∙ ap (λ (hs : List Hold). before ++ hs) step in
    let left = left_from queue before h c.next.new.self c.args.stamp (d.hold t h.patron) split is.ordered
    is.once (is.each h.patron) (omega (arith, c.if-hold-stamp.true)) in
    ap (λ (hs : List Hold). c.loop-hold.page.rows ++ expired_rows k d c.args.day (of_title t hs))
    (left ∙ ap (from_stamp c.args.stamp) (sym step))
    ∙ c.loop-hold.invariant.2

pub returns-then-left-eq0-clause-left : goal.returns-then-left-eq0-clause-left
returns-then-left-eq0-clause-left g c =
    let k = facts c.args.desk.now in
    let d = desk_of c.args.desk.now in
    let t = c.args.title in
    let h = c.in-Some.hold.now in
    let queue = queues_of c.args.desk.now t in
    let before = c.loop-hold.invariant.0.0 in
    let is : IsQueueOf k d t queue = subst (IsQueueOf k d t) c.queue.ensures.value c.queue.ensures.queue in
    let step : c.loop-hold.hold-iterator ≡ h ∷ c.next.new.self = search rules in
    let split = c.loop-hold.invariant.0.1 ∙ ap (λ (hs : List Hold). before ++ hs) step in
    let left = left_from queue before h c.next.new.self c.args.stamp (d.hold t h.patron) split is.ordered
    is.once (is.each h.patron) (omega (arith, c.if-hold-stamp.true)) in
    ap (λ (hs : List Hold). c.args.left.now + length (of_title t hs))
    (left ∙ ap (from_stamp c.args.stamp) (sym step))
    ∙ c.loop-hold.invariant.3

pub loop-hold-preserved-then-hold-stamp : goal.loop-hold-preserved-then-hold-stamp
loop-hold-preserved-then-hold-stamp g c =
    let k = facts c.args.desk.now in
    let d = desk_of c.args.desk.now in
    let t = c.args.title in
    let h = c.in-Some.hold.now in
    let rest : List Hold = c.next.new.self in
    let before = c.loop-hold.invariant.0.0 in
    let le : c.args.stamp ≤ h.stamp = omega (arith, c.if-hold-stamp.true) in
    let step : c.loop-hold.hold-iterator ≡ h ∷ rest = search rules in
    let more : length (of_title t (from_stamp c.args.stamp c.loop-hold.hold-iterator))
    ≡ length (of_title t (h ∷ from_stamp c.args.stamp rest)) =
    ap (λ (hs : List Hold). length (of_title t (from_stamp c.args.stamp hs))) step
    ∙ ap (λ (hs : List Hold). length (of_title t hs)) (gone_over c.args.stamp h rest le) in (
      (
        before ++ h ∷ [],
        c.loop-hold.invariant.0.1 ∙ ap (λ (hs : List Hold). before ++ hs) step
            ∙ sym (append_assoc before (h ∷ []) rest),
      ),
      ap (λ (p : PageValue). p.next) c.put_if_expired.ensures ∙ c.loop-hold.invariant.1,
      ap (λ (p : PageValue). p.rows
          ++ expired_rows k d c.args.day (of_title t (from_stamp c.args.stamp rest))) c.put_if_expired.ensures
          ∙ put_more (expired_row k d c.args.day) c.loop-hold.page.rows t c.args.stamp h rest le
          ∙ ap (λ (hs : List Hold). c.loop-hold.page.rows
          ++ expired_rows k d c.args.day (of_title t (from_stamp c.args.stamp hs))) (sym step)
          ∙ c.loop-hold.invariant.2,
      omega (arith, more, c.loop-hold.invariant.3, c.if-left-eq0.false),
    )

pub loop-hold-preserved : goal.loop-hold-preserved
loop-hold-preserved g c =
    let k = facts c.args.desk.now in
    let d = desk_of c.args.desk.now in
    let t = c.args.title in
    let h = c.in-Some.hold.now in
    let rest : List Hold = c.next.new.self in
    let before = c.loop-hold.invariant.0.0 in
    let step : c.loop-hold.hold-iterator ≡ h ∷ rest = search rules in
    let less : h.stamp < c.args.stamp = omega (arith, c.if-hold-stamp.false) in
    let same : from_stamp c.args.stamp rest ≡ from_stamp c.args.stamp c.loop-hold.hold-iterator =
    sym (passed c.args.stamp h rest less) ∙ ap (from_stamp c.args.stamp) (sym step) in (
      (
        before ++ h ∷ [],
        c.loop-hold.invariant.0.1 ∙ ap (λ (hs : List Hold). before ++ hs) step
            ∙ sym (append_assoc before (h ∷ []) rest),
      ),
      c.loop-hold.invariant.1,
      ap (λ (hs : List Hold). c.loop-hold.page.rows ++ expired_rows k d c.args.day (of_title t hs)) same
          ∙ c.loop-hold.invariant.2,
      ap (λ (hs : List Hold). c.args.left.now + length (of_title t hs)) same ∙ c.loop-hold.invariant.3,
    )
