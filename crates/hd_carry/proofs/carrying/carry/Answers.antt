use Rattle.std.proofs.Common.{◌∙◌, ◌↔◌, sym, subst}
use Rattle.hd_rules.specs.Run.{IsAmong}
use Rattle.hd_catalogue.specs.Contents.{facts_of}
use Rattle.hd_desk.specs.Asking.{queues_of}
use Rattle.hd_desk.specs.Desks.{contents, desk_of, facts}
use Rattle.hd_carry.specs.ByNames.{by_names}
use Rattle.hd_carry.specs.Faults.{IsEachOnce}
use Rattle.hd_carry.specs.InTheWay.{IsInTheWay}
use Rattle.hd_carry.specs.Numbers.{renumbering}
use Rattle.hd_carry.specs.WriteOffs.{carried_desk, is_listed, is_noted, without_loans}
use Rattle.hd_carry.proofs.Once.{once_told}
use Rattle.hd_carry.proofs.Whole.{carried_over, named, told_all}
use Rattle.hd_carry.proofs.carrying.carry.Goals as goal

pub returns-then-is_free-clause-carried : goal.returns-then-is_free-clause-carried
returns-then-is_free-clause-carried g c =
    let old = c.args.old.now in
    let all =
    told_all (contents old) c.args.new.now c.args.last (desk_of old) c.args.write_off.now c.in_ok-noted.noted
    (queues_of old)
    (renumbering c.in_ok-numbers.numbers) c.in_ok-obstacles.obstacles.items c.copies_of.result
    c.copies_of.ensures.count
    c.in_ok-numbers.ensures.names c.in_ok-noted.ensures c.in_ok-obstacles.ensures in
    carried_over (contents old) c.args.new.now c.args.last (desk_of old) c.args.write_off.now
    c.in_ok-noted.noted (queues_of old)
    (renumbering c.in_ok-numbers.numbers) c.in_ok-rows_of.field-0.items c.copies_of.result
    c.rows_carry_a_desk_over.ensures
    c.in_ok-numbers.ensures.distinct c.names_known_things.ensures.range c.names_known_things.ensures.known
    c.keeps_its_queues.ensures c.copies_of.ensures.count c.in_ok-numbers.ensures.names c.in_ok-noted.ensures
    c.in_ok-rows_of.ensures
    (sym all ∙ (sym c.deref.ensures.value ∙ c.is_free.ensures.free c.if-is_free.true))

pub returns-clause-in_the_way : goal.returns-clause-in_the_way
returns-clause-in_the_way g c =
    let old = c.args.old.now in
    let all =
    told_all (contents old) c.args.new.now c.args.last (desk_of old) c.args.write_off.now c.in_ok-noted.noted
    (queues_of old)
    (renumbering c.in_ok-numbers.numbers) c.in_ok-obstacles.obstacles.items c.copies_of.result
    c.copies_of.ensures.count
    c.in_ok-numbers.ensures.names c.in_ok-noted.ensures c.in_ok-obstacles.ensures in
    (all, λ none. c.is_free.ensures.taken c.if-is_free.false (c.deref.ensures.value ∙ (all ∙ none)))

pub returns-clause-exact : goal.returns-clause-exact
returns-clause-exact g c =
    let old = c.args.old.now in
    let new = c.args.new.now in
    let listed = c.args.write_off.now in
    let all =
    told_all (contents old) new c.args.last (desk_of old) listed c.in_ok-noted.noted (queues_of old)
    (renumbering c.in_ok-numbers.numbers) c.in_ok-obstacles.obstacles.items c.copies_of.result
    c.copies_of.ensures.count
    c.in_ok-numbers.ensures.names c.in_ok-noted.ensures c.in_ok-obstacles.ensures in
    λ obstacle. subst (λ l. IsAmong obstacle l
    ↔ IsInTheWay (facts old) (facts_of new) (by_names (contents old) new) (carried_desk old listed)
    c.args.last obstacle) (sym all)
    (c.obstacles_are_exact.ensures (contents old) new c.args.last (is_listed listed) (desk_of old)
    (queues_of old)
    (named (facts old) (desk_of old) (queues_of old) c.keeps_its_queues.ensures) c.keeps_its_queues.ensures
    obstacle)

pub returns-clause-once : goal.returns-clause-once
returns-clause-once g c =
    let old = c.args.old.now in
    subst IsEachOnce (sym c.in_ok-obstacles.ensures)
    (once_told (renumbering c.in_ok-numbers.numbers) (facts old) (facts_of c.args.new.now)
    (without_loans (facts old) (is_noted c.in_ok-noted.noted) (desk_of old)) c.args.last (queues_of old)
    (λ t l. (c.keeps_its_queues.ensures.queue t l).once))
