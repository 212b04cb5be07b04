use Rattle.std.proofs.Common.{◌≡◌, ◌+◌, ◌<◌, ◌++◌, length, subst, vec_capacity, vec_len}
use Rattle.std.specs.Prelude.{OnErr, OnOk}
use Rattle.std.specs.List.{flat_map}
use Rattle.hd_message.proofs.AddedLemmas.{known_is}
use Rattle.hd_message.specs.Part.{part_text}
use Rattle.hd_message.proofs.information_replies.write_information.Goals as goal

-- the parts before the list, and the list, are the text
pub returns-in-Known-clause-ok : goal.returns-in-Known-clause-ok
returns-in-Known-clause-ok g c =
    let k = c.in-Known in
    let is = known_is c.args.reply.now c.args.reply.now.outcome k.patron k.counts k.limit k.list
    (flat_map part_text c.information-front.result)
    k.is c.information-front.ensures in
    subst (λ x. OnOk c.append_with_list.result (c.append_with_list.new.out.items ≡ c.args.out.now.items ++ x))
    is c.append_with_list.ensures.ok

pub returns-in-Known-clause-full : goal.returns-in-Known-clause-full
returns-in-Known-clause-full g c =
    let k = c.in-Known in
    let is = known_is c.args.reply.now c.args.reply.now.outcome k.patron k.counts k.limit k.list
    (flat_map part_text c.information-front.result)
    k.is c.information-front.ensures in
    subst (λ x. OnErr c.append_with_list.result
    (vec_capacity c.args.out.now < vec_len c.args.out.now + length x)) is
    c.append_with_list.ensures.full
