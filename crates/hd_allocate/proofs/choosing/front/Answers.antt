use Rattle.std.proofs.Common.{rules, ◌≡◌, ◌∙◌, cond, find, None, Some}
use Rattle.std.specs.Option.{option_copied, option_or}
use Rattle.hd_allocate.specs.Choosing.{is_open}
use Rattle.hd_allocate.proofs.FrontLemmas.{front_of_two}
use Rattle.hd_allocate.proofs.choosing.front.Goals as goal

pub returns-in-Some : goal.returns-in-Some
returns-in-Some g c =
    let first : Some c.in-Some.hold.now ≡ option_or
    (cond c.args.priority (find (is_open c.args.day) c.args.local) None)
    (find (is_open c.args.day) c.args.all) = search rules in
    λ at is. first ∙ front_of_two c.args.priority at c.args.day c.args.local c.args.all is

pub returns : goal.returns
returns g c =
    let first : option_copied c.first_open-2.result ≡ option_or
    (cond c.args.priority (find (is_open c.args.day) c.args.local) None)
    (find (is_open c.args.day) c.args.all) = search rules in
    λ at is. first ∙ front_of_two c.args.priority at c.args.day c.args.local c.args.all is
