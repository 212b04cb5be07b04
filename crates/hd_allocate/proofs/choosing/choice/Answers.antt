use Rattle.std.proofs.Common.{◌∙◌, ap, filter, sym}
use Rattle.std.specs.Option.{option_copied}
use Rattle.hd_queue.specs.Wanted.{is_picked_up_at}
use Rattle.hd_allocate.proofs.FrontLemmas.{IsFirst, front_of_home}
use Rattle.hd_allocate.proofs.ChoosingLemmas.{wants, Found, found_first, first_is_choice, first_waits}
use Rattle.hd_allocate.proofs.choosing.choice.Given.{Over}
use Rattle.hd_allocate.proofs.choosing.choice.Goals as goal

-- the hold that is found is the first that wants the copy
first : (g : Over) (c : goal.After-earlier g)
    → IsFirst c.args.copy.now.priority c.args.at (wants c.args.copy.now.copy c.args.copy.now.home c.args.day)
    c.args.queue.now (option_copied c.earlier.result)
first g c =
    let f : Found c.args.copy.now c.args.at c.args.day c.args.queue.now c.any.result c.for_copy.result
    c.at_branch.result
    (option_copied c.front-any.result) (option_copied c.front-named.result)
    (option_copied c.first_open-home.result)
    (option_copied c.earlier-either.result) (option_copied c.earlier.result) = record {
      any_is = c.any.ensures.waiting;
      named_is = c.for_copy.ensures;
      home_is = c.at_branch.ensures;
      x_is = c.front-any.ensures c.args.at
          (c.any_at.ensures ∙ ap (filter (is_picked_up_at c.args.at)) (sym c.any.ensures.waiting));
      y_is = c.front-named.ensures c.args.at
          (c.for_copy_at.ensures ∙ ap (filter (is_picked_up_at c.args.at)) (sym c.for_copy.ensures));
      z_is = c.first_open-home.ensures
          ∙ front_of_home c.args.copy.now.priority c.args.at c.args.copy.now.home c.args.day c.args.queue.now
          c.at_branch.result c.at_branch.ensures;
      v_is = c.earlier-either.ensures;
      w_is = c.earlier.ensures;
    } in
    found_first c.args.copy.now c.args.at c.args.day c.args.queue.now c.any.result c.for_copy.result
    c.at_branch.result
    (option_copied c.front-any.result) (option_copied c.front-named.result)
    (option_copied c.first_open-home.result)
    (option_copied c.earlier-either.result) (option_copied c.earlier.result) c.any.ensures.ordered
    c.any.ensures.once f

pub returns-clause-chosen : goal.returns-clause-chosen
returns-clause-chosen g c = λ k d at.
    first_is_choice c.choice_is_the_first_candidate.ensures k d c.args.queue.now c.args.copy.now c.args.at
    c.args.day
    (option_copied c.earlier.result) c.any.ensures.ordered at (first g c)

pub returns-clause-waits : goal.returns-clause-waits
returns-clause-waits g c =
    first_waits c.args.copy.now.priority c.args.copy.now.copy c.args.copy.now.home c.args.at c.args.day
    c.args.queue.now c.earlier.result
    (first g c)
