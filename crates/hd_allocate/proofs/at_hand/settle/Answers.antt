use Rattle.std.proofs.Common.{ap, List, Result}
use Rattle.hd_rules.specs.declared.questions.Question.{Question}
use Rattle.hd_rules.specs.declared.replies.Refusal.{Refusal}
use Rattle.hd_rules.specs.Ask.{Done}
use Rattle.hd_allocate.proofs.ShelfLemmas.{least_is_place}
use Rattle.hd_allocate.proofs.at_hand.settle.Goals as goal

pub returns : goal.returns
returns g c = λ k d at shelf rest.
    let place = least_is_place c.place_is_the_least_free.ensures k d c.args.at c.least_free.result
    c.args.places.now.copies shelf
    c.least_free.ensures.least in
    ap (λ (x : Result Done Refusal × List Question). x.0) (c.settle_copy.ensures.settled k d (at, place) rest)
