-- Commands that name things of the catalogue ask about such.
use Rattle.std.proofs.Common.{refl, subst, ℕ, ◌<◌, List, [], ◌∷◌, Option, Some, inl, inr}
use Rattle.hd_rules.specs.declared.holds.Hold.{Hold}
use Rattle.hd_rules.specs.declared.questions.Question.{Question}
use Rattle.hd_rules.specs.declared.commands.Action.{Action}
use Rattle.hd_rules.specs.declared.commands.Action.TheVariants as action
use Rattle.hd_rules.specs.declared.commands.Command.{Command}
use Rattle.hd_rules.specs.Facts.{Facts, AreInRange}
use Rattle.hd_rules.specs.Desk.{Desk}
use Rattle.hd_rules.specs.Ask.{asks}
use Rattle.hd_rules.specs.Step.{plan}
use Rattle.hd_rules.specs.Known.{IsKnownQuestion, IsKnownAction, IsKnownCopy, IsKnownHeld, IsKnownDesk}
use Rattle.hd_rules.specs.Run.{IsAmong}
use Rattle.hd_rules.specs.Record.{findings}
use Rattle.hd_clash.specs.Law.{EachQuestionIsKnown}
use Rattle.hd_clash.proofs.Asking.{OfCopy, OfTitle, OfItsCopy, OfAction, asked_of}

of_copy : (k : Facts) (c : ℕ) → AreInRange k → c < k.copies → OfCopy (IsKnownQuestion k) k c
of_copy k c range in_c = record { value = in_c; choice = λ b day. in_c; hold = λ p. range.title_of c in_c }

of_title : (k : Facts) (t : ℕ) → t < k.titles → OfTitle (IsKnownQuestion k) t
of_title k t in_t = record { hold = λ p. in_t; position = λ stamp. in_t; shelf = λ kind pickup. in_t }

of_its_copy : (k : Facts) (o : Option Hold) → AreInRange k → IsKnownHeld k o
    → OfItsCopy (IsKnownQuestion k) k o
of_its_copy k o range known h c is has =
    let held : IsKnownHeld k (Some h) = subst (IsKnownHeld k) is known in
    of_copy k c range (subst (IsKnownCopy k) has held.copy)

of_action : (k : Facts) (d : Desk) (act : Action) → AreInRange k → IsKnownDesk k d → IsKnownAction k act
    → OfAction (IsKnownQuestion k) k d act
of_action k d (action.Checkout p c may_renew) range desk known = (of_copy k c range known.1, known.0)
of_action k d (action.OffLine p c due) range desk known = of_copy k c range known.1
of_action k d (action.Checkin c b) range desk known = (of_copy k c range known.0, known.1)
of_action k d (action.Add p t kind pickup expiry) range desk known = of_title k t known.1
of_action k d (action.Delete p t) range desk known =
    (of_title k t known.1, of_its_copy k (d.hold t p) range (desk.holds t p known.1 known.0))
of_action k d (action.Change p t kind pickup expiry) range desk known = of_title k t known.1
of_action k d (action.Renewal p c) range desk known = of_copy k c range known.1

each_known : (k : Facts) (d : Desk) (qs : List Question)
    → ((q : Question) → IsAmong q qs → IsKnownQuestion k q) → EachQuestionIsKnown k (findings k d qs)
each_known k d [] all = tt
each_known k d (q ∷ qs) all = (all q (inl refl), each_known k d qs (λ x among. all x (inr among)))

pub known_asks : (k : Facts) (d : Desk) (n : ℕ) (command : Command) → AreInRange k → IsKnownDesk k d
    → IsKnownAction k command.action → EachQuestionIsKnown k (findings k d (asks k d (plan k n command)))
known_asks k d n command range desk known =
    each_known k d (asks k d (plan k n command))
    (asked_of (IsKnownQuestion k) k d n command (of_action k d command.action range desk known))
