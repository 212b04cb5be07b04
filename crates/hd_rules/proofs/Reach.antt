-- Every desk that a legal run leads to is sound, and what follows from it.
use Rattle.std.proofs.Common.{arith, ◌≡◌, refl, sym, subst, ap, ℕ, ◌+◌, ◌≤◌, List, [], ◌∷◌, ◌++◌, Result, Ok}
use Rattle.std.proofs.Common.{Err}
use Rattle.hd_rules.specs.Words.{Action, Refusal, Survivor}
use Rattle.hd_rules.specs.declared.commands.Action.TheVariants as action
use Rattle.hd_rules.specs.Facts.{Facts, Opening, IsFresh, first_number}
use Rattle.hd_rules.specs.Desk.{Desk, at_home, after}
use Rattle.hd_rules.specs.Ask.{Done}
use Rattle.hd_rules.specs.Settle.{tied_to}
use Rattle.hd_rules.specs.Step.{plan, plan_of}
use Rattle.hd_rules.specs.Run.{outcome_of, changed_by, step, run_from, run, Rising, next_number, AreChanges}
use Rattle.hd_rules.proofs.Standing.{AllStand}
use Rattle.hd_rules.specs.Sound.{Sound, MayOpen}
use Rattle.hd_rules.proofs.Fits.{holds_later}
use Rattle.hd_rules.proofs.Leads.{Good, Leads, asked, leads_to}
use Rattle.hd_rules.proofs.Lending.{checkout_leads, add_leads, change_leads, renew_leads}
use Rattle.hd_rules.proofs.OffLine.{off_line_leads}
use Rattle.hd_rules.proofs.Returns.{checkin_leads, delete_leads}
use Rattle.hd_rules.specs.Differ.{DifferBy}
use Rattle.hd_rules.proofs.Cancelling.{runs_differ}
use Rattle.hd_rules.proofs.Gentle.{AreGentle}

pub plan_leads : (k : Facts) (n : ℕ) (d : Desk) (day : ℕ) (a : Action) → Sound k n d
    → Leads k (n + 1) d (plan_of k n day a)
plan_leads k n d day (action.Checkout p c may_renew) sound =
    asked (λ old told. checkout_leads k n d p c may_renew day old sound told)
plan_leads k n d day (action.OffLine p c due) sound = asked (λ old told. asked (λ held has.
    off_line_leads k n d p c due old held (tied_to old) sound told has (ap tied_to told)))
plan_leads k n d day (action.Checkin c b) sound = checkin_leads k n d c b day sound
plan_leads k n d day (action.Add p t kind pickup expiry) sound =
    asked (λ old told. add_leads k n d _ t day old sound told refl refl)
plan_leads k n d day (action.Delete p t) sound = asked (λ old told. delete_leads k n d t p day old sound told)
plan_leads k n d day (action.Change p t kind pickup expiry) sound =
    asked (λ old told. change_leads k n d t p kind pickup expiry day old sound told)
plan_leads k n d day (action.Renewal p c) sound = asked (λ old told. renew_leads k n d p c day old sound told)

-- an accepted command at a sound desk makes right changes, and leads to a sound desk
pub good : (k : Facts) (d : Desk) (s : Survivor) → Sound k s.number d → (done : Done)
    → outcome_of k d s ≡ Ok done → Good k (s.number + 1) d done.changes
good k d s sound done is =
    leads_to k (s.number + 1) d (plan k s.number s.command)
    (plan_leads k s.number d s.command.day s.command.action sound).all done is

pub later_sound : (k : Facts) (n m : ℕ) (d : Desk) → n ≤ m → Sound k n d → Sound k m d
later_sound k n m d le sound =
    record { holds = holds_later n m d.hold le sound.holds; places = sound.places; tie = sound.tie }

step_sound : (k : Facts) (d : Desk) (s : Survivor) → Sound k s.number d → Sound k (s.number + 1) (step k d s)
step_sound k d s sound = by_outcome (outcome_of k d s) refl
  where
    by_outcome : (r : Result Done Refusal) → outcome_of k d s ≡ r → Sound k (s.number + 1) (changed_by r d)
    by_outcome (Ok done) is = (good k d s sound done is).sound
    by_outcome (Err e) is =
        later_sound k s.number (s.number + 1) d (let le : s.number ≤ s.number + 1 = omega arith in le) sound

run_sound : (k : Facts) (n : ℕ) (d : Desk) (ss : List Survivor) → Sound k n d → Rising n ss
    → Sound k (next_number n ss) (run_from k d ss)
run_sound k n d [] sound rising = sound
run_sound k n d (s ∷ ss) sound rising =
    run_sound k (s.number + 1) (step k d s) ss
    (step_sound k d s (later_sound k n s.number d rising.0 sound)) rising.1

pub home_sound : (k : Facts) (n : ℕ) → Sound k n (at_home k.home)
home_sound k n = record {
  holds = record { named = λ t p h e. cc; stamped = λ t p h e. cc; apart = λ t p q g h e f same. cc };
  places = record { from_one = λ c s e. cc; apart = λ x y s r in_x in_y e f branch place. cc };
  tie = record { tied = λ t p c b h. absurd h; has = λ p c b h. absurd h };
}

pub fresh_may_open : (k : Facts) → IsFresh k → MayOpen k
fresh_may_open k is = subst (λ (o : Opening). Sound k (o.last + 1) o.desk) (sym is) (home_sound k 1)

-- every desk that a legal run leads to is sound
pub reachable_sound : (k : Facts) (ss : List Survivor) → MayOpen k → Rising (first_number k) ss
    → Sound k (next_number (first_number k) ss) (run k ss)
reachable_sound k ss may rising = run_sound k (first_number k) k.opening.desk ss may rising

rising_before : (n : ℕ) (before : List Survivor) (c : Survivor) (later : List Survivor)
    → Rising n (before ++ c ∷ later) → Rising n before × (next_number n before ≤ c.number)
rising_before n [] c later rising = (tt, rising.0)
rising_before n (s ∷ ss) c later rising =
    let rest : Rising (s.number + 1) ss × (next_number (s.number + 1) ss ≤ c.number) =
    rising_before (s.number + 1) ss c later rising.1 in
    ((rising.0, rest.0), rest.1)

sound_before : (k : Facts) (before : List Survivor) (c : Survivor) (later : List Survivor) → MayOpen k
    → Rising (first_number k) (before ++ c ∷ later) → Sound k c.number (run k before)
sound_before k before c later may rising =
    let n : ℕ = first_number k in
    let r : Rising n before × (next_number n before ≤ c.number) = rising_before n before c later rising in
    later_sound k (next_number n before) c.number (run k before) r.1 (reachable_sound k before may r.0)

-- the changes of a command accepted in a legal run are of distinct cells, each to another value
pub reachable_changes : (k : Facts) (before later : List Survivor) (c : Survivor) (done : Done)
    → MayOpen k → Rising (first_number k) (before ++ c ∷ later) → outcome_of k (run k before) c ≡ Ok done
    → AreChanges done.changes
reachable_changes k before later c done may rising is =
    (good k (run k before) c (sound_before k before c later may rising) done is).are

-- the runs with and without a command on which nothing later depends
pub differ : (k : Facts) (before later : List Survivor) (c : Survivor) (done : Done) → MayOpen k
    → Rising (first_number k) (before ++ c ∷ later) → outcome_of k (run k before) c ≡ Ok done
    → AllStand k (after done.changes (run k before)) (run k before) later
    → DifferBy done.changes (run k (before ++ c ∷ later)) (run k (before ++ later))
differ k before later c done may rising is stand =
    runs_differ k before later c done is (reachable_changes k before later c done may rising is) stand

-- its changes are gentle
pub reachable_gentle : (k : Facts) (before later : List Survivor) (c : Survivor) (done : Done)
    → MayOpen k → Rising (first_number k) (before ++ c ∷ later) → outcome_of k (run k before) c ≡ Ok done
    → AreGentle done.changes
reachable_gentle k before later c done may rising is =
    (good k (run k before) c (sound_before k before c later may rising) done is).gentle
