-- A target is among the records of its title.
use Rattle.std.proofs.Common.{arith, ◌≡◌, refl, sym, ◌∙◌, ap, ℕ, Bool, true, false, cond, ◌&&◌, ◌==◌, List}
use Rattle.std.proofs.Common.{[], ◌∷◌, filter}
use Rattle.std.proofs.Common.{Option, None, Some, option_map}
use Rattle.std.proofs.lemmas.Bool.{false≢true}
use Rattle.std.proofs.lemmas.Bool.Decides.{nat_tests}
use Rattle.hd_rules.specs.declared.commands.Action.{Action}
use Rattle.hd_rules.specs.declared.commands.Action.TheVariants as action
use Rattle.hd_rules.specs.declared.commands.Cancel.{Cancel}
use Rattle.hd_rules.specs.declared.commands.Cancel.TheVariants as cancel
use Rattle.hd_rules.specs.Facts.{Facts}
use Rattle.hd_rules.specs.Record.{Record}
use Rattle.hd_rules.specs.Target.{Split, is_of_kind, is_target}
use Rattle.hd_rules.specs.Searches.{newest_of, target}
use Rattle.hd_clash.specs.declared.key.Key.TheVariants as key
use Rattle.hd_clash.specs.CommandKeys.{has_key, keys_of_action}
use Rattle.hd_records.specs.Index.{asks_about, records_about}
use Rattle.hd_records.specs.Survivors.{survivor_of, survivors_of, target_of}
use Rattle.hd_records.specs.Titles.{title_of_cancel}
use Rattle.hd_lemmas.proofs.Tests.{and_right}

-- the later target's number, or else this one's
abbrev or_here : Bool → ℕ → Option ℕ → Option ℕ
or_here fits n (Some m) = Some m
or_here fits n None = cond fits (Some n) None

abbrev number_at : Option Split → Option ℕ
number_at o = option_map (λ at. at.survivor.number) o

target_step : (terminal : ℕ) (what : Cancel) (r : Record) (rs : List Record)
    → target_of terminal what (r ∷ rs)
    ≡ or_here (is_target terminal what (survivor_of r)) r.number (target_of terminal what rs)
target_step terminal what r rs = by_target (target terminal what (survivors_of rs))
  where
    by_test : (b : Bool)
        → number_at (cond b (Some (record { older = []; survivor = survivor_of r; newer = survivors_of rs }))
        None)
        ≡ cond b (Some r.number) None
    by_test true = refl
    by_test false = refl

    by_target : (o : Option Split)
        → number_at (newest_of terminal what (survivor_of r) (survivors_of rs) o)
        ≡ or_here (is_target terminal what (survivor_of r)) r.number (number_at o)
    by_target (Some at) = refl
    by_target None = by_test (is_target terminal what (survivor_of r))

or_none : (n : ℕ) (o : Option ℕ) → or_here false n o ≡ o
or_none n None = refl
or_none n (Some m) = refl

target_among : (terminal : ℕ) (what : Cancel) (P : Record → Bool) (rs : List Record)
    → ((r : Record) → is_target terminal what (survivor_of r) ≡ true → P r ≡ true)
    → target_of terminal what rs ≡ target_of terminal what (filter P rs)
target_among terminal what P [] fits = refl
target_among terminal what P (x ∷ xs) fits =
    target_step terminal what x xs
    ∙ ap (or_here (is_target terminal what (survivor_of x)) x.number) (target_among terminal what P xs fits)
    ∙ by_tests (P x) (is_target terminal what (survivor_of x)) refl (fits x)
  where
    by_tests : (b c : Bool) → is_target terminal what (survivor_of x) ≡ c → (c ≡ true → b ≡ true)
        → or_here c x.number (target_of terminal what (filter P xs))
        ≡ target_of terminal what (cond b (x ∷ filter P xs) (filter P xs))
    by_tests true c is passes =
        ap (λ (t : Bool). or_here t x.number (target_of terminal what (filter P xs))) (sym is)
        ∙ sym (target_step terminal what x (filter P xs))
    by_tests false true is passes = absurd (false≢true (passes refl))
    by_tests false false is passes = or_none x.number (target_of terminal what (filter P xs))

same_title : (k : Facts) (c x : ℕ) → (c == x) ≡ true → (k.title_of x == k.title_of c) ≡ true
same_title k c x is =
    let same : c ≡ x = grind (arith, nat_tests) in
    let title : k.title_of x ≡ k.title_of c = ap k.title_of (sym same) in
    grind (arith, nat_tests, title)

named_title : (p t q u : ℕ) → ((p == q) && (t == u)) ≡ true → (u == t) ≡ true
named_title p t q u is =
    let same : (t == u) ≡ true = and_right (p == q) (t == u) is in
    let title : t ≡ u = grind (arith, nat_tests) in
    grind (arith, nat_tests, title)

kind_title : (k : Facts) (what : Cancel) (action : Action) → is_of_kind what action ≡ true
    → has_key (keys_of_action k action) (key.Title (title_of_cancel k what)) ≡ true
kind_title k (cancel.Checkout c) (action.Checkout q x m) is = same_title k c x is
kind_title k (cancel.Checkout c) (action.OffLine q x due) is = same_title k c x is
kind_title k (cancel.Checkout c) (action.Checkin x b) is = absurd (false≢true is)
kind_title k (cancel.Checkout c) (action.Add q u kind pickup expiry) is = absurd (false≢true is)
kind_title k (cancel.Checkout c) (action.Delete q u) is = absurd (false≢true is)
kind_title k (cancel.Checkout c) (action.Change q u kind pickup expiry) is = absurd (false≢true is)
kind_title k (cancel.Checkout c) (action.Renewal q x) is = absurd (false≢true is)
kind_title k (cancel.Checkin c) (action.Checkout q x m) is = absurd (false≢true is)
kind_title k (cancel.Checkin c) (action.OffLine q x due) is = absurd (false≢true is)
kind_title k (cancel.Checkin c) (action.Checkin x b) is = same_title k c x is
kind_title k (cancel.Checkin c) (action.Add q u kind pickup expiry) is = absurd (false≢true is)
kind_title k (cancel.Checkin c) (action.Delete q u) is = absurd (false≢true is)
kind_title k (cancel.Checkin c) (action.Change q u kind pickup expiry) is = absurd (false≢true is)
kind_title k (cancel.Checkin c) (action.Renewal q x) is = absurd (false≢true is)
kind_title k (cancel.Renewal c) (action.Checkout q x m) is = absurd (false≢true is)
kind_title k (cancel.Renewal c) (action.OffLine q x due) is = absurd (false≢true is)
kind_title k (cancel.Renewal c) (action.Checkin x b) is = absurd (false≢true is)
kind_title k (cancel.Renewal c) (action.Add q u kind pickup expiry) is = absurd (false≢true is)
kind_title k (cancel.Renewal c) (action.Delete q u) is = absurd (false≢true is)
kind_title k (cancel.Renewal c) (action.Change q u kind pickup expiry) is = absurd (false≢true is)
kind_title k (cancel.Renewal c) (action.Renewal q x) is = same_title k c x is
kind_title k (cancel.Add p t) (action.Checkout q x m) is = absurd (false≢true is)
kind_title k (cancel.Add p t) (action.OffLine q x due) is = absurd (false≢true is)
kind_title k (cancel.Add p t) (action.Checkin x b) is = absurd (false≢true is)
kind_title k (cancel.Add p t) (action.Add q u kind pickup expiry) is = named_title p t q u is
kind_title k (cancel.Add p t) (action.Delete q u) is = absurd (false≢true is)
kind_title k (cancel.Add p t) (action.Change q u kind pickup expiry) is = absurd (false≢true is)
kind_title k (cancel.Add p t) (action.Renewal q x) is = absurd (false≢true is)
kind_title k (cancel.Delete p t) (action.Checkout q x m) is = absurd (false≢true is)
kind_title k (cancel.Delete p t) (action.OffLine q x due) is = absurd (false≢true is)
kind_title k (cancel.Delete p t) (action.Checkin x b) is = absurd (false≢true is)
kind_title k (cancel.Delete p t) (action.Add q u kind pickup expiry) is = absurd (false≢true is)
kind_title k (cancel.Delete p t) (action.Delete q u) is = named_title p t q u is
kind_title k (cancel.Delete p t) (action.Change q u kind pickup expiry) is = absurd (false≢true is)
kind_title k (cancel.Delete p t) (action.Renewal q x) is = absurd (false≢true is)
kind_title k (cancel.Change p t) (action.Checkout q x m) is = absurd (false≢true is)
kind_title k (cancel.Change p t) (action.OffLine q x due) is = absurd (false≢true is)
kind_title k (cancel.Change p t) (action.Checkin x b) is = absurd (false≢true is)
kind_title k (cancel.Change p t) (action.Add q u kind pickup expiry) is = absurd (false≢true is)
kind_title k (cancel.Change p t) (action.Delete q u) is = absurd (false≢true is)
kind_title k (cancel.Change p t) (action.Change q u kind pickup expiry) is = named_title p t q u is
kind_title k (cancel.Change p t) (action.Renewal q x) is = absurd (false≢true is)

title_fits : (k : Facts) (terminal : ℕ) (what : Cancel) (r : Record) → is_target terminal what (survivor_of r)
    ≡ true
    → asks_about k (key.Title (title_of_cancel k what)) r ≡ true
title_fits k terminal what r is =
    kind_title k what r.command.action
    (and_right (r.terminal == terminal) (is_of_kind what r.command.action) is)

-- so it is the target among all
pub target_of_title : (k : Facts) (terminal : ℕ) (what : Cancel) (rs : List Record)
    → target_of terminal what rs
    ≡ target_of terminal what (records_about k (key.Title (title_of_cancel k what)) rs)
target_of_title k terminal what rs =
    target_among terminal what (asks_about k (key.Title (title_of_cancel k what))) rs
    (title_fits k terminal what)
