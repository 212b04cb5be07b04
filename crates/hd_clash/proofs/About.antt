-- Questions are about what their command asks about, and untouched records stay.
use Rattle.std.proofs.Common.{◌≡◌, refl, sym, ◌∙◌, ap, subst, ℕ, Bool, true, false, ◌==◌, ◌||◌, cond, inl}
use Rattle.std.proofs.Common.{inr, List, [], ◌∷◌, map, eq-eqb}
use Rattle.std.proofs.Common.{Option, Some, ◌+◌}
use Rattle.std.specs.Prelude.{filter}
use Rattle.std.specs.List.{list_any}
use Rattle.hd_rules.specs.declared.holds.Hold.{Hold}
use Rattle.hd_rules.specs.declared.cells.Change.{Change}
use Rattle.hd_rules.specs.declared.questions.Question.{Question}
use Rattle.hd_rules.specs.declared.questions.Finding.{Finding}
use Rattle.hd_rules.specs.declared.commands.Action.{Action}
use Rattle.hd_rules.specs.declared.commands.Action.TheVariants as action
use Rattle.hd_rules.specs.declared.commands.Command.{Command}
use Rattle.hd_rules.specs.declared.commands.Survivor.{Survivor}
use Rattle.hd_rules.specs.Facts.{Facts, first_number}
use Rattle.hd_rules.specs.Desk.{Desk}
use Rattle.hd_rules.specs.Ask.{asks}
use Rattle.hd_rules.specs.Step.{plan}
use Rattle.hd_rules.specs.Run.{IsAmong, Rising, step}
use Rattle.hd_rules.specs.Record.{Record, IsRecordAt, findings}
use Rattle.hd_rules.specs.Sound.{Has, Tie, Sound, MayOpen}
use Rattle.hd_clash.specs.declared.key.Key.{Key}
use Rattle.hd_clash.specs.Clash.{some_clash, first_clash}
use Rattle.hd_clash.specs.Shift.{shift_each, shift_record, shift_records}
use Rattle.hd_clash.specs.Keys.{key_of, keys_of}
use Rattle.hd_clash.specs.Law.{NoneIsTouched}
use Rattle.hd_clash.specs.CommandKeys.{keys_of_action, keys_of_command, has_key}
use Rattle.hd_clash.specs.About.{IsOfCommand, IsAbout, EachIsAbout, touches, shift_touched}
use Rattle.hd_clash.specs.Records.{AreRecords}
use Rattle.hd_clash.specs.Rules.{Rules}
use Rattle.hd_clash.proofs.Asking.{OfCopy, OfTitle, OfItsCopy, OfAction, asked_of}
use Rattle.hd_clash.proofs.Untouched.{untouched}
use Rattle.hd_clash.proofs.Walk.{sound_on}
use Rattle.hd_lemmas.proofs.Tests.{number_self}

-- the question has its key among an action's
abbrev Under : Facts → Action → Question → Type 0
Under k act q = has_key (keys_of_action k act) (key_of k q) ≡ true

of_copy : (k : Facts) (act : Action) (c : ℕ) → (keys_of_action k act).title ≡ k.title_of c
    → OfCopy (Under k act) k c
of_copy k act c is = record { value = here; choice = λ b day. here; hold = λ p. here }
  where
    here : ((keys_of_action k act).title == k.title_of c) ≡ true
    here = eq-eqb _ _ is

of_title : (k : Facts) (act : Action) (t : ℕ) → (keys_of_action k act).title ≡ t → OfTitle (Under k act) t
of_title k act t is = record { hold = λ p. here; position = λ stamp. here; shelf = λ kind pickup. here }
  where
    here : ((keys_of_action k act).title == t) ≡ true
    here = eq-eqb _ _ is

-- the copy that a hold has is one of its title
of_its_copy : (k : Facts) (d : Desk) (p t : ℕ) → Tie k d
    → OfItsCopy (Under k (action.Delete p t)) k (d.hold t p)
of_its_copy k d p t tie h c is has =
    let at : Has (d.hold t p) c h.pickup =
    subst (λ (o : Option Hold). Has o c h.pickup) (sym is) (has, refl) in
    of_copy k (action.Delete p t) c (sym (tie.tied t p c h.pickup at).0)

of_action : (k : Facts) (d : Desk) (act : Action) → Tie k d → OfAction (Under k act) k d act
of_action k d (action.Checkout p c may_renew) tie =
    (of_copy k (action.Checkout p c may_renew) c refl, number_self p)
of_action k d (action.OffLine p c due) tie = of_copy k (action.OffLine p c due) c refl
of_action k d (action.Checkin c b) tie = (of_copy k (action.Checkin c b) c refl, number_self b)
of_action k d (action.Add p t kind pickup expiry) tie = of_title k (action.Add p t kind pickup expiry) t refl
of_action k d (action.Delete p t) tie = (of_title k (action.Delete p t) t refl, of_its_copy k d p t tie)
of_action k d (action.Change p t kind pickup expiry) tie =
    of_title k (action.Change p t kind pickup expiry) t refl
of_action k d (action.Renewal p c) tie = of_copy k (action.Renewal p c) c refl

pub questions_of_command : (k : Facts) (d : Desk) (n : ℕ) (command : Command) (q : Question) → Tie k d
    → IsAmong q (asks k d (plan k n command)) → IsOfCommand k command q
questions_of_command k d n command q tie among =
    asked_of (Under k command.action) k d n command (of_action k d command.action tie) q among

-- what holds of each question holds of each finding
of_findings : (P : Question → Type 0) (k : Facts) (d : Desk) (qs : List Question)
    → ((q : Question) → IsAmong q qs → P q) → (f : Finding) → IsAmong f (findings k d qs) → P f.question
of_findings P k d [] all f among = absurd among
of_findings P k d (q ∷ qs) all f (inl e) = subst (λ (g : Finding). P g.question) (sym e) (all q (inl refl))
of_findings P k d (q ∷ qs) all f (inr among) = of_findings P k d qs (λ x there. all x (inr there)) f among

record_about : (k : Facts) (d : Desk) (s : Survivor) (r : Record) → Tie k d → IsRecordAt k d s r → IsAbout k r
record_about k d s r tie is f among =
    subst (λ (c : Command). IsOfCommand k c f.question) (sym is.command)
    (of_findings (IsOfCommand k s.command) k d (asks k d (plan k s.number s.command))
    (λ q there. questions_of_command k d s.number s.command q tie there) f
    (subst (λ (fs : List Finding). IsAmong f fs) is.findings among))

pub records_about : Rules → (k : Facts) (d : Desk) (n : ℕ) (ss : List Survivor) (rs : List Record)
    → Sound k n d → Rising n ss → AreRecords k d ss rs → EachIsAbout k rs
records_about rules k d n [] [] sound rising are = tt
records_about rules k d n [] (r ∷ rs) sound rising are = absurd are
records_about rules k d n (s ∷ ss) [] sound rising are = absurd are
records_about rules k d n (s ∷ ss) (r ∷ rs) sound rising are = (
  record_about k d s r sound.tie are.0,
  records_about rules k (step k d s) (s.number + 1) ss rs
      (sound_on rules k n d s rising.0 sound) rising.1 are.1,
)

pub all_records_about : Rules → (k : Facts) (ss : List Survivor) (rs : List Record) → MayOpen k
    → Rising (first_number k) ss → AreRecords k k.opening.desk ss rs → EachIsAbout k rs
all_records_about rules k ss rs may rising are =
    records_about rules k k.opening.desk (first_number k) ss rs may rising are

-- shifting keeps the questions
shifted_about : (P : Question → Type 0) (k : Facts) (cs : List Change) (fs : List Finding)
    → ((f : Finding) → IsAmong f fs → P f.question) → (f : Finding) → IsAmong f (shift_each k cs fs)
    → P f.question
shifted_about P k cs [] all f among = absurd among
shifted_about P k cs (g ∷ gs) all f (inl e) = subst (λ (x : Finding). P x.question) (sym e) (all g (inl refl))
shifted_about P k cs (g ∷ gs) all f (inr among) =
    shifted_about P k cs gs (λ x there. all x (inr there)) f among

pub shifted_record_about : (k : Facts) (cs : List Change) (r : Record) → IsAbout k r
    → IsAbout k (shift_record k cs r)
shifted_record_about k cs r about = shifted_about (IsOfCommand k r.command) k cs r.findings about

pub each_shifted_about : (k : Facts) (cs : List Change) (rs : List Record) → EachIsAbout k rs
    → EachIsAbout k (shift_records k cs rs)
each_shifted_about k cs [] about = tt
each_shifted_about k cs (r ∷ rs) about =
    (shifted_record_about k cs r about.0, each_shifted_about k cs rs about.1)

-- a test that one of a list passes
pub any_passes : (test : Key → Bool) (x : Key) (ys : List Key) → IsAmong x ys → test x ≡ true
    → list_any test ys ≡ true
any_passes test x [] among is = absurd among
any_passes test x (y ∷ ys) (inl e) is = ap (λ (z : Key). test z || list_any test ys) (sym e)
    ∙ ap (λ (b : Bool). b || list_any test ys) is
any_passes test x (y ∷ ys) (inr among) is =
    ap (λ (b : Bool). test y || b) (any_passes test x ys among is) ∙ or_true (test y)
  where
    or_true : (b : Bool) → (b || true) ≡ true
    or_true true = refl
    or_true false = refl

none_touched : (k : Facts) (cs : List Change) (r : Record) → IsAbout k r → touches k cs r ≡ false
    → NoneIsTouched k cs r.findings
none_touched k cs r about not_touched f among key_there =
    let is : touches k cs r ≡ true =
    any_passes (has_key (keys_of_command k r.command)) (key_of k f.question) (keys_of k cs) key_there
    (about f among) in
    let no : true ≡ false = sym is ∙ not_touched in cc

abbrev with_findings : Record → List Finding → Record
with_findings r fs = record {
  number = r.number;
  terminal = r.terminal;
  command = r.command;
  reply = r.reply;
  findings = fs;
  changes = r.changes;
}

pub untouched_stays : (k : Facts) (cs : List Change) (r : Record) → IsAbout k r → touches k cs r ≡ false
    → (some_clash k cs r.findings ≡ false) × (shift_record k cs r ≡ r)
untouched_stays k cs r about not_touched =
    let both : (some_clash k cs r.findings ≡ false) × (shift_each k cs r.findings ≡ r.findings) =
    untouched k cs r.findings (none_touched k cs r about not_touched) in
    (both.0, ap (with_findings r) both.1)

pub clash_touched : (k : Facts) (cs : List Change) (rs : List Record) → EachIsAbout k rs
    → first_clash k cs rs ≡ first_clash k cs (filter (touches k cs) rs)
clash_touched k cs [] about = refl
clash_touched k cs (r ∷ rs) about = by_test (touches k cs r) refl (clash_touched k cs rs about.1)
  where
    by_test : (b : Bool) → touches k cs r ≡ b
        → first_clash k cs rs ≡ first_clash k cs (filter (touches k cs) rs)
        → cond (some_clash k cs r.findings) (Some r.number) (first_clash k cs rs)
        ≡ first_clash k cs (cond b (r ∷ filter (touches k cs) rs) (filter (touches k cs) rs))
    by_test true is rest = ap (cond (some_clash k cs r.findings) (Some r.number)) rest
    by_test false is rest =
        ap (λ (c : Bool). cond c (Some r.number) (first_clash k cs rs)) (untouched_stays k cs r about.0 is).0
        ∙ rest

pub touched_shift : (k : Facts) (cs : List Change) (rs : List Record) → EachIsAbout k rs
    → shift_records k cs rs ≡ map (shift_touched k cs) rs
touched_shift k cs [] about = refl
touched_shift k cs (r ∷ rs) about =
    ap (λ (x : Record). x ∷ shift_records k cs rs) (by_test (touches k cs r) refl)
    ∙ ap (λ (xs : List Record). shift_touched k cs r ∷ xs) (touched_shift k cs rs about.1)
  where
    by_test : (b : Bool) → touches k cs r ≡ b → shift_record k cs r ≡ cond b (shift_record k cs r) r
    by_test true is = refl
    by_test false is = (untouched_stays k cs r about.0 is).1
