use Rattle.std.proofs.Common.{arith, ◌∙◌, ap, refl, sym, subst, ℕ, List}
use Rattle.hd_catalogue.specs.Contents.{facts_of}
use Rattle.hd_clash.specs.declared.key.Key.TheVariants as key
use Rattle.hd_index.specs.Rows.{places_of}
use Rattle.hd_rules.specs.Record.{Record}
use Rattle.hd_rules.specs.Run.{Rising}
use Rattle.hd_records.specs.Index.{asks_about, records_about}
use Rattle.hd_records.specs.Looks.{after_looks, looks_to}
use Rattle.hd_records.specs.RecordsValue.{AreListed, RecordsValue}
use Rattle.hd_records.specs.Slots.{records_there}
use Rattle.hd_records.specs.Survivors.{survivors_of, target_of}
use Rattle.hd_records.specs.Titles.{title_of_cancel}
use Rattle.hd_records.proofs.Filters.{rising_filter}
use Rattle.hd_records.proofs.Numbered.{slots_rise}
use Rattle.hd_records.proofs.Standing.{about_there}
use Rattle.hd_records.proofs.Titles.{target_of_title}
use Rattle.hd_records.proofs.records.Records.newest.Goals as goal

pub newest-requires : goal.newest-requires
newest-requires g c =
    let k = facts_of c.args.catalogue.now in
    let slots = c.self.inside.slots.items in
    let t : ℕ = title_of_cancel k c.args.what.now in
    let listed = subst (AreListed k) (sym c.self.view_is) c.requires.listed in
    let numbers =
    c.of_title-numbers.ensures ∙ ap (λ (n : ℕ). places_of n c.self.inside.index.titles) c.title_of.ensures
    ∙ listed (key.Title t) in
    let there =
    about_there k (key.Title t) slots slots c.of_title-numbers.result.now c.self.invariant.0 refl
    numbers in
    subst (λ (rs : List Record). Rising 1 (survivors_of rs)) (sym there)
    (rising_filter (asks_about k (key.Title t)) 1 (records_there slots)
    (slots_rise 0 1 slots (omega arith) c.self.invariant.0))

pub returns-clause-target : goal.returns-clause-target
returns-clause-target g c =
    let k = facts_of c.args.catalogue.now in
    let slots = c.self.inside.slots.items in
    let t : ℕ = title_of_cancel k c.args.what.now in
    let listed = subst (AreListed k) (sym c.self.view_is) c.requires.listed in
    let numbers =
    c.of_title-numbers.ensures ∙ ap (λ (n : ℕ). places_of n c.self.inside.index.titles) c.title_of.ensures
    ∙ listed (key.Title t) in
    let there =
    about_there k (key.Title t) slots slots c.of_title-numbers.result.now c.self.invariant.0 refl
    numbers in
    c.newest.ensures.target ∙ ap (target_of c.args.terminal c.args.what.now) there
    ∙ sym (target_of_title k c.args.terminal c.args.what.now (records_there slots))
    ∙ ap (λ (x : RecordsValue). target_of c.args.terminal c.args.what.now x.records) c.self.view_is

pub returns-clause-work : goal.returns-clause-work
returns-clause-work g c =
    let k = facts_of c.args.catalogue.now in
    let slots = c.self.inside.slots.items in
    let t : ℕ = title_of_cancel k c.args.what.now in
    let listed = subst (AreListed k) (sym c.self.view_is) c.requires.listed in
    let numbers =
    c.of_title-numbers.ensures ∙ ap (λ (n : ℕ). places_of n c.self.inside.index.titles) c.title_of.ensures
    ∙ listed (key.Title t) in
    let there =
    about_there k (key.Title t) slots slots c.of_title-numbers.result.now c.self.invariant.0 refl
    numbers in
    c.newest.ensures.work
    ∙ ap (λ (rs : List Record). after_looks (looks_to c.newest.result rs) c.args.meter.now) there
    ∙ ap (λ (x : RecordsValue). after_looks
    (looks_to c.newest.result (records_about k (key.Title t) x.records)) c.args.meter.now) c.self.view_is
