use Rattle.std.proofs.Common.{arith, ◌≡◌, ◌++◌, ◌∷◌, [], ◌∙◌, ◌+◌, ◌<◌, ap, sym, subst, length, List, Option}
use Rattle.std.proofs.Common.{Some, cond}
use Rattle.std.proofs.lemmas.List.{length_push}
use Rattle.hd_catalogue.specs.Contents.{facts_of}
use Rattle.hd_clash.specs.CommandKeys.{has_key, keys_of_command}
use Rattle.hd_index.specs.Rising.{AreBelow}
use Rattle.hd_rules.specs.declared.commands.Survivor.{Survivor}
use Rattle.hd_rules.specs.Record.{Record}
use Rattle.hd_records.specs.Index.{asks_about, numbers_of, records_about}
use Rattle.hd_records.specs.RecordsValue.{AreListed, RecordsValue}
use Rattle.hd_records.specs.Slots.{AreNumbered, records_there}
use Rattle.hd_records.proofs.Listed.{all_below, one_more}
use Rattle.hd_records.proofs.Numbered.{numbered_more, taken_joined}
use Rattle.hd_records.proofs.records.Records.push.Goals as goal

pub push-requires-clause-above : goal.push-requires-clause-above
push-requires-clause-above g c x =
    let k = facts_of c.args.catalogue.now in
    let slots = c.self.inside.slots.items in
    let listed = subst (AreListed k) (sym c.self.view_is) c.requires.listed in
    let number : c.args.new.now.number ≡ length c.self.inside.slots.items + 1 =
    subst (λ (v : RecordsValue). c.args.new.now.number ≡ v.last + 1) (sym c.self.view_is) c.requires.number in
    let same : c.survivor-survivor.result.now.number
    ≡ c.args.new.now.number = ap (λ (s : Survivor). s.number) c.survivor-survivor.ensures in
    let low : 0 + length slots < c.survivor-survivor.result.now.number = omega (arith, number, same) in
    subst (AreBelow c.survivor-survivor.result.now.number) (sym (listed x))
    (all_below (asks_about k x) c.survivor-survivor.result.now.number 0 slots low c.self.invariant.0)

pub invariant_of-self : goal.invariant_of-self
invariant_of-self g c =
    let slots = c.self.inside.slots.items in
    let number : c.args.new.now.number ≡ length c.self.inside.slots.items + 1 =
    subst (λ (x : RecordsValue). c.args.new.now.number ≡ x.last + 1) (sym c.self.view_is) c.requires.number in
    let last : length c.self.inside.slots.items + 1 < 4294967296 =
    subst (λ (x : RecordsValue). x.last + 1 < 4294967296) (sym c.self.view_is) c.requires.room.number in (
      subst (AreNumbered 0) (sym c.push-2.ensures.items)
          (numbered_more 0 c.args.new.now.number slots c.args.new.now (omega (arith, number)) (omega arith)
          c.self.invariant.0),
      omega (
        arith,
        last,
        ap (λ (xs : List (Option Record)). length xs) c.push-2.ensures.items,
        length_push
            slots (Some c.args.new.now),
      ),
    )

pub returns-clause-records : goal.returns-clause-records
returns-clause-records g c =
    let slots = c.self.inside.slots.items in
    ap records_there c.push-2.ensures.items ∙ taken_joined slots (Some c.args.new.now ∷ [])
    ∙ ap (λ (x : RecordsValue). x.records ++ c.args.new.now ∷ []) c.self.view_is

pub returns-clause-listed : goal.returns-clause-listed
returns-clause-listed g c x =
    let k = facts_of c.args.catalogue.now in
    let slots = c.self.inside.slots.items in
    let r : Record = c.args.new.now in
    let listed = subst (AreListed k) (sym c.self.view_is) c.requires.listed in
    let keys : c.of-keys.result ≡ keys_of_command k r.command =
    c.of-keys.ensures ∙ ap (λ (s : Survivor). keys_of_command k s.command) c.survivor-survivor.ensures in
    let number : c.survivor-survivor.result.now.number
    ≡ r.number = ap (λ (s : Survivor). s.number) c.survivor-survivor.ensures in
    let records : records_there c.push-2.new.self.items ≡ records_there slots ++ r ∷ [] =
    ap records_there c.push-2.ensures.items ∙ taken_joined slots (Some r ∷ []) in
    c.push.ensures x
    ∙ (λ j. cond (has_key (keys j) x) (listed x j ++ number j ∷ []) (listed x j))
    ∙ sym (one_more (asks_about k x) (records_there slots) r)
    ∙ ap (λ (rs : List Record). numbers_of (records_about k x rs)) (sym records)
