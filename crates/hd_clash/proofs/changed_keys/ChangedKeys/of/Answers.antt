use Rattle.std.proofs.Common.{◌≡◌, [], sym, subst, arith, List}
use Rattle.std.proofs.lemmas.Grind.{common_steps}
use Rattle.hd_catalogue.specs.Contents.{facts_of}
use Rattle.hd_clash.specs.declared.key.Key.{Key}
use Rattle.hd_clash.specs.ChangedKeys.{AreDistinct, HaveSameKeys, with_keys}
use Rattle.hd_clash.specs.CommandKeys.{has_key, keys_of_command}
use Rattle.hd_clash.specs.Keys.{keys_of}
use Rattle.hd_clash.proofs.Once.{same_keys, distinct_all, alike}
use Rattle.hd_clash.proofs.changed_keys.ChangedKeys.of.Goals as goal

pub returns-clause-same : goal.returns-clause-same
returns-clause-same g c =
    let all : List Key = keys_of (facts_of c.args.catalogue.now) c.args.changes.now in
    let is : c.loop-change.keys ≡ with_keys [] all = grind (arith, common_steps) in
    subst (λ (keys : List Key). HaveSameKeys keys all) (sym is) (same_keys all)

pub returns-clause-once : goal.returns-clause-once
returns-clause-once g c =
    let all : List Key = keys_of (facts_of c.args.catalogue.now) c.args.changes.now in
    let is : c.loop-change.keys ≡ with_keys [] all = grind (arith, common_steps) in
    subst AreDistinct (sym is) (distinct_all [] all tt)

pub returns-clause-touched : goal.returns-clause-touched
returns-clause-touched g c r =
    let all : List Key = keys_of (facts_of c.args.catalogue.now) c.args.changes.now in
    let is : c.loop-change.keys ≡ with_keys [] all = grind (arith, common_steps) in
    alike (has_key (keys_of_command (facts_of c.args.catalogue.now) r.command)) c.loop-change.keys all
    (subst (λ (keys : List Key). HaveSameKeys keys all) (sym is) (same_keys all))
