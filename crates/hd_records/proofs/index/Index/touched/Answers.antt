use Rattle.std.proofs.Common.{◌∙◌, ap, map}
use Rattle.hd_catalogue.specs.Contents.{facts_of}
use Rattle.hd_clash.specs.declared.key.Key.{Key}
use Rattle.hd_index.specs.Rising.{above}
use Rattle.hd_records.specs.Index.{listed_under}
use Rattle.hd_records.proofs.Touched.{union_is}
use Rattle.hd_records.proofs.index.Index.touched.Goals as goal

pub returns : goal.returns
returns g c = λ records rising listed.
    union_is c.unions_have_each_once.ensures (facts_of c.args.catalogue.now) c.args.changes.now records
    c.args.self.now c.of-keys.result
    c.args.number c.after_any.result rising listed c.of-keys.ensures.touched
    (c.after_any.ensures
    ∙ ap (map (λ (x : Key). above c.args.number (listed_under x c.args.self.now))) c.keys.ensures.keys)
