use Rattle.std.proofs.Common.{ap, ◌∙◌, map}
use Rattle.csv.specs.Records.{fields_of}
use Rattle.hd_import.specs.Faults.{headings_of}
use Rattle.hd_import.specs.Unused.{unused_of}
use Rattle.hd_import.proofs.UnusedLemmas.{headings_first}
use Rattle.hd_import.proofs.unused.unused_headings.Goals as goal

pub returns-in-Err-clause-refused : goal.returns-in-Err-clause-refused
returns-in-Err-clause-refused c =
    λ settings. c.fault_of_file.ensures settings c.args.sheet c.in-Err.ensures.refused

pub returns-in-Ok-unused_of-clause-unused : goal.returns-in-Ok-unused_of-clause-unused
returns-in-Ok-unused_of-clause-unused c = (
  map fields_of c.in-Ok.rows.items,
  c.in-Ok.ensures.rows,
  c.in-Ok-unused_of.ensures
      ∙ ap (unused_of c.args.sheet)
      (headings_first c.as_slice.result.now c.in-Some.headings.now c.in-Some.ensures.value)
      ∙ ap (λ rows. unused_of c.args.sheet (headings_of (map fields_of rows))) c.as_slice.ensures.value,
)
