use Rattle.std.proofs.Common.{◌≡◌, ◌∷◌, ◌++◌, [], ◌∙◌, ap, string_bytes, arith}
use Rattle.std.proofs.lemmas.Grind.{common_steps}
use Rattle.hd_import.specs.Faults.{IsFirstSheetFault}
use Rattle.hd_import.specs.Texts.{first_line}
use Rattle.hd_import.specs.declared.fault.Fault.TheVariants as fault
use Rattle.hd_import.proofs.FaultLemmas.{handed_on, memory_first, of_this_sheet}
use Rattle.hd_import.proofs.WriteLemmas.{all_tables, no_tables, table_step}
use Rattle.hd_import.proofs.importing.lines_of_sheets.Goals as goal

pub loop-sheet-init : goal.loop-sheet-init
loop-sheet-init c =
    let head = first_line c.args.settings.now in
    let put : string_bytes c.put_first_line.new.out ≡ string_bytes c.new-text.result ++ head ++ 10 ∷ [] =
    grind (arith, common_steps) in
    rw c.new-counts.ensures.items
    (no_tables c.args.settings.now c.args.format c.args.sources.now c.all_sheets-sheets.result.now
    (string_bytes c.put_first_line.new.out)
    (put ∙ ap (λ text. text ++ head ++ 10 ∷ []) c.new-text.ensures.bytes))

pub loop-sheet-preserved : goal.loop-sheet-preserved
loop-sheet-preserved c =
    let put = c.in_ok-count.ensures.lines in
    let pushed : c.push.new.self.items ≡ c.loop-sheet.counts.items ++ c.in_ok-count.count ∷ [] =
    grind (arith, common_steps) in
    rw (pushed, put.4)
    (table_step c.args.settings.now c.args.format c.args.sources.now c.all_sheets-sheets.result.now
    c.loop-sheet.sheet-index _
    (string_bytes c.loop-sheet.text) (string_bytes c.put_sheet.new.out) c.loop-sheet.counts.items
    c.file_of-file.result put.0 c.loop-sheet-test.true c.loop-sheet.invariant c.file_of-file.ensures
    put.1 put.2 put.3)

pub returns-clause-lines : goal.returns-clause-lines
returns-clause-lines c =
    all_tables c.args.settings.now c.args.format c.args.sources.now c.all_sheets-sheets.result.now
    c.loop-sheet.sheet-index
    (string_bytes c.loop-sheet.text) c.loop-sheet.counts.items c.all_sheets-sheets.ensures
    (omega arith) c.loop-sheet.invariant

pub returns-in_err-count-clause-refused : goal.returns-in_err-count-clause-refused
returns-in_err-count-clause-refused c =
    let fault = c.in_err-count.field-0.0 in
    let here = of_this_sheet c.args.settings.now c.args.format c.args.sources.now
    c.all_sheets-sheets.result.now c.loop-sheet.sheet-index _ (string_bytes c.loop-sheet.text)
    c.loop-sheet.counts.items c.file_of-file.result fault c.all_sheets-sheets.ensures c.loop-sheet-test.true
    c.loop-sheet.invariant c.file_of-file.ensures c.in_err-count.ensures.refused in
    handed_on c.from_residual.result
    (IsFirstSheetFault c.args.settings.now c.args.format c.args.sources.now) fault here
    c.from_residual.ensures.1

pub returns-then-is_err-clause-refused : goal.returns-then-is_err-clause-refused
returns-then-is_err-clause-refused c =
    memory_first c.args.settings.now c.args.format c.args.sources.now

pub returns-then-is_err-2-clause-refused : goal.returns-then-is_err-2-clause-refused
returns-then-is_err-2-clause-refused c =
    of_this_sheet c.args.settings.now c.args.format c.args.sources.now c.all_sheets-sheets.result.now
    c.loop-sheet.sheet-index _ (string_bytes c.loop-sheet.text) c.loop-sheet.counts.items
    c.file_of-file.result fault.Memory c.all_sheets-sheets.ensures c.loop-sheet-test.true
    c.loop-sheet.invariant c.file_of-file.ensures tt
