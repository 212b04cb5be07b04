use Rattle.std.proofs.Common.{sym, ◌∙◌, arith}
use Rattle.hd_import.proofs.QuoteLemmas.{marked, not_marked, too_short}
use Rattle.hd_import.proofs.quotes.mark_length.Goals as goal

pub returns-then-text-lt3-clause-text : goal.returns-then-text-lt3-clause-text
returns-then-text-lt3-clause-text c = too_short c.args.text.now c.if-text-lt3.true

pub returns-then-is_mark-clause-text : goal.returns-then-is_mark-clause-text
returns-then-is_mark-clause-text c =
    marked c.args.text.now _ _ _ (omega arith) (sym c.is_mark.ensures ∙ c.if-is_mark.true)

pub returns-else-is_mark-clause-text : goal.returns-else-is_mark-clause-text
returns-else-is_mark-clause-text c =
    not_marked c.args.text.now _ _ _ (sym c.is_mark.ensures ∙ c.if-is_mark.false)
