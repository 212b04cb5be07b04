use Rattle.std.proofs.Common.{sym, ap, refl, ◌∙◌, false, arith}
use Rattle.csv.specs.declared.parser.State.TheVariants as state
use Rattle.hd_import.specs.Quotes.{is_left_open, is_open_text}
use Rattle.hd_import.specs.Rows.{rules_with}
use Rattle.hd_import.proofs.QuoteLemmas.{goes_behind, goes_further, left_open_at_end}
use Rattle.hd_import.proofs.quotes.open_quote.Goals as goal

pub loop-place-init : goal.loop-place-init
loop-place-init c = record {
  at = state.StartRecord;
  over = false;
  reads = (refl, refl);
  rest = ap (is_left_open (rules_with c.args.separator) state.StartRecord false)
      (sym c.mark_length-place.ensures.text);
}

pub loop-place-preserved : goal.loop-place-preserved
loop-place-preserved c =
    let inv = c.loop-place.invariant in
    let reads = c.after-next.ensures inv.at inv.over inv.reads in
    let m = goes_further (rules_with c.args.separator) inv.at inv.over c.args.text.now c.loop-place.place _
    (is_open_text c.args.separator c.args.text.now) c.after-next.result c.loop-place-test.true inv.rest reads
    (sym (c.goes_on.ensures inv.at _ inv.over _ inv.reads reads) ∙ c.if-goes_on.false) in
    record { at = m.0; over = m.1; reads = m.2; rest = m.3 }

pub returns-then-goes_on : goal.returns-then-goes_on
returns-then-goes_on c =
    let inv = c.loop-place.invariant in
    let reads = c.after-next.ensures inv.at inv.over inv.reads in
    sym (goes_behind (rules_with c.args.separator) inv.at inv.over c.args.text.now c.loop-place.place _
    (is_open_text c.args.separator c.args.text.now) c.loop-place-test.true inv.rest
    (sym (c.goes_on.ensures inv.at _ inv.over _ inv.reads reads) ∙ c.if-goes_on.true))

pub returns-then-is_within : goal.returns-then-is_within
returns-then-is_within c =
    let inv = c.loop-place.invariant in
    sym (inv.rest ∙ left_open_at_end (rules_with c.args.separator) inv.at inv.over c.args.text.now
    c.loop-place.place (omega arith) ∙ sym (c.is_within.ensures inv.at inv.over inv.reads)
    ∙ c.if-is_within.true)

pub returns-else-is_within : goal.returns-else-is_within
returns-else-is_within c =
    let inv = c.loop-place.invariant in
    sym (inv.rest ∙ left_open_at_end (rules_with c.args.separator) inv.at inv.over c.args.text.now
    c.loop-place.place (omega arith) ∙ sym (c.is_within.ensures inv.at inv.over inv.reads)
    ∙ c.if-is_within.false)
