use Rattle.std.proofs.Common.{Bor, List, ℕ, ◌≡◌, ◌∙◌, sym, ap, refl, inl, inr, false, map, Some, ◌∷◌}
use Rattle.std.proofs.Common.{◌++◌, [], arith}
use Rattle.std.specs.List.{filter}
use Rattle.std.specs.Str as Str
use Rattle.std.proofs.lemmas.Grind.{common_steps}
use Rattle.csv.specs.Reading.{Reached, strip_bom}
use Rattle.csv.specs.Records.{fields_of}
use Rattle.csv.specs.declared.parser.Config.{Config}
use Rattle.csv.specs.declared.parser.State.TheVariants as st
use Rattle.csv.specs.declared.reader.Trim.TheVariants as trim
use Rattle.csv.proofs.ReadFacts.{rows-end, rows-more}
use Rattle.hd_import.specs.Rows.{has_value, rules_with, rows_of}
use Rattle.hd_import.proofs.RowLemmas.{rows_more}
use Rattle.hd_import.proofs.rows.rows_of_text.Goals as goal

pub loop-row-init : goal.loop-row-init
unfolding Reached
loop-row-init c =
    let fr = c.from_reader-reader.ensures in
    let start = c.into_iter-row-iterator.ensures.into_iter_gives ∙ refl in
    let rdr = c.into_records-row-items.ensures.rdr in
    let left = c.into_records-row-items.ensures.left in
    let plain : c.from_reader-reader.result.trim ≡ trim.None = cc in
    let bare : c.from_reader-reader.result.has_headers ≡ false = cc in
    let rules = rw (c.delimiter.ensures, c.flexible.ensures, c.has_headers.ensures) at fr.config in
    rw (start, rdr, c.new-rows.ensures.items) record {
      trims = plain;
      ready = inr (inr (bare, fr.headers));
      left = left;
      rules = rules ∙ ap (λ (k : Config). record k { delimiter = c.args.separator }) c.new.ensures.config;
      records = [];
      rest = strip_bom c.args.text.now;
      source = fr.source;
      reached = (sym fr.state, refl);
      rows = refl;
    }

pub loop-row-preserved : goal.loop-row-preserved
loop-row-preserved c =
    let inv = c.loop-row.invariant in
    let reader = c.loop-row.row-iterator.rdr in
    let f = fields_of c.in-Ok.row in
    let s = rw (c.in-Some.is, c.in-Ok.is) at ((c.next.ensures.steps inv.left inv.trims).0 inv.ready) in
    let trimmed : fields_of c.trim.new.self ≡ map Str.trim f = grind (arith, common_steps) in
    let pushed : map fields_of c.push_filled.new.rows.items
    ≡ map fields_of c.loop-row.rows.items ++ filter has_value (fields_of c.trim.new.self ∷ []) =
    grind (arith, common_steps) in
    let m = rows-more (λ (s : Bor (List ℕ)). Some s.now) reader c.next.new.self.rdr f
    (rules_with c.args.separator) st.StartRecord
    (strip_bom c.args.text.now) inv.rest inv.records inv.rules inv.source inv.reached s.0 in
    record {
      trims = s.0.3 ∙ inv.trims;
      ready = inl s.1;
      left = s.3;
      rules = s.0.2 ∙ inv.rules;
      records = inv.records ++ f ∷ [];
      rest = m.0;
      source = m.1;
      reached = m.2;
      rows = pushed ∙ ap (λ rows. rows ++ filter has_value (fields_of c.trim.new.self ∷ [])) inv.rows
          ∙ ap (λ row. rows_of inv.records ++ filter has_value (row ∷ [])) trimmed
          ∙ sym (rows_more inv.records f);
    }

pub returns-clause-rows : goal.returns-clause-rows
returns-clause-rows c =
    let inv = c.loop-row.invariant in
    let reader = c.loop-row.row-iterator.rdr in
    let s = rw c.in-None.is at ((c.next.ensures.steps inv.left inv.trims).0 inv.ready) in (
      inv.records,
      (
        reader.state,
        inv.rest,
        inv.reached,
        rows-end (λ (s : Bor (List ℕ)). Some s.now) reader c.next.new.self.rdr []
            (rules_with c.args.separator) inv.rest inv.rules inv.source s,
      ),
      inv.rows,
    )
