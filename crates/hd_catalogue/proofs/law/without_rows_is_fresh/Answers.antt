use Rattle.std.proofs.Common.{ap}
use Rattle.hd_rules.specs.Desk.{at_home}
use Rattle.hd_rules.specs.Facts.{Opening}
use Rattle.hd_rules.specs.Rows.{with_rows}
use Rattle.hd_catalogue.specs.Contents.{OpeningRows, facts_of}
use Rattle.hd_catalogue.proofs.law.without_rows_is_fresh.Goals as goal

pub returns : goal.returns
unfolding facts_of
returns c k none =
    ap (λ (o : OpeningRows). let told : Opening = record {
      desk = with_rows (facts_of k).title_of (at_home (facts_of k).home) o.rows;
      last = o.last;
    } in told) none
