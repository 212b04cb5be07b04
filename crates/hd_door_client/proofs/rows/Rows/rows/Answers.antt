use Rattle.serde_json.specs.View.{view}
use Rattle.hd_door_client.proofs.Lasts.{rows_before}
use Rattle.hd_door_client.proofs.rows.Rows.rows.Goals as goal

pub returns-in-Some-Some : goal.returns-in-Some-Some
returns-in-Some-Some c =
    rows_before (view c.args.self.now.array) _ _ _ _ c.all-all.ensures c.in-Some-Some.ensures
    c.in-Some-Some.ensures'.cases.0
