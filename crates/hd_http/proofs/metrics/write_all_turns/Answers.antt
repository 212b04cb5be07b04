use Rattle.hd_http.specs.Metrics.{all_turns_text}
use Rattle.hd_http.proofs.Appends.{three_pieces}
use Rattle.hd_http.proofs.metrics.write_all_turns.Goals as goal

pub returns : goal.returns
unfolding all_turns_text
returns c = three_pieces _ _ _ _ _ _ _
    c.in_ok-extend_from_slice.ensures.items c.in_ok-extend_from_slice-2.ensures.items c.in_ok-write_each.ensures
