use Rattle.hd_http.specs.Replies.{policy_text}
use Rattle.hd_http.proofs.Appends.{three_pieces}
use Rattle.hd_http.proofs.reply.write_policy.Goals as goal

pub returns : goal.returns
unfolding policy_text
returns c = three_pieces _ _ _ _ _ _ _
    c.in_ok-extend_from_slice.ensures.items c.in_ok-extend_from_slice-2.ensures.items
    c.in_ok-extend_from_slice-3.ensures.items
