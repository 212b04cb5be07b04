use Rattle.hd_http.specs.Replies.{length_text}
use Rattle.hd_http.proofs.Appends.{three_pieces}
use Rattle.hd_http.proofs.reply.write_length.Goals as goal

pub returns : goal.returns
unfolding length_text
returns c = three_pieces _ _ _ _ _ _ _
    c.in_ok-extend_from_slice.ensures.items c.in_ok-write_number.ensures
    c.in_ok-extend_from_slice-2.ensures.items
