use Rattle.std.proofs.Common.{Ok, Err, refl}
use Rattle.hd_attend.proofs.Attended.{attends_passed, attends_piece, on_after}
use Rattle.hd_attend.proofs.Feeding.{piece_logged}
use Rattle.hd_attend.specs.declared.fault.AttendFault.TheVariants.{Write, Ended}
use Rattle.hd_attend.proofs.attending.answer_piece.Goals as goal

pub returns-in_err-write_all-clause-attends : goal.returns-in_err-write_all-clause-attends
returns-in_err-write_all-clause-attends g c =
    let fed = c.feed_logged-fed.ensures.fed in
    let logged = piece_logged _ _ _ _ _ _ _ _ _ _ _ _ _ _ _ fed.fed c.feed_logged-fed.ensures.logged
    c.feed_logged-fed.ensures.silent c.clear.ensures.items fed.extends.items in
    let wrote = c.in_err-write_all.ensures.wrote in (
      fed.did,
      fed.works,
      attends_passed _ _ _ _ _ _ _ _ _ _ _ Write c.from_residual.ensures.0 c.from_residual.ensures.1
          (attends_piece _ _ _ _ _ _ _ _ _ _ fed.fed _ _ _ _
          (Err Write) _ _ _ wrote.0 c.requires.piece.0 c.requires.piece.1 logged fed.known
          c.clear.ensures.items fed.extends.items c.as_slice.ensures.value wrote.1 wrote.2 tt),
    )

pub returns-in_err-fed-clause-attends : goal.returns-in_err-fed-clause-attends
returns-in_err-fed-clause-attends g c =
    let fed = c.feed_logged-fed.ensures.fed in
    let logged = piece_logged _ _ _ _ _ _ _ _ _ _ _ _ _ _ _ fed.fed c.feed_logged-fed.ensures.logged
    c.feed_logged-fed.ensures.silent c.clear.ensures.items fed.extends.items in
    let why = c.in_err-fed.field-0.0 in (
      fed.did,
      fed.works,
      attends_passed _ _ _ _ _ _ _ _ _ _ _
          (Ended why) c.from_residual-in_err-fed.ensures.0 c.from_residual-in_err-fed.ensures.1
          (attends_piece _ _ _ _ _ _ _ _ _ _ fed.fed _ _ _ _
          (Err (Ended why)) _ _ _ _ c.requires.piece.0 c.requires.piece.1 logged fed.known
          c.clear.ensures.items fed.extends.items c.as_slice.ensures.value refl
          c.in_ok-write_all.ensures.wrote c.in_err-fed.ensures.ended),
    )

pub returns-clause-attends : goal.returns-clause-attends
returns-clause-attends g c =
    let fed = c.feed_logged-fed.ensures.fed in
    let logged = piece_logged _ _ _ _ _ _ _ _ _ _ _ _ _ _ _ fed.fed c.feed_logged-fed.ensures.logged
    c.feed_logged-fed.ensures.silent c.clear.ensures.items fed.extends.items in (
      fed.did,
      fed.works,
      attends_piece _ _ _ _ _ _ _ _ _ _ fed.fed _ _ _ _
          (Ok tt) _ _ _ _ c.requires.piece.0 c.requires.piece.1 logged fed.known
          c.clear.ensures.items fed.extends.items c.as_slice.ensures.value refl c.in_ok-write_all.ensures.wrote
          (on_after _ _ _ _ _ _ _ _ _ _ fed.fed c.in_ok-fed.ensures.open),
    )
