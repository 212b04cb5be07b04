use Rattle.std.proofs.lemmas.Bool.Decides.{same_from_decides}
use Rattle.std.proofs.lemmas.Slice.Eq.{bytes_eq-Decides}
use Rattle.hd_door_client.specs.Answers.{is_length}
use Rattle.hd_door_client.proofs.answer.is_length.Goals as goal

pub returns : goal.returns
unfolding is_length
returns c = same_from_decides _ _ c.eq_ignore_ascii_case.ensures.test (bytes_eq-Decides _ _)
