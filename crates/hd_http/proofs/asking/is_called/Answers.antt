use Rattle.std.proofs.lemmas.Bool.Decides.{same_from_decides}
use Rattle.std.proofs.lemmas.Slice.Eq.{bytes_eq-Decides}
use Rattle.hd_http.specs.Asking.{is_called}
use Rattle.hd_http.proofs.asking.is_called.Goals as goal

pub returns : goal.returns
unfolding is_called
returns c = same_from_decides _ _ c.eq_ignore_ascii_case.ensures.test (bytes_eq-Decides _ _)
