use Rattle.std.proofs.lemmas.Result.{IfOk-weaker}
use Rattle.hd_library.proofs.library.Library.before_join.Goals as goal

-- the library before it is opened is a catalogue file's
pub returns-in-Some : goal.returns-in-Some
returns-in-Some c = record {
  files = rw (c.in-Some.is) (
      IfOk-weaker c.opened.result _ _
      (λ library opened. (c.in_ok-library.library, c.in_ok-library.ensures, opened))
      c.opened.ensures
      );
}
