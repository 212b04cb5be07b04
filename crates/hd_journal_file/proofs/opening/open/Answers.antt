use Rattle.std.proofs.Common.{ap, inl, inr, refl}
use Rattle.std.proofs.lemmas.Result.{IfErr-weaker, MatchResult-weaker}
use Rattle.hd_journal_file.specs.declared.open_fault.OpenFault.TheVariants.{File}
use Rattle.hd_journal_file.proofs.Results.{on_ok_and, passes}
use Rattle.hd_journal_file.proofs.opening.open.Goals as goal

pub open_files-requires-clause-file : goal.open_files-requires-clause-file
open_files-requires-clause-file g c =
    let e = c.in_ok-conn.ensures in record {
      begun = λ clean new. record { none = e.new clean new; empty = refl; holds = e.begun clean new };
      seen = e.restored;
    }

pub returns-in_err-conn-clause-why : goal.returns-in_err-conn-clause-why
returns-in_err-conn-clause-why g c =
    passes c.from_residual.result (File c.in_err-conn.field-0.0) _ c.from_residual.ensures.1
    (MatchResult-weaker c.args.connected c.in_err-conn.ensures.why
    (λ conn why. inl (record { why = c.in_err-conn.field-0.0; told = refl; refuses = why }))
    (λ e why. ap File why))

pub returns-clause-why : goal.returns-clause-why
returns-clause-why g c =
    IfErr-weaker c.open_files.result _ _ (λ fault why.
    on_ok_and c.args.connected _ _ _ c.in_ok-conn.ensures.read (λ conn reads.
    inr (record { opened = _; is_new = _; reads = reads; refuses = why }))) c.open_files.ensures.why
