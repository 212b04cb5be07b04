use Rattle.std.proofs.Common.{[], inl, inr, refl}
use Rattle.hd_turn_store.specs.Kept.{new_head}
use Rattle.hd_journal_file.specs.declared.open_fault.OpenFault.TheVariants.{Memory}
use Rattle.hd_journal_file.proofs.Results.{passes}
use Rattle.hd_journal_file.proofs.opening.open_files.Goals as goal

pub durable-requires-clause-begun : goal.durable-requires-clause-begun
durable-requires-clause-begun g c clean new =
    let same = c.in_ok-conn.ensures.begun new in
    let early = c.in_ok-conn.ensures.clean (c.in_ok-taken.ensures.clean clean) in
    let holds = c.in_ok-taken.ensures.same clean (new_head c.args.wanted.now.digest.now) []
    (rw same.0 (c.requires.file.begun early new).holds) in
    (rw same.1 c.requires.empty, (_, holds, refl))

pub durable-requires-clause-found : goal.durable-requires-clause-found
durable-requires-clause-found g c clean old head rows found =
    let late = c.in_ok-taken.ensures.clean clean in
    let seen = c.requires.file.seen (c.in_ok-conn.ensures.clean late) old head rows found in
    let taken = c.in_ok-conn.ensures.taken late old head rows seen in
    let holds = c.in_ok-taken.ensures.same clean _ rows taken.holds in
    record { may_be = taken.may_be; holds = holds; are = taken.are }

pub returns-clause-begun : goal.returns-clause-begun
returns-clause-begun g c clean new =
    let last = rw c.in_ok-durable.ensures.file.0 at clean in
    let new = rw c.in_ok-durable.ensures.file.1 at new in
    let same = c.in_ok-conn.ensures.begun new in
    let early = c.in_ok-conn.ensures.clean (c.in_ok-taken.ensures.clean last) in
    let begun = c.requires.file.begun early new in
    record {
      none = begun.none;
      empty = rw (c.in_ok-durable.ensures.book.1, same.1) c.requires.empty;
      holds = rw c.in_ok-durable.ensures.file.0 (c.in_ok-taken.ensures.same last _ [] (rw same.0 begun.holds));
    }

pub returns-clause-marked : goal.returns-clause-marked
returns-clause-marked g c clean for =
    rw c.in_ok-durable.ensures.file.0
    (c.in_ok-taken.ensures.marked (rw c.in_ok-durable.ensures.file.0 at clean) for)

pub returns-in_err-conn-clause-why : goal.returns-in_err-conn-clause-why
returns-in_err-conn-clause-why g c =
    passes c.from_residual.result c.in_err-conn.field-0.0 _ c.from_residual.ensures.1
    (inl c.in_err-conn.ensures.why)

pub returns-in_err-taken-clause-why : goal.returns-in_err-taken-clause-why
returns-in_err-taken-clause-why g c =
    let why = c.in_err-taken.ensures.why in
    passes c.from_residual-in_err-taken.result c.in_err-taken.field-0.0 _ c.from_residual-in_err-taken.ensures.1
    (inr (inl (why.0, (_, why.1))))

pub returns-in_err-durable-clause-why : goal.returns-in_err-durable-clause-why
returns-in_err-durable-clause-why g c =
    passes c.from_residual-in_err-durable.result Memory _ c.from_residual-in_err-durable.ensures.1
    (inr (inr refl))
