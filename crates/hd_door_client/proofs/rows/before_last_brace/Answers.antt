use Rattle.std.proofs.Common.{[], append-nil, sym}
use Rattle.std.proofs.lemmas.List.{nil_from_length}
use Rattle.hd_door_client.proofs.Fronts.{front_at, no_front, none_behind}
use Rattle.hd_door_client.proofs.rows.before_last_brace.Goals as goal

pub loop-byte-init : goal.loop-byte-init
loop-byte-init c = ([], sym (append-nil _), none_behind 123)

pub returns-then-byte-eq123 : goal.returns-then-byte-eq123
returns-then-byte-eq123 c =
    let left = c.loop-byte.invariant in
    front_at 123 _ _ _ left.0 left.1 (rw c.if-byte-eq123.true at c.in-Some.ensures.cases.0) left.2

pub returns : goal.returns
returns c = λ front object is none.
    let left = c.loop-byte.invariant in
    let nothing = nil_from_length _ c.in_default.ensures.cases in
    absurd (no_front 123 _ _ left.0 left.1 nothing left.2 front object is)
