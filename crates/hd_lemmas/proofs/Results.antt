-- Values and errors.
use Rattle.std.proofs.Common.{◌≡◌, false, Result, Ok, Err, OnOk, is_err}
use Rattle.std.specs.Result.{OnErr}

-- what holds anyway holds where there is an error
pub on_err : {T E : Type 0} (result : Result T E) (P : Type 0) → P → OnErr result P
on_err (Ok value) P holds = tt
on_err (Err why) P holds = holds

-- what holds of a value holds where the result is no error
pub when_ok : {T E : Type 0} (r : Result T E) (P : Type 0) → OnOk r P → is_err r ≡ false → P
when_ok (Ok x) P h e = h
when_ok (Err x) P h e = cc
