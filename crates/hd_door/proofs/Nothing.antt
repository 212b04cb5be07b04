-- Of nothing no head is made.
use Rattle.std.proofs.Common.{◌≡◌, ◌++◌, [], ap, arith, length, length-append}
use Rattle.httparse.specs.Grammar.{HasNoRequest, print_request}

-- a head has its blanks at least
pub no_head_in_nothing : HasNoRequest []
unfolding print_request
no_head_in_nothing head rest reads =
    let long : 0 ≡ length (print_request head ++ rest) = ap length reads.1 in
    omega (arith, simp length-append at long)
