use Rattle.std.proofs.Common.{◌+◌}
use Rattle.std.specs.List.{AllWithin}
use Rattle.hd_catalogue.specs.Contents.{Fits, facts_of}
use Rattle.hd_catalogue.proofs.catalogue.Catalogue.first_unfit.Given as goal

-- each row so far fits
abbrev pub invariant-loop-index : goal.invariant-loop-index
invariant-loop-index g l = AllWithin (Fits (facts_of l.self) (l.last + 1)) l.rows 0 l.index
