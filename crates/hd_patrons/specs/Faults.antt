-- How a fault is printed.
use Rattle.std.specs.Prelude.{ℕ, List, ◌++◌, codes}
use Rattle.std.specs.Fmt.{decimal}
use Rattle.hd_catalogue.specs.Causes.{cause_text}
use Rattle.hd_patrons.specs.declared.fault.PatronsFault.{PatronsFault}

-- patrons line N: CAUSE
abbrev pub fault_text : PatronsFault → List ℕ
fault_text fault = codes "patrons line " ++ decimal fault.line ++ codes ": " ++ cause_text fault.cause
