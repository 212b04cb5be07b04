-- How a fault is printed.
use Rattle.std.specs.Prelude.{ℕ, List, ◌++◌, codes}
use Rattle.std.specs.Fmt.{decimal}
use Rattle.hd_opening.specs.declared.cause.OpeningFault.{OpeningFault}
use Rattle.hd_opening.specs.declared.cause.OpeningCause.{OpeningCause}
use Rattle.hd_opening.specs.declared.cause.OpeningCause.TheVariants.{Header, Kind, Fields, Text, Number}
use Rattle.hd_opening.specs.declared.cause.OpeningCause.TheVariants.{Unknown, Other, Memory}

abbrev pub cause_text : OpeningCause → List ℕ
cause_text Header = codes "HEADER"
cause_text Kind = codes "KIND"
cause_text Fields = codes "FIELDS"
cause_text Text = codes "TEXT"
cause_text Number = codes "NUMBER"
cause_text Unknown = codes "UNKNOWN"
cause_text Other = codes "OTHER"
cause_text Memory = codes "MEMORY"

-- opening line N: CAUSE
abbrev pub fault_text : OpeningFault → List ℕ
fault_text fault = codes "opening line " ++ decimal fault.line ++ codes ": " ++ cause_text fault.cause
