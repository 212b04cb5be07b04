-- How a fault is printed.
use Rattle.std.specs.Prelude.{ℕ, List, ◌++◌, codes}
use Rattle.std.specs.Fmt.{decimal}
use Rattle.hd_catalogue.specs.declared.cause.CatFault.{CatFault}
use Rattle.hd_catalogue.specs.declared.cause.Cause.{Cause}
use Rattle.hd_catalogue.specs.declared.cause.Cause.TheVariants.{Header, Kind, Fields, Text, Number, Double}
use Rattle.hd_catalogue.specs.declared.cause.Cause.TheVariants.{Unknown, Limit, Memory}

abbrev pub cause_text : Cause → List ℕ
cause_text Header = codes "HEADER"
cause_text Kind = codes "KIND"
cause_text Fields = codes "FIELDS"
cause_text Text = codes "TEXT"
cause_text Number = codes "NUMBER"
cause_text Double = codes "DOUBLE"
cause_text Unknown = codes "UNKNOWN"
cause_text Limit = codes "LIMIT"
cause_text Memory = codes "MEMORY"

-- line N: CAUSE
abbrev pub fault_text : CatFault → List ℕ
fault_text fault = codes "line " ++ decimal fault.line ++ codes ": " ++ cause_text fault.cause
