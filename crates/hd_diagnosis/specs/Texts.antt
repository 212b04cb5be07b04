-- How faults and warnings are printed.
use Rattle.std.specs.Prelude.{ℕ, List, ◌++◌, codes, string_bytes}
use Rattle.std.specs.Fmt.{decimal}
use Rattle.hd_catalogue.specs.Causes.{cause_text}
use Rattle.hd_diagnosis.specs.declared.fault.Fault.{Fault}
use Rattle.hd_diagnosis.specs.declared.warning.Warning.{Warning}

-- LINE: CAUSE: words
abbrev pub fault_text : Fault → List ℕ
fault_text fault =
    decimal fault.at.line ++ codes ": " ++ cause_text fault.at.cause ++ codes ": " ++ string_bytes fault.words

-- LINE: warning: words
abbrev pub warning_text : Warning → List ℕ
warning_text warning = decimal warning.line ++ codes ": warning: " ++ string_bytes warning.words
