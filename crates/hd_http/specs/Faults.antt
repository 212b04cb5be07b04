-- Why a view can't answer.
use Rattle.std.specs.Prelude.{ℕ, List, codes}
use Rattle.hd_http.specs.declared.view.ViewFault.{ViewFault}
use Rattle.hd_http.specs.declared.view.ViewFault.TheVariants.{Memory, Shut}

-- the fault in words
abbrev pub fault_text : ViewFault → List ℕ
fault_text Memory = codes "out of memory"
fault_text Shut = codes "the journal is shut"
