-- The faults of a file that are told.
use Rattle.std.specs.Prelude.{◌≡◌, ℕ, ◌+◌, ◌==◌, ◌&&◌, not, nat_lt, List, [], ◌∷◌, ◌++◌, Option, None, Some}
use Rattle.std.specs.Prelude.{if◌then◌else◌, option_map, option_to_list, take}
use Rattle.hd_catalogue.specs.Contents.{Contents}
use Rattle.hd_catalogue.specs.Files.{IsAccepted, IsFirstBad}
use Rattle.hd_catalogue.specs.Lines.{line_cause}
use Rattle.hd_catalogue.specs.declared.cause.CatFault.{CatFault}
use Rattle.hd_catalogue.specs.declared.cause.Cause.{Cause}
use Rattle.hd_diagnosis.specs.Heading.{has_priorities, is_headed}
use Rattle.hd_diagnosis.specs.Known.{contents, nothing_known, with_line}
use Rattle.hd_diagnosis.specs.declared.diagnosing.TheConstants.{MOST_TOLD}
use Rattle.hd_diagnosis.specs.declared.known.Known.{Known}

-- why a line with this number is at fault, after what is known: none is before the file's first fault
abbrev pub cause_at : CatFault → Known → ℕ → List ℕ → Option Cause
cause_at refused known number line =
    if nat_lt number refused.line then None
    else if number == refused.line then Some refused.cause
    else line_cause (contents known) line

abbrev pub fault_at : CatFault → Known → ℕ → List ℕ → Option CatFault
fault_at refused known number line =
    option_map (λ cause. record { line = number; cause = cause }) (cause_at refused known number line)

-- the faults of lines, the first of them with this number, each after what the lines before it define
abbrev pub faults_from : CatFault → Known → ℕ → List (List ℕ) → List CatFault
faults_from refused known number [] = []
faults_from refused known number (line ∷ more) =
    option_to_list (fault_at refused known number line)
    ++ faults_from refused (with_line known line number) (number + 1) more

-- the faults of a file with these lines whose first fault this is; where the first line is none at all, the
-- lines behind it can't be judged
abbrev pub faults_of : CatFault → List (List ℕ) → List CatFault
faults_of refused [] = []
faults_of refused (first ∷ more) =
    (if refused.line == 1 then refused ∷ [] else [])
    ++ (if (refused.line == 1) && not (is_headed first) then []
    else faults_from refused (nothing_known (has_priorities first)) 2 more)

-- Nothing is told of a file that is accepted, and else its faults from the first on, up to so many.
abbrev pub AreTold : List (List ℕ) → List CatFault → Type 0
AreTold all [] = (k : Contents) × IsAccepted all k
AreTold all (refused ∷ more) =
    IsFirstBad all refused × (refused ∷ more ≡ take MOST_TOLD (faults_of refused all))
