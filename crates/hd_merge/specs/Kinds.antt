-- Kinds of names: how many a catalogue has of each, and the number of a name.
use Rattle.std.specs.Prelude.{ℕ, List, Option, None, Some, codes, if◌then◌else◌}
use Rattle.std.specs.Str.{bytes_eq}
use Rattle.hd_rules.specs.Facts.{Facts}
use Rattle.hd_rules.specs.Numbers.{Count}
use Rattle.hd_catalogue.specs.Contents.{Contents, branch_number, copy_number, patron_number, title_number}
use Rattle.hd_merge.specs.declared.kind.NameKind.{NameKind}
use Rattle.hd_merge.specs.declared.kind.NameKind.TheVariants.{Branch, Patron, Title, Copy}

-- the kind whose lines begin with this value
abbrev pub kind_of : List ℕ → Option NameKind
kind_of letter =
    if bytes_eq letter (codes "B") then Some Branch
    else if bytes_eq letter (codes "P") then Some Patron
    else if bytes_eq letter (codes "T") then Some Title
    else if bytes_eq letter (codes "C") then Some Copy
    else None

-- how many names of a kind there are
abbrev pub count_of : Facts → NameKind → Count
count_of k Branch = k.branches
count_of k Patron = k.patrons
count_of k Title = k.titles
count_of k Copy = k.copies

-- the number of a name of a kind, where there is one
abbrev pub number_named : Contents → NameKind → List ℕ → Option ℕ
number_named k Branch name = branch_number k name
number_named k Patron name = patron_number k name
number_named k Title name = title_number k name
number_named k Copy name = copy_number k name
