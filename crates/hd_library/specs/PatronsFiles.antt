-- Patrons' files: what is in store where the path of one is given.
use Rattle.std.specs.Prelude.{◌≡◌, ℕ, Option, None, Some, List}
use Rattle.hd_catalogue.specs.Contents.{Contents}
use Rattle.hd_catalogue.specs.Files.{lines_of}
use Rattle.hd_patrons.specs.Files.{IsFile}
use Rattle.hd_patrons.specs.Stored.{Stored}

-- there is a file that is accepted over this catalogue, and what is in store is what it says
abbrev pub AreOfFile : Contents → Option Stored → Type 0
AreOfFile k patrons = (file : List ℕ) × IsFile k (lines_of file) patrons

-- a file's where the path of one is given, else nothing
abbrev pub ArePatronsAt : {Path : Type 0} → Contents → Option Path → Option Stored → Type 0
ArePatronsAt k None patrons = patrons ≡ None
ArePatronsAt k (Some path) patrons = AreOfFile k patrons
