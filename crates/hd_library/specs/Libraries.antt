-- Libraries: which one is of some files.
use Rattle.std.specs.Prelude.{◌≡◌, ◌↔◌, ◌⊎◌, ℤ, ℕ, IsTrue, IsUtf8, Option, None, Some, List, ◌++◌}
use Rattle.std.specs.Str.Lines.{lines}
use Rattle.sha2.specs.Sha256.{sha256}
use Rattle.hd_catalogue.specs.Contents.{Contents}
use Rattle.hd_catalogue.specs.Files.{IsAccepted, lines_of}
use Rattle.hd_joining.specs.Joining.{IsWhole, grown_from}
use Rattle.hd_opening.specs.Files.{Tells}
use Rattle.hd_zone.specs.Moved.{IsReadAt}
use Rattle.hd_library.specs.declared.library.Library.{Library}

-- what a catalogue file with these lines says, with this offset in place of its own, where there is one
abbrev pub SaysAt : Option ℤ → List (List ℕ) → Contents → Type 0
SaysAt None all k = IsAccepted all k
SaysAt (Some offset) all k = IsReadAt all offset k

-- The library of a catalogue file with these bytes. It goes by this offset, where there is one.
pub record IsOfCatalogue (offset : Option ℤ) (file : List ℕ) (library : Library) : Type 0 where
  pub says : SaysAt offset (lines_of file) library.catalogue
  pub digest : library.digest ≡ sha256 file
  pub text : IsTrue library.is_text ↔ IsUtf8 file

-- The library is another one, whose journal begins as an opening file with these bytes says.
pub record IsOpenedBy (before : Library) (file : List ℕ) (library : Library) : Type 0 where
  pub opening : Tells before.catalogue before.digest (lines_of file) library.catalogue.opening
  pub rest : library.catalogue ≡ record before.catalogue { opening = library.catalogue.opening }
  pub digest : library.digest ≡ sha256 file
  pub text : library.is_text ≡ before.is_text

-- there is a catalogue file of which it is
abbrev pub IsOfSomeCatalogue : Option ℤ → Library → Type 0
IsOfSomeCatalogue offset library = (file : List ℕ) × IsOfCatalogue offset file library

-- there is an opening file by which it begins
abbrev pub IsOpened : Library → Library → Type 0
IsOpened before library = (file : List ℕ) × IsOpenedBy before file library

-- A library of files: of a catalogue file and, where the path of one is given, of an opening file.
abbrev pub IsOfFiles : {Path : Type 0} → Option ℤ → Option Path → Library → Type 0
IsOfFiles offset None library = IsOfSomeCatalogue offset library
IsOfFiles offset (Some path) library =
    (before : Library) × IsOfSomeCatalogue offset before × IsOpened before library

-- What is said by the text of a catalogue file with lines behind its own.
pub record IsGrown (offset : Option ℤ) (file added : List ℕ) (grown : Contents) : Type 0 where
  pub text : List ℕ
  pub behind : IsWhole file → lines_of text ≡ lines_of file ++ lines added
  pub says : SaysAt offset (lines_of text) grown

-- The library is another one whose catalogue file has these bytes, with lines behind its own that joined it: the
-- arrivals of its new copies are behind the rows of its opening, and the digest is the same.
pub record IsJoinedBy (offset : Option ℤ) (before : Library) (file added : List ℕ) (library : Library) : Type 0
  where
    pub grown : Contents
    pub is : IsGrown offset file added grown
    pub catalogue : library.catalogue ≡ grown_from before.catalogue grown
    pub digest : library.digest ≡ before.digest

-- It is that one itself, where nothing joined it, or that one with lines that did.
abbrev pub IsWithJoined : Option ℤ → Library → Library → Type 0
IsWithJoined offset before library =
    (library ≡ before) ⊎ ((file : List ℕ) × (added : List ℕ) × IsJoinedBy offset before file added library)

-- A library of files, with what joined it.
abbrev pub IsJoinedOfFiles : {Path : Type 0} → Option ℤ → Option Path → Library → Type 0
IsJoinedOfFiles offset opening library =
    (before : Library) × IsOfFiles offset opening before × IsWithJoined offset before library
