-- What a folder has after a change of one name.
use Rattle.std.proofs.Common.{arith, ◌≡◌, ◌≢◌, ℕ, ◌==◌, Bool, true, false, ◌&&◌, Option, Some, None, List}
use Rattle.std.proofs.Common.{refl, ap, sym, ◌∙◌}
use Rattle.hd_periods.specs.declared.name.FileKind.{FileKind}
use Rattle.hd_periods.specs.declared.name.FileKind.TheVariants.{Catalogue, Opening, Journal, Joined}
use Rattle.hd_periods.specs.declared.name.FileName.{FileName}
use Rattle.hd_periods.specs.Folders.{Content, Whole, Torn, Folder, put, same_name, same_kind, same_place}
use Rattle.hd_periods.specs.Folders.{synced}
use Rattle.hd_periods.specs.Names.{file, part, whole}
use Rattle.hd_periods.specs.Laws.{KeepsOthers}

equal : (n : ℕ) → (n == n) ≡ true
equal n = search arith

differ : (n m : ℕ) → n ≢ m → (n == m) ≡ false
differ n m h = grind arith

own_kind : (kind : FileKind) → same_kind kind kind ≡ true
own_kind Catalogue = refl
own_kind Opening = refl
own_kind Journal = refl
own_kind Joined = refl

own_place : (place : Bool) → same_place place place ≡ true
own_place true = refl
own_place false = refl

none_of : (a b c : Bool) → c ≡ false → (a && (b && c)) ≡ false
none_of true true c h = h
none_of true false c h = refl
none_of false b c h = refl

none_beside : (a c : Bool) → (a && (false && c)) ≡ false
none_beside true c = refl
none_beside false c = refl

-- a name has what was put there
pub put_here : (folder : Folder) (name : FileName) (content : Option Content)
    → put folder name content name ≡ content
put_here folder name content =
    rw (own_kind name.file.kind, own_place name.is_part, equal name.file.number)

-- the files of other periods stay
pub others_stay : (number : ℕ) (old folder : Folder) (name : FileName) (content : Option Content)
    → name.file.number ≡ number → KeepsOthers number old folder
    → KeepsOthers number old (put folder name content)
others_stay number old folder name content of keeps x other =
    rw (none_of (same_kind name.file.kind x.file.kind) (same_place name.is_part x.is_part)
    (name.file.number == x.file.number) (differ name.file.number x.file.number (λ e. other (sym e ∙ of))))
    (keeps x other)

-- a file that is there is there when it is synced
pub synced_is_there : (bytes : List ℕ) (content : Option Content) → content ≢ None
    → synced bytes content ≢ None
synced_is_there bytes None h = h
synced_is_there bytes (Some content) h = λ e. cc

pub some_is_there : (content : Content) → Some content ≢ None
some_is_there content = λ e. cc

-- a name that was written to is there
pub written_is_there : (folder : Folder) (name : FileName) (content : Content)
    → put folder name (Some content) name ≢ None
written_is_there folder name content =
    λ e. absurd (some_is_there content (sym (put_here folder name (Some content)) ∙ e))

-- a file that was written and then synced has its bytes, and the disk has them
pub written_and_synced : (folder : Folder) (name : FileName) (bytes : List ℕ)
    → put (put folder name (Some Torn)) name (synced bytes (put folder name (Some Torn) name)) name
    ≡ Some (Whole bytes)
written_and_synced folder name bytes =
    put_here (put folder name (Some Torn)) name (synced bytes (put folder name (Some Torn) name))
    ∙ ap (synced bytes) (put_here folder name (Some Torn))

-- what is beside a name is no file that has its own
pub part_is_beside : (folder : Folder) (number of : ℕ) (kind other : FileKind) (content : Option Content)
    → put folder (part number kind) content (whole of other) ≡ folder (whole of other)
part_is_beside folder number of kind other content =
    rw (none_beside (same_kind kind other) (number == of)) refl

-- another file stays
pub other_file_stays : (folder : Folder) (number of : ℕ) (kind : FileKind) (content : Option Content)
    → file of kind ≢ file number Joined
    → put folder (whole number Joined) content (whole of kind) ≡ folder (whole of kind)
other_file_stays folder number of Catalogue content other = refl
other_file_stays folder number of Opening content other = refl
other_file_stays folder number of Journal content other = refl
other_file_stays folder number of Joined content other =
    rw (differ number of (λ e. other (ap (λ n. file n Joined) (sym e)))) refl
