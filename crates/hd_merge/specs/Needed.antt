-- Names that a carry needs: those that something in the way names, and those that the line of a copy names.
use Rattle.std.specs.Prelude.{ℕ, ◌≡◌, ◌<◌, Bool, false, List, Option, None, Some, nat_eq, nat_lt, if◌then◌else◌, length}
use Rattle.std.specs.List.{list_any}
use Rattle.std.specs.Option.{option_map_or}
use Rattle.hd_rules.specs.Facts.{Facts}
use Rattle.hd_rules.specs.Numbers.{BranchNo, CopyNo, PatronNo, TitleNo}
use Rattle.hd_carry.specs.WriteOffs.{is_noted}
use Rattle.hd_carry.specs.declared.obstacle.Obstacle.{Obstacle}
use Rattle.hd_carry.specs.declared.obstacle.Obstacle.TheVariants.{MissingCopy, MissingBorrower, MissingHolder}
use Rattle.hd_carry.specs.declared.obstacle.Obstacle.TheVariants.{MissingTitle}
use Rattle.hd_carry.specs.declared.obstacle.Obstacle.TheVariants.{MissingBranch, MissingWayEnd, MissingPickup}
use Rattle.hd_carry.specs.declared.obstacle.Obstacle.TheVariants.{MissingOnlyCopy, NumbersUsedUp}
use Rattle.hd_merge.specs.declared.kind.NameKind.{NameKind}
use Rattle.hd_merge.specs.declared.kind.NameKind.TheVariants.{Branch, Patron, Title, Copy}
use Rattle.hd_merge.specs.Kinds.{count_of}
use Rattle.hd_merge.specs.Notes.{Notes}

-- the copy, patron, title and branch that something in the way names as lacking
abbrev pub lacking_copy : Obstacle → Option CopyNo
lacking_copy (MissingCopy c s) = Some c
lacking_copy (MissingOnlyCopy t p c) = Some c
lacking_copy (MissingBorrower c p) = None
lacking_copy (MissingHolder t p) = None
lacking_copy (MissingTitle t p) = None
lacking_copy (MissingBranch b c) = None
lacking_copy (MissingWayEnd b c) = None
lacking_copy (MissingPickup b t p) = None
lacking_copy NumbersUsedUp = None

abbrev pub lacking_patron : Obstacle → Option PatronNo
lacking_patron (MissingBorrower c p) = Some p
lacking_patron (MissingHolder t p) = Some p
lacking_patron (MissingCopy c s) = None
lacking_patron (MissingOnlyCopy t p c) = None
lacking_patron (MissingTitle t p) = None
lacking_patron (MissingBranch b c) = None
lacking_patron (MissingWayEnd b c) = None
lacking_patron (MissingPickup b t p) = None
lacking_patron NumbersUsedUp = None

module _ (k : Facts) where
  -- what the line of a copy names besides: its title and its home
  abbrev pub its_title : CopyNo → Option TitleNo
  its_title c = if nat_lt c k.copies then Some (k.title_of c) else None

  abbrev pub its_home : CopyNo → Option BranchNo
  its_home c = if nat_lt c k.copies then Some (k.home c) else None

  abbrev pub needed_title : Obstacle → Option TitleNo
  needed_title (MissingTitle t p) = Some t
  needed_title (MissingCopy c s) = its_title c
  needed_title (MissingOnlyCopy t p c) = its_title c
  needed_title (MissingBorrower c p) = None
  needed_title (MissingHolder t p) = None
  needed_title (MissingBranch b c) = None
  needed_title (MissingWayEnd b c) = None
  needed_title (MissingPickup b t p) = None
  needed_title NumbersUsedUp = None

  abbrev pub needed_branch : Obstacle → Option BranchNo
  needed_branch (MissingBranch b c) = Some b
  needed_branch (MissingWayEnd b c) = Some b
  needed_branch (MissingPickup b t p) = Some b
  needed_branch (MissingCopy c s) = its_home c
  needed_branch (MissingOnlyCopy t p c) = its_home c
  needed_branch (MissingBorrower c p) = None
  needed_branch (MissingHolder t p) = None
  needed_branch (MissingTitle t p) = None
  needed_branch NumbersUsedUp = None

  -- the name of a kind that is needed for what is in the way
  abbrev pub needed : NameKind → Obstacle → Option ℕ
  needed Branch obstacle = needed_branch obstacle
  needed Patron obstacle = lacking_patron obstacle
  needed Title obstacle = needed_title obstacle
  needed Copy obstacle = lacking_copy obstacle

  -- whether the name with a number is needed for any of what is in the way
  abbrev pub is_needed : NameKind → List Obstacle → ℕ → Bool
  is_needed kind obstacles n = list_any (λ o. option_map_or (nat_eq n) (needed kind o) false) obstacles

  -- of each name it is noted whether it is needed
  pub record AreNoted (kind : NameKind) (obstacles : List Obstacle) (notes : List Bool) : Type 0 where
    pub count : length notes ≡ count_of k kind
    pub each : (n : ℕ) → n < length notes → is_noted notes n ≡ is_needed kind obstacles n

  pub record AreNeeded (obstacles : List Obstacle) (notes : Notes) : Type 0 where
    pub branches : AreNoted Branch obstacles notes.branches
    pub patrons : AreNoted Patron obstacles notes.patrons
    pub titles : AreNoted Title obstacles notes.titles
    pub copies : AreNoted Copy obstacles notes.copies
