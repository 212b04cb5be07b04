-- What is in the way, told by names: a text for each thing (docs/opening.md).
use Rattle.std.specs.Prelude.{ℕ, Option, None, Some, List, [], ◌∷◌, codes, unwrap_or}
use Rattle.std.specs.List.{concat}
use Rattle.hd_rules.specs.declared.copies.CopyState.{CopyState}
use Rattle.hd_rules.specs.declared.copies.CopyState.TheVariants.{Shelf, OnLoan, OnHoldShelf, InTransit}
use Rattle.hd_rules.specs.Numbers.{BranchNo, TitleNo, CopyNo, PatronNo}
use Rattle.hd_catalogue.specs.Contents.{Contents, branch_name, title_name, copy_name, patron_name}
use Rattle.hd_catalogue.specs.Contents.{copy_number}
use Rattle.hd_carry.specs.declared.obstacle.Obstacle.{Obstacle}
use Rattle.hd_carry.specs.declared.obstacle.Obstacle.TheVariants.{MissingCopy, MissingBorrower, MissingHolder}
use Rattle.hd_carry.specs.declared.obstacle.Obstacle.TheVariants.{MissingTitle}
use Rattle.hd_carry.specs.declared.obstacle.Obstacle.TheVariants.{MissingBranch, MissingWayEnd, MissingPickup}
use Rattle.hd_carry.specs.declared.obstacle.Obstacle.TheVariants.{MissingOnlyCopy, NumbersUsedUp}
use Rattle.hd_carry.specs.declared.part.Part.{Part}
use Rattle.hd_carry.specs.declared.part.Part.TheVariants.{Words, Branch, Title, Copy, Patron, Why}

module _ (old : Contents) where
  -- the name of a number
  abbrev pub branch_text : BranchNo → List ℕ
  branch_text b = unwrap_or (branch_name old b) []

  abbrev pub title_text : TitleNo → List ℕ
  title_text t = unwrap_or (title_name old t) []

  abbrev pub copy_text : CopyNo → List ℕ
  copy_text c = unwrap_or (copy_name old c) []

  abbrev pub patron_text : PatronNo → List ℕ
  patron_text p = unwrap_or (patron_name old p) []

-- why a copy is lacking, which may be another title's
abbrev pub lacking_text : Option ℕ → List ℕ
lacking_text None = codes ", and the new catalogue lacks it"
lacking_text (Some number) = codes ", and is of another title there"

module _ (old new : Contents) where
  abbrev pub why_text : CopyNo → List ℕ
  why_text c = lacking_text (copy_number new (copy_text old c))

  -- where a copy is that is lacking
  abbrev pub copy_parts : CopyNo → CopyState → List (List ℕ)
  copy_parts c (Shelf b) =
      codes "copy " ∷ copy_text old c ∷ codes " is at " ∷ branch_text old b ∷ why_text c ∷ []
  copy_parts c (OnLoan l) =
      codes "copy " ∷ copy_text old c ∷ codes " is on loan to " ∷ patron_text old l.patron ∷ why_text c ∷ []
  copy_parts c (OnHoldShelf s) =
      codes "copy " ∷ copy_text old c ∷ codes " is kept for " ∷ patron_text old s.patron
      ∷ codes " at " ∷ branch_text old s.branch ∷ why_text c ∷ []
  copy_parts c (InTransit t) =
      codes "copy " ∷ copy_text old c ∷ codes " is on its way to " ∷ branch_text old t.to ∷ why_text c ∷ []

  abbrev pub obstacle_parts : Obstacle → List (List ℕ)
  obstacle_parts (MissingCopy c state) = copy_parts c state
  obstacle_parts (MissingBorrower c p) =
      codes "patron " ∷ patron_text old p ∷ codes " has copy " ∷ copy_text old c
      ∷ codes " on loan" ∷ codes ", and the new catalogue lacks them" ∷ []
  obstacle_parts (MissingHolder t p) =
      codes "patron " ∷ patron_text old p ∷ codes " holds title " ∷ title_text old t
      ∷ codes ", and the new catalogue lacks them" ∷ []
  obstacle_parts (MissingTitle t p) =
      codes "title " ∷ title_text old t ∷ codes " is held by " ∷ patron_text old p
      ∷ codes ", and the new catalogue lacks it" ∷ []
  obstacle_parts (MissingBranch b c) =
      codes "branch " ∷ branch_text old b ∷ codes " has copy " ∷ copy_text old c
      ∷ codes ", and the new catalogue lacks it" ∷ []
  obstacle_parts (MissingWayEnd b c) =
      codes "branch " ∷ branch_text old b ∷ codes " is on the way of copy " ∷ copy_text old c
      ∷ codes ", and the new catalogue lacks it" ∷ []
  obstacle_parts (MissingPickup b t p) =
      codes "branch " ∷ branch_text old b ∷ codes " is the pickup of " ∷ patron_text old p
      ∷ codes "'s hold of " ∷ title_text old t ∷ codes ", and the new catalogue lacks it" ∷ []
  obstacle_parts (MissingOnlyCopy t p c) =
      codes "the hold of " ∷ title_text old t ∷ codes " by " ∷ patron_text old p
      ∷ codes " admits copy " ∷ copy_text old c ∷ codes " alone" ∷ why_text c ∷ []
  obstacle_parts NumbersUsedUp = codes "the numbers are used up" ∷ []

  abbrev pub obstacle_text : Obstacle → List ℕ
  obstacle_text obstacle = concat (obstacle_parts obstacle)

  -- the text of a part
  abbrev pub part_text : Part → List ℕ
  part_text (Words words) = words.now
  part_text (Branch b) = branch_text old b
  part_text (Title t) = title_text old t
  part_text (Copy c) = copy_text old c
  part_text (Patron p) = patron_text old p
  part_text (Why c) = why_text c
