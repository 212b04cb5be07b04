-- A catalogue that gets more names while its journal goes on: each behind the last of its kind.
use Rattle.std.specs.Prelude.{◌≡◌, ◌+◌, ◌-◌, ◌<◌, ◌≤◌, ◌⊎◌, None, List, [], ◌∷◌, ◌++◌, All, zero, suc}
use Rattle.hd_rules.specs.Words.{CopyState, Shelf, InTransit, OpeningRow}
use Rattle.hd_rules.specs.declared.rows.OpeningRow.TheVariants as row
use Rattle.hd_rules.specs.Numbers.{BranchNo, TitleNo, CopyNo, PatronNo, Count}
use Rattle.hd_rules.specs.Facts.{Facts, AreInRange}
use Rattle.hd_rules.specs.Desk.{Desk, at_home}
use Rattle.hd_rules.specs.Run.{IsAmong}
use Rattle.hd_rules.specs.Turns.{State}
use Rattle.hd_rules.specs.Journal.{Turn}
use Rattle.hd_rules.specs.Known.{IsKnown, IsKnownDesk, IsKnownRow}
use Rattle.hd_rules.specs.Rows.{with_rows}

-- on the way from one branch of the catalogue to another, for nobody
pub record IsOnItsWay (k : Facts) (s : CopyState) : Type 0 where
  pub from : BranchNo
  pub to : BranchNo
  pub is : s ≡ InTransit (record { from = from; to = to; patron = None })
  pub known_from : from < k.branches
  pub known_to : to < k.branches

module _ (k j : Facts) where
  -- What the first catalogue names is at the other's desk as at its own; what is new is as in the opening.
  pub record IsGrownDesk (d e : Desk) : Type 0 where
    pub copies : (c : CopyNo) → c < k.copies → e.copy c ≡ d.copy c
    pub holds : (t : TitleNo) (p : PatronNo) → t < k.titles → p < k.patrons → e.hold t p ≡ d.hold t p
    pub new_copies : (c : CopyNo) → k.copies ≤ c → e.copy c ≡ j.opening.desk.copy c
    pub new_holds : (t : TitleNo) (p : PatronNo) → (k.titles ≤ t) ⊎ (k.patrons ≤ p) →
        e.hold t p ≡ j.opening.desk.hold t p

  -- The second has all that the first has, with its numbers, and more behind them.
  pub record IsLonger : Type 0 where
    pub branches : k.branches ≤ j.branches
    pub terminals : k.terminals ≤ j.terminals
    pub titles : k.titles ≤ j.titles
    pub copies : k.copies ≤ j.copies
    pub patrons : k.patrons ≤ j.patrons
    pub home : (c : CopyNo) → c < k.copies → j.home c ≡ k.home c
    pub title_of : (c : CopyNo) → c < k.copies → j.title_of c ≡ k.title_of c
    pub loan_days : (t : TitleNo) → t < k.titles → j.loan_days t ≡ k.loan_days t
    pub renewals : (t : TitleNo) → t < k.titles → j.renewals t ≡ k.renewals t
    pub loan_limit : (p : PatronNo) → p < k.patrons → j.loan_limit p ≡ k.loan_limit p
    pub priority : (t : TitleNo) → t < k.titles → j.priority t ≡ k.priority t
    pub command_limit : j.command_limit ≡ k.command_limit
    pub last : j.opening.last ≡ k.opening.last

  -- So it is, and in its opening each new copy is on its way to a branch, for nobody, and no new title or patron
  -- has a hold.
  pub record Grows : Type 0 where
    pub longer : IsLonger
    pub opening : IsGrownDesk k.opening.desk j.opening.desk
    pub on_the_way : (c : CopyNo) → k.copies ≤ c → c < j.copies → IsOnItsWay j (j.opening.desk.copy c)
    pub past : (c : CopyNo) → j.copies ≤ c → (b : BranchNo) × (j.opening.desk.copy c ≡ Shelf b)
    pub not_held : (t : TitleNo) (p : PatronNo) → (k.titles ≤ t) ⊎ (k.patrons ≤ p) →
        j.opening.desk.hold t p ≡ None

  -- the same state, at the grown desk
  pub record IsGrownState (s u : State) : Type 0 where
    pub desk : IsGrownDesk s.desk u.desk
    pub survivors : u.survivors ≡ s.survivors
    pub last : u.last ≡ s.last
    pub kept : u.kept ≡ s.kept

-- turns that ask of things of the catalogue alone, from an opening that names such alone
pub record AreOfCatalogue (k : Facts) (turns : List Turn) : Type 0 where
  pub range : AreInRange k
  pub opening : IsKnownDesk k k.opening.desk
  pub ask : (turn : Turn) → IsAmong turn turns → IsKnown k turn.message.asked

-- each of so many copies, from a number on, is on its way home, for nobody
abbrev pub arrivals : (CopyNo → BranchNo) → CopyNo → Count → List OpeningRow
arrivals home n zero = []
arrivals home n (suc more) = row.Transit n (home n) (home n) ∷ arrivals home (n + 1) more

-- The second is longer, and its opening has the rows of the first one's, and behind them each new copy's arrival.
pub record ArriveBehind (k j : Facts) (rows : List OpeningRow) : Type 0 where
  pub longer : IsLonger k j
  pub known : All (IsKnownRow k) rows
  pub before : k.opening.desk ≡ with_rows k.title_of (at_home k.home) rows
  pub behind : j.opening.desk
      ≡ with_rows j.title_of (at_home j.home) (rows ++ arrivals j.home k.copies (j.copies - k.copies))
