-- An office that another stands before, which has the same turns and one borrow more.
use Rattle.std.proofs.Common.{◌≡◌, ◌∙◌, ℕ, List, [], ◌∷◌, ◌++◌, ap, sym, refl, subst, append-nil}
use Rattle.std.proofs.Common.{append_assoc}
use Rattle.std.specs.Borrow.{GName}
use Rattle.hd_rules.specs.Journal.{Turn}
use Rattle.hd_exchange.specs.Deeds.{AreShown, Deed, Made, Looked, turns_in}
use Rattle.hd_catalogue.specs.Contents.{Contents}
use Rattle.hd_journal.specs.Books.{Book}
use Rattle.hd_journal.specs.Offices.{Keeps}
use Rattle.hd_journal.specs.declared.office.Office.{Ghosts}
use Rattle.hd_exchange.specs.Works.{Works}

-- with one borrow more
abbrev pub behind : GName → Keeps → Keeps
behind name keeps = record { contents = keeps.contents; seat = keeps.seat; borrows = name ∷ keeps.borrows }

-- what the one in front keeps, the one behind keeps
pub keeps_behind : (old new : Keeps) (name name' : GName) → behind name' new ≡ behind name old
    → (name' ≡ name) × (new ≡ old)
keeps_behind old new name name' same =
    let contents : new.contents ≡ old.contents = ap (λ (k : Keeps). k.contents) same in
    let seat : new.seat ≡ old.seat = ap (λ (k : Keeps). k.seat) same in
    let all : name' ∷ new.borrows ≡ name ∷ old.borrows = ap (λ (k : Keeps). k.borrows) same in
    let borrows : new.borrows ≡ old.borrows = cc in (
      cc,
      ap (λ (x : Contents). let k : Keeps = record { contents = x; seat = new.seat; borrows = new.borrows } in
          k) contents
          ∙ (ap (λ (x : ℕ). let k : Keeps = record {
            contents = old.contents;
            seat = x;
            borrows = new.borrows;
          } in k) seat
          ∙ ap (λ (x : List GName). let k : Keeps = record {
            contents = old.contents;
            seat = old.seat;
            borrows = x;
          } in k) borrows),
    )

-- the turns of some deeds, and of some more
turns_append : (did more : List Deed) → turns_in (did ++ more) ≡ turns_in did ++ turns_in more
turns_append [] more = refl
turns_append (Made turn ∷ did) more = ap (λ (t : List Turn). turn ∷ t) (turns_append did more)
turns_append (Looked shown ∷ did) more = turns_append did more

-- the looks of some deeds, and of some more
shown_append : (k : Contents) (shows : List Turn → Book → Type 0) (turns : List Turn) (did more : List Deed)
    → AreShown k shows turns did → AreShown k shows (turns ++ turns_in did) more
    → AreShown k shows turns (did ++ more)
shown_append k shows turns [] more first next =
    subst (λ (t : List Turn). AreShown k shows t more) (append-nil turns) next
shown_append k shows turns (Made turn ∷ did) more first next =
    shown_append k shows (turns ++ turn ∷ []) did more first
    (subst (λ (t : List Turn). AreShown k shows t more)
    (sym (append_assoc turns (turn ∷ []) (turns_in did))) next)
shown_append k shows turns (Looked shown ∷ did) more first next =
    (first.0, shown_append k shows turns did more first.1 next)

module _ {A O : Type 0} (office : Ghosts O A) where
  -- nothing is done yet
  pub works_none : (old : O) → Works office old old []
  works_none old = record {
    turns = sym (append-nil (office.turns old));
    shown = tt;
    same = refl;
    holds = λ held. held;
  }

  -- some deeds more
  pub works_more : (old between new : O) (did more : List Deed) → Works office old between did
      → office.turns new ≡ office.turns between ++ turns_in more
      → AreShown (office.keeps between).contents office.shows (office.turns between) more
      → office.keeps new ≡ office.keeps between
      → (office.holds between → office.holds new) → Works office old new (did ++ more)
  works_more old between new did more first turns shown same holds = record {
    turns = turns
        ∙ ap (λ (t : List Turn). t ++ turns_in more) first.turns
        ∙ append_assoc (office.turns old) (turns_in did) (turns_in more)
        ∙ ap (λ (t : List Turn). office.turns old ++ t) (sym (turns_append did more));
    shown = shown_append (office.keeps old).contents office.shows (office.turns old) did more first.shown
        (subst (λ (t : List Turn). AreShown (office.keeps old).contents office.shows t more) first.turns
        (subst (λ (x : Keeps). AreShown x.contents office.shows (office.turns between) more) first.same
        shown));
    same = same ∙ first.same;
    holds = λ held. holds (first.holds held);
  }
