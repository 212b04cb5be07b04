-- What a journal is, it is under a catalogue that has grown.
use Rattle.std.proofs.Common.{◌≡◌, refl, sym, ◌∙◌, ap, subst, ℕ, ◌+◌, ◌≤◌, List, [], ◌∷◌, length, Option, inl, inr, if◌then◌else◌}
use Rattle.std.specs.Prelude.{◌&&◌, not, is_none, ◌++◌}
use Rattle.hd_rules.specs.declared.commands.Survivor.{Survivor}
use Rattle.hd_rules.specs.declared.turns.Asked.TheVariants as ask
use Rattle.hd_rules.specs.Facts.{Facts, AreInRange, first_number}
use Rattle.hd_rules.specs.Desk.{Desk}
use Rattle.hd_rules.specs.Run.{IsAmong, run, Rising, next_number}
use Rattle.hd_rules.specs.Turns.{Kept, State, start}
use Rattle.hd_rules.specs.Machine.{kept_reply, turn_of}
use Rattle.hd_rules.specs.Messages.{is_query}
use Rattle.hd_journal.specs.Changing.{changing_from, changing}
use Rattle.hd_rules.specs.Journal.{Turn, state_after, IsLegalFrom, IsLegal}
use Rattle.hd_rules.specs.Growth.{IsGrownDesk, Grows, IsGrownState, AreOfCatalogue}
use Rattle.hd_rules.proofs.Theorem.{headline}
use Rattle.hd_rules.proofs.Journals.{legal_is_run}
use Rattle.hd_rules.proofs.ReplyingTurns.{each_replies}
use Rattle.hd_rules.proofs.FamiliarTurns.{known_journal}
use Rattle.hd_rules.proofs.GrownTurns.{SoFar, run_grown, one_further, at_start}
use Rattle.hd_rules.proofs.GrownTurns.{legal_grown, state_grown}
use Rattle.hd_rules.proofs.GrownOpening.{more_copies, more_titles, more_patrons, state_more, held_more, asked_more, asks_grown, opens_grown, only_grown}
use Rattle.hd_catalogue.specs.Contents.{Contents, facts_of}
use Rattle.hd_desk.specs.Desks.{Opens}
use Rattle.hd_meter.specs.Meter.{Counts}
use Rattle.hd_journal.specs.Books.{Book, IsLegalBook, IsKept, facts, state}
use Rattle.hd_journal.specs.SurvivorRun.{SurvivorRun, AllKnownSurvivors, LeadsTo}
use Rattle.hd_rules.specs.declared.cells.Cell.{Cell}
use Rattle.hd_rules.specs.declared.cells.Cell.TheVariants.{Copy as CopyCell, Hold as HoldCell}
use Rattle.hd_rules.specs.declared.cells.Value.{Value}
use Rattle.hd_rules.specs.declared.cells.Value.TheVariants.{Copy as CopyHas, Hold as HoldHas}
use Rattle.hd_rules.specs.declared.cells.Change.{Change}
use Rattle.hd_rules.specs.Known.{IsKnownCell, IsKnownValue, IsKnownAction, IsKnown, IsKnownDesk}
use Rattle.hd_rules.specs.Record.{Record}
use Rattle.hd_clash.specs.declared.key.Key.{Key}
use Rattle.hd_clash.specs.CommandKeys.{keys_of_command, has_key}
use Rattle.hd_clash.specs.Records.{EachCommandIsKnown}
use Rattle.hd_clash.proofs.Growing.{records_grow, keys_grow}
use Rattle.hd_inverse.specs.Cells.{MayHave, AreKnownChanges}
use Rattle.hd_records.specs.Index.{numbers_of, records_about}
use Rattle.hd_records.specs.RecordsValue.{RecordsValue, AreListed}
use Rattle.hd_records.specs.Survivors.{survivors_of}
use Rattle.hd_journal.specs.Stored.{AreStored, EachCanBeUndone}
use Rattle.hd_journal.specs.Growing.{IsGrownTo, over}

pub book_grows : (k j : Contents) (turns : List Turn) → Grows (facts_of k) (facts_of j) → AreInRange (facts_of j)
    → AreOfCatalogue (facts_of k) turns → IsLegalBook k turns → IsLegalBook j turns
book_grows k j turns grows range of book =
    let legal : IsLegal (facts_of j) turns = (legal_grown (facts_of k) (facts_of j) turns grows of).0 book.legal in
    let too : AreOfCatalogue (facts_of j) turns = asks_grown (facts_of k) (facts_of j) turns grows range of in
    record {
      legal = legal;
      run = legal_is_run (facts_of j) turns legal;
      headline = headline (facts_of j) turns legal;
      replies = each_replies (facts_of j) turns legal;
      known = known_journal (facts_of j) turns range too.opening legal too.ask;
    }

module _ (r : SurvivorRun) (j : Contents) (turns : List Turn) (kept : ℕ → Option Kept)
    (grows : Grows (facts_of r.contents) (facts_of j)) (range : AreInRange (facts_of j))
    (is : IsKept turns r kept) where
  of : AreOfCatalogue (facts_of r.contents) turns
  of = record { range = is.range; opening = is.opens.known; ask = is.known }

  too : AreOfCatalogue (facts_of j) turns
  too = asks_grown (facts_of r.contents) (facts_of j) turns grows range of

  opens : Opens (facts_of j)
  opens = record {
    sound = opens_grown (facts_of r.contents) (facts_of j) grows is.range is.opens.known is.opens.sound;
    known = too.opening;
  }

  legal : IsLegal (facts_of j) turns
  legal = (legal_grown (facts_of r.contents) (facts_of j) turns grows of).0 is.legal

  grown : IsGrownState (facts_of r.contents) (facts_of j) (state_after (facts_of r.contents) turns)
      (state_after (facts_of j) turns)
  grown = state_grown (facts_of r.contents) (facts_of j) turns grows of is.legal

  survivors_are : (state_after (facts_of j) turns).survivors ≡ r.survivors
  survivors_are = grown.survivors ∙ ap (λ (s : State). s.survivors) is.state

  desk_is : (state_after (facts_of j) turns).desk ≡ run (facts_of j) r.survivors
  desk_is = (legal_is_run (facts_of j) turns legal).desk ∙ ap (run (facts_of j)) survivors_are

  last_is : (state_after (facts_of j) turns).last ≡ r.last
  last_is = grown.last ∙ ap (λ (s : State). s.last) is.state

  kept_is : (state_after (facts_of j) turns).kept ≡ kept
  kept_is = grown.kept ∙ ap (λ (s : State). s.kept) is.state

  -- the last number given before is the same
  before_is : (facts_of j).opening.last ≡ (facts_of r.contents).opening.last
  before_is = (state_grown (facts_of r.contents) (facts_of j) [] grows
      (record { range = is.range; opening = is.opens.known; ask = λ turn among. absurd among }) tt).last

  first_is : first_number (facts_of j) ≡ first_number (facts_of r.contents)
  first_is = ap (λ (n : ℕ). n + 1) before_is

  pub kept_grows : IsKept turns (over j r) kept
  kept_grows = record {
    range = range;
    opens = opens;
    known = too.ask;
    legal = legal;
    state = λ i. record {
      desk = desk_is i;
      survivors = survivors_are i;
      last = last_is i;
      kept = kept_is i;
    };
    last = subst (λ (n : ℕ). r.last ≤ n + length turns) (sym before_is) is.last;
  }

module _ (r : SurvivorRun) (j : Contents) (grows : Grows (facts_of r.contents) (facts_of j))
    (low : AreInRange (facts_of r.contents)) (high : AreInRange (facts_of j)) where
  all_more : (ss : List Survivor) → AllKnownSurvivors (facts_of r.contents) ss
      → AllKnownSurvivors (facts_of j) ss
  all_more [] known = tt
  all_more (s ∷ ss) known =
      (asked_more (facts_of r.contents) (facts_of j) grows (ask.Command s.command) known.0, all_more ss known.1)

  all_act : (ss : List Survivor) → AllKnownSurvivors (facts_of r.contents) ss → (s : Survivor) → IsAmong s ss
      → IsKnownAction (facts_of r.contents) s.command.action
  all_act [] known s among = absurd among
  all_act (x ∷ xs) known s (inl e) =
      subst (λ (y : Survivor). IsKnownAction (facts_of r.contents) y.command.action) (sym e) known.0
  all_act (x ∷ xs) known s (inr among) = all_act xs known.1 s among

  pub leads_grow : (d e : Desk) → LeadsTo r d → IsGrownDesk (facts_of r.contents) (facts_of j) d e
      → LeadsTo (over j r) e
  leads_grow d e leads more = record {
    desk =
        let old : IsGrownDesk (facts_of r.contents) (facts_of j) d (run (facts_of j) r.survivors) =
        subst (λ (x : Desk). IsGrownDesk (facts_of r.contents) (facts_of j) x (run (facts_of j) r.survivors))
        (sym leads.desk)
        (run_grown (facts_of r.contents) (facts_of j)
        (record { grows = grows; range = low; known = leads.may_run.opens.known })
        r.survivors (all_act r.survivors leads.may_run.known)) in
        only_grown (facts_of r.contents) (facts_of j) d e (run (facts_of j) r.survivors) more old;
    may_run = record {
      opens = record {
        sound = opens_grown (facts_of r.contents) (facts_of j) grows low leads.may_run.opens.known
            leads.may_run.opens.sound;
        known = (asks_grown (facts_of r.contents) (facts_of j) [] grows high
            (record { range = low; opening = leads.may_run.opens.known; ask = λ turn among. absurd among })).opening;
      };
      rising = subst (λ (n : ℕ). Rising n r.survivors) (sym first_is) leads.may_run.rising;
      known = all_more r.survivors leads.may_run.known;
    };
    last = subst (λ (n : ℕ). next_number n r.survivors ≤ r.last + 1) (sym first_is) leads.last;
  }
    where
      first_is : first_number (facts_of j) ≡ first_number (facts_of r.contents)
      first_is = ap (λ (n : ℕ). n + 1) grows.longer.last

-- what is kept of the survivors
known_commands : (k : Facts) (ss : List Survivor) → AllKnownSurvivors k ss → EachCommandIsKnown k ss
known_commands k [] known = tt
known_commands k (s ∷ ss) known = (known.0, known_commands k ss known.1)

module _ (k j : Facts) (grows : Grows k j) where
  cell_more : (x : Cell) → IsKnownCell k x → IsKnownCell j x
  cell_more (CopyCell c) known = more_copies k j grows c known
  cell_more (HoldCell t p) known = (more_titles k j grows t known.0, more_patrons k j grows p known.1)

  value_more : (v : Value) → IsKnownValue k v → IsKnownValue j v
  value_more (CopyHas s) known = state_more k j grows s known
  value_more (HoldHas o) known = held_more k j grows o known

  may_more : (x : Cell) (v : Value) → MayHave k x v → MayHave j x v
  may_more x v may = record {
    cell = cell_more x may.cell;
    kind = may.kind;
    known = value_more v may.known;
    from_one = may.from_one;
  }

  changes_more : (cs : List Change) → AreKnownChanges k cs → AreKnownChanges j cs
  changes_more [] known = tt
  changes_more (c ∷ cs) known =
      (may_more c.cell c.old known.0, may_more c.cell c.new known.1, changes_more cs known.2)

  undoable_more : (rs : List Record) → EachCanBeUndone k rs → EachCanBeUndone j rs
  undoable_more [] can = tt
  undoable_more (r ∷ rs) can = (changes_more r.changes can.0, can.1, undoable_more rs can.2)

  about_same : (x : Key) (rs : List Record) → AllKnownSurvivors k (survivors_of rs)
      → records_about j x rs ≡ records_about k x rs
  about_same x [] known = refl
  about_same x (r ∷ rs) known =
      let keys : keys_of_command j r.command ≡ keys_of_command k r.command =
      keys_grow k j r.command grows known.0 in
      let rest : records_about j x rs ≡ records_about k x rs = about_same x rs known.1 in
      λ i. if has_key (keys i) x then r ∷ rest i else rest i

pub stored_grows : (k j : Facts) (records : List Record) → Grows k j → AreInRange k
    → IsKnownDesk k k.opening.desk → AllKnownSurvivors k (survivors_of records) → AreStored k records
    → AreStored j records
stored_grows k j records grows range desk known stored = record {
  are = records_grow k j (survivors_of records) records grows range desk
      (known_commands k (survivors_of records) known) stored.are;
  undoable = undoable_more k j grows records stored.undoable;
}

pub listed_grows : (k j : Facts) (value : RecordsValue) → Grows k j
    → AllKnownSurvivors k (survivors_of value.records) → AreListed k value → AreListed j value
listed_grows k j value grows known listed x =
    listed x ∙ ap numbers_of (sym (about_same k j grows x value.records known))

-- a journal that goes on with a grown desk
module _ (old : Book) (r : SurvivorRun) (turns : List Turn) (work : Counts) (kept : ℕ → Option Kept) (j : Contents)
    (view : (let book : Book = record { contents = r.contents; turns = turns; work = work } in book ≡ old))
    (is : IsKept turns r kept) where
  pub to_grown : (e : Desk) → Grows (facts old) (facts_of j)
      → IsGrownDesk (facts old) (facts_of j) (state old).desk e → AreInRange (facts_of j) → IsGrownTo r j e
  to_grown e grows desk range = record {
    grows = subst (λ (x : Book). Grows (facts x) (facts_of j)) (sym view) grows;
    low = is.range;
    high = range;
    desk = subst (λ (x : Desk). IsGrownDesk (facts_of r.contents) (facts_of j) x e)
        (ap (λ (s : State). s.desk) is.state)
        (subst (λ (x : Book). IsGrownDesk (facts x) (facts_of j) (state x).desk e) (sym view) desk);
  }

  pub grown_kept : (next : SurvivorRun) → next ≡ over j r → Grows (facts old) (facts_of j)
      → AreInRange (facts_of j) → IsKept turns next kept
  grown_kept next same grows range =
      subst (λ (x : SurvivorRun). IsKept turns x kept) (sym same)
      (kept_grows r j turns kept (subst (λ (x : Book). Grows (facts x) (facts_of j)) (sym view) grows) range is)

  pub grown_state : (next : SurvivorRun) → next ≡ over j r → Grows (facts old) (facts_of j)
      → IsGrownState (facts old) (facts_of next.contents) (state old) (state_after (facts_of next.contents) turns)
  grown_state next same grows =
      subst (λ (x : SurvivorRun). IsGrownState (facts old) (facts_of x.contents) (state old)
      (state_after (facts_of x.contents) turns)) (sym same)
      (subst (λ (x : Book). IsGrownState (facts x) (facts_of j) (state x) (state_after (facts_of j) turns)) view
      (state_grown (facts_of r.contents) (facts_of j) turns
      (subst (λ (x : Book). Grows (facts x) (facts_of j)) (sym view) grows)
      (record { range = is.range; opening = is.opens.known; ask = is.known }) is.legal))

-- the changing turns are the same
changing_on : (k j : Facts) (past turns : List Turn) (s u : State) → SoFar k j past s u
    → ((turn : Turn) → IsAmong turn turns → IsKnown k turn.message.asked) → IsLegalFrom k s turns
    → changing_from j u turns ≡ changing_from k s turns
changing_on k j past [] s u far asks lawful = refl
changing_on k j past (x ∷ xs) s u far asks lawful =
    let rest : changing_from j (turn_of j u x.message).state xs ≡ changing_from k (turn_of k s x.message).state xs =
    changing_on k j (past ++ x ∷ []) xs (turn_of k s x.message).state (turn_of j u x.message).state
    (one_further k j past s u x far (asks x (inl refl)) lawful.0) (λ y among. asks y (inr among)) lawful.1 in
    λ i. if not (is_query x.message.asked)
    && is_none (kept_reply (far.grown.kept i x.message.terminal) x.message.asked x.message.line)
    then x ∷ rest i else rest i

pub changing_grows : (k j : Facts) (turns : List Turn) → Grows k j → AreOfCatalogue k turns → IsLegal k turns
    → changing j turns ≡ changing k turns
changing_grows k j turns grows of legal =
    changing_on k j [] turns (start k) (start j) (at_start k j grows turns of) of.ask legal
