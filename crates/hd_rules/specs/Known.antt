-- Numbers that a catalogue has given.
use Rattle.std.specs.Prelude.{◌<◌, Option, Some, None, List}
use Rattle.hd_rules.specs.Words.{Hold, HoldKind, One, CopyState, Shelf, OnLoan, OnHoldShelf}
use Rattle.hd_rules.specs.Words.{InTransit, Cell, CopyCell, HoldCell, Value, CopyHas, HoldHas, Change}
use Rattle.hd_rules.specs.Words.{Question, ValueOf, Choice, Place, Room, Position, OnShelf, Action, Cancel}
use Rattle.hd_rules.specs.Words.{Asked, Reply, LentOrRenewed, Returned, Held, Deleted, TurnReply, OpeningRow}
use Rattle.hd_rules.specs.declared.replies.TurnReply.TheVariants.{Done as Accepted, Item}
use Rattle.hd_rules.specs.declared.commands.Action.TheVariants as action
use Rattle.hd_rules.specs.declared.commands.Cancel.TheVariants as cancel
use Rattle.hd_rules.specs.declared.turns.Asked.TheVariants as ask
use Rattle.hd_rules.specs.declared.rows.OpeningRow.TheVariants as row
use Rattle.hd_rules.specs.Numbers.{BranchNo, TitleNo, CopyNo, PatronNo}
use Rattle.hd_rules.specs.Facts.{Facts}
use Rattle.hd_rules.specs.Desk.{Desk}
use Rattle.hd_rules.specs.Ask.{Done}
use Rattle.hd_rules.specs.Run.{IsAmong}
use Rattle.hd_rules.specs.Journal.{Turn, state_after}

module _ (k : Facts) where
  -- a cell of the catalogue
  abbrev pub IsKnownCell : Cell → Type 0
  IsKnownCell (CopyCell c) = c < k.copies
  IsKnownCell (HoldCell t p) = (t < k.titles) × (p < k.patrons)

  -- a question about things of the catalogue
  abbrev pub IsKnownQuestion : Question → Type 0
  IsKnownQuestion (ValueOf (CopyCell c)) = c < k.copies
  IsKnownQuestion (ValueOf (HoldCell t p)) = t < k.titles
  IsKnownQuestion (Choice c b day) = c < k.copies
  IsKnownQuestion (Place b) = b < k.branches
  IsKnownQuestion (Room p) = p < k.patrons
  IsKnownQuestion (Position t stamp) = t < k.titles
  IsKnownQuestion (OnShelf t kind pickup) = t < k.titles

  -- a kind of hold, of a copy of the catalogue
  abbrev pub IsKnownKind : HoldKind → Type 0
  IsKnownKind (One c) = c < k.copies
  IsKnownKind _ = Unit {0}

  -- what a change of a hold names
  abbrev pub IsKnownChoice : Option HoldKind → Option BranchNo → Type 0
  IsKnownChoice None None = Unit {0}
  IsKnownChoice (Some kind) None = IsKnownKind kind
  IsKnownChoice None (Some pickup) = pickup < k.branches
  IsKnownChoice (Some kind) (Some pickup) = IsKnownKind kind × (pickup < k.branches)

  -- all that an action names is in the catalogue
  abbrev pub IsKnownAction : Action → Type 0
  IsKnownAction (action.Checkout p c may_renew) = (p < k.patrons) × (c < k.copies)
  IsKnownAction (action.OffLine p c due) = (p < k.patrons) × (c < k.copies)
  IsKnownAction (action.Checkin c b) = (c < k.copies) × (b < k.branches)
  IsKnownAction (action.Add p t kind pickup expiry) =
      (p < k.patrons) × (t < k.titles) × IsKnownKind kind × (pickup < k.branches)
  IsKnownAction (action.Delete p t) = (p < k.patrons) × (t < k.titles)
  IsKnownAction (action.Change p t kind pickup expiry) =
      (p < k.patrons) × (t < k.titles) × IsKnownChoice kind pickup
  IsKnownAction (action.Renewal p c) = (p < k.patrons) × (c < k.copies)

  -- and all that a cancellation names
  abbrev pub IsKnownCancel : Cancel → Type 0
  IsKnownCancel (cancel.Checkout c) = c < k.copies
  IsKnownCancel (cancel.Checkin c) = c < k.copies
  IsKnownCancel (cancel.Renewal c) = c < k.copies
  IsKnownCancel (cancel.Add p t) = (p < k.patrons) × (t < k.titles)
  IsKnownCancel (cancel.Delete p t) = (p < k.patrons) × (t < k.titles)
  IsKnownCancel (cancel.Change p t) = (p < k.patrons) × (t < k.titles)

  -- all that a terminal asks names things of the catalogue
  abbrev pub IsKnown : Asked → Type 0
  IsKnown (ask.Command command) = IsKnownAction command.action
  IsKnown (ask.Cancel what) = IsKnownCancel what
  IsKnown (ask.Item c) = c < k.copies

  -- a patron of the catalogue, or none
  abbrev pub IsKnownPatron : Option PatronNo → Type 0
  IsKnownPatron None = Unit {0}
  IsKnownPatron (Some p) = p < k.patrons

  -- a copy of the catalogue, or none
  abbrev pub IsKnownCopy : Option CopyNo → Type 0
  IsKnownCopy None = Unit {0}
  IsKnownCopy (Some c) = c < k.copies

  -- a place that names things of the catalogue
  abbrev pub IsKnownState : CopyState → Type 0
  IsKnownState (Shelf b) = b < k.branches
  IsKnownState (OnLoan l) = l.patron < k.patrons
  IsKnownState (OnHoldShelf s) = (s.branch < k.branches) × (s.patron < k.patrons)
  IsKnownState (InTransit t) = (t.from < k.branches) × (t.to < k.branches) × IsKnownPatron t.patron

  -- a hold that names things of the catalogue
  pub record IsKnownHold (h : Hold) : Type 0 where
    pub patron : h.patron < k.patrons
    pub kind : IsKnownKind h.kind
    pub pickup : h.pickup < k.branches
    pub copy : IsKnownCopy h.copy

  -- all that a row of an opening names is in the catalogue
  abbrev pub IsKnownRow : OpeningRow → Type 0
  IsKnownRow (row.Loan c l) = (c < k.copies) × (l.patron < k.patrons)
  IsKnownRow (row.OpenShelf c b) = (c < k.copies) × (b < k.branches)
  IsKnownRow (row.Hold t h) = (t < k.titles) × IsKnownHold h
  IsKnownRow (row.HoldShelf c p place) = (c < k.copies) × (p < k.patrons)
  IsKnownRow (row.HoldTransit c p from) = (c < k.copies) × (p < k.patrons) × (from < k.branches)
  IsKnownRow (row.Transit c from to) = (c < k.copies) × (from < k.branches) × (to < k.branches)

  -- a hold of the catalogue, or none
  abbrev pub IsKnownHeld : Option Hold → Type 0
  IsKnownHeld None = Unit {0}
  IsKnownHeld (Some h) = IsKnownHold h

  -- a value that names things of the catalogue
  abbrev pub IsKnownValue : Value → Type 0
  IsKnownValue (CopyHas s) = IsKnownState s
  IsKnownValue (HoldHas o) = IsKnownHeld o

  -- the cells of the catalogue name things of the catalogue
  pub record IsKnownDesk (d : Desk) : Type 0 where
    pub copies : (c : CopyNo) → c < k.copies → IsKnownState (d.copy c)
    pub holds : (t : TitleNo) (p : PatronNo) → t < k.titles → p < k.patrons → IsKnownHeld (d.hold t p)

  -- a reply that names things of the catalogue
  abbrev pub IsKnownReply : Reply → Type 0
  IsKnownReply (LentOrRenewed t due renewal) = t < k.titles
  IsKnownReply (Returned t home now) = (t < k.titles) × (home < k.branches) × IsKnownState now
  IsKnownReply (Held t available position h) = (t < k.titles) × IsKnownHold h
  IsKnownReply (Deleted t) = t < k.titles

  -- and the reply of a turn
  abbrev pub IsKnownTurnReply : TurnReply → Type 0
  IsKnownTurnReply (Accepted n r) = IsKnownReply r
  IsKnownTurnReply (Item view) = IsKnownState view.state
  IsKnownTurnReply _ = Unit {0}

  -- an accepted command writes cells of the catalogue, with values and a reply that name things of it
  pub record IsKnownDone (done : Done) : Type 0 where
    pub changes : (change : Change) → IsAmong change done.changes
        → IsKnownCell change.cell × IsKnownValue change.new
    pub reply : IsKnownReply done.reply

  -- all that a journal's desk has and its turns replied names things of the catalogue
  pub record IsKnownJournal (turns : List Turn) : Type 0 where
    pub desk : IsKnownDesk (state_after k turns).desk
    pub replies : (turn : Turn) → IsAmong turn turns → IsKnownTurnReply turn.reply
