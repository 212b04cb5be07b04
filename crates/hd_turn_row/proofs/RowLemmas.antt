-- Rows and what they ask.
use Rattle.std.proofs.Common.{◌≡◌, ℕ, ◌∷◌, subst, inl, inr}
use Rattle.hd_catalogue.specs.Contents.{Contents, facts_of}
use Rattle.hd_rules.specs.Messages.{IsKnownMessage}
use Rattle.hd_rules.specs.Turns.{Message}
use Rattle.hd_turn_row.specs.Columns.{asked_columns}
use Rattle.hd_turn_row.specs.Faults.{IsFirstFault, IsFirstMisfit, IsRead, unread as unread_fault}
use Rattle.hd_turn_row.specs.Grown.{OnlyGrew}
use Rattle.hd_turn_row.specs.Rows.{IsRowOf}
use Rattle.hd_turn_store.specs.Kept.{KeptTurn}
use Rattle.hd_turn_row.specs.declared.fault.Column.TheVariants as columns
use Rattle.hd_turn_row.specs.declared.fault.RowFault.{RowFault}
use Rattle.hd_ask_parts.specs.declared.parts.Parts.{Parts}
use Rattle.hd_turn_row.proofs.ColumnLemmas.{OneDay, fits_self, none_first, parts_once, shown_grown}
use Rattle.hd_turn_row.proofs.ColumnLemmas.{shown_known, shown_read_all}
use Rattle.hd_turn_row.proofs.NumberLemmas.{number_kept, number_known}
use Rattle.hd_turn_row.proofs.PartLemmas.{asked_back, parts_known}

-- what is asked by a row is known
pub row_known : (k : Contents) (seat : ℕ) (message : Message) (row : KeptTurn) → IsRowOf k seat message row
    → IsKnownMessage (facts_of k) message
unfolding facts_of
row_known k seat message row h = (
  number_known k.terminals row.terminal message.terminal h.terminal,
  (parts_known (facts_of k) message.asked h.parts h.asked).1 (shown_known k row h.parts h.shown),
)

-- a row with a fault is that of no message
pub row_faulty : (one : OneDay) (k : Contents) (seat : ℕ) (message : Message) (row : KeptTurn)
    (fault : RowFault) → IsFirstFault k row fault → IsRowOf k seat message row → ⊥
row_faulty one k seat message row fault (inl unread) h =
    let terminal : IsRead k row columns.Terminal = (message.terminal, h.terminal) in
    none_first (IsRead k row) unread_fault (columns.Terminal ∷ asked_columns) fault
    (terminal, shown_read_all k row h.parts h.shown) unread
row_faulty one k seat message row fault (inr (parts, terminal, shown, (again, is, first))) h =
    let same : parts ≡ h.parts = parts_once one k row parts h.parts shown h.shown in
    let all : again ≡ parts = cc (same, asked_back message.asked h.parts h.asked, h.asked) in
    fits_self parts fault (subst (λ (other : Parts). IsFirstMisfit parts other fault) all first)

-- a row is that of one message at most
pub row_once : (one : OneDay) (k : Contents) (seat seat' : ℕ) (message message' : Message) (row : KeptTurn)
    → IsRowOf k seat message row → IsRowOf k seat' message' row → (seat ≡ seat') × (message ≡ message')
row_once one k seat seat' message message' row h g =
    let same : h.parts ≡ g.parts = parts_once one k row h.parts g.parts h.shown g.shown in
    let terminal : message.terminal ≡ message'.terminal = cc in
    let asked : message.asked ≡ message'.asked =
    cc (asked_back message.asked h.parts h.asked, asked_back message'.asked g.parts g.asked) in
    let line : message.line ≡ message'.line = cc in
    (cc, λ i. record { terminal = terminal i; asked = asked i; line = line i })

-- and asks the same of a catalogue that only grew
pub row_grown : (old new : Contents) (seat : ℕ) (message : Message) (row : KeptTurn) → OnlyGrew old new
    → IsRowOf old seat message row → IsRowOf new seat message row
row_grown old new seat message row more h = record {
  seat_is = h.seat_is;
  terminal = number_kept old.terminals new.terminals row.terminal message.terminal more.terminals h.terminal;
  parts = h.parts;
  asked = h.asked;
  shown = shown_grown old new h.parts row more h.shown;
  line = h.line;
}
