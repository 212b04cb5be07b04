-- What is told in a row, member by member, before names and texts are put to it.
use Rattle.std.specs.Prelude.{ℕ, Option, Some, None, option_map, option_and_then, List, [], ◌∷◌, ◌++◌, map}
use Rattle.hd_ask_parts.specs.Parts.{admits_of, command_parts, copy_of}
use Rattle.hd_rules.specs.declared.turns.Asked.{Asked}
use Rattle.hd_rules.specs.declared.cells.Cell.{Cell}
use Rattle.hd_rules.specs.declared.cells.Cell.TheVariants.{Copy as CopyCell, Hold as HoldCell}
use Rattle.hd_rules.specs.declared.cells.Value.TheVariants.{Copy as CopyHas, Hold as HoldHas}
use Rattle.hd_rules.specs.declared.copies.CopyState.{CopyState}
use Rattle.hd_rules.specs.declared.holds.Hold.{Hold}
use Rattle.hd_rules.specs.declared.replies.Reply.{Reply}
use Rattle.hd_rules.specs.declared.commands.Survivor.{Survivor}
use Rattle.hd_rules.specs.declared.replies.TurnReply.{TurnReply}
use Rattle.hd_rules.specs.declared.cells.Value.{Value}
use Rattle.hd_rules.specs.Numbers.{CommandNo, CopyNo, Day, PatronNo, SeatNo, TerminalNo, TitleNo}
use Rattle.hd_list_rows.specs.declared.row.Row.{Row}
use Rattle.hd_list_rows.specs.declared.row.Row.TheVariants as row
use Rattle.hd_list_rows.specs.PageValue.{PageValue}
use Rattle.hd_list_pages.specs.declared.part.Column.{Column}
use Rattle.hd_list_pages.specs.declared.part.Part.TheVariants as part
use Rattle.hd_list_pages.specs.declared.part.Plain.{Plain}
use Rattle.hd_list_pages.specs.declared.part.Plain.TheVariants as plain
use Rattle.hd_list_pages.specs.declared.words.Heading.{Heading}
use Rattle.hd_list_pages.specs.declared.words.Heading.TheVariants as heading
use Rattle.hd_list_pages.specs.declared.words.Word.{Word}
use Rattle.hd_list_pages.specs.declared.words.Word.TheVariants as word
use Rattle.hd_list_pages.specs.Parts.{asked_parts, due_told, number_told}
use Rattle.hd_list_pages.specs.Parts.{outcome_word, reply_due, state_parts, why_refused}

abbrev pub column : Heading → Plain → Column
column h what = record { heading = h; part = part.Plain what }

abbrev pub day_column : Heading → Option Day → Column
day_column h day = record { heading = h; part = part.Day day }

-- a copy, and where it is
abbrev pub copy_columns : Word → CopyNo → CopyState → List Column
copy_columns w c state =
    column heading.Row (plain.Word (Some w))
    ∷ column heading.Copy (plain.Copy (Some c))
    ∷ column heading.Title (plain.TitleOf (Some c))
    ∷ column heading.Home (plain.HomeOf (Some c))
    ∷ column heading.State (plain.Word (Some (state_parts state).word))
    ∷ column heading.Branch (plain.Branch (state_parts state).branch)
    ∷ column heading.To (plain.Branch (state_parts state).to)
    ∷ column heading.Place (plain.Number (state_parts state).place)
    ∷ column heading.Patron (plain.Patron (state_parts state).patron)
    ∷ day_column heading.Due (state_parts state).due
    ∷ column heading.Renewals (plain.Number (state_parts state).renewals)
    ∷ []

-- a patron's hold of a title, or that there is none
abbrev pub hold_columns : Word → TitleNo → Option ℕ → PatronNo → Option Hold → List Column
hold_columns w t position p hold =
    column heading.Row (plain.Word (Some w))
    ∷ column heading.Title (plain.Title (Some t))
    ∷ column heading.Position (plain.Number position)
    ∷ column heading.Patron (plain.Patron (Some p))
    ∷ column heading.Stamp (plain.Number (option_map (λ (h : Hold). h.stamp) hold))
    ∷ column heading.Admits (plain.Word (option_map (λ (h : Hold). word.Admits (admits_of h.kind)) hold))
    ∷ column heading.Only (plain.Copy (option_and_then (λ (h : Hold). copy_of h.kind) hold))
    ∷ column heading.Pickup (plain.Branch (option_map (λ (h : Hold). h.pickup) hold))
    ∷ day_column heading.Until (option_and_then (λ (h : Hold). h.expiry) hold)
    ∷ column heading.Copy (plain.Copy (option_and_then (λ (h : Hold). h.copy) hold))
    ∷ []

-- the title that is named, or else that of the copy
abbrev pub title_part : Option TitleNo → Option CopyNo → Plain
title_part (Some t) c = plain.Title (Some t)
title_part None c = plain.TitleOf c

-- a turn
abbrev pub turn_columns : ℕ → SeatNo → TerminalNo → Asked → TurnReply → List Column
turn_columns n seat terminal asked reply =
    column heading.Row (plain.Word (Some word.Turn))
    ∷ column heading.Turn (plain.Number (Some n))
    ∷ column heading.Seat (plain.Number (Some seat))
    ∷ column heading.Terminal (plain.Terminal terminal)
    ∷ column heading.Asked (plain.Word (Some (asked_parts asked).word))
    ∷ day_column heading.Day (asked_parts asked).day
    ∷ column heading.Patron (plain.Patron (asked_parts asked).patron)
    ∷ column heading.Copy (plain.Copy (asked_parts asked).copy)
    ∷ column heading.Title (title_part (asked_parts asked).title (asked_parts asked).copy)
    ∷ column heading.Branch (plain.Branch (asked_parts asked).branch)
    ∷ day_column heading.Until (asked_parts asked).until
    ∷ column heading.Outcome (plain.Word (Some (outcome_word reply)))
    ∷ column heading.Number (plain.Number (number_told reply))
    ∷ column heading.Why (plain.Refusal (why_refused reply))
    ∷ day_column heading.Due (due_told reply)
    ∷ []

-- a command, and the first that depends on it
abbrev pub command_columns : Survivor → Reply → Option CommandNo → List Column
command_columns s reply dependent =
    column heading.Row (plain.Word (Some word.Command))
    ∷ column heading.Command (plain.Number (Some s.number))
    ∷ column heading.Terminal (plain.Terminal s.terminal)
    ∷ column heading.Asked (plain.Word (Some (word.Act (command_parts s.command).act)))
    ∷ day_column heading.Day (command_parts s.command).day
    ∷ column heading.Patron (plain.Patron (command_parts s.command).patron)
    ∷ column heading.Copy (plain.Copy (command_parts s.command).copy)
    ∷ column heading.Title (title_part (command_parts s.command).title (command_parts s.command).copy)
    ∷ column heading.Branch (plain.Branch (command_parts s.command).branch)
    ∷ day_column heading.Until (command_parts s.command).until
    ∷ day_column heading.Due (reply_due reply)
    ∷ column heading.Dependent (plain.Number dependent)
    ∷ []

-- what a cell has: where a copy is, or a hold
abbrev pub cell_columns : Word → Cell → Value → List Column
cell_columns w (CopyCell c) (CopyHas state) = copy_columns w c state
cell_columns w (HoldCell t p) (HoldHas hold) = hold_columns w t None p hold
cell_columns w _ _ = column heading.Row (plain.Word (Some w)) ∷ []

-- the members of a row
abbrev pub columns_of : Row → List Column
columns_of (row.Copy c state) = copy_columns word.Copy c state
columns_of (row.Hold t position hold) = hold_columns word.Hold t (Some position) hold.patron (Some hold)
columns_of (row.Turn n seat terminal asked reply) = turn_columns n seat terminal asked reply
columns_of (row.Command s reply dependent) = command_columns s reply dependent
columns_of (row.Before cell value) = cell_columns word.Before cell value
columns_of (row.After cell value) = cell_columns word.After cell value

-- where the next page begins
abbrev pub next_columns : Option ℕ → List (List Column)
next_columns None = []
next_columns (Some n) = (column heading.Next (plain.Number (Some n)) ∷ []) ∷ []

-- the rows of a page, and where the next one begins, if there is one
abbrev pub page_columns : PageValue → List (List Column)
page_columns page = map columns_of page.rows ++ next_columns page.next
