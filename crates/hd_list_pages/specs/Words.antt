-- The texts of words and headings.
use Rattle.std.specs.Prelude.{ℕ, List, codes}
use Rattle.hd_ask_parts.specs.Acts.{act_word, admits_word}
use Rattle.hd_list_pages.specs.declared.words.Word.{Word}
use Rattle.hd_list_pages.specs.declared.words.Word.TheVariants as word
use Rattle.hd_list_pages.specs.declared.words.Heading.{Heading}
use Rattle.hd_list_pages.specs.declared.words.Heading.TheVariants as heading

abbrev pub word_text : Word → List ℕ
word_text word.Copy = codes "copy"
word_text word.Hold = codes "hold"
word_text word.Turn = codes "turn"
word_text word.Command = codes "command"
word_text word.Before = codes "before"
word_text word.After = codes "after"
word_text word.OpenShelf = codes "open shelf"
word_text word.OnLoan = codes "on loan"
word_text word.HoldShelf = codes "hold shelf"
word_text word.InTransit = codes "in transit"
word_text (word.Admits admits) = admits_word admits
word_text (word.Act act) = act_word act
word_text word.Item = codes "item"
word_text word.Done = codes "done"
word_text word.Refused = codes "refused"
word_text word.Cancelled = codes "cancelled"

abbrev pub heading_text : Heading → List ℕ
heading_text heading.Row = codes "row"
heading_text heading.Copy = codes "copy"
heading_text heading.Title = codes "title"
heading_text heading.Home = codes "home"
heading_text heading.State = codes "state"
heading_text heading.Branch = codes "branch"
heading_text heading.To = codes "to"
heading_text heading.Place = codes "place"
heading_text heading.Patron = codes "patron"
heading_text heading.Due = codes "due"
heading_text heading.Renewals = codes "renewals"
heading_text heading.Position = codes "position"
heading_text heading.Stamp = codes "stamp"
heading_text heading.Admits = codes "admits"
heading_text heading.Only = codes "only"
heading_text heading.Pickup = codes "pickup"
heading_text heading.Until = codes "until"
heading_text heading.Turn = codes "turn"
heading_text heading.Seat = codes "seat"
heading_text heading.Terminal = codes "terminal"
heading_text heading.Asked = codes "asked"
heading_text heading.Day = codes "day"
heading_text heading.Outcome = codes "outcome"
heading_text heading.Number = codes "number"
heading_text heading.Why = codes "why"
heading_text heading.Command = codes "command"
heading_text heading.Dependent = codes "dependent"
heading_text heading.Next = codes "next"
