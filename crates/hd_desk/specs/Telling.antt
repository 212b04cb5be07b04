-- How a desk tells the outcome of a command.
use Rattle.std.specs.Prelude.{◌≡◌, Result, Ok, Err}
use Rattle.hd_rules.specs.declared.replies.Refusal.{Refusal}
use Rattle.hd_rules.specs.declared.replies.Reply.{Reply}
use Rattle.hd_rules.specs.Ask.{Done}
use Rattle.hd_desk.specs.declared.refused.Refused.{Refused}
use Rattle.hd_desk.specs.declared.refused.Refused.TheVariants.{Rule, Memory}
use Rattle.hd_desk.specs.Cells.{IsShortOfRoom}
use Rattle.hd_desk.specs.DeskValue.{DeskValue}
use Rattle.hd_desk.specs.DoneValue.{DoneValue, done_of}

-- Exactly the outcome. It is out of memory only where the rules accept the command, and the desk has too little room.
abbrev pub IsItsOutcome : DeskValue → Result Done Refusal → DoneValue → Result Reply Refused → Type 0
IsItsOutcome d outcome done (Ok reply) = outcome ≡ Ok (done_of done reply)
IsItsOutcome d outcome done (Err (Rule refusal)) = outcome ≡ Err refusal
IsItsOutcome d outcome done (Err Memory) = IsShortOfRoom d outcome
