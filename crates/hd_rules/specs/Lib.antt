-- The definitions that everything else rests on, to be read in this order, from the first type to the
-- headline. They say what each thing is; how it is found stands below the stairs, each search with the law
-- that says it finds just that. A module uses those above it, and what stands below the stairs. "§ Choice"
-- in a comment is the section "Choice" of docs/desk-rules.md, where the rule stands in plain words.
pub mod Numbers  -- what a number is of: a branch, a terminal, a title, a copy, a patron, a day, a command
pub mod Words  -- the types of src/ by name: copies, holds, cells, changes, questions, commands, replies
pub mod Desk  -- what each cell has, the desk with each copy at home, and a desk after some changes
pub mod Facts  -- what a catalogue says, and how a journal begins
pub mod Choose  -- which hold a copy is for, which place is free, and what a desk counts
pub mod Ask  -- what a command may ask, what a desk answers, and a command as a plan of questions
pub mod Settle  -- where a copy goes when it is handed in
pub mod Step  -- the plan of each command
pub mod Run  -- commands one after another, from the opening desk
pub mod Depends  -- when a later command depends on an earlier one
pub mod Target  -- which command a cancellation takes back
pub mod Turns  -- the turn machine: what each message may be answered, and what that leaves
pub mod Journal  -- lists of turns in which each reply is the machine's
pub mod Headline  -- what holds after each of them: the record Headline, which Laws.TheHeadline claims
-- Below the stairs: how what the chain speaks of is found, each with the law that ties the two.
pub mod Find  -- a first candidate (ChoiceIsTheFirstCandidate) and a free place (PlaceIsTheLeastFree)
pub mod Notes  -- an answer as it is noted and told (CommandsRestOnTheirAnswers)
pub mod Searches  -- a target (TheTargetIsTheNewest) and the first dependent (TheFirstDependentIsTheLeast)
pub mod Machine  -- the reply to a message, and the state that it leaves (EachTurnIsDetermined)
pub mod Same  -- tests of equality (TestsAreExact), and the changes that change something
pub mod Changes  -- which cells are one, and changes that are apart
-- What is proved, and its further words.
pub mod Laws  -- the laws: the headline is the first of them
pub mod Differ  -- desks that differ by some changes
pub mod Sound  -- what holds of every desk that commands lead to
pub mod Record  -- what a journal keeps of a command
pub mod Known  -- numbers that a catalogue has given
pub mod Messages  -- what a seat's terminal asks in one turn
pub mod Rows  -- the desk that a journal opens with, as a file tells it
pub mod Carry  -- what goes over to a journal of another catalogue
pub mod Growth  -- a catalogue that gets more names while its journal goes on
pub mod Views  -- what is told of a patron: the lists of their loans and holds, and a page of one
pub mod Replies  -- which replies a message may get
pub mod RefusalTexts  -- the texts of refusals
