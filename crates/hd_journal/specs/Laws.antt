-- What is known of cancellations, and of legal journals.
use Rattle.hd_rules.specs.Laws.{ALegalJournalIsTheRunOfItsSurvivors, CommandsKeepDesksSound}
use Rattle.hd_rules.specs.Laws.{LegalJournalsGoOn, TheFirstDependentIsTheLeast, TheHeadline}
use Rattle.hd_rules.specs.Laws.{TheTargetIsTheNewest, UndoingIsTheRunWithout}
use Rattle.hd_clash.specs.About.{AllRecordsAreAboutTheirCommands}
use Rattle.hd_clash.specs.Records.{RecordsAreKnown, RecordsSplit}
use Rattle.hd_clash.specs.Walk.{ShiftedRecordsAreThoseWithout, TheFirstClashIsTheFirstDependent}
use Rattle.hd_records.specs.Looks.{WalksAreShort}

-- laws of the rules, of clashes and of records, together
pub record CancellationLaws : Type 0 where
  pub target : TheTargetIsTheNewest
  pub commands : CommandsKeepDesksSound
  pub dependent : TheFirstDependentIsTheLeast
  pub undoing : UndoingIsTheRunWithout
  pub journals : ALegalJournalIsTheRunOfItsSurvivors
  pub split : RecordsSplit
  pub known : RecordsAreKnown
  pub about : AllRecordsAreAboutTheirCommands
  pub clash : TheFirstClashIsTheFirstDependent
  pub mended : ShiftedRecordsAreThoseWithout
  pub walks : WalksAreShort

-- the rules' laws of legal journals, together
pub record JournalLaws : Type 0 where
  pub legal : LegalJournalsGoOn
  pub journals : ALegalJournalIsTheRunOfItsSurvivors
  pub headline : TheHeadline
