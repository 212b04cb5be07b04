use Rattle.std.proofs.Common.{◌∙◌, refl}
use Rattle.hd_journal_file.proofs.reading.own_ask.Goals as goal

pub returns-in-Err-clause-why : goal.returns-in-Err-clause-why
returns-in-Err-clause-why g c format =
    (refl, rw (← (c.deref.ensures ∙ c.catalogue.ensures ∙ c.desk.ensures.contents)) c.in-Err.ensures.fault)
