use Rattle.hd_catalogue.proofs.LongerLemmas.{extended_grows, lines_more}
use Rattle.hd_catalogue.proofs.law.an_extended_catalogue_grows.Goals as goal

pub returns : goal.returns
returns c = record { names = lines_more; grows = extended_grows }
