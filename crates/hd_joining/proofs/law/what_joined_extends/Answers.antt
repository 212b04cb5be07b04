use Rattle.hd_joining.proofs.ExtendsLemmas.{what_joined}
use Rattle.hd_joining.proofs.law.what_joined_extends.Goals as goal

pub returns : goal.returns
returns c = what_joined c.an_extended_catalogue_grows.ensures.names
