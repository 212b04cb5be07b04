use Rattle.hd_catalogue.proofs.ShortLemmas.{names-none}
use Rattle.hd_catalogue.proofs.SoundLemmas.{sound-none}
use Rattle.hd_catalogue.proofs.catalogue.Catalogue.new.Goals as goal

pub invariant_of-result : goal.invariant_of-result
invariant_of-result g c = rw (
  c.new.ensures,
  c.new-2.ensures,
  c.new-3.ensures,
  c.new-4.ensures,
  c.new-5.ensures,
  c.new-6.ensures.items,
) (
  sound-none c.args.settings c.args.institution.items c.requires.some_command c.requires.commands,
  names-none c.args.settings c.args.institution.items c.requires.name,
)
