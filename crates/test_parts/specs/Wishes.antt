-- What a terminal is to ask.
use Rattle.std.specs.Prelude.{◌<◌}
use Rattle.hd_rules.specs.Known.{IsKnown}
use Rattle.hd_catalogue.specs.Contents.{Contents, facts_of}
use Rattle.test_parts.specs.declared.wishes.Wish.{Wish}

-- a terminal of the catalogue is to ask something that names things of it
abbrev pub IsOf : Contents → Wish → Type 0
IsOf k wish = (wish.terminal < (facts_of k).terminals) × IsKnown (facts_of k) wish.asked
