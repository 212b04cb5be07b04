use Rattle.std.proofs.Common.{◌≡◌, ◌++◌, map, drop}
use Rattle.std.specs.List.{concat}
use Rattle.hd_carry.specs.Telling.{part_text}
use Rattle.hd_carry.proofs.telling.Teller.text_of.Given as goal

-- the text so far, and that of the parts that are left
abbrev pub invariant-loop-part : goal.invariant-loop-part
invariant-loop-part g l =
    l.text.items ++ concat (map (part_text l.self.old.now l.self.new.now) (drop l.part-index l.parts))
    ≡ concat (map (part_text l.self.old.now l.self.new.now) l.parts)
