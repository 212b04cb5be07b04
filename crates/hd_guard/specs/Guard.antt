-- What an answer about a line stands for.
use Rattle.hd_guard.specs.Reading.{Reading, PlainLine, CheckedLine, WrongLine}
use Rattle.hd_guard.specs.declared.guarded.Guarded.{Guarded}
use Rattle.hd_guard.specs.declared.guarded.Guarded.TheVariants.{Plain, Checked, Wrong}

-- the reading of the line that an answer gives
abbrev pub reading : Guarded → Reading
reading (Plain body) = PlainLine body.now
reading (Checked body seq) = CheckedLine body.now seq
reading Wrong = WrongLine
