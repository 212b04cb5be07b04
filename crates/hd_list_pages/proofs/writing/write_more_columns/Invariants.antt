use Rattle.std.proofs.Common.{take}
use Rattle.hd_list_pages.specs.Writing.{WritesMoreMembers}
use Rattle.hd_list_pages.proofs.writing.write_more_columns.Given as goal

-- those so far are written
abbrev pub invariant-loop-column : goal.invariant-loop-column
invariant-loop-column g l =
    WritesMoreMembers l.catalogue (take l.column-index l.columns) l.fn.out.items l.out.items
