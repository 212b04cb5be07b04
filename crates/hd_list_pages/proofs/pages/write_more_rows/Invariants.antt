use Rattle.std.proofs.Common.{map, take}
use Rattle.hd_list_pages.specs.Columns.{columns_of}
use Rattle.hd_list_pages.specs.Writing.{WritesMoreObjects}
use Rattle.hd_list_pages.proofs.pages.write_more_rows.Given as goal

-- those so far are written
abbrev pub invariant-loop-row : goal.invariant-loop-row
invariant-loop-row g l =
    WritesMoreObjects l.catalogue (map columns_of (take l.row-index l.rows)) l.fn.out.items l.out.items
