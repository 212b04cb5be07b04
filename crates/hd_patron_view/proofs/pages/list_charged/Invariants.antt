use Rattle.std.proofs.Common.{◌≡◌, map}
use Rattle.hd_patron_view.specs.Cutting.{filled}
use Rattle.hd_rules.specs.declared.views.ListItem.TheVariants.{Copy as CopyItem}
use Rattle.hd_patron_view.proofs.pages.list_charged.Given as goal

-- what the page will have, with what is left
abbrev pub invariant-loop-copy : goal.invariant-loop-copy
invariant-loop-copy g l =
    filled g.row.N l.cut l.items.items (map CopyItem l.copy-iterator)
    ≡ filled g.row.N l.fn.cut l.fn.items.items (map CopyItem l.fn.copies)
