-- A page in the making.
use Rattle.std.specs.Prelude.{ℕ, ◌-◌, List, ◌++◌, length, take, drop}
use Rattle.hd_rules.specs.declared.views.ListItem.{ListItem}
use Rattle.hd_rules.specs.Views.{as_far_as}
use Rattle.hd_patron_view.specs.declared.cut.Cut.{Cut}

-- these items, and of the others as many as there is room for
abbrev pub topped_up : ℕ → List ListItem → List ListItem → List ListItem
topped_up room items others = items ++ take (room - length items) others

-- the page that these items become, when what is cut from the rest of the list is added
abbrev pub filled : ℕ → Cut → List ListItem → List ListItem → List ListItem
filled room cut items rest = topped_up room items (as_far_as cut.left (drop cut.skip rest))
