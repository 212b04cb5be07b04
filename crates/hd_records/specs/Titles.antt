-- The title that a cancellation is about.
use Rattle.std.specs.Prelude.{ℕ}
use Rattle.hd_rules.specs.declared.commands.Cancel.{Cancel}
use Rattle.hd_rules.specs.declared.commands.Cancel.TheVariants as cancel
use Rattle.hd_rules.specs.Facts.{Facts}

-- the title that it names, or that of its copy
abbrev pub title_of_cancel : Facts → Cancel → ℕ
title_of_cancel k (cancel.Checkout c) = k.title_of c
title_of_cancel k (cancel.Checkin c) = k.title_of c
title_of_cancel k (cancel.Renewal c) = k.title_of c
title_of_cancel k (cancel.Add p t) = t
title_of_cancel k (cancel.Delete p t) = t
title_of_cancel k (cancel.Change p t) = t
