-- The paths that name no list.
use Rattle.std.specs.Prelude.{ℕ, List, Option, Some, None, codes, if◌then◌else◌}
use Rattle.std.specs.Str.{bytes_eq}
use Rattle.hd_http.specs.declared.place.Place.{Place}
use Rattle.hd_http.specs.declared.place.Place.TheVariants.{Home, Health, Metrics}

-- what a path names that is no list
abbrev pub place_of : List ℕ → Option Place
place_of path =
    if bytes_eq path (codes "/") then Some Home
    else if bytes_eq path (codes "/health") then Some Health
    else if bytes_eq path (codes "/metrics") then Some Metrics
    else None
