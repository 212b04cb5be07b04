-- Files that aren't at their paths any more.
use Rattle.std.specs.Prelude.{◌≢◌, Option, Some, None}
use Rattle.hd_server.specs.declared.file_identity.FileIdentity.{FileIdentity}

-- The file that was at a path isn't there any more: none is, or another one.
abbrev pub HasGone : Option FileIdentity → Option FileIdentity → Type 0
HasGone before None = Unit {0}
HasGone None (Some now) = ⊥
HasGone (Some before) (Some now) = before ≢ now
