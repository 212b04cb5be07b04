-- Bytes cut at a mark or after a prefix.
use Rattle.std.specs.Prelude.{ℕ, ◌==◌, List, [], Option, Some, None, take, drop, length, position}
use Rattle.std.specs.Prelude.{if◌then◌else◌}
use Rattle.std.specs.Prelude.{nat_eq}
use Rattle.std.specs.Cmp.Lexicographic.{pointwise}

-- the bytes before the place, or all
abbrev pub before_place : Option ℕ → List ℕ → List ℕ
before_place None bytes = bytes
before_place (Some at) bytes = take at bytes

-- the bytes after the place, if there is one
abbrev pub after_place : Option ℕ → List ℕ → Option (List ℕ)
after_place None bytes = None
after_place (Some at) bytes = Some (drop 1 (drop at bytes))

-- the bytes before the first such mark, or all
abbrev pub before_mark : ℕ → List ℕ → List ℕ
before_mark mark bytes = before_place (position (λ byte. byte == mark) bytes) bytes

-- the bytes after it, if there is one
abbrev pub after_mark : ℕ → List ℕ → Option (List ℕ)
after_mark mark bytes = after_place (position (λ byte. byte == mark) bytes) bytes

-- the bytes after a prefix, if they have it
abbrev pub after_prefix : List ℕ → List ℕ → Option (List ℕ)
after_prefix prefix bytes =
    if pointwise nat_eq (take (length prefix) bytes) prefix then Some (drop (length prefix) bytes) else None

-- the bytes from the place on, if there is one
abbrev pub rest_place : Option ℕ → List ℕ → List ℕ
rest_place None bytes = []
rest_place (Some at) bytes = drop at bytes

-- the bytes from the first such mark on
abbrev pub rest_at : ℕ → List ℕ → List ℕ
rest_at mark bytes = rest_place (position (λ byte. byte == mark) bytes) bytes
