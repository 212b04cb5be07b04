use Rattle.std.proofs.Common.{◌≡◌, ◌∷◌, ◌++◌, [], take, map}
use Rattle.std.specs.List.{flat_map}
use Rattle.hd_log.specs.Lines.{field_text}
use Rattle.hd_log.specs.Fields.{field_shown}
use Rattle.hd_log.proofs.field.write_fields.Given as goal

-- those so far are written, each behind a blank
abbrev pub invariant-loop-field : goal.invariant-loop-field
invariant-loop-field l =
    l.out.items ≡ (l.initial.out.items
    ++ flat_map (λ x. 32 ∷ [] ++ field_text x) (map field_shown (take l.field-index l.rest)))
