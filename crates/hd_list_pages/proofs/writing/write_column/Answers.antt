use Rattle.std.proofs.Common.{refl, ◌∙◌, ap, ℕ, List, ◌∷◌, [], ◌++◌, append_assoc}
use Rattle.hd_json.specs.Texts.{member_text, quoted, value_text}
use Rattle.hd_list_pages.specs.Words.{heading_text}
use Rattle.hd_list_pages.proofs.writing.write_column.Goals as goal

pub returns : goal.returns
unfolding member_text
returns g c =
    let old = c.args.out.now.items in
    let part = c.in_ok-write_part.ensures in
    let told = value_text part.0 in (
      record { name = heading_text c.args.column.now.heading; value = part.0 },
      record { heading = refl; value = part.1 },
      part.2
          ∙ ap (λ (zs : List ℕ). zs ++ told) c.in_ok-write_name.ensures
          ∙ append_assoc (old ++ quoted c.text.result.now) (58 ∷ []) told
          ∙ append_assoc old (quoted c.text.result.now) (58 ∷ told)
          ∙ ap (λ (name : List ℕ). old ++ (quoted name ++ 58 ∷ told)) c.text.ensures,
    )
