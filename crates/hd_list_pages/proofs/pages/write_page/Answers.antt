use Rattle.std.proofs.Common.{◌∷◌, []}
use Rattle.std.specs.List.{join_by}
use Rattle.hd_json.specs.Texts.{array_text, object_text}
use Rattle.hd_list_pages.proofs.Joining.{wrapped}
use Rattle.hd_list_pages.proofs.pages.write_page.Goals as goal

pub returns : goal.returns
unfolding array_text
returns g c =
    let all = c.in_ok-write_lines.ensures in (
      all.0,
      all.1,
      wrapped 91 93 _ _ _ _ (join_by object_text (44 ∷ []) all.0) c.in_ok-push.ensures.items all.2
          c.in_ok-push-2.ensures.items,
    )
