use Rattle.std.proofs.Common.{◌∷◌, []}
use Rattle.std.specs.List.{join_by}
use Rattle.hd_json.specs.Texts.{member_text, object_text}
use Rattle.hd_list_pages.proofs.Joining.{wrapped}
use Rattle.hd_list_pages.proofs.writing.write_object.Goals as goal

pub returns : goal.returns
unfolding object_text
returns g c =
    let all = c.in_ok-write_columns.ensures in (
      all.0,
      all.1,
      wrapped 123 125 _ _ _ _ (join_by member_text (44 ∷ []) all.0) c.in_ok-push.ensures.items all.2
          c.in_ok-push-2.ensures.items,
    )
