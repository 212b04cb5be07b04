use Rattle.std.proofs.Common.{◌∙◌}
use Rattle.hex.specs.Hex.{encode_lower}
use Rattle.hd_opening.proofs.WriteLemmas.{first_put}
use Rattle.hd_opening.proofs.writing.put_first.Goals as goal

pub returns : goal.returns
returns g c =
    first_put c.args.out.now.items c.args.last
    (encode_lower c.args.digest.now) c.as_bytes.result.now c.digest_text.result
    c.extend_from_slice.new.self.items c.extend_from_slice-2.new.self.items c.push.new.self.items
    c.extend_from_slice-3.new.self.items
    c.push-2.new.self.items c.in_ok-extend_from_slice.ensures.items c.in_ok-extend_from_slice-2.ensures.items
    c.in_ok-push.ensures.items
    c.in_ok-extend_from_slice-3.ensures.items c.in_ok-push-2.ensures.items
    (c.as_bytes.ensures.value ∙ c.format.ensures.text)
    c.digest_text.ensures
