use Rattle.std.proofs.Common.{◌≡◌, ◌∙◌, sym, ap, subst, true, vec_len, length, ℕ, List}
use Rattle.hd_field.specs.Streams.{Begun, begun_after}
use Rattle.hd_field.proofs.Cutting.{begun_so, fits_whole, fits_first}
use Rattle.hd_field.proofs.streams.Stream.extend.Goals as goal

pub returns-then-bytes-room : goal.returns-then-bytes-room
returns-then-bytes-room g c =
    let begun = begun_so c.self.inside.fresh c.self.inside.text.items c.self.inside.too_long in
    let size : vec_len c.self.inside.text ≡ length c.self.inside.text.items =
    sym c.as_slice.ensures.len ∙ ap (λ (l : List ℕ). length l) c.as_slice.ensures.value in
    let room : length c.as_slice.result.now ≡ length c.self.inside.text.items =
    ap (λ (l : List ℕ). length l) c.as_slice.ensures.value in
    let text = c.extend_from_slice.new.self.items in
    subst (λ (b : Begun). begun_so begun.fresh text begun.too_long ≡ begun_after b c.args.bytes.now)
    c.self.view_is
    (fits_whole begun c.args.bytes.now text (ap (λ (b : Begun). b.fresh) c.self.view_is
    ∙ c.requires.begun) (ap (λ (b : Begun). b.too_long) c.self.view_is
    ∙ c.requires.short) (rw (sym size) c.self.invariant.0) c.requires.plain
    (rw (sym room) c.if-bytes-room.true)
    (rw c.unwrap.ensures at c.extend_from_slice.ensures.items))

pub returns-else-bytes-room : goal.returns-else-bytes-room
returns-else-bytes-room g c =
    let begun = begun_so c.self.inside.fresh c.self.inside.text.items c.self.inside.too_long in
    let size : vec_len c.self.inside.text ≡ length c.self.inside.text.items =
    sym c.as_slice.ensures.len ∙ ap (λ (l : List ℕ). length l) c.as_slice.ensures.value in
    let room : length c.as_slice.result.now ≡ length c.self.inside.text.items =
    ap (λ (l : List ℕ). length l) c.as_slice.ensures.value in
    let text = c.extend_from_slice-else-bytes-room.new.self.items in
    subst (λ (b : Begun). begun_so begun.fresh text true ≡ begun_after b c.args.bytes.now) c.self.view_is
    (fits_first begun c.args.bytes.now text (ap (λ (b : Begun). b.fresh) c.self.view_is
    ∙ c.requires.begun) (ap (λ (b : Begun). b.too_long) c.self.view_is
    ∙ c.requires.short) (rw (sym size) c.self.invariant.0) c.requires.plain
    (rw (sym room) c.if-bytes-room.false)
    (rw (room, c.unwrap-else-bytes-room.ensures) at c.extend_from_slice-else-bytes-room.ensures.items))
