use Rattle.std.proofs.Common.{◌≡◌, ◌==◌, ◌∙◌, sym, ap, ap₂, length, true, false, ℕ, List, Bool}
use Rattle.hd_field.specs.Streams.{Begun, begun_after, without_feeds}
use Rattle.hd_field.proofs.Cutting.{begun_so, none_behind_feeds, feeds_alone, feeds_passed, behind_return}
use Rattle.hd_field.proofs.streams.Stream.push.Goals as goal

pub extend-requires-then-not-is_empty-clause-plain : goal.extend-requires-then-not-is_empty-clause-plain
extend-requires-then-not-is_empty-clause-plain g c =
    rw (c.without_feeds-rest.ensures) (none_behind_feeds c.args.bytes.now c.requires.plain)

pub returns-then-not-is_empty : goal.returns-then-not-is_empty
returns-then-not-is_empty g c =
    let here = behind_return c.args.self.now
    (sym (ap (λ (b : Begun). b.fresh) c.self.view_is) ∙ c.if-not-self.false) c.requires.short in
    let some : (length (without_feeds c.args.bytes.now) == 0) ≡ false =
    rw (← c.without_feeds-rest.ensures) (sym c.is_empty.ensures ∙ c.if-not-is_empty.true) in
    let view : begun_so false c.self.inside.text.items c.self.inside.too_long
    ≡ begun_so false c.args.self.now.text false =
    ap₂ (λ (t : List ℕ) (l : Bool). begun_so false t l) (ap (λ (b : Begun). b.text) c.self.view_is)
    (ap (λ (b : Begun). b.too_long) c.self.view_is ∙ c.requires.short) in
    c.extend-then-not-is_empty.ensures
    ∙ (ap₂ (λ (b : Begun) (l : List ℕ). begun_after b l) view c.without_feeds-rest.ensures
    ∙ sym (ap (λ (b : Begun). begun_after b c.args.bytes.now) here
    ∙ feeds_passed c.args.self.now.text c.args.bytes.now c.requires.plain some))

pub returns-else-not-is_empty : goal.returns-else-not-is_empty
returns-else-not-is_empty g c =
    let here = behind_return c.args.self.now
    (sym (ap (λ (b : Begun). b.fresh) c.self.view_is) ∙ c.if-not-self.false) c.requires.short in
    let alone : (length (without_feeds c.args.bytes.now) == 0) ≡ true =
    rw (← c.without_feeds-rest.ensures) (sym c.is_empty.ensures ∙ c.if-not-is_empty.false) in
    here ∙ sym (ap (λ (b : Begun). begun_after b c.args.bytes.now) here
    ∙ feeds_alone c.args.self.now.text c.args.bytes.now c.requires.plain alone)
