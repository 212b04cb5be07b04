use Rattle.std.proofs.Common.{◌∙◌, sym, ap}
use Rattle.hd_field.specs.Streams.{Begun}
use Rattle.hd_field.proofs.Cutting.{nothing_heard, line_ends, line_breaks, no_line_ends}
use Rattle.hd_field.proofs.streams.Stream.take.Goals as goal

pub returns-then-self-clause-no_line : goal.returns-then-self-clause-no_line
returns-then-self-clause-no_line g c =
    (nothing_heard c.args.self.now c.args.piece.now
    (sym (ap (λ (b : Begun). b.too_long) c.self.view_is) ∙ c.if-self.true)).0

pub returns-then-self-clause-all : goal.returns-then-self-clause-all
returns-then-self-clause-all g c =
    (nothing_heard c.args.self.now c.args.piece.now
    (sym (ap (λ (b : Begun). b.too_long) c.self.view_is) ∙ c.if-self.true)).1

pub returns-then-self-2-clause-no_line : goal.returns-then-self-2-clause-no_line
returns-then-self-2-clause-no_line g c =
    (line_breaks c.args.self.now c.push.new.self c.args.piece.now _ _ c.in-Some.ensures.found.split
    c.in-Some.ensures.found.no_return
    c.push.ensures (sym (ap (λ (b : Begun). b.too_long) c.self-in-Some.view_is) ∙ c.if-self-2.true)).0

pub returns-then-self-2-clause-all : goal.returns-then-self-2-clause-all
returns-then-self-2-clause-all g c =
    (line_breaks c.args.self.now c.push.new.self c.args.piece.now _ _ c.in-Some.ensures.found.split
    c.in-Some.ensures.found.no_return
    c.push.ensures (sym (ap (λ (b : Begun). b.too_long) c.self-in-Some.view_is) ∙ c.if-self-2.true)).1

pub returns-else-self-2-clause-line : goal.returns-else-self-2-clause-line
returns-else-self-2-clause-line g c =
    (line_ends c.args.self.now c.push.new.self c.args.piece.now _ _ c.in-Some.ensures.found.split
    c.in-Some.ensures.found.no_return
    c.push.ensures (sym (ap (λ (b : Begun). b.too_long) c.self-in-Some.view_is) ∙ c.if-self-2.false)).0

pub returns-else-self-2-clause-rest : goal.returns-else-self-2-clause-rest
returns-else-self-2-clause-rest g c =
    (line_ends c.args.self.now c.push.new.self c.args.piece.now _ _ c.in-Some.ensures.found.split
    c.in-Some.ensures.found.no_return
    c.push.ensures (sym (ap (λ (b : Begun). b.too_long) c.self-in-Some.view_is) ∙ c.if-self-2.false)).1

pub returns-in-None-clause-no_line : goal.returns-in-None-clause-no_line
returns-in-None-clause-no_line g c = no_line_ends _ _ _ c.args.piece.now c.in-None.ensures.none
