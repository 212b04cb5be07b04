use Rattle.std.proofs.Common.{ℕ, List, ◌++◌, drop, ap, ◌∙◌, arith}
use Rattle.hd_guard.specs.Trailer.{trailer_text}
use Rattle.hd_guard.proofs.TrailerLemmas.{appended_ends_right, appended_is_read_back}
use Rattle.hd_guard.proofs.write.seal.Goals as goal

pub returns-clause-right : goal.returns-clause-right
returns-clause-right g c =
    let text =
    c.put_trailer.ensures.text
    ∙ ap (λ (items : List ℕ). items ++ trailer_text (drop c.args.from items) c.args.seq)
    c.reserve.ensures.items in
    appended_ends_right c.args.out.now.items c.put_trailer.new.out.items c.args.from c.args.seq
    (omega arith) text

pub returns-clause-read_back : goal.returns-clause-read_back
returns-clause-read_back g c = λ none.
    let text =
    c.put_trailer.ensures.text
    ∙ ap (λ (items : List ℕ). items ++ trailer_text (drop c.args.from items) c.args.seq)
    c.reserve.ensures.items in
    appended_is_read_back c.args.out.now.items c.put_trailer.new.out.items c.args.from c.args.seq
    (omega arith) text
    c.put_trailer.ensures.digit none
