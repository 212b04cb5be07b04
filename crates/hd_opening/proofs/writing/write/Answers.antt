use Rattle.std.proofs.lemmas.Result.{IfOk-weaker}
use Rattle.hd_opening.proofs.FileLemmas.{written_told}
use Rattle.hd_opening.proofs.writing.write.Goals as goal

pub returns-clause-read_back : goal.returns-clause-read_back
returns-clause-read_back g c digest limits =
    IfOk-weaker c.opening_text.result _ _ (λ text is. written_told _ _ _ _ digest limits is)
    c.opening_text.ensures.text
