use Rattle.std.proofs.Common.{[], ◌∷◌}
use Rattle.hd_rules.specs.Turns.{start}
use Rattle.hd_rules.specs.Journal.{state_after, IsLegalFrom, IsLegal}
use Rattle.hd_rules.proofs.Journals.{legal_parts, legal_joined, state_joined, replied_legal, replied_same}
use Rattle.hd_rules.proofs.laws.legal_journals_go_on.Goals as goal

pub returns : goal.returns
returns c = record {
  goes_on = λ k turns turn. (
    (
      (λ legal. let parts : IsLegal k turns × IsLegalFrom k (state_after k turns) (turn ∷ []) =
          legal_parts k (start k) turns (turn ∷ []) legal in (parts.0, parts.1.0)),
      (λ parts. legal_joined k (start k) turns (turn ∷ []) parts.0 (parts.1, tt)),
    ),
    state_joined k (start k) turns (turn ∷ []),
  );
  one = λ k turns. (replied_legal k (start k) turns, replied_same k (start k) turns);
}
