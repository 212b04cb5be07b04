use Rattle.std.proofs.Common.{◌≡◌, ◌≢◌, ◌++◌, ◌∷◌, ◌∙◌, ap, arith}
use Rattle.std.proofs.lemmas.Grind.{common_steps}
use Rattle.hd_catalogue.specs.Files.{lines_of}
use Rattle.hd_joining.specs.Joining.{IsEnded, last_byte}
use Rattle.hd_joining.proofs.JoinLemmas.{grown_ended, grown_open}
use Rattle.hd_joining.proofs.text.grown_text.Goals as goal
use Rattle.hd_joining.proofs.text.grown_text.Goals.{then-not-is_ended+in_ok-push, else-not-is_ended}

pub returns : goal.returns
returns g c = λ whole.
    elim c.if-not-is_ended.branch [
      | then-not-is_ended+in_ok-push w ↦
          let all : c.extend_from_slice.new.self.items ≡ c.args.file.now ++ 10 ∷ c.args.joined.now =
          grind (arith, common_steps) in
          let no_end : last_byte c.args.file.now ≢ 10 = λ last.
          let is = c.is_ended.ensures.1 (whole.0, last) in grind (arith, common_steps) in
          ap lines_of all ∙ grown_open c.args.file.now c.args.joined.now whole.0 no_end whole.1
      | else-not-is_ended w ↦
          let all : c.extend_from_slice.new.self.items ≡ c.args.file.now ++ c.args.joined.now =
          grind (arith, common_steps) in
          let ended : IsEnded c.args.file.now = c.is_ended.ensures.0 (grind (arith, common_steps)) in
          ap lines_of all ∙ grown_ended c.args.file.now c.args.joined.now ended
    ]
