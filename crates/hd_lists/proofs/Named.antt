-- A question whose name or day is put in without its escapes.
use Rattle.std.proofs.Common.{◌≡◌, ap, refl, ℕ, List}
use Rattle.std.specs.Borrow.{Bor}
use Rattle.percent_encoding.specs.Percent.{percent_decode}
use Rattle.hd_lists.specs.declared.question.Key.{Key}
use Rattle.hd_lists.specs.declared.question.Key.TheVariants.{Name, Day, Number, Whole, Most}
use Rattle.hd_lists.specs.declared.question.Question.{Question}
use Rattle.hd_lists.specs.Questions.{key_text, map_key, map_question}

key_is : (key : Key (Bor (List ℕ))) (name : Bor (List ℕ)) → name.now ≡ percent_decode (key_text key)
    → map_key (λ n. n.now) (map_key (λ _. name) key) ≡ map_key percent_decode (map_key (λ n. n.now) key)
key_is (Name n) name is = ap Name is
key_is (Day d) name is = ap Day is
key_is (Number n) name is = refl
key_is Whole name is = refl
key_is (Most m) name is = refl

pub named_is : (raw : Question (Bor (List ℕ))) (name : Bor (List ℕ)) → name.now ≡ percent_decode
    (key_text raw.key)
    → map_question (λ n. n.now) (map_question (λ _. name) raw)
    ≡ map_question percent_decode (map_question (λ n. n.now) raw)
named_is raw name is =
    ap (λ (k : Key (List ℕ)). record { list = raw.list; key = k; after = raw.after }) (key_is raw.key name is)
