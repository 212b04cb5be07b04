-- Words, read back.
use Rattle.std.proofs.Common.{◌≡◌, ℕ, None, Some, List, [], ◌∷◌, refl, inl, inr}
use Rattle.std.specs.Prelude.{bytes_eq}
use Rattle.std.proofs.lemmas.Bool.{cases_Bool}
use Rattle.std.proofs.lemmas.Option.{none-some}
use Rattle.std.proofs.lemmas.Slice.Eq.{bytes_eq-Decides}
use Rattle.hd_ask_parts.specs.Acts.{act_named, act_word, admits_named, admits_word, all_acts, all_admits, named}
use Rattle.hd_ask_parts.specs.declared.act.Act.{Act}
use Rattle.hd_ask_parts.specs.declared.act.Act.TheVariants as acts
use Rattle.hd_ask_parts.specs.declared.act.Admits.{Admits}
use Rattle.hd_ask_parts.specs.declared.act.Admits.TheVariants as admitted

-- what is named has the word
named_has : {W : Type 0} (word_of : W → List ℕ) (all : List W) (word : List ℕ) (w : W)
    → named word_of all word ≡ Some w → word ≡ word_of w
named_has word_of [] word w e = absurd (none-some w e)
named_has word_of (v ∷ vs) word w e = elim (cases_Bool (bytes_eq (word_of v) word)) [
  | inl t ↦
      let here : Some v ≡ Some w = rw t at e in
      let has : word_of v ≡ word = (bytes_eq-Decides (word_of v) word).0 t in
      cc
  | inr f ↦ named_has word_of vs word w (rw f at e)
]

-- each act is the one of its word
pub act_back : (a : Act) → act_named (act_word a) ≡ Some a
unfolding act_named
act_back acts.Checkout = refl
act_back a = refl

pub admits_back : (a : Admits) → admits_named (admits_word a) ≡ Some a
unfolding admits_named
admits_back admitted.Any = refl
admits_back a = refl

-- a word that is an act's is the word of that act
pub act_said : (word : List ℕ) (a : Act) → act_named word ≡ Some a → word ≡ act_word a
unfolding act_named
act_said = named_has act_word all_acts

pub admits_said : (word : List ℕ) (a : Admits) → admits_named word ≡ Some a → word ≡ admits_word a
unfolding admits_named
admits_said = named_has admits_word all_admits

-- and one that is no act's is the word of none
pub act_unsaid : (word : List ℕ) (a : Act) → None ≡ act_named word → word ≡ act_word a → ⊥
act_unsaid word a none is = cc (act_back a)

pub admits_unsaid : (word : List ℕ) (a : Admits) → None ≡ admits_named word → word ≡ admits_word a → ⊥
admits_unsaid word a none is = cc (admits_back a)
