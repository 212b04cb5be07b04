-- Files and their lines.
use Rattle.std.proofs.Common.{Option, ◌≡◌, ℕ, ◌+◌, None, Some, List, [], ◌∷◌, ◌++◌, length, refl, sym, ap}
use Rattle.std.proofs.Common.{subst, ◌∙◌}
use Rattle.std.proofs.Common.{inl, inr}
use Rattle.hd_catalogue.specs.Contents.{Contents}
use Rattle.hd_catalogue.specs.Reading.{Names}
use Rattle.hd_catalogue.specs.declared.cause.Cause.{Cause}
use Rattle.hd_catalogue.specs.declared.cause.Cause.TheVariants.{Memory}
use Rattle.hd_lemmas.proofs.Lists.{last_or, nil_split, split_cases, tail_same}
use Rattle.hd_patrons.specs.Files.{EachPasses, IsAccepted, IsFirstBad, cause_of, said_of}
use Rattle.hd_patrons.specs.Stored.{Stored, texts_of}
use Rattle.hd_patrons.specs.declared.fault.PatronsFault.{PatronsFault}

own_cause : (cause : Option Cause) (named : Cause) → Names cause named → ¬ (named ≡ Memory)
    → cause ≡ Some named
own_cause cause named (inl is) h = is
own_cause cause named (inr memory) h = absurd (h memory.0)

passed : {x : Option Cause} {y : Cause} → x ≡ None → x ≡ Some y → ⊥
passed e h = cc

module _ (k : Contents) where
  pub passes-none : EachPasses k []
  passes-none before x after e = absurd (nil_split before x after e)

  -- one more line that passes
  pub passes-push : (all : List (List ℕ)) (line : List ℕ) → EachPasses k all → cause_of k all line ≡ None
      → EachPasses k (all ++ line ∷ [])
  passes-push all line passes here before x after e = elim (last_or all line before x after e) [
    | inl more ↦ passes before x more.0 more.1
    | inr last ↦ subst (λ y. cause_of k before y ≡ None) last.1
        (subst (λ b. cause_of k b line ≡ None) last.0 here)
  ]

  module _ (all : List (List ℕ)) where
    -- a file that is accepted has no bad line
    pub accepted_refused : (stored : Stored) (fault : PatronsFault) → IsAccepted k all stored
        → IsFirstBad k all fault → fault.cause ≡ Memory
    accepted_refused stored fault a b = elim b.here [
      | inl some ↦ absurd (passed (a.passes b.before b.line b.after b.whole) some)
      | inr memory ↦ memory.0
    ]

    -- and says one thing of each patron
    pub accepted_one : (stored other : Stored) → IsAccepted k all stored → IsAccepted k all other → (p : ℕ)
        → texts_of stored p ≡ texts_of other p
    accepted_one stored other a b p =
        let same : a.more ≡ b.more = tail_same (sym a.whole ∙ b.whole) in
        a.says p ∙ ap (λ more. said_of k more p) same ∙ sym (b.says p)

    -- a file has one first bad line, and that has one cause
    pub first_bad_one : (f g : PatronsFault) → IsFirstBad k all f → IsFirstBad k all g → ¬ (f.cause ≡ Memory)
        → ¬ (g.cause ≡ Memory) → f ≡ g
    first_bad_one f g a b m n =
        let mine : cause_of k a.before a.line ≡ Some f.cause =
        own_cause (cause_of k a.before a.line) f.cause a.here m in
        let other : cause_of k b.before b.line ≡ Some g.cause =
        own_cause (cause_of k b.before b.line) g.cause b.here n in
        elim (split_cases a.before b.before a.line b.line a.after b.after (sym a.whole ∙ b.whole)) [
          | inl later ↦ absurd (passed (b.earlier a.before a.line later.0 later.1) mine)
          | inr (inl earlier) ↦ absurd (passed (a.earlier b.before b.line earlier.0 earlier.1) other)
          | inr (inr same) ↦
              let line : f.line ≡ g.line = a.counted ∙ ap (λ l. length l + 1) same.0 ∙ sym b.counted in
              let both : Some f.cause ≡ Some g.cause =
              sym mine ∙ ap (λ l. cause_of k l a.line) same.0 ∙ ap (cause_of k b.before) same.1 ∙ other in
              let cause : f.cause ≡ g.cause = back both in
              rw (line, cause) refl
        ]
      where
        back : {x y : Cause} → Some x ≡ Some y → x ≡ y
        back e = cc
