-- Files and their lines.
use Rattle.std.proofs.Common.{Option, ◌≡◌, ℕ, ◌+◌, ◌⊎◌, None, Some, Result, Ok, Err, List, [], ◌∷◌, ◌++◌}
use Rattle.std.proofs.Common.{length, refl, sym, ap, subst, ◌∙◌}
use Rattle.std.proofs.Common.{inl, inr, arith, append_assoc, append-nil, length-append}
use Rattle.std.specs.Prelude.{fold, Bool, true, false, codes, if◌then◌else◌}
use Rattle.std.specs.Str.{bytes_eq}
use Rattle.hd_catalogue.specs.Contents.{Contents, no_rows}
use Rattle.hd_catalogue.specs.Files.{EachPasses, IsAccepted, IsFirstBad, cause_of, contents_of}
use Rattle.hd_catalogue.specs.Lines.{Heading, begun_by, first_contents, header_cause, heading_of, line_cause}
use Rattle.hd_catalogue.specs.Lines.{title_values, with_branch}
use Rattle.hd_catalogue.specs.Lines.{with_copy_line, with_line, with_patron, with_terminal, with_title}
use Rattle.hd_catalogue.specs.Lines.{with_values}
use Rattle.hd_catalogue.specs.Text.{as_one, as_two, as_three, values_of}
use Rattle.hd_catalogue.specs.Reading.{Names}
use Rattle.hd_catalogue.specs.declared.cause.CatFault.{CatFault}
use Rattle.hd_catalogue.specs.declared.cause.Cause.{Cause}
use Rattle.hd_catalogue.specs.declared.cause.Cause.TheVariants.{Memory}
use Rattle.hd_lemmas.proofs.Lists.{head_same, last_or, nil_split, split_cases, tail_same}

-- what follows from the lines that are left, the next of them with this number
abbrev pub Follows : ℕ → List (List ℕ) → Contents → Result Contents CatFault → Type 0
Follows n [] k r = r ≡ Ok k
Follows n (line ∷ more) k r =
    ((line_cause k line ≡ None) × Follows (n + 1) more (with_line k line) r)
    ⊎ ((named : Cause) × Names (line_cause k line) named × (r ≡ Err (record { line = n; cause = named })))

-- what a file's reading gives
abbrev pub IsReading : List (List ℕ) → Result Contents CatFault → Type 0
IsReading all (Ok k) = IsAccepted all k
IsReading all (Err fault) = IsFirstBad all fault

pub passes-none : EachPasses []
passes-none before x after e = absurd (nil_split before x after e)

-- one more line that passes
pub passes-push : (all : List (List ℕ)) (line : List ℕ) → EachPasses all → cause_of all line ≡ None
    → EachPasses (all ++ line ∷ [])
passes-push all line passes here before x after e = elim (last_or all line before x after e) [
  | inl more ↦ passes before x more.0 more.1
  | inr last ↦ subst (λ y. cause_of before y ≡ None) last.1 (subst (λ b. cause_of b line ≡ None) last.0 here)
]

pub fold-push : {A B : Type 0} (f : A → B → A) (a : A) (xs : List B) (x : B)
    → fold f a (xs ++ x ∷ []) ≡ f (fold f a xs) x
fold-push f a [] x = refl
fold-push f a (y ∷ ys) x = fold-push f (f a y) ys x

-- the reading of a file whose first lines pass
pub follows_reading : (first : List ℕ) (done ls : List (List ℕ)) (n : ℕ) (k : Contents)
    (r : Result Contents CatFault) → n ≡ length done + 2 → k ≡ contents_of first done
    → EachPasses (first ∷ done) → Follows n ls k r → IsReading (first ∷ (done ++ ls)) r
follows_reading first done [] n k r count says passes f =
    subst (IsReading (first ∷ (done ++ []))) (sym f)
    record {
      first = first;
      more = done ++ [];
      whole = refl;
      passes = rw append-nil passes;
      says = rw append-nil says;
    }
follows_reading first done (line ∷ more) n k r count says passes f = elim f [
  | inl next ↦
      let here : cause_of (first ∷ done) line ≡ None = subst (λ c. line_cause c line ≡ None) says next.0 in
      let pushed : with_line k line ≡ contents_of first (done ++ line ∷ []) =
      ap (λ c. with_line c line) says ∙ sym (fold-push with_line (first_contents first) done line) in
      let whole : (done ++ line ∷ []) ++ more ≡ done ++ line ∷ more = append_assoc done (line ∷ []) more in
      subst (λ ls. IsReading (first ∷ ls) r) whole
      (follows_reading first (done ++ line ∷ []) more (n + 1) (with_line k line) r
      (omega (arith, length-append done (line ∷ []))) pushed
      (passes-push (first ∷ done) line passes here) next.1)
  | inr stop ↦
      subst (IsReading (first ∷ (done ++ line ∷ more))) (sym stop.2)
      record {
        before = first ∷ done;
        line = line;
        after = more;
        whole = refl;
        counted = omega arith;
        earlier = passes;
        here = subst (λ c. Names (line_cause c line) stop.0) says stop.1;
      }
]

-- the first line passes
pub begun_reading : (first : List ℕ) (ls : List (List ℕ)) (all : List (List ℕ)) (k : Contents)
    (r : Result Contents CatFault) → all ≡ first ∷ ls → header_cause first ≡ None → k ≡ first_contents first
    → Follows 2 ls k r → IsReading all r
begun_reading first ls all k r whole none says f =
    subst (λ all. IsReading all r) (sym whole)
    (follows_reading first [] ls 2 k r (omega arith) says (passes-push [] first passes-none none) f)

-- the first line doesn't pass, or its memory was wanting
pub first_refused : (first : List ℕ) (ls : List (List ℕ)) (all : List (List ℕ)) (named : Cause)
    → all ≡ first ∷ ls → Names (header_cause first) named
    → IsFirstBad all (record { line = 1; cause = named })
first_refused first ls all named whole names = record {
  before = [];
  line = first;
  after = ls;
  whole = whole;
  counted = omega arith;
  earlier = passes-none;
  here = names;
}

-- a file that is accepted has no bad line
pub accepted_refused : (all : List (List ℕ)) (k : Contents) (fault : CatFault) → IsAccepted all k
    → IsFirstBad all fault → fault.cause ≡ Memory
accepted_refused all k fault a b = elim b.here [
  | inl some ↦ absurd (differ (sym (a.passes b.before b.line b.after b.whole) ∙ some))
  | inr memory ↦ memory.0
]
  where
    differ : {A : Type 0} {x : A} → None ≡ Some x → ⊥
    differ e = cc

-- and says one thing
pub accepted_one : (all : List (List ℕ)) (k h : Contents) → IsAccepted all k → IsAccepted all h → k ≡ h
accepted_one all k h a b =
    let same : a.first ∷ a.more ≡ b.first ∷ b.more = sym a.whole ∙ b.whole in
    a.says ∙ ap (λ f. contents_of f a.more) (head_same same) ∙ ap (contents_of b.first) (tail_same same)
    ∙ sym b.says

own_cause : (cause : Option Cause) (named : Cause) → Names cause named → ¬ (named ≡ Memory)
    → cause ≡ Some named
own_cause cause named (inl is) h = is
own_cause cause named (inr memory) h = absurd (h memory.0)

passed : {x : Option Cause} {y : Cause} → x ≡ None → x ≡ Some y → ⊥
passed e h = cc

-- a file has one first bad line, and that has one cause
pub first_bad_one : (all : List (List ℕ)) (f g : CatFault) → IsFirstBad all f → IsFirstBad all g
    → ¬ (f.cause ≡ Memory) → ¬ (g.cause ≡ Memory) → f ≡ g
first_bad_one all f g a b m n =
    let mine : cause_of a.before a.line ≡ Some f.cause =
    own_cause (cause_of a.before a.line) f.cause a.here m in
    let other : cause_of b.before b.line ≡ Some g.cause =
    own_cause (cause_of b.before b.line) g.cause b.here n in
    elim (split_cases a.before b.before a.line b.line a.after b.after (sym a.whole ∙ b.whole)) [
      | inl later ↦ absurd (passed (b.earlier a.before a.line later.0 later.1) mine)
      | inr (inl earlier) ↦ absurd (passed (a.earlier b.before b.line earlier.0 earlier.1) other)
      | inr (inr same) ↦
          let line : f.line ≡ g.line = a.counted ∙ ap (λ l. length l + 1) same.0 ∙ sym b.counted in
          let both : Some f.cause ≡ Some g.cause = sym mine ∙ ap (λ l. cause_of l a.line) same.0
          ∙ ap (cause_of b.before) same.1 ∙ other in
          let cause : f.cause ≡ g.cause = back both in
          rw (line, cause) refl
    ]
  where
    back : {x y : Cause} → Some x ≡ Some y → x ≡ y
    back e = cc

either_keeps : (k : Contents) (b : Bool) (g h : Contents) → g.opening ≡ k.opening → h.opening ≡ k.opening
    → (if b then g else h).opening ≡ k.opening
either_keeps k true g h e f = e
either_keeps k false g h e f = f

branch_keeps : (k : Contents) (o : Option (List ℕ)) → (with_branch k o).opening ≡ k.opening
branch_keeps k None = refl
branch_keeps k (Some v) = refl

patron_keeps : (k : Contents) (o : Option (List ℕ × List ℕ)) → (with_patron k o).opening ≡ k.opening
patron_keeps k None = refl
patron_keeps k (Some v) = refl

terminal_keeps : (k : Contents) (o : Option (List ℕ × List ℕ × List ℕ))
    → (with_terminal k o).opening ≡ k.opening
terminal_keeps k None = refl
terminal_keeps k (Some v) = refl

title_keeps : (k : Contents) (o : Option (List ℕ × List ℕ × List ℕ × List ℕ))
    → (with_title k o).opening ≡ k.opening
title_keeps k None = refl
title_keeps k (Some v) = refl

copy_keeps : (k : Contents) (o : Option (List ℕ × List ℕ × List ℕ)) → (with_copy_line k o).opening ≡ k.opening
copy_keeps k None = refl
copy_keeps k (Some v) = refl

-- no line tells a row of the opening
values_keep : (k : Contents) (values : List (List ℕ)) → (with_values k values).opening ≡ k.opening
values_keep k [] = refl
values_keep k (kind ∷ values) =
    either_keeps k (bytes_eq kind (codes "B")) _ _ (branch_keeps k (as_one values))
    (either_keeps k (bytes_eq kind (codes "S")) _ _ (terminal_keeps k (as_three values))
    (either_keeps k (bytes_eq kind (codes "P")) _ _ (patron_keeps k (as_two values))
    (either_keeps k (bytes_eq kind (codes "T")) _ _ (title_keeps k (title_values k.settings.version values))
    (either_keeps k (bytes_eq kind (codes "C")) _ _ (copy_keeps k (as_three values)) refl))))

line_keeps : (k : Contents) (line : List ℕ) → (with_line k line).opening ≡ k.opening
unfolding with_line
line_keeps k line = values_keep k (values_of line)

lines_keep : (k : Contents) (more : List (List ℕ)) → (fold with_line k more).opening ≡ k.opening
lines_keep k [] = refl
lines_keep k (line ∷ more) = lines_keep (with_line k line) more ∙ line_keeps k line

first_fresh : (line : List ℕ) → (first_contents line).opening ≡ no_rows
unfolding first_contents
first_fresh line = by_heading (heading_of (values_of line))
  where
    by_heading : (o : Option Heading) → (begun_by o).opening ≡ no_rows
    by_heading None = refl
    by_heading (Some heading) = refl

-- a file tells no rows
pub accepted_fresh : (all : List (List ℕ)) (k : Contents) → IsAccepted all k → k.opening ≡ no_rows
accepted_fresh all k is =
    ap (λ h. h.opening) is.says ∙ (lines_keep (first_contents is.first) is.more ∙ first_fresh is.first)
