-- Lines one after another.
use Rattle.std.proofs.Common.{◌≡◌, refl, sym, ◌∙◌, ap, subst, ℕ, ◌+◌, ◌==◌, Bool, true, false, not, ◌||◌}
use Rattle.std.proofs.Common.{cond, is_some, is_none, Option, Some, None}
use Rattle.std.proofs.Common.{List, [], ◌∷◌, ◌++◌, length, append_assoc, append-nil, length-append, arith}
use Rattle.std.proofs.Common.{eqb-true}
use Rattle.hd_catalogue.specs.Contents.{Contents, patron_number}
use Rattle.hd_catalogue.specs.Reading.{Names}
use Rattle.hd_catalogue.specs.declared.cause.Cause.TheVariants.{Header, Text, Number}
use Rattle.hd_catalogue.specs.Lines.{first_cause}
use Rattle.hd_catalogue.specs.Text.{as_four, values_of, is_long, is_name}
use Rattle.hd_patrons.specs.Texts.{PatronSaid, PatronTexts, is_text, said_before}
use Rattle.hd_patrons.specs.Lines.{heading_cause, is_heading, language_written, line_cause, line_said}
use Rattle.hd_patrons.specs.Lines.{number_cause}
use Rattle.hd_patrons.specs.Lines.{patron_cause, values_cause}
use Rattle.hd_patrons.specs.Files.{EachPasses, IsAccepted, IsFirstBad, cause_of, said_first, said_of}
use Rattle.hd_patrons.specs.Stored.{Stored, is_told, texts_of}
use Rattle.hd_patrons.specs.declared.fault.PatronsFault.{PatronsFault}
use Rattle.hd_patrons.proofs.FileLemmas.{passes-none, passes-push}

-- The lines before those that are left pass, the number is that of the last of them, and what they say is in
-- store.
pub record HasRead (k : Contents) (all : List (List ℕ)) (stored : Stored) (number : ℕ)
    (left : List (List ℕ)) : Type 0 where
  pub first : List ℕ
  pub before : List (List ℕ)
  pub whole : all ≡ first ∷ before ++ left
  pub passes : EachPasses k (first ∷ before)
  pub says : (p : ℕ) → texts_of stored p ≡ said_of k before p
  pub counted : number ≡ length before + 1

-- what the first says, and else the second
abbrev or_else : Option PatronTexts → Option PatronTexts → Option PatronTexts
or_else None later = later
or_else (Some texts) later = Some texts

said_or : (said : Option PatronSaid) (p : ℕ) (a b : Option PatronTexts)
    → said_first said p (or_else a b) ≡ or_else (said_first said p a) b
said_or None p a b = refl
said_or (Some said) p a b = by_patron (said.patron == p)
  where
    by_patron : (same : Bool)
        → cond same (Some said.texts) (or_else a b) ≡ or_else (cond same (Some said.texts) a) b
    by_patron true = refl
    by_patron false = refl

-- one more line says something of a patron where no line before does
said_push : (k : Contents) (before : List (List ℕ)) (line : List ℕ) (p : ℕ)
    → said_of k (before ++ line ∷ []) p ≡ or_else (said_of k before p) (said_first (line_said k line) p None)
said_push k [] line p = refl
said_push k (x ∷ before) line p =
    ap (said_first (line_said k x) p) (said_push k before line p)
    ∙ said_or (line_said k x) p (said_of k before p) (said_first (line_said k line) p None)

-- what is said before of a new patron, or after
said_new : (said : PatronSaid) (p : ℕ) (old : Option PatronTexts) → (said.patron ≡ p → old ≡ None)
    → said_before said p old ≡ or_else old (said_before said p None)
said_new said p old new = by_patron (said.patron == p) refl
  where
    after : (o : Option PatronTexts) → o ≡ or_else o None
    after None = refl
    after (Some t) = refl

    by_patron : (same : Bool) → (said.patron == p) ≡ same
        → cond same (Some said.texts) old ≡ or_else old (cond same (Some said.texts) None)
    by_patron true is = ap (λ o. or_else o (Some said.texts)) (sym (new (eqb-true said.patron p is)))
    by_patron false apart = after old

-- a cause rests on the patrons that were told, and not on how these are kept
number_alike : (f g : ℕ → Bool) → ((p : ℕ) → f p ≡ g p) → (o : Option ℕ) → number_cause f o ≡ number_cause g o
number_alike f g same None = refl
number_alike f g same (Some p) = rw (same p) refl

patron_alike : (long : Bool) (k : Contents) (f g : ℕ → Bool) → ((p : ℕ) → f p ≡ g p)
    → (v : Option (List ℕ × List ℕ × List ℕ × List ℕ)) → patron_cause long k f v ≡ patron_cause long k g v
patron_alike long k f g same None = refl
patron_alike long k f g same (Some (patron, password, language, name)) =
    ap (λ later. first_cause
    ((long || not (is_name patron) || not (is_text password) || not (is_text name), Text)
    ∷ (is_none (language_written language), Number) ∷ []) later)
    (number_alike f g same (patron_number k patron))

values_alike : (long : Bool) (k : Contents) (f g : ℕ → Bool) → ((p : ℕ) → f p ≡ g p)
    → (values : List (List ℕ)) → values_cause long k f values ≡ values_cause long k g values
values_alike long k f g same [] = refl
values_alike long k f g same (kind ∷ values) = rw (patron_alike long k f g same (as_four values)) refl

cause_alike : (k : Contents) (f g : ℕ → Bool) → ((p : ℕ) → f p ≡ g p) → (line : List ℕ)
    → line_cause k f line ≡ line_cause k g line
unfolding line_cause
cause_alike k f g same line = values_alike (is_long line) k f g same (values_of line)

-- what wasn't told isn't in store
pub not_told : (stored : Stored) (p : ℕ) → is_told stored p ≡ false → texts_of stored p ≡ None
not_told stored p = by_texts (texts_of stored p)
  where
    by_texts : (o : Option PatronTexts) → is_some o ≡ false → o ≡ None
    by_texts None is = refl
    by_texts (Some texts) is = cc

pub no_heading : (line : List ℕ) → is_heading line ≡ false → heading_cause line ≡ Some Header
no_heading line is = rw is refl

pub heading : (line : List ℕ) → is_heading line ≡ true → heading_cause line ≡ None
heading line is = rw is refl

module _ (k : Contents) (all : List (List ℕ)) where
  pub begun : (first : List ℕ) (left : List (List ℕ)) (stored : Stored) → all ≡ first ∷ left
      → heading_cause first ≡ None → ((p : ℕ) → texts_of stored p ≡ None) → HasRead k all stored 1 left
  begun first left stored whole heads empty = record {
    first = first;
    before = [];
    whole = whole;
    passes = passes-push k [] first (passes-none k) heads;
    says = empty;
    counted = omega arith;
  }

  pub first_bad : (first : List ℕ) (left : List (List ℕ)) (fault : PatronsFault) → all ≡ first ∷ left
      → fault.line ≡ 1 → Names (heading_cause first) fault.cause → IsFirstBad k all fault
  first_bad first left fault whole number names = record {
    before = [];
    line = first;
    after = left;
    whole = whole;
    counted = omega (arith, number);
    earlier = passes-none k;
    here = names;
  }

  -- the cause of a line by what is in store is that after the lines before it
  same_cause : (stored : Stored) (number : ℕ) (line : List ℕ)
      (left : List (List ℕ)) (h : HasRead k all stored number left)
      → line_cause k (is_told stored) line ≡ cause_of k (h.first ∷ h.before) line
  same_cause stored number line left h =
      cause_alike k (is_told stored) (λ p. is_some (said_of k h.before p)) (λ p. ap is_some (h.says p)) line

  pub one_more : (stored new : Stored) (number : ℕ) (line : List ℕ) (left : List (List ℕ)) (said : PatronSaid)
      → HasRead k all stored number (line ∷ left) → line_cause k (is_told stored) line ≡ None
      → line_said k line ≡ Some said → texts_of stored said.patron ≡ None
      → ((p : ℕ) → texts_of new p ≡ said_before said p (texts_of stored p))
      → HasRead k all new (number + 1) left
  one_more stored new number line left said h passes is none added = record {
    first = h.first;
    before = h.before ++ line ∷ [];
    whole = h.whole ∙ ap (λ ls. h.first ∷ ls) (sym (append_assoc h.before (line ∷ []) left));
    passes = passes-push k (h.first ∷ h.before) line h.passes
        (sym (same_cause stored number line (line ∷ left) h) ∙ passes);
    says = λ p.
        added p ∙ said_new said p (texts_of stored p)
        (λ same. subst (λ (q : ℕ). texts_of stored q ≡ None) same none)
        ∙ ap (λ o. or_else o (said_before said p None)) (h.says p)
        ∙ ap (λ s. or_else (said_of k h.before p) (said_first s p None)) (sym is)
        ∙ sym (said_push k h.before line p);
    counted = omega (arith, h.counted, length-append h.before (line ∷ []));
  }

  pub line_bad : (stored : Stored) (number : ℕ) (line : List ℕ) (left : List (List ℕ)) (fault : PatronsFault)
      → HasRead k all stored number (line ∷ left) → fault.line ≡ number + 1
      → Names (line_cause k (is_told stored) line) fault.cause → IsFirstBad k all fault
  line_bad stored number line left fault h at names = record {
    before = h.first ∷ h.before;
    line = line;
    after = left;
    whole = h.whole;
    counted = omega (arith, h.counted, at);
    earlier = h.passes;
    here = subst (λ cause. Names cause fault.cause) (same_cause stored number line (line ∷ left) h) names;
  }

  pub done : (stored : Stored) (number : ℕ) → HasRead k all stored number [] → IsAccepted k all stored
  done stored number h =
      let whole : all ≡ h.first ∷ h.before = h.whole ∙ ap (λ ls. h.first ∷ ls) (append-nil h.before) in
      record {
        first = h.first;
        more = h.before;
        whole = whole;
        passes = subst (EachPasses k) (sym whole) h.passes;
        says = h.says;
      }
