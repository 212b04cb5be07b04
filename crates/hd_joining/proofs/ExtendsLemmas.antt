-- Lines that joined add names behind, and arrivals behind the rows.
use Rattle.std.proofs.Common.{◌≡◌, refl, sym, ap, ◌∙◌, ℕ, Bool, true, false, List, [], ◌∷◌, ◌++◌, Option, None, Some}
use Rattle.std.specs.Prelude.{codes, fold, if◌then◌else◌}
use Rattle.std.specs.Str.{bytes_eq}
use Rattle.hd_catalogue.specs.Contents.{Contents, OpeningRows, facts_of}
use Rattle.hd_catalogue.specs.Files.{IsAccepted, contents_of}
use Rattle.hd_catalogue.specs.Lines.{title_values, with_branch, with_copy_line, with_line, with_patron}
use Rattle.hd_catalogue.specs.Lines.{with_terminal, with_title, with_values}
use Rattle.hd_catalogue.specs.Longer.{Extends, HasMoreNames}
use Rattle.hd_catalogue.specs.Text.{as_one, as_three, as_two, values_of}
use Rattle.hd_lemmas.proofs.Lists.{head_same, tail_same}
use Rattle.hd_joining.specs.Joining.{WhatJoinedExtends, grown_by, grown_from}

-- names behind stay behind where the rows of the opening are others
other_rows : (k j : Contents) → HasMoreNames k j → HasMoreNames k (grown_from k j)
other_rows k j more = record {
  settings = more.settings;
  institution = more.institution;
  branches = more.branches;
  terminals = more.terminals;
  patrons = more.patrons;
  titles = more.titles;
  copies = more.copies;
}

joined_extends : ((k : Contents) (lines : List (List ℕ)) → HasMoreNames k (fold with_line k lines))
    → (k : Contents) (lines : List (List ℕ)) → Extends k (grown_by k lines)
unfolding facts_of
joined_extends names k lines = record {
  names = other_rows k (fold with_line k lines) (names k lines);
  last = refl;
  rows = refl;
}

-- the catalogue with another opening
abbrev opened : Contents → OpeningRows → Contents
opened k o = record k { opening = o }

-- a line adds the same, whatever the opening
branch_opened : (k : Contents) (o : OpeningRows) (v : Option (List ℕ))
    → with_branch (opened k o) v ≡ opened (with_branch k v) o
branch_opened k o None = refl
branch_opened k o (Some v) = refl

terminal_opened : (k : Contents) (o : OpeningRows) (v : Option (List ℕ × List ℕ × List ℕ))
    → with_terminal (opened k o) v ≡ opened (with_terminal k v) o
terminal_opened k o None = refl
terminal_opened k o (Some v) = refl

patron_opened : (k : Contents) (o : OpeningRows) (v : Option (List ℕ × List ℕ))
    → with_patron (opened k o) v ≡ opened (with_patron k v) o
patron_opened k o None = refl
patron_opened k o (Some v) = refl

title_opened : (k : Contents) (o : OpeningRows) (v : Option (List ℕ × List ℕ × List ℕ × List ℕ))
    → with_title (opened k o) v ≡ opened (with_title k v) o
title_opened k o None = refl
title_opened k o (Some v) = refl

copy_opened : (k : Contents) (o : OpeningRows) (v : Option (List ℕ × List ℕ × List ℕ))
    → with_copy_line (opened k o) v ≡ opened (with_copy_line k v) o
copy_opened k o None = refl
copy_opened k o (Some v) = refl

-- of two ways one was gone, alike
either_opened : (t : Bool) (x y x' y' : Contents) (o : OpeningRows) → x' ≡ opened x o → y' ≡ opened y o
    → (if t then x' else y') ≡ opened (if t then x else y) o
either_opened true x y x' y' o h g = h
either_opened false x y x' y' o h g = g

values_opened : (k : Contents) (o : OpeningRows) (values : List (List ℕ))
    → with_values (opened k o) values ≡ opened (with_values k values) o
values_opened k o [] = refl
values_opened k o (kind ∷ values) =
    either_opened (bytes_eq kind (codes "B")) _ _ _ _ o (branch_opened k o (as_one values))
    (either_opened (bytes_eq kind (codes "S")) _ _ _ _ o (terminal_opened k o (as_three values))
    (either_opened (bytes_eq kind (codes "P")) _ _ _ _ o (patron_opened k o (as_two values))
    (either_opened (bytes_eq kind (codes "T")) _ _ _ _ o
    (title_opened k o (title_values k.settings.version values))
    (either_opened (bytes_eq kind (codes "C")) _ _ _ _ o (copy_opened k o (as_three values)) refl))))

line_opened : (k : Contents) (o : OpeningRows) (line : List ℕ)
    → with_line (opened k o) line ≡ opened (with_line k line) o
unfolding with_line
line_opened k o line = values_opened k o (values_of line)

lines_opened : (k : Contents) (o : OpeningRows) (lines : List (List ℕ))
    → fold with_line (opened k o) lines ≡ opened (fold with_line k lines) o
lines_opened k o [] = refl
lines_opened k o (line ∷ lines) =
    ap (λ j. fold with_line j lines) (line_opened k o line) ∙ lines_opened (with_line k line) o lines

-- lines, and more behind them
fold_append : (k : Contents) (xs ys : List (List ℕ))
    → fold with_line k (xs ++ ys) ≡ fold with_line (fold with_line k xs) ys
fold_append k [] ys = refl
fold_append k (x ∷ xs) ys = fold_append (with_line k x) xs ys

-- a file with more lines says what the one without says, and they
more_read : (all lines : List (List ℕ)) (k j : Contents) → IsAccepted all k → IsAccepted (all ++ lines) j
    → j ≡ fold with_line k lines
more_read all lines k j a b =
    let both : b.first ∷ b.more ≡ a.first ∷ (a.more ++ lines) = sym b.whole ∙ ap (λ ls. ls ++ lines) a.whole in
    b.says
    ∙ ap (λ f. contents_of f b.more) (head_same both)
    ∙ ap (λ ls. contents_of a.first ls) (tail_same both)
    ∙ fold_append (contents_of a.first []) a.more lines
    ∙ ap (λ i. fold with_line i lines) (sym a.says)

-- a catalogue grows alike, whatever the opening of the other one
from_opened : (k j : Contents) (o : OpeningRows) → grown_from k (opened j o) ≡ grown_from k j
unfolding facts_of
from_opened k j o = refl

read_grows : (all lines : List (List ℕ)) (k j : Contents) (o : OpeningRows) → IsAccepted all k
    → IsAccepted (all ++ lines) j → grown_from (opened k o) j ≡ grown_by (opened k o) lines
read_grows all lines k j o a b =
    ap (λ i. grown_from (opened k o) i) (more_read all lines k j a b)
    ∙ sym (from_opened (opened k o) (fold with_line k lines) o)
    ∙ ap (λ i. grown_from (opened k o) i) (sym (lines_opened k o lines))

pub what_joined : ((k : Contents) (lines : List (List ℕ)) → HasMoreNames k (fold with_line k lines))
    → WhatJoinedExtends
what_joined names = record { extends = joined_extends names; read = read_grows }
