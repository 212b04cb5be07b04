-- What a catalogue says of its names, one with more names behind them says too.
use Rattle.std.proofs.Common.{arith, ◌≡◌, refl, sym, ◌∙◌, ap, ℕ, suc, zero, ◌+◌, ◌-◌, ◌<◌, ◌≤◌, Bool}
use Rattle.std.proofs.Common.{true, false, if◌then◌else◌, append_assoc, None, Some, List, [], ◌∷◌, ◌++◌, length, Option}
use Rattle.std.specs.Prelude.{slice_get, option_map, fold, codes}
use Rattle.std.specs.Str.{bytes_eq}
use Rattle.std.specs.Option.{option_map_or}
use Rattle.std.proofs.lemmas.List.{append-nil, length-append}
use Rattle.hd_rules.specs.declared.rows.OpeningRow.{OpeningRow}
use Rattle.hd_rules.specs.Desk.{at_home}
use Rattle.hd_rules.specs.Rows.{with_rows}
use Rattle.hd_rules.specs.Growth.{IsLonger, Grows, arrivals}
use Rattle.hd_rules.proofs.GrownArrivals.{arrivals_grow}
use Rattle.hd_catalogue.specs.Contents.{Contents, IsCatalogue, fact_of, facts_of}
use Rattle.hd_catalogue.specs.Text.{as_one, as_two, as_three, values_of}
use Rattle.hd_catalogue.specs.Lines.{title_values, with_branch, with_terminal, with_patron, with_title}
use Rattle.hd_catalogue.specs.Lines.{with_copy_line, with_values, with_line}
use Rattle.hd_catalogue.specs.Longer.{IsBegunBy, HasMoreNames, Extends}

slice_first : {A : Type 0} (xs ys : List A) (n : ℕ) → n < length xs → slice_get (xs ++ ys) n ≡ slice_get xs n
slice_first [] ys n lt = absurd (let never : ⊥ = omega arith in never)
slice_first (x ∷ xs) ys zero lt = refl
slice_first (x ∷ xs) ys (suc n) lt = slice_first xs ys n (omega (arith, lt))

fact_same : {F V : Type 0} (fact : F → V) (none : V) (xs zs : List (List ℕ × F)) (n : ℕ) → IsBegunBy xs zs
    → n < length xs → fact_of fact none zs n ≡ fact_of fact none xs n
fact_same {F} fact none xs zs n begun lt =
    ap (λ (ws : List (List ℕ × F)). fact_of fact none ws n) begun.1
    ∙ ap (λ (o : Option (List ℕ × F)). option_map_or fact (option_map (λ (e : List ℕ × F). e.1) o) none)
    (slice_first xs begun.0 n lt)

as_many : {F : Type 0} (xs zs : List (List ℕ × F)) → IsBegunBy xs zs → length xs ≤ length zs
as_many {F} xs zs begun =
    let is : length zs ≡ length xs + length begun.0 =
    ap (λ (ws : List (List ℕ × F)). length ws) begun.1 ∙ length-append xs begun.0 in
    omega arith

longer : (k j : Contents) → Extends k j → IsLonger (facts_of k) (facts_of j)
unfolding facts_of
longer k j more = record {
  branches = as_many k.branches j.branches more.names.branches;
  terminals = as_many k.terminals j.terminals more.names.terminals;
  titles = as_many k.titles j.titles more.names.titles;
  copies = as_many k.copies j.copies more.names.copies;
  patrons = as_many k.patrons j.patrons more.names.patrons;
  home = λ c lt. fact_same (λ copy. copy.home) 0 k.copies j.copies c more.names.copies lt;
  title_of = λ c lt. fact_same (λ copy. copy.title) 0 k.copies j.copies c more.names.copies lt;
  loan_days = λ t lt. fact_same (λ title. title.loan_days) 0 k.titles j.titles t more.names.titles lt;
  renewals = λ t lt. fact_same (λ title. title.renewals) 0 k.titles j.titles t more.names.titles lt;
  loan_limit = λ p lt. fact_same (λ patron. patron.loan_limit) 0 k.patrons j.patrons p more.names.patrons lt;
  priority = λ t lt. fact_same (λ title. title.local_priority) false k.titles j.titles t more.names.titles lt;
  command_limit = λ i. (more.names.settings i).command_limit;
  last = more.last;
}

told_behind : (k j : Contents) → Extends k j → (facts_of j).opening.desk
    ≡ with_rows (facts_of j).title_of (at_home (facts_of j).home)
    (k.opening.rows
    ++ arrivals (facts_of j).home (facts_of k).copies ((facts_of j).copies - (facts_of k).copies))
unfolding facts_of
told_behind k j more =
    ap (λ (rows : List OpeningRow). with_rows (facts_of j).title_of (at_home (facts_of j).home) rows) more.rows

told_before : (k : Contents) → (facts_of k).opening.desk
    ≡ with_rows (facts_of k).title_of (at_home (facts_of k).home) k.opening.rows
unfolding facts_of
told_before k = refl

pub extended_grows : (k j : Contents) → IsCatalogue k → IsCatalogue j → Extends k j
    → Grows (facts_of k) (facts_of j)
extended_grows k j low high more =
    arrivals_grow (facts_of k) (facts_of j) k.opening.rows low.0.facts high.0.facts (record {
      longer = longer k j more;
      known = λ i row below. (low.0.rows i row below).0;
      before = told_before k;
      behind = told_behind k j more;
    })

-- more lines
no_more : {F : Type 0} (xs : List (List ℕ × F)) → IsBegunBy xs xs
no_more xs = ([], sym (append-nil xs))

one_more : {F : Type 0} (xs : List (List ℕ × F)) (x : List ℕ × F) → IsBegunBy xs (xs ++ x ∷ [])
one_more xs x = (x ∷ [], refl)

begun_on : {F : Type 0} (xs ys zs : List (List ℕ × F)) → IsBegunBy xs ys → IsBegunBy ys zs → IsBegunBy xs zs
begun_on {F} xs ys zs one other = (
  one.0 ++ other.0,
  other.1 ∙ ap (λ (ws : List (List ℕ × F)). ws ++ other.0) one.1 ∙ append_assoc xs one.0 other.0,
)

same_names : (k : Contents) → HasMoreNames k k
same_names k = record {
  settings = refl;
  institution = refl;
  branches = no_more k.branches;
  terminals = no_more k.terminals;
  patrons = no_more k.patrons;
  titles = no_more k.titles;
  copies = no_more k.copies;
}

names_on : (k j i : Contents) → HasMoreNames k j → HasMoreNames j i → HasMoreNames k i
names_on k j i one other = record {
  settings = other.settings ∙ one.settings;
  institution = other.institution ∙ one.institution;
  branches = begun_on k.branches j.branches i.branches one.branches other.branches;
  terminals = begun_on k.terminals j.terminals i.terminals one.terminals other.terminals;
  patrons = begun_on k.patrons j.patrons i.patrons one.patrons other.patrons;
  titles = begun_on k.titles j.titles i.titles one.titles other.titles;
  copies = begun_on k.copies j.copies i.copies one.copies other.copies;
}

branch_more : (k : Contents) (o : Option (List ℕ)) → HasMoreNames k (with_branch k o)
branch_more k None = same_names k
branch_more k (Some name) = record {
  settings = refl;
  institution = refl;
  branches = one_more k.branches _;
  terminals = no_more k.terminals;
  patrons = no_more k.patrons;
  titles = no_more k.titles;
  copies = no_more k.copies;
}

terminal_more : (k : Contents) (o : Option (List ℕ × List ℕ × List ℕ)) → HasMoreNames k (with_terminal k o)
terminal_more k None = same_names k
terminal_more k (Some (name, password, branch)) = record {
  settings = refl;
  institution = refl;
  branches = no_more k.branches;
  terminals = one_more k.terminals _;
  patrons = no_more k.patrons;
  titles = no_more k.titles;
  copies = no_more k.copies;
}

patron_more : (k : Contents) (o : Option (List ℕ × List ℕ)) → HasMoreNames k (with_patron k o)
patron_more k None = same_names k
patron_more k (Some (name, loans)) = record {
  settings = refl;
  institution = refl;
  branches = no_more k.branches;
  terminals = no_more k.terminals;
  patrons = one_more k.patrons _;
  titles = no_more k.titles;
  copies = no_more k.copies;
}

title_more : (k : Contents) (o : Option (List ℕ × List ℕ × List ℕ × List ℕ)) → HasMoreNames k (with_title k o)
title_more k None = same_names k
title_more k (Some (name, days, renewals, priority)) = record {
  settings = refl;
  institution = refl;
  branches = no_more k.branches;
  terminals = no_more k.terminals;
  patrons = no_more k.patrons;
  titles = one_more k.titles _;
  copies = no_more k.copies;
}

copy_more : (k : Contents) (o : Option (List ℕ × List ℕ × List ℕ)) → HasMoreNames k (with_copy_line k o)
copy_more k None = same_names k
copy_more k (Some (name, title, home)) = record {
  settings = refl;
  institution = refl;
  branches = no_more k.branches;
  terminals = no_more k.terminals;
  patrons = no_more k.patrons;
  titles = no_more k.titles;
  copies = one_more k.copies _;
}

either : (k : Contents) (b : Bool) (x y : Contents) → HasMoreNames k x → HasMoreNames k y
    → HasMoreNames k (if b then x else y)
either k true x y h g = h
either k false x y h g = g

values_more : (k : Contents) (values : List (List ℕ)) → HasMoreNames k (with_values k values)
values_more k [] = same_names k
values_more k (kind ∷ values) =
    either k (bytes_eq kind (codes "B")) _ _ (branch_more k (as_one values))
    (either k (bytes_eq kind (codes "S")) _ _ (terminal_more k (as_three values))
    (either k (bytes_eq kind (codes "P")) _ _ (patron_more k (as_two values))
    (either k (bytes_eq kind (codes "T")) _ _ (title_more k (title_values k.settings.version values))
    (either k (bytes_eq kind (codes "C")) _ _ (copy_more k (as_three values)) (same_names k)))))

line_more : (k : Contents) (line : List ℕ) → HasMoreNames k (with_line k line)
unfolding with_line
line_more k line = values_more k (values_of line)

pub lines_more : (k : Contents) (lines : List (List ℕ)) → HasMoreNames k (fold with_line k lines)
lines_more k [] = same_names k
lines_more k (line ∷ lines) =
    names_on k (with_line k line) (fold with_line (with_line k line) lines) (line_more k line)
    (lines_more (with_line k line) lines)
