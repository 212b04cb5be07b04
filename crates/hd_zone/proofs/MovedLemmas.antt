-- A catalogue whose first line has another offset says the same but for that.
use Rattle.std.proofs.Common.{◌≡◌, ℕ, ℤ, Bool, true, false, List, [], ◌∷◌, Option, None, Some, refl, sym, ap}
use Rattle.std.proofs.Common.{subst}
use Rattle.std.specs.Prelude.{codes, drop, fold, if◌then◌else◌, option_map, slice_get}
use Rattle.std.proofs.lemmas.Option.{none-some, same_Some}
use Rattle.std.specs.Str.{bytes_eq}
use Rattle.hd_catalogue.specs.Contents.{Contents}
use Rattle.hd_catalogue.specs.Files.{IsAccepted, contents_of}
use Rattle.hd_catalogue.specs.Lines.{begun_by, first_contents, heading_of, version_of, with_branch}
use Rattle.hd_catalogue.specs.Lines.{with_copy_line, with_line, with_patron, with_terminal, with_title}
use Rattle.hd_catalogue.specs.Lines.{title_values, with_values}
use Rattle.hd_catalogue.specs.Text.{as_four, as_one, as_two, as_three, values_of}
use Rattle.hd_catalogue.specs.declared.facts.Version.{Version}
use Rattle.hd_lemmas.proofs.Lists.{head_same, tail_same}
use Rattle.hd_zone.specs.Moved.{IsMoved, SaysSame, with_offset}

pub trans : {A : Type 0} {x y z : A} → x ≡ y → y ≡ z → x ≡ z
trans e f = cc

branch_moved : (k : Contents) (o : ℤ) (v : Option (List ℕ))
    → with_branch (with_offset k o) v ≡ with_offset (with_branch k v) o
branch_moved k o None = refl
branch_moved k o (Some v) = refl

terminal_moved : (k : Contents) (o : ℤ) (v : Option (List ℕ × List ℕ × List ℕ)) →
    with_terminal (with_offset k o) v ≡ with_offset (with_terminal k v) o
terminal_moved k o None = refl
terminal_moved k o (Some v) = refl

patron_moved : (k : Contents) (o : ℤ) (v : Option (List ℕ × List ℕ)) →
    with_patron (with_offset k o) v ≡ with_offset (with_patron k v) o
patron_moved k o None = refl
patron_moved k o (Some v) = refl

title_moved : (k : Contents) (o : ℤ) (v : Option (List ℕ × List ℕ × List ℕ × List ℕ)) →
    with_title (with_offset k o) v ≡ with_offset (with_title k v) o
title_moved k o None = refl
title_moved k o (Some v) = refl

copy_moved : (k : Contents) (o : ℤ) (v : Option (List ℕ × List ℕ × List ℕ)) →
    with_copy_line (with_offset k o) v ≡ with_offset (with_copy_line k v) o
copy_moved k o None = refl
copy_moved k o (Some v) = refl

-- of two ways one was gone, alike
either_moved : (t : Bool) (x y x' y' : Contents) (o : ℤ) → x' ≡ with_offset x o → y' ≡ with_offset y o →
    (if t then x' else y') ≡ with_offset (if t then x else y) o
either_moved true x y x' y' o h g = h
either_moved false x y x' y' o h g = g

values_moved : (k : Contents) (o : ℤ) (values : List (List ℕ)) →
    with_values (with_offset k o) values ≡ with_offset (with_values k values) o
values_moved k o [] = refl
values_moved k o (kind ∷ values) =
    either_moved (bytes_eq kind (codes "B")) _ _ _ _ o (branch_moved k o (as_one values))
    (either_moved (bytes_eq kind (codes "S")) _ _ _ _ o (terminal_moved k o (as_three values))
    (either_moved (bytes_eq kind (codes "P")) _ _ _ _ o (patron_moved k o (as_two values))
    (either_moved (bytes_eq kind (codes "T")) _ _ _ _ o
    (title_moved k o (title_values k.settings.version values))
    (either_moved (bytes_eq kind (codes "C")) _ _ _ _ o (copy_moved k o (as_three values)) refl))))

line_moved : (k : Contents) (o : ℤ) (line : List ℕ)
    → with_line (with_offset k o) line ≡ with_offset (with_line k line) o
unfolding with_line
line_moved k o line = values_moved k o (values_of line)

more_moved : (k : Contents) (o : ℤ) (more : List (List ℕ)) →
    fold with_line (with_offset k o) more ≡ with_offset (fold with_line k more) o
more_moved k o [] = refl
more_moved k o (line ∷ more) =
    trans (ap (λ j. fold with_line j more) (line_moved k o line)) (more_moved (with_line k line) o more)

-- a first line with another offset begins the same catalogue, but for that
begun_moved : (version : Option Version) (institution offset another limit : List ℕ) → begun_by (option_map
    (λ known. record { version = known; institution = institution; offset = another; limit = limit }) version)
    ≡ with_offset (begun_by (option_map
    (λ known. record { version = known; institution = institution; offset = offset; limit = limit }) version))
    (begun_by (option_map
    (λ known. record { version = known; institution = institution; offset = another; limit = limit })
    version)).settings.offset
begun_moved None institution offset another limit = refl
begun_moved (Some version) institution offset another limit = refl

first_moved : (one other : List ℕ) → SaysSame one other
    → first_contents other ≡ with_offset (first_contents one) (first_contents other).settings.offset
unfolding first_contents
first_moved one other same =
    subst (λ values. begun_by (heading_of values)
    ≡ with_offset (begun_by (heading_of (values_of one))) (begun_by (heading_of values)).settings.offset)
    (sym same.second)
    (subst (λ values.
    begun_by (heading_of (codes "H" ∷ same.version ∷ same.institution ∷ same.another ∷ same.limit ∷ []))
    ≡ with_offset (begun_by (heading_of values)) (begun_by (heading_of
    (codes "H" ∷ same.version ∷ same.institution ∷ same.another ∷ same.limit ∷ []))).settings.offset)
    (sym same.first)
    (begun_moved (version_of same.version) same.institution same.offset same.another same.limit))

-- So does the whole file, whose catalogue has that offset.
pub whole_moved : (one other : List ℕ) (more : List (List ℕ)) → SaysSame one other →
    contents_of other more ≡ with_offset (contents_of one more) (contents_of other more).settings.offset
whole_moved one other more same =
    let o = (first_contents other).settings.offset in
    let all : contents_of other more ≡ with_offset (contents_of one more) o =
    trans (ap (λ j. fold with_line j more) (first_moved one other same))
    (more_moved (first_contents one) o more) in
    let at : (contents_of other more).settings.offset ≡ o = ap (λ k. k.settings.offset) all in
    subst (λ n. contents_of other more ≡ with_offset (contents_of one more) n) (sym at) all

-- a catalogue with its own offset is itself
pub own_offset : (k : Contents) (o : ℤ) → k.settings.offset ≡ o → k ≡ with_offset k o
own_offset k o h = subst (λ n. k ≡ with_offset k n) h refl

-- What is read of a text that is another's but for the offset, where that is the offset.
pub read_moved : (all moved : List (List ℕ)) (told k : Contents) (o : ℤ) → IsMoved all moved
    → IsAccepted all told → IsAccepted moved k → k.settings.offset ≡ o → k ≡ with_offset told o
read_moved all moved told k o m a b h =
    let one : m.first ∷ m.more ≡ a.first ∷ a.more = trans (sym m.whole) a.whole in
    let other : m.other ∷ m.more ≡ b.first ∷ b.more = trans (sym m.changed) b.whole in
    let was : told ≡ contents_of m.first m.more =
    trans a.says (trans (ap (λ f. contents_of f a.more) (sym (head_same one)))
    (ap (λ r. contents_of m.first r) (sym (tail_same one)))) in
    let is : k ≡ contents_of m.other m.more =
    trans b.says (trans (ap (λ f. contents_of f b.more) (sym (head_same other)))
    (ap (λ r. contents_of m.other r) (sym (tail_same other)))) in
    let by : contents_of m.other m.more
    ≡ with_offset (contents_of m.first m.more) (contents_of m.other m.more).settings.offset =
    whole_moved m.first m.other m.more m.same in
    let at : (contents_of m.other m.more).settings.offset ≡ o =
    trans (ap (λ j. j.settings.offset) (sym is)) h in
    trans is (trans by (trans (ap (λ n. with_offset (contents_of m.first m.more) n) at)
    (ap (λ j. with_offset j o) (sym was))))

list_of : List ℕ × List ℕ × List ℕ × List ℕ → List (List ℕ)
list_of (a, b, c, d) = a ∷ b ∷ c ∷ d ∷ []

-- four values are the four
four_in : (xs : List (List ℕ)) (a b c d : List ℕ) → Some (a, b, c, d) ≡ as_four xs → xs ≡ a ∷ b ∷ c ∷ d ∷ []
unfolding list_of
four_in [] a b c d h = absurd (none-some _ (sym h))
four_in (p ∷ []) a b c d h = absurd (none-some _ (sym h))
four_in (p ∷ q ∷ []) a b c d h = absurd (none-some _ (sym h))
four_in (p ∷ q ∷ r ∷ []) a b c d h = absurd (none-some _ (sym h))
four_in (p ∷ q ∷ r ∷ s ∷ []) a b c d h = ap list_of (sym (same_Some _ _ h))
four_in (p ∷ q ∷ r ∷ s ∷ t ∷ ts) a b c d h = absurd (none-some _ (sym h))

-- a letter and four values behind it are five
pub five_in : (xs : List (List ℕ)) (x a b c d : List ℕ) → Some x ≡ slice_get xs 0
    → Some (a, b, c, d) ≡ as_four (drop 1 xs) → xs ≡ x ∷ a ∷ b ∷ c ∷ d ∷ []
five_in [] x a b c d h g = absurd (none-some _ (sym h))
five_in (y ∷ ys) x a b c d h g = let four = four_in ys a b c d g in let same : x ≡ y = same_Some _ _ h in cc
