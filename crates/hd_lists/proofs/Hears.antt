-- What is asked is heard.
use Rattle.std.proofs.Common.{◌≡◌, ◌≢◌, ◌∙◌, ◌==◌, ◌+◌, ◌%◌, ◌<◌, ◌≤◌, ◌⊎◌, inl, inr, ap, ap₂, refl, sym}
use Rattle.std.proofs.Common.{subst, arith, true, false, not, Bool, ℕ, zero, suc, decimal}
use Rattle.std.proofs.Common.{List, [], ◌∷◌, ◌++◌, Option, Some, None, option_map, append_assoc, append-nil}
use Rattle.std.proofs.Common.{codes}
use Rattle.std.proofs.lemmas.Bool.{true≢false}
use Rattle.std.proofs.lemmas.Bool.Decides.{eqb_tells}
use Rattle.std.proofs.lemmas.Fmt.{decimal_by_steps}
use Rattle.percent_encoding.specs.AsciiSet.{contains, should_percent_encode}
use Rattle.percent_encoding.specs.Percent.{percent_decode, percent_encode}
use Rattle.percent_encoding.proofs.OnLiterals.{percent_encoding_on_literals}
use Rattle.percent_encoding.proofs.PercentLemmas.{All-percent_encode, IsEscapeByte, round_trip}
use Rattle.hd_lists.specs.declared.asking.TheConstants.{ESCAPED}
use Rattle.hd_lists.specs.declared.list.Kind.{Kind}
use Rattle.hd_lists.specs.declared.list.KeyKind.{KeyKind}
use Rattle.hd_lists.specs.declared.list.KeyKind.TheVariants as by
use Rattle.hd_lists.specs.declared.list.Listing.{Listing}
use Rattle.hd_lists.specs.declared.question.Key.{Key}
use Rattle.hd_lists.specs.declared.question.Key.TheVariants.{Name, Day, Number, Whole, Most}
use Rattle.hd_lists.specs.declared.question.Heard.TheVariants.{Asked}
use Rattle.hd_lists.specs.Asking.{AreBytes, IsOf, IsShort, target_text}
use Rattle.hd_lists.specs.Hearing.{bare_list, named_list, place_in, places_by, heard_in, raw_in, hears}
use Rattle.hd_lists.specs.Hearing.{asks, key_in}
use Rattle.hd_lists.specs.Lists.{folder_of, is_in_path, key_of, part_of}
use Rattle.hd_lists.specs.Queries.{Word, word_in, words_in, one_more, as_after, as_limit, after_alone}
use Rattle.hd_lists.specs.Queries.{day_and_after, after_and_limit}
use Rattle.hd_lists.specs.Queries as said
use Rattle.hd_lists.specs.Questions.{map_heard}
use Rattle.hd_lists.proofs.Marks.{before_at, before_none, before_rest, after_at, after_none, lacks}
use Rattle.hd_lists.proofs.Marks.{lacks_all, lacks_both, rest_from}
use Rattle.hd_lists.proofs.Numbers.{number_back}
use Rattle.hd_lists.proofs.Sound.{sound, list_at}

named_found : (list : Listing) → is_in_path (key_of list) ≡ true
    → named_list (folder_of list) (part_of list) ≡ Some list
named_found list named = ap (λ (b : Bool). list_at b list) (sym named) ∙ (sound list).0

bare_found : (list : Listing) → is_in_path (key_of list) ≡ false → bare_list (folder_of list) ≡ Some list
bare_found list bare = ap (λ (b : Bool). list_at b list) (sym bare) ∙ (sound list).0

-- nor has a number or what is escaped
other_byte : (b mark : ℕ) → b ≢ mark → not (b == mark) ≡ true
other_byte b mark differ =
    elim (eqb_tells b mark) [ inl both ↦ absurd (differ both.1) | inr both ↦ let is = both.0 in rw is refl ]

digit_off : (mark : ℕ) → (mark < 48) ⊎ (57 < mark) → (m : ℕ) → m < 10 → 48 + m ≢ mark
digit_off mark (inl low) m small same = omega (arith, low, same)
digit_off mark (inr high) m small same = omega (arith, high, same)

digits_lack : (mark : ℕ) → (mark < 48) ⊎ (57 < mark) → (n : ℕ) → IsShort n → lacks mark (decimal n) ≡ true
digits_lack mark off n short =
    decimal_by_steps (λ m ds. lacks mark ds ≡ true)
    (λ m small. let one = other_byte (48 + m) mark (digit_off mark off m small) in rw one refl)
    (λ m ds many none. lacks_both mark ds ((48 + m % 10) ∷ []) none
    (let one = other_byte (48 + m % 10) mark (digit_off mark off (m % 10) (omega arith)) in rw one refl))
    n (omega (arith, short))

mark_escaped : (should_percent_encode ESCAPED 47 ≡ true) × (should_percent_encode ESCAPED 63 ≡ true)
    × (should_percent_encode ESCAPED 38 ≡ true) × (contains ESCAPED 37 ≡ true)
unfolding percent_encoding_on_literals
mark_escaped = (refl, refl, refl, refl)

escaped_lacks : (mark : ℕ) → should_percent_encode ESCAPED mark ≡ true → (IsEscapeByte mark → ⊥)
    → (bytes : List ℕ) → lacks mark (percent_encode ESCAPED bytes) ≡ true
escaped_lacks mark is_escaped other bytes =
    lacks_all (λ b. b ≢ mark) mark (λ b differ. other_byte b mark differ) _
    (All-percent_encode (λ b. b ≢ mark) ESCAPED bytes
    (λ b kept same.
    true≢false (sym is_escaped ∙ ap (should_percent_encode ESCAPED) (sym same) ∙ kept))
    (λ b escape same. other (subst IsEscapeByte same escape)))

no_slash : IsEscapeByte 47 → ⊥
no_slash e = grind arith

no_question : IsEscapeByte 63 → ⊥
no_question e = grind arith

no_and : IsEscapeByte 38 → ⊥
no_and e = grind arith

-- the place of a path without a key, and of one with it
bare_place : (list : Listing) → is_in_path (key_of list) ≡ false
    → place_in (codes "/api/" ++ folder_of list) ≡ Some (list, [])
bare_place list bare =
    let lack = (sound list).1 in
    ap₂ (λ (f : List ℕ) (m : Option (List ℕ)). places_by f m)
    (before_none 47 (folder_of list) lack) (after_none 47 (folder_of list) lack)
    ∙ ap (option_map (λ l. (l, []))) (bare_found list bare)

named_place : (list : Listing) → is_in_path (key_of list) ≡ true → (name : List ℕ) → lacks 47 name ≡ true
    → place_in (codes "/api/" ++ (folder_of list ++ 47 ∷ (name ++ part_of list))) ≡ Some (list, name)
named_place list named name none =
    let lack = (sound list).1 in
    let from = (sound list).3 in
    ap₂ (λ (f : List ℕ) (m : Option (List ℕ)). places_by f m)
    (before_at 47 (folder_of list) (name ++ part_of list) lack)
    (after_at 47 (folder_of list) (name ++ part_of list) lack)
    ∙ ap₂ (λ (raw : List ℕ) (found : Option Listing). option_map (λ l. (l, raw)) found)
    (before_rest 47 name (part_of list) none from)
    (ap (named_list (folder_of list)) (rest_from 47 name (part_of list) none from) ∙ named_found list named)

-- what a query says
after_words : (after : ℕ) → IsShort after
    → words_in (Some (codes "after=" ++ decimal after)) ≡ said.After after ∷ []
after_words after short =
    let query = codes "after=" ++ decimal after in
    let lack = digits_lack 38 (inl (omega arith)) after short in
    ap₂ (λ (f : List ℕ) (m : Option (List ℕ)). word_in f ∷ one_more m)
    (before_none 38 query lack) (after_none 38 query lack)
    ∙ ap (λ (n : Option ℕ). as_after n ∷ []) (number_back after short)

day_words : (day : List ℕ) (after : ℕ) → lacks 38 day ≡ true → IsShort after
    → words_in (Some (codes "day=" ++ (day ++ (codes "&after=" ++ decimal after))))
    ≡ said.Day day ∷ said.After after ∷ []
day_words day after lack short =
    ap₂ (λ (f : List ℕ) (m : Option (List ℕ)). word_in f ∷ one_more m)
    (before_at 38 (codes "day=" ++ day) (codes "after=" ++ decimal after) lack)
    (after_at 38 (codes "day=" ++ day) (codes "after=" ++ decimal after) lack)
    ∙ ap (λ (n : Option ℕ). said.Day day ∷ as_after n ∷ []) (number_back after short)

limit_word : (most : ℕ) → 0 < most → most ≤ 512 → as_limit (Some most) ≡ said.Limit most
limit_word zero some few = absurd (omega arith)
limit_word (suc n) some few = ap said.Limit (omega arith)

most_words : (after most : ℕ) → IsShort after → 0 < most → most ≤ 512
    → words_in (Some (codes "after=" ++ (decimal after ++ (codes "&limit=" ++ decimal most))))
    ≡ said.After after ∷ said.Limit most ∷ []
most_words after most short some few =
    let lack = digits_lack 38 (inl (omega arith)) after short in
    ap₂ (λ (f : List ℕ) (m : Option (List ℕ)). word_in f ∷ one_more m)
    (before_at 38 (codes "after=" ++ decimal after) (codes "limit=" ++ decimal most) lack)
    (after_at 38 (codes "after=" ++ decimal after) (codes "limit=" ++ decimal most) lack)
    ∙ ap₂ (λ (n m : Option ℕ). as_after n ∷ as_limit m ∷ [])
    (number_back after short) (number_back most (omega arith))
    ∙ ap (λ (w : Word). said.After after ∷ w ∷ []) (limit_word most some few)

-- a target with a query, and one without
with_query : (path rest : List ℕ) (place : Listing × List ℕ) → lacks 63 path ≡ true
    → place_in path ≡ Some place → raw_in (path ++ 63 ∷ rest) ≡ hears (Some place) (Some rest)
with_query path rest place lack is =
    ap₂ (λ (p : List ℕ) (q : Option (List ℕ)). hears (place_in p) q) (before_at 63 path rest lack)
    (after_at 63 path rest lack)
    ∙ ap (λ (p : Option (Listing × List ℕ)). hears p (Some rest)) is

without_query : (path : List ℕ) (place : Listing × List ℕ) → lacks 63 path ≡ true
    → place_in path ≡ Some place → raw_in path ≡ hears (Some place) None
without_query path place lack is =
    ap₂ (λ (p : List ℕ) (q : Option (List ℕ)). hears (place_in p) q) (before_none 63 path lack)
    (after_none 63 path lack)
    ∙ ap (λ (p : Option (Listing × List ℕ)). hears p None) is

-- a path without its key
path_lacks : (list : Listing) (name : List ℕ) → lacks 63 name ≡ true
    → lacks 63 (codes "/api/" ++ (folder_of list ++ 47 ∷ (name ++ part_of list))) ≡ true
path_lacks list name none =
    lacks_both 63 (folder_of list) (47 ∷ (name ++ part_of list)) (sound list).2
    (lacks_both 63 name (part_of list) none (sound list).4)

of_name : (list : Listing) (k : Kind) → key_of list ≡ by.Name k → (name : List ℕ) (after : ℕ)
    → AreBytes name → IsShort after
    → heard_in (target_text (record { list = list; key = Name name; after = after }))
    ≡ Asked (record { list = list; key = Name name; after = after })
of_name list k is name after small short =
    let raw = percent_encode ESCAPED name in
    let slash = escaped_lacks 47 mark_escaped.0 no_slash name in
    let mark = escaped_lacks 63 mark_escaped.1 no_question name in
    let query = codes "after=" ++ decimal after in
    let path = codes "/api/" ++ (folder_of list ++ 47 ∷ (raw ++ part_of list)) in
    ap (λ (t : List ℕ). heard_in (codes "/api/" ++ t))
    (sym (append_assoc (folder_of list) (47 ∷ (raw ++ part_of list)) (63 ∷ query)))
    ∙ ap (map_heard percent_decode) (with_query path query (list, raw) (path_lacks list raw mark)
    (named_place list (ap is_in_path is) raw slash)
    ∙ ap (λ (kind : KeyKind). asks list (key_in kind raw (Some query))) is
    ∙ ap (λ (w : List Word). asks list (option_map (λ a. (Name raw, a)) (after_alone w)))
    (after_words after short))
    ∙ ap (λ (n : List ℕ). Asked (record { list = list; key = Name n; after = after }))
    (round_trip ESCAPED name mark_escaped.3 small)

of_day : (list : Listing) → key_of list ≡ by.Day → (day : List ℕ) (after : ℕ)
    → AreBytes day → IsShort after
    → heard_in (target_text (record { list = list; key = Day day; after = after }))
    ≡ Asked (record { list = list; key = Day day; after = after })
of_day list is day after small short =
    let raw = percent_encode ESCAPED day in
    let lack = escaped_lacks 38 mark_escaped.2 no_and day in
    let query = codes "day=" ++ (raw ++ (codes "&after=" ++ decimal after)) in
    ap (map_heard percent_decode) (with_query (codes "/api/" ++ folder_of list) query (list, [])
    (sound list).2
    (bare_place list (ap is_in_path is))
    ∙ ap (λ (kind : KeyKind). asks list (key_in kind [] (Some query))) is
    ∙ ap (λ (w : List Word). asks list (option_map (λ d. (Day d.0, d.1)) (day_and_after w)))
    (day_words raw after lack short))
    ∙ ap (λ (n : List ℕ). Asked (record { list = list; key = Day n; after = after }))
    (round_trip ESCAPED day mark_escaped.3 small)

of_most : (list : Listing) → key_of list ≡ by.Most → (most after : ℕ) → 0 < most → most ≤ 512 → IsShort after
    → heard_in (target_text (record { list = list; key = Most most; after = after }))
    ≡ Asked (record { list = list; key = Most most; after = after })
of_most list is most after some few short =
    let query = codes "after=" ++ (decimal after ++ (codes "&limit=" ++ decimal most)) in
    ap (map_heard percent_decode) (with_query (codes "/api/" ++ folder_of list) query (list, [])
    (sound list).2
    (bare_place list (ap is_in_path is))
    ∙ ap (λ (kind : KeyKind). asks list (key_in kind [] (Some query))) is
    ∙ ap (λ (w : List Word). asks list (option_map (λ m. (Most m.1, m.0)) (after_and_limit w)))
    (most_words after most short some few))

of_whole : (list : Listing) → key_of list ≡ by.Whole → (after : ℕ) → IsShort after
    → heard_in (target_text (record { list = list; key = Whole; after = after }))
    ≡ Asked (record { list = list; key = Whole; after = after })
of_whole list is after short =
    let query = codes "after=" ++ decimal after in
    ap (map_heard percent_decode) (with_query (codes "/api/" ++ folder_of list) query (list, [])
    (sound list).2
    (bare_place list (ap is_in_path is))
    ∙ ap (λ (kind : KeyKind). asks list (key_in kind [] (Some query))) is
    ∙ ap (λ (w : List Word). asks list (option_map (λ a. (Whole, a)) (after_alone w)))
    (after_words after short))

of_number : (list : Listing) → key_of list ≡ by.Number → (number after : ℕ) → IsShort number → after ≡ 0
    → heard_in (target_text (record { list = list; key = Number number; after = after }))
    ≡ Asked (record { list = list; key = Number number; after = after })
of_number list is number after short none =
    let raw = decimal number in
    let slash = digits_lack 47 (inl (omega arith)) number short in
    let mark = digits_lack 63 (inr (omega arith)) number short in
    let path = codes "/api/" ++ (folder_of list ++ 47 ∷ (raw ++ part_of list)) in
    ap (λ (t : List ℕ). heard_in (codes "/api/" ++ (folder_of list ++ t)))
    (append-nil (47 ∷ (raw ++ part_of list)))
    ∙ ap (map_heard percent_decode) (without_query path (list, raw) (path_lacks list raw mark)
    (named_place list (ap is_in_path is) raw slash)
    ∙ ap (λ (kind : KeyKind). asks list (key_in kind raw None)) is
    ∙ ap (λ (n : Option ℕ). asks list (option_map (λ n. (Number n, 0)) n)) (number_back number short))
    ∙ ap (λ (a : ℕ). Asked (record { list = list; key = Number number; after = a })) (sym none)

-- What is asked is heard.
pub heard : (list : Listing) (kind : KeyKind) → key_of list ≡ kind → (key : Key (List ℕ)) (after : ℕ)
    → IsOf kind key after
    → heard_in (target_text (record { list = list; key = key; after = after }))
    ≡ Asked (record { list = list; key = key; after = after })
heard list (by.Name k) is (Name name) after fits = of_name list k is name after fits.0 fits.1
heard list by.Number is (Number number) after fits = of_number list is number after fits.0 fits.1
heard list by.Day is (Day day) after fits = of_day list is day after fits.0 fits.1
heard list by.Whole is Whole after fits = of_whole list is after fits
heard list by.Most is (Most most) after fits = of_most list is most after fits.0 fits.1 fits.2
heard list kind is key after fits = absurd fits
