-- What is asked by targets.
use Rattle.std.specs.Prelude.{ℕ, List, [], Option, Some, None, codes, find, option_map}
use Rattle.percent_encoding.specs.Percent.{percent_decode}
use Rattle.hd_lists.specs.declared.list.KeyKind.{KeyKind}
use Rattle.hd_lists.specs.declared.list.KeyKind.TheVariants as by
use Rattle.hd_lists.specs.declared.list.Listing.{Listing}
use Rattle.hd_lists.specs.declared.question.Key.{Key}
use Rattle.hd_lists.specs.declared.question.Key.TheVariants.{Name, Day, Number, Whole, Most}
use Rattle.hd_lists.specs.declared.question.Heard.{Heard}
use Rattle.hd_lists.specs.declared.question.Heard.TheVariants.{Nothing, Malformed, Asked}
use Rattle.hd_lists.specs.Cuts.{after_mark, after_prefix, before_mark, rest_at}
use Rattle.hd_lists.specs.Lists.{all_lists, is_bare_at, is_named_at, key_of}
use Rattle.hd_lists.specs.Numbers.{number_in}
use Rattle.hd_lists.specs.Queries.{after_alone, after_and_limit, day_and_after, words_in}
use Rattle.hd_lists.specs.Questions.{map_heard}

-- the list at a folder and a part that has its key in its path
unfoldable pub named_list : List ℕ → List ℕ → Option Listing
named_list folder part = find (is_named_at folder part) all_lists

-- the list at a folder that has no key in its path
unfoldable pub bare_list : List ℕ → Option Listing
bare_list folder = find (is_bare_at folder) all_lists

-- the list of a path, of which this is after /api/, and the key there as it came
abbrev pub places_by : List ℕ → Option (List ℕ) → Option (Listing × List ℕ)
places_by folder None = option_map (λ list. (list, [])) (bare_list folder)
places_by folder (Some named) =
    option_map (λ list. (list, before_mark 47 named)) (named_list folder (rest_at 47 named))

abbrev pub places_after : Option (List ℕ) → Option (Listing × List ℕ)
places_after None = None
places_after (Some rest) = places_by (before_mark 47 rest) (after_mark 47 rest)

abbrev pub place_in : List ℕ → Option (Listing × List ℕ)
place_in path = places_after (after_prefix (codes "/api/") path)

-- the key that a kind of list is asked by, and where its page begins
abbrev pub key_in : KeyKind → List ℕ → Option (List ℕ) → Option (Key (List ℕ) × ℕ)
key_in (by.Name kind) name query = option_map (λ after. (Name name, after)) (after_alone (words_in query))
key_in by.Day name query = option_map (λ d. (Day d.0, d.1)) (day_and_after (words_in query))
key_in by.Whole name query = option_map (λ after. (Whole, after)) (after_alone (words_in query))
key_in by.Most name query = option_map (λ m. (Most m.1, m.0)) (after_and_limit (words_in query))
key_in by.Number name None = option_map (λ n. (Number n, 0)) (number_in name)
key_in by.Number name (Some query) = None

abbrev pub asks : Listing → Option (Key (List ℕ) × ℕ) → Heard (List ℕ)
asks list None = Malformed
asks list (Some k) = Asked (record { list = list; key = k.0; after = k.1 })

abbrev pub hears : Option (Listing × List ℕ) → Option (List ℕ) → Heard (List ℕ)
hears None query = Nothing
hears (Some place) query = asks place.0 (key_in (key_of place.0) place.1 query)

-- what is asked by a target, with its escapes
abbrev pub raw_in : List ℕ → Heard (List ℕ)
raw_in target = hears (place_in (before_mark 63 target)) (after_mark 63 target)

-- what is asked by a target
abbrev pub heard_in : List ℕ → Heard (List ℕ)
heard_in target = map_heard percent_decode (raw_in target)
