-- What a writer is given that a line feed is written to behind each carriage return.
use Rattle.std.proofs.Common.{Result, Ok, Err, MatchResult}
use Rattle.std.proofs.Common.{◌≡◌, ◌==◌, ◌&&◌, ℕ, suc, ◌+◌, ◌≤◌, min, Bool, true, false, if◌then◌else◌}
use Rattle.std.proofs.Common.{List, [], ◌∷◌, ◌++◌, Option, None, Some, length, take, drop, Contains, nat_lt}
use Rattle.std.proofs.Common.{arith, refl, sym, ap, ◌∙◌, subst, append_assoc, append-nil, length-append}
use Rattle.std.proofs.KnownBytes.{Appends-trans}
use Rattle.std.proofs.Math.Seq.{take-append_seam, take-length}
use Rattle.std.proofs.lemmas.List.{take-append-drop, take-append-le}
use Rattle.std.proofs.lemmas.List.Elements.{Contains-append_left, Contains-append_right}
use Rattle.std.specs.Io.KnownBytes.{Appends, Keeps}
use Rattle.hd_field.specs.Line.{EndsLine}
use Rattle.hd_serve.specs.LineFeeds.{Gives, IsFirstPart, are_owed, bytes_of, ends_with_return, owed, told}
use Rattle.hd_serve.specs.LineFeeds.{with_line_feeds, without_line_feeds}

ends-append : (behind : Bool) (s t : List ℕ)
    → ends_with_return behind (s ++ t) ≡ ends_with_return (ends_with_return behind s) t
ends-append behind [] t = refl
ends-append behind (byte ∷ s) t = ends-append (byte == 13) s t

without-append : (behind : Bool) (s t : List ℕ)
    → without_line_feeds behind (s ++ t)
    ≡ without_line_feeds behind s ++ without_line_feeds (ends_with_return behind s) t
without-append behind [] t = refl
without-append behind (byte ∷ s) t =
    let first : List ℕ = if behind && (byte == 10) then [] else byte ∷ [] in
    ap (λ (l : List ℕ). first ++ l) (without-append (byte == 13) s t)
    ∙ sym (append_assoc first (without_line_feeds (byte == 13) s)
    (without_line_feeds (ends_with_return (byte == 13) s) t))

with-append : (s t : List ℕ) → with_line_feeds (s ++ t) ≡ with_line_feeds s ++ with_line_feeds t
with-append [] t = refl
with-append (byte ∷ s) t =
    ap (λ (l : List ℕ). byte ∷ (owed (byte == 13) ++ l)) (with-append s t)
    ∙ ap (λ (l : List ℕ). byte ∷ l)
    (sym (append_assoc (owed (byte == 13)) (with_line_feeds s) (with_line_feeds t)))

-- the line feed that is owed is no part of the text
without_owed : (owes : Bool) (text : List ℕ)
    → without_line_feeds owes (owed owes ++ text) ≡ without_line_feeds false text
without_owed true text = refl
without_owed false text = refl

-- a text is read back
read_back : (text : List ℕ) → without_line_feeds false (with_line_feeds text) ≡ text
read_back [] = refl
read_back (byte ∷ text) =
    ap (λ (l : List ℕ). byte ∷ l) (without_owed (byte == 13) (with_line_feeds text) ∙ read_back text)

without_last : (owes : Bool) → without_line_feeds owes (owed owes) ≡ []
without_last true = refl
without_last false = refl

-- what was given, read back, is the text
given_back : (owes owes' : Bool) (given text : List ℕ)
    → given ++ owed owes' ≡ owed owes ++ with_line_feeds text → ends_with_return owes given ≡ owes'
    → without_line_feeds owes given ≡ text
given_back owes owes' given text whole ends =
    let split : without_line_feeds owes (given ++ owed owes') ≡ without_line_feeds owes given =
    without-append owes given (owed owes')
    ∙ ap (λ (l : List ℕ). without_line_feeds owes given ++ l)
    (ap (λ (b : Bool). without_line_feeds b (owed owes')) ends ∙ without_last owes')
    ∙ append-nil (without_line_feeds owes given) in
    sym split
    ∙ ap (λ (l : List ℕ). without_line_feeds owes l) whole
    ∙ without_owed owes (with_line_feeds text)
    ∙ read_back text

is_owed : (owes : Bool) (held : List ℕ) → are_owed owes held ≡ true → ends_with_return false held ≡ owes
is_owed true held are = are
is_owed false held are = grind (arith, are)

owed_so : (owes : Bool) (held : List ℕ) → ends_with_return false held ≡ owes → are_owed owes held ≡ true
owed_so true held is = is
owed_so false held is = rw is refl

-- what the one before tells grows by the text
told_by : (told_now : Bool) (owes owes' : Bool) (held held' text : List ℕ) → are_owed owes held ≡ told_now
    → Gives owes owes' (Some held) (Some held') text
    → Appends (told owes (Some held)) (told owes' (Some held')) text
told_by false owes owes' held held' text are gives = rw are tt
told_by true owes owes' held held' text are gives =
    let ends : ends_with_return false held ≡ owes = is_owed owes held are in
    let ends' : ends_with_return false held' ≡ owes' =
    ap (λ (l : List ℕ). ends_with_return false l) gives.appends
    ∙ ends-append false held gives.given
    ∙ ap (λ (b : Bool). ends_with_return b gives.given) ends
    ∙ gives.ends in
    let are' : are_owed owes' held' ≡ true = owed_so owes' held' ends' in
    let back : without_line_feeds false held' ≡ without_line_feeds false held ++ text =
    ap (λ (l : List ℕ). without_line_feeds false l) gives.appends
    ∙ without-append false held gives.given
    ∙ ap (λ (l : List ℕ). without_line_feeds false held ++ l)
    (ap (λ (b : Bool). without_line_feeds b gives.given) ends
    ∙ given_back owes owes' gives.given text gives.whole gives.ends) in
    rw (are, are') back

pub told_gives : (owes owes' : Bool) (contents contents' : Option (List ℕ)) (text : List ℕ)
    → Gives owes owes' contents contents' text
    → Appends (told owes contents) (told owes' contents') text
told_gives owes owes' None contents' text gives = tt
told_gives owes owes' (Some held) None text gives = absurd gives.appends
told_gives owes owes' (Some held) (Some held') text gives =
    told_by (are_owed owes held) owes owes' held held' text refl gives

kept : (old new : Option (List ℕ)) → Appends old new [] → Keeps old new
kept None new appends = tt
kept (Some x) None appends = absurd appends
kept (Some x) (Some y) appends = appends ∙ append-nil x

-- what it tells stays, where nothing of a text is given
pub told_keeps : (owes owes' : Bool) (contents contents' : Option (List ℕ))
    → Gives owes owes' contents contents' []
    → Keeps (told owes contents) (told owes' contents')
told_keeps owes owes' contents contents' gives =
    kept (told owes contents) (told owes' contents') (told_gives owes owes' contents contents' [] gives)

-- one text is given behind another
pub gives_then : (owes owes' owes'' : Bool) (a b c : Option (List ℕ)) (s t : List ℕ)
    → Gives owes owes' a b s → Gives owes' owes'' b c t → Gives owes owes'' a c (s ++ t)
gives_then owes owes' owes'' a b c s t first next = record {
  given = first.given ++ next.given;
  appends = Appends-trans a b c first.given next.given first.appends next.appends;
  whole = append_assoc first.given next.given (owed owes'')
      ∙ ap (λ (l : List ℕ). first.given ++ l) next.whole
      ∙ sym (append_assoc first.given (owed owes') (with_line_feeds t))
      ∙ ap (λ (l : List ℕ). l ++ with_line_feeds t) first.whole
      ∙ append_assoc (owed owes) (with_line_feeds s) (with_line_feeds t)
      ∙ ap (λ (l : List ℕ). owed owes ++ l) (sym (with-append s t));
  ends = ends-append owes first.given next.given
      ∙ ap (λ (b : Bool). ends_with_return b next.given) first.ends
      ∙ next.ends;
}

-- a text without a carriage return

none_before : (first rest : List ℕ) → ¬ Contains (first ++ rest) 13 → ¬ Contains first 13
none_before first rest none = λ has. none (Contains-append_left first rest 13 has)

none_behind : (first rest : List ℕ) → ¬ Contains (first ++ rest) 13 → ¬ Contains rest 13
none_behind first rest none = λ has. none (Contains-append_right first rest 13 has)

none_in : (n : ℕ) (text : List ℕ) → ¬ Contains text 13 → ¬ Contains (take n text) 13
none_in n text none = none_before (take n text) (drop n text)
    (subst (λ (l : List ℕ). ¬ Contains l 13) (sym (take-append-drop n text)) none)

other_byte : (is : Bool) (byte : ℕ) (text : List ℕ) → (byte == 13) ≡ is → ¬ Contains (byte ∷ text) 13
    → (byte == 13) ≡ false
other_byte false byte text is none = is
other_byte true byte text is none =
    let same : byte ≡ 13 = grind (arith, is) in
    absurd (none (0, omega arith, same))

other : (byte : ℕ) (text : List ℕ) → ¬ Contains (byte ∷ text) 13 → (byte == 13) ≡ false
other byte text none = other_byte (byte == 13) byte text refl none

plain_with : (text : List ℕ) → ¬ Contains text 13 → with_line_feeds text ≡ text
plain_with [] none = refl
plain_with (byte ∷ text) none =
    ap (λ (b : Bool). byte ∷ (owed b ++ with_line_feeds text)) (other byte text none)
    ∙ ap (λ (l : List ℕ). byte ∷ l) (plain_with text (none_behind (byte ∷ []) text none))

plain_ends : (text : List ℕ) → ¬ Contains text 13 → ends_with_return false text ≡ false
plain_ends [] none = refl
plain_ends (byte ∷ text) none =
    ap (λ (b : Bool). ends_with_return b text) (other byte text none)
    ∙ plain_ends text (none_behind (byte ∷ []) text none)

-- what is given of a part: some of what stands before its carriage return,
plain_given : (text plain rest : List ℕ) (n : ℕ) (a b : Option (List ℕ)) → text ≡ plain ++ rest
    → ¬ Contains plain 13 → n ≤ length plain → Appends a b (take n plain)
    → Gives false false a b (take n text)
plain_given text plain rest n a b split none few appends =
    let same : take n text ≡ take n plain =
    ap (λ (l : List ℕ). take n l) split ∙ take-append-le n plain rest few in
    record {
      given = take n plain;
      appends = appends;
      whole = append-nil (take n plain)
          ∙ sym (plain_with (take n plain) (none_in n plain none))
          ∙ ap with_line_feeds (sym same);
      ends = plain_ends (take n plain) (none_in n plain none);
    }

part_with : (plain : List ℕ) → ¬ Contains plain 13
    → with_line_feeds (plain ++ 13 ∷ []) ≡ (plain ++ 13 ∷ []) ++ 10 ∷ []
part_with plain none = with-append plain (13 ∷ [])
    ∙ ap (λ (l : List ℕ). l ++ 13 ∷ 10 ∷ []) (plain_with plain none)
    ∙ sym (append_assoc plain (13 ∷ []) (10 ∷ []))

part_first : (text plain rest : List ℕ) → text ≡ (plain ++ 13 ∷ []) ++ rest
    → take (length (plain ++ 13 ∷ [])) text ≡ plain ++ 13 ∷ []
part_first text plain rest split =
    ap (λ (l : List ℕ). take (length (plain ++ 13 ∷ [])) l) split ∙ take-append_seam (plain ++ 13 ∷ []) rest

-- all up to and with it,
end_given : (text plain rest : List ℕ) (a b : Option (List ℕ)) → text ≡ (plain ++ 13 ∷ []) ++ rest
    → ¬ Contains plain 13 → Appends a b (plain ++ 13 ∷ [])
    → Gives false true a b (take (length (plain ++ 13 ∷ [])) text)
end_given text plain rest a b split none appends = record {
  given = plain ++ 13 ∷ [];
  appends = appends;
  whole = sym (part_with plain none) ∙ ap with_line_feeds (sym (part_first text plain rest split));
  ends = ends-append false plain (13 ∷ []);
}

-- and its line feed too
whole_given : (text plain rest : List ℕ) (a b : Option (List ℕ)) → text ≡ (plain ++ 13 ∷ []) ++ rest
    → ¬ Contains plain 13 → Appends a b ((plain ++ 13 ∷ []) ++ 10 ∷ [])
    → Gives false false a b (take (length (plain ++ 13 ∷ [])) text)
whole_given text plain rest a b split none appends = record {
  given = (plain ++ 13 ∷ []) ++ 10 ∷ [];
  appends = appends;
  whole = append-nil ((plain ++ 13 ∷ []) ++ 10 ∷ [])
      ∙ sym (part_with plain none)
      ∙ ap with_line_feeds (sym (part_first text plain rest split));
  ends = ends-append false (plain ++ 13 ∷ []) (10 ∷ []);
}

ended_given : (is_end is_less : Bool) (text plain rest : List ℕ) (n : ℕ) (a b : Option (List ℕ))
    → (n == length plain + 1) ≡ is_end → nat_lt n (length plain + 1) ≡ is_less
    → text ≡ (plain ++ 13 ∷ []) ++ rest → ¬ Contains plain 13
    → n ≤ length ((plain ++ 13 ∷ []) ++ 10 ∷ []) → Appends a b (take n ((plain ++ 13 ∷ []) ++ 10 ∷ []))
    → Gives false is_end a b (take (min n (length (plain ++ 13 ∷ []))) text)
ended_given true is_less text plain rest n a b is less split none most appends =
    let size : length (plain ++ 13 ∷ []) ≡ length plain + 1 = length-append plain (13 ∷ []) in
    let all : n ≡ length (plain ++ 13 ∷ []) = grind (arith, is, size) in
    let least : min n (length (plain ++ 13 ∷ [])) ≡ length (plain ++ 13 ∷ []) = omega (arith, all) in
    rw least (end_given text plain rest a b split none
    (subst (λ (l : List ℕ). Appends a b l)
    (ap (λ (k : ℕ). take k ((plain ++ 13 ∷ []) ++ 10 ∷ [])) all
    ∙ take-append_seam (plain ++ 13 ∷ []) (10 ∷ [])) appends))
ended_given false true text plain rest n a b is less split none most appends =
    let few : n ≤ length plain = grind (arith, less) in
    let size : length (plain ++ 13 ∷ []) ≡ length plain + 1 = length-append plain (13 ∷ []) in
    let least : min n (length (plain ++ 13 ∷ [])) ≡ n = omega (arith, few, size) in
    rw least (plain_given text plain (13 ∷ rest) n a b (split ∙ append_assoc plain (13 ∷ []) rest) none few
    (subst (λ (l : List ℕ). Appends a b l)
    (ap (λ (l : List ℕ). take n l) (append_assoc plain (13 ∷ []) (10 ∷ []))
    ∙ take-append-le n plain (13 ∷ 10 ∷ []) few) appends))
ended_given false false text plain rest n a b is less split none most appends =
    let size : length (plain ++ 13 ∷ []) ≡ length plain + 1 = length-append plain (13 ∷ []) in
    let whole : length ((plain ++ 13 ∷ []) ++ 10 ∷ []) ≡ length (plain ++ 13 ∷ []) + 1 =
    length-append (plain ++ 13 ∷ []) (10 ∷ []) in
    let all : n ≡ length ((plain ++ 13 ∷ []) ++ 10 ∷ []) = grind (arith, is, less, most, size, whole) in
    let least : min n (length (plain ++ 13 ∷ [])) ≡ length (plain ++ 13 ∷ []) = omega (arith, all, whole) in
    rw least (whole_given text plain rest a b split none
    (subst (λ (l : List ℕ). Appends a b l)
    (ap (λ (k : ℕ). take k ((plain ++ 13 ∷ []) ++ 10 ∷ [])) all
    ∙ take-length ((plain ++ 13 ∷ []) ++ 10 ∷ [])) appends))

-- so many bytes of a part and its line feed are given
pub gives_part : (is_ended : Bool) (text plain : List ℕ) (n : ℕ) (a b : Option (List ℕ))
    → IsFirstPart text plain is_ended → n ≤ length (bytes_of plain is_ended ++ owed is_ended)
    → Appends a b (take n (bytes_of plain is_ended ++ owed is_ended))
    → Gives false (is_ended && (n == length plain + 1)) a b
    (take (min n (length (bytes_of plain is_ended))) text)
gives_part true text plain n a b part most appends =
    ended_given (n == length plain + 1) (nat_lt n (length plain + 1)) text plain part.rest n a b refl refl
    part.split part.none most appends
gives_part false text plain n a b part most appends =
    let few : n ≤ length plain = subst (λ (l : List ℕ). n ≤ length l) (append-nil plain) most in
    let least : min n (length plain) ≡ n = omega (arith, few) in
    rw least (plain_given text plain part.rest n a b part.split part.none few
    (subst (λ (l : List ℕ). Appends a b (take n l)) (append-nil plain) appends))

-- what a write gives, as the one before tells it
pub wrote_so : {E : Type 0} (owes owes' : Bool) (a b : Option (List ℕ)) (text : List ℕ) (result : Result ℕ E)
    → MatchResult result (λ n. Gives owes owes' a b (take n text)) (λ _. Gives owes owes' a b [])
    → MatchResult result (λ n. Appends (told owes a) (told owes' b) (take n text))
    (λ _. Keeps (told owes a) (told owes' b))
wrote_so owes owes' a b text (Ok n) gives = told_gives owes owes' a b (take n text) gives
wrote_so owes owes' a b text (Err fault) gives = told_keeps owes owes' a b gives

-- The line feed that was owed, a part of a text, and the line feed behind it: these are given.
pub all_given : (owes paid owes' left : Bool) (a b c d : Option (List ℕ)) (text : List ℕ)
    → Gives owes paid a b [] → paid ≡ false → Gives false owes' b c text → Gives owes' left c d []
    → Gives owes left a d text
all_given owes paid owes' left a b c d text first none part last =
    subst (λ (l : List ℕ). Gives owes left a d l) (append-nil text)
    (gives_then owes owes' left a c d text []
    (gives_then owes false owes' a b c [] text (subst (λ (o : Bool). Gives owes o a b []) none first) part)
    last)

-- where a line ends in the first bytes of a text, it is the part of it
pub part_of_line : (text first behind line : List ℕ) (taken : ℕ) → text ≡ first ++ behind
    → EndsLine first line taken → length first ≤ 2048 → IsFirstPart text line true
part_of_line text first behind line taken split ends short =
    let parts : first ≡ (line ++ 13 ∷ []) ++ drop taken first =
    ends.split ∙ sym (append_assoc line (13 ∷ []) (drop taken first)) in
    let size : length first ≡ length line + suc (length (drop taken first)) =
    ap (λ (l : List ℕ). length l) ends.split ∙ length-append line (13 ∷ drop taken first) in
    record {
      rest = drop taken first ++ behind;
      split = split
          ∙ ap (λ (l : List ℕ). l ++ behind) parts
          ∙ append_assoc (line ++ 13 ∷ []) (drop taken first) behind;
      none = ends.no_return;
      some = let whole = length-append line (13 ∷ []) in omega (arith, whole);
      short = omega (arith, short, size);
    }
