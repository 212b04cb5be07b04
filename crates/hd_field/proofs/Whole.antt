-- The lines of a whole text are its parts.
use Rattle.std.proofs.Common.{◌≡◌, ◌==◌, ℕ, Bool, true, false, List, [], ◌∷◌, ◌++◌, length, map, nat_lt, ap}
use Rattle.std.proofs.Common.{ap₂, sym, ◌∙◌, append_assoc}
use Rattle.std.proofs.Common.{append-nil, if◌then◌else◌, true≢false}
use Rattle.hd_field.specs.Streams.{Begun, Parts, begun_after, after_return, lines_in, stream_start, parts_of}
use Rattle.hd_field.specs.Streams.{with_byte, without_feeds, cut}
use Rattle.hd_field.proofs.Cutting.{begun_so, nothing_after}

-- what a part adds to a line that has begun
abbrev pub added : Bool → List ℕ → List ℕ
added true part = without_feeds part
added false part = part

-- a line that has begun, with the parts behind it
abbrev pub joined : Bool → List ℕ → Parts → List (List ℕ)
joined fresh text parts = (text ++ added fresh parts.first) ∷ map without_feeds parts.behind

-- what is heard of some bytes, and what has begun then
abbrev pub heard : Begun → List ℕ → List (List ℕ)
heard begun bytes = lines_in begun bytes ++ (begun_after begun bytes).text ∷ []

-- a byte more of a line, where it isn't too long
pub one_byte : (text bytes : List ℕ) (byte : ℕ) (parts : Parts)
    → ((t : List ℕ) → (begun_after (begun_so false t false) bytes).too_long ≡ false
    → joined false t parts ≡ heard (begun_so false t false) bytes) → (b : Bool) → (begun_after
    (if b then begun_so false (text ++ byte ∷ []) false else begun_so false text true) bytes).too_long ≡ false
    → (text ++ byte ∷ parts.first) ∷ map without_feeds parts.behind
    ≡ heard (if b then begun_so false (text ++ byte ∷ []) false
    else begun_so false text true) bytes
one_byte text bytes byte parts rest true short =
    ap (λ (t : List ℕ). t ∷ map without_feeds parts.behind) (sym (append_assoc text (byte ∷ []) parts.first))
    ∙ rest (text ++ byte ∷ []) short
one_byte text bytes byte parts rest false short =
    absurd (true≢false (sym (ap (λ (b : Begun). b.too_long) (nothing_after false text bytes)) ∙ short))

pub parts_heard : (fresh : Bool) (text bytes : List ℕ)
    → (begun_after (begun_so fresh text false) bytes).too_long ≡ false
    → joined fresh text (parts_of bytes) ≡ heard (begun_so fresh text false) bytes
parts_heard true text [] short = ap (λ (t : List ℕ). t ∷ []) (append-nil text)
parts_heard false text [] short = ap (λ (t : List ℕ). t ∷ []) (append-nil text)
parts_heard false text (byte ∷ bytes) short =
    elim (byte == 13) as
    (λ t. (if t then begun_after after_return bytes else begun_after
    (with_byte (begun_so false text false) byte) bytes).too_long ≡ false
    → joined false text
    (if t then record { first = []; behind = (parts_of bytes).first ∷ (parts_of bytes).behind }
    else record { first = byte ∷ (parts_of bytes).first; behind = (parts_of bytes).behind })
    ≡ (if t then text ∷ lines_in after_return bytes else lines_in
    (with_byte (begun_so false text false) byte) bytes)
    ++ (if t then begun_after after_return bytes else begun_after
    (with_byte (begun_so false text false) byte) bytes).text ∷ []) [
      | true ↦ λ s. ap₂ (λ (t : List ℕ) (ls : List (List ℕ)). t ∷ ls) (append-nil text)
          (parts_heard true [] bytes s)
      | false ↦ λ s. one_byte text bytes byte (parts_of bytes) (λ t. parts_heard false t bytes)
          (nat_lt (length text) 1024) s
    ] short
parts_heard true text (byte ∷ bytes) short =
    elim (byte == 13) as
    (λ t. (if t then begun_after after_return bytes else begun_after
    (with_byte (begun_so true text false) byte) bytes).too_long ≡ false
    → joined true text
    (if t then record { first = []; behind = (parts_of bytes).first ∷ (parts_of bytes).behind }
    else record { first = byte ∷ (parts_of bytes).first; behind = (parts_of bytes).behind })
    ≡ (if t then text ∷ lines_in after_return bytes else lines_in
    (with_byte (begun_so true text false) byte) bytes)
    ++ (if t then begun_after after_return bytes else begun_after
    (with_byte (begun_so true text false) byte) bytes).text ∷ []) [
      | true ↦ λ s. ap₂ (λ (t : List ℕ) (ls : List (List ℕ)). t ∷ ls) (append-nil text)
          (parts_heard true [] bytes s)
      | false ↦
          elim (byte == 10) as
          (λ f. (begun_after (if f then begun_so true text false
          else (if nat_lt (length text) 1024 then begun_so false
          (text ++ byte ∷ []) false else begun_so false text true))
          bytes).too_long ≡ false
          → (text ++ (if f then without_feeds (parts_of bytes).first else byte ∷ (parts_of bytes).first))
          ∷ map without_feeds (parts_of bytes).behind
          ≡ heard (if f then begun_so true text false
          else (if nat_lt (length text) 1024 then begun_so false
          (text ++ byte ∷ []) false else begun_so false text true)) bytes) [
            | true ↦ λ s. parts_heard true text bytes s
            | false ↦ λ s. one_byte text bytes byte (parts_of bytes) (λ t. parts_heard false t bytes)
                (nat_lt (length text) 1024) s
          ]
    ] short

pub whole_text : (text : List ℕ) → (begun_after stream_start text).too_long ≡ false
    → cut text ≡ lines_in stream_start text ++ (begun_after stream_start text).text ∷ []
whole_text text short = parts_heard false [] text short
