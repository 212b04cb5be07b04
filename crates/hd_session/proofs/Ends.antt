-- A reply that is closed at the end of what is written.
use Rattle.std.proofs.Common.{◌≡◌, ℕ, Bool, Option, List, [], ◌∷◌, ◌++◌, take, drop, length, sym, ap, refl}
use Rattle.std.proofs.Common.{◌∙◌, append_assoc}
use Rattle.std.proofs.Math.Seq.{take-append_seam, drop-append_seam}
use Rattle.hd_exchange.specs.declared.reply_kind.ReplyKind.{ReplyKind}
use Rattle.hd_session.specs.Trailers.{last_after, text_said}
use Rattle.std.proofs.lemmas.List.{take-append-drop}

-- by a trailer and a carriage return
pub sealed_so : (n : ℕ) (text trailer : List ℕ) → (text ++ trailer) ++ 13 ∷ []
    ≡ take n text ++ ((drop n text ++ trailer) ++ 13 ∷ [])
sealed_so n text trailer =
    ap (λ (t : List ℕ). (t ++ trailer) ++ 13 ∷ []) (sym (take-append-drop n text))
    ∙ (ap (λ (t : List ℕ). t ++ 13 ∷ []) (append_assoc (take n text) (drop n text) trailer)
    ∙ append_assoc (take n text) (drop n text ++ trailer) (13 ∷ []))

-- what is written of a reply that stands behind other text
pub finished : (out reply all last kept : List ℕ) (from : ℕ) (checked : Bool) (digit : Option ℕ)
    (says : ReplyKind) → all ≡ out ++ reply
    → from ≡ length out → kept ≡ last
    → take from all ++ text_said kept checked digit says (drop from all)
    ≡ out ++ text_said last checked digit says reply
finished out reply all last kept from checked digit says whole start same =
    rw (whole, start, same, take-append_seam, drop-append_seam) refl

-- and what is kept of it
pub kept_so : (out reply all last kept : List ℕ) (from : ℕ) (checked : Bool) (digit : Option ℕ)
    (says : ReplyKind) → all ≡ out ++ reply
    → from ≡ length out → kept ≡ last
    → last_after kept checked digit says (drop from all) ≡ last_after last checked digit says reply
kept_so out reply all last kept from checked digit says whole start same =
    rw (whole, start, same, drop-append_seam) refl
