-- A reply's text is its head's, and what is sent of the body.
use Rattle.std.proofs.Common.{◌≡◌, ℕ, List, ◌∷◌, ◌++◌, length, refl, append_assoc, codes, decimal}
use Rattle.std.specs.List.{flat_map}
use Rattle.std.proofs.lemmas.Grind.{flat_map-append}
use Rattle.httparse.specs.Ascii.{crlf_bytes}
use Rattle.httparse.specs.Grammar.{print_field, print_response}
use Rattle.hd_http.specs.declared.reply.Status.{Status}
use Rattle.hd_http.specs.declared.reply.Status.TheVariants.{Ok, Accepted, BadRequest, Forbidden, NotFound, OnlyRead}
use Rattle.hd_http.specs.declared.reply.Status.TheVariants.{OnlyPosted, TooLarge, FieldsTooLarge, Unavailable}
use Rattle.hd_http.specs.declared.reply.Media.{Media}
use Rattle.hd_http.specs.declared.reply.Method.{Method}
use Rattle.hd_http.specs.declared.reply.TheConstants.{FIXED}
use Rattle.hd_http.specs.Replies.{status_text, media_text, allow_text, sent_of, reply_text}
use Rattle.hd_http.specs.Replies.{start_text, fields_text, length_text, policy_text}
use Rattle.hd_http.specs.Heads.{digits_of, phrase_of, allow_of, policy_field, fixed_fields, head_of}

status_parts : (s : Status) → status_text s ≡ digits_of s ++ 32 ∷ phrase_of s
status_parts Ok = refl
status_parts Accepted = refl
status_parts BadRequest = refl
status_parts Forbidden = refl
status_parts NotFound = refl
status_parts OnlyRead = refl
status_parts OnlyPosted = refl
status_parts TooLarge = refl
status_parts FieldsTooLarge = refl
status_parts Unavailable = refl

allow_parts : (s : Status) → allow_text s ≡ flat_map print_field (allow_of s)
allow_parts Ok = refl
allow_parts Accepted = refl
allow_parts BadRequest = refl
allow_parts Forbidden = refl
allow_parts NotFound = refl
allow_parts OnlyRead = refl
allow_parts OnlyPosted = refl
allow_parts TooLarge = refl
allow_parts FieldsTooLarge = refl
allow_parts Unavailable = refl

fixed_parts : FIXED.now ≡ flat_map print_field fixed_fields ++ crlf_bytes
fixed_parts = refl

-- the pieces, written one behind the other, are the head's lines and then the rest
pieces : (h d q c₁ t₁ m c₂ t₂ n e a c₃ t₃ p fs rest : List ℕ) → c₁ ≡ e ++ t₁ → c₂ ≡ e ++ t₂ → c₃ ≡ t₃
    → ((h ++ (d ++ q) ++ c₁ ++ m) ++ ((c₂ ++ n ++ e) ++ a ++ (c₃ ++ p ++ e) ++ (fs ++ e)) ++ rest)
    ≡ (h ++ d ++ q ++ e ++ ((t₁ ++ m ++ e) ++ ((t₂ ++ n ++ e) ++ (a ++ ((t₃ ++ p ++ e) ++ fs))) ++ e)) ++ rest
pieces h d q c₁ t₁ m c₂ t₂ n e a c₃ t₃ p fs rest first second third =
    rw (first, second, third) (simp append_assoc)

-- the text is the head's, and what is sent
pub whole_text : (policy : List ℕ) (method : Method) (status : Status) (media : Media) (body : List ℕ)
    → reply_text policy method status media body
    ≡ print_response (head_of policy status media (length body)) ++ sent_of method body
unfolding reply_text start_text fields_text length_text policy_text head_of print_response
whole_text policy method status media body =
    rw (
      status_parts status,
      allow_parts status,
      fixed_parts,
      flat_map-append print_field (allow_of status) (policy_field policy ∷ fixed_fields),
    )
    (pieces (codes "HTTP/1.1 ") (digits_of status) (32 ∷ phrase_of status) (codes "\r\nContent-Type: ")
    (codes "Content-Type: ") (media_text media) (codes "\r\nContent-Length: ") (codes "Content-Length: ")
    (decimal (length body)) crlf_bytes (flat_map print_field (allow_of status))
    (codes "Content-Security-Policy: ") (codes "Content-Security-Policy: ") policy
    (flat_map print_field fixed_fields) (sent_of method body) refl refl refl)
