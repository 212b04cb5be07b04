-- The heads of replies, in the words of a parser.
use Rattle.std.specs.Prelude.{ℕ, List, [], ◌∷◌, ◌++◌, Some, codes, decimal}
use Rattle.httparse.specs.Grammar.{Field, crlf, ResponseHead}
use Rattle.hd_http.specs.declared.reply.Status.{Status}
use Rattle.hd_http.specs.declared.reply.Status.TheVariants.{Ok, Accepted, BadRequest, Forbidden, NotFound, OnlyRead}
use Rattle.hd_http.specs.declared.reply.Status.TheVariants.{OnlyPosted, TooLarge, FieldsTooLarge, Unavailable}
use Rattle.hd_http.specs.declared.reply.Media.{Media}
use Rattle.hd_http.specs.Replies.{media_text}

-- a field
abbrev pub field : List ℕ → List ℕ → Field
field name value = record { name = name; raw = 32 ∷ value; end = crlf }

-- a status's number
abbrev pub digits_of : Status → List ℕ
digits_of Ok = codes "200"
digits_of Accepted = codes "202"
digits_of BadRequest = codes "400"
digits_of Forbidden = codes "403"
digits_of NotFound = codes "404"
digits_of OnlyRead = codes "405"
digits_of OnlyPosted = codes "405"
digits_of TooLarge = codes "413"
digits_of FieldsTooLarge = codes "431"
digits_of Unavailable = codes "503"

-- a status in words
abbrev pub phrase_of : Status → List ℕ
phrase_of Ok = codes "OK"
phrase_of Accepted = codes "Accepted"
phrase_of BadRequest = codes "Bad Request"
phrase_of Forbidden = codes "Forbidden"
phrase_of NotFound = codes "Not Found"
phrase_of OnlyRead = codes "Method Not Allowed"
phrase_of OnlyPosted = codes "Method Not Allowed"
phrase_of TooLarge = codes "Content Too Large"
phrase_of FieldsTooLarge = codes "Request Header Fields Too Large"
phrase_of Unavailable = codes "Service Unavailable"

-- the field that says which methods are allowed
abbrev pub allow_of : Status → List Field
allow_of OnlyRead = field (codes "Allow") (codes "GET, HEAD") ∷ []
allow_of OnlyPosted = field (codes "Allow") (codes "POST") ∷ []
allow_of _ = []

-- the field of a policy
abbrev pub policy_field : List ℕ → Field
policy_field policy = field (codes "Content-Security-Policy") policy

-- the last fields of each reply
abbrev pub fixed_fields : List Field
fixed_fields =
    field (codes "Cache-Control") (codes "no-store")
    ∷ field (codes "X-Content-Type-Options") (codes "nosniff")
    ∷ field (codes "Referrer-Policy") (codes "no-referrer")
    ∷ field (codes "Connection") (codes "close")
    ∷ []

-- the head of a reply whose body has this length
unfoldable pub head_of : List ℕ → Status → Media → ℕ → ResponseHead
head_of policy status media len = record {
  blank = [];
  minor = 1;
  digits = digits_of status;
  reason = Some (phrase_of status);
  line_end = crlf;
  fields = field (codes "Content-Type") (media_text media)
      ∷ field (codes "Content-Length") (decimal len)
      ∷ (allow_of status ++ (policy_field policy ∷ fixed_fields));
  last = crlf;
}
