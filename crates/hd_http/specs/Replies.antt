-- Replies, and their texts.
use Rattle.std.specs.Prelude.{ℕ, List, [], ◌++◌, codes, decimal, length}
use Rattle.hd_http.specs.declared.reply.Status.{Status}
use Rattle.hd_http.specs.declared.reply.Status.TheVariants.{Ok, Accepted, BadRequest, Forbidden, NotFound, OnlyRead}
use Rattle.hd_http.specs.declared.reply.Status.TheVariants.{OnlyPosted, TooLarge, FieldsTooLarge, Unavailable}
use Rattle.hd_http.specs.declared.reply.Media.{Media}
use Rattle.hd_http.specs.declared.reply.Media.TheVariants.{Html, Json, Metrics, Plain}
use Rattle.hd_http.specs.declared.reply.Method.{Method}
use Rattle.hd_http.specs.declared.reply.Method.TheVariants.{Get, Head}
use Rattle.hd_http.specs.declared.reply.TheConstants.{FIXED}

-- the number and the phrase
abbrev pub status_text : Status → List ℕ
status_text Ok = codes "200 OK"
status_text Accepted = codes "202 Accepted"
status_text BadRequest = codes "400 Bad Request"
status_text Forbidden = codes "403 Forbidden"
status_text NotFound = codes "404 Not Found"
status_text OnlyRead = codes "405 Method Not Allowed"
status_text OnlyPosted = codes "405 Method Not Allowed"
status_text TooLarge = codes "413 Content Too Large"
status_text FieldsTooLarge = codes "431 Request Header Fields Too Large"
status_text Unavailable = codes "503 Service Unavailable"

-- the field that says which methods are allowed, where another came
abbrev pub allow_text : Status → List ℕ
allow_text OnlyRead = codes "Allow: GET, HEAD\r\n"
allow_text OnlyPosted = codes "Allow: POST\r\n"
allow_text _ = []

-- the type
abbrev pub media_text : Media → List ℕ
media_text Html = codes "text/html; charset=utf-8"
media_text Json = codes "application/json"
media_text Metrics = codes "text/plain; version=0.0.4; charset=utf-8"
media_text Plain = codes "text/plain; charset=utf-8"

-- the text up to the length
unfoldable pub start_text : Status → Media → List ℕ
start_text status media =
    codes "HTTP/1.1 " ++ status_text status ++ codes "\r\nContent-Type: " ++ media_text media

-- the length of the body
unfoldable pub length_text : ℕ → List ℕ
length_text len = codes "\r\nContent-Length: " ++ decimal len ++ codes "\r\n"

-- the policy
unfoldable pub policy_text : List ℕ → List ℕ
policy_text policy = codes "Content-Security-Policy: " ++ policy ++ codes "\r\n"

-- the length of the body, and the fields behind it
unfoldable pub fields_text : List ℕ → Status → ℕ → List ℕ
fields_text policy status len = length_text len ++ allow_text status ++ policy_text policy ++ FIXED.now

-- the body, if it is sent
abbrev pub sent_of : Method → List ℕ → List ℕ
sent_of Get body = body
sent_of Head body = []

-- the text of a reply, under a policy
unfoldable pub reply_text : List ℕ → Method → Status → Media → List ℕ → List ℕ
reply_text policy method status media body =
    start_text status media ++ fields_text policy status (length body) ++ sent_of method body

-- what is answered
pub record Answer : Type 0 where
  pub status : Status
  pub media : Media
  pub body : List ℕ

-- some words and a line feed
abbrev pub words : Status → List ℕ → Answer
words status text = record { status = status; media = Plain; body = text ++ codes "\n" }

-- a refusal: its status in words
abbrev pub refusal : Status → Answer
refusal status = words status (status_text status)

-- what can't be shown now, and why
abbrev pub unavailable : List ℕ → Answer
unavailable why = words Unavailable why
