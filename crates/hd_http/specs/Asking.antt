-- What a request's head asks for.
use Rattle.std.specs.Prelude.{ℕ, Bool, not, ◌&&◌, ◌||◌, List, Option, Some, None, codes, if◌then◌else◌}
use Rattle.std.specs.List.{list_any}
use Rattle.std.specs.Str.{bytes_eq, str_eq_ignore_ascii_case}
use Rattle.hd_http.specs.declared.asking.Told.{Told}
use Rattle.hd_http.specs.declared.reply.Method.{Method}
use Rattle.hd_http.specs.declared.reply.Method.TheVariants.{Get, Head}
use Rattle.hd_http.specs.declared.reply.Status.{Status}
use Rattle.hd_http.specs.declared.reply.Status.TheVariants.{Forbidden, OnlyRead, OnlyPosted, TooLarge}

-- a target is that of a stop
abbrev pub is_stop : List ℕ → Bool
is_stop target = bytes_eq target (codes "/stop")

-- whether the reply's body is sent
abbrev pub method_of : List ℕ → Method
method_of method = if bytes_eq method (codes "HEAD") then Head else Get

-- how a method is refused that isn't allowed: a stop is posted, and all else is read
abbrev pub refused_method : Bool → List ℕ → Option Status
refused_method stop method =
    if stop then (if bytes_eq method (codes "POST") then None else Some OnlyPosted)
    else if bytes_eq method (codes "GET") || bytes_eq method (codes "HEAD") then None
    else Some OnlyRead

-- the field has this name, whatever the case of its letters
unfoldable pub is_called : List ℕ → List ℕ → Bool
is_called name called = str_eq_ignore_ascii_case called name

-- a field that says that a body follows
abbrev pub tells_body : List ℕ × List ℕ → Bool
tells_body field =
    is_called (codes "transfer-encoding") field.0
    || (is_called (codes "content-length") field.0 && not (bytes_eq field.1 (codes "0")))

-- a field by which a browser says which page asks, as no other client does
abbrev pub is_page_name : List ℕ → Bool
is_page_name name = is_called (codes "origin") name || is_called (codes "sec-fetch-site") name

abbrev pub tells_page : List ℕ × List ℕ → Bool
tells_page field = is_page_name field.0

-- what the fields of a request tell
abbrev pub told_by : List (List ℕ × List ℕ) → Told
told_by fields = record { has_body = list_any tells_body fields; is_of_page = list_any tells_page fields }

-- how a request is refused whose method is allowed: with a body, and where a page asks for a stop
abbrev pub refused_fields : Bool → Told → Option Status
refused_fields stop told =
    if told.has_body then Some TooLarge
    else if stop && told.is_of_page then Some Forbidden
    else None
