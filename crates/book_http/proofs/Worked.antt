-- Worked rows of the definitions.
use Rattle.std.proofs.Common.{◌≡◌, true, false, [], ◌∷◌, None, Some, refl, codes}
use Rattle.httparse.specs.Grammar.{crlf, lf, print_request}
use Rattle.book_commodity.specs.Rules.{first_broken}
use Rattle.book_http.specs.declared.fields.BodyLength.TheVariants.{Absent, Given, Broken}
use Rattle.book_http.specs.declared.route.Route.TheVariants.{Command, Status, Trial, Income}
use Rattle.book_http.specs.Route.{target_of, is_parameter}
use Rattle.book_http.specs.Fields.{said, is_length}
use Rattle.book_http.specs.Head.{field_refusals, route_refusals}

-- the target of a route with two parameters
income : target_of (Income (codes "2024-01-01") (codes "2024-12-31")) ≡ codes "/income/2024-01-01/2024-12-31"
income = refl

-- a parameter is not empty and has no slash and no question mark
empty : is_parameter [] ≡ false
empty = refl

slash : is_parameter (codes "7/8") ≡ false
slash = refl

question : is_parameter (codes "7?a=b") ≡ false
question = refl

day : is_parameter (codes "2024-13-01") ≡ true
day = refl

-- fields without a length
plain : said ((codes "Host", codes "a") ∷ []) ≡ record { encoded = false; length = Absent; close = false }
plain = refl

-- names are compared without regard to case
closing : said ((codes "CONTENT-length", codes "12") ∷ (codes "connection", codes "Close") ∷ [])
    ≡ record { encoded = false; length = Given 12; close = true }
closing = refl

-- a list of connection options is not the word alone
listed :
    said ((codes "Connection", codes "keep-alive, close") ∷ []) ≡ record { encoded = false; length = Absent; close = false }
listed = refl

-- two lengths are broken, also where they are the same
twice : said ((codes "Content-Length", codes "5") ∷ (codes "Content-Length", codes "5") ∷ [])
    ≡ record { encoded = false; length = Broken; close = false }
twice = refl

-- a sign is no digit, and 19 digits are too many
signed : is_length (codes "+5") ≡ false
signed = refl

eighteen : is_length (codes "000000000000000005") ≡ true
eighteen = refl

nineteen : is_length (codes "0000000000000000005") ≡ false
nineteen = refl

-- an encoding comes before a broken length, and too many fields before both
encoded : first_broken (field_refusals 64 (record { encoded = true; length = Broken; close = false })) ≡ Some 501
encoded = refl

many : first_broken (field_refusals 65 (record { encoded = true; length = Broken; close = false })) ≡ Some 431
many = refl

-- 8 MiB are taken, and one byte more is not
most : first_broken (field_refusals 1 (record { encoded = false; length = Given 8388608; close = false })) ≡ None
most = refl

more : first_broken (field_refusals 1 (record { encoded = false; length = Given 8388609; close = false })) ≡ Some 413
more = refl

-- the method comes before the length, and is compared with regard to case
method : first_broken (route_refusals (codes "POST") Absent (Some Status)) ≡ Some 405
method = refl

lower : first_broken (route_refusals (codes "post") (Given 2) (Some Command)) ≡ Some 405
lower = refl

lengthless : first_broken (route_refusals (codes "POST") Absent (Some Command)) ≡ Some 411
lengthless = refl

get : first_broken (route_refusals (codes "GET") Absent (Some (Trial (codes "2024-01-01")))) ≡ None
get = refl

-- a head, with an empty line in front
head : print_request (record {
  blank = crlf ∷ [];
  method = codes "GET";
  target = codes "/status";
  minor = 1;
  line_end = crlf;
  fields = record { name = codes "Host"; raw = codes " a"; end = lf } ∷ [];
  last = crlf;
}) ≡ codes "\r\nGET /status HTTP/1.1\r\nHost: a\n\r\n"
unfolding print_request
head = refl
