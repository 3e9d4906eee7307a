-- The bytes of a response (RFC 9112, sections 4 and 6).
use Rattle.std.specs.Prelude.{ℕ, Bool, true, false, List, [], ◌∷◌, ◌++◌, length, decimal, codes, unwrap_or}
use Rattle.std.specs.Prelude.{◌==◌}
use Rattle.std.specs.List.{list_any}
use Rattle.http.specs.StatusCode.{reason_phrase}

-- The statuses of the answers.
abbrev pub is_answered : ℕ → Bool
is_answered status = list_any (λ known. status == known)
    (200 ∷ 400 ∷ 404 ∷ 405 ∷ 409 ∷ 411 ∷ 413 ∷ 431 ∷ 501 ∷ 503 ∷ 507 ∷ [])

-- The phrase of a status, as RFC 9110 gives it.
unfoldable pub phrase : ℕ → List ℕ
phrase status = unwrap_or (reason_phrase status) []

-- The field that says that the link closes.
abbrev pub close_field : Bool → List ℕ
close_field true = codes "Connection: close\r\n"
close_field false = []

-- The head of a response of this status, with its phrase, the size of its body, and the field about the link; an empty
-- line ends it.
abbrev pub head_of : ℕ → List ℕ → ℕ → List ℕ → List ℕ
head_of status phrase size field =
    codes "HTTP/1.1 " ++ (decimal status ++ (codes " " ++ (phrase
    ++ (codes "\r\nContent-Type: application/json\r\nContent-Length: " ++ (decimal size
    ++ (codes "\r\n" ++ (field ++ codes "\r\n")))))))

-- A response: its head and its body.
abbrev pub response : ℕ → List ℕ → Bool → List ℕ
response status body close = head_of status (phrase status) (length body) (close_field close) ++ body

-- The body of the answer to a request that is refused.
abbrev pub refusal : ℕ → List ℕ
refusal status = codes "{\"status\":" ++ (decimal status ++ codes "}")
