-- The texts of responses.
use Rattle.std.specs.Prelude.{ℕ, Bool, List, [], ◌∷◌, ◌++◌, length, codes, decimal, if◌then◌else◌}
use Rattle.okws_base.specs.Value.{same_bytes}
use Rattle.http_text.specs.Status.{status_text}

-- CR LF.
abbrev pub crlf : List ℕ
crlf = 13 ∷ 10 ∷ []

-- The line `Location: L`, which stands only where L isn't empty.
abbrev pub location_line : List ℕ → List ℕ
location_line [] = []
location_line (b ∷ more) = codes "Location: " ++ (b ∷ more) ++ crlf

-- A method is `HEAD`, byte by byte.
abbrev pub is_head : List ℕ → Bool
is_head method = same_bytes method (codes "HEAD")

-- A response is the lines `HTTP/1.1 STATUS PHRASE`, `Content-Type: T`, `Location: L` where L isn't empty, `Content-Length: N`, `Connection: close` and an empty one, each ended by CR LF; then the content, which a response to HEAD leaves out while N stays.
unfoldable pub response : ℕ → List ℕ → List ℕ → List ℕ → List ℕ → List ℕ
response status content_type location content method =
    codes "HTTP/1.1 " ++ status_text status ++ crlf
    ++ codes "Content-Type: " ++ content_type ++ crlf
    ++ location_line location
    ++ codes "Content-Length: " ++ decimal (length content) ++ crlf
    ++ codes "Connection: close" ++ crlf
    ++ crlf
    ++ (if is_head method then [] else content)

-- A response that the server makes itself has type `text/plain` and the content `STATUS PHRASE` and LF.
abbrev pub own_response : ℕ → List ℕ → List ℕ
own_response status method = response status (codes "text/plain") [] (status_text status ++ 10 ∷ []) method
