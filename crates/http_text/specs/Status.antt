-- The statuses that the server writes, and their phrases.
use Rattle.std.specs.Prelude.{ℕ, List, [], ◌∷◌, ◌++◌, Option, Some, None, codes, decimal, if◌then◌else◌, ◌==◌}

-- The phrase of each status that the server writes.
abbrev pub phrase : ℕ → Option (List ℕ)
phrase status =
    if status == 200 then Some (codes "OK")
    else if status == 201 then Some (codes "Created")
    else if status == 303 then Some (codes "See Other")
    else if status == 400 then Some (codes "Bad Request")
    else if status == 403 then Some (codes "Forbidden")
    else if status == 404 then Some (codes "Not Found")
    else if status == 409 then Some (codes "Conflict")
    else if status == 413 then Some (codes "Content Too Large")
    else if status == 431 then Some (codes "Request Header Fields Too Large")
    else if status == 500 then Some (codes "Internal Server Error")
    else if status == 501 then Some (codes "Not Implemented")
    else if status == 502 then Some (codes "Bad Gateway")
    else if status == 503 then Some (codes "Service Unavailable")
    else if status == 507 then Some (codes "Insufficient Storage")
    else None

-- A phrase's text; a status that has none gets an empty one.
abbrev pub phrase_text : Option (List ℕ) → List ℕ
phrase_text None = []
phrase_text (Some text) = text

-- `STATUS PHRASE`.
unfoldable pub status_text : ℕ → List ℕ
status_text status = decimal status ++ 32 ∷ phrase_text (phrase status)
