-- Templates that came, of which the last edition is kept.
use Rattle.std.specs.Prelude.{◌≡◌, ◌<◌, ℕ, true, length, take, slice_index_or, List, [], ◌∷◌, Option, Some, None, option_map, if◌then◌else◌}
use Rattle.okws_base.specs.Value.{same_bytes}
use Rattle.frame_codec.specs.declared.frame.ServerFrame.{ServerFrame}
use Rattle.frame_codec.specs.declared.frame.ServerFrame.TheVariants.{Boot, Request, Push, Opened, Rows, Changed, Template, Logged, Denied, Failed, NoMemory, Duplicate}
use Rattle.svc_kit.specs.declared.pages.Page.{Page}
use Rattle.svc_kit.specs.declared.pages.Pages.{Pages}

-- The edition and the text of a template's page.
abbrev pub page_in : List Page → List ℕ → Option (ℕ × List ℕ)
page_in [] name = None
page_in (page ∷ more) name = if same_bytes page.name name then Some (page.edition, page.content) else page_in more name

-- A template with its edition and its text, as a frame tells them. A Template doesn't tell the name: it is of the template that was asked for.
abbrev pub told : Option (List ℕ) → ServerFrame → Option (List ℕ × (ℕ × List ℕ))
told asked (Push template edition content) = Some (template, (edition, content))
told asked (Template edition content) = option_map (λ name. (name, (edition, content))) asked
told asked (Boot service incarnation tokens) = None
told asked (Request head content) = None
told asked (Opened session) = None
told asked (Rows columns rows) = None
told asked (Changed count) = None
told asked Logged = None
told asked (Denied rule) = None
told asked Failed = None
told asked NoMemory = None
told asked Duplicate = None

-- What is kept of a template once this came: what came, if it is of the template, and else what was kept.
abbrev pub kept : Option (List ℕ × (ℕ × List ℕ)) → (List ℕ → Option (ℕ × List ℕ)) → List ℕ → Option (ℕ × List ℕ)
kept None before name = before name
kept (Some came) before name = if same_bytes came.0 name then Some came.1 else before name

-- What came is kept, and all that is kept of other templates stays.
abbrev pub Keeps : Option (List ℕ × (ℕ × List ℕ)) → (List ℕ → Option (ℕ × List ℕ)) → (List ℕ → Option (ℕ × List ℕ)) → Type 0
Keeps came old new = (name : List ℕ) → new name ≡ kept came old name

-- The edition and the text that are kept of a template.
abbrev pub page_of : Pages → List ℕ → Option (ℕ × List ℕ)
page_of pages name = page_in pages.pages.items name

-- No page before this place is of the template, and the page there is.
abbrev pub IsPlace : List Page → List ℕ → ℕ → Type 0
IsPlace pages name i = (i < length pages) × (page_in (take i pages) name ≡ None) × ((other : Page) → same_bytes (slice_index_or pages i other).name name ≡ true)
