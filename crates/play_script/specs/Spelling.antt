-- The canonical text of a line.
use Rattle.std.specs.Prelude.{◌≡◌, ◌<◌, ◌≤◌, ◌^◌, ⊤, ℕ, Bool, true, false, not, ◌&&◌, ◌||◌, List, [], ◌∷◌, ◌++◌, length, map, slice_index_or, codes, decimal}
use Rattle.std.specs.List.{All, list_any, list_all, join_with_byte}
use Rattle.hex.specs.Hex.{encode_lower, IsBytes}
use Rattle.okws_base.specs.Names.{is_name}
use Rattle.okws_base.specs.Value.{same_bytes}
use Rattle.okws_base.specs.declared.limit.TheConstants.{LONGEST_CONTENT}
use Rattle.okws_plan.specs.Lines.{LineFits, service_names, proxy_names}
use Rattle.okws_plan.specs.declared.configuration.Config.{Config}
use Rattle.okws_plan.specs.declared.script.Line.{Line}
use Rattle.okws_plan.specs.declared.script.Line.TheVariants as line
use Rattle.okws_plan.specs.declared.script.Method.{Method}
use Rattle.okws_plan.specs.declared.script.Method.TheVariants as method
use Rattle.okws_plan.specs.declared.script.Place.{Place}
use Rattle.okws_plan.specs.declared.script.Place.TheVariants.{Proxy, Pubd, Oklogd}
use Rattle.play_script.specs.Reading.{is_target, line_of, script_reads}
use Rattle.play_script.specs.declared.reading.LineRead.TheVariants.{Says}

-- The name at a place of a list of names.
abbrev pub name_at : List (List ℕ) → ℕ → List ℕ
name_at names i = slice_index_or names i []

-- The word of a column.
abbrev pub place_word : Config → Place → List ℕ
place_word C (Proxy p) = name_at (proxy_names C) p
place_word C Pubd = codes "pubd"
place_word C Oklogd = codes "oklogd"

-- The word of a method.
abbrev pub method_word : Method → List ℕ
method_word method.Get = codes "GET"
method_word method.Head = codes "HEAD"
method_word method.Post = codes "POST"

-- The word of a request's content, and no word where there is none.
abbrev pub content_words : List ℕ → List (List ℕ)
content_words [] = []
content_words (b ∷ more) = encode_lower (b ∷ more) ∷ []

-- The words of a line: names as declared, bytes in lower-case hexadecimal digits, numbers without leading zeros.
abbrev pub spelled_words : Config → Line → List (List ℕ)
spelled_words C (line.Begin s) = codes "begin" ∷ name_at (service_names C) s ∷ []
spelled_words C (line.Install s at) = codes "install" ∷ name_at (service_names C) s ∷ place_word C at ∷ []
spelled_words C (line.Revoke s at) = codes "revoke" ∷ name_at (service_names C) s ∷ place_word C at ∷ []
spelled_words C (line.Boot s) = codes "boot" ∷ name_at (service_names C) s ∷ []
spelled_words C (line.Up s) = codes "up" ∷ name_at (service_names C) s ∷ []
spelled_words C (line.Down s) = codes "down" ∷ name_at (service_names C) s ∷ []
spelled_words C (line.Launch s) = codes "launch" ∷ name_at (service_names C) s ∷ []
spelled_words C (line.Relaunch s) = codes "relaunch" ∷ name_at (service_names C) s ∷ []
spelled_words C (line.Accept method target content) = codes "accept" ∷ method_word method ∷ target ∷ content_words content
spelled_words C (line.Dialog n) = codes "dialog" ∷ decimal n ∷ []
spelled_words C (line.Bytes s bytes) = codes "bytes" ∷ name_at (service_names C) s ∷ encode_lower bytes ∷ []
spelled_words C (line.End s) = codes "end" ∷ name_at (service_names C) s ∷ []
spelled_words C (line.Publish t content) = codes "publish" ∷ name_at C.templates t ∷ encode_lower content ∷ []

-- The canonical text of a line has one space between its words.
abbrev pub spelling : Config → Line → List ℕ
spelling C line = join_with_byte 32 (spelled_words C line)

-- No name stands twice.
abbrev pub is_distinct : List (List ℕ) → Bool
is_distinct [] = true
is_distinct (name ∷ more) = not (list_any (same_bytes name) more) && is_distinct more

-- A word that names a column which is no proxy's.
abbrev pub is_taken : List ℕ → Bool
is_taken word = same_bytes word (codes "pubd") || same_bytes word (codes "oklogd")

-- What is declared has names of which each is one's alone, and no proxy is called pubd or oklogd.
pub record IsNamed (C : Config) : Type 0 where
  pub services : list_all is_name (service_names C) ≡ true
  pub proxies : list_all is_name (proxy_names C) ≡ true
  pub templates : list_all is_name C.templates ≡ true
  pub services_apart : is_distinct (service_names C) ≡ true
  pub proxies_apart : is_distinct (proxy_names C) ≡ true
  pub templates_apart : is_distinct C.templates ≡ true
  pub free : list_any is_taken (proxy_names C) ≡ false

-- What a script's line can say beside names: a target and content that a request may have, a number of at most 9 digits, and at least one byte where bytes come.
abbrev pub CanBeSaid : Line → Type 0
CanBeSaid (line.Accept method target content) = (is_target target ≡ true) × (length content ≤ LONGEST_CONTENT) × IsBytes content
CanBeSaid (line.Dialog n) = n < 10 ^ 9
CanBeSaid (line.Bytes s bytes) = (0 < length bytes) × IsBytes bytes
CanBeSaid (line.Publish t content) = (0 < length content) × IsBytes content
CanBeSaid (line.Begin s) = ⊤
CanBeSaid (line.Install s at) = ⊤
CanBeSaid (line.Revoke s at) = ⊤
CanBeSaid (line.Boot s) = ⊤
CanBeSaid (line.Up s) = ⊤
CanBeSaid (line.Down s) = ⊤
CanBeSaid (line.Launch s) = ⊤
CanBeSaid (line.Relaunch s) = ⊤
CanBeSaid (line.End s) = ⊤

-- The canonical text of each line that names what is declared and can be said is read as that line.
abbrev pub SpelledLinesAreRead : Type 0
SpelledLinesAreRead = (C : Config) (line : Line) → IsNamed C → LineFits C line → CanBeSaid line → line_of C (spelling C line) ≡ Says line

-- The text of a script has the canonical text of each line, ended by LF.
abbrev pub script_text : Config → List Line → List ℕ
script_text C [] = []
script_text C (line ∷ more) = spelling C line ++ 10 ∷ script_text C more

-- The text of a script of such lines is read as these lines.
abbrev pub SpelledScriptsAreRead : Type 0
SpelledScriptsAreRead = (C : Config) (lines : List Line) → IsNamed C → All (LineFits C) lines → All CanBeSaid lines → script_reads C (script_text C lines) ≡ map Says lines
