-- What a line declares, as it is written.
use Rattle.std.specs.Prelude.{ℕ, Bool, true, false, if◌then◌else◌, List, [], ◌∷◌, Option, Some, None, option_map, codes}
use Rattle.okws_base.specs.Value.{same_bytes}
use Rattle.plain_text.specs.Words.{words, from_word, behind_word, one_word, two_words}
use Rattle.config_syntax.specs.Words.{two_and_text, one_and_more, two_and_more}
use Rattle.config_syntax.specs.declared.directive.Directive.{Directive}
use Rattle.config_syntax.specs.declared.directive.Directive.TheVariants as directive

-- The directive that a word is.
abbrev pub directive_of : List ℕ → Option Directive
directive_of word =
    if same_bytes word (codes "proxy") then Some directive.Proxy
    else if same_bytes word (codes "table") then Some directive.Table
    else if same_bytes word (codes "row") then Some directive.Row
    else if same_bytes word (codes "query") then Some directive.Query
    else if same_bytes word (codes "service") then Some directive.Service
    else if same_bytes word (codes "retry") then Some directive.Retry
    else if same_bytes word (codes "uri") then Some directive.Uri
    else if same_bytes word (codes "grant") then Some directive.Grant
    else if same_bytes word (codes "template") then Some directive.Template
    else if same_bytes word (codes "read") then Some directive.Read
    else if same_bytes word (codes "log") then Some directive.Log
    else None

-- A column as it is written: the words in the places of its name and its TYPE, and whether KEY stands behind them.
pub record ColumnWords : Type 0 where
  pub name : List ℕ
  pub kind : List ℕ
  pub key : Bool

-- What stands next in a list of columns: a name; the TYPE of a name; or KEY or the next name.
pub data Place : Type 0 where
  AtName : Place
  AtKind : (name : List ℕ) → Place
  AtKey : (name kind : List ℕ) → Place

-- A column before others.
abbrev pub with_column : ColumnWords → Option (List ColumnWords) → Option (List ColumnWords)
with_column column more = option_map (λ (columns : List ColumnWords). column ∷ columns) more

-- The columns that words write from a place on; none where a TYPE is missing. A word behind a TYPE that is exactly KEY marks the column, any other is the next name.
abbrev pub columns_from : Place → List (List ℕ) → Option (List ColumnWords)
columns_from AtName [] = Some []
columns_from AtName (w ∷ more) = columns_from (AtKind w) more
columns_from (AtKind name) [] = None
columns_from (AtKind name) (w ∷ more) = columns_from (AtKey name w) more
columns_from (AtKey name kind) [] = Some (record { name = name; kind = kind; key = false } ∷ [])
columns_from (AtKey name kind) (w ∷ more) =
    if same_bytes w (codes "KEY") then with_column (record { name = name; kind = kind; key = true }) (columns_from AtName more)
    else with_column (record { name = name; kind = kind; key = false }) (columns_from (AtKind w) more)

-- What a line declares. Names, numbers, paths and TYPEs are words that weren't judged yet; text is the rest of the line.
pub data Declaration : Type 0 where
  Proxy : (name : List ℕ) → Declaration
  Table : (proxy name : List ℕ) (columns : List ColumnWords) → Declaration
  Row : (proxy table text : List ℕ) → Declaration
  Query : (proxy number text : List ℕ) → Declaration
  Service : (name : List ℕ) (words : List (List ℕ)) → Declaration
  Retry : (number : List ℕ) → Declaration
  Uri : (path service : List ℕ) → Declaration
  Grant : (service proxy : List ℕ) (numbers : List (List ℕ)) → Declaration
  Template : (name : List ℕ) → Declaration
  Read : (service template : List ℕ) → Declaration
  Log : (service : List ℕ) → Declaration

-- Two words and the columns that those behind them write.
pub record TableWords : Type 0 where
  pub proxy : List ℕ
  pub name : List ℕ
  pub columns : List ColumnWords

-- A table has at least one column.
abbrev pub table_words_of : List ℕ → List ℕ → Option (List ColumnWords) → Option TableWords
table_words_of proxy name (Some (column ∷ more)) = Some (record { proxy = proxy; name = name; columns = column ∷ more })
table_words_of proxy name _ = None

-- What the words of a `table` line behind its directive write; none where one is missing.
abbrev pub table_words : List (List ℕ) → Option TableWords
table_words (a ∷ b ∷ more) = table_words_of a b (columns_from AtName more)
table_words _ = None

-- What stands behind the first two words, from its first word on.
abbrev pub text_behind : List ℕ → List ℕ
text_behind rest = from_word (behind_word (behind_word rest))

-- What a directive and the bytes behind it declare; none where there are too few or too many words.
abbrev pub declaration_of : Directive → List ℕ → Option Declaration
declaration_of directive.Proxy rest = option_map Proxy (one_word (words rest))
declaration_of directive.Table rest = option_map (λ (w : TableWords). Table w.proxy w.name w.columns) (table_words (words rest))
declaration_of directive.Row rest = option_map (λ (w : List ℕ × List ℕ × List ℕ). Row w.0 w.1 w.2) (two_and_text (words rest) (text_behind rest))
declaration_of directive.Query rest = option_map (λ (w : List ℕ × List ℕ × List ℕ). Query w.0 w.1 w.2) (two_and_text (words rest) (text_behind rest))
declaration_of directive.Service rest = option_map (λ (w : List ℕ × List (List ℕ)). Service w.0 w.1) (one_and_more (words rest))
declaration_of directive.Retry rest = option_map Retry (one_word (words rest))
declaration_of directive.Uri rest = option_map (λ (w : List ℕ × List ℕ). Uri w.0 w.1) (two_words (words rest))
declaration_of directive.Grant rest = option_map (λ (w : List ℕ × List ℕ × List (List ℕ)). Grant w.0 w.1 w.2) (two_and_more (words rest))
declaration_of directive.Template rest = option_map Template (one_word (words rest))
declaration_of directive.Read rest = option_map (λ (w : List ℕ × List ℕ). Read w.0 w.1) (two_words (words rest))
declaration_of directive.Log rest = option_map Log (one_word (words rest))
