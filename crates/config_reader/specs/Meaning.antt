-- What a configuration file means.
use Rattle.std.specs.Prelude.{ℕ, ◌+◌, Bool, false, ◌&&◌, ◌==◌, not, nat_lt, if◌then◌else◌, List, [], ◌∷◌, length, Option, Some, None, Result, Ok, Err, codes}
use Rattle.okws_base.specs.Value.{same_bytes}
use Rattle.okws_base.specs.declared.limit.TheConstants.{LONGEST_CONFIGURATION, LONGEST_LINE}
use Rattle.okws_plan.specs.declared.configuration.Config.{Config}
use Rattle.plain_text.specs.Words.{words, behind_word}
use Rattle.config_reader.specs.Above.{Above, nothing_above}
use Rattle.config_syntax.specs.Declarations.{directive_of, declaration_of}
use Rattle.config_reader.specs.After.{declared_if}
use Rattle.std.specs.Str.Lines.{lines}
use Rattle.config_syntax.specs.Words.{is_text_line}
use Rattle.config_syntax.specs.declared.directive.Directive.{Directive}
use Rattle.config_reader.specs.declared.error.ConfigRule.{ConfigRule}
use Rattle.config_reader.specs.declared.error.ConfigRule.TheVariants as rule
use Rattle.config_reader.specs.declared.error.Refusal.{Refusal}

-- A word begins a comment with `#`.
abbrev pub begins_comment : List ℕ → Bool
begins_comment [] = false
begins_comment (b ∷ more) = b == 35

-- The words are the first line's: `okws` and `1`.
abbrev pub are_first_words : List (List ℕ) → Bool
are_first_words (a ∷ b ∷ []) = same_bytes a (codes "okws") && same_bytes b (codes "1")
are_first_words _ = false

-- A directive and the bytes behind it.
abbrev pub directive_judged : Above → Option Directive → List ℕ → Result Above ConfigRule
directive_judged above None rest = Err rule.UnknownDirective
directive_judged above (Some found) rest = declared_if above (declaration_of found rest)

-- A line that isn't skipped, by its first word: the lowest rule that it breaks, or what the lines declare with it.
abbrev pub word_judged : Above → List ℕ → List ℕ → Result Above ConfigRule
word_judged above word line =
    if nat_lt LONGEST_LINE (length line) then Err rule.LineTooLong
    else if not (is_text_line line) then Err rule.BadBytes
    else directive_judged above (directive_of word) (behind_word line)

-- A line without a word, or whose first word begins a comment, is skipped; else it is judged.
abbrev pub words_judged : Above → List (List ℕ) → List ℕ → Result Above ConfigRule
words_judged above [] line = Ok above
words_judged above (word ∷ more) line = if begins_comment word then Ok above else word_judged above word line

-- The same by the line alone.
abbrev pub line_judged : Above → List ℕ → Result Above ConfigRule
line_judged above line = words_judged above (words line) line

-- The first line is the words `okws` and `1`, and not too long.
abbrev pub first_judged : List ℕ → Result Above ConfigRule
first_judged line =
    if not (are_first_words (words line)) then Err rule.FirstLine
    else if nat_lt LONGEST_LINE (length line) then Err rule.LineTooLong
    else Ok nothing_above

-- The line with number n, and what follows where it breaks no rule.
abbrev pub numbered : ℕ → Result Above ConfigRule → (Above → Result Config Refusal) → Result Config Refusal
numbered n (Ok above) more = more above
numbered n (Err rule) more = Err (record { line = n; rule = rule })

-- What lines from number n on give below others: the configuration, or the first broken line and the lowest rule that it breaks.
abbrev pub read_from : ℕ → Above → List (List ℕ) → Result Config Refusal
read_from n above [] = Ok above.config
read_from n above (line ∷ more) = numbered n (line_judged above line) (λ now. read_from (n + 1) now more)

-- What lines give.
abbrev pub read_lines : List (List ℕ) → Result Config Refusal
read_lines [] = Err (record { line = 1; rule = rule.FirstLine })
read_lines (line ∷ more) = numbered 1 (first_judged line) (λ above. read_from 2 above more)

-- What a file means: a configuration, or a refusal. A file that is too long is refused as line 0.
abbrev pub meaning : List ℕ → Result Config Refusal
meaning bytes =
    if nat_lt LONGEST_CONFIGURATION (length bytes) then Err (record { line = 0; rule = rule.TooMany })
    else read_lines (lines bytes)
