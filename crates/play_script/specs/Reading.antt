-- What a line of a script says under a configuration.
use Rattle.std.specs.Prelude.{◌≡◌, ◌≤◌, ℕ, Bool, true, ◌&&◌, ◌==◌, nat_le, nat_eq, List, [], ◌∷◌, length, drop, codes, Option, Some, None, map, option_map, ⊤, if◌then◌else◌}
use Rattle.std.specs.List.{list_all, before_first, starts_with}
use Rattle.std.specs.Str.{is_utf8}
use Rattle.okws_base.specs.Names.{is_path}
use Rattle.okws_base.specs.declared.limit.TheConstants.{LONGEST_CONTENT, LONGEST_PATH}
use Rattle.okws_plan.specs.Configuration.{template_named}
use Rattle.okws_plan.specs.Lines.{LineFits, service_named, place_named}
use Rattle.okws_plan.specs.declared.configuration.Config.{Config}
use Rattle.okws_plan.specs.declared.script.Line.{Line}
use Rattle.okws_plan.specs.declared.script.Line.TheVariants as line
use Rattle.okws_plan.specs.declared.script.Method.{Method}
use Rattle.okws_plan.specs.declared.script.Place.{Place}
use Rattle.plain_text.specs.Words.{words, one_word, two_words}
use Rattle.plain_text.specs.Decimals.{number}
use Rattle.plain_text.specs.Hexadecimal.{hex_bytes}
use Rattle.http_text.specs.Target.{is_target_byte, is_question_mark, path_of}
use Rattle.play_script.specs.Lines.{script_lines, two_or_three_words}
use Rattle.play_script.specs.Directive.{directive_named, step_line, change_line, method_named}
use Rattle.play_script.specs.declared.directive.Step.{Step}
use Rattle.play_script.specs.declared.directive.Change.{Change}
use Rattle.play_script.specs.declared.directive.Directive.{Directive}
use Rattle.play_script.specs.declared.directive.Directive.TheVariants as directive
use Rattle.play_script.specs.declared.reading.LineRead.{LineRead}
use Rattle.play_script.specs.declared.reading.LineRead.TheVariants as read
use Rattle.play_script.specs.declared.rule.ScriptRule.TheVariants.{BadLine, Undeclared}

-- A line that isn't in the grammar.
abbrev pub bad_line : LineRead
bad_line = read.Broken BadLine

-- A line of the grammar whose names are declared says what it does; else a name isn't declared.
abbrev pub declared : Option Line → LineRead
declared None = read.Broken Undeclared
declared (Some line) = read.Says line

-- What may follow a target's path: nothing, or `?` and at most 1,024 bytes 33 to 126 without `#`.
abbrev pub is_query : List ℕ → Bool
is_query [] = true
is_query (b ∷ more) = (b == 63) && (nat_le (length more) LONGEST_PATH && list_all is_target_byte more)

-- What stands in a target before its first `?`, or all of it.
abbrev pub target_path : List ℕ → List ℕ
target_path target = before_first is_question_mark target

-- A target is a path and what may follow one.
abbrev pub is_target : List ℕ → Bool
is_target target = is_path (target_path target) && is_query (drop (length (target_path target)) target)

-- A directive that a service's name alone follows.
abbrev pub step_read : Config → Step → Option (List ℕ) → LineRead
step_read C step None = bad_line
step_read C step (Some service) = declared (option_map (step_line step) (service_named C service))

-- A change of a service at a column, where both are declared.
abbrev pub changed : Change → Option ℕ → Option Place → LineRead
changed change None place = declared None
changed change (Some s) None = declared None
changed change (Some s) (Some at) = declared (Some (change_line change s at))

-- A directive that the names of a service and a column follow.
abbrev pub change_read : Config → Change → Option (List ℕ × List ℕ) → LineRead
change_read C change None = bad_line
change_read C change (Some named) = changed change (service_named C named.0) (place_named C named.1)

-- A request of a method that is one, whose content is in hexadecimal digits.
abbrev pub request_of : Option Method → List ℕ → Option (List ℕ) → LineRead
request_of None target content = bad_line
request_of (Some method) target None = bad_line
request_of (Some method) target (Some content) =
    if is_target target && nat_le (length content) LONGEST_CONTENT then read.Says (line.Accept method target content) else bad_line

-- `accept`, with a method, a target and, if wanted, the content of at most 262,144 bytes.
abbrev pub accept_read : Option (List ℕ × List ℕ × List ℕ) → LineRead
accept_read None = bad_line
accept_read (Some parts) = request_of (method_named parts.0) parts.1 (hex_bytes parts.2)

-- The dialog of a request.
abbrev pub dialog_of : Option ℕ → LineRead
dialog_of None = bad_line
dialog_of (Some n) = read.Says (line.Dialog n)

-- `dialog`, with a number.
abbrev pub dialog_read : Option (List ℕ) → LineRead
dialog_read None = bad_line
dialog_read (Some word) = dialog_of (number word)

-- Bytes of a service, where it is declared.
abbrev pub bytes_of : Option (List ℕ) → Option ℕ → LineRead
bytes_of None service = bad_line
bytes_of (Some bytes) None = declared None
bytes_of (Some bytes) (Some s) = declared (Some (line.Bytes s bytes))

-- `bytes`, with a service's name and hexadecimal digits.
abbrev pub bytes_read : Config → Option (List ℕ × List ℕ) → LineRead
bytes_read C None = bad_line
bytes_read C (Some parts) = bytes_of (hex_bytes parts.1) (service_named C parts.0)

-- An edition of a template, where it is declared.
abbrev pub edition_of : Option (List ℕ) → Option ℕ → LineRead
edition_of None template = bad_line
edition_of (Some content) None = declared None
edition_of (Some content) (Some t) = declared (Some (line.Publish t content))

-- `publish`, with a template's name and hexadecimal digits.
abbrev pub publish_read : Config → Option (List ℕ × List ℕ) → LineRead
publish_read C None = bad_line
publish_read C (Some parts) = edition_of (hex_bytes parts.1) (template_named C parts.0)

-- What a directive says with the words that follow it: each has words of its own, and a word that is no directive isn't in the grammar.
abbrev pub directive_read : Config → Option Directive → List (List ℕ) → LineRead
directive_read C None parts = bad_line
directive_read C (Some (directive.Step step)) parts = step_read C step (one_word parts)
directive_read C (Some (directive.Change change)) parts = change_read C change (two_words parts)
directive_read C (Some directive.Accept) parts = accept_read (two_or_three_words parts)
directive_read C (Some directive.Dialog) parts = dialog_read (one_word parts)
directive_read C (Some directive.Bytes) parts = bytes_read C (two_words parts)
directive_read C (Some directive.Publish) parts = publish_read C (two_words parts)

-- A word that begins a comment.
abbrev pub begins_comment : List ℕ → Bool
begins_comment word = starts_with nat_eq word (codes "#")

-- The words of a line, which is a text or isn't: without a word, or where the first begins with `#`, the line is skipped; else it has to be a text.
abbrev pub words_read : Config → Bool → List (List ℕ) → LineRead
words_read C is_text [] = read.Skipped
words_read C is_text (word ∷ parts) =
    if begins_comment word then read.Skipped
    else if is_text then directive_read C (directive_named word) parts
    else bad_line

-- What a line says under a configuration; the words are held against the grammar before a name is looked up.
unfoldable pub line_of : Config → List ℕ → LineRead
line_of C line = words_read C (is_utf8 line) (words line)

-- What the lines of a script say, in order.
abbrev pub script_reads : Config → List ℕ → List LineRead
script_reads C text = map (line_of C) (script_lines text)

-- What was read names what is declared.
abbrev pub ReadFits : Config → LineRead → Type 0
ReadFits C read.Skipped = ⊤
ReadFits C (read.Broken rule) = ⊤
ReadFits C (read.Says line) = LineFits C line

-- The path of a request's target is what stands before its first `?`, and its content isn't too long.
abbrev pub LineKeeps : Line → Type 0
LineKeeps (line.Accept method target content) = (path_of target ≡ Some (target_path target)) × (length content ≤ LONGEST_CONTENT)
LineKeeps (line.Begin s) = ⊤
LineKeeps (line.Install s at) = ⊤
LineKeeps (line.Revoke s at) = ⊤
LineKeeps (line.Boot s) = ⊤
LineKeeps (line.Up s) = ⊤
LineKeeps (line.Down s) = ⊤
LineKeeps (line.Launch s) = ⊤
LineKeeps (line.Relaunch s) = ⊤
LineKeeps (line.Dialog n) = ⊤
LineKeeps (line.Bytes s bytes) = ⊤
LineKeeps (line.End s) = ⊤
LineKeeps (line.Publish t content) = ⊤

-- A request that was read has a target and content that a request may have.
abbrev pub ReadKeeps : LineRead → Type 0
ReadKeeps read.Skipped = ⊤
ReadKeeps (read.Broken rule) = ⊤
ReadKeeps (read.Says line) = LineKeeps line
