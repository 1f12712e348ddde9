use Rattle.std.proofs.Common.{◌≡◌, ℕ, ◌+◌, ◌*◌, ◌≤◌, Bool, true, false, ◌&&◌, ◌==◌, nat_le, map, subst, List, [], ◌∷◌, Option, Some, None, option_map, length, drop, refl, arith, length-drop}
use Rattle.std.specs.Prelude.{if◌then◌else◌}
use Rattle.std.specs.Str.{is_utf8}
use Rattle.std.proofs.lemmas.Bool.{leb-true}
use Rattle.okws_base.specs.Names.{is_path}
use Rattle.okws_base.specs.declared.limit.TheConstants.{LONGEST_PATH, LONGEST_CONTENT}
use Rattle.okws_plan.specs.Configuration.{template_named}
use Rattle.okws_plan.specs.Lines.{service_named, place_named}
use Rattle.okws_plan.specs.declared.configuration.Config.{Config}
use Rattle.okws_plan.specs.declared.script.Line.TheVariants as line
use Rattle.okws_plan.specs.declared.script.Method.{Method}
use Rattle.okws_plan.specs.declared.script.Place.{Place}
use Rattle.plain_text.specs.Decimals.{number}
use Rattle.plain_text.specs.Hexadecimal.{hex_bytes}
use Rattle.plain_text.specs.Words.{words, one_word, two_words}
use Rattle.play_script.specs.Directive.{directive_named, step_line, method_named}
use Rattle.play_script.specs.Lines.{script_lines, two_or_three_words}
use Rattle.play_script.specs.Reading.{line_of, words_read, directive_read, step_read, change_read, changed, accept_read, request_of, dialog_read, dialog_of, bytes_read, bytes_of, publish_read, edition_of, declared, bad_line, begins_comment, is_target, is_query, target_path, script_reads}
use Rattle.play_script.specs.declared.directive.Change.{Change}
use Rattle.play_script.specs.declared.directive.Change.TheVariants as change
use Rattle.play_script.specs.declared.directive.Directive.{Directive}
use Rattle.play_script.specs.declared.directive.Directive.TheVariants as directive
use Rattle.play_script.specs.declared.directive.Step.{Step}
use Rattle.play_script.specs.declared.directive.Step.TheVariants as step
use Rattle.play_script.specs.declared.reading.LineRead.{LineRead}
use Rattle.play_script.specs.declared.reading.LineRead.TheVariants as read
use Rattle.okws_server.specs.Script.{IsShortRead}
use Rattle.site_columns.proofs.Short.{and_first, and_second, either}

path_short : (path : List ℕ) → is_path path ≡ true → length path ≤ LONGEST_PATH
path_short [] h = omega arith
path_short (b ∷ more) h = leb-true (length (b ∷ more)) LONGEST_PATH (and_first _ _ (and_second (b == 47) _ h))

query_short : (query : List ℕ) → is_query query ≡ true → length query ≤ LONGEST_PATH + 1
query_short [] h = omega arith
query_short (b ∷ more) h = let fits : length more ≤ LONGEST_PATH = leb-true (length more) LONGEST_PATH (and_first _ _ (and_second (b == 63) _ h)) in omega (arith, fits)

target_short : (target : List ℕ) → is_target target ≡ true → length target ≤ 2 * LONGEST_PATH + 1
target_short target h =
    let n = length (target_path target) in
    let front : length (target_path target) ≤ LONGEST_PATH = path_short (target_path target) (and_first _ _ h) in
    let back : length (drop (length (target_path target)) target) ≤ LONGEST_PATH + 1 =
    query_short (drop (length (target_path target)) target) (and_second (is_path (target_path target)) _ h) in
    omega (arith, front, back, length-drop (length (target_path target)) target)

request_short : (method : Option Method) (target : List ℕ) (content : Option (List ℕ)) → IsShortRead (request_of method target content)
request_short None target content = tt
request_short (Some method) target None = tt
request_short (Some method) target (Some content) = by (is_target target && nat_le (length content) LONGEST_CONTENT) refl
  where
    by : (b : Bool) → (is_target target && nat_le (length content) LONGEST_CONTENT) ≡ b → IsShortRead (if b then read.Says (line.Accept method target content) else bad_line)
    by true e = target_short target (and_first _ _ e)
    by false e = tt

accept_short : (o : Option (List ℕ × List ℕ × List ℕ)) → IsShortRead (accept_read o)
accept_short None = tt
accept_short (Some parts) = request_short (method_named parts.0) parts.1 (hex_bytes parts.2)

step_short : (s : Step) (o : Option ℕ) → IsShortRead (declared (option_map (step_line s) o))
step_short s None = tt
step_short step.Begin (Some n) = tt
step_short step.Boot (Some n) = tt
step_short step.Up (Some n) = tt
step_short step.Down (Some n) = tt
step_short step.Launch (Some n) = tt
step_short step.Relaunch (Some n) = tt
step_short step.End (Some n) = tt

one_short : (C : Config) (s : Step) (o : Option (List ℕ)) → IsShortRead (step_read C s o)
one_short C s None = tt
one_short C s (Some name) = step_short s (service_named C name)

change_short : (w : Change) (o : Option ℕ) (p : Option Place) → IsShortRead (changed w o p)
change_short w None p = tt
change_short w (Some n) None = tt
change_short change.Install (Some n) (Some at) = tt
change_short change.Revoke (Some n) (Some at) = tt

two_short : (C : Config) (w : Change) (o : Option (List ℕ × List ℕ)) → IsShortRead (change_read C w o)
two_short C w None = tt
two_short C w (Some named) = change_short w (service_named C named.0) (place_named C named.1)

number_short : (o : Option ℕ) → IsShortRead (dialog_of o)
number_short None = tt
number_short (Some n) = tt

dialog_short : (o : Option (List ℕ)) → IsShortRead (dialog_read o)
dialog_short None = tt
dialog_short (Some word) = number_short (number word)

some_bytes_short : (o : Option (List ℕ)) (s : Option ℕ) → IsShortRead (bytes_of o s)
some_bytes_short None s = tt
some_bytes_short (Some bytes) None = tt
some_bytes_short (Some bytes) (Some s) = tt

bytes_short : (C : Config) (o : Option (List ℕ × List ℕ)) → IsShortRead (bytes_read C o)
bytes_short C None = tt
bytes_short C (Some parts) = some_bytes_short (hex_bytes parts.1) (service_named C parts.0)

edition_short : (o : Option (List ℕ)) (t : Option ℕ) → IsShortRead (edition_of o t)
edition_short None t = tt
edition_short (Some content) None = tt
edition_short (Some content) (Some t) = tt

publish_short : (C : Config) (o : Option (List ℕ × List ℕ)) → IsShortRead (publish_read C o)
publish_short C None = tt
publish_short C (Some parts) = edition_short (hex_bytes parts.1) (template_named C parts.0)

directive_short : (C : Config) (o : Option Directive) (parts : List (List ℕ)) → IsShortRead (directive_read C o parts)
directive_short C None parts = tt
directive_short C (Some (directive.Step s)) parts = one_short C s (one_word parts)
directive_short C (Some (directive.Change w)) parts = two_short C w (two_words parts)
directive_short C (Some directive.Accept) parts = accept_short (two_or_three_words parts)
directive_short C (Some directive.Dialog) parts = dialog_short (one_word parts)
directive_short C (Some directive.Bytes) parts = bytes_short C (two_words parts)
directive_short C (Some directive.Publish) parts = publish_short C (two_words parts)

words_short : (C : Config) (is_text : Bool) (all : List (List ℕ)) → IsShortRead (words_read C is_text all)
words_short C is_text [] = tt
words_short C is_text (word ∷ parts) =
    either IsShortRead (begins_comment word) read.Skipped (if is_text then directive_read C (directive_named word) parts else bad_line) tt
    (either IsShortRead is_text (directive_read C (directive_named word) parts) bad_line (directive_short C (directive_named word) parts) tt)

line_short : (C : Config) (text : List ℕ) → IsShortRead (line_of C text)
unfolding line_of
line_short C text = words_short C (is_utf8 text) (words text)

first_short : (C : Config) (texts : List (List ℕ)) (r : LineRead) (more : List LineRead) → map (line_of C) texts ≡ r ∷ more → IsShortRead r
first_short C [] r more e = absurd (cc)
first_short C (text ∷ rest) r more e = let same : line_of C text ≡ r = cc in subst IsShortRead same (line_short C text)

-- the first line of a text has a short target
pub said_short : (C : Config) (text : List ℕ) (r : LineRead) (more : List LineRead) → script_reads C text ≡ r ∷ more → IsShortRead r
said_short C text r more e = first_short C (script_lines text) r more e
