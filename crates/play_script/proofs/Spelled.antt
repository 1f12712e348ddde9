-- What a line's canonical text is read as.
use Rattle.std.proofs.Common.{◌≡◌, ℕ, ◌<◌, ◌^◌, Bool, true, ◌&&◌, List, [], ◌∷◌, length, map, Some, refl, ap, ◌∙◌, arith, nat_le, codes, lit<, zero-add}
use Rattle.std.specs.Prelude.{option_map, decimal}
use Rattle.std.specs.List.{list_all, join_with_byte}
use Rattle.std.specs.Result.{result_ok}
use Rattle.std.specs.Char.{is_ascii_digit}
use Rattle.std.proofs.lemmas.Bool.{and_from, le-leb}
use Rattle.std.proofs.lemmas.Fmt.{decimal_is_IsNumeral, length-decimal-le}
use Rattle.std.proofs.lemmas.List.Elements.{All-head, All-tail}
use Rattle.hex.specs.Hex.{encode_lower, decode_pairs, IsBytes}
use Rattle.hex.proofs.HexLemmas.{decode_of-encode_lower}
use Rattle.okws_base.specs.declared.limit.TheConstants.{LONGEST_CONTENT}
use Rattle.okws_base.specs.Value.{same_bytes}
use Rattle.okws_plan.specs.Configuration.{template_named}
use Rattle.okws_plan.specs.Lines.{LineFits, PlaceFits, service_names, proxy_names, service_named, place_named}
use Rattle.okws_plan.specs.declared.configuration.Config.{Config}
use Rattle.okws_plan.specs.declared.script.Line.{Line}
use Rattle.okws_plan.specs.declared.script.Line.TheVariants as line
use Rattle.okws_plan.specs.declared.script.Method.{Method}
use Rattle.okws_plan.specs.declared.script.Method.TheVariants as method
use Rattle.okws_plan.specs.declared.script.Place.{Place}
use Rattle.okws_plan.specs.declared.script.Place.TheVariants.{Proxy, Pubd, Oklogd}
use Rattle.plain_text.specs.Decimals.{is_number, number}
use Rattle.plain_text.specs.Hexadecimal.{hex_bytes}
use Rattle.plain_text.specs.Words.{words}
use Rattle.play_script.specs.Lines.{script_lines}
use Rattle.play_script.specs.Directive.{directive_named, method_named}
use Rattle.play_script.specs.Reading.{line_of, words_read}
use Rattle.play_script.specs.Spelling.{SpelledLinesAreRead, SpelledScriptsAreRead, IsNamed, CanBeSaid, spelled_words, spelling, script_text, name_at, place_word, method_word, is_taken}
use Rattle.play_script.specs.declared.reading.LineRead.{LineRead}
use Rattle.play_script.specs.declared.reading.LineRead.TheVariants.{Says}
use Rattle.play_script.proofs.Plain.{IsPlain, AllPlain, words_joined, text_joined, shown_joined, shown_line, plain_name, plain_bytes, plain_digits, plain_target, digits}
use Rattle.play_script.proofs.Named.{found_at, each_at, none_at, or_parts}
use Rattle.play_script.proofs.Targets.{target_bytes, target_some}

-- a line of plain words is read by its words
read_joined : (C : Config) (word : List ℕ) (more : List (List ℕ)) → AllPlain (word ∷ more) → line_of C (join_with_byte 32 (word ∷ more)) ≡ words_read C true (word ∷ more)
unfolding line_of
read_joined C word more h =
    let bytes = join_with_byte 32 (word ∷ more) in
    ap (λ (t : Bool). words_read C t (words bytes)) (text_joined (word ∷ more) h) ∙ ap (λ ws. words_read C true ws) (words_joined word more h.0 h.1)

length-names : {A : Type 0} (f : A → List ℕ) (xs : List A) → length (map f xs) ≡ length xs
length-names f [] = refl
length-names f (x ∷ xs) = let e = length-names f xs in omega (arith, e)

service_found : (C : Config) (s : ℕ) → IsNamed C → s < length C.services → service_named C (name_at (service_names C) s) ≡ Some s
service_found C s named below = found_at 0 s (service_names C) (omega (arith, length-names (λ plan. plan.name) C.services)) named.services_apart ∙ ap Some (zero-add s)

plain_service : (C : Config) (s : ℕ) → IsNamed C → s < length C.services → IsPlain (name_at (service_names C) s)
plain_service C s named below = plain_name _ (each_at _ (service_names C) s named.services (omega (arith, length-names (λ plan. plan.name) C.services)))

template_found : (C : Config) (t : ℕ) → IsNamed C → t < length C.templates → template_named C (name_at C.templates t) ≡ Some t
template_found C t named below = found_at 0 t C.templates below named.templates_apart ∙ ap Some (zero-add t)

plain_template : (C : Config) (t : ℕ) → IsNamed C → t < length C.templates → IsPlain (name_at C.templates t)
plain_template C t named below = plain_name _ (each_at _ C.templates t named.templates below)

place_found : (C : Config) (at : Place) → IsNamed C → PlaceFits C at → place_named C (place_word C at) ≡ Some at
place_found C (Proxy p) named below =
    let within : p < length (proxy_names C) = omega (arith, length-names (λ plan. plan.name) C.proxies) in
    let free = none_at is_taken (proxy_names C) p named.free within in
    let both = or_parts (same_bytes (name_at (proxy_names C) p) (codes "pubd")) (same_bytes (name_at (proxy_names C) p) (codes "oklogd")) free in
    rw (both.0, both.1) (ap (option_map Proxy) (found_at 0 p (proxy_names C) within named.proxies_apart ∙ ap Some (zero-add p)))
place_found C Pubd named fits = refl
place_found C Oklogd named fits = refl

plain_place : (C : Config) (at : Place) → IsNamed C → PlaceFits C at → IsPlain (place_word C at)
plain_place C (Proxy p) named below = plain_name _ (each_at _ (proxy_names C) p named.proxies (omega (arith, length-names (λ plan. plan.name) C.proxies)))
plain_place C Pubd named fits = record { some = lit< tt; graphic = refl }
plain_place C Oklogd named fits = record { some = lit< tt; graphic = refl }

hex_found : (bytes : List ℕ) → IsBytes bytes → hex_bytes (encode_lower bytes) ≡ Some bytes
hex_found bytes h = ap result_ok (decode_of-encode_lower bytes h)

hex_none : hex_bytes [] ≡ Some []
unfolding decode_pairs
hex_none = refl

number_found : (n : ℕ) → n < 10 ^ 9 → number (decimal n) ≡ Some n
number_found n h =
    let numeral = decimal_is_IsNumeral n (omega arith) in
    let few = length-decimal-le 9 n (lit< tt) h (omega arith) in
    let is : is_number (decimal n) ≡ true = and_from (nat_le 1 (length (decimal n))) (nat_le (length (decimal n)) 9 && list_all is_ascii_digit (decimal n)) (le-leb 1 (length (decimal n)) numeral.0.0)
    (and_from (nat_le (length (decimal n)) 9) (list_all is_ascii_digit (decimal n)) (le-leb (length (decimal n)) 9 few) (digits (decimal n) numeral.0.1)) in
    rw is (ap Some numeral.1)

plain_number : (n : ℕ) → n < 10 ^ 9 → IsPlain (decimal n)
plain_number n h = let numeral = decimal_is_IsNumeral n (omega arith) in plain_digits (decimal n) numeral.0.0 numeral.0.1

plain_method : (m : Method) → IsPlain (method_word m)
plain_method method.Get = record { some = lit< tt; graphic = refl }
plain_method method.Head = record { some = lit< tt; graphic = refl }
plain_method method.Post = record { some = lit< tt; graphic = refl }

method_found : (m : Method) → method_named (method_word m) ≡ Some m
method_found method.Get = refl
method_found method.Head = refl
method_found method.Post = refl

-- the words of a line are plain
plain_line : (C : Config) (line : Line) → IsNamed C → LineFits C line → CanBeSaid line → AllPlain (spelled_words C line)
plain_line C (line.Begin s) named fits can = (record { some = lit< tt; graphic = refl }, (plain_service C s named fits, tt))
plain_line C (line.Boot s) named fits can = (record { some = lit< tt; graphic = refl }, (plain_service C s named fits, tt))
plain_line C (line.Up s) named fits can = (record { some = lit< tt; graphic = refl }, (plain_service C s named fits, tt))
plain_line C (line.Down s) named fits can = (record { some = lit< tt; graphic = refl }, (plain_service C s named fits, tt))
plain_line C (line.Launch s) named fits can = (record { some = lit< tt; graphic = refl }, (plain_service C s named fits, tt))
plain_line C (line.Relaunch s) named fits can = (record { some = lit< tt; graphic = refl }, (plain_service C s named fits, tt))
plain_line C (line.End s) named fits can = (record { some = lit< tt; graphic = refl }, (plain_service C s named fits, tt))
plain_line C (line.Install s at) named fits can = (record { some = lit< tt; graphic = refl }, (plain_service C s named fits.0, (plain_place C at named fits.1, tt)))
plain_line C (line.Revoke s at) named fits can = (record { some = lit< tt; graphic = refl }, (plain_service C s named fits.0, (plain_place C at named fits.1, tt)))
plain_line C (line.Accept m target []) named fits can = (record { some = lit< tt; graphic = refl }, (plain_method m, (plain_target target (target_some target can.0) (target_bytes target can.0), tt)))
plain_line C (line.Accept m target (b ∷ more)) named fits can =
    (record { some = lit< tt; graphic = refl }, (plain_method m, (plain_target target (target_some target can.0) (target_bytes target can.0), (plain_bytes (b ∷ more) (omega arith) can.2, tt))))
plain_line C (line.Dialog n) named fits can = (record { some = lit< tt; graphic = refl }, (plain_number n can, tt))
plain_line C (line.Bytes s bytes) named fits can = (record { some = lit< tt; graphic = refl }, (plain_service C s named fits, (plain_bytes bytes can.0 can.1, tt)))
plain_line C (line.Publish t content) named fits can = (record { some = lit< tt; graphic = refl }, (plain_template C t named fits, (plain_bytes content can.0 can.1, tt)))

-- what the words of a line say
words_said : (C : Config) (line : Line) → IsNamed C → LineFits C line → CanBeSaid line → words_read C true (spelled_words C line) ≡ Says line
unfolding directive_named
words_said C (line.Begin s) named fits can = rw (service_found C s named fits) refl
words_said C (line.Boot s) named fits can = rw (service_found C s named fits) refl
words_said C (line.Up s) named fits can = rw (service_found C s named fits) refl
words_said C (line.Down s) named fits can = rw (service_found C s named fits) refl
words_said C (line.Launch s) named fits can = rw (service_found C s named fits) refl
words_said C (line.Relaunch s) named fits can = rw (service_found C s named fits) refl
words_said C (line.End s) named fits can = rw (service_found C s named fits) refl
words_said C (line.Install s at) named fits can = rw (service_found C s named fits.0, place_found C at named fits.1) refl
words_said C (line.Revoke s at) named fits can = rw (service_found C s named fits.0, place_found C at named fits.1) refl
words_said C (line.Accept m target []) named fits can = rw (method_found m, hex_none, can.0) refl
words_said C (line.Accept m target (b ∷ more)) named fits can = rw (method_found m, hex_found (b ∷ more) can.2, can.0, le-leb (length (b ∷ more)) LONGEST_CONTENT can.1) refl
words_said C (line.Dialog n) named fits can = rw (number_found n can) refl
words_said C (line.Bytes s bytes) named fits can = rw (hex_found bytes can.1, service_found C s named fits) refl
words_said C (line.Publish t content) named fits can = rw (hex_found content can.1, template_found C t named fits) refl

-- a line's words are its directive and what follows
read_spelled : (C : Config) (ws : List (List ℕ)) (read : LineRead) → 0 < length ws → AllPlain ws → words_read C true ws ≡ read → line_of C (join_with_byte 32 ws) ≡ read
read_spelled C [] read some h e = absurd (omega arith)
read_spelled C (word ∷ more) read some h e = read_joined C word more h ∙ e

has_words : (C : Config) (line : Line) → 0 < length (spelled_words C line)
has_words C (line.Begin s) = omega arith
has_words C (line.Install s at) = omega arith
has_words C (line.Revoke s at) = omega arith
has_words C (line.Boot s) = omega arith
has_words C (line.Up s) = omega arith
has_words C (line.Down s) = omega arith
has_words C (line.Launch s) = omega arith
has_words C (line.Relaunch s) = omega arith
has_words C (line.Accept m target content) = omega arith
has_words C (line.Dialog n) = omega arith
has_words C (line.Bytes s bytes) = omega arith
has_words C (line.End s) = omega arith
has_words C (line.Publish t content) = omega arith

pub spelled_lines_are_read : SpelledLinesAreRead
spelled_lines_are_read C line named fits can =
    read_spelled C (spelled_words C line) (Says line) (has_words C line) (plain_line C line named fits can) (words_said C line named fits can)

pub spelled_scripts_are_read : SpelledScriptsAreRead
spelled_scripts_are_read C [] named fits can = refl
spelled_scripts_are_read C (line ∷ more) named fits can =
    let fits_first = All-head (LineFits C) line more fits in
    let can_first = All-head CanBeSaid line more can in
    let rest = spelled_scripts_are_read C more named (All-tail (LineFits C) line more fits) (All-tail CanBeSaid line more can) in
    let first = spelled_lines_are_read C line named fits_first can_first in
    let split = shown_line (spelling C line) (script_text C more) (shown_joined (spelled_words C line) (plain_line C line named fits_first can_first)) in
    ap (λ ls. map (line_of C) ls) split ∙ ap (λ (read : LineRead). read ∷ map (line_of C) (script_lines (script_text C more))) first ∙ ap (λ (reads : List LineRead). Says line ∷ reads) rest
