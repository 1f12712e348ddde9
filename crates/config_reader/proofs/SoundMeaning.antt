-- A lawful file gives a sound configuration, whose queries keep the rules of the query language.
use Rattle.std.proofs.Common.{◌≡◌, ℕ, ◌+◌, Bool, true, false, cond, not, nat_lt, List, [], ◌∷◌, length, Option, Some, None, Result, Ok, Err, refl, subst, arith}
use Rattle.std.specs.Prelude.{IfOk}
use Rattle.okws_base.specs.declared.limit.TheConstants.{LONGEST_CONFIGURATION, LONGEST_LINE}
use Rattle.okws_plan.specs.Sound.{IsSound}
use Rattle.okws_plan.specs.declared.configuration.Config.{Config}
use Rattle.plain_text.specs.Words.{words, behind_word}
use Rattle.config_reader.specs.Above.{Above, nothing_above}
use Rattle.config_reader.specs.After.{after, after_if, declared, declared_if}
use Rattle.config_reader.specs.Answers.{Gives}
use Rattle.config_reader.specs.Broken.{broken}
use Rattle.config_syntax.specs.Declarations.{Declaration, Proxy, Table, Row, Query, Service, Retry, Uri, Grant, Template, Read, Log, declaration_of, directive_of}
use Rattle.std.specs.Str.Lines.{lines}
use Rattle.config_reader.specs.Meaning.{begins_comment, are_first_words, directive_judged, word_judged, words_judged, line_judged, first_judged, numbered, read_from, read_lines, meaning}
use Rattle.config_reader.specs.Ruled.{AreRuled}
use Rattle.config_syntax.specs.Words.{is_text_line}
use Rattle.config_syntax.specs.declared.directive.Directive.{Directive}
use Rattle.config_reader.specs.declared.error.ConfigRule.{ConfigRule}
use Rattle.config_reader.specs.declared.error.ConfigError.{ConfigError}
use Rattle.config_reader.specs.declared.error.Refusal.{Refusal}
use Rattle.config_reader.proofs.Sound.{after_proxy, after_service, after_retry, after_uri, after_template, after_read, after_log}
use Rattle.config_reader.proofs.SoundPlans.{after_table, after_row, after_query, after_grant}
use Rattle.config_reader.proofs.Ruled.{are_ruled, ruled_proxy, ruled_table, ruled_row, ruled_query, ruled_from}
use Rattle.config_reader.proofs.Unbroken.{IsUnbroken, is_unbroken}

-- a configuration that is sound, and whose queries keep the rules
record IsLawful (C : Config) : Type 0 where
  sound : IsSound C
  ruled : are_ruled C ≡ true

sound_after : (above : Above) (d : Declaration) → IsSound above.config → IsUnbroken above d → IsSound (after above d).config
sound_after above (Proxy n) s u = after_proxy above n s u
sound_after above (Table p t columns) s u = after_table above p t columns s u
sound_after above (Row p t text) s u = after_row above p t text s u
sound_after above (Query p number text) s u = after_query above p number text s u
sound_after above (Service n words) s u = after_service above n words s u
sound_after above (Retry number) s u = after_retry above number s u
sound_after above (Uri path name) s u = after_uri above path name s u
sound_after above (Grant name p numbers) s u = after_grant above name p numbers s u
sound_after above (Template n) s u = after_template above n s u
sound_after above (Read name t) s u = after_read above name t s u
sound_after above (Log name) s u = after_log above name s u

ruled_after : (above : Above) (d : Declaration) → are_ruled above.config ≡ true → are_ruled (after above d).config ≡ true
ruled_after above (Proxy n) h = ruled_proxy above n h
ruled_after above (Table p t columns) h = ruled_table above p t columns h
ruled_after above (Row p t text) h = ruled_row above p t text h
ruled_after above (Query p number text) h = ruled_query above p number text h
ruled_after above (Service n words) h = h
ruled_after above (Retry number) h = h
ruled_after above (Uri path name) h = h
ruled_after above (Grant name p numbers) h = h
ruled_after above (Template n) h = h
ruled_after above (Read name t) h = h
ruled_after above (Log name) h = h

lawful_after : (above : Above) (d : Declaration) → IsLawful above.config → IsUnbroken above d → IsLawful (after above d).config
lawful_after above d l u = record { sound = sound_after above d l.sound u; ruled = ruled_after above d l.ruled }

same_ok : {A E : Type 0} (a b : A) (x : Result A E) → x ≡ Ok a → x ≡ Ok b → a ≡ b
same_ok a b x e h = cc

moved : (above now : Above) (x : Result Above ConfigRule) → x ≡ Ok above → x ≡ Ok now → IsLawful above.config → IsLawful now.config
moved above now x e h s = subst (λ (a : Above). IsLawful a.config) (same_ok above now x e h) s

-- a test that would have refused was false
passed : {A E : Type 0} (b : Bool) (e : E) (x : Result A E) (y : A) → cond b (Err e) x ≡ Ok y → x ≡ Ok y
passed true e x y h = absurd (cc)
passed false e x y h = h

declared_at : (above now : Above) (d : Declaration) (o : Option ConfigRule) → broken above d ≡ o → after_if above d o ≡ Ok now → IsLawful above.config → IsLawful now.config
declared_at above now d None e h s = moved (after above d) now (Ok (after above d)) refl h (lawful_after above d s (is_unbroken above d e))
declared_at above now d (Some rule) e h s = absurd (cc)

lawful_declared : (above now : Above) (d : Declaration) → declared above d ≡ Ok now → IsLawful above.config → IsLawful now.config
unfolding declared
lawful_declared above now d h s = declared_at above now d (broken above d) refl h s

lawful_if : (above now : Above) (o : Option Declaration) → declared_if above o ≡ Ok now → IsLawful above.config → IsLawful now.config
lawful_if above now None h s = absurd (cc)
lawful_if above now (Some d) h s = lawful_declared above now d h s

lawful_directive : (above now : Above) (o : Option Directive) (rest : List ℕ) → directive_judged above o rest ≡ Ok now → IsLawful above.config → IsLawful now.config
lawful_directive above now None rest h s = absurd (cc)
lawful_directive above now (Some found) rest h s = lawful_if above now (declaration_of found rest) h s

lawful_word : (t : Bool) (above now : Above) (word line : List ℕ) → cond t (Ok above) (word_judged above word line) ≡ Ok now → IsLawful above.config → IsLawful now.config
lawful_word true above now word line h s = moved above now (Ok above) refl h s
lawful_word false above now word line h s =
    lawful_directive above now (directive_of word) (behind_word line) (passed (not (is_text_line line)) _ _ now (passed (nat_lt LONGEST_LINE (length line)) _ _ now h)) s

lawful_words : (above now : Above) (ws : List (List ℕ)) (line : List ℕ) → words_judged above ws line ≡ Ok now → IsLawful above.config → IsLawful now.config
lawful_words above now [] line h s = moved above now (Ok above) refl h s
lawful_words above now (word ∷ more) line h s = lawful_word (begins_comment word) above now word line h s

lawful_numbered : (n : ℕ) (C : Config) (r : Result Above ConfigRule) (more : Above → Result Config Refusal) → ((now : Above) → r ≡ Ok now → more now ≡ Ok C → IsLawful C) → numbered n r more ≡ Ok C → IsLawful C
lawful_numbered n C (Ok now) more f h = f now refl h
lawful_numbered n C (Err rule) more f h = absurd (cc)

lawful_rest : (n : ℕ) (above : Above) (C : Config) (rest : List (List ℕ)) → read_from n above rest ≡ Ok C → IsLawful above.config → IsLawful C
lawful_rest n above C [] h s = subst IsLawful (same_ok above.config C (Ok above.config) refl h) s
lawful_rest n above C (line ∷ more) h s =
    lawful_numbered n C (line_judged above line) (λ (now : Above). read_from (n + 1) now more) (λ now e k. lawful_rest (n + 1) now C more k (lawful_words above now (words line) line e s)) h

sound_nothing : IsSound nothing_above.config
sound_nothing = record {
  few_proxies = omega arith;
  few_services = omega arith;
  few_templates = omega arith;
  low_retry = omega arith;
  proxy_names = refl;
  service_names = refl;
  template_names = refl;
  distinct_paths = refl;
  owners = refl;
  granted = refl;
  readable = refl;
  logging = refl;
  plans = refl;
}

lawful_nothing : IsLawful nothing_above.config
lawful_nothing = record { sound = sound_nothing; ruled = refl }

lawful_first : (line : List ℕ) (now : Above) → first_judged line ≡ Ok now → IsLawful now.config
lawful_first line now h =
    moved nothing_above now (Ok nothing_above) refl (passed (nat_lt LONGEST_LINE (length line)) _ _ now (passed (not (are_first_words (words line))) _ _ now h)) lawful_nothing

lawful_lines : (C : Config) (all : List (List ℕ)) → read_lines all ≡ Ok C → IsLawful C
lawful_lines C [] h = absurd (cc)
lawful_lines C (line ∷ more) h =
    lawful_numbered 1 C (first_judged line) (λ (above : Above). read_from 2 above more) (λ now e k. lawful_rest 2 now C more k (lawful_first line now e)) h

lawful_meaning : (bytes : List ℕ) (C : Config) → meaning bytes ≡ Ok C → IsLawful C
lawful_meaning bytes C h = lawful_lines C (lines bytes) (passed (nat_lt LONGEST_CONFIGURATION (length bytes)) _ _ C h)

pub sound_read : (bytes : List ℕ) (r : Result Config ConfigError) → Gives (λ (c : Config). c) r (meaning bytes) → IfOk r IsSound
sound_read bytes (Ok C) h = (lawful_meaning bytes C h).sound
sound_read bytes (Err e) h = tt

pub ruled_read : (bytes : List ℕ) (r : Result Config ConfigError) → Gives (λ (c : Config). c) r (meaning bytes) → IfOk r AreRuled
ruled_read bytes (Ok C) h = ruled_from C (lawful_meaning bytes C h).ruled
ruled_read bytes (Err e) h = tt
