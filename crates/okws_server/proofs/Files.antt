-- A file that was read to one byte above its limit is judged as the whole file.
use Rattle.std.proofs.Common.{◌≡◌, ◌∙◌, ℕ, ◌+◌, ◌≤◌, ◌<◌, List, [], ◌∷◌, length, take, refl, sym, arith, Bool, true, false, nat_lt, Some, ap}
use Rattle.std.proofs.lemmas.Bool.{ltb-true, ltb-false}
use Rattle.std.proofs.lemmas.List.{take_all, length-take-le}
use Rattle.std.specs.declared.option.Option.{Option}
use Rattle.std.specs.declared.result.Result.TheVariants.{Ok, Err}
use Rattle.okws_base.specs.declared.limit.TheConstants.{LONGEST_CONFIGURATION}
use Rattle.okws_plan.specs.declared.configuration.Config.{Config}
use Rattle.config_reader.specs.Meaning.{meaning}
use Rattle.config_reader.specs.declared.error.ConfigError.{ConfigError}
use Rattle.config_reader.specs.declared.error.ConfigError.TheVariants as config_error
use Rattle.config_reader.specs.Answers.{Fails}
use Rattle.okws_outer.specs.Streams.{IsFrontOf}
use Rattle.okws_outer.specs.Shelf.{Shelf, Reads}
use Rattle.okws_server.specs.Ran.{stop_of, ReadsConfig}
use Rattle.okws_server.specs.declared.preparing.ConfigStop.{ConfigStop}
use Rattle.okws_server.specs.declared.preparing.ConfigStop.TheVariants as config_stop
use Rattle.std.specs.declared.result.Result.{Result}

-- a text that was read to one byte above a limit, and fits it, is the whole
pub whole_text : (limit : ℕ) (all text : List ℕ) → text ≡ take (limit + 1) all → length text ≤ limit → text ≡ all
whole_text limit all text e fits = by (nat_lt limit (length all)) refl
  where
    by : (b : Bool) → nat_lt limit (length all) ≡ b → text ≡ all
    by false t = e ∙ take_all (limit + 1) all (omega (arith, ltb-false limit (length all) t))
    by true t =
        let size : length text ≡ limit + 1 = rw e (length-take-le (limit + 1) all (omega (arith, ltb-true limit (length all) t))) in
        absurd (omega (arith, size, fits))

-- a text that was read to one byte above a limit, and is above it, is a front of one that is
pub long_text : (limit : ℕ) (all text : List ℕ) → text ≡ take (limit + 1) all → limit < length text → limit < length all
long_text limit all text e long = by (nat_lt limit (length all)) refl
  where
    by : (b : Bool) → nat_lt limit (length all) ≡ b → limit < length all
    by true t = ltb-true limit (length all) t
    by false t =
        let same : text ≡ all = e ∙ take_all (limit + 1) all (omega (arith, ltb-false limit (length all) t)) in
        rw (← same) long

meaning_front : (all text : List ℕ) → text ≡ take (LONGEST_CONFIGURATION + 1) all → meaning text ≡ meaning all
meaning_front all text e = by (nat_lt LONGEST_CONFIGURATION (length all)) refl
  where
    by : (b : Bool) → nat_lt LONGEST_CONFIGURATION (length all) ≡ b → meaning text ≡ meaning all
    by false t =
        let same : text ≡ all = e ∙ take_all (LONGEST_CONFIGURATION + 1) all (omega (arith, ltb-false LONGEST_CONFIGURATION (length all) t)) in
        rw same refl
    by true t =
        let size : length text ≡ LONGEST_CONFIGURATION + 1 = rw e (length-take-le (LONGEST_CONFIGURATION + 1) all (omega (arith, ltb-true LONGEST_CONFIGURATION (length all) t))) in
        let front : nat_lt LONGEST_CONFIGURATION (length text) ≡ true = rw size refl in
        rw front (rw t refl)

-- what a reader answers is what was read gives
pub reads_stop : (text : List ℕ) (e : ConfigError) → Fails e (meaning text) → ReadsConfig (Some text) (Err (stop_of e))
reads_stop text (config_error.Refused refusal) m = (text, refl, m)
reads_stop text config_error.NoMemory m = tt

-- what was read gives what the file gives
pub reads_whole : (told : Option (List ℕ)) (text : List ℕ) (r : Result Config ConfigStop) → IsFrontOf told (LONGEST_CONFIGURATION + 1) text → ReadsConfig (Some text) r → ReadsConfig told r
reads_whole told text (Ok C) front m = (front.0, front.1, sym (meaning_front front.0 text front.2) ∙ ap meaning m.1 ∙ m.2)
reads_whole told text (Err config_stop.ReadFault) front m = tt
reads_whole told text (Err (config_stop.Refused refusal)) front m = (front.0, front.1, sym (meaning_front front.0 text front.2) ∙ ap meaning m.1 ∙ m.2)
reads_whole told text (Err config_stop.NoMemory) front m = tt

-- ---- what was counted of a read

-- where no fault came the count stands
pub reads_still : (a b : Shelf) (paths : List (List ℕ)) (fault : Type 0) → Reads a b paths fault → (fault → ⊥) → Reads a b paths ⊥
reads_still a b paths fault reads none = record {
  held = reads.held;
  opened = reads.opened;
  faults = record { later = reads.faults.later; cause = λ x. absurd x };
  still = λ x. reads.still none;
}
