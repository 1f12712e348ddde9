-- What functions that may lack memory answer.
use Rattle.std.specs.Prelude.{◌≡◌, ℕ, Result, Ok, Err}
use Rattle.config_reader.specs.declared.error.ConfigRule.{ConfigRule}
use Rattle.config_reader.specs.declared.error.Refusal.{Refusal}
use Rattle.config_reader.specs.declared.error.ConfigError.{ConfigError}
use Rattle.config_reader.specs.declared.error.ConfigError.TheVariants as config
use Rattle.config_reader.specs.declared.error.LineError.{LineError}
use Rattle.config_reader.specs.declared.error.LineError.TheVariants as line

-- Why a line gave nothing: the rule that is expected, or memory.
abbrev pub FailsLine : {Y : Type 0} → LineError → Result Y ConfigRule → Type 0
FailsLine line.NoMemory expected = Unit {0}
FailsLine (line.Broken rule) expected = expected ≡ Err rule

-- What a function of a line returned, seen by view, is what is expected, unless memory ran out.
abbrev pub GivesLine : {X Y : Type 0} → (X → Y) → Result X LineError → Result Y ConfigRule → Type 0
GivesLine view (Ok x) expected = expected ≡ Ok (view x)
GivesLine view (Err e) expected = FailsLine e expected

-- Why a file gave nothing: the refusal that is expected, or memory.
abbrev pub Fails : {Y : Type 0} → ConfigError → Result Y Refusal → Type 0
Fails config.NoMemory expected = Unit {0}
Fails (config.Refused refusal) expected = expected ≡ Err refusal

-- What a reader of a file returned, seen by view, is what is expected, unless memory ran out.
abbrev pub Gives : {X Y : Type 0} → (X → Y) → Result X ConfigError → Result Y Refusal → Type 0
Gives view (Ok x) expected = expected ≡ Ok (view x)
Gives view (Err e) expected = Fails e expected

-- What a file is refused with where a line fails.
abbrev pub refusal_of : ℕ → LineError → ConfigError
refusal_of n (line.Broken rule) = config.Refused (record { line = n; rule = rule })
refusal_of n line.NoMemory = config.NoMemory
