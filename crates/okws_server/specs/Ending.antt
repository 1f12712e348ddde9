-- What a run prints where it ends early.
use Rattle.std.specs.Prelude.{◌≡◌, ℕ, Bool, true, false, List, [], ◌∷◌, ◌++◌, ◌⊎◌, codes}
use Rattle.std.specs.Io.KnownBytes.{Appends}
use Rattle.std.specs.declared.option.Option.{Option}
use Rattle.okws_outer.specs.Streams.{AppendsPrefix, Rose}

-- `read fault` and LF.
abbrev pub read_fault_line : List ℕ
read_fault_line = codes "read fault" ++ 10 ∷ []

-- `no memory` and LF.
abbrev pub no_memory_line : List ℕ
no_memory_line = codes "no memory" ++ 10 ∷ []

-- The count rose where a call failed; where none did it is as before.
abbrev pub RoseWhere : ℕ → ℕ → Bool → Type 0
RoseWhere before now true = Rose before now
RoseWhere before now false = now ≡ before

-- All that is due was given, and the count of out is as before; or a prefix of it, where that rose.
pub record Told (old new : Option (List ℕ)) (due : List ℕ) (out_rose : Bool → Type 0) : Type 0 where
  pub part : AppendsPrefix old new due
  pub whole : (Appends old new due × out_rose false) ⊎ out_rose true

-- What was due broke off for want of memory: a front of it is told, and `no memory` behind that.
pub record BreaksOff (old new : Option (List ℕ)) (due : List ℕ) (out_rose : Bool → Type 0) : Type 0 where
  pub front : List ℕ
  pub rest : List ℕ
  pub whole : front ++ rest ≡ due
  pub told : Told old new (front ++ no_memory_line) out_rose
