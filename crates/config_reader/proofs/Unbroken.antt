-- What a declaration that breaks no rule keeps.
use Rattle.std.proofs.Common.{◌≡◌, Bool, true, false, cond, Option, Some, None, refl}
use Rattle.config_reader.specs.Above.{Above}
use Rattle.config_reader.specs.Broken.{broken, has_bad_name, has_bad_number, has_bad_kind, has_bad_path, has_bad_literal, is_undeclared, is_taken_above, marks_two, mismatches, is_refused, is_too_many}
use Rattle.config_syntax.specs.Declarations.{Declaration}
use Rattle.config_reader.specs.declared.error.ConfigRule.{ConfigRule}

-- each test is false
pub record IsUnbroken (above : Above) (d : Declaration) : Type 0 where
  pub names : has_bad_name d ≡ false
  pub numbers : has_bad_number d ≡ false
  pub kinds : has_bad_kind d ≡ false
  pub paths : has_bad_path d ≡ false
  pub literals : has_bad_literal d ≡ false
  pub declared : is_undeclared above.config d ≡ false
  pub free : is_taken_above above d ≡ false
  pub keys : marks_two d ≡ false
  pub fits : mismatches above.config d ≡ false
  pub compiled : is_refused above.config d ≡ false
  pub few : is_too_many above.config d ≡ false

none : (b : Bool) (rule : ConfigRule) (x : Option ConfigRule) → cond b (Some rule) x ≡ None → (b ≡ false) × (x ≡ None)
none true rule x h = absurd (cc)
none false rule x h = (refl, h)

pub is_unbroken : (above : Above) (d : Declaration) → broken above d ≡ None → IsUnbroken above d
is_unbroken above d e =
    let a = none _ _ _ e in
    let b = none _ _ _ a.1 in
    let f = none _ _ _ b.1 in
    let g = none _ _ _ f.1 in
    let h = none _ _ _ g.1 in
    let i = none _ _ _ h.1 in
    let j = none _ _ _ i.1 in
    let k = none _ _ _ j.1 in
    let l = none _ _ _ k.1 in
    let m = none _ _ _ l.1 in
    let n = none _ _ _ m.1 in
    record { names = a.0; numbers = b.0; kinds = f.0; paths = g.0; literals = h.0; declared = i.0; free = j.0; keys = k.0; fits = l.0; compiled = m.0; few = n.0 }
