-- Words as users write them.
use Rattle.std.proofs.Common.{◌≡◌, ◌≢◌, ℕ, zero, suc, ◌<◌, ◌≤◌, ◌^◌, ◌-◌, false, List, [], ◌∷◌, get_or, refl, arith, codes, Some, None}
use Rattle.std.specs.Prelude.{◌==◌, slice_index}
use Rattle.std.specs.Fmt as fmt
use Rattle.std.proofs.lemmas.Bool.Decides.{nat_tests}
use Rattle.std.proofs.lemmas.Fmt.{decimal_digit, first_decimal}
use Rattle.okws_base.specs.declared.limit.TheConstants.{MOST_CONNECTIONS}
use Rattle.command_line.specs.Parts.{Own, look_of}
use Rattle.command_line.specs.Asked.{asked, Checks, Plays, Drills, Serves, Versions}
use Rattle.command_line.specs.Plain.{IsPlainWord}
use Rattle.command_line.specs.declared.command.TheConstants.{MOST_EVENTS, MOST_PATIENCE, USUAL_DOORS}
use Rattle.command_line.specs.declared.command.Connections.TheVariants.{Count, Always}
use Rattle.command_line.proofs.Written.{written_is_found}

-- a word that doesn't begin with a hyphen is one of its own
plain_look : (word : List ℕ) → IsPlainWord word → look_of word ≡ Own
plain_look [] h = refl
plain_look (x ∷ xs) h = let ne : x ≢ 45 = h in let e : (x == 45) ≡ false = grind (arith, nat_tests) in rw e refl

-- a number doesn't begin with a hyphen
decimal_plain : (n : ℕ) → n < 2 ^ 64 → IsPlainWord (fmt.decimal n)
decimal_plain zero h e = let first : slice_index (fmt.decimal 0) 0 ≡ 48 = rw (decimal_digit 0 (omega arith)) refl in omega (arith, first, e)
decimal_plain (suc n) h e = let first : 48 < get_or (fmt.decimal (suc n)) 0 0 = first_decimal (suc n) (omega arith) h in omega (arith, first, e)

pub check_is_read : (config : List ℕ) → IsPlainWord config → asked (codes "check" ∷ config ∷ []) ≡ Some (Checks config)
check_is_read config h = rw (plain_look config h) refl

pub play_is_read : (config script : List ℕ) → IsPlainWord config → IsPlainWord script → asked (codes "play" ∷ config ∷ script ∷ []) ≡ Some (Plays config script)
play_is_read config script h k = rw (plain_look config h, plain_look script k) refl

pub drill_is_read : (seed events : ℕ) → seed < 2 ^ 64 → events ≤ MOST_EVENTS → asked (codes "drill" ∷ fmt.decimal seed ∷ fmt.decimal events ∷ []) ≡ Some (Drills seed events)
drill_is_read seed events small le =
    rw (
      plain_look (fmt.decimal seed) (decimal_plain seed small),
      plain_look (fmt.decimal events) (decimal_plain events (omega (arith, le))),
      written_is_found 0 (2 ^ 64 - 1) seed (omega arith) (omega arith) (omega arith),
      written_is_found 0 MOST_EVENTS events (omega arith) (omega arith) le,
    ) refl

pub serve_is_read : (config : List ℕ) (port connections : ℕ) → IsPlainWord config → 1 ≤ port → port ≤ 65535 → connections ≤ MOST_CONNECTIONS →
    asked (codes "serve" ∷ config ∷ codes "--port" ∷ fmt.decimal port ∷ codes "--serve" ∷ fmt.decimal connections ∷ []) ≡
    Some (Serves (record { config = config; port = port; doors = USUAL_DOORS; connections = Count connections; patience = None; store = None; log = None; audit = None }))
serve_is_read config port connections h low high le =
    rw (
      plain_look config h,
      plain_look (fmt.decimal port) (decimal_plain port (omega (arith, high))),
      plain_look (fmt.decimal connections) (decimal_plain connections (omega (arith, le))),
      written_is_found 1 65535 port (omega arith) low high,
      written_is_found 0 MOST_CONNECTIONS connections (omega arith) (omega arith) le,
    ) refl

pub always_is_read : (config : List ℕ) (port seconds : ℕ) → IsPlainWord config → 1 ≤ port → port ≤ 65535 → 1 ≤ seconds → seconds ≤ MOST_PATIENCE →
    asked (codes "serve" ∷ config ∷ codes "--port" ∷ fmt.decimal port ∷ codes "--always" ∷ codes "--patience" ∷ fmt.decimal seconds ∷ []) ≡
    Some (Serves (record { config = config; port = port; doors = USUAL_DOORS; connections = Always; patience = Some seconds; store = None; log = None; audit = None }))
always_is_read config port seconds h low high some most =
    rw (
      plain_look config h,
      plain_look (fmt.decimal port) (decimal_plain port (omega (arith, high))),
      plain_look (fmt.decimal seconds) (decimal_plain seconds (omega (arith, most))),
      written_is_found 1 65535 port (omega arith) low high,
      written_is_found 1 MOST_PATIENCE seconds (omega arith) some most,
    ) refl

pub version_is_read : asked (codes "--version" ∷ []) ≡ Some Versions
version_is_read = refl
