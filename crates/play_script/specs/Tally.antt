-- How what is printed of a run is tallied, byte by byte.
use Rattle.std.specs.Prelude.{ℕ, ◌+◌, ◌-◌, ◌*◌, ◌^◌, min, ◌==◌, nat_lt, List, fold, replicate, slice_index_or, slice_set, if◌then◌else◌}
use Rattle.play_script.specs.declared.tally.Place.{Place}
use Rattle.play_script.specs.declared.tally.Place.TheVariants.{Start, Words, Length, Kind, KindHigh, Rule, RuleHigh, Rest}

-- A count after one more, which stays at its last value.
abbrev pub counted : ℕ → ℕ
counted n = min (n + 1) (2 ^ 64 - 1)

-- One more is counted at an index.
abbrev pub tick : List ℕ → ℕ → List ℕ
tick counts i = slice_set counts i (counted (slice_index_or counts i 0))

-- What was counted: the frames of each kind but Denied, the Denied frames by their rule, and the place in the text.
pub record Tallied : Type 0 where
  pub kinds : List ℕ
  pub rules : List ℕ
  pub place : Place

-- Nothing was counted.
abbrev pub no_tally : Tallied
no_tally = record { kinds = replicate 256 0; rules = replicate 256 0; place = Start }

-- The value of a digit of base 16, in lower case.
abbrev pub digit_value : ℕ → ℕ
digit_value b = if nat_lt b 97 then b - 48 else b - 87

-- The number that two digits write.
abbrev pub two_digits : ℕ → ℕ → ℕ
two_digits high low = digit_value high * 16 + digit_value low

-- The same tally at another place.
abbrev pub at_place : Tallied → Place → Tallied
at_place T place = record T { place = place }

-- A frame of this kind is counted; where it is Denied, the rule follows.
abbrev pub of_kind : Tallied → ℕ → Tallied
of_kind T kind = if kind == 9 then at_place T Rule else record T { kinds = tick T.kinds kind; place = Rest }

-- The first byte of a line: `h` where the line tells of a frame.
abbrev pub begun : ℕ → Place
begun b = if b == 104 then Words 0 else if b == 10 then Start else Rest

-- A byte in one of the three words before the digits, of which so many have ended.
abbrev pub in_words : ℕ → ℕ → Place
in_words n b = if b == 32 then (if nat_lt n 2 then Words (n + 1) else Length 0) else Words n

-- The place behind a digit of the frame's length, before which so many stand.
abbrev pub in_length : ℕ → Place
in_length n = if nat_lt n 7 then Length (n + 1) else Kind

-- The place behind a byte that doesn't count.
abbrev pub in_rest : ℕ → Place
in_rest b = if b == 10 then Start else Rest

-- A Denied frame of this rule is counted.
abbrev pub of_rule : Tallied → ℕ → Tallied
of_rule T rule = record T { rules = tick T.rules rule; place = Rest }

-- A byte more at a place.
abbrev pub stepped : Place → Tallied → ℕ → Tallied
stepped Start T b = at_place T (begun b)
stepped (Words n) T b = at_place T (in_words n b)
stepped (Length n) T b = at_place T (in_length n)
stepped Kind T b = at_place T (KindHigh b)
stepped (KindHigh high) T b = of_kind T (two_digits high b)
stepped Rule T b = at_place T (RuleHigh b)
stepped (RuleHigh high) T b = of_rule T (two_digits high b)
stepped Rest T b = at_place T (in_rest b)

-- A byte more of the text.
abbrev pub step : Tallied → ℕ → Tallied
step T b = stepped T.place T b

-- What a text tells: each line `heard SERVICE K HEX` is counted by the kind, or else the rule, that its HEX has.
abbrev pub tally_of : List ℕ → Tallied
tally_of text = fold step no_tally text
