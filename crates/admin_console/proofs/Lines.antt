-- How the lines of a console are taken.
use Rattle.std.proofs.Common.{◌≡◌, ◌≢◌, get_or, ◌≤◌, ◌<◌, ℕ, ◌+◌, ◌^◌, ◌-◌, min, Bool, true, false, List, [], ◌∷◌, ◌++◌, length, take, refl, sym, ap, ◌∙◌, subst, arith, append_assoc}
use Rattle.std.specs.Prelude.{if◌then◌else◌, nat_lt, slice_index, ◌==◌}
use Rattle.std.specs.Io.KnownBytes.{Consumes}
use Rattle.std.specs.Str.Lines.{strip_carriage_return}
use Rattle.std.proofs.KnownBytes.{Consumes-trans}
use Rattle.std.proofs.lemmas.Bool.Decides.{nat_tests}
use Rattle.std.proofs.lemmas.Grind.{common_steps}
use Rattle.std.proofs.lemmas.List.{take_all, take-append-le, length-take-le}
use Rattle.std.proofs.lemmas.List.Folds.{list_all-append}
use Rattle.okws_base.specs.Runs.{Each}
use Rattle.okws_plan.specs.declared.configuration.Config.{Config}
use Rattle.okws_outer.specs.Streams.{Rose, counted}
use Rattle.okws_outer.specs.Conns.{ConnWire, PullsFrom}
use Rattle.okws_outer.specs.declared.stream.Pull.TheVariants as pull
use Rattle.plain_text.specs.Words.{words}
use Rattle.admin_console.specs.Orders.{order_of, no_command, words_order}
use Rattle.admin_console.specs.declared.order.TheConstants.{LONGEST_COMMAND}
use Rattle.admin_console.specs.Reading.{IsPlain, IsBlank, ended, with_byte, TakesLine, TakesCommand}
use Rattle.admin_console.specs.declared.reader.TheConstants.{HELD}
use Rattle.admin_console.specs.declared.reader.Taken.TheVariants as taken
use Rattle.admin_console.proofs.Taking.{Took, took_none, took_more, took_end, took_failed}

-- ---- what is held of a line

held_more : (text : List ℕ) (b : ℕ) → with_byte (take HELD text) b ≡ take HELD (text ++ b ∷ [])
held_more text b = by_test (nat_lt (length text) HELD) refl
  where
    by_test : (t : Bool) → nat_lt (length text) HELD ≡ t → with_byte (take HELD text) b ≡ take HELD (text ++ b ∷ [])
    by_test true is =
        let short : length text < HELD = grind (arith, nat_tests) in
        let all : take HELD text ≡ text = take_all HELD text (omega arith) in
        let more : take HELD (text ++ b ∷ []) ≡ text ++ b ∷ [] = take_all HELD (text ++ b ∷ []) (grind (arith, common_steps)) in
        ap (λ (held : List ℕ). with_byte held b) all ∙ ap (λ (t : Bool). if t then text ++ b ∷ [] else text) is ∙ sym more
    by_test false is =
        let long : HELD ≤ length text = grind (arith, nat_tests) in
        let size : length (take HELD text) ≡ HELD = length-take-le HELD text long in
        let full : nat_lt (length (take HELD text)) HELD ≡ false = ap (λ (n : ℕ). nat_lt n HELD) size in
        ap (λ (t : Bool). if t then take HELD text ++ b ∷ [] else take HELD text) full ∙ sym (take-append-le HELD text (b ∷ []) long)

-- The bytes of a line so far have no LF, and the first of them are held.
pub record Holds (start now : ConnWire) (held : List ℕ) : Type 0 where
  pub text : List ℕ
  pub plain : IsPlain text
  pub held_is : held ≡ take HELD text
  pub took : Took start now text

pub holds_none : (start : ConnWire) (held : List ℕ) → held ≡ [] → Holds start start held
holds_none start held e = record { text = []; plain = refl; held_is = e; took = took_none start }

one_byte : (into : List ℕ) (n : ℕ) → length into ≡ 1 → 0 < n → n ≤ length into → take n into ≡ get_or into 0 0 ∷ []
one_byte into n e some most = grind (arith, common_steps)

pub plain_more : (text : List ℕ) (b : ℕ) → IsPlain text → b ≢ 10 → IsPlain (text ++ b ∷ [])
plain_more text b plain ne = grind (arith, nat_tests, list_all-append, plain)

pub holds_more : (start old new : ConnWire) (held after into : List ℕ) (n : ℕ) → Holds start old held → PullsFrom old new into (pull.Took n) → length into ≡ 1 → get_or into 0 0 ≢ 10 → after ≡ with_byte held (get_or into 0 0) → Holds start new after
holds_more start old new held after into n h p size ne is =
    let b = get_or into 0 0 in
    let one : take n into ≡ b ∷ [] = one_byte into n size p.pulls.0 p.pulls.1 in
    record {
      text = h.text ++ b ∷ [];
      plain = plain_more h.text b h.plain ne;
      held_is = is ∙ ap (λ (t : List ℕ). with_byte t b) h.held_is ∙ held_more h.text b;
      took = subst (λ (t : List ℕ). Took start new (h.text ++ t)) one (took_more start old new h.text into n h.took p);
    }

pub line_ended : (start old new : ConnWire) (held into : List ℕ) (n : ℕ) → Holds start old held → PullsFrom old new into (pull.Took n) → length into ≡ 1 → get_or into 0 0 ≡ 10 → TakesLine start new held taken.Line
line_ended start old new held into n h p size is =
    let one : take n into ≡ 10 ∷ [] = one_byte into n size p.pulls.0 p.pulls.1 ∙ ap (λ (b : ℕ). b ∷ []) is in
    let more = subst (λ (t : List ℕ). Took start new (h.text ++ t)) one (took_more start old new h.text into n h.took p) in
    record { text = h.text; plain = h.plain; held_is = h.held_is; given = more.given; later = more.later; still = λ _. more.still; ends = more.taken }

pub line_cut : (start old new : ConnWire) (held into : List ℕ) → Holds start old held → PullsFrom old new into pull.End → TakesLine start new held taken.Ended
line_cut start old new held into h p =
    let at_end = took_end start old new h.text into h.took p in
    record { text = h.text; plain = h.plain; held_is = h.held_is; given = at_end.0.given; later = at_end.0.later; still = λ _. at_end.0.still; ends = (at_end.0.taken, at_end.1) }

pub line_failed : (start old new : ConnWire) (held into : List ℕ) → Holds start old held → PullsFrom old new into pull.Failed → TakesLine start new held taken.Failed
line_failed start old new held into h p =
    let failed = took_failed start old new h.text into h.took p in
    record { text = h.text; plain = h.plain; held_is = h.held_is; given = failed.given; later = failed.later; still = λ fine. absurd (fine refl); ends = (failed.taken, failed.rose) }

-- ---- what is held tells what the line says

strip_length : (text : List ℕ) → length text ≤ length (strip_carriage_return text) + 1
strip_length text = by_test (slice_index text (length text - 1) == 13)
  where
    by_test : (b : Bool) → length text ≤ length (if b then take (length text - 1) text else text) + 1
    by_test true = let size = length-take-le (length text - 1) text (omega arith) in omega (arith, size)
    by_test false = omega arith

long_held : (text : List ℕ) → HELD ≤ length text → LONGEST_COMMAND < length (strip_carriage_return (take HELD text))
long_held text long =
    let size : length (take HELD text) ≡ HELD = length-take-le HELD text long in
    omega (arith, size, strip_length (take HELD text))

by_size : (text : List ℕ) (P : Type 0) → (length text ≤ HELD → P) → (HELD ≤ length text → P) → P
by_size text P short long = by_test (nat_lt (length text) HELD) refl
  where
    by_test : (b : Bool) → nat_lt (length text) HELD ≡ b → P
    by_test true is = short (let s : length text < HELD = grind (arith, nat_tests) in omega arith)
    by_test false is = long (grind (arith, nat_tests))

pub blank_held : (text : List ℕ) → strip_carriage_return (take HELD text) ≡ [] → strip_carriage_return text ≡ []
blank_held text e = by_size text _
    (λ short. subst (λ (t : List ℕ). strip_carriage_return t ≡ []) (take_all HELD text short) e)
    (λ long. absurd (omega (arith, long_held text long, ap length e)))

pub held_blank : (text : List ℕ) → strip_carriage_return text ≡ [] → strip_carriage_return (take HELD text) ≡ []
held_blank text e =
    let few : length text ≤ 1 = omega (arith, strip_length text, ap length e) in
    subst (λ (t : List ℕ). strip_carriage_return t ≡ []) (sym (take_all HELD text (omega arith))) e

too_long : (C : Config) (line : List ℕ) → LONGEST_COMMAND < length line → order_of C line ≡ no_command
unfolding order_of
too_long C line long =
    let test : nat_lt LONGEST_COMMAND (length line) ≡ true = grind (arith, nat_tests) in
    ap (λ (b : Bool). if b then no_command else words_order C (words line)) test

pub order_held : (C : Config) (text : List ℕ) → order_of C (strip_carriage_return (take HELD text)) ≡ order_of C (strip_carriage_return text)
order_held C text = by_size text _
    (λ short. ap (λ (t : List ℕ). order_of C (strip_carriage_return t)) (take_all HELD text short))
    (λ long. too_long C _ (long_held text long) ∙ sym (too_long C _ (omega (arith, strip_length text, long))))

-- ---- empty lines

pub ended_more : (lines : List (List ℕ)) (line : List ℕ) → ended (lines ++ line ∷ []) ≡ ended lines ++ (line ++ 10 ∷ [])
ended_more [] line = refl
ended_more (first ∷ lines) line = ap (λ (t : List ℕ). first ++ 10 ∷ t) (ended_more lines line) ∙ sym (append_assoc first (10 ∷ ended lines) (line ++ 10 ∷ []))

each_more : {A : Type 0} (P : A → Type 0) (xs : List A) (x : A) → Each P xs → P x → Each P (xs ++ x ∷ [])
each_more P [] x e p = (p, tt)
each_more P (y ∷ xs) x e p = (e.0, each_more P xs x e.1 p)

-- Empty lines were taken since the start, and counted.
pub record Skipped (start now : ConnWire) (before after : ℕ) : Type 0 where
  pub blanks : List (List ℕ)
  pub are_blank : Each IsBlank blanks
  pub took : Took start now (ended blanks)
  pub count : after ≡ counted before (length blanks)

pub skipped_none : (start : ConnWire) (before : ℕ) → before < 2 ^ 64 → Skipped start start before before
skipped_none start before within = record { blanks = []; are_blank = tt; took = took_none start; count = omega arith }

pub skipped_more : (start old new : ConnWire) (before mid after : ℕ) (held : List ℕ) → Skipped start old before mid → TakesLine old new held taken.Line → strip_carriage_return held ≡ [] → after ≡ min (mid + 1) (2 ^ 64 - 1) → Skipped start new before after
skipped_more start old new before mid after held s line empty is =
    let blank : strip_carriage_return line.text ≡ [] = blank_held line.text (subst (λ (t : List ℕ). strip_carriage_return t ≡ []) line.held_is empty) in
    let size : length (s.blanks ++ line.text ∷ []) ≡ length s.blanks + 1 = grind (arith, common_steps) in
    record {
      blanks = s.blanks ++ line.text ∷ [];
      are_blank = each_more IsBlank s.blanks line.text s.are_blank (line.plain, blank);
      took = record {
        taken = subst (λ (t : List ℕ). Consumes start.left new.left t) (sym (ended_more s.blanks line.text)) (Consumes-trans start.left old.left new.left (ended s.blanks) (line.text ++ 10 ∷ []) s.took.taken line.ends);
        given = line.given ∙ s.took.given;
        later = omega (arith, s.took.later, line.later);
        still = line.still (λ e. cc) ∙ s.took.still;
      };
      count = omega (arith, is, s.count, size);
    }

pub command_taken : (start old new : ConnWire) (before mid after : ℕ) (held : List ℕ) → Skipped start old before mid → TakesLine old new held taken.Line → (strip_carriage_return held ≡ [] → ⊥) → after ≡ min (mid + 1) (2 ^ 64 - 1) → TakesCommand start new before after held taken.Line
command_taken start old new before mid after held s line filled is = record {
  blanks = s.blanks;
  text = line.text;
  are_blank = s.are_blank;
  plain = line.plain;
  held_is = line.held_is;
  count = omega (arith, is, s.count);
  given = line.given ∙ s.took.given;
  later = omega (arith, s.took.later, line.later);
  still = λ _. line.still (λ e. cc) ∙ s.took.still;
  ends = (
    Consumes-trans start.left old.left new.left (ended s.blanks) (line.text ++ 10 ∷ []) s.took.taken line.ends,
    λ blank. filled (subst (λ (t : List ℕ). strip_carriage_return t ≡ []) (sym line.held_is) (held_blank line.text blank.1)),
  );
}

pub command_cut : (start old new : ConnWire) (before after : ℕ) (held : List ℕ) → Skipped start old before after → TakesLine old new held taken.Ended → TakesCommand start new before after held taken.Ended
command_cut start old new before after held s line = record {
  blanks = s.blanks;
  text = line.text;
  are_blank = s.are_blank;
  plain = line.plain;
  held_is = line.held_is;
  count = s.count;
  given = line.given ∙ s.took.given;
  later = omega (arith, s.took.later, line.later);
  still = λ _. line.still (λ e. cc) ∙ s.took.still;
  ends = (Consumes-trans start.left old.left new.left (ended s.blanks) line.text s.took.taken line.ends.0, line.ends.1);
}

pub command_failed : (start old new : ConnWire) (before after : ℕ) (held : List ℕ) → Skipped start old before after → TakesLine old new held taken.Failed → TakesCommand start new before after held taken.Failed
command_failed start old new before after held s line =
    let rose : Rose old.faults new.faults = line.ends.1 in
    record {
      blanks = s.blanks;
      text = line.text;
      are_blank = s.are_blank;
      plain = line.plain;
      held_is = line.held_is;
      count = s.count;
      given = line.given ∙ s.took.given;
      later = omega (arith, s.took.later, line.later);
      still = λ fine. absurd (fine refl);
      ends = (Consumes-trans start.left old.left new.left (ended s.blanks) line.text s.took.taken line.ends.0, omega (arith, s.took.later, rose));
    }

-- ---- whether a line is empty

pub is_filled : (text shown line : List ℕ) (b : Bool) → shown ≡ strip_carriage_return line → line ≡ text → b ≡ (length shown == 0) → b ≡ false → strip_carriage_return text ≡ [] → ⊥
is_filled text shown line b shows same test is empty =
    let none : shown ≡ [] = shows ∙ ap strip_carriage_return same ∙ empty in
    let zero : (length shown == 0) ≡ true = ap (λ (t : List ℕ). length t == 0) none in
    cc

pub is_empty : (text shown line : List ℕ) (b : Bool) → shown ≡ strip_carriage_return line → line ≡ text → b ≡ (length shown == 0) → b ≡ true → strip_carriage_return text ≡ []
is_empty text shown line b shows same test is =
    let none : length shown ≡ 0 = grind (arith, nat_tests) in
    let blank : shown ≡ [] = grind (arith, common_steps) in
    sym (ap strip_carriage_return same) ∙ sym shows ∙ blank
