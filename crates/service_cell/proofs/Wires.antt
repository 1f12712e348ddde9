-- What comes and goes over a link, step after step.
use Rattle.std.proofs.Common.{◌≡◌, ◌≤◌, ℕ, ◌+◌, Bool, true, false, List, [], ◌++◌, length, take, drop, refl, sym, ap, subst, ◌∙◌, append_assoc, arith, take-append-drop}
use Rattle.std.specs.Prelude.{IsFalse, MatchResult}
use Rattle.std.specs.declared.option.Option.{Option}
use Rattle.std.specs.declared.result.Result.{Result}
use Rattle.std.specs.declared.result.Result.TheVariants.{Ok, Err}
use Rattle.std.specs.Io.KnownBytes.{Appends, Consumes}
use Rattle.std.proofs.KnownBytes.{Appends-trans, Appends-nil, Consumes-trans, Consumes-nil}
use Rattle.std.proofs.lemmas.List.{append-nil, length-append}
use Rattle.okws_outer.specs.Streams.{Rose, AppendsPrefix}
use Rattle.frame_codec.specs.Spelling.{four, size, server_parts, server_spelling, HasSpelling}
use Rattle.frame_codec.specs.declared.frame.ServerFrame.{ServerFrame}
use Rattle.frame_codec.proofs.Sizes.{length-four}
use Rattle.frame_codec.proofs.Formats.{bytes_of, length-bytes_of, joined-is}
use Rattle.frame_codec.proofs.Whole.{lawful_bounds}
use Rattle.okws_outer.specs.Wire.{Wire, Receives, Gives, GainsRoom}
use Rattle.frame_link.specs.declared.sending.LinkFault.{LinkFault}
use Rattle.service_cell.specs.Standing.{Moves, Breaks}
use Rattle.service_cell.specs.Exchange.{PutsFrame}

-- ---- how long a spelling is

pub length-spelling : (frame : ServerFrame) → length (server_spelling frame) ≡ size (server_parts frame) + 4
length-spelling frame =
    let n : ℕ = size (server_parts frame) in
    ap length (joined-is (four n) (server_parts frame)) ∙ length-append (four n) (bytes_of (server_parts frame)) ∙ omega (arith, length-four n, length-bytes_of (server_parts frame))

pub spelling_is_short : (frame : ServerFrame) → HasSpelling frame → length (server_spelling frame) ≤ 1048580
spelling_is_short frame has = omega (arith, length-spelling frame, (lawful_bounds (size (server_parts frame)) has.1).1)

-- ---- steps

consumes_none : (a b : Option (List ℕ)) → b ≡ a → Consumes a b []
consumes_none a b e = subst (λ (o : Option (List ℕ)). Consumes a o []) (sym e) (Consumes-nil a)

appends_none : (a b : Option (List ℕ)) → b ≡ a → Appends a b []
appends_none a b e = subst (λ (o : Option (List ℕ)). Appends a o []) (sym e) (Appends-nil a)

pub stood : (old new : Wire) → GainsRoom old new → Moves old new [] []
stood old new s = record { whose = s.whose; came = s.came; takes = consumes_none old.left new.left s.left; puts = appends_none old.given new.given s.given; untold = λ none. s.given ∙ none; faults = s.faults; steady = s.steady; ended = s.ended }

pub unmoved : (w : Wire) → Moves w w [] []
unmoved w = record { whose = refl; came = refl; takes = Consumes-nil w.left; puts = Appends-nil w.given; untold = λ none. none; faults = refl; steady = refl; ended = refl }

pub moves_then : (a b c : Wire) (t u p q : List ℕ) → Moves a b t p → Moves b c u q → Moves a c (t ++ u) (p ++ q)
moves_then a b c t u p q x y = record {
  whose = y.whose ∙ x.whose;
  came = y.came ∙ x.came;
  takes = Consumes-trans a.left b.left c.left t u x.takes y.takes;
  puts = Appends-trans a.given b.given c.given p q x.puts y.puts;
  untold = λ none. y.untold (x.untold none);
  faults = y.faults ∙ x.faults;
  steady = y.steady ∙ x.steady;
  ended = y.ended ∙ x.ended;
}

rose_later : (a b c : ℕ) → a ≤ b → Rose b c → Rose a c
rose_later a b c le rose = omega (arith, rose)

pub breaks_after : (a b c : Wire) (t u p q due : List ℕ) → Moves a b t p → Breaks b c u q due → Breaks a c (t ++ u) (p ++ q) due
breaks_after a b c t u p q due x y = record {
  whose = y.whose ∙ x.whose;
  came = y.came ∙ x.came;
  takes = Consumes-trans a.left b.left c.left t u x.takes y.takes;
  front = y.front;
  rest = y.rest;
  cut = y.cut;
  puts = subst (λ (bytes : List ℕ). Appends a.given c.given bytes) (sym (append_assoc p q y.front)) (Appends-trans a.given b.given c.given p (q ++ y.front) x.puts y.puts);
  untold = λ none. y.untold (x.untold none);
  faults = rose_later a.faults b.faults c.faults (omega (arith, x.faults)) y.faults;
  steady = y.steady ∙ x.steady;
  unsteady = sym x.steady ∙ y.unsteady;
  ended = y.ended ∙ x.ended;
}

-- one of the two put or took nothing
pub took_then_put : (a b c : Wire) (t q : List ℕ) → Moves a b t [] → Moves b c [] q → Moves a c t q
took_then_put a b c t q x y = subst (λ (bytes : List ℕ). Moves a c bytes q) (append-nil t) (moves_then a b c t [] [] q x y)

pub took_then_broke : (a b c : Wire) (t due : List ℕ) → Moves a b t [] → Breaks b c [] [] due → Breaks a c t [] due
took_then_broke a b c t due x y = subst (λ (bytes : List ℕ). Breaks a c bytes [] due) (append-nil t) (breaks_after a b c t [] [] [] due x y)

-- ---- a frame that was put

unsteady_by : (b : Bool) → (b ≡ true → ⊥) → IsFalse b
unsteady_by true never = absurd (never refl)
unsteady_by false never = refl

pub puts_frame : (old new : Wire) (text : List ℕ) (result : Result (Unit {0}) LinkFault)
    → MatchResult result (λ _. Appends old.given new.given text) (λ _. AppendsPrefix old.given new.given text)
    → Gives old new (length text) (result ≡ Ok tt)
    → (old.steady ≡ true → length text ≤ old.room)
    → PutsFrame old text result new
puts_frame old new text (Ok done) bytes link room =
    record { whose = link.whose; came = link.came; takes = consumes_none old.left new.left link.left; puts = bytes; untold = link.untold; faults = link.still refl; steady = link.steady; ended = link.ended }
puts_frame old new text (Err fault) bytes link room =
    record {
      whose = link.whose;
      came = link.came;
      takes = consumes_none old.left new.left link.left;
      front = take bytes.taken text;
      rest = drop bytes.taken text;
      cut = take-append-drop bytes.taken text;
      puts = bytes.given;
      untold = link.untold;
      faults = link.faults.cause (λ e. cc);
      steady = link.steady;
      unsteady = unsteady_by old.steady (λ is. let done = link.sure is (room is) in cc);
      ended = link.ended;
    }

-- room was made first, and then a fault came before a frame was there
pub broke_taking : (old mid new : Wire) (taken : List ℕ) (fault : Type 0) → GainsRoom old mid → Consumes mid.left new.left taken → Receives mid new fault → fault → Breaks old new taken [] []
broke_taking old mid new taken fault made takes link failed = breaks_after old mid new [] taken [] [] [] (stood old mid made) (record {
  whose = link.whose;
  came = link.came;
  takes = takes;
  front = [];
  rest = [];
  cut = refl;
  puts = appends_none mid.given new.given link.given;
  untold = λ none. link.given ∙ none;
  faults = link.faults.cause failed;
  steady = link.steady;
  unsteady = unsteady_by mid.steady (λ steady. link.sure steady failed);
  ended = link.ended;
})

-- room was made first, and then bytes were taken
pub took : (old mid new : Wire) (taken : List ℕ) (fault : Type 0) → GainsRoom old mid → Consumes mid.left new.left taken → Receives mid new fault → (fault → ⊥) → Moves old new taken []
took old mid new taken fault made takes link never = moves_then old mid new [] taken [] [] (stood old mid made) (record {
  whose = link.whose;
  came = link.came;
  takes = takes;
  puts = appends_none mid.given new.given link.given;
  untold = λ none. link.given ∙ none;
  faults = link.still never;
  steady = link.steady;
  ended = link.ended;
})
