-- A run while its workers are at their posts, and what it leaves.
use Rattle.std.proofs.Common.{◌≡◌, ℕ, List, length, sym, ◌∙◌, subst, arith}
use Rattle.std.proofs.lemmas.Bool.{true≢false}
use Rattle.std.specs.Prelude.{Some, None, IfSome, IfNone, IsSome, IsNone}
use Rattle.std.specs.declared.option.Option.{Option}
use Rattle.turn_lock.specs.BoardSeats.{AllAt, BoardIs}
use Rattle.okws_plan.specs.declared.configuration.Config.{Config}
use Rattle.turn_lock.specs.Seats.{TurnIs}
use Rattle.site_run.specs.Rows.{ChairsAre, Seated, Spacious, SameRoom}
use Rattle.site_run.specs.Places.{PlacesAre}
use Rattle.site_run.specs.Whole.{IsHeld, IsReady}

-- the seats are held again when the workers left their posts
pub held_again : (C : Config) (n : ℕ) (turn : TurnIs) (numbers : BoardIs) (cells : List TurnIs) (x y : ChairsAre) (v w : PlacesAre)
    → IsReady C n turn numbers cells x v → Seated turn (length C.services) y → length y.seats ≡ length x.seats → SameRoom x y
    → (length w.entrances ≡ length v.entrances) × (length w.places ≡ length v.entrances) × AllAt numbers.id w.places → IsHeld C n turn numbers cells y w
held_again C n turn numbers cells x y v w h s l room p =
    let i = h.held in
    let a = i.seats_roomy in
    let b = i.cells_roomy in
    let c = room.seats in
    let d = room.cells in
    let e = i.doors_many in
    let f = i.some in
    let m = i.few in
    let q = p.0 in
    let r = p.1 in
    record {
      seated = s;
      seats_many = l ∙ i.seats_many;
      seats_roomy = omega arith;
      cells_roomy = omega arith;
      doors_many = omega arith;
      some = omega arith;
      few = omega arith;
      places_many = omega arith;
      places_at = p.2;
      turn_count = i.turn_count;
      numbers_count = i.numbers_count;
      cells_count = i.cells_count;
      services = i.services;
    }

-- there is room for the seats of all workers
pub ready_spacious : (C : Config) (n : ℕ) (turn : TurnIs) (numbers : BoardIs) (cells : List TurnIs) (x : ChairsAre) (v : PlacesAre) → IsReady C n turn numbers cells x v → Spacious (length x.seats) x
ready_spacious C n turn numbers cells x v h =
    let i = h.held in
    let a = i.seats_roomy in
    let b = i.cells_roomy in
    let c = h.turns_roomy in
    let d = i.seats_many in
    record { seats = omega arith; cells = omega arith; turns = omega arith }

pub if_some : {A : Type 0} (o : Option A) (x : A) (P : A → Type 0) → o ≡ Some x → P x → IfSome o P
if_some o x P e p = subst (λ q. IfSome q P) (sym e) p

-- where there is no value, nothing is said of it
pub none_some : {A : Type 0} (o : Option A) (P : A → Type 0) → IsNone o → IfSome o P
none_some None P e = tt
none_some (Some x) P e = absurd (true≢false e)

pub none_then : {A : Type 0} (o : Option A) (P : Type 0) → IsNone o → IsSome o → P
none_then None P e f = absurd (true≢false (sym f))
none_then (Some x) P e f = absurd (true≢false e)

pub always_none : {A : Type 0} (o : Option A) (P : Type 0) → P → IfNone o P
always_none None P p = p
always_none (Some x) P p = tt

pub some_none : {A : Type 0} (o : Option A) (P : Type 0) → IsSome o → IfNone o P
some_none None P e = absurd (true≢false (sym e))
some_none (Some x) P e = tt

-- of two values that may be there, what follows from what is said
pub if_both : {A B : Type 0} (o : Option A) (p : Option B) (P Q : A → B → Type 0) → ((a : A) (b : B) → P a b → Q a b) → IfSome o (λ a. IfSome p (P a)) → IfSome o (λ a. IfSome p (Q a))
if_both None p P Q f h = tt
if_both (Some a) None P Q f h = tt
if_both (Some a) (Some b) P Q f h = f a b h
