-- The numbers that are drawn, and the rounds.
use Rattle.std.proofs.Common.{◌≡◌, ℕ, suc, ◌<◌, ◌≤◌, ◌+◌, true, false, List, [], ◌∷◌, ◌++◌, length, refl, sym, ap, ◌∙◌, subst, arith}
use Rattle.std.specs.Prelude.{IsNone, slice_index, slice_set}
use Rattle.okws_plan.specs.declared.configuration.Config.{Config}
use Rattle.okws_outer.specs.Conns.{ConnWire}
use Rattle.okws_outer.specs.Doors.{Entrance}
use Rattle.turn_lock.specs.Board.{AllUnder, most_drawn}
use Rattle.turn_lock.specs.BoardSeats.{MayDraw}
use Rattle.turn_lock.specs.BoardSeats.{SeatIs as BoardSeat}
use Rattle.http_front.specs.declared.kept.Kept.{Kept}
use Rattle.http_front.specs.Replies.{Replied}
use Rattle.door_worker.specs.Serving.{Serves}
use Rattle.door_worker.specs.declared.serving.Serving.{Serving}
use Rattle.door_worker.specs.declared.serving.Serving.TheVariants as serving
use Rattle.site_worker.specs.Lives.{Life, SameWorker}
use Rattle.site_worker.specs.Rounds.{is_awaited, is_starved, taken, WhereAwaited, Round, Rounds, Attends}
use Rattle.site_worker.specs.declared.door.TheConstants.{STOPPED}
use Rattle.site_worker.proofs.Same.{same_at_once, same_on, same_round}

-- so many rounds took a connection: no more than the number drawn last, and one
abbrev pub IsWithin : ℕ → List ℕ → Type 0
IsWithin done [] = done ≡ 0
IsWithin done (n ∷ ns) = done ≤ n + 1

within_none : (drawn : List ℕ) → IsWithin 0 drawn
within_none [] = refl
within_none (n ∷ ns) = omega arith

pub within_drawn : (done r : ℕ) (drawn : List ℕ) → IsWithin done drawn → AllUnder r drawn → done ≤ r
within_drawn done r [] h u = omega arith
within_drawn done r (n ∷ ns) h u = let l = u.0 in omega arith

pub taken_one : (what : Serving) → taken what ≤ 1
taken_one (serving.Served a) = omega arith
taken_one (serving.ConnFault a) = omega arith
taken_one serving.NoConn = omega arith
taken_one serving.NoneCame = omega arith
taken_one serving.NoMemory = omega arith

one_more : (e f : Entrance) (n : ℕ) → length f.finished ≡ suc n → n ≡ length e.finished → length f.finished ≡ length e.finished + 1
one_more e f n a b = omega arith

the_same : (e f : Entrance) → length f.finished ≡ length e.finished → length f.finished ≡ length e.finished + 0
the_same e f a = omega arith

pub connections_of : {X S : Type 0} (wire : X → ConnWire) (handles : S → _ → _ → Replied → S → Type 0) (starves : S → S → Type 0) (e f : Entrance) (J K : S) (kept : Kept) (reply : Replied) (what : Serving)
    → Serves wire handles starves e f J K kept reply what → length f.finished ≡ length e.finished + taken what
connections_of wire handles starves e f J K kept reply (serving.Served a) h = one_more e f (length e.finished) (ap (λ (x : Entrance). length x.finished) h.finishes.finished) refl
connections_of wire handles starves e f J K kept reply (serving.ConnFault a) h = one_more e f (length e.finished) (ap (λ (x : Entrance). length x.finished) h.finishes.finished) refl
connections_of wire handles starves e f J K kept reply serving.NoConn h = the_same e f (ap (λ (x : Entrance). length x.finished) h.0.kept)
connections_of wire handles starves e f J K kept reply serving.NoneCame h = the_same e f (ap (λ (x : Entrance). length x.finished) h.0)
connections_of wire handles starves e f J K kept reply serving.NoMemory h = the_same e f (ap (λ (x : Entrance). length x.finished) h.0)

-- where no connection came, nothing changed
pub awaited_same : {X : Type 0} (wire : X → ConnWire) (site : Config) (n number : ℕ) (f g : Entrance) (M K : Life) (what : Serving) → is_awaited what ≡ true → Round wire site n number f g M K what → (g ≡ f) × (K ≡ M)
awaited_same wire site n number f g M K (serving.Served a) t h = absurd (cc)
awaited_same wire site n number f g M K (serving.ConnFault a) t h = absurd (cc)
awaited_same wire site n number f g M K serving.NoConn t h = absurd (cc)
awaited_same wire site n number f g M K serving.NoneCame t h = (h.serves.0, h.tends ∙ h.serves.1)
awaited_same wire site n number f g M K serving.NoMemory t h = absurd (cc)

-- a connection came, or it needs no cause that none did
pub awaited_else : (what : Serving) (fact : Type 0) → is_awaited what ≡ false → WhereAwaited what fact
awaited_else (serving.Served a) fact t = tt
awaited_else (serving.ConnFault a) fact t = tt
awaited_else serving.NoConn fact t = tt
awaited_else serving.NoneCame fact t = absurd (cc)
awaited_else serving.NoMemory fact t = tt

pub awaited_for : (what : Serving) (fact : Type 0) → fact → WhereAwaited what fact
awaited_for (serving.Served a) fact t = tt
awaited_for (serving.ConnFault a) fact t = tt
awaited_for serving.NoConn fact t = tt
awaited_for serving.NoneCame fact t = t
awaited_for serving.NoMemory fact t = tt

awaited_later : (what : Serving) (a b : ℕ) → a ≤ b → WhereAwaited what (0 < a) → WhereAwaited what (0 < b)
awaited_later (serving.Served x) a b l h = tt
awaited_later (serving.ConnFault x) a b l h = tt
awaited_later serving.NoConn a b l h = tt
awaited_later serving.NoneCame a b l h = omega arith
awaited_later serving.NoMemory a b l h = tt

-- the same rounds, where more was seen
rounds_later : {X : Type 0} (wire : X → ConnWire) (site : Config) (n a b : ℕ) (numbers : List ℕ) (e f : Entrance) (J K : Life) → a ≤ b → Rounds wire site n a numbers e f J K → Rounds wire site n b numbers e f J K
rounds_later wire site n a b [] e f J K l h = h
rounds_later wire site n a b (number ∷ numbers) e f J K l h =
    (h.0, h.1, rounds_later wire site n a b numbers e h.0 J h.1 l h.2, h.3, h.4, h.5, awaited_later h.3 a b l h.6)

-- what the seat has seen of the word that shows that the run is stopped
abbrev pub shown : BoardSeat → ℕ
shown place = slice_index place.seen STOPPED

-- the same while no connection comes
pub record Awaiting (f g : Entrance) (M K : Life) (old new : BoardSeat) : Type 0 where
  pub door : g ≡ f
  pub life : K ≡ M
  pub place : new ≡ record old { seen = new.seen }
  pub rises : shown old ≤ shown new
  pub idle : IsNone g.out

pub awaiting_first : (f : Entrance) (M : Life) (place : BoardSeat) → IsNone f.out → Awaiting f f M M place place
awaiting_first f M place idle = record { door = refl; life = refl; place = refl; rises = omega arith; idle = idle }

module _ {X : Type 0} (wire : X → ConnWire) (site : Config) (n number : ℕ) (e f g : Entrance) (J M K : Life) (start place : BoardSeat) (h : Awaiting e f J M start place) (what : Serving) (round : Round wire site n number f g M K what) where
  -- the round is one from the beginning
  pub round_all : Round wire site n number e g J K what
  round_all = subst (λ (x : Entrance × Life). Round wire site n number x.0 g x.1 K what) (λ i. (h.door i, h.life i)) round

  module _ (result : ℕ) (now : BoardSeat) (least : shown place ≤ result) (seen : now ≡ record place { seen = slice_set place.seen STOPPED result }) (is : shown now ≡ result) where
    pub looked_place : now ≡ record start { seen = now.seen }
    looked_place = seen ∙ (ap (λ (x : BoardSeat). record x { seen = slice_set place.seen STOPPED result }) h.place ∙ ap (λ (l : List ℕ). record start { seen = l }) (sym (ap (λ (x : BoardSeat). x.seen) seen)))

    pub looked_rises : shown start ≤ shown now
    looked_rises = let a = h.rises in omega (arith, a, least, is)

    pub looked_awaited : 0 < result → WhereAwaited what (0 < shown now)
    looked_awaited l = awaited_for what (0 < shown now) (omega (arith, l, is))

    pub awaiting_next : is_awaited what ≡ true → IsNone g.out → Awaiting e g J K start now
    awaiting_next t idle = let same = awaited_same wire site n number f g M K what t round in record {
      door = same.0 ∙ h.door;
      life = same.1 ∙ h.life;
      place = looked_place;
      rises = looked_rises;
      idle = idle;
    }

-- what stands when the next number is drawn
pub record Attending {X : Type 0} (wire : X → ConnWire) (site : Config) (n limit : ℕ) (e f : Entrance) (J K : Life) (start place : BoardSeat) (connections : ℕ) : Type 0 where
  pub numbers : List ℕ
  pub rounds : Rounds wire site n (shown place) numbers e f J K
  pub under : AllUnder limit numbers
  pub drew : place.drawn ≡ numbers ++ start.drawn
  pub place_is : place ≡ record start { seen = place.seen; drawn = place.drawn }
  pub count : length f.finished ≡ length e.finished + connections
  pub within : IsWithin connections place.drawn
  pub may : MayDraw place.drawn
  pub idle : IsNone f.out
  pub same : SameWorker J K

module _ {X : Type 0} (wire : X → ConnWire) (site : Config) (n limit : ℕ) (e : Entrance) (J : Life) (start : BoardSeat) where
  pub attending_first : IsNone e.out → MayDraw start.drawn → Attending wire site n limit e e J J start start 0
  attending_first idle may = record {
    numbers = [];
    rounds = (refl, refl);
    under = tt;
    drew = refl;
    place_is = refl;
    count = the_same e e refl;
    within = within_none start.drawn;
    may = may;
    idle = idle;
    same = same_at_once J J refl;
  }

  module _ (f : Entrance) (M : Life) (place now : BoardSeat) (connections number : ℕ) (h : Attending wire site n limit e f J M start place connections) (above : AllUnder number place.drawn) (drew : now ≡ record place { drawn = number ∷ place.drawn }) where
    pub drawn_most : connections ≤ number
    drawn_most = within_drawn connections number place.drawn h.within above

    drawn_now : now.drawn ≡ number ∷ (h.numbers ++ start.drawn)
    drawn_now = ap (λ (x : BoardSeat). x.drawn) drew ∙ ap (λ (l : List ℕ). number ∷ l) h.drew

    seen_now : now.seen ≡ place.seen
    seen_now = ap (λ (x : BoardSeat). x.seen) drew

    pub place_now : now ≡ record start { seen = now.seen; drawn = now.drawn }
    place_now = drew ∙ (ap (λ (x : BoardSeat). record x { drawn = number ∷ place.drawn }) h.place_is
        ∙ ap (λ (x : List ℕ × List ℕ). record start { seen = x.0; drawn = x.1 }) (λ i. (sym seen_now i, sym (ap (λ (x : BoardSeat). x.drawn) drew) i)))

    pub attending_limit : limit ≤ number → Attends wire site n limit (shown now) e f J M start.drawn now.drawn (record { connections = connections; starved = false })
    attending_limit l = record {
      numbers = h.numbers;
      last = number;
      rounds = subst (λ (x : List ℕ). Rounds wire site n (slice_index x STOPPED) h.numbers e f J M) (sym seen_now) h.rounds;
      under = h.under;
      ends = l;
      drew = drawn_now;
      connections = h.count;
    }

    module _ (g : Entrance) (K : Life) (what : Serving) (round : Round wire site n number f g M K what) (below : number < limit) (later : BoardSeat) (went : later ≡ record now { seen = later.seen }) (rises : shown now ≤ shown later) where
      starved_rounds : (what : Serving) → is_starved what ≡ true → (h : Round wire site n number f g M K what) → (g ≡ f) × (K ≡ M)
      starved_rounds (serving.Served a) t h = absurd (cc)
      starved_rounds (serving.ConnFault a) t h = absurd (cc)
      starved_rounds serving.NoConn t h = absurd (cc)
      starved_rounds serving.NoneCame t h = absurd (cc)
      starved_rounds serving.NoMemory t h = (h.serves.0, h.tends ∙ h.serves.1)

      drawn_later : later.drawn ≡ now.drawn
      drawn_later = ap (λ (x : BoardSeat). x.drawn) went

      pub place_later : later ≡ record start { seen = later.seen; drawn = later.drawn }
      place_later = went ∙ (ap (λ (x : BoardSeat). record x { seen = later.seen }) place_now ∙ ap (λ (l : List ℕ). record start { seen = later.seen; drawn = l }) (sym drawn_later))

      rounds_then : Rounds wire site n (shown later) h.numbers e f J M
      rounds_then = rounds_later wire site n (shown place) (shown later) h.numbers e f J M
          (let a : slice_index now.seen STOPPED ≡ slice_index place.seen STOPPED = ap (λ (x : List ℕ). slice_index x STOPPED) seen_now in omega (arith, a, rises)) h.rounds

      pub attending_starved : is_starved what ≡ true → Attends wire site n limit (shown later) e g J K start.drawn later.drawn (record { connections = connections; starved = true })
      attending_starved t =
          let same = starved_rounds what t round in
          subst (λ (x : Entrance × Life). Attends wire site n limit (shown later) e x.0 J x.1 start.drawn later.drawn (record { connections = connections; starved = true })) (λ i. (sym same.0 i, sym same.1 i)) (record {
            numbers = h.numbers;
            last = number;
            rounds = rounds_then;
            under = h.under;
            ends = below;
            drew = drawn_later ∙ drawn_now;
            connections = h.count;
          })

      pub same_then : SameWorker J K
      same_then = same_on J M K h.same (same_round wire site n number f g M K what round)

      pub attending_next : is_starved what ≡ false → limit ≤ most_drawn → IsNone g.out → WhereAwaited what (0 < shown later) → Attending wire site n limit e g J K start later (connections + taken what)
      attending_next t most idle awaited = record {
        numbers = number ∷ h.numbers;
        rounds = (f, M, rounds_then, what, t, round, awaited);
        under = (below, h.under);
        drew = drawn_later ∙ drawn_now;
        place_is = place_later;
        count = (let a = round.connections in let b = h.count in omega arith);
        within = subst (IsWithin (connections + taken what)) (sym (drawn_later ∙ ap (λ (x : BoardSeat). x.drawn) drew)) (let a = drawn_most in let b = taken_one what in omega arith);
        may = subst MayDraw (sym (drawn_later ∙ ap (λ (x : BoardSeat). x.drawn) drew)) (let l = below in omega arith);
        idle = idle;
        same = same_then;
      }
