-- Each launch that a worker's pieces begin ended, and each crash that they enter had its cause: of nothing, of a piece, of pieces behind others, and of a turn at the launcher.
use Rattle.std.proofs.Common.{◌≡◌, ⊎_elim, ℕ, Bool, true, false, List, [], ◌∷◌, ◌++◌, Option, Some, None, map, refl, sym, ap, ◌∙◌, subst, append-nil, eq-eqb, arith}
use Rattle.std.specs.Prelude.{◌||◌}
use Rattle.std.specs.List.{list_any}
use Rattle.std.proofs.lemmas.Bool.{and_from, and_parts, false≢true, or_cases, or_left, or_parts, or_right}
use Rattle.std.proofs.lemmas.List.{append_assoc, map-append}
use Rattle.okws_base.specs.Turns.{Behind, GrowsBy}
use Rattle.okws_base.specs.declared.journal.Entry.{Entry}
use Rattle.okws_plan.specs.declared.configuration.Config.{Config}
use Rattle.okws_plan.specs.declared.event.LauncherEvent.{LauncherEvent}
use Rattle.okws_plan.specs.declared.event.LauncherEvent.TheVariants as event
use Rattle.monitor_model.specs.declared.record.Own.{Own}
use Rattle.monitor_model.specs.declared.record.Own.TheVariants as own
use Rattle.monitor_model.specs.Causes.{is_crashed_of, is_launcher_item}
use Rattle.monitor_model.specs.Worker.{Piece, Accepted, Published, Launched, Wants}
use Rattle.named_columns.specs.Launched.{by_entry}
use Rattle.turn_lock.specs.Seats.{SeatIs}
use Rattle.launch_turns.specs.Deeds.{ended_in, entries, up_in}
use Rattle.okld_launch.specs.Ups.{ends_after, is_one, oldest, ups_after}
use Rattle.okld_launch.specs.Entering.{entries_of}
use Rattle.okld_launch.specs.Launchers.{LauncherIs}
use Rattle.launch_turns.specs.Turns.{InTurn}
use Rattle.launch_turns.specs.declared.deed.Deed.{Deed}
use Rattle.launch_turns.proofs.Deeds.{ended_stays, entries_grow, up_stays}
use Rattle.worker_lives.specs.Ending.{crashes_came, ends_crashed, event_came, event_ends, item_ends, launches_end, piece_came, says_end}
use Rattle.worker_lives.specs.Listing.{first_item}
use Rattle.round_lives.specs.Living.{EndsWell}
use Rattle.round_lives.proofs.Awaited.{firsts_launched, with_wants}
use Rattle.round_lives.proofs.Entered.{Entered, is_crashed}

-- ---- where more came up

-- what says by the one next item how a launch ended says it by the other
abbrev Says : Option Own → Option Own → Type 0
Says x y = (s k : ℕ) → says_end s k x ≡ true → says_end s k y ≡ true

same_says : (x : Option Own) → Says x x
same_says x s k said = said

none_says : (y : Option Own) → Says None y
none_says y s k said = absurd (false≢true said)

module _ (up more : ℕ → ℕ → Bool) (ups : (s k : ℕ) → up s k ≡ true → more s k ≡ true) where
  event_more : (x y : Option Own) → Says x y → (e : LauncherEvent) → event_ends up x e ≡ true → event_ends more y e ≡ true
  event_more x y says (event.Begun s k) h =
      ⊎_elim (λ came. or_left (more s k) (says_end s k y) (ups s k came)) (λ said. or_right (more s k) (says_end s k y) (says s k said)) (or_cases (up s k) (says_end s k x) h)
  event_more x y says (event.Failed s k) h = refl
  event_more x y says (event.Crashed s k) h = refl
  event_more x y says (event.Dead s n) h = refl
  event_more x y says (event.Asked s) h = refl

  item_more : (x y : Option Own) → Says x y → (item : Own) → item_ends up x item ≡ true → item_ends more y item ≡ true
  item_more x y says (own.Launcher e) h = event_more x y says e h
  item_more x y says (own.Proxy p e) h = refl
  item_more x y says (own.Pubd e) h = refl
  item_more x y says (own.Oklogd e) h = refl
  item_more x y says (own.Okd e) h = refl
  item_more x y says (own.Dialog t) h = refl
  item_more x y says (own.Missed t wanted is) h = refl
  item_more x y says own.NoMemory h = refl
  item_more x y says (own.Boot t k) h = refl
  item_more x y says (own.Retired t) h = refl

  ends_more : (x y : Option Own) → Says x y → (items : List Own) → launches_end up x items ≡ true → launches_end more y items ≡ true
  ends_more x y says [] h = refl
  ends_more x y says (item ∷ items) h =
      let both = and_parts (item_ends up x item) (launches_end up (Some item) items) h in
      and_from (item_ends more y item) (launches_end more (Some item) items) (item_more x y says item both.0) (ends_more (Some item) (Some item) (same_says (Some item)) items both.1)

  -- items that go on behind others
  pub ends_both : (y : Option Own) (first then : List Own) → launches_end up None first ≡ true → launches_end more y then ≡ true → launches_end more y (then ++ first) ≡ true
  ends_both y first [] f t = ends_more None y (none_says y) first f
  ends_both y first (item ∷ then) f t =
      let both = and_parts (item_ends more y item) (launches_end more (Some item) then) t in
      and_from (item_ends more y item) (launches_end more (Some item) (then ++ first)) both.0 (ends_both (Some item) first then f both.1)

-- ---- where more has ended

crashed_more : (first : List Piece) (s k : ℕ) (before : List Piece) → ends_crashed s k before ≡ true → ends_crashed s k (before ++ first) ≡ true
crashed_more first s k [] h = absurd (false≢true h)
crashed_more first s k (Accepted path head content outcome ∷ before) h = h
crashed_more first s k (Published t content ∷ before) h = h
crashed_more first s k (Launched e ∷ before) h = h
crashed_more first s k (Wants ∷ before) h = h

module _ (ended more : ℕ → ℕ → Bool) (ends : (s k : ℕ) → ended s k ≡ true → more s k ≡ true) (first : List Piece) where
  came_event : (before : List Piece) (e : LauncherEvent) → event_came ended before e ≡ true → event_came more (before ++ first) e ≡ true
  came_event before (event.Crashed s k) h =
      ⊎_elim (λ has. or_left (more s k) (ends_crashed s k (before ++ first)) (ends s k has)) (λ is. or_right (more s k) (ends_crashed s k (before ++ first)) (crashed_more first s k before is))
      (or_cases (ended s k) (ends_crashed s k before) h)
  came_event before (event.Begun s k) h = refl
  came_event before (event.Failed s k) h = refl
  came_event before (event.Dead s n) h = refl
  came_event before (event.Asked s) h = refl

  came_piece : (before : List Piece) (piece : Piece) → piece_came ended before piece ≡ true → piece_came more (before ++ first) piece ≡ true
  came_piece before (Launched e) h = came_event before e h
  came_piece before (Accepted path head content outcome) h = refl
  came_piece before (Published t content) h = refl
  came_piece before Wants h = refl

  -- pieces that go on behind others
  came_both : (then : List Piece) → crashes_came more first ≡ true → crashes_came ended then ≡ true → crashes_came more (then ++ first) ≡ true
  came_both [] f t = f
  came_both (piece ∷ then) f t =
      let both = and_parts (piece_came ended then piece) (crashes_came ended then) t in
      and_from (piece_came more (then ++ first) piece) (crashes_came more (then ++ first)) (came_piece then piece both.0) (came_both then f both.1)

came_more : (ended more : ℕ → ℕ → Bool) → ((s k : ℕ) → ended s k ≡ true → more s k ≡ true) → (pieces : List Piece) → crashes_came ended pieces ≡ true → crashes_came more pieces ≡ true
came_more ended more ends pieces h = subst (λ (ps : List Piece). crashes_came more ps ≡ true) (append-nil pieces) (came_both ended more ends [] pieces refl h)

-- ---- what turns tell stays told

behind_then : (I J K : List Deed) → Behind I J → Behind J K → Behind I K
behind_then I J K i j = (j.0 ++ i.0, j.1 ∙ ap (λ (D : List Deed). j.0 ++ D) i.1 ∙ sym (append_assoc j.0 i.0 I))

ups_stay : (J K : List Deed) → Behind J K → (s k : ℕ) → up_in J s k ≡ true → up_in K s k ≡ true
ups_stay J K behind s k h = subst (λ (D : List Deed). up_in D s k ≡ true) (sym behind.1) (up_stays behind.0 J s k h)

ends_stay : (J K : List Deed) → Behind J K → (s k : ℕ) → ended_in J s k ≡ true → ended_in K s k ≡ true
ends_stay J K behind s k h = subst (λ (D : List Deed). ended_in D s k ≡ true) (sym behind.1) (ended_stays behind.0 J s k h)

-- ---- pieces

pub ends_none : (deeds : List Deed) → EndsWell deeds deeds []
ends_none deeds = record { deeds = ([], refl); launches = refl; crashes = refl }

-- one that is no event at the launcher
pub ends_one : (deeds : List Deed) (piece : Piece) → is_launcher_item (first_item piece) ≡ 0 → EndsWell deeds deeds (piece ∷ [])
ends_one deeds (Accepted path head content outcome) none = record { deeds = ([], refl); launches = refl; crashes = refl }
ends_one deeds (Published t content) none = record { deeds = ([], refl); launches = refl; crashes = refl }
ends_one deeds (Launched e) none = let never : ⊥ = omega (arith, none) in absurd never
ends_one deeds Wants none = record { deeds = ([], refl); launches = refl; crashes = refl }

-- where no more was seen since
pub ends_seen : (old : List Deed) (I J : SeatIs Deed) (pieces : List Piece) → J ≡ I → EndsWell old I.seen pieces → EndsWell old J.seen pieces
ends_seen old I J pieces is h = subst (λ (x : SeatIs Deed). EndsWell old x.seen pieces) (sym is) h

-- some behind others
pub ends_then : (I J K : List Deed) (first then : List Piece) → EndsWell I J first → EndsWell J K then → EndsWell I K (then ++ first)
ends_then I J K first then i j = record {
  deeds = behind_then I J K i.deeds j.deeds;
  launches = subst (λ (items : List Own). launches_end (up_in K) None items ≡ true) (sym (map-append first_item then first))
      (ends_both (up_in J) (up_in K) (ups_stay J K j.deeds) None (map first_item first) (map first_item then) i.launches j.launches);
  crashes = came_both (ended_in K) (ended_in K) (λ s k h. h) first then (came_more (ended_in J) (ended_in K) (ends_stay J K j.deeds) first i.crashes) j.crashes;
}

-- ---- a turn at the launcher

-- want of memory comes next behind what a turn entered, where there was any
abbrev pub wanted : Bool → Option Own
wanted true = Some own.NoMemory
wanted false = None

-- each launch that a turn with these events began ended, where it tells whether its newest event is the Begun of an incarnation that came up
abbrev pub Ended : Bool → Bool → List LauncherEvent → Type 0
Ended up starved events = (before : ℕ → ℕ → Bool) → launches_end (ups_after up events before) (wanted starved) (map own.Launcher events) ≡ true

-- each crash that it entered behind these pieces had its cause, where it tells whether a Crashed that it begins with was told by the child
abbrev pub Came : Bool → List Piece → List LauncherEvent → Type 0
Came tended first events = (before : ℕ → ℕ → Bool) → crashes_came (ends_after tended events before) first ≡ true → crashes_came (ends_after tended events before) (map Launched events ++ first) ≡ true

calm_event : (ended : ℕ → ℕ → Bool) (before : List Piece) (e : LauncherEvent) → is_crashed e ≡ false → event_came ended before e ≡ true
calm_event ended before (event.Begun s k) calm = refl
calm_event ended before (event.Failed s k) calm = refl
calm_event ended before (event.Crashed s k) calm = absurd (false≢true (sym calm))
calm_event ended before (event.Dead s n) calm = refl
calm_event ended before (event.Asked s) calm = refl

-- no crash was entered
calm_come : (ended : ℕ → ℕ → Bool) (first : List Piece) (events : List LauncherEvent) → list_any is_crashed events ≡ false → crashes_came ended first ≡ true → crashes_came ended (map Launched events ++ first) ≡ true
calm_come ended first [] calm h = h
calm_come ended first (e ∷ events) calm h =
    let both = or_parts (is_crashed e) (list_any is_crashed events) calm in
    and_from (event_came ended (map Launched events ++ first) e) (crashes_came ended (map Launched events ++ first)) (calm_event ended (map Launched events ++ first) e both.0) (calm_come ended first events both.1 h)

pub calm_came : (tended : Bool) (first : List Piece) (events : List LauncherEvent) → list_any is_crashed events ≡ false → Came tended first events
calm_came tended first events calm before h = calm_come (ends_after tended events before) first events calm h

-- a crash was, and nothing but others behind it
one_comes : (ended : ℕ → ℕ → Bool) (first : List Piece) (s k : ℕ) (more : List LauncherEvent) → list_any is_crashed more ≡ false → (ended s k || ends_crashed s k first) ≡ true → crashes_came ended first ≡ true
    → crashes_came ended (map Launched (more ++ event.Crashed s k ∷ []) ++ first) ≡ true
one_comes ended first s k [] calm is h = and_from (ended s k || ends_crashed s k first) (crashes_came ended first) is h
one_comes ended first s k (e ∷ more) calm is h =
    let both = or_parts (is_crashed e) (list_any is_crashed more) calm in
    let before = map Launched (more ++ event.Crashed s k ∷ []) ++ first in
    and_from (event_came ended before e) (crashes_came ended before) (calm_event ended before e both.0) (one_comes ended first s k more both.1 is h)

-- behind a dialog that it tells
pub spoken_came : (tended : Bool) (first : List Piece) (s k : ℕ) (events : List LauncherEvent) → Entered (event.Crashed s k) events → ends_crashed s k first ≡ true → Came tended first events
spoken_came tended first s k events e crashed before h =
    let ended = ends_after tended events before in
    subst (λ (xs : List LauncherEvent). crashes_came ended (map Launched xs ++ first) ≡ true) (sym e.is) (one_comes ended first s k e.more e.calm (or_right (ended s k) (ends_crashed s k first) crashed) h)

oldest_last : (more : List LauncherEvent) (e : LauncherEvent) → oldest (more ++ e ∷ []) ≡ Some e
oldest_last [] e = refl
oldest_last (m ∷ []) e = refl
oldest_last (m ∷ (n ∷ more)) e = oldest_last (n ∷ more) e

-- which the child told
pub told_came : (first : List Piece) (s k : ℕ) (events : List LauncherEvent) → Entered (event.Crashed s k) events → Came true first events
told_came first s k events e before h =
    let ended = ends_after true events before in
    let oldest_is : oldest events ≡ Some (event.Crashed s k) = ap oldest e.is ∙ oldest_last e.more (event.Crashed s k) in
    let one : is_one (is_crashed_of s k) (oldest events) ≡ true = ap (is_one (is_crashed_of s k)) oldest_is ∙ rw (eq-eqb s s refl, eq-eqb k k refl) refl in
    let has : ended s k ≡ true = or_left (is_one (is_crashed_of s k) (oldest events)) (before s k) one in
    subst (λ (xs : List LauncherEvent). crashes_came ended (map Launched xs ++ first) ≡ true) (sym e.is) (one_comes ended first s k e.more e.calm (or_left (ended s k) (ends_crashed s k first) has) h)

where_came : (ended : ℕ → ℕ → Bool) (starved : Bool) (pieces : List Piece) → crashes_came ended pieces ≡ true → crashes_came ended (with_wants starved pieces) ≡ true
where_came ended true pieces h = h
where_came ended false pieces h = h

where_ended : (up : ℕ → ℕ → Bool) (starved : Bool) (events : List LauncherEvent) → launches_end up (wanted starved) (map own.Launcher events) ≡ true → launches_end up None (map first_item (with_wants starved (map Launched events))) ≡ true
where_ended up true events h = ap (launches_end up (Some own.NoMemory)) (firsts_launched events) ∙ h
where_ended up false events h = ap (launches_end up None) (firsts_launched events) ∙ h

wants_both : (starved : Bool) (then first : List Piece) → with_wants starved then ++ first ≡ with_wants starved (then ++ first)
wants_both true then first = refl
wants_both false then first = refl

-- what it was to number n, which had seen these turns
module _ {C : Config} {n : ℕ} {mid new : List Deed} {l after : LauncherIs} {up tended : Bool} {events : List LauncherEvent} (t : InTurn C n mid l up tended events after new) where
  pub turn_grows : GrowsBy by_entry n (entries mid) l.journal.past
  turn_grows = subst (GrowsBy by_entry n (entries mid)) t.deeds_are (entries_grow n mid t.deeds t.grows)

  pub turn_enters : entries new ≡ entries_of n events ++ l.journal.past
  turn_enters = ap entries t.seen_is ∙ ap (λ (J : List (Entry LauncherEvent)). entries_of n events ++ J) t.deeds_are

  pub turn_past : entries new ≡ after.journal.past
  turn_past = turn_enters ∙ sym t.enters

  abbrev deed : Deed
  deed = record { worker = n; entered = events; up = up; tended = tended }

  turn_stays : Behind mid (deed ∷ t.deeds)
  turn_stays = (deed ∷ t.grows.0, ap (λ (D : List Deed). deed ∷ D) t.grows.2)

  pub turn_ends : (starved : Bool) (first : List Piece) (old : List Deed) → EndsWell old mid first → Ended up starved events → Came tended first events → EndsWell old new (with_wants starved (map Launched events ++ first))
  turn_ends starved first old f ended came = subst (λ (D : List Deed). EndsWell old D (with_wants starved (map Launched events ++ first))) (sym t.seen_is) (record {
    deeds = behind_then old mid (deed ∷ t.deeds) f.deeds turn_stays;
    launches = subst (λ (ps : List Piece). launches_end (up_in (deed ∷ t.deeds)) None (map first_item ps) ≡ true) (wants_both starved (map Launched events) first)
        (subst (λ (items : List Own). launches_end (up_in (deed ∷ t.deeds)) None items ≡ true) (sym (map-append first_item (with_wants starved (map Launched events)) first))
        (ends_both (up_in mid) (up_in (deed ∷ t.deeds)) (ups_stay mid (deed ∷ t.deeds) turn_stays) None (map first_item first) (map first_item (with_wants starved (map Launched events))) f.launches
        (where_ended (up_in (deed ∷ t.deeds)) starved events (ended (up_in t.deeds)))));
    crashes = where_came (ended_in (deed ∷ t.deeds)) starved (map Launched events ++ first)
        (came (ended_in t.deeds) (came_more (ended_in mid) (ended_in (deed ∷ t.deeds)) (ends_stay mid (deed ∷ t.deeds) turn_stays) first f.crashes));
  })
