-- The cells of a run, one for each service.
use Rattle.std.proofs.Common.{◌≡◌, ◌≢◌, ◌≤◌, ◌∙◌, ℕ, zero, suc, ◌+◌, ◌<◌, Bool, true, false, List, [], ◌∷◌, ◌++◌, replicate, Option, Some, None, length, get_or, map, refl, sym, ap, subst, arith, inl, inr, ◌⊎◌}
use Rattle.std.specs.Prelude.{slice_set, slice_index_or, IsSome, IfSome, IsTrue, ◌↔◌, ◌==◌, if◌then◌else◌, option_map, unwrap_or, OnOk, Result, Ok, Err}
use Rattle.std.specs.Io.KnownBytes.{Appends, Consumes}
use Rattle.std.proofs.lemmas.Bool.{eqb-true, cases_eq}
use Rattle.std.proofs.lemmas.List.{map-set, map-append, get_or-map, length-map, length-append, length-set, length-replicate, append-nil, get_or-set_same, get_or-set_other, replicate_more}
use Rattle.okws_base.specs.Runs.{Each}
use Rattle.okws_base.specs.declared.limit.TheConstants.{MOST_PROXIES}
use Rattle.okws_plan.specs.declared.configuration.Config.{Config}
use Rattle.frame_codec.specs.Stream.{Begins, IsBad}
use Rattle.frame_codec.specs.declared.frame.ServiceFrame.{ServiceFrame}
use Rattle.okws_outer.specs.Wire.{Wire, fed, shut}
use Rattle.monitor_model.specs.declared.record.CellEvent.{CellEvent}
use Rattle.monitor_model.specs.declared.record.CellEvent.TheVariants as cell
use Rattle.monitor_model.specs.declared.sent.Sent.{Sent}
use Rattle.monitor_model.specs.Cell.{incarnation, last_booted}
use Rattle.monitor_model.specs.Sent.{IsToldOf}
use Rattle.monitor_model.specs.Launcher.{begun}
use Rattle.monitor_model.specs.Script.{IsReady}
use Rattle.monitor_model.specs.Stage.{Stand, Opened, Asked, empty_stand}
use Rattle.service_cell.specs.Standing.{Open, Standing, Passes, IsReadyLink, all_sent, ended_of, left_of}
use Rattle.service_cell.specs.Steps.{retired}
use Rattle.site_columns.specs.Site.{Site, unmade}
use Rattle.okws_play.specs.Cells.{stand_by, stands_by, stand_at, left_on, opened_by, AreBytes, IsWired, IsLinked, IsOwn, IsSeat, AreSeats, FitsRequest}
use Rattle.okws_play.specs.Run.{IsRun}

-- ---- one of the cells

pub seat_at : (C : Config) (seed : List ℕ) (i p s : ℕ) (cells : List Standing) (d : Standing) → AreSeats C seed i cells → p < length cells → s ≡ i + p → IsSeat C seed s (get_or cells p d)
seat_at C seed i p s [] d h below e = absurd (omega (arith, below))
seat_at C seed i zero s (c ∷ more) d h below e = let same : i ≡ s = omega (arith, e) in subst (λ n. IsSeat C seed n c) same h.0
seat_at C seed i (suc p) s (c ∷ more) d h below e = seat_at C seed (i + 1) p s more d h.1 (omega (arith, below)) (omega (arith, e))

-- what is known of the cell of s
pub record IsCellOf (C : Config) (seed : List ℕ) (cells : List Standing) (s : ℕ) (c : Standing) : Type 0 where
  pub seat : IsSeat C seed s c
  pub stand_is : stand_by c ≡ stand_at (stands_by cells) s

pub cell_of : (C : Config) (seed : List ℕ) (cells : List Standing) (s : ℕ) (c : Standing) → AreSeats C seed 0 cells → s < length cells → c ≡ get_or cells s c → IsCellOf C seed cells s c
cell_of C seed cells s c seats below is = record {
  seat = subst (IsSeat C seed s) (sym is) (seat_at C seed 0 s s cells c seats below (omega arith));
  stand_is = ap stand_by is ∙ sym (get_or-map stand_by cells s c empty_stand below);
}

-- the cell of a declared service is there
pub below_cells : (C : Config) (seed : List ℕ) (columns : Site) (cells : List Standing) (requests : List Asked) (s : ℕ) → IsRun C seed columns cells requests → s < length C.services → s < length cells
below_cells C seed columns cells requests s h below = omega (arith, below, h.cells_are)

-- ---- cells at which nothing happened

seats_more : (C : Config) (seed : List ℕ) (i s : ℕ) (cells : List Standing) (y : Standing) → AreSeats C seed i cells → s ≡ i + length cells → IsSeat C seed s y → AreSeats C seed i (cells ++ y ∷ [])
seats_more C seed i s [] y h e seat = let same : s ≡ i = omega (arith, e) in (subst (λ n. IsSeat C seed n y) same seat, tt)
seats_more C seed i s (c ∷ more) y h e seat = (h.0, seats_more C seed (i + 1) s more y h.1 (omega (arith, e)) seat)

-- a cell at which nothing happened
abbrev pub fresh : Config → List ℕ → ℕ → Standing
fresh C seed s = record { config = C; seed = seed; service = s; past = []; open_dialog = None; link = None; sent = []; keeps = false }

-- the cells of the first n services, at which nothing happened
pub record AreFresh (C : Config) (seed : List ℕ) (n : ℕ) (cells : List Standing) : Type 0 where
  pub seats : AreSeats C seed 0 cells
  pub count : length cells ≡ n
  pub empty : stands_by cells ≡ replicate n empty_stand

pub fresh_more : (C : Config) (seed : List ℕ) (n s : ℕ) (cells now : List Standing) (y : Standing) → AreFresh C seed n cells → s ≡ n → y ≡ fresh C seed s → now ≡ cells ++ y ∷ [] → AreFresh C seed (n + 1) now
fresh_more C seed n s cells now y h e is all = rw (all, is) (record {
  seats = seats_more C seed 0 s cells (fresh C seed s) h.seats (omega (arith, e, h.count)) (record { config_is = refl; seed_is = refl; service_is = refl; there = λ some. absurd (some refl); linked = tt; own = tt; sent = tt });
  count = length-append cells (fresh C seed s ∷ []) ∙ omega (arith, h.count);
  empty = map-append stand_by cells (fresh C seed s ∷ []) ∙ ap (λ (t : List Stand). t ++ empty_stand ∷ []) h.empty ∙ replicate_more n empty_stand;
})

none_booted : (n s : ℕ) → last_booted (get_or (replicate n empty_stand) s empty_stand).past ≤ 0
none_booted zero s = omega arith
none_booted (suc n) zero = omega arith
none_booted (suc n) (suc s) = none_booted n s

-- a run before its first line
pub new_run : (C : Config) (seed : List ℕ) (columns : Site) (cells : List Standing) (requests : List Asked) → length C.proxies ≤ MOST_PROXIES → columns ≡ unmade C seed → AreSeats C seed 0 cells
    → stands_by cells ≡ replicate (length C.services) empty_stand → requests ≡ [] → IsRun C seed columns cells requests
new_run C seed columns cells requests few is seats empty none = rw (is, none) (record {
  few = few;
  config_is = refl;
  seed_is = refl;
  worker_is = refl;
  cells_are = sym (length-map cells stand_by) ∙ ap length empty ∙ length-replicate (length C.services) empty_stand;
  seats_are = seats;
  booted_are = λ s. rw empty (omega (arith, none_booted (length C.services) s));
  requests_are = tt;
})

-- ---- a cell that changes

seats_set : (C : Config) (seed : List ℕ) (i p s : ℕ) (cells : List Standing) (y : Standing) → AreSeats C seed i cells → s ≡ i + p → IsSeat C seed s y → AreSeats C seed i (slice_set cells p y)
seats_set C seed i p s [] y h e seat = h
seats_set C seed i zero s (c ∷ more) y h e seat = let same : s ≡ i = omega (arith, e) in (subst (λ n. IsSeat C seed n y) same seat, h.1)
seats_set C seed i (suc p) s (c ∷ more) y h e seat = (h.0, seats_set C seed (i + 1) p s more y h.1 (omega (arith, e)) seat)

pub stands_set : (cells : List Standing) (s : ℕ) (y : Standing) → stands_by (slice_set cells s y) ≡ slice_set (stands_by cells) s (stand_by y)
stands_set cells s y = map-set stand_by cells s y

pub stand_set : (stands : List Stand) (s : ℕ) (there : Stand) → s < length stands → stand_at (slice_set stands s there) s ≡ there
stand_set stands s there below = get_or-set_same stands s there empty_stand below

pub stands_long : (cells : List Standing) → length (stands_by cells) ≡ length cells
stands_long cells = length-map cells stand_by

pub set_same : {A : Type 0} (xs : List A) (p : ℕ) (x : A) → x ≡ get_or xs p x → slice_set xs p x ≡ xs
set_same [] p x h = refl
set_same (y ∷ xs) zero x h = ap (λ z. z ∷ xs) h
set_same (y ∷ xs) (suc p) x h = ap (λ zs. y ∷ zs) (set_same xs p x h)

-- a run whose cell of s changed, and its columns, of which the launcher's journal stays
pub run_set : (C : Config) (seed : List ℕ) (columns now : Site) (cells : List Standing) (requests : List Asked) (s : ℕ) (y : Standing)
    → IsRun C seed columns cells requests → s < length cells → IsSeat C seed s y
    → now.config ≡ columns.config → now.seed ≡ columns.seed → now.worker ≡ columns.worker → now.seen.launcher ≡ columns.seen.launcher
    → last_booted y.past ≤ begun columns.seen.launcher s → IsRun C seed now (slice_set cells s y) requests
run_set C seed columns now cells requests s y h below seat c d w l booted = record {
  few = h.few;
  config_is = c ∙ h.config_is;
  seed_is = d ∙ h.seed_is;
  worker_is = w ∙ h.worker_is;
  cells_are = length-set cells s y ∙ h.cells_are;
  seats_are = seats_set C seed 0 s s cells y h.seats_are (omega arith) seat;
  booted_are = λ q. by q (cases_eq q s);
  requests_are = h.requests_are;
}
  where
    by : (q : ℕ) → (q ≡ s) ⊎ (q ≢ s) → last_booted (stand_at (stands_by (slice_set cells s y)) q).past ≤ begun now.seen.launcher q
    by q (inl e) = rw (stands_set cells s y, e, stand_set (stands_by cells) s (stand_by y) (omega (arith, below, stands_long cells)), l) booted
    by q (inr other) = rw (stands_set cells s y, get_or-set_other (stands_by cells) s q (stand_by y) empty_stand other, l) (h.booted_are q)

-- ---- links

pub not_zero : (k : ℕ) → k ≢ 0 → (k == 0) ≡ false
not_zero k some = by (k == 0) refl
  where
    by : (test : Bool) → (k == 0) ≡ test → (k == 0) ≡ false
    by true is = absurd (some (eqb-true k 0 is))
    by false is = is

-- the stand of a cell that has an incarnation
abbrev pub plain : Standing → Stand
plain c = record { past = c.past; left = left_on c.link; has_ended = ended_of c.link; open_dialog = opened_by c.open_dialog }

abbrev by_test : Standing → Bool → Stand
by_test c test = record { past = c.past; left = if test then [] else left_on c.link; has_ended = if test then false else ended_of c.link; open_dialog = opened_by c.open_dialog }

pub stand_plain : (c : Standing) → incarnation c.past ≢ 0 → stand_by c ≡ plain c
stand_plain c some = ap (by_test c) (not_zero (incarnation c.past) some)

pub stand_empty : (c : Standing) → incarnation c.past ≡ 0 → stand_by c ≡ record { past = c.past; left = []; has_ended = false; open_dialog = opened_by c.open_dialog }
stand_empty c none = ap (by_test c) (ap (λ (k : ℕ). k == 0) none)

consumed : (a b : Option (List ℕ)) (taken : List ℕ) → Consumes a b taken → IsSome a → IsSome b × (unwrap_or a [] ≡ taken ++ unwrap_or b [])
consumed None b taken h some = absurd cc
consumed (Some l) None taken h some = absurd h
consumed (Some l) (Some m) taken h some = (refl, h)

appended : (a b : Option (List ℕ)) (put : List ℕ) → Appends a b put → IsSome a → IsSome b
appended None b put h some = absurd cc
appended (Some l) None put h some = absurd h
appended (Some l) (Some m) put h some = refl

-- bytes behind others
pub bytes_behind : (xs ys : List ℕ) → AreBytes (xs ++ ys) → AreBytes ys
bytes_behind [] ys h = h
bytes_behind (x ∷ xs) ys h = bytes_behind xs ys (λ i. h (suc i))

pub bytes_both : (xs ys : List ℕ) → AreBytes xs → AreBytes ys → (i : ℕ) → slice_index_or (xs ++ ys) i 0 < 256
bytes_both [] ys h k i = k i
bytes_both (x ∷ xs) ys h k zero = h zero
bytes_both (x ∷ xs) ys h k (suc i) = bytes_both xs ys (λ j. h (suc j)) k i

none_bytes : AreBytes []
none_bytes zero = omega arith
none_bytes (suc i) = omega arith

link_bytes : (link : Option Wire) → IsLinked link → AreBytes (left_on link)
link_bytes None w = none_bytes
link_bytes (Some wire) w = w.bytes

-- what is left on a cell's link are bytes
pub left_bytes : (c : Standing) → IsLinked c.link → AreBytes (stand_by c).left
left_bytes c linked = by (incarnation c.past == 0)
  where
    by : (test : Bool) → AreBytes (if test then [] else left_on c.link)
    by true = none_bytes
    by false = link_bytes c.link linked

-- a link after bytes were taken from it, and some were put
pub record IsMoved (old new : Option Wire) (taken : List ℕ) : Type 0 where
  pub linked : IsLinked new
  pub there : IsSome new
  pub left : left_on old ≡ taken ++ left_on new
  pub ended : ended_of new ≡ ended_of old

pub passed : (old new : Option Wire) (taken put : List ℕ) → Passes old new taken put → IsLinked old → IsMoved old new taken
passed None new taken put p w = absurd p
passed (Some a) None taken put p w = absurd p
passed (Some a) (Some b) taken put p w =
    let h = consumed a.left b.left taken p.takes w.left in
    record {
      linked = record { steady = p.steady ∙ w.steady; left = h.0; bytes = bytes_behind taken (unwrap_or b.left []) (subst AreBytes h.1 w.bytes); given = appended a.given b.given put p.puts w.given };
      there = refl;
      left = h.1;
      ended = p.ended;
    }

fed_told : (bytes : List ℕ) (o : Option (List ℕ)) → IsSome o → AreBytes bytes → AreBytes (unwrap_or o []) → IsSome (option_map (λ (left : List ℕ). left ++ bytes) o) × AreBytes (unwrap_or (option_map (λ (left : List ℕ). left ++ bytes) o) [])
fed_told bytes None some b h = absurd cc
fed_told bytes (Some left) some b h = (refl, bytes_both left bytes h b)

-- more bytes are to come
pub fed_linked : (bytes : List ℕ) (link : Option Wire) → AreBytes bytes → IsLinked link → IsLinked (option_map (fed bytes) link)
fed_linked bytes None b w = tt
fed_linked bytes (Some wire) b w =
    let h = fed_told bytes wire.left w.left b w.bytes in
    record { steady = w.steady; left = h.0; bytes = h.1; given = w.given }

fed_more : (bytes : List ℕ) (o : Option (List ℕ)) → IsSome o → unwrap_or (option_map (λ (left : List ℕ). left ++ bytes) o) [] ≡ unwrap_or o [] ++ bytes
fed_more bytes None some = absurd cc
fed_more bytes (Some left) some = refl

pub fed_left : (bytes : List ℕ) (link : Option Wire) → IsSome link → IsLinked link → left_on (option_map (fed bytes) link) ≡ left_on link ++ bytes
fed_left bytes None some w = absurd cc
fed_left bytes (Some wire) some w = fed_more bytes wire.left w.left

pub fed_ended : (bytes : List ℕ) (link : Option Wire) → ended_of (option_map (fed bytes) link) ≡ ended_of link
fed_ended bytes None = refl
fed_ended bytes (Some wire) = refl

pub still_some : {A B : Type 0} (f : A → B) (o : Option A) → IsSome o → IsSome (option_map f o)
still_some f None some = absurd cc
still_some f (Some v) some = refl

-- no bytes are to come behind those that are left
pub shut_linked : (link : Option Wire) → IsLinked link → IsLinked (option_map shut link)
shut_linked None w = tt
shut_linked (Some wire) w = record { steady = w.steady; left = w.left; bytes = w.bytes; given = w.given }

pub shut_left : (link : Option Wire) → left_on (option_map shut link) ≡ left_on link
shut_left None = refl
shut_left (Some wire) = refl

pub shut_ended : (link : Option Wire) → IsSome link → ended_of (option_map shut link) ≡ true
shut_ended None some = absurd cc
shut_ended (Some wire) some = refl

-- ---- when a cell is ready

told : (o : Option (List ℕ)) (A : List ℕ → Type 0) → IsSome o → IfSome o A → A (unwrap_or o [])
told None A some h = absurd cc
told (Some left) A some h = h

abbrev IsReadyWith : List ℕ → Bool → Type 0
IsReadyWith left over = ((frame : ServiceFrame) × (rest : List ℕ) × Begins left frame rest) ⊎ (IsBad left ⊎ (over ≡ true))

ready_link : (link : Option Wire) (test : Bool) → IsSome link → IsLinked link → IfSome (left_of link) (λ left. IsTrue test ↔ IsReadyLink link left) → IsTrue test ↔ IsReadyWith (left_on link) (ended_of link)
ready_link None test some w h = absurd cc
ready_link (Some wire) test some w h = told wire.left (λ (left : List ℕ). IsTrue test ↔ IsReadyWith left wire.ended) w.left h

shown : (o : Option Open) (n : Option ℕ) → n ≡ option_map (λ (x : Open). x.request) o → IsSome n → IsSome (opened_by o)
shown None n is some = rw is at some
shown (Some o) n is some = refl

pub ready_is : (C : Config) (seed : List ℕ) (s : ℕ) (c : Standing) (there : Stand) (n : Option ℕ) (test : Bool) → IsSeat C seed s c → stand_by c ≡ there → n ≡ option_map (λ (x : Open). x.request) c.open_dialog → IsSome n → (IsSome n → incarnation c.past ≢ 0)
    → IfSome (left_of c.link) (λ left. IsTrue test ↔ IsReadyLink c.link left) → IsTrue test ↔ (IsSome there.open_dialog × IsReady there)
ready_is C seed s c there n test seat is asked some open_there h =
    let at : incarnation c.past ≢ 0 = open_there some in
    let ready = ready_link c.link test (seat.there at) seat.linked h in
    let dialog : IsSome (plain c).open_dialog = shown c.open_dialog n asked some in
    subst (λ (t : Stand). IsTrue test ↔ (IsSome t.open_dialog × IsReady t)) (sym (stand_plain c at) ∙ is) ((λ yes. (dialog, ready.0 yes)), (λ both. ready.1 both.1))

-- ---- a cell that changes by a step

-- a cell of which nothing changed but its events, its open dialog and its link
pub seat_on : (C : Config) (seed : List ℕ) (s : ℕ) (c d : Standing) (past : List CellEvent) (o : Option Open) (link : Option Wire) → IsSeat C seed s c
    → d ≡ record c { past = past; open_dialog = o; link = link } → (incarnation past ≢ 0 → IsSome link) → IsLinked link → IsOwn o → IsSeat C seed s d
seat_on C seed s c d past o link h is there linked own = rw is (record {
  config_is = h.config_is;
  seed_is = h.seed_is;
  service_is = h.service_is;
  there = there;
  linked = linked;
  own = own;
  sent = h.sent;
})

all_told : (k : ℕ) (link : Option Wire) (sent : List Sent) → IsLinked link → Each IsToldOf sent → Each IsToldOf (all_sent k link sent)
all_told k None sent w h = h
all_told k (Some wire) sent w h = (w.given, h)

pub retired_none : (past : List CellEvent) → incarnation (if incarnation past == 0 then past else cell.Retired ∷ past) ≡ 0
retired_none past = by (incarnation past == 0) refl
  where
    by : (test : Bool) → (incarnation past == 0) ≡ test → incarnation (if test then past else cell.Retired ∷ past) ≡ 0
    by true e = eqb-true (incarnation past) 0 e
    by false e = refl

-- a cell that was retired
pub retired_seat : (C : Config) (seed : List ℕ) (s : ℕ) (c d : Standing) → IsSeat C seed s c → c.open_dialog ≡ None → d ≡ retired c → IsSeat C seed s d
retired_seat C seed s c d h closed is = rw is (record {
  config_is = h.config_is;
  seed_is = h.seed_is;
  service_is = h.service_is;
  there = λ some. absurd (some (retired_none c.past));
  linked = tt;
  own = h.own;
  sent = all_told (last_booted c.past) c.link c.sent h.linked h.sent;
})

pub always : {T E A : Type 0} (r : Result T E) → A → OnOk r A
always (Ok v) a = a
always (Err e) a = tt
