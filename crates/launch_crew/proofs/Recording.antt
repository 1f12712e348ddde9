-- What a turn of the launcher's number leaves of its seats and its list.
use Rattle.std.proofs.Common.{◌≡◌, ◌≢◌, ◌∙◌, ℕ, ◌<◌, ◌≤◌, Bool, true, List, [], ◌∷◌, ◌++◌, Option, Some, None, length, refl, sym, ap, subst, arith, eq-eqb, ne_eqb, length-set}
use Rattle.std.specs.Prelude.{IfSome, if◌then◌else◌, max}
use Rattle.std.specs.Io.KnownBytes.{Appends, Consumes}
use Rattle.std.proofs.lemmas.List.{length-replicate}
use Rattle.okws_base.specs.Turns.{Behind, GrowsBy}
use Rattle.okws_base.specs.declared.journal.Entry.{Entry}
use Rattle.okws_base.specs.declared.limit.TheConstants.{MOST_PROXIES, MOST_SERVICES}
use Rattle.okws_plan.specs.declared.configuration.Config.{Config}
use Rattle.okws_plan.specs.declared.event.OkdEvent.{OkdEvent}
use Rattle.okws_plan.specs.declared.event.ProxyEvent.{ProxyEvent}
use Rattle.okws_plan.specs.declared.event.PubdEvent.{PubdEvent}
use Rattle.okws_plan.specs.declared.event.LogEvent.{LogEvent}
use Rattle.okws_outer.specs.Wire.{Wire}
use Rattle.okws_outer.specs.declared.children.ChildName.{ChildName}
use Rattle.frame_codec.specs.Spelling.{server_spelling}
use Rattle.frame_codec.specs.declared.frame.ServerFrame.{ServerFrame}
use Rattle.monitor_model.specs.declared.record.CellEvent.{CellEvent}
use Rattle.monitor_model.specs.declared.record.CellEvent.TheVariants as cell
use Rattle.monitor_model.specs.declared.record.Own.{Own}
use Rattle.monitor_model.specs.declared.record.Own.TheVariants as own
use Rattle.monitor_model.specs.Cell.{incarnation, last_booted}
use Rattle.monitor_model.specs.Merged.{is_okd_launch, is_proxy_launch, is_pubd_launch, is_log_launch}
use Rattle.monitor_model.specs.Seen.{proxy_past}
use Rattle.monitor_model.specs.Standing.{okd_grant, proxy_grant, pubd_grant, log_grant}
use Rattle.service_cell.specs.Standing.{IsFresh, Standing}
use Rattle.service_cell.specs.Steps.{Boots, retired}
use Rattle.service_cell.specs.declared.answer.Booting.{Booting}
use Rattle.service_cell.specs.declared.answer.Booting.TheVariants as booting
use Rattle.site_cells.specs.Held.{by_event}
use Rattle.site_cells.proofs.Onlys.{only_number, only_length}
use Rattle.site_cells.specs.Row.{CellsSeen, IsNew, OnlyAt, seen_at}
use Rattle.site_cells.specs.Turns.{HasLaunched, HasRetired}
use Rattle.site_cells.specs.declared.answer.Launched.{Launched}
use Rattle.site_locks.specs.Made.{fresh}
use Rattle.site_locks.specs.Sat.{Sat}
use Rattle.named_columns.specs.Turns.{Stays}
use Rattle.site_locks.specs.Steps.{EntersOkd, SeesOkd, EntersProxy, SeesProxy, EntersPubd, SeesPubd, EntersLog, SeesLog}
use Rattle.launch_crew.specs.Finished.{IsFront}
use Rattle.launch_crew.specs.Listed.{StandsByOwn}
use Rattle.launch_crew.specs.Recorded.{Recorded, AreOwn, IsRecorded}
use Rattle.launch_crew.proofs.Listing.{stand_okd, stand_pubd, stand_log, stand_saw_okd, stand_saw_pubd, stand_saw_log, stand_proxy, stand_saw_proxy, stand_boot, stand_retired, stand_board, stand_none}
use Rattle.launch_crew.proofs.Owns.{own_okd, saw_okd, own_pubd, saw_pubd, own_log, saw_log, own_proxy, saw_proxy, own_boot, own_retired, saw_cell, own_none}

-- seats and a list, as contracts see them
abbrev pub recorder : Sat → CellsSeen → List Own → ℕ → Recorded
recorder s w items room = record { sat = s; watch = w; own = items; room = room }

-- the same number, at as many proxies
pub record SameSeat (s t : Sat) : Type 0 where
  pub number_is : t.number ≡ s.number
  pub proxies_are : length t.proxies ≡ length s.proxies
  pub board_are : length t.board ≡ length s.board

kept : (C : Config) (n : ℕ) (s t : Sat) (w : CellsSeen) (items more : List Own) (a b : ℕ) → SameSeat s t → IsRecorded C n (recorder s w items a) → AreOwn n t w more → StandsByOwn t more → IsRecorded C n (recorder t w more b)
kept C n s t w items more a b same h own_is standing = record {
  sat_number = same.number_is ∙ h.sat_number;
  watch_number = h.watch_number;
  proxies_are = same.proxies_are ∙ h.proxies_are;
  cells_are = h.cells_are;
  board_are = subst (λ m. length C.services ≤ m) (sym same.board_are) h.board_are;
  few = h.few;
  few_services = h.few_services;
  own_is = own_is;
  standing = standing;
}

-- ---- okd, pubd and oklogd

module _ (C : Config) (n : ℕ) (s t : Sat) (w : CellsSeen) (items more : List Own) (a b : ℕ) (h : IsRecorded C n (recorder s w items a)) where
  pub okd_entered : (e : OkdEvent) (before : List (Entry OkdEvent)) → Stays okd_grant s.okd before → is_okd_launch e ≡ true → more ≡ own.Okd e ∷ items → EntersOkd e before s t → IsRecorded C n (recorder t w more b)
  okd_entered e before stays launch is k = kept C n s t w items more a b
      (record { number_is = ap (λ (x : Sat). x.number) k.is; proxies_are = ap (λ (x : Sat). length x.proxies) k.is; board_are = ap (λ (x : Sat). length x.board) k.is }) h
      (subst (AreOwn n t w) (sym is) (own_okd n s t w items h.sat_number h.own_is e before launch k))
      (subst (StandsByOwn t) (sym is) (stand_okd s t items h.standing e before stays k))

  pub pubd_entered : (e : PubdEvent) (before : List (Entry PubdEvent)) → Stays pubd_grant s.pubd before → is_pubd_launch e ≡ true → more ≡ own.Pubd e ∷ items → EntersPubd e before s t → IsRecorded C n (recorder t w more b)
  pubd_entered e before stays launch is k = kept C n s t w items more a b
      (record { number_is = ap (λ (x : Sat). x.number) k.is; proxies_are = ap (λ (x : Sat). length x.proxies) k.is; board_are = ap (λ (x : Sat). length x.board) k.is }) h
      (subst (AreOwn n t w) (sym is) (own_pubd n s t w items h.sat_number h.own_is e before launch k))
      (subst (StandsByOwn t) (sym is) (stand_pubd s t items h.standing e before stays k))

  pub log_entered : (e : LogEvent) (before : List (Entry LogEvent)) → Stays log_grant s.oklogd before → is_log_launch e ≡ true → more ≡ own.Oklogd e ∷ items → EntersLog e before s t → IsRecorded C n (recorder t w more b)
  log_entered e before stays launch is k = kept C n s t w items more a b
      (record { number_is = ap (λ (x : Sat). x.number) k.is; proxies_are = ap (λ (x : Sat). length x.proxies) k.is; board_are = ap (λ (x : Sat). length x.board) k.is }) h
      (subst (AreOwn n t w) (sym is) (own_log n s t w items h.sat_number h.own_is e before launch k))
      (subst (StandsByOwn t) (sym is) (stand_log s t items h.standing e before stays k))

  pub proxy_entered : (p : ℕ) (e : ProxyEvent) (before : List (Entry ProxyEvent)) → Stays proxy_grant (proxy_past s.proxies p) before → p < length C.proxies → is_proxy_launch e ≡ true → more ≡ own.Proxy p e ∷ items → EntersProxy p e before s t → IsRecorded C n (recorder t w more b)
  proxy_entered p e before stays within launch is k = kept C n s t w items more a b
      (record { number_is = ap (λ (x : Sat). x.number) k.is; proxies_are = ap (λ (x : Sat). length x.proxies) k.is ∙ length-set s.proxies p (record { worker = s.number; event = e } ∷ before); board_are = ap (λ (x : Sat). length x.board) k.is }) h
      (subst (AreOwn n t w) (sym is) (own_proxy n p s t w items h.sat_number (subst (λ m. p < m) (sym h.proxies_are) within) h.own_is e before launch k))
      (subst (StandsByOwn t) (sym is) (stand_proxy p s t items (subst (λ m. p < m) (sym h.proxies_are) within) h.standing e before stays k))

module _ (C : Config) (n : ℕ) (s t : Sat) (w : CellsSeen) (items : List Own) (a b : ℕ) (h : IsRecorded C n (recorder s w items a)) where
  pub okd_seen : (before : List (Entry OkdEvent)) → Stays okd_grant s.okd before → SeesOkd before s t → IsRecorded C n (recorder t w items b)
  okd_seen before stays k = kept C n s t w items items a b
      (record { number_is = ap (λ (x : Sat). x.number) k.is; proxies_are = ap (λ (x : Sat). length x.proxies) k.is; board_are = ap (λ (x : Sat). length x.board) k.is }) h
      (saw_okd n s t w items h.sat_number h.own_is before k)
      (stand_saw_okd s t items h.standing before stays k)

  pub pubd_seen : (before : List (Entry PubdEvent)) → Stays pubd_grant s.pubd before → SeesPubd before s t → IsRecorded C n (recorder t w items b)
  pubd_seen before stays k = kept C n s t w items items a b
      (record { number_is = ap (λ (x : Sat). x.number) k.is; proxies_are = ap (λ (x : Sat). length x.proxies) k.is; board_are = ap (λ (x : Sat). length x.board) k.is }) h
      (saw_pubd n s t w items h.sat_number h.own_is before k)
      (stand_saw_pubd s t items h.standing before stays k)

  pub log_seen : (before : List (Entry LogEvent)) → Stays log_grant s.oklogd before → SeesLog before s t → IsRecorded C n (recorder t w items b)
  log_seen before stays k = kept C n s t w items items a b
      (record { number_is = ap (λ (x : Sat). x.number) k.is; proxies_are = ap (λ (x : Sat). length x.proxies) k.is; board_are = ap (λ (x : Sat). length x.board) k.is }) h
      (saw_log n s t w items h.sat_number h.own_is before k)
      (stand_saw_log s t items h.standing before stays k)

  pub proxy_seen : (p : ℕ) (before : List (Entry ProxyEvent)) → Stays proxy_grant (proxy_past s.proxies p) before → p < length C.proxies → SeesProxy p before s t → IsRecorded C n (recorder t w items b)
  proxy_seen p before stays within k = kept C n s t w items items a b
      (record { number_is = ap (λ (x : Sat). x.number) k.is; proxies_are = ap (λ (x : Sat). length x.proxies) k.is ∙ length-set s.proxies p before; board_are = ap (λ (x : Sat). length x.board) k.is }) h
      (saw_proxy n p s t w items h.sat_number (subst (λ m. p < m) (sym h.proxies_are) within) h.own_is before k)
      (stand_saw_proxy p s t items (subst (λ m. p < m) (sym h.proxies_are) within) h.standing before stays k)

  -- the board, of which the list says nothing
  pub board_raised : (xs : List ℕ) → length xs ≡ length s.board → t ≡ record s { board = xs } → IsRecorded C n (recorder t w items b)
  board_raised xs long is = subst (λ (x : Sat). IsRecorded C n (recorder x w items b)) (sym is) (kept C n s (record s { board = xs }) w items items a b
      (record { number_is = refl; proxies_are = refl; board_are = long }) h
      (record { okd = h.own_is.okd; proxies = h.own_is.proxies; pubd = h.own_is.pubd; oklogd = h.own_is.oklogd; cells = h.own_is.cells; launches = h.own_is.launches })
      (stand_board s xs items h.standing))

-- ---- the cells

kept_cells : (C : Config) (n u : ℕ) (s : Sat) (w v : CellsSeen) (items more : List Own) (a b : ℕ) → OnlyAt u w v → IsRecorded C n (recorder s w items a) → AreOwn n s v more → StandsByOwn s more → IsRecorded C n (recorder s v more b)
kept_cells C n u s w v items more a b only h own_is standing = record {
  sat_number = h.sat_number;
  watch_number = only_number u w v only ∙ h.watch_number;
  proxies_are = h.proxies_are;
  cells_are = only_length u w v only ∙ h.cells_are;
  board_are = h.board_are;
  few = h.few;
  few_services = h.few_services;
  own_is = own_is;
  standing = standing;
}

module _ (C : Config) (n u : ℕ) (s : Sat) (w v : CellsSeen) (items more : List Own) (a b : ℕ) (before : List CellEvent) (only : OnlyAt u w v) (grows : GrowsBy (by_event n) n (seen_at w u) before) (h : IsRecorded C n (recorder s w items a)) where
  pub cell_booted : (k : ℕ) → more ≡ own.Boot u k ∷ items → seen_at v u ≡ cell.Boot k ∷ before → IsRecorded C n (recorder s v more b)
  cell_booted k is now = kept_cells C n u s w v items more a b only h (subst (AreOwn n s v) (sym is) (own_boot n u s w v items before only grows h.own_is k now)) (subst (StandsByOwn s) (sym is) (stand_boot u k s items h.standing))

  pub cell_retired : more ≡ own.Retired u ∷ items → seen_at v u ≡ cell.Retired ∷ before → IsRecorded C n (recorder s v more b)
  cell_retired is now = kept_cells C n u s w v items more a b only h (subst (AreOwn n s v) (sym is) (own_retired n u s w v items before only grows h.own_is now)) (subst (StandsByOwn s) (sym is) (stand_retired u s items h.standing))

  pub cell_seen : more ≡ items → seen_at v u ≡ before → IsRecorded C n (recorder s v more b)
  cell_seen is now = kept_cells C n u s w v items more a b only h (subst (AreOwn n s v) (sym is) (saw_cell n u s w v items before only grows h.own_is now)) (subst (StandsByOwn s) (sym is) h.standing)

most_of : (k n : ℕ) → n < k → max k n ≡ k
most_of k n less = omega (arith, less)

-- what was put on a link that was given nothing
front_put : (old new : Option (List ℕ)) (text front rest : List ℕ) → IfSome old (λ given. given ≡ []) → Appends old new front → (old ≡ None → new ≡ None) → front ++ rest ≡ text → IsFront text new
front_put None None text front rest none puts untold cut = tt
front_put None (Some given) text front rest none puts untold cut = absurd (let same : Some given ≡ None = untold refl in cc)
front_put (Some before) None text front rest none puts untold cut = tt
front_put (Some before) (Some given) text front rest none puts untold cut = (rest, ap (λ (x : List ℕ). x ++ rest) (puts ∙ ap (λ (x : List ℕ). x ++ front) none) ∙ cut)

-- what a turn at a cell left, by what it answered
module _ {L : Type 0} (wire : L → Wire) (k s number : ℕ) (link : L) (boot : ServerFrame) (old new : List CellEvent) (answer : Launched L) (h : HasLaunched wire k link boot number s old answer new) where
  none_retired : (retired h.before).past ≡ h.before.past
  none_retired = ap (λ (b : Bool). if b then h.before.past else cell.Retired ∷ h.before.past) (eq-eqb (incarnation h.before.past) 0 h.empty)

  pub booted : answer.booting ≡ booting.Booted → new ≡ cell.Boot number ∷ h.before.past
  booted is =
      let b = subst (λ (x : Booting L). Boots wire link boot number (retired h.before) x h.after) is h.boots in
      h.seen_is ∙ (ap (λ (c : Standing). c.past) b.0 ∙ ap (λ (J : List CellEvent). cell.Boot number ∷ J) none_retired)

  pub booted_last : answer.booting ≡ booting.Booted → last_booted new ≡ number
  booted_last is = ap last_booted (booted is) ∙ most_of number (last_booted h.before.past) h.later

  pub faulted_front : IsFresh (wire link) → (back : L) → answer.booting ≡ booting.LinkFault back → IsFront (server_spelling boot) (wire back).given
  faulted_front new_link back is =
      let b = subst (λ (x : Booting L). Boots wire link boot number (retired h.before) x h.after) is h.boots in
      front_put (wire link).given (wire back).given (server_spelling boot) b.1.front b.1.rest new_link b.1.puts b.1.untold b.1.cut

  pub refused_front : IsFresh (wire link) → (back : L) → answer.booting ≡ booting.NoMemory back → IsFront (server_spelling boot) (wire back).given
  refused_front new_link back is =
      let b = subst (λ (x : Booting L). Boots wire link boot number (retired h.before) x h.after) is h.boots in
      front_put (wire link).given (wire back).given (server_spelling boot) [] (server_spelling boot) new_link b.1.puts b.1.untold refl

  pub faulted_whose : (child : Option ChildName) → (wire link).whose ≡ child → (back : L) → answer.booting ≡ booting.LinkFault back → (wire back).whose ≡ child
  faulted_whose child leads back is =
      let b = subst (λ (x : Booting L). Boots wire link boot number (retired h.before) x h.after) is h.boots in
      b.1.whose ∙ leads

  pub faulted_untaken : (wire link).came ≡ (wire link).left → (back : L) → answer.booting ≡ booting.LinkFault back → Consumes (wire back).came (wire back).left []
  faulted_untaken untaken back is =
      let b = subst (λ (x : Booting L). Boots wire link boot number (retired h.before) x h.after) is h.boots in
      subst (λ (o : Option (List ℕ)). Consumes o (wire back).left []) (sym (b.1.came ∙ untaken)) b.1.takes

  pub refused_whose : (child : Option ChildName) → (wire link).whose ≡ child → (back : L) → answer.booting ≡ booting.NoMemory back → (wire back).whose ≡ child
  refused_whose child leads back is =
      let b = subst (λ (x : Booting L). Boots wire link boot number (retired h.before) x h.after) is h.boots in
      b.1.whose ∙ leads

  pub refused_untaken : (wire link).came ≡ (wire link).left → (back : L) → answer.booting ≡ booting.NoMemory back → Consumes (wire back).came (wire back).left []
  refused_untaken untaken back is =
      let b = subst (λ (x : Booting L). Boots wire link boot number (retired h.before) x h.after) is h.boots in
      subst (λ (o : Option (List ℕ)). Consumes o (wire back).left []) (sym (b.1.came ∙ untaken)) b.1.takes

  pub faulted : (back : L) → answer.booting ≡ booting.LinkFault back → new ≡ h.before.past
  faulted back is =
      let b = subst (λ (x : Booting L). Boots wire link boot number (retired h.before) x h.after) is h.boots in
      h.seen_is ∙ (ap (λ (c : Standing). c.past) b.0 ∙ none_retired)

  pub refused : (back : L) → answer.booting ≡ booting.NoMemory back → new ≡ h.before.past
  refused back is =
      let b = subst (λ (x : Booting L). Boots wire link boot number (retired h.before) x h.after) is h.boots in
      h.seen_is ∙ (ap (λ (c : Standing). c.past) b.0 ∙ none_retired)

module _ {L : Type 0} (wire : L → Wire) (k s : ℕ) (old : List CellEvent) (was : ℕ) (link : Option L) (new : List CellEvent) (h : HasRetired wire k s old was link new) where
  pub retired_there : was ≢ 0 → new ≡ cell.Retired ∷ h.before.past
  retired_there some = h.seen_is ∙ ap (λ (b : Bool). if b then h.before.past else cell.Retired ∷ h.before.past) (ne_eqb (incarnation h.before.past) 0 (λ is. some (h.was_is ∙ is)))

  pub retired_none : was ≡ 0 → new ≡ h.before.past
  retired_none none = h.seen_is ∙ ap (λ (b : Bool). if b then h.before.past else cell.Retired ∷ h.before.past) (eq-eqb (incarnation h.before.past) 0 (sym h.was_is ∙ none))

-- what was booted stays booted
pub last_more : (more J : List CellEvent) → last_booted J ≤ last_booted (more ++ J)
last_more [] J = omega arith
last_more (cell.Boot k ∷ more) J = omega (arith, last_more more J)
last_more (cell.Retired ∷ more) J = last_more more J
last_more (cell.Missed v wanted is ∷ more) J = last_more more J
last_more (cell.Dialog d ∷ more) J = last_more more J
last_more (cell.Speaking v spoken ∷ more) J = last_more more J

pub last_behind : (I J : List CellEvent) → Behind I J → last_booted I ≤ last_booted J
last_behind I J h = subst (λ K. last_booted I ≤ last_booted K) (sym h.1) (last_more h.0 I)

-- ---- nothing was seen

pub unused : (C : Config) (n : ℕ) (s : Sat) (w : CellsSeen) (items : List Own) (room : ℕ) → s ≡ fresh (length C.proxies) n → IsNew (length C.services) n w → items ≡ [] → length C.proxies ≤ MOST_PROXIES → length C.services ≤ MOST_SERVICES → IsRecorded C n (recorder s w items room)
unused C n s w items room is new none few services = subst (λ (x : Sat). IsRecorded C n (recorder x w items room)) (sym is) (record {
  sat_number = refl;
  watch_number = new.number_is;
  proxies_are = length-replicate (length C.proxies) [];
  cells_are = new.cells_are;
  board_are = services;
  few = few;
  few_services = services;
  own_is = subst (AreOwn n (fresh (length C.proxies) n) w) (sym none) (own_none C n w new);
  standing = subst (StandsByOwn (fresh (length C.proxies) n)) (sym none) (stand_none (length C.proxies) n);
})
