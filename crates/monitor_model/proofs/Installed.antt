-- By the launcher's own list, what was booted was installed before.
use Rattle.std.proofs.Common.{if◌then◌else◌, ◌≡◌, ◌⊎◌, inl, inr, ℕ, zero, suc, ◌+◌, ◌<◌, ◌≤◌, Bool, true, false, List, [], ◌∷◌, ◌++◌, map, length, Option, Some, None, refl, sym, ap, ◌∙◌, subst, ◌==◌, eqb-true, eq-eqb, arith}
use Rattle.std.specs.Prelude.{filter, filter_map, nat_lt, take, IsTrue, slice_index_or, ◌||◌}
use Rattle.std.specs.List.{cons_option, list_all, list_any}
use mathlib.Core.Logic.{dite}
use native.Mathlib.Decide.{ℕ_discrete}
use Rattle.okws_base.specs.Past.{events_of}
use Rattle.okws_base.specs.declared.journal.Entry.{Entry}
use Rattle.okws_plan.specs.Configuration.{cols, grants_at, numbered_from, proxies_of}
use Rattle.okws_plan.specs.declared.configuration.Config.{Config}
use Rattle.okws_plan.specs.declared.event.LogEvent.TheVariants as oklogd
use Rattle.okws_plan.specs.declared.event.OkdEvent.TheVariants as okd
use Rattle.okws_plan.specs.declared.event.ProxyEvent.{ProxyEvent}
use Rattle.okws_plan.specs.declared.event.ProxyEvent.TheVariants as proxy
use Rattle.okws_plan.specs.declared.event.PubdEvent.TheVariants as pubd
use Rattle.okws_plan.specs.declared.script.Place.{Place}
use Rattle.okws_plan.specs.declared.script.Place.TheVariants.{Proxy, Pubd, Oklogd}
use Rattle.token_core.specs.Token.{token_of}
use Rattle.monitor_model.specs.declared.record.CellEvent.{CellEvent}
use Rattle.monitor_model.specs.declared.record.CellEvent.TheVariants as cell
use Rattle.monitor_model.specs.declared.record.Own.{Own}
use Rattle.monitor_model.specs.declared.record.Own.TheVariants as own
use Rattle.monitor_model.specs.declared.record.Record.{Record}
use Rattle.monitor_model.specs.First.{is_boot_of}
use Rattle.monitor_model.specs.Launches.{Attempt, Fate, CameUp, Failed, BrokeOff, all_pieces, found_at, install_at, is_retired, standing_in, with_boot_if, with_cleared, with_down, with_installs, with_piece, with_revoke_pubd, with_revokes, with_revokes_from, with_standing, LaunchesArePieces}
use Rattle.monitor_model.specs.Merged.{cell_items, cell_past, is_at_cell, okd_item, proxy_item, pubd_item, log_item, IsOwn}
use Rattle.monitor_model.specs.Seen.{proxy_past}
use Rattle.monitor_model.specs.Standing.{okd_grant, proxy_grant, pubd_grant, log_grant}
use Rattle.okws_base.specs.declared.value.Token.{Token}
use Rattle.monitor_model.specs.Columns.{ProxyLaw}
use Rattle.monitor_model.specs.Legality.{IsLegal}
use Rattle.monitor_model.specs.Outside.{Outside}
use Rattle.monitor_model.specs.Placed.{EachFrom}
use Rattle.std.proofs.lemmas.Bool.Decides.{nat_tests}
use Rattle.monitor_model.specs.Booting.{Installs, WasInstalled, LegalRunsBootFirst}
use Rattle.monitor_model.proofs.Booted.{tokens_are_known, stale_calls_were_revoked}

abbrev pub Has : {A : Type 0} → A → List A → Type 0
Has x [] = ⊥
Has x (y ∷ ys) = (y ≡ x) ⊎ Has x ys

has_right : {A : Type 0} (x : A) (xs ys : List A) → Has x ys → Has x (xs ++ ys)
has_right x [] ys h = h
has_right x (y ∷ xs) ys h = inr (has_right x xs ys h)

has_left : {A : Type 0} (x : A) (xs ys : List A) → Has x xs → Has x (xs ++ ys)
has_left x [] ys h = absurd h
has_left x (y ∷ xs) ys (inl is) = inl is
has_left x (y ∷ xs) ys (inr h) = inr (has_left x xs ys h)

has_if : {A : Type 0} (b : Bool) (x y : A) (xs : List A) → Has x xs → Has x (if b then xs else y ∷ xs)
has_if true x y xs h = h
has_if false x y xs h = inr h

-- what a launch adds keeps what was there
keeps_standing : (x : Own) (f : ℕ → Own) (o : Option ℕ) (items : List Own) → Has x items → Has x (with_standing f o items)
keeps_standing x f None items h = h
keeps_standing x f (Some k) items h = inr h

keeps_from : (x : Own) (s p n : ℕ) (items : List Own) → Has x items → Has x (with_revokes_from s p n items)
keeps_from x s p zero items h = h
keeps_from x s p (suc n) items h = keeps_from x s (suc p) n (with_standing (λ (k : ℕ). own.Proxy p (proxy.Revoke s k)) (standing_in proxy_grant (filter_map (proxy_item p) items) s) items)
    (keeps_standing x (λ (k : ℕ). own.Proxy p (proxy.Revoke s k)) (standing_in proxy_grant (filter_map (proxy_item p) items) s) items h)

keeps_revokes : (C : Config) (x : Own) (s : ℕ) (items : List Own) → Has x items → Has x (with_revokes C s items)
keeps_revokes C x s items h =
    let a : List Own = with_revokes_from s 0 (length C.proxies) items in
    let b : List Own = with_revoke_pubd s a in
    keeps_standing x (λ (k : ℕ). own.Oklogd (oklogd.Revoke s k)) (standing_in log_grant (filter_map log_item b) s) b
    (keeps_standing x (λ (k : ℕ). own.Pubd (pubd.Revoke s k)) (standing_in pubd_grant (filter_map pubd_item a) s) a (keeps_from x s 0 (length C.proxies) items h))

keeps_cleared : (C : Config) (R : Record) (x : Own) (s : ℕ) (items : List Own) → Has x items → Has x (with_cleared C R s items)
keeps_cleared C R x s items h =
    let a : List Own = with_down s items in
    let b : List Own = with_revokes C s a in
    has_if (found_at R s b == 0) x (own.Retired s) b (keeps_revokes C x s a (keeps_standing x (λ (k : ℕ). own.Okd (okd.Down s k)) (standing_in okd_grant (filter_map okd_item items) s) items h))

keeps_installs : (seed : List ℕ) (x : Own) (s k : ℕ) (places : List Place) (items : List Own) → Has x items → Has x (with_installs seed s k places items)
keeps_installs seed x s k [] items h = h
keeps_installs seed x s k (at ∷ places) items h = keeps_installs seed x s k places (install_at seed s k at ∷ items) (inr h)

keeps_boot_if : (b : Bool) (x : Own) (s k : ℕ) (items : List Own) → Has x items → Has x (with_boot_if b s k items)
keeps_boot_if true x s k items h = inr h
keeps_boot_if false x s k items h = h

-- a Boot that is there was there before, but for the launch's own
back_standing : (x : Own) (f : ℕ → Own) (o : Option ℕ) (items : List Own) → ((k : ℕ) → f k ≡ x → ⊥) → Has x (with_standing f o items) → Has x items
back_standing x f None items other h = h
back_standing x f (Some k) items other (inl is) = absurd (other k is)
back_standing x f (Some k) items other (inr h) = h

proxy_boot : (s j p : ℕ) (e : ProxyEvent) → own.Proxy p e ≡ own.Boot s j → ⊥
proxy_boot s j p e is = let never : ⊥ = cc in never

back_from : (t j s p n : ℕ) (items : List Own) → Has (own.Boot t j) (with_revokes_from s p n items) → Has (own.Boot t j) items
back_from t j s p zero items h = h
back_from t j s p (suc n) items h = back_standing (own.Boot t j) (λ (k : ℕ). own.Proxy p (proxy.Revoke s k)) (standing_in proxy_grant (filter_map (proxy_item p) items) s) items (λ k is. proxy_boot t j p (proxy.Revoke s k) is)
    (back_from t j s (suc p) n (with_standing (λ (k : ℕ). own.Proxy p (proxy.Revoke s k)) (standing_in proxy_grant (filter_map (proxy_item p) items) s) items) h)

pubd_boot : (t j s k : ℕ) → own.Pubd (pubd.Revoke s k) ≡ own.Boot t j → ⊥
pubd_boot t j s k is = let never : ⊥ = cc in never

log_boot : (t j s k : ℕ) → own.Oklogd (oklogd.Revoke s k) ≡ own.Boot t j → ⊥
log_boot t j s k is = let never : ⊥ = cc in never

down_boot : (t j s k : ℕ) → own.Okd (okd.Down s k) ≡ own.Boot t j → ⊥
down_boot t j s k is = let never : ⊥ = cc in never

up_boot : (t j s k : ℕ) → own.Okd (okd.Up s k) ≡ own.Boot t j → ⊥
up_boot t j s k is = let never : ⊥ = cc in never

retired_boot : (t j s : ℕ) → own.Retired s ≡ own.Boot t j → ⊥
retired_boot t j s is = let never : ⊥ = cc in never

install_boot : (seed : List ℕ) (t j s k : ℕ) (at : Place) → install_at seed s k at ≡ own.Boot t j → ⊥
install_boot seed t j s k (Proxy p) is = let never : ⊥ = cc in never
install_boot seed t j s k Pubd is = let never : ⊥ = cc in never
install_boot seed t j s k Oklogd is = let never : ⊥ = cc in never

back_revokes : (C : Config) (t j s : ℕ) (items : List Own) → Has (own.Boot t j) (with_revokes C s items) → Has (own.Boot t j) items
back_revokes C t j s items h =
    let a : List Own = with_revokes_from s 0 (length C.proxies) items in
    let b : List Own = with_revoke_pubd s a in
    back_from t j s 0 (length C.proxies) items
    (back_standing (own.Boot t j) (λ (k : ℕ). own.Pubd (pubd.Revoke s k)) (standing_in pubd_grant (filter_map pubd_item a) s) a (pubd_boot t j s)
    (back_standing (own.Boot t j) (λ (k : ℕ). own.Oklogd (oklogd.Revoke s k)) (standing_in log_grant (filter_map log_item b) s) b (log_boot t j s) h))

back_if : (b : Bool) (t j s : ℕ) (items : List Own) → Has (own.Boot t j) (if b then items else own.Retired s ∷ items) → Has (own.Boot t j) items
back_if true t j s items h = h
back_if false t j s items (inl is) = absurd (retired_boot t j s is)
back_if false t j s items (inr h) = h

back_cleared : (C : Config) (R : Record) (t j s : ℕ) (items : List Own) → Has (own.Boot t j) (with_cleared C R s items) → Has (own.Boot t j) items
back_cleared C R t j s items h =
    let a : List Own = with_down s items in
    let b : List Own = with_revokes C s a in
    back_standing (own.Boot t j) (λ (k : ℕ). own.Okd (okd.Down s k)) (standing_in okd_grant (filter_map okd_item items) s) items (down_boot t j s) (back_revokes C t j s a (back_if (found_at R s b == 0) t j s b h))

back_installs : (seed : List ℕ) (t j s k : ℕ) (places : List Place) (items : List Own) → Has (own.Boot t j) (with_installs seed s k places items) → Has (own.Boot t j) items
back_installs seed t j s k [] items h = h
back_installs seed t j s k (at ∷ places) items h = drop_it (back_installs seed t j s k places (install_at seed s k at ∷ items) h) where
  drop_it : Has (own.Boot t j) (install_at seed s k at ∷ items) → Has (own.Boot t j) items
  drop_it (inl is) = absurd (install_boot seed t j s k at is)
  drop_it (inr h) = h

-- the Installs of a launch
installs_has : (seed : List ℕ) (s k : ℕ) (at : Place) (places : List Place) (items : List Own) → Has at places → Has (install_at seed s k at) (with_installs seed s k places items)
installs_has seed s k at [] items h = absurd h
installs_has seed s k at (other ∷ places) items (inl is) = keeps_installs seed (install_at seed s k at) s k places (install_at seed s k other ∷ items) (inl (ap (install_at seed s k) is))
installs_has seed s k at (other ∷ places) items (inr h) = installs_has seed s k at places (install_at seed s k other ∷ items) h

in_numbered : (p i n : ℕ) → i ≤ p → p < i + n → Has p (numbered_from i n)
in_numbered p i zero low high = absurd (omega (arith, low, high))
in_numbered p i (suc n) low high = dite (ℕ_discrete i p) (λ is. inl is) (λ other. inr (in_numbered p (i + 1) n (omega (arith, low, other)) (omega (arith, high))))

filter_step : {A : Type 0} (b : Bool) (x p : A) (rest : List A) → (x ≡ p → b ≡ true) → (x ≡ p) ⊎ Has p rest → Has p (if b then x ∷ rest else rest)
filter_step true x p rest holds h = h
filter_step false x p rest holds (inl is) = let never : ⊥ = (let t = holds is in cc) in absurd never
filter_step false x p rest holds (inr h) = h

in_filter : {A : Type 0} (f : A → Bool) (p : A) (xs : List A) → f p ≡ true → Has p xs → Has p (filter f xs)
in_filter f p [] t h = absurd h
in_filter f p (x ∷ xs) t (inl is) = filter_step (f x) x p (filter f xs) (λ same. ap f same ∙ t) (inl is)
in_filter f p (x ∷ xs) t (inr h) = filter_step (f x) x p (filter f xs) (λ same. ap f same ∙ t) (inr (in_filter f p xs t h))

out_step : {A : Type 0} (b : Bool) (x p : A) (rest xs : List A) → (Has p rest → Has p xs) → Has p (if b then x ∷ rest else rest) → (x ≡ p) ⊎ Has p xs
out_step true x p rest xs on (inl is) = inl is
out_step true x p rest xs on (inr h) = inr (on h)
out_step false x p rest xs on h = inr (on h)

out_filter : {A : Type 0} (f : A → Bool) (p : A) (xs : List A) → Has p (filter f xs) → Has p xs
out_filter f p [] h = absurd h
out_filter f p (x ∷ xs) h = out_step (f x) x p (filter f xs) xs (out_filter f p xs) h

in_map : (p : ℕ) (xs : List ℕ) → Has p xs → Has (Proxy p) (map Proxy xs)
in_map p [] h = absurd h
in_map p (x ∷ xs) (inl is) = inl (ap Proxy is)
in_map p (x ∷ xs) (inr h) = inr (in_map p xs h)

in_cols : (C : Config) (s p : ℕ) → p < length C.proxies → grants_at C s p ≡ true → Has (Proxy p) (cols C s)
in_cols C s p within granted = has_left (Proxy p) (map Proxy (proxies_of C s)) (Pubd ∷ Oklogd ∷ []) (in_map p (proxies_of C s)
    (in_filter (λ (q : ℕ). grants_at C s q) p (numbered_from 0 (length C.proxies)) granted (in_numbered p 0 (length C.proxies) (omega arith) (omega (arith, within)))))

take_all : {A : Type 0} (n : ℕ) (xs : List A) → length xs < n → take n xs ≡ xs
take_all zero xs less = absurd (omega (arith, less))
take_all (suc n) [] less = refl
take_all (suc n) (x ∷ xs) less = ap (λ l. x ∷ l) (take_all n xs (omega (arith, less)))

-- each incarnation that was booted was installed at each proxy where its service has a grant, by these items
abbrev pub BootsInstalled : Config → List ℕ → List Own → Type 0
BootsInstalled C seed items = (s j p : ℕ) → Has (own.Boot s j) items → p < length C.proxies → grants_at C s p ≡ true → Has (own.Proxy p (proxy.Install s j (token_of seed s j p))) items

boot_service : (s k t j : ℕ) → own.Boot s k ≡ own.Boot t j → s ≡ t
boot_service s k t j is = cc

boot_incarnation : (s k t j : ℕ) → own.Boot s k ≡ own.Boot t j → k ≡ j
boot_incarnation s k t j is = cc

-- the own Boot of a launch whose columns were all installed at
own_boot : (C : Config) (seed : List ℕ) (s k t j p : ℕ) (items : List Own) → own.Boot s k ≡ own.Boot t j → p < length C.proxies → grants_at C t p ≡ true → Has (own.Proxy p (proxy.Install t j (token_of seed t j p))) (with_installs seed s k (cols C s) items)
own_boot C seed s k t j p items is within granted =
    let service = boot_service s k t j is in
    let number = boot_incarnation s k t j is in
    subst (λ u. Has (own.Proxy p (proxy.Install u j (token_of seed u j p))) (with_installs seed s k (cols C s) items)) service
    (subst (λ i. Has (own.Proxy p (proxy.Install s i (token_of seed s i p))) (with_installs seed s k (cols C s) items)) number
    (installs_has seed s k (Proxy p) (cols C s) items (in_cols C s p within (subst (λ u. grants_at C u p ≡ true) (sym service) granted))))

old_boot : (C : Config) (seed : List ℕ) (R : Record) (s k t j p : ℕ) (places : List Place) (items : List Own) → BootsInstalled C seed items → Has (own.Boot t j) (with_installs seed s k places (with_cleared C R s items)) → p < length C.proxies → grants_at C t p ≡ true
    → Has (own.Proxy p (proxy.Install t j (token_of seed t j p))) (with_installs seed s k places (with_cleared C R s items))
old_boot C seed R s k t j p places items all h within granted =
    let x : Own = own.Proxy p (proxy.Install t j (token_of seed t j p)) in
    keeps_installs seed x s k places (with_cleared C R s items) (keeps_cleared C R x s items (all t j p (back_cleared C R t j s items (back_installs seed t j s k places (with_cleared C R s items) h)) within granted))

broken_boot : (C : Config) (seed : List ℕ) (R : Record) (s k n t j p : ℕ) (b : Bool) (items : List Own) → nat_lt (length (cols C s)) n ≡ b → BootsInstalled C seed items
    → Has (own.Boot t j) (with_boot_if b s k (with_installs seed s k (take n (cols C s)) (with_cleared C R s items))) → p < length C.proxies → grants_at C t p ≡ true
    → Has (own.Proxy p (proxy.Install t j (token_of seed t j p))) (with_boot_if b s k (with_installs seed s k (take n (cols C s)) (with_cleared C R s items)))
broken_boot C seed R s k n t j p true items is all (inl same) within granted = inr
    (subst (λ places. Has (own.Proxy p (proxy.Install t j (token_of seed t j p))) (with_installs seed s k places (with_cleared C R s items))) (sym (take_all n (cols C s) (grind (arith, nat_tests, is))))
    (own_boot C seed s k t j p (with_cleared C R s items) same within granted))
broken_boot C seed R s k n t j p true items is all (inr h) within granted = inr (old_boot C seed R s k t j p (take n (cols C s)) items all h within granted)
broken_boot C seed R s k n t j p false items is all h within granted = old_boot C seed R s k t j p (take n (cols C s)) items all h within granted

piece_installed : (C : Config) (seed : List ℕ) (R : Record) (s k : ℕ) (fate : Fate) (items : List Own) → BootsInstalled C seed items → BootsInstalled C seed (with_piece C seed R s k fate items)
piece_installed C seed R s k CameUp items all t j p (inl is) within granted = absurd (up_boot t j s k is)
piece_installed C seed R s k CameUp items all t j p (inr (inl is)) within granted = inr (inr (own_boot C seed s k t j p (with_cleared C R s items) is within granted))
piece_installed C seed R s k CameUp items all t j p (inr (inr h)) within granted = inr (inr (old_boot C seed R s k t j p (cols C s) items all h within granted))
piece_installed C seed R s k Failed items all t j p h within granted = old_boot C seed R s k t j p (cols C s) items all h within granted
piece_installed C seed R s k (BrokeOff n) items all t j p h within granted =
    let b : Bool = nat_lt (length (cols C s)) n in
    let inner : List Own = with_boot_if b s k (with_installs seed s k (take n (cols C s)) (with_cleared C R s items)) in
    keeps_revokes C (own.Proxy p (proxy.Install t j (token_of seed t j p))) s inner (broken_boot C seed R s k n t j p b items refl all (back_revokes C t j s inner h) within granted)

pieces_installed : (C : Config) (seed : List ℕ) (R : Record) (as' : List Attempt) (fates : List Fate) → BootsInstalled C seed (all_pieces C seed R as' fates)
pieces_installed C seed R [] fates t j p h within granted = absurd h
pieces_installed C seed R (a ∷ more) [] t j p h within granted = absurd h
pieces_installed C seed R (a ∷ more) (fate ∷ fates) t j p h within granted = piece_installed C seed R a.service a.incarnation fate (all_pieces C seed R more fates) (pieces_installed C seed R more fates) t j p h within granted

-- the end of a run boots nothing
ending_boot : (t j : ℕ) (ending items : List Own) → IsTrue (list_all is_retired ending) → Has (own.Boot t j) (ending ++ items) → Has (own.Boot t j) items
ending_boot t j [] items all h = h
ending_boot t j (own.Retired s ∷ ending) items all (inl is) = absurd (retired_boot t j s is)
ending_boot t j (own.Retired s ∷ ending) items all (inr h) = ending_boot t j ending items all h
ending_boot t j (own.Okd e ∷ ending) items all h = let never : ⊥ = cc in absurd never
ending_boot t j (own.Proxy p e ∷ ending) items all h = let never : ⊥ = cc in absurd never
ending_boot t j (own.Pubd e ∷ ending) items all h = let never : ⊥ = cc in absurd never
ending_boot t j (own.Oklogd e ∷ ending) items all h = let never : ⊥ = cc in absurd never
ending_boot t j (own.Launcher e ∷ ending) items all h = let never : ⊥ = cc in absurd never
ending_boot t j (own.Dialog s ∷ ending) items all h = let never : ⊥ = cc in absurd never
ending_boot t j (own.Missed s wanted is' ∷ ending) items all h = let never : ⊥ = cc in absurd never
ending_boot t j (own.Boot s k ∷ ending) items all h = let never : ⊥ = cc in absurd never
ending_boot t j (own.NoMemory ∷ ending) items all h = let never : ⊥ = cc in absurd never

pub launches_installed : (C : Config) (seed : List ℕ) (R : Record) (T : Outside) → LaunchesArePieces C seed T R → BootsInstalled C seed R.launches
launches_installed C seed R T h = subst (BootsInstalled C seed) (sym h.list_is)
    (λ t j p there within granted. has_right (own.Proxy p (proxy.Install t j (token_of seed t j p))) h.ending (all_pieces C seed R _ h.fates)
    (pieces_installed C seed R _ h.fates t j p (ending_boot t j h.ending (all_pieces C seed R _ h.fates) h.ends.retireds there) within granted))

any_if : (b : Bool) (x y : Own) (xs : List Own) → Has x xs → Has x (if b then y ∷ xs else xs)
any_if true x y xs h = inr h
any_if false x y xs h = h

-- a Boot of the cell is an item of who launches
boot_item : (n s j : ℕ) (J : List CellEvent) → list_any (is_boot_of j) J ≡ true → Has (own.Boot s j) (cell_items n n s J)
boot_item n s j [] h = let never : ⊥ = cc in absurd never
boot_item n s j (cell.Boot k ∷ J) h = rw (eq-eqb n n refl) (by (k == j) refl h (boot_item n s j J)) where
  by : (b : Bool) → (k == j) ≡ b → (b || list_any (is_boot_of j) J) ≡ true → (list_any (is_boot_of j) J ≡ true → Has (own.Boot s j) (cell_items n n s J)) → Has (own.Boot s j) (own.Boot s k ∷ cell_items n n s J)
  by true is h rest = inl (ap (own.Boot s) (eqb-true k j is))
  by false is h rest = inr (rest h)
boot_item n s j (cell.Retired ∷ J) h = rw (eq-eqb n n refl) (inr (boot_item n s j J h))
boot_item n s j (cell.Missed v wanted is ∷ J) h = any_if (v == n) (own.Boot s j) (own.Missed s wanted is) (cell_items n n s J) (boot_item n s j J h)
boot_item n s j (cell.Dialog d ∷ J) h = any_if (d.worker == n) (own.Boot s j) (own.Dialog s) (cell_items n n s J) (boot_item n s j J h)
boot_item n s j (cell.Speaking worker items ∷ J) h = any_if (worker == n) (own.Boot s j) (own.Dialog s) (cell_items n n s J) (boot_item n s j J h)

-- an item of a proxy is an entry there
opt_step : (o : Option ProxyEvent) (x : ProxyEvent) (rest : List ProxyEvent) → Has x rest → Has x (cons_option o rest)
opt_step None x rest h = h
opt_step (Some e) x rest h = inr h

item_entry : (p : ℕ) (e : ProxyEvent) (items : List Own) → Has (own.Proxy p e) items → Has e (filter_map (proxy_item p) items)
item_entry p e [] h = absurd h
item_entry p e (x ∷ items) (inl is) = subst (λ (y : Own). Has e (cons_option (proxy_item p y) (filter_map (proxy_item p) items))) (sym is)
    (subst (λ (b : Bool). Has e (cons_option (if b then Some e else None) (filter_map (proxy_item p) items))) (sym (eq-eqb p p refl)) (inl refl))
item_entry p e (x ∷ items) (inr h) = opt_step (proxy_item p x) e (filter_map (proxy_item p) items) (item_entry p e items h)

entry_step : (b : Bool) (e : Entry ProxyEvent) (x : ProxyEvent) (rest : List (Entry ProxyEvent)) → Has x (map (λ (d : Entry ProxyEvent). d.event) (if b then e ∷ rest else rest)) → (e.event ≡ x) ⊎ Has x (map (λ (d : Entry ProxyEvent). d.event) rest)
entry_step true e x rest h = h
entry_step false e x rest h = inr h

entry_installed : (n s j : ℕ) (token : Token) (J : List (Entry ProxyEvent)) → Has (proxy.Install s j token) (events_of n J) → WasInstalled J s j
entry_installed n s j token [] h = absurd h
entry_installed n s j token (e ∷ J) h = by (entry_step (e.worker == n) e (proxy.Install s j token) (filter (λ (d : Entry ProxyEvent). d.worker == n) J) h) (entry_installed n s j token J) where
  by : (e.event ≡ proxy.Install s j token) ⊎ Has (proxy.Install s j token) (events_of n J) → (Has (proxy.Install s j token) (events_of n J) → WasInstalled J s j) → Installs s j e.event ⊎ WasInstalled J s j
  by (inl is) rest = inl (subst (λ v. Installs s j v) (sym is) (refl, refl))
  by (inr h) rest = inr (rest h)

-- the launcher's list is the last
last_at : (ws : List (List Own)) (l : List Own) → slice_index_or (ws ++ l ∷ []) (length ws) [] ≡ l
last_at [] l = refl
last_at (w ∷ ws) l = last_at ws l

last_in : (ws : List (List Own)) (l : List Own) → length ws < length (ws ++ l ∷ [])
last_in [] l = omega arith
last_in (w ∷ ws) l = let h = last_in ws l in omega (arith, h)

pub booted_installed : (C : Config) (seed : List ℕ) (T : Outside) (R : Record) → IsLegal C seed T R → (s j p : ℕ) → list_any (is_boot_of j) (cell_past R s) ≡ true → p < length C.proxies → grants_at C s p ≡ true → WasInstalled (proxy_past R.proxies p) s j
booted_installed C seed T R legal s j p booted within granted =
    let n : ℕ = length R.workers in
    let owns : IsOwn R n n R.launches = subst (IsOwn R n n) (last_at R.workers R.launches) (legal.made.merged.own n (last_in R.workers R.launches)) in
    let boot : Has (own.Boot s j) R.launches = out_filter (is_at_cell s) (own.Boot s j) R.launches (subst (Has (own.Boot s j)) (owns.cells s) (boot_item n s j (cell_past R s) booted)) in
    let install = launches_installed C seed R T legal.launched s j p boot within granted in
    entry_installed n s j (token_of seed s j p) (proxy_past R.proxies p) (subst (Has (proxy.Install s j (token_of seed s j p))) (sym (owns.proxies p)) (item_entry p (proxy.Install s j (token_of seed s j p)) R.launches install))

law_at : (C : Config) (seed : List ℕ) (i : ℕ) (Js : List (List (Entry ProxyEvent))) (p : ℕ) → EachFrom (λ q J. ProxyLaw C seed q J) i Js → p < length Js → ProxyLaw C seed (i + p) (slice_index_or Js p [])
law_at C seed i [] p h less = absurd (omega (arith, less))
law_at C seed i (J ∷ Js) zero h less = subst (λ q. ProxyLaw C seed q J) (omega arith) h.0
law_at C seed i (J ∷ Js) (suc p) h less = subst (λ q. ProxyLaw C seed q (slice_index_or Js p [])) (omega arith) (law_at C seed (suc i) Js p h.1 (omega (arith, less)))

zero_plus : (p : ℕ) → 0 + p ≡ p
zero_plus p = omega arith

pub boots_come_first : LegalRunsBootFirst
boots_come_first C seed T R legal follows =
    let law : (p : ℕ) → p < length R.proxies → ProxyLaw C seed p (proxy_past R.proxies p) = λ p within. subst (λ q. ProxyLaw C seed q (proxy_past R.proxies p)) (zero_plus p) (law_at C seed 0 R.proxies p legal.lawful.proxies within) in
    record {
      opens = λ p s k j w later J within is granted booted le. tokens_are_known C seed p s k j w later J (proxy_past R.proxies p) is (law p within) (follows p within) granted
          (booted_installed C seed T R legal s j p booted (subst (λ m. p < m) legal.lawful.proxies_are within) granted) le;
      calls = λ p w call mark later J within is granted stale. stale_calls_were_revoked C seed p w call mark later J (proxy_past R.proxies p) is (law p within) (follows p within) granted stale;
    }
