-- The row of the proxies' columns.
use Rattle.std.proofs.Common.{◌≡◌, ◌∙◌, ℕ, zero, suc, ◌+◌, ◌<◌, ◌==◌, List, [], ◌∷◌, length, get_or, refl, sym, ap, subst, arith}
use Rattle.std.specs.Prelude.{slice_set, Option, Some, None, true, is_some, option_map, replicate, IfOk, IfSome, OnOk, OnErr, ◌++◌}
use Rattle.okws_base.specs.Past.{is_just}
use Rattle.std.specs.declared.result.Result.{Result}
use Rattle.std.specs.declared.result.Result.TheVariants.{Ok, Err}
use Rattle.std.proofs.lemmas.List.{map-set, map-append, get_or-map, length-map, length-append, replicate-append-replicate}
use Rattle.okws_plan.specs.declared.configuration.Config.{Config}
use Rattle.okws_plan.specs.declared.event.Call.{Call as Called}
use Rattle.okws_plan.specs.declared.event.Mark.{Mark}
use Rattle.okws_plan.specs.declared.event.Mark.TheVariants.{Done}
use Rattle.okws_plan.specs.declared.event.ProxyEvent.{ProxyEvent}
use Rattle.okws_plan.specs.declared.event.ProxyEvent.TheVariants.{Call}
use Rattle.monitor_model.specs.Columns.{faults, faults_after}
use Rattle.monitor_model.specs.declared.verdict.Verdict.{Verdict}
use Rattle.monitor_model.specs.Proxy.{call_verdict, rows}
use Rattle.monitor_model.specs.Seen.{proxy_past}
use Rattle.db_proxy.specs.Seen.{Seen, entered}
use Rattle.site_columns.specs.Proxies.{Pasts, entered_at, pasts_of, IsColumn, AreFrom}

-- ---- one of the columns

column_at : (C : Config) (seed : List ℕ) (i j p : ℕ) (xs : List Seen) (d : Seen) → AreFrom C seed i xs → p < length xs → j ≡ i + p → IsColumn C seed j (get_or xs p d)
column_at C seed i j p [] d h b e = absurd (omega (arith, b))
column_at C seed i j zero (x ∷ xs) d h b e = let P : ℕ → Type 0 = λ n. IsColumn C seed n x in subst P (omega (arith, e)) h.0
column_at C seed i j (suc p) (x ∷ xs) d h b e = column_at C seed (i + 1) j p xs d h.1 (omega (arith, b)) (omega (arith, e))

-- a column is replaced by another of its number
column_set : (C : Config) (seed : List ℕ) (i j p : ℕ) (xs : List Seen) (y : Seen) → AreFrom C seed i xs → j ≡ i + p → IsColumn C seed j y → AreFrom C seed i (slice_set xs p y)
column_set C seed i j p [] y h e k = h
column_set C seed i j zero (x ∷ xs) y h e k = let P : ℕ → Type 0 = λ n. IsColumn C seed n y in (subst P (omega (arith, e)) k, h.1)
column_set C seed i j (suc p) (x ∷ xs) y h e k = (h.0, column_set C seed (i + 1) j p xs y h.1 (omega (arith, e)) k)

-- a value is replaced by itself
set_same : {A : Type 0} (xs : List A) (p : ℕ) (x d : A) → p < length xs → x ≡ get_or xs p d → slice_set xs p x ≡ xs
set_same [] p x d b h = refl
set_same (y ∷ xs) zero x d b h = ap (λ z. z ∷ xs) h
set_same (y ∷ xs) (suc p) x d b h = ap (λ zs. y ∷ zs) (set_same xs p x d (omega (arith, b)) h)

-- x is the column of proxy p in the row xs, which has the value P
pub record IsIn (C : Config) (seed : List ℕ) (w : ℕ) (xs : List Seen) (P : Pasts) (p : ℕ) (x : Seen) : Type 0 where
  pub view_is : record { config = C; seed = seed; holder = w; pasts = pasts_of xs } ≡ P
  pub all : AreFrom C seed 0 xs
  pub within : p < length P.pasts
  pub is : x ≡ get_or xs p x

inside : (C : Config) (seed : List ℕ) (w : ℕ) (xs : List Seen) (P : Pasts) (p : ℕ) (x : Seen) → IsIn C seed w xs P p x → p < length xs
inside C seed w xs P p x h =
    let same : length (pasts_of xs) ≡ length P.pasts = ap (λ v. length v.pasts) h.view_is in omega (arith, h.within, same, length-map xs (λ (y : Seen). y.past))

-- what is known of the column of a proxy
pub record IsColumnOf (P : Pasts) (p : ℕ) (x : Seen) : Type 0 where
  pub config_is : x.config ≡ P.config
  pub seed_is : x.seed ≡ P.seed
  pub number_is : x.number ≡ p
  pub past_is : x.past ≡ proxy_past P.pasts p
  pub steady_is : x.steady ≡ true
  pub told_is : is_some x.told ≡ true

column_in : (C : Config) (seed : List ℕ) (w : ℕ) (xs : List Seen) (P : Pasts) (p : ℕ) (x : Seen) → IsIn C seed w xs P p x → IsColumn C seed p x
column_in C seed w xs P p x h = subst (λ (y : Seen). IsColumn C seed p y) (sym h.is) (column_at C seed 0 p p xs x h.all (inside C seed w xs P p x h) (omega arith))

pub column_of : (C : Config) (seed : List ℕ) (w : ℕ) (xs : List Seen) (P : Pasts) (p : ℕ) (x : Seen) → IsIn C seed w xs P p x → IsColumnOf P p x
column_of C seed w xs P p x h =
    let it : IsColumn C seed p x = column_in C seed w xs P p x h in
    let past : proxy_past (pasts_of xs) p ≡ (get_or xs p x).past = get_or-map (λ (y : Seen). y.past) xs p x [] (inside C seed w xs P p x h) in
    record {
      config_is = it.config_is ∙ ap (λ v. v.config) h.view_is;
      seed_is = it.seed_is ∙ ap (λ v. v.seed) h.view_is;
      number_is = it.number_is;
      past_is = ap (λ v. v.past) h.is ∙ sym past ∙ ap (λ v. proxy_past v.pasts p) h.view_is;
      steady_is = it.steady_is;
      told_is = it.told_is;
    }

-- the same while number w holds it
pub held_of : (C : Config) (seed : List ℕ) (w : ℕ) (xs : List Seen) (P : Pasts) (p : ℕ) (x m : Seen) → IsIn C seed w xs P p x → m ≡ record x { holder = w } → IsColumnOf P p m
held_of C seed w xs P p x m h e = rw e (let it = column_of C seed w xs P p x h in record {
  config_is = it.config_is;
  seed_is = it.seed_is;
  number_is = it.number_is;
  past_is = it.past_is;
  steady_is = it.steady_is;
  told_is = it.told_is;
})

-- ---- a call of one of the columns

-- a column with an entry of number w more, whatever became of its rows
pub record IsMore (w : ℕ) (x y : Seen) (event : ProxyEvent) : Type 0 where
  pub config_same : y.config ≡ x.config
  pub seed_same : y.seed ≡ x.seed
  pub number_same : y.number ≡ x.number
  pub steady_same : y.steady ≡ x.steady
  pub told_same : is_some y.told ≡ is_some x.told
  pub past_is : y.past ≡ record { worker = w; event = event } ∷ x.past

-- what became of the row where number w called the column of proxy p, and it entered this event or nothing
pub record Enters {T E : Type 0} (r : Result T E) (C : Config) (seed : List ℕ) (w : ℕ) (now : List Seen) (P : Pasts) (p : ℕ) (event : ProxyEvent) : Type 0 where
  pub still : AreFrom C seed 0 now
  pub ok : OnOk r (record { config = C; seed = seed; holder = w; pasts = pasts_of now } ≡ entered_at P p event)
  pub err : OnErr r (record { config = C; seed = seed; holder = w; pasts = pasts_of now } ≡ P)

more_is : (C : Config) (seed : List ℕ) (w : ℕ) (xs : List Seen) (P : Pasts) (p : ℕ) (x y : Seen) (event : ProxyEvent) → IsIn C seed w xs P p x → IsMore w x y event
    → record { config = C; seed = seed; holder = w; pasts = pasts_of (slice_set xs p y) } ≡ entered_at P p event
more_is C seed w xs P p x y event h m =
    let new : y.past ≡ record { worker = w; event = event } ∷ proxy_past P.pasts p = m.past_is ∙ rw (column_of C seed w xs P p x h).past_is refl in
    rw (map-set (λ (z : Seen). z.past) xs p y, new, ← h.view_is) refl

still_more : (C : Config) (seed : List ℕ) (w : ℕ) (xs : List Seen) (P : Pasts) (p : ℕ) (x y : Seen) (event : ProxyEvent) → IsIn C seed w xs P p x → ((n : ℕ) → faults_after event n ≡ n) → IsMore w x y event
    → AreFrom C seed 0 (slice_set xs p y)
still_more C seed w xs P p x y event h quiet m =
    let it : IsColumn C seed p x = column_in C seed w xs P p x h in
    column_set C seed 0 p p xs y h.all (omega arith) (record {
      config_is = m.config_same ∙ it.config_is;
      seed_is = m.seed_same ∙ it.seed_is;
      number_is = m.number_same ∙ it.number_is;
      steady_is = m.steady_same ∙ it.steady_is;
      told_is = m.told_same ∙ it.told_is;
      faultless = ap faults m.past_is ∙ quiet (faults x.past) ∙ it.faultless;
    })

kept_is : (C : Config) (seed : List ℕ) (w : ℕ) (xs : List Seen) (P : Pasts) (p : ℕ) (x y : Seen) → IsIn C seed w xs P p x → y ≡ record x { holder = w }
    → record { config = C; seed = seed; holder = w; pasts = pasts_of (slice_set xs p y) } ≡ P
kept_is C seed w xs P p x y h e =
    let b : p < length (pasts_of xs) = omega (arith, inside C seed w xs P p x h, length-map xs (λ (z : Seen). z.past)) in
    let past : y.past ≡ proxy_past (pasts_of xs) p = ap (λ v. v.past) e ∙ (column_of C seed w xs P p x h).past_is ∙ sym (ap (λ v. proxy_past v.pasts p) h.view_is) in
    rw (map-set (λ (z : Seen). z.past) xs p y, set_same (pasts_of xs) p y.past [] b past) h.view_is

still_kept : (C : Config) (seed : List ℕ) (w : ℕ) (xs : List Seen) (P : Pasts) (p : ℕ) (x y : Seen) → IsIn C seed w xs P p x → y ≡ record x { holder = w } → AreFrom C seed 0 (slice_set xs p y)
still_kept C seed w xs P p x y h e =
    let it : IsColumn C seed p x = column_in C seed w xs P p x h in
    column_set C seed 0 p p xs y h.all (omega arith) (rw e (record {
      config_is = it.config_is;
      seed_is = it.seed_is;
      number_is = it.number_is;
      steady_is = it.steady_is;
      told_is = it.told_is;
      faultless = it.faultless;
    }))

pub enters : {T E : Type 0} (r : Result T E) (C : Config) (seed : List ℕ) (w : ℕ) (xs : List Seen) (P : Pasts) (p : ℕ) (x y : Seen) (event : ProxyEvent) → IsIn C seed w xs P p x → ((n : ℕ) → faults_after event n ≡ n)
    → OnOk r (IsMore w x y event) → OnErr r (y ≡ record x { holder = w }) → Enters r C seed w (slice_set xs p y) P p event
enters (Ok v) C seed w xs P p x y event h quiet ok err = record { still = still_more C seed w xs P p x y event h quiet ok; ok = more_is C seed w xs P p x y event h ok; err = tt }
enters (Err e) C seed w xs P p x y event h quiet ok err = record { still = still_kept C seed w xs P p x y h err; ok = tt; err = kept_is C seed w xs P p x y h err }

pub more_of : (w : ℕ) (x m y : Seen) (event : ProxyEvent) → m ≡ record x { holder = w } → y ≡ entered m event → IsMore w x y event
more_of w x m y event e new = rw (new, e) (record { config_same = refl; seed_same = refl; number_same = refl; steady_same = refl; told_same = refl; past_is = refl })

-- the same of a call that enters its event wherever it succeeds
pub enters_all : {T E : Type 0} (r : Result T E) (C : Config) (seed : List ℕ) (w : ℕ) (xs : List Seen) (P : Pasts) (p : ℕ) (x m y : Seen) (event : ProxyEvent) → IsIn C seed w xs P p x → ((n : ℕ) → faults_after event n ≡ n)
    → m ≡ record x { holder = w } → OnOk r (y ≡ entered m event) → OnErr r (y ≡ m) → Enters r C seed w (slice_set xs p y) P p event
enters_all (Ok v) C seed w xs P p x m y event h quiet e ok err = enters (Ok v) C seed w xs P p x y event h quiet (more_of w x m y event e ok) tt
enters_all (Err v) C seed w xs P p x m y event h quiet e ok err = enters (Err v) C seed w xs P p x y event h quiet tt (err ∙ e)

same_number : (k : ℕ) → (k == k) ≡ true
same_number k = grind arith

-- an incarnation that stands is the one that stands
pub is_live : (o : Option ℕ) (k : ℕ) → o ≡ Some k → is_just k o ≡ true
is_live o k e = rw e (same_number k)

-- ---- a Call

told_by : {A P : Type 0} (o : Option A) → is_some o ≡ true → IfSome o (λ _. P) → P
told_by None e h = absurd (cc)
told_by (Some a) e h = h

some_map : {A B : Type 0} (f : A → B) (o : Option A) → is_some (option_map f o) ≡ is_some o
some_map f None = refl
some_map f (Some a) = refl

-- what a Call makes of a column whose keeper tells its rows and never fails
pub record Answered (w : ℕ) (P : Pasts) (p : ℕ) (x y : Seen) (call : Called) (v : Verdict) : Type 0 where
  pub more : IsMore w x y (Call call Done)
  pub verdict : v ≡ call_verdict P.config p (proxy_past P.pasts p) call Done

pub answered : {A E : Type 0} (r : Result A E) (tells : A → Verdict) (w : ℕ) (P : Pasts) (p : ℕ) (x m y : Seen) (call : Called) (F : Mark → Type 0) (G : A → Mark → Type 0) → IsColumnOf P p m → m ≡ record x { holder = w }
    → IfOk r (λ v. (mark : Mark) × (y.past ≡ record { worker = m.holder; event = Call call mark } ∷ m.past) × F mark × (m.steady ≡ true → mark ≡ Done) × G v mark
    × IfSome m.told (λ _. tells v ≡ call_verdict m.config m.number m.past call mark))
    → OnOk r (y.told ≡ option_map (λ _. rows y.config y.number y.past) m.told) → y ≡ record m { past = y.past; told = y.told; faults = y.faults }
    → IfOk r (λ v. Answered w P p x y call (tells v))
answered (Err e) tells w P p x m y call F G at held h new same = tt
answered (Ok v) tells w P p x m y call F G at held h new same =
    let done : h.0 ≡ Done = h.3 at.steady_is in
    let past : y.past ≡ record { worker = m.holder; event = Call call Done } ∷ m.past = h.1 ∙ ap (λ (k : Mark). record { worker = m.holder; event = Call call k } ∷ m.past) done in record {
      more = record {
        config_same = ap (λ z. z.config) same ∙ ap (λ z. z.config) held;
        seed_same = ap (λ z. z.seed) same ∙ ap (λ z. z.seed) held;
        number_same = ap (λ z. z.number) same ∙ ap (λ z. z.number) held;
        steady_same = ap (λ z. z.steady) same ∙ ap (λ z. z.steady) held;
        told_same = ap is_some new ∙ some_map (λ _. rows y.config y.number y.past) m.told ∙ ap (λ z. is_some z.told) held;
        past_is = past ∙ rw held refl;
      };
      verdict = told_by m.told at.told_is h.5 ∙ rw (done, at.config_is, at.number_is, at.past_is) refl;
    }

pub more_ok : {A E : Type 0} (r : Result A E) (tells : A → Verdict) (w : ℕ) (P : Pasts) (p : ℕ) (x y : Seen) (call : Called) → IfOk r (λ v. Answered w P p x y call (tells v)) → OnOk r (IsMore w x y (Call call Done))
more_ok (Ok v) tells w P p x y call h = h.more
more_ok (Err e) tells w P p x y call h = tt

pub verdict_ok : {A E : Type 0} (r : Result A E) (tells : A → Verdict) (w : ℕ) (P : Pasts) (p : ℕ) (x y : Seen) (call : Called) → IfOk r (λ v. Answered w P p x y call (tells v))
    → IfOk r (λ v. tells v ≡ call_verdict P.config p (proxy_past P.pasts p) call Done)
verdict_ok (Ok v) tells w P p x y call h = h.verdict
verdict_ok (Err e) tells w P p x y call h = tt

-- ---- columns that are added

pub column_more : (C : Config) (seed : List ℕ) (i j : ℕ) (xs : List Seen) (x : Seen) → AreFrom C seed i xs → j ≡ i + length xs → IsColumn C seed j x → AreFrom C seed i (xs ++ x ∷ [])
column_more C seed i j [] x h e k = let P : ℕ → Type 0 = λ n. IsColumn C seed n x in (subst P (omega (arith, e)) k, tt)
column_more C seed i j (y ∷ xs) x h e k = (h.0, column_more C seed (i + 1) j xs x h.1 (omega (arith, e)) k)

pub count_more : (xs : List Seen) (x : Seen) (n : ℕ) → length xs ≡ n → length (xs ++ x ∷ []) ≡ n + 1
count_more xs x n h = omega (arith, length-append xs (x ∷ []), h)

pub pasts_more : (xs : List Seen) (x : Seen) (n : ℕ) → pasts_of xs ≡ replicate n [] → x.past ≡ [] → pasts_of (xs ++ x ∷ []) ≡ replicate (n + 1) []
pasts_more xs x n h e =
    let added : pasts_of (xs ++ x ∷ []) ≡ pasts_of xs ++ x.past ∷ [] = map-append (λ (y : Seen). y.past) xs (x ∷ []) in
    added ∙ rw (h, e) (replicate-append-replicate n 1 [])

-- no Call is marked Fault
pub all_faultless : (C : Config) (seed : List ℕ) (i : ℕ) (xs : List Seen) → AreFrom C seed i xs → (p : ℕ) → faults (proxy_past (pasts_of xs) p) ≡ 0
all_faultless C seed i [] h p = refl
all_faultless C seed i (x ∷ xs) h zero = h.0.faultless
all_faultless C seed i (x ∷ xs) h (suc p) = all_faultless C seed (i + 1) xs h.1 p
