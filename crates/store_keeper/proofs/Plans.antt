-- A proxy more, whose rows were read.
use Rattle.std.proofs.Common.{◌≡◌, ◌∙◌, ℕ, suc, ◌+◌, ◌<◌, true, List, [], ◌∷◌, ◌++◌, zero, length, get_or, map, take, drop, refl, sym, ap, subst, arith, Option, Some, None}
use Rattle.std.specs.Prelude.{Bool, ◌&&◌, ◌==◌, IfSome, IsSome, nat_le, slice_set}
use Rattle.std.specs.List.{list_all}
use Rattle.std.proofs.lemmas.Bool.{and_from, and_parts, false≢true}
use Rattle.std.proofs.lemmas.List.{append_assoc, drop_more, get_or_at, length_push, map-append, set_at, take_more}
use Rattle.std.proofs.lemmas.List.Folds.{list_all-append}
use Rattle.okws_base.specs.declared.value.Value.{Value}
use Rattle.okws_base.specs.declared.limit.TheConstants.{MOST_QUERIES, MOST_TABLES}
use Rattle.okws_base.specs.Value.{same_bytes}
use Rattle.okws_plan.specs.Sound.{are_distinct, is_sound_plan, is_sound_table}
use Rattle.okws_plan.specs.declared.configuration.Query.{Query}
use Rattle.okws_plan.specs.declared.configuration.Config.{Config}
use Rattle.okws_plan.specs.declared.configuration.ProxyPlan.{ProxyPlan}
use Rattle.okws_plan.specs.declared.configuration.Table.{Table}
use Rattle.store_keeper.specs.Alike.{bare, AreAlike, HasRows}
use Rattle.store_keeper.specs.Sites.{bare_plan, rows_of_plan, AreOf, AreZero, HasFirstRows, HaveFirstRows, SitesAreAlike}

-- the plans behind those that were opened are as they were
pub plans_next : (old done plans next : List ProxyPlan) (at : ℕ) (p q : ProxyPlan) → plans ≡ done ++ drop at old → length done ≡ at → at < length old → next ≡ slice_set plans at q → next ≡ (done ++ q ∷ []) ++ drop (at + 1) old
plans_next old done plans next at p q parts many below is =
    is ∙ ap (λ (xs : List ProxyPlan). slice_set xs at q) (parts ∙ ap (λ (xs : List ProxyPlan). done ++ xs) (drop_more old at p below))
    ∙ set_at done (get_or old at p) (drop (at + 1) old) q at many ∙ sym (append_assoc done (q ∷ []) (drop (at + 1) old))

-- the next one is the site's
pub plan_at : (old done plans : List ProxyPlan) (at : ℕ) (p : ProxyPlan) → plans ≡ done ++ drop at old → length done ≡ at → at < length old → p ≡ get_or plans at p → p ≡ get_or old at p
plan_at old done plans at p parts many below is =
    is ∙ ap (λ (xs : List ProxyPlan). get_or xs at p) (parts ∙ ap (λ (xs : List ProxyPlan). done ++ xs) (drop_more old at p below))
    ∙ get_or_at done (get_or old at p) (drop (at + 1) old) p at many

pub plan_sound : (plans : List ProxyPlan) (at : ℕ) (p : ProxyPlan) → list_all is_sound_plan plans ≡ true → at < length plans → p ≡ get_or plans at p → is_sound_plan p ≡ true
plan_sound [] at p all below e = absurd (omega (arith, below))
plan_sound (q ∷ plans) zero p all below e = subst (λ x. is_sound_plan x ≡ true) (sym e) (and_parts (is_sound_plan q) (list_all is_sound_plan plans) all).0
plan_sound (q ∷ plans) (suc at) p all below e = plan_sound plans at p (and_parts (is_sound_plan q) (list_all is_sound_plan plans) all).1 (omega (arith, below)) e

pub alike_next : (old done : List ProxyPlan) (at : ℕ) (p : ProxyPlan) (tables : List Table) → at < length old → p ≡ get_or old at p → AreAlike tables p.tables → map bare_plan done ≡ map bare_plan (take at old)
    → map bare_plan (done ++ (record p { tables = tables }) ∷ []) ≡ map bare_plan (take (at + 1) old)
alike_next old done at p tables below is one alike =
    let same : bare_plan (record p { tables = tables }) ≡ bare_plan p = ap (λ (ts : List Table). record p { tables = ts }) one in
    map-append bare_plan done ((record p { tables = tables }) ∷ []) ∙ ap (λ (xs : List ProxyPlan). xs ++ bare_plan (record p { tables = tables }) ∷ []) alike
    ∙ ap (λ (x : ProxyPlan). map bare_plan (take at old) ++ x ∷ []) (same ∙ ap bare_plan is) ∙ sym (map-append bare_plan (take at old) (get_or old at p ∷ [])) ∙ ap (map bare_plan) (sym (take_more old at p below))

-- where the keepers tell, the plans that were opened are the site's
same_next : (tells : Type 0) (old done : List ProxyPlan) (at : ℕ) (p : ProxyPlan) (tables : List Table) → at < length old → p ≡ get_or old at p → (tells → tables ≡ p.tables) → (tells → done ≡ take at old)
    → tells → done ++ (record p { tables = tables }) ∷ [] ≡ take (at + 1) old
same_next tells old done at p tables below is one same = λ t.
    ap (λ (xs : List ProxyPlan). xs ++ (record p { tables = tables }) ∷ []) (same t)
    ∙ ap (λ (x : ProxyPlan). take at old ++ x ∷ []) (ap (λ (ts : List Table). record p { tables = ts }) (one t) ∙ is) ∙ sym (take_more old at p below)

-- a keeper more
pub areof_next : {K : Type 0} (tables : K → List Table) (told : K → Option (List (List (List Value)))) (done : List ProxyPlan) (ks more : List K) (k : K) (q : ProxyPlan) → more ≡ ks ++ k ∷ [] →
    tables k ≡ q.tables → told k ≡ Some (rows_of_plan q) → AreOf done (map tables ks) (map told ks) → AreOf (done ++ q ∷ []) (map tables more) (map told more)
areof_next tables told done ks more k q is t d h = record {
  tables_are = ap (map tables) is ∙ map-append tables ks (k ∷ []) ∙ ap (λ (xs : List (List Table)). xs ++ tables k ∷ []) h.tables_are
      ∙ ap (λ (x : List Table). map (λ (p : ProxyPlan). p.tables) done ++ x ∷ []) t ∙ sym (map-append (λ (p : ProxyPlan). p.tables) done (q ∷ []));
  told_are = ap (map told) is ∙ map-append told ks (k ∷ []) ∙ ap (λ (xs : List (Option (List (List (List Value))))). xs ++ told k ∷ []) h.told_are
      ∙ ap (λ (x : Option (List (List (List Value)))). map (λ (p : ProxyPlan). Some (rows_of_plan p)) done ++ x ∷ []) d ∙ sym (map-append (λ (p : ProxyPlan). Some (rows_of_plan p)) done (q ∷ []));
}

-- a keeper more of which no call failed
pub zero_next : {K : Type 0} (faults : K → ℕ) (ks more : List K) (k : K) → more ≡ ks ++ k ∷ [] → faults k ≡ 0 → AreZero (map faults ks) → AreZero (map faults more)
zero_next faults [] more k is new h = subst (λ xs. AreZero (map faults xs)) (sym is) (new, tt)
zero_next faults (x ∷ ks) more k is new h = subst (λ xs. AreZero (map faults xs)) (sym is) (h.0, zero_next faults ks (ks ++ k ∷ []) k refl new h.1)

-- The proxies below this number were opened: they are sound, and the site's but for their tables' first rows, and these are their keepers. Those behind them are as they were.
pub record IsOpened {K : Type 0} (tables : K → List Table) (told : K → Option (List (List (List Value)))) (tells : Type 0) (old plans : List ProxyPlan) (at : ℕ) (ks : List K) : Type 0 where
  pub done : List ProxyPlan
  pub parts : plans ≡ done ++ drop at old
  pub many : length done ≡ at
  pub alike : map bare_plan done ≡ map bare_plan (take at old)
  pub same : tells → done ≡ take at old
  pub sound : list_all is_sound_plan done ≡ true
  pub keepers : AreOf done (map tables ks) (map told ks)

get_or_any : (xs : List ProxyPlan) (at : ℕ) (p q : ProxyPlan) → at < length xs → get_or xs at p ≡ get_or xs at q
get_or_any [] at p q below = absurd (omega (arith, below))
get_or_any (x ∷ xs) zero p q below = refl
get_or_any (x ∷ xs) (suc at) p q below = get_or_any xs at p q (omega (arith, below))

-- the next proxy is the site's
pub opened_here : {K : Type 0} (tables : K → List Table) (told : K → Option (List (List (List Value)))) (tells : Type 0) (old plans : List ProxyPlan) (at : ℕ) (ks : List K) (p : ProxyPlan) → at < length old → p ≡ get_or plans at p →
    IsOpened tables told tells old plans at ks → p ≡ get_or old at p
opened_here tables told tells old plans at ks p below there h = plan_at old h.done plans at p h.parts h.many below there

-- it is sound
pub opened_sound : {K : Type 0} (tables : K → List Table) (told : K → Option (List (List (List Value)))) (tells : Type 0) (old plans : List ProxyPlan) (at : ℕ) (ks : List K) (p : ProxyPlan) → list_all is_sound_plan old ≡ true → at < length old →
    p ≡ get_or plans at p → IsOpened tables told tells old plans at ks → is_sound_plan p ≡ true
opened_sound tables told tells old plans at ks p all below there h = plan_sound old at p all below (plan_at old h.done plans at p h.parts h.many below there)

pub opened_next : {K : Type 0} (tables : K → List Table) (told : K → Option (List (List (List Value)))) (tells : Type 0) (old plans next : List ProxyPlan) (at : ℕ) (p q : ProxyPlan) (ts : List Table) (ks more : List K) (k : K) → at < length old →
    p ≡ get_or plans at p → q ≡ get_or plans at q → AreAlike ts p.tables → (tells → ts ≡ p.tables) → is_sound_plan (record p { tables = ts }) ≡ true → next ≡ slice_set plans at (record q { tables = ts }) → more ≡ ks ++ k ∷ [] → tables k ≡ ts → told k ≡ Some (map (λ (t : Table). t.first) ts) →
    IsOpened tables told tells old plans at ks → IsOpened tables told tells old next (at + 1) more
opened_next tables told tells old plans next at p q ts ks more k below there again one equal sound write more_is t d h =
    let mine : p ≡ get_or old at p = plan_at old h.done plans at p h.parts h.many below there in
    let both : q ≡ p = plan_at old h.done plans at q h.parts h.many below again ∙ get_or_any old at q p below ∙ sym mine in
    let is : next ≡ slice_set plans at (record p { tables = ts }) = write ∙ ap (λ (x : ProxyPlan). slice_set plans at (record x { tables = ts })) both in
    record {
      done = h.done ++ (record p { tables = ts }) ∷ [];
      parts = plans_next old h.done plans next at p (record p { tables = ts }) h.parts h.many below is;
      many = length_push h.done (record p { tables = ts }) ∙ ap (λ (n : ℕ). n + 1) h.many;
      alike = alike_next old h.done at p ts below mine one h.alike;
      same = same_next tells old h.done at p ts below mine equal h.same;
      sound = list_all-append is_sound_plan h.done ((record p { tables = ts }) ∷ []) ∙ and_from (list_all is_sound_plan h.done) (is_sound_plan (record p { tables = ts }) && true) h.sound (and_from (is_sound_plan (record p { tables = ts })) true sound refl);
      keepers = areof_next tables told h.done ks more k (record p { tables = ts }) more_is t d h.keepers;
    }

-- the store of a proxy more stands as it was made
first_push : (plans : List ProxyPlan) (tolds : List (Option (List (List (List Value))))) (plan : ProxyPlan) (told : Option (List (List (List Value)))) → HaveFirstRows plans tolds → HasFirstRows plan told → HaveFirstRows (plans ++ plan ∷ []) (tolds ++ told ∷ [])
first_push [] [] plan told h one = (one, tt)
first_push [] (t ∷ tolds) plan told h one = absurd h
first_push (p ∷ plans) [] plan told h one = absurd h
first_push (p ∷ plans) (t ∷ tolds) plan told h one = (h.0, first_push plans tolds plan told h.1 one)

pub first_next : {K : Type 0} (held : K → Option (List (List (List Value)))) (old : List ProxyPlan) (at : ℕ) (p : ProxyPlan) (ks more : List K) (k : K) → at < length old → p ≡ get_or old at p → more ≡ ks ++ k ∷ [] → HasFirstRows p (held k) →
    HaveFirstRows (take at old) (map held ks) → HaveFirstRows (take (at + 1) old) (map held more)
first_next held old at p ks more k below mine is one h =
    subst (λ (xs : List ProxyPlan). HaveFirstRows xs (map held more)) (sym (take_more old at p below))
    (subst (λ (ts : List (Option (List (List (List Value))))). HaveFirstRows (take at old ++ get_or old at p ∷ []) ts) (sym (ap (map held) is ∙ map-append held ks (k ∷ [])))
    (first_push (take at old) (map held ks) (get_or old at p) (held k) h (subst (λ (x : ProxyPlan). HasFirstRows x (held k)) mine one)))

drop_all : (xs : List ProxyPlan) → drop (length xs) xs ≡ []
drop_all [] = refl
drop_all (x ∷ xs) = drop_all xs

pub take_all : (xs : List ProxyPlan) → take (length xs) xs ≡ xs
take_all [] = refl
take_all (x ∷ xs) = ap (λ (ys : List ProxyPlan). x ∷ ys) (take_all xs)

-- those of all stand so
pub first_all : (old : List ProxyPlan) (at : ℕ) (tolds : List (Option (List (List (List Value))))) → at ≡ length old → HaveFirstRows (take at old) tolds → HaveFirstRows old tolds
first_all old at tolds end h = subst (λ (ps : List ProxyPlan). HaveFirstRows ps tolds) (ap (λ (n : ℕ). take n old) end ∙ take_all old) h

nothing_behind : (xs : List ProxyPlan) → xs ++ [] ≡ xs
nothing_behind [] = refl
nothing_behind (x ∷ xs) = ap (λ (ys : List ProxyPlan). x ∷ ys) (nothing_behind xs)

all_done : {K : Type 0} (tables : K → List Table) (told : K → Option (List (List (List Value)))) (tells : Type 0) (old plans : List ProxyPlan) (at : ℕ) (ks : List K) → at ≡ length old → (h : IsOpened tables told tells old plans at ks) → plans ≡ h.done
all_done tables told tells old plans at ks end h = h.parts ∙ ap (λ (xs : List ProxyPlan). h.done ++ xs) (ap (λ (n : ℕ). drop n old) end ∙ drop_all old) ∙ nothing_behind h.done

-- all were opened
pub opened_all : {K : Type 0} (tables : K → List Table) (told : K → Option (List (List (List Value)))) (tells : Type 0) (old plans : List ProxyPlan) (at : ℕ) (ks : List K) → at ≡ length old → IsOpened tables told tells old plans at ks →
    AreOf plans (map tables ks) (map told ks)
opened_all tables told tells old plans at ks end h = subst (λ (xs : List ProxyPlan). AreOf xs (map tables ks) (map told ks)) (sym (all_done tables told tells old plans at ks end h)) h.keepers

-- the plans of all are sound
pub plans_sound : {K : Type 0} (tables : K → List Table) (told : K → Option (List (List (List Value)))) (tells : Type 0) (old plans : List ProxyPlan) (at : ℕ) (ks : List K) → at ≡ length old → IsOpened tables told tells old plans at ks → list_all is_sound_plan plans ≡ true
plans_sound tables told tells old plans at ks end h = ap (list_all is_sound_plan) (all_done tables told tells old plans at ks end h) ∙ h.sound

pub plans_alike : {K : Type 0} (tables : K → List Table) (told : K → Option (List (List (List Value)))) (tells : Type 0) (old plans : List ProxyPlan) (at : ℕ) (ks : List K) → at ≡ length old → IsOpened tables told tells old plans at ks → map bare_plan plans ≡ map bare_plan old
plans_alike tables told tells old plans at ks end h = ap (map bare_plan) (all_done tables told tells old plans at ks end h) ∙ h.alike ∙ ap (map bare_plan) (ap (λ (n : ℕ). take n old) end ∙ take_all old)

pub site_alike : {K : Type 0} (tables : K → List Table) (told : K → Option (List (List (List Value)))) (tells : Type 0) (C : Config) (plans : List ProxyPlan) (at : ℕ) (ks : List K) → at ≡ length C.proxies →
    IsOpened tables told tells C.proxies plans at ks → SitesAreAlike (record C { proxies = plans }) C
site_alike tables told tells C plans at ks end h =
    ap (λ (xs : List ProxyPlan). record C { proxies = xs }) (plans_alike tables told tells C.proxies plans at ks end h)

pub site_same : {K : Type 0} (tables : K → List Table) (told : K → Option (List (List (List Value)))) (tells : Type 0) (C : Config) (plans : List ProxyPlan) (at : ℕ) (ks : List K) → at ≡ length C.proxies →
    IsOpened tables told tells C.proxies plans at ks → tells → record C { proxies = plans } ≡ C
site_same tables told tells C plans at ks end h = λ t.
    ap (λ (xs : List ProxyPlan). record C { proxies = xs })
    (all_done tables told tells C.proxies plans at ks end h ∙ h.same t ∙ (ap (λ (n : ℕ). take n C.proxies) end ∙ take_all C.proxies))

-- the tables of a sound plan are sound
pub tables_sound : (p : ProxyPlan) → is_sound_plan p ≡ true → list_all is_sound_table p.tables ≡ true
tables_sound p h =
    let few : Bool = nat_le (length p.tables) MOST_TABLES in
    let queries : Bool = nat_le (length p.queries) MOST_QUERIES in
    let names : Bool = are_distinct same_bytes (map (λ (t : Table). t.name) p.tables) in
    let numbers : Bool = are_distinct (λ (a b : ℕ). a == b) (map (λ (q : Query). q.number) p.queries) in
    let all : Bool = list_all is_sound_table p.tables in
    (and_parts numbers all (and_parts names (numbers && all) (and_parts queries (names && (numbers && all)) (and_parts few (queries && (names && (numbers && all))) h).1).1).1).1

head_or : List Table → Table → Table
head_or [] d = d
head_or (t ∷ ts) d = t

tail_of : List Table → List Table
tail_of [] = []
tail_of (t ∷ ts) = ts

rows_or : List (List (List Value)) → List (List Value)
rows_or [] = []
rows_or (r ∷ rs) = r

rows_tail : List (List (List Value)) → List (List (List Value))
rows_tail [] = []
rows_tail (r ∷ rs) = rs

-- tables that are alike and begin with the same rows are the same
pub same_tables : (some others : List Table) → map bare some ≡ map bare others → map (λ (t : Table). t.first) some ≡ map (λ (t : Table). t.first) others → some ≡ others
unfolding head_or tail_of rows_or rows_tail
same_tables [] [] alike firsts = refl
same_tables [] (u ∷ others) alike firsts = cc
same_tables (t ∷ some) [] alike firsts = cc
same_tables (t ∷ some) (u ∷ others) alike firsts =
    let one : bare t ≡ bare u = ap (λ (xs : List Table). head_or xs (bare t)) alike in
    let first : t.first ≡ u.first = ap rows_or firsts in
    let here : t ≡ u = ap (λ (x : Table). record x { first = t.first }) one ∙ ap (λ (rows : List (List Value)). record u { first = rows }) first in
    ap (λ (x : Table). x ∷ some) here ∙ ap (λ (xs : List Table). u ∷ xs) (same_tables some others (ap tail_of alike) (ap rows_tail firsts))

some_or : Option (List (List (List Value))) → List (List (List Value))
some_or None = []
some_or (Some R) = R

-- what was read of a keeper that tells is what it was made with
pub told_same : (read ts : List Table) (told : Option (List (List (List Value)))) → IsSome told → IfSome told (λ rows. rows ≡ map (λ (t : Table). t.first) ts) → HasRows told (Some (map (λ (t : Table). t.first) read)) → AreAlike read ts → read ≡ ts
unfolding some_or
told_same read ts None some new has alike = absurd (false≢true some)
told_same read ts (Some T) some new has alike = same_tables read ts alike (ap some_or (has T refl) ∙ new)
