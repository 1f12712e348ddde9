-- A store more that was given back, keepers that were given back after one had failed, and what was asked of stores then.
use Rattle.std.proofs.Common.{◌≡◌, ◌∙◌, ℕ, zero, suc, ◌+◌, ◌<◌, ◌≤◌, false, List, [], ◌∷◌, ◌++◌, get_or, length, map, take, refl, sym, ap, subst, arith, Option, Result, Ok, Err, inl, inr}
use Rattle.std.specs.Prelude.{IsErrOf, OnErr}
use Rattle.std.proofs.lemmas.List.{append_assoc, length-take-le, take_more}
use Rattle.okws_base.specs.declared.value.Value.{Value}
use Rattle.okws_outer.specs.Depots.{Depot, with_finished, with_made}
use Rattle.okws_outer.specs.Streams.{Rose}
use Rattle.okws_outer.specs.declared.stores.KeeperEnd.{KeeperEnd}
use Rattle.okws_outer.specs.declared.stores.KeeperStart.{KeeperStart}
use Rattle.okws_plan.specs.declared.configuration.ProxyPlan.{ProxyPlan}
use Rattle.store_keeper.specs.Alike.{HasRows}
use Rattle.store_keeper.specs.Depots.{AreEnds, AreKept, Beside, GivesBack, GivesKept, HasAsked, HasFailed, HasTried, IsKept, start_of, starts, with_starts}
use Rattle.store_keeper.specs.Sites.{HasFirstRows, HaveFirstRows}
use Rattle.store_keeper.proofs.Plans.{take_all}

-- The keepers behind these were given back, as they were.
pub record GivenBehind {K : Type 0} (beside : K → Beside) (all kept : List K) (a b : Depot) : Type 0 where
  pub rest : List K
  pub parts : all ≡ kept ++ rest
  pub ends : List KeeperEnd
  pub finished : b.finished ≡ ends ++ a.finished
  pub whose : AreEnds (length kept) (map beside rest) ends
  pub made : b.made ≡ a.made
  pub faults : b.faults ≡ a.faults

nothing_behind : {K : Type 0} (xs : List K) → xs ++ [] ≡ xs
nothing_behind [] = refl
nothing_behind (x ∷ xs) = ap (λ (ys : List _). x ∷ ys) (nothing_behind xs)

pub none_given : {K : Type 0} (beside : K → Beside) (all : List K) (a : Depot) → GivenBehind beside all all a a
none_given beside all a = record { rest = []; parts = sym (nothing_behind all); ends = []; finished = refl; whose = tt; made = refl; faults = refl }

length_push : {K : Type 0} (xs : List K) (x : K) → length (xs ++ x ∷ []) ≡ suc (length xs)
length_push [] x = refl
length_push (y ∷ xs) x = ap suc (length_push xs x)

pub more_given : {K : Type 0} (beside : K → Beside) (all kept now : List K) (k : K) (p : ℕ) (told : Option (List (List (List Value)))) (faults : ℕ) (a b c : Depot) → kept ≡ now ++ k ∷ [] → p ≡ length now → (beside k).faults ≤ faults
    → told ≡ (beside k).held → ((beside k).parted ≡ false → HasRows told (beside k).told) → c ≡ with_finished p told faults b → GivenBehind beside all kept a b → GivenBehind beside all now a c
more_given beside all kept now k p told faults a b c last here less held rows is h =
    let end : KeeperEnd = record { proxy = p; rows = told; faults = faults } in
    let next : length kept ≡ suc (length now) = ap length last ∙ length_push now k in
    record {
      rest = k ∷ h.rest;
      parts = h.parts ∙ ap (λ (xs : List _). xs ++ h.rest) last ∙ append_assoc now (k ∷ []) h.rest;
      ends = end ∷ h.ends;
      finished = ap (λ (d : Depot). d.finished) is ∙ ap (λ (xs : List KeeperEnd). end ∷ xs) h.finished;
      whose = (record { proxy_is = here; faults = less; held = held; rows = rows }, subst (λ (n : ℕ). AreEnds n (map beside h.rest) h.ends) next h.whose);
      made = ap (λ (d : Depot). d.made) is ∙ h.made;
      faults = ap (λ (d : Depot). d.faults) is ∙ h.faults;
    }

pub all_given : {K : Type 0} (beside : K → Beside) (all kept : List K) (a b : Depot) → kept ≡ [] → GivenBehind beside all kept a b → GivesBack (map beside all) a b
all_given beside all kept a b none h =
    let same : all ≡ h.rest = h.parts ∙ ap (λ (xs : List _). xs ++ h.rest) none in
    record {
      ends = h.ends;
      finished = h.finished;
      whose = subst (λ (n : ℕ). AreEnds n (map beside all) h.ends) (ap length none) (subst (λ (xs : List _). AreEnds (length kept) (map beside xs) h.ends) (sym same) h.whose);
      made = h.made;
      faults = h.faults;
    }

-- one had failed before these were given back
pub still_failed : (keepers : List Beside) (a b c : Depot) → HasFailed a b → GivesBack keepers b c → HasFailed a c
still_failed keepers a b c (inl rose) back = inl (subst (Rose a.faults) (sym back.faults) rose)
still_failed keepers a b c (inr h) back = inr (record {
  front = back.ends ++ h.front;
  end = h.end;
  rest = h.rest;
  finished = back.finished ∙ ap (λ (xs : List KeeperEnd). back.ends ++ xs) h.finished ∙ sym (append_assoc back.ends h.front (h.end ∷ (h.rest ++ a.finished)));
  rose = h.rose;
})

-- what came before was but made
pub failed_since : (a b c : Depot) → b.finished ≡ a.finished → b.faults ≡ a.faults → HasFailed b c → HasFailed a c
failed_since a b c ends faults (inl rose) = inl (subst (λ (n : ℕ). Rose n c.faults) faults rose)
failed_since a b c ends faults (inr h) =
    inr (record { front = h.front; end = h.end; rest = h.rest; finished = h.finished ∙ ap (λ (xs : List KeeperEnd). h.front ++ (h.end ∷ (h.rest ++ xs))) ends; rose = h.rose })

-- a keeper that was given back had failed
pub one_failed : (a b c : Depot) (p : ℕ) (told : Option (List (List (List Value)))) (faults : ℕ) → b.finished ≡ a.finished → c ≡ with_finished p told faults b → Rose 0 faults → HasFailed a c
one_failed a b c p told faults same is rose =
    inr (record { front = []; end = record { proxy = p; rows = told; faults = faults }; rest = []; finished = ap (λ (d : Depot). d.finished) is ∙ ap (λ (xs : List KeeperEnd). record { proxy = p; rows = told; faults = faults } ∷ xs) same; rose = rose })

err_or : {T E : Type 0} → Result T E → E → E
err_or (Ok x) d = d
err_or (Err e) d = e

-- why a call was refused
pub err_is : {T E : Type 0} (x y : E) → IsErrOf {T = T} (Err x) y → x ≡ y
unfolding err_or
err_is {T} {E} x y e = ap (λ (r : Result T E). err_or r x) e

-- ---- stores that are given back as they were made

-- stores that stand as they were made are given back so
ends_kept : (p : ℕ) (plans : List ProxyPlan) (ks : List Beside) (es : List KeeperEnd) → HaveFirstRows plans (map (λ (k : Beside). k.held) ks) → AreEnds p ks es → AreKept p es plans × (length es ≡ length plans)
ends_kept p [] [] [] first h = (tt, refl)
ends_kept p [] [] (e ∷ es) first h = absurd h
ends_kept p [] (k ∷ ks) es first h = absurd first
ends_kept p (plan ∷ plans) [] es first h = absurd first
ends_kept p (plan ∷ plans) (k ∷ ks) [] first h = absurd h
ends_kept p (plan ∷ plans) (k ∷ ks) (e ∷ es) first h =
    let rest = ends_kept (suc p) plans ks es first.1 h.1 in
    ((record { proxy_is = h.0.proxy_is; rows = subst (HasFirstRows plan) (sym h.0.held) first.0 }, rest.0), ap suc rest.1)

held_all : {K : Type 0} (beside : K → Beside) (ks : List K) → map (λ (k : Beside). k.held) (map beside ks) ≡ map (λ k. (beside k).held) ks
held_all beside [] = refl
held_all beside (k ∷ ks) = ap (λ (xs : List _). (beside k).held ∷ xs) (held_all beside ks)

pub gives_kept : {K : Type 0} (beside : K → Beside) (plans : List ProxyPlan) (ks : List K) (a b : Depot) → HaveFirstRows plans (map (λ k. (beside k).held) ks) → GivesBack (map beside ks) a b → GivesKept plans a b
gives_kept beside plans ks a b first back =
    let kept = ends_kept 0 plans (map beside ks) back.ends (subst (HaveFirstRows plans) (sym (held_all beside ks)) first) back.whose in
    record { ends = back.ends; finished = back.finished; all = kept.1; kept = kept.0; made = back.made; faults = back.faults }

-- ---- what was asked

-- nothing was asked
pub asked_none : (file : List ℕ) (plans : List ProxyPlan) (a : Depot) → HasAsked file plans a a
asked_none file plans a = record { ends = []; made = refl; finished = refl; kept = tt }

-- the keeper of a proxy could not be made
pub tried_none : (file : List ℕ) (p : ℕ) (plan : ProxyPlan) (a b : Depot) → b ≡ record a { faults = b.faults } → HasTried file p plan a b
tried_none file p plan a b is = inl (ap (λ (d : Depot). d.made) is, ap (λ (d : Depot). d.finished) is)

-- its store was made, and given back as it was made
pub tried_one : (file : List ℕ) (p : ℕ) (plan : ProxyPlan) (told now : Option (List (List (List Value)))) (faults : ℕ) (a b c : Depot) → HasFirstRows plan told → now ≡ told → b ≡ with_made file p plan.tables a → c ≡ with_finished p now faults b →
    HasTried file p plan a c
tried_one file p plan told now faults a b c first same made done =
    let end : KeeperEnd = record { proxy = p; rows = now; faults = faults } in
    inr (
      end,
      record { proxy_is = refl; rows = subst (HasFirstRows plan) (sym same) first },
      ap (λ (d : Depot). d.made) done ∙ ap (λ (d : Depot). d.made) made,
      ap (λ (d : Depot). d.finished) done ∙ ap (λ (d : Depot). end ∷ d.finished) made,
    )

-- a making more
starts_push : (file : List ℕ) (p m : ℕ) (plans : List ProxyPlan) (plan : ProxyPlan) → m ≡ length plans + p → starts file p (plans ++ plan ∷ []) ≡ start_of file m plan ∷ starts file p plans
starts_push file p m [] plan at = let same : p ≡ m = omega (arith, at) in ap (λ (n : ℕ). start_of file n plan ∷ []) same
starts_push file p m (x ∷ plans) plan at = ap (λ (xs : List KeeperStart). xs ++ start_of file p x ∷ []) (starts_push file (suc p) m plans plan (omega (arith, at)))

starts_more : (file : List ℕ) (plans : List ProxyPlan) (n : ℕ) (plan : ProxyPlan) → n < length plans → plan ≡ get_or plans n plan → starts file 0 (take (n + 1) plans) ≡ start_of file n plan ∷ starts file 0 (take n plans)
starts_more file plans n plan below here =
    let many : length (take n plans) ≡ n = length-take-le n plans (omega (arith, below)) in
    ap (starts file 0) (take_more plans n plan below) ∙ starts_push file 0 n (take n plans) (get_or plans n plan) (omega (arith, many))
    ∙ ap (λ (x : ProxyPlan). start_of file n x ∷ starts file 0 (take n plans)) (sym here)

pub starts_one : (file : List ℕ) (plans : List ProxyPlan) (n : ℕ) (plan : ProxyPlan) (a : Depot) → n < length plans → plan ≡ get_or plans n plan → with_made file n plan.tables (with_starts file (take n plans) a) ≡ with_starts file (take (n + 1) plans) a
starts_one file plans n plan a below here = ap (λ (xs : List KeeperStart). record a { made = xs ++ a.made }) (sym (starts_more file plans n plan below here))

-- all were made, and their stores were given back as they were made
pub asked_all : (file : List ℕ) (plans : List ProxyPlan) (a b c : Depot) → b ≡ with_starts file plans a → GivesKept plans b c → HasAsked file plans a c
asked_all file plans a b c opened back = record {
  ends = back.ends;
  made = back.made ∙ ap (λ (d : Depot). d.made) opened ∙ ap (λ (ps : List ProxyPlan). starts file 0 ps ++ a.made) (sym (ap (λ (n : ℕ). take n plans) back.all ∙ take_all plans));
  finished = back.finished ∙ ap (λ (d : Depot). back.ends ++ d.finished) opened;
  kept = back.kept;
}

-- those of the first proxies are some of all
kept_front : (p n : ℕ) (es : List KeeperEnd) (plans : List ProxyPlan) → AreKept p es (take n plans) → AreKept p es plans
kept_front p n [] plans h = tt
kept_front p zero (e ∷ es) [] h = h
kept_front p zero (e ∷ es) (plan ∷ plans) h = absurd h
kept_front p (suc n) (e ∷ es) [] h = h
kept_front p (suc n) (e ∷ es) (plan ∷ plans) h = (h.0, kept_front (suc p) n es plans h.1)

-- one store more was given back before these
kept_push : (p n m : ℕ) (es : List KeeperEnd) (plans : List ProxyPlan) (plan : ProxyPlan) (e : KeeperEnd) → m ≡ n + p → n < length plans → length es ≡ n → IsKept m (get_or plans n plan) e → AreKept p es (take n plans) → AreKept p (es ++ e ∷ []) plans
kept_push p n m es [] plan e at below many one h = absurd (omega (arith, below))
kept_push p zero m [] (x ∷ plans) plan e at below many one h = (record { proxy_is = omega (arith, one.proxy_is, at); rows = one.rows }, tt)
kept_push p (suc n) m [] (x ∷ plans) plan e at below many one h = absurd (omega (arith, many))
kept_push p zero m (y ∷ es) (x ∷ plans) plan e at below many one h = absurd (omega (arith, many))
kept_push p (suc n) m (y ∷ es) (x ∷ plans) plan e at below many one h = (h.0, kept_push (suc p) n m es plans plan e (omega (arith, at)) (omega (arith, below)) (omega (arith, many)) one h.1)

-- one could not be made, and those before it were given back
pub asked_back : (file : List ℕ) (plans : List ProxyPlan) (n : ℕ) (plan : ProxyPlan) (a b c d : Depot) → b ≡ with_starts file (take n plans) a → n < length plans → plan ≡ get_or plans n plan → HasTried file n plan b c → GivesKept (take n plans) c d →
    HasAsked file plans a d
asked_back file plans n plan a b c d opened below here (inl same) back =
    let many : length back.ends ≡ n = back.all ∙ length-take-le n plans (omega (arith, below)) in
    record {
      ends = back.ends;
      made = back.made ∙ same.0 ∙ ap (λ (x : Depot). x.made) opened ∙ ap (λ (m : ℕ). starts file 0 (take m plans) ++ a.made) (sym many);
      finished = back.finished ∙ ap (λ (xs : List KeeperEnd). back.ends ++ xs) (same.1 ∙ ap (λ (x : Depot). x.finished) opened);
      kept = kept_front 0 n back.ends plans back.kept;
    }
asked_back file plans n plan a b c d opened below here (inr h) back =
    let many : length back.ends ≡ n = back.all ∙ length-take-le n plans (omega (arith, below)) in
    let next : length (back.ends ++ h.0 ∷ []) ≡ n + 1 = omega (arith, length_push back.ends h.0, many) in
    record {
      ends = back.ends ++ h.0 ∷ [];
      made = back.made ∙ h.2 ∙ ap (λ (x : Depot). start_of file n plan ∷ x.made) opened ∙ ap (λ (xs : List KeeperStart). xs ++ a.made) (sym (starts_more file plans n plan below here))
          ∙ ap (λ (m : ℕ). starts file 0 (take m plans) ++ a.made) (sym next);
      finished = back.finished ∙ ap (λ (xs : List KeeperEnd). back.ends ++ xs) (h.3 ∙ ap (λ (x : Depot). h.0 ∷ x.finished) opened) ∙ sym (append_assoc back.ends (h.0 ∷ []) a.finished);
      kept = kept_push 0 n n back.ends plans plan h.0 (omega arith) below many (subst (λ (x : ProxyPlan). IsKept n x h.0) here h.1) back.kept;
    }

-- what holds in any case holds where a call was refused
pub on_err : {T E : Type 0} (r : Result T E) (P : Type 0) → P → OnErr r P
on_err (Ok x) P p = tt
on_err (Err e) P p = p
