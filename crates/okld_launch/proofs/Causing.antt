-- Each entry and each step of a launch leaves it so that what was begun was begun for a cause.
use Rattle.std.proofs.Common.{◌≡◌, ◌≢◌, inl, inr, ⊎_elim, ℕ, zero, suc, ◌+◌, ◌-◌, ◌≤◌, ◌<◌, ◌==◌, Bool, true, false, cond, List, [], ◌∷◌, refl, sym, ap, ◌∙◌, subst, eq-eqb, ne_eqb, arith}
use Rattle.std.specs.Prelude.{◌⊎◌, ◌&&◌, ◌||◌, max}
use Rattle.std.proofs.lemmas.Bool.{cases_eq, cases_Bool}
use Rattle.okws_base.specs.declared.journal.Entry.{Entry}
use Rattle.okws_plan.specs.declared.event.LauncherEvent.{LauncherEvent}
use Rattle.okws_plan.specs.declared.event.LauncherEvent.TheVariants as event
use Rattle.monitor_model.specs.Causes.{begins_it, has_cause, is_cause}
use Rattle.monitor_model.specs.Launcher.{begun}
use Rattle.monitor_model.specs.Launches.{is_failed_of}
use Rattle.okld_launch.specs.Causing.{AllCaused, BrokeOff, Caused, MayFollow, WasCaused}

-- ---- truth

true_or : (a b : Bool) → a ≡ true → (a || b) ≡ true
true_or a b h = rw (h) refl

or_true : (a b : Bool) → b ≡ true → (a || b) ≡ true
or_true true b h = refl
or_true false b h = h

not_both : (s t k j : ℕ) → (s ≡ t → k ≢ j) → ((s == t) && (k == j)) ≡ false
not_both s t k j apart = ⊎_elim
    (λ (is : s ≡ t). let n : k ≢ j = apart is in rw (ne_eqb k j n) (at (s == t)))
    (λ (n : s ≢ t). rw (ne_eqb s t n) refl)
    (cases_eq s t)
  where
    at : (b : Bool) → (b && false) ≡ false
    at true = refl
    at false = refl

-- ---- what was begun

at_least : (b : Bool) (k g : ℕ) → g ≤ cond b (max k g) g
at_least true k g = omega arith
at_least false k g = omega arith

begun_more : (e : Entry LauncherEvent) (J : List (Entry LauncherEvent)) (s : ℕ) → begun J s ≤ begun (e ∷ J) s
begun_more e J s = by e.event
  where
    by : (v : LauncherEvent) → begun J s ≤ begun (record { worker = e.worker; event = v } ∷ J) s
    by (event.Begun t k) = at_least (t == s) k (begun J s)
    by (event.Failed t k) = omega arith
    by (event.Crashed t k) = omega arith
    by (event.Dead t n) = omega arith
    by (event.Asked t) = omega arith

begun_is : (w s k : ℕ) (J : List (Entry LauncherEvent)) → k ≤ begun (record { worker = w; event = event.Begun s k } ∷ J) s
begun_is w s k J = rw (eq-eqb s s refl) (omega arith)

-- ---- what stays a cause

-- what broke off did so, too, of incarnations below these
abbrev Stay : (ℕ → ℕ) → (ℕ → ℕ → Bool) → List (Entry LauncherEvent) → (ℕ → ℕ → Bool) → List (Entry LauncherEvent) → Type 0
Stay below U A V B = (s k : ℕ) → k < below s → BrokeOff U A s k → BrokeOff V B s k

one_less : (k : ℕ) → (k - 1 ≡ 0) ⊎ (k - 1 < k)
one_less zero = inl refl
one_less (suc k) = inr (omega arith)

follows_still : (U V : ℕ → ℕ → Bool) (A B J : List (Entry LauncherEvent)) (s k b : ℕ) (below : ℕ → ℕ) → Stay below U A V B → b ≤ below s → k ≤ b → MayFollow U A J s (k - 1) → MayFollow V B J s (k - 1)
follows_still U V A B J s k b below stay most within (inl h) = inl h
follows_still U V A B J s k b below stay most within (inr (inl h)) = inr (inl h)
follows_still U V A B J s k b below stay most within (inr (inr h)) = ⊎_elim (λ (none : k - 1 ≡ 0). inl none) (λ (less : k - 1 < k). inr (inr (stay s (k - 1) (omega (arith, less, within, most)) h))) (one_less k)

was_still : (U V : ℕ → ℕ → Bool) (A B J : List (Entry LauncherEvent)) (w : ℕ) (e : LauncherEvent) (below : ℕ → ℕ) → Stay below U A V B → ((s : ℕ) → begun (record { worker = w; event = e } ∷ J) s ≤ below s)
    → WasCaused U A J e → WasCaused V B J e
was_still U V A B J w (event.Begun s k) below stay most h = follows_still U V A B J s k (begun (record { worker = w; event = event.Begun s k } ∷ J) s) below stay (most s) (begun_is w s k J) h
was_still U V A B J w (event.Failed s k) below stay most h = h
was_still U V A B J w (event.Crashed s k) below stay most h = h
was_still U V A B J w (event.Dead s n) below stay most h = h
was_still U V A B J w (event.Asked s) below stay most h = h

all_still : (U V : ℕ → ℕ → Bool) (A B J : List (Entry LauncherEvent)) (below : ℕ → ℕ) → Stay below U A V B → ((s : ℕ) → begun J s ≤ below s) → AllCaused U A J → AllCaused V B J
all_still U V A B [] below stay most h = tt
all_still U V A B (e ∷ J) below stay most h = (
  was_still U V A B J e.worker e.event below stay most h.0,
  all_still U V A B J below stay (λ s. let a : begun J s ≤ begun (e ∷ J) s = begun_more e J s in let b : begun (e ∷ J) s ≤ below s = most s in omega arith) h.1,
)

-- ---- an entry that begins nothing

-- the event of an incarnation that is not the greatest begun is no Failed
abbrev pub FailsGreatest : List (Entry LauncherEvent) → LauncherEvent → Type 0
FailsGreatest J e = (s k : ℕ) → k ≢ begun J s → is_failed_of s k e ≡ false

-- the entry begins nothing, and a Failed is a cause
record Other (J : List (Entry LauncherEvent)) (w : ℕ) (e : LauncherEvent) : Type 0 where
  begun_are : (s : ℕ) → begun (record { worker = w; event = e } ∷ J) s ≡ begun J s
  none : (s k : ℕ) → begins_it s k e ≡ false
  causes : (s k : ℕ) → is_failed_of s k e ≡ true → is_cause s k e ≡ true
  greatest : FailsGreatest J e
  caused : (U : ℕ → ℕ → Bool) (A : List (Entry LauncherEvent)) → WasCaused U A J e

not_less : (k b : ℕ) → k < b → k ≢ b
not_less k b less is = omega (arith, less, is)

not_more : (k b : ℕ) → b < k → k ≢ b
not_more k b more is = omega (arith, more, is)

broke_still : (U : ℕ → ℕ → Bool) (w : ℕ) (e : LauncherEvent) (J : List (Entry LauncherEvent)) (s k : ℕ) → is_failed_of s k e ≡ false → BrokeOff U J s k → BrokeOff U (record { worker = w; event = e } ∷ J) s k
broke_still U w e J s k is h = record { up = h.up; failed = rw (is) h.failed }

cause_still : (w : ℕ) (e : LauncherEvent) (J : List (Entry LauncherEvent)) (s k : ℕ) → begins_it s k e ≡ false → (is_cause s k e || has_cause s k J) ≡ true → has_cause s k (record { worker = w; event = e } ∷ J) ≡ true
cause_still w e J s k none h = rw (none) h

follows_entered : (U : ℕ → ℕ → Bool) (w : ℕ) (e : LauncherEvent) (J : List (Entry LauncherEvent)) (s k : ℕ) → Other J w e → MayFollow U J J s k → MayFollow U (record { worker = w; event = e } ∷ J) (record { worker = w; event = e } ∷ J) s k
follows_entered U w e J s k o (inl h) = inl h
follows_entered U w e J s k o (inr (inl h)) = inr (inl (cause_still w e J s k (o.none s k) (or_true (is_cause s k e) (has_cause s k J) h)))
follows_entered U w e J s k o (inr (inr h)) = ⊎_elim
    (λ (fails : is_failed_of s k e ≡ true). inr (inl (cause_still w e J s k (o.none s k) (true_or (is_cause s k e) (has_cause s k J) (o.causes s k fails)))))
    (λ (not : is_failed_of s k e ≡ false). inr (inr (broke_still U w e J s k not h)))
    (cases_Bool (is_failed_of s k e))

caused_entered : (U : ℕ → ℕ → Bool) (now : ℕ → ℕ) (w : ℕ) (e : LauncherEvent) (J : List (Entry LauncherEvent)) → Other J w e → Caused U now J → Caused U now (record { worker = w; event = e } ∷ J)
caused_entered U now w e J o h = record {
  all = (
    o.caused U (record { worker = w; event = e } ∷ J),
    all_still U U J (record { worker = w; event = e } ∷ J) J (begun J) (λ s k less x. broke_still U w e J s k (o.greatest s k (not_less k (begun J s) less)) x) (λ s. omega arith) h.all,
  );
  fresh = λ s k more.
      let before : begun J s < k = subst (λ (n : ℕ). n < k) (o.begun_are s) more in
      broke_still U w e J s k (o.greatest s k (not_more k (begun J s) before)) (h.fresh s k before);
  last = λ s. ⊎_elim
      (λ (up : now s ≡ begun J s). inl (up ∙ sym (o.begun_are s)))
      (λ (may : MayFollow U J J s (begun J s)). inr (subst (MayFollow U (record { worker = w; event = e } ∷ J) (record { worker = w; event = e } ∷ J) s) (sym (o.begun_are s)) (follows_entered U w e J s (begun J s) o may)))
      (h.last s);
}

other_failed : (J : List (Entry LauncherEvent)) (w s k : ℕ) → k ≡ begun J s → Other J w (event.Failed s k)
other_failed J w s k is = record {
  begun_are = λ t. refl;
  none = λ t j. refl;
  causes = λ t j h. h;
  greatest = λ t j n. not_both s t k j (λ same at. n (sym at ∙ (is ∙ ap (begun J) same)));
  caused = λ U A. tt;
}

false_true : false ≡ true → ⊥
false_true h = let never : ⊥ = cc in never

other_crashed : (J : List (Entry LauncherEvent)) (w s k : ℕ) → Other J w (event.Crashed s k)
other_crashed J w s k = record { begun_are = λ t. refl; none = λ t j. refl; causes = λ t j h. absurd (false_true h); greatest = λ t j n. refl; caused = λ U A. tt }

other_dead : (J : List (Entry LauncherEvent)) (w s n : ℕ) → Other J w (event.Dead s n)
other_dead J w s n = record { begun_are = λ t. refl; none = λ t j. refl; causes = λ t j h. absurd (false_true h); greatest = λ t j x. refl; caused = λ U A. tt }

other_asked : (J : List (Entry LauncherEvent)) (w s : ℕ) → Other J w (event.Asked s)
other_asked J w s = record { begun_are = λ t. refl; none = λ t j. refl; causes = λ t j h. absurd (false_true h); greatest = λ t j n. refl; caused = λ U A. tt }

module _ (U : ℕ → ℕ → Bool) (now : ℕ → ℕ) (J : List (Entry LauncherEvent)) (w s : ℕ) (h : Caused U now J) where
  pub caused_failed : (k : ℕ) → k ≡ begun J s → Caused U now (record { worker = w; event = event.Failed s k } ∷ J)
  caused_failed k is = caused_entered U now w (event.Failed s k) J (other_failed J w s k is) h

  pub caused_crashed : (k : ℕ) → Caused U now (record { worker = w; event = event.Crashed s k } ∷ J)
  caused_crashed k = caused_entered U now w (event.Crashed s k) J (other_crashed J w s k) h

  pub caused_dead : (n : ℕ) → Caused U now (record { worker = w; event = event.Dead s n } ∷ J)
  caused_dead n = caused_entered U now w (event.Dead s n) J (other_dead J w s n) h

  pub caused_asked : Caused U now (record { worker = w; event = event.Asked s } ∷ J)
  caused_asked = caused_entered U now w (event.Asked s) J (other_asked J w s) h

-- ---- what lets the next one be begun

pub asked_follows : (U : ℕ → ℕ → Bool) (A J : List (Entry LauncherEvent)) (w s k : ℕ) → MayFollow U A (record { worker = w; event = event.Asked s } ∷ J) s k
asked_follows U A J w s k = inr (inl (true_or (s == s) (has_cause s k J) (eq-eqb s s refl)))

itself : (s k j : ℕ) → j ≡ k → ((s == s) && (j == k)) ≡ true
itself s k j is = rw (eq-eqb s s refl) (eq-eqb j k is)

pub crashed_follows : (U : ℕ → ℕ → Bool) (A J : List (Entry LauncherEvent)) (w s k j : ℕ) → j ≡ k → MayFollow U A (record { worker = w; event = event.Crashed s j } ∷ J) s k
crashed_follows U A J w s k j is = inr (inl (true_or ((s == s) && (j == k)) (has_cause s k J) (itself s k j is)))

pub failed_follows : (U : ℕ → ℕ → Bool) (A J : List (Entry LauncherEvent)) (w s k j : ℕ) → j ≡ k → MayFollow U A (record { worker = w; event = event.Failed s j } ∷ J) s k
failed_follows U A J w s k j is = inr (inl (true_or ((s == s) && (j == k)) (has_cause s k J) (itself s k j is)))

-- where nothing of the service is up
pub down_follows : (U : ℕ → ℕ → Bool) (now : ℕ → ℕ) (J : List (Entry LauncherEvent)) (s : ℕ) → now s ≡ 0 → Caused U now J → MayFollow U J J s (begun J s)
down_follows U now J s down h = ⊎_elim (λ (up : now s ≡ begun J s). inl (sym up ∙ down)) (λ may. may) (h.last s)

-- where the one that is up crashed
pub fallen_follows : (U : ℕ → ℕ → Bool) (now : ℕ → ℕ) (J : List (Entry LauncherEvent)) (w s k : ℕ) → k ≡ now s → Caused U now J
    → MayFollow U (record { worker = w; event = event.Crashed s k } ∷ J) (record { worker = w; event = event.Crashed s k } ∷ J) s (begun J s)
fallen_follows U now J w s k is h = ⊎_elim
    (λ (up : now s ≡ begun J s). crashed_follows U (record { worker = w; event = event.Crashed s k } ∷ J) J w s (begun J s) k (is ∙ up))
    (λ (may : MayFollow U J J s (begun J s)). follows_entered U w (event.Crashed s k) J s (begun J s) (other_crashed J w s k) may)
    (h.last s)

-- ---- the next one is begun

apart_begins : (s t k j : ℕ) → s ≢ t → ((s == t) && (k == j)) ≡ false
apart_begins s t k j n = rw (ne_eqb s t n) refl

pub caused_begun : (U : ℕ → ℕ → Bool) (now : ℕ → ℕ) (J : List (Entry LauncherEvent)) (w s k : ℕ) → k ≡ begun J s + 1 → MayFollow U J J s (begun J s) → Caused U now J → Caused U now (record { worker = w; event = event.Begun s k } ∷ J)
caused_begun U now J w s k next may h = record {
  all = (
    subst (MayFollow U K J s) before (follows_then s (begun J s) may),
    all_still U U J K J (begun J) (λ t j less x. same t j x) (λ t. omega arith) h.all,
  );
  fresh = λ t j more. same t j (h.fresh t j (let a : begun J t ≤ begun K t = begun_more (record { worker = w; event = event.Begun s k }) J t in omega arith));
  last = λ t. ⊎_elim (λ (is : t ≡ s). inr (inr (inr (here t is)))) (λ (n : t ≢ s). there t n) (cases_eq t s);
}
  where
    K : List (Entry LauncherEvent)
    K = record { worker = w; event = event.Begun s k } ∷ J

    same : (t j : ℕ) → BrokeOff U J t j → BrokeOff U K t j
    same t j x = record { up = x.up; failed = x.failed }

    follows_then : (t j : ℕ) → MayFollow U J J t j → MayFollow U K J t j
    follows_then t j (inl x) = inl x
    follows_then t j (inr (inl x)) = inr (inl x)
    follows_then t j (inr (inr x)) = inr (inr (same t j x))

    before : begun J s ≡ k - 1
    before = omega (arith, next)

    now_begun : begun K s ≡ k
    now_begun = rw (eq-eqb s s refl) (omega (arith, next))

    here : (t : ℕ) → t ≡ s → BrokeOff U K t (begun K t)
    here t is = subst (λ (u : ℕ). BrokeOff U K u (begun K u)) (sym is) (subst (BrokeOff U K s) (sym now_begun) (same s k (h.fresh s k (omega (arith, next)))))

    elsewhere : (t : ℕ) → t ≢ s → begun K t ≡ begun J t
    elsewhere t n = rw (ne_eqb s t (λ is. n (sym is))) refl

    cause_there : (t j : ℕ) → t ≢ s → MayFollow U J J t j → MayFollow U K K t j
    cause_there t j n (inl x) = inl x
    cause_there t j n (inr (inl x)) = inr (inl (rw (apart_begins s t k j (λ is. n (sym is))) x))
    cause_there t j n (inr (inr x)) = inr (inr (same t j x))

    there : (t : ℕ) → t ≢ s → (now t ≡ begun K t) ⊎ MayFollow U K K t (begun K t)
    there t n = ⊎_elim
        (λ (up : now t ≡ begun J t). inl (up ∙ sym (elsewhere t n)))
        (λ (x : MayFollow U J J t (begun J t)). inr (subst (MayFollow U K K t) (sym (elsewhere t n)) (cause_there t (begun J t) n x)))
        (h.last t)

-- ---- what comes up, and what is ended

-- nothing came up, and another one of s may be up now, where that may be followed on
pub caused_ended : (U : ℕ → ℕ → Bool) (now then : ℕ → ℕ) (J : List (Entry LauncherEvent)) (s : ℕ) → ((t : ℕ) → t ≢ s → then t ≡ now t) → MayFollow U J J s (begun J s) → Caused U now J → Caused U then J
caused_ended U now then J s others may h = record {
  all = h.all;
  fresh = h.fresh;
  last = λ t. ⊎_elim
      (λ (is : t ≡ s). inr (subst (λ (u : ℕ). MayFollow U J J u (begun J u)) (sym is) may))
      (λ (n : t ≢ s). ⊎_elim (λ (up : now t ≡ begun J t). inl (others t n ∙ up)) (λ x. inr x) (h.last t))
      (cases_eq t s);
}

-- the greatest begun came up
pub caused_up : (U V : ℕ → ℕ → Bool) (now then : ℕ → ℕ) (J : List (Entry LauncherEvent)) (s k : ℕ) → ((t j : ℕ) → V t j ≡ (((s == t) && (k == j)) || U t j)) → k ≡ begun J s → then s ≡ k → ((t : ℕ) → t ≢ s → then t ≡ now t) → Caused U now J → Caused V then J
caused_up U V now then J s k came is up others h = record {
  all = all_still U V J J J (begun J) (λ t j less x. passed t j (not_less j (begun J t) less) x) (λ t. omega arith) h.all;
  fresh = λ t j more. passed t j (not_more j (begun J t) more) (h.fresh t j more);
  last = λ t. ⊎_elim
      (λ (at : t ≡ s). inl (ap then at ∙ (up ∙ (is ∙ ap (begun J) (sym at)))))
      (λ (n : t ≢ s). ⊎_elim (λ (x : now t ≡ begun J t). inl (others t n ∙ x)) (λ (x : MayFollow U J J t (begun J t)). inr (follows t (begun J t) n x)) (h.last t))
      (cases_eq t s);
}
  where
    passed : (t j : ℕ) → j ≢ begun J t → BrokeOff U J t j → BrokeOff V J t j
    passed t j n x = record { up = came t j ∙ rw (not_both s t k j (λ same at. n (sym at ∙ (is ∙ ap (begun J) same)))) x.up; failed = x.failed }

    follows : (t j : ℕ) → t ≢ s → MayFollow U J J t j → MayFollow V J J t j
    follows t j n (inl x) = inl x
    follows t j n (inr (inl x)) = inr (inl x)
    follows t j n (inr (inr x)) = inr (inr (record { up = came t j ∙ rw (apart_begins s t k j (λ at. n (sym at))) x.up; failed = x.failed }))

-- the same came up, and the same is up
pub caused_same : (U V : ℕ → ℕ → Bool) (now then : ℕ → ℕ) (J K : List (Entry LauncherEvent)) → ((s k : ℕ) → V s k ≡ U s k) → ((s : ℕ) → then s ≡ now s) → K ≡ J → Caused U now J → Caused V then K
caused_same U V now then J K ups same is h = subst (λ (x : (ℕ → ℕ → Bool) × (ℕ → ℕ) × List (Entry LauncherEvent)). Caused x.0 x.1 x.2) (λ i. ((λ s k. sym (ups s k) i), (λ s. sym (same s) i), sym is i)) h

-- nothing was entered yet
pub none_caused : (U : ℕ → ℕ → Bool) (now : ℕ → ℕ) (J : List (Entry LauncherEvent)) → ((s k : ℕ) → U s k ≡ false) → ((s : ℕ) → now s ≡ 0) → J ≡ [] → Caused U now J
none_caused U now J none down is = subst (Caused U now) (sym is) (record { all = tt; fresh = λ s k more. record { up = none s k; failed = refl }; last = λ s. inl (down s) })
