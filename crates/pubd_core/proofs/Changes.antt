use Rattle.std.proofs.Common.{◌≡◌, ◌∙◌, ⊎_elim, ◌==◌, ◌&&◌, ◌||◌, ℕ, ◌+◌, ◌<◌, ◌≤◌, Bool, true, false, List, [], ◌∷◌, ◌++◌, Option, Some, None, is_some, refl, sym, ap, subst, arith, length, slice_set, get_or-set_same, get_or-set_other}
use Rattle.std.proofs.lemmas.Bool.{eqb-false, lt-ltb, ltb-true, or_cases, or_left}
use Rattle.std.proofs.lemmas.List.{length-set}
use Rattle.std.specs.Arc.{arc_value}
use Rattle.std.specs.Prelude.{if◌then◌else◌, max, nat_lt}
use Rattle.okws_base.specs.Past.{is_just, standing_by, last_by}
use Rattle.okws_base.specs.declared.journal.Entry.{Entry}
use Rattle.okws_base.specs.declared.limit.TheConstants.{MOST_EDITIONS, LONGEST_TEMPLATE}
use Rattle.okws_plan.specs.declared.configuration.Config.{Config}
use Rattle.okws_plan.specs.declared.event.PubdEvent.{PubdEvent}
use Rattle.okws_plan.specs.declared.event.PubdEvent.TheVariants.{Drain, Install, Publish, Revoke}
use Rattle.grant_column.specs.Granted.{Granted, service_count}
use Rattle.monitor_model.specs.Columns.{PubdLaw}
use Rattle.monitor_model.specs.Standing.{pubd_grant}
use Rattle.monitor_model.specs.Pubd.{drained, edition, news, text}
use Rattle.pubd_core.specs.Kept.{current_in, number_of, text_of}
use Rattle.pubd_core.specs.Readers.{may_stand, heard_in, kept_readers, is_wanted, wanted}
use Rattle.pubd_core.specs.Tied.{Tied}
use Rattle.pubd_core.specs.declared.kept.Edition.{Edition}
use Rattle.pubd_core.specs.declared.kept.Publication.{Publication}
use Rattle.pubd_core.specs.declared.readers.Reader.{Reader}
use Rattle.pubd_core.proofs.Heard.{keeps, heard_kept, same_some, same_pair}
use Rattle.pubd_core.proofs.News.{news_none, news_wanted, news_published, each_filter, each_kept, below_more}
use Rattle.pubd_core.proofs.Totals.{total_set}

same_number : (a b : ℕ) → (a == b) ≡ true → a ≡ b
same_number a b h = grind (arith, h)

some_if : (b : Bool) (o : Option ℕ) (m : ℕ) → (if b then o else None) ≡ Some m → o ≡ Some m
some_if true o m e = e
some_if false o m e = cc

keeps_by : (J : List (Entry PubdEvent)) (s t j : ℕ) (b : Bool) → (t == s) ≡ b → may_stand J t j ≡ true → keeps s (last_by pubd_grant J s) (standing_by pubd_grant J s) t j ≡ true
keeps_by J s t j true e may = rw (e, ← (same_number t s e)) may
keeps_by J s t j false e may = rw e refl

-- what may stand is kept
keeps_may : (J : List (Entry PubdEvent)) (s t j : ℕ) → may_stand J t j ≡ true → keeps s (last_by pubd_grant J s) (standing_by pubd_grant J s) t j ≡ true
keeps_may J s t j may = keeps_by J s t j (t == s) refl may

-- ---- an Install or a Revoke, behind which readers are forgotten

abbrev forgotten : List (Entry PubdEvent) → ℕ → List Reader → List Reader
forgotten J s R = kept_readers s (last_by pubd_grant J s) (standing_by pubd_grant J s) R

kept_if : (b : Bool) (o : Option ℕ) (m : ℕ) → (if b then o else None) ≡ Some m → b ≡ true
kept_if true o m e = refl
kept_if false o m e = cc

-- of s just those are kept that may stand
keeps_back : (J : List (Entry PubdEvent)) (s t j : ℕ) (b : Bool) → (t == s) ≡ b → keeps s (last_by pubd_grant J s) (standing_by pubd_grant J s) t j ≡ true → (b ≡ false → may_stand J t j ≡ true) → may_stand J t j ≡ true
keeps_back J s t j true e kept other = rw (same_number t s e) (rw e at kept)
keeps_back J s t j false e kept other = other refl

-- those that can't stand are forgotten, and what is due to nobody then; nothing else changed but that less may stand of s
tied_forgotten : (C : Config) (J J' : List (Entry PubdEvent)) (g g' : Granted) (currents : List (Option Edition)) (count : ℕ) (P : List Publication) (R : List Reader) (s : ℕ)
    → Tied C J g currents count P R → service_count g' ≡ service_count g → PubdLaw C J'
    → ((t : ℕ) → edition J' t ≡ edition J t) → ((t : ℕ) → text J' t ≡ text J t) → ((t j : ℕ) → drained J' t j ≡ drained J t j) → ((t j : ℕ) → news C J' t j ≡ news C J t j)
    → ((t j : ℕ) → may_stand J' t j ≡ true → may_stand J t j ≡ true) → ((t j : ℕ) → (t == s) ≡ false → may_stand J t j ≡ true → may_stand J' t j ≡ true)
    → Tied C J' g' currents count (wanted C (forgotten J' s R) P) (forgotten J' s R)
tied_forgotten C J J' g g' currents count P R s tied services law editions texts drains newer less others = record {
  few = tied.few;
  services = services ∙ tied.services;
  templates = tied.templates;
  law = law;
  edition_is = λ t. tied.edition_is t ∙ sym (editions t);
  text_is = λ t. tied.text_is t ∙ sym (texts t);
  counted = tied.counted;
  most = tied.most;
  count_is = tied.count_is;
  below = each_filter (λ (p : Publication). p.place < count) (is_wanted C (forgotten J' s R)) P tied.below;
  wanted_are = each_kept (is_wanted C (forgotten J' s R)) P;
  readers_may = λ t j m e.
      let found = rw (heard_kept s (last_by pubd_grant J' s) (standing_by pubd_grant J' s) R t j) at e in
      keeps_back J' s t j (t == s) refl (kept_if _ _ m found) (λ apart. others t j apart (tied.readers_may t j m (some_if _ _ m found)));
  drained_is = λ t j may. rw (heard_kept s (last_by pubd_grant J' s) (standing_by pubd_grant J' s) R t j, keeps_may J' s t j may) (tied.drained_is t j (less t j may) ∙ sym (drains t j));
  heard_are = λ t j m e. tied.heard_are t j m (some_if _ _ m (rw (heard_kept s (last_by pubd_grant J' s) (standing_by pubd_grant J' s) R t j) at e));
  news_is = λ t j m may e.
      news_wanted C (forgotten J' s R) t j m P e
      ∙ tied.news_is t j m (less t j may) (some_if _ _ m (rw (heard_kept s (last_by pubd_grant J' s) (standing_by pubd_grant J' s) R t j) at e)) ∙ sym (newer t j);
}

turned_round : (s t : ℕ) → (s == t) ≡ (t == s)
turned_round s t = grind arith

-- what may stand where this is the last one installed, and this stands
abbrev may_by : ℕ → Option ℕ → ℕ → Bool
may_by last standing j = nat_lt last j || is_just j standing

above_most : (k l j : ℕ) → l < k → nat_lt (max k l) j ≡ true → nat_lt l j ≡ true
above_most k l j less x = let above : max k l < j = ltb-true (max k l) j x in lt-ltb l j (omega (arith, above, less))

above_it : (k l j : ℕ) → l < k → (k == j) ≡ true → nat_lt l j ≡ true
above_it k l j less x = let is : k ≡ j = same_number k j x in lt-ltb l j (omega (arith, is, less))

installed_less : (b : Bool) (k l j : ℕ) (o : Option ℕ) → (b ≡ true → l < k) → may_by (if b then max k l else l) (if b then Some k else o) j ≡ true → may_by l o j ≡ true
installed_less true k l j o later h =
    or_left (nat_lt l j) (is_just j o) (⊎_elim (λ (x : nat_lt (max k l) j ≡ true). above_most k l j (later refl) x) (λ (x : (k == j) ≡ true). above_it k l j (later refl) x) (or_cases (nat_lt (max k l) j) (k == j) h))
installed_less false k l j o later h = h

installed_other : (b : Bool) (k l j : ℕ) (o : Option ℕ) → b ≡ false → may_by l o j ≡ true → may_by (if b then max k l else l) (if b then Some k else o) j ≡ true
installed_other true k l j o apart may = cc
installed_other false k l j o apart may = may

revoked_less : (b : Bool) (l j : ℕ) (o : Option ℕ) → may_by l (if b then None else o) j ≡ true → may_by l o j ≡ true
revoked_less true l j o h = or_left (nat_lt l j) (is_just j o) (⊎_elim (λ (x : nat_lt l j ≡ true). x) (λ (x : false ≡ true). cc) (or_cases (nat_lt l j) false h))
revoked_less false l j o h = h

revoked_other : (b : Bool) (l j : ℕ) (o : Option ℕ) → b ≡ false → may_by l o j ≡ true → may_by l (if b then None else o) j ≡ true
revoked_other true l j o apart may = cc
revoked_other false l j o apart may = may

-- incarnation k of s was installed
pub tied_install : (C : Config) (J : List (Entry PubdEvent)) (g g' : Granted) (currents : List (Option Edition)) (count : ℕ) (P : List Publication) (R : List Reader) (w s k : ℕ)
    → Tied C J g currents count P R → service_count g' ≡ service_count g → last_by pubd_grant J s < k
    → Tied C (record { worker = w; event = Install s k } ∷ J) g' currents count
    (wanted C (forgotten (record { worker = w; event = Install s k } ∷ J) s R) P) (forgotten (record { worker = w; event = Install s k } ∷ J) s R)
tied_install C J g g' currents count P R w s k tied services later =
    tied_forgotten C J (record { worker = w; event = Install s k } ∷ J) g g' currents count P R s tied services (tied.law, later) (λ t. refl) (λ t. refl) (λ t j. refl) (λ t j. refl)
    (λ t j may. installed_less (s == t) k (last_by pubd_grant J t) j (standing_by pubd_grant J t) (λ same. subst (λ (u : ℕ). last_by pubd_grant J u < k) (same_number s t same) later) may)
    (λ t j apart may. installed_other (s == t) k (last_by pubd_grant J t) j (standing_by pubd_grant J t) (turned_round s t ∙ apart) may)

-- s was revoked, where an incarnation of it stood
pub tied_revoke : (C : Config) (J : List (Entry PubdEvent)) (g g' : Granted) (currents : List (Option Edition)) (count : ℕ) (P : List Publication) (R : List Reader) (w s k : ℕ) (stood : Bool)
    → Tied C J g currents count P R → service_count g' ≡ service_count g → (stood ≡ true → is_just k (standing_by pubd_grant J s) ≡ true)
    → Tied C (if stood then record { worker = w; event = Revoke s k } ∷ J else J) g' currents count
    (wanted C (forgotten (if stood then record { worker = w; event = Revoke s k } ∷ J else J) s R) P) (forgotten (if stood then record { worker = w; event = Revoke s k } ∷ J else J) s R)
tied_revoke C J g g' currents count P R w s k true tied services there =
    tied_forgotten C J (record { worker = w; event = Revoke s k } ∷ J) g g' currents count P R s tied services (tied.law, there refl) (λ t. refl) (λ t. refl) (λ t j. refl) (λ t j. refl)
    (λ t j may. revoked_less (s == t) (last_by pubd_grant J t) j (standing_by pubd_grant J t) may)
    (λ t j apart may. revoked_other (s == t) (last_by pubd_grant J t) j (standing_by pubd_grant J t) (turned_round s t ∙ apart) may)
tied_revoke C J g g' currents count P R w s k false tied services there =
    tied_forgotten C J J g g' currents count P R s tied services tied.law (λ t. refl) (λ t. refl) (λ t j. refl) (λ t j. refl) (λ t j may. may) (λ t j apart may. may)

is_some_put : (may q : Bool) (x : ℕ) (o : Option ℕ) (d : Bool) → (q ≡ true → may ≡ true) → is_some o ≡ d → is_some (if may && q then Some x else o) ≡ (if q then true else d)
is_some_put true true x o d f e = refl
is_some_put true false x o d f e = e
is_some_put false true x o d f e = let y = f refl in cc
is_some_put false false x o d f e = e

below_if : (b : Bool) (x m : ℕ) (o : Option ℕ) → (if b then Some x else o) ≡ Some m → (o ≡ Some m → m ≤ x) → m ≤ x
below_if true x m o e h = let s = same_some x m e in omega (arith, s)
below_if false x m o e h = h e

news_put : {A : Type 0} (may q : Bool) (x m : ℕ) (o : Option ℕ) (N M : List A) → (q ≡ true → may ≡ true) → (if may && q then Some x else o) ≡ Some m → (x ≡ m → N ≡ []) → (o ≡ Some m → N ≡ M) → N ≡ (if q then [] else M)
news_put true true x m o N M f e drained before = drained (same_some x m e)
news_put true false x m o N M f e drained before = before e
news_put false true x m o N M f e drained before = let y = f refl in cc
news_put false false x m o N M f e drained before = before e

-- whoever is heard of was put, or was before
put_may : (may q : Bool) (x m : ℕ) (o : Option ℕ) (there : Bool) → (if may && q then Some x else o) ≡ Some m → (may ≡ true → q ≡ true → there ≡ true) → (o ≡ Some m → there ≡ true) → there ≡ true
put_may true true x m o there e put before = put refl refl
put_may true false x m o there e put before = before e
put_may false q x m o there e put before = before e

-- after a Drain its incarnation has heard of every publication
pub tied_drain : (C : Config) (J : List (Entry PubdEvent)) (g : Granted) (currents : List (Option Edition)) (count : ℕ) (P : List Publication) (R R' : List Reader) (w s k : ℕ) (may : Bool)
    → Tied C J g currents count P R → may ≡ may_stand J s k → ((t j : ℕ) → heard_in R' t j ≡ (if may && ((s == t) && (k == j)) then Some count else heard_in R t j))
    → Tied C (record { worker = w; event = Drain s k } ∷ J) g currents count (wanted C R' P) R'
tied_drain C J g currents count P R R' w s k may tied is h =
    let mays : (t j : ℕ) → may_stand J t j ≡ true → ((s == t) && (k == j)) ≡ true → may ≡ true = λ t j stands e. let at = same_pair s k t j e in is ∙ rw (at.0, at.1) stands in
    record {
      few = tied.few;
      services = tied.services;
      templates = tied.templates;
      law = (tied.law, tt);
      edition_is = tied.edition_is;
      text_is = tied.text_is;
      counted = tied.counted;
      most = tied.most;
      count_is = tied.count_is;
      below = each_filter (λ (p : Publication). p.place < count) (is_wanted C R') P tied.below;
      wanted_are = each_kept (is_wanted C R') P;
      readers_may = λ t j m e. put_may may ((s == t) && (k == j)) count m (heard_in R t j) (may_stand J t j) (rw (h t j) at e) (λ there at. let same = same_pair s k t j at in rw (← same.0, ← same.1) (sym is ∙ there)) (tied.readers_may t j m);
      drained_is = λ t j stands. rw (h t j) (is_some_put may ((s == t) && (k == j)) count (heard_in R t j) _ (mays t j stands) (tied.drained_is t j stands));
      heard_are = λ t j m e. below_if (may && ((s == t) && (k == j))) count m (heard_in R t j) (rw (h t j) at e) (tied.heard_are t j m);
      news_is = λ t j m stands e.
          news_wanted C R' t j m P e
          ∙ news_put may ((s == t) && (k == j)) count m (heard_in R t j) _ _ (mays t j stands) (rw (h t j) at e) (λ same. rw (← same) (news_none C t count P tied.below)) (tied.news_is t j m stands);
    }

current_case : (currents : List (Option Edition)) (t : ℕ) (e : Option Edition) (u : ℕ) (b : Bool) → (t == u) ≡ b → t < length currents → current_in (slice_set currents t e) u ≡ (if b then e else current_in currents u)
current_case currents t e u true is within = rw (← (same_number t u is)) (get_or-set_same currents t e None within)
current_case currents t e u false is within = get_or-set_other currents t u e None (λ same. eqb-false t u is (sym same))

-- what is kept of a template after one has another edition
current_set : (currents : List (Option Edition)) (t : ℕ) (e : Option Edition) (u : ℕ) → t < length currents → current_in (slice_set currents t e) u ≡ (if t == u then e else current_in currents u)
current_set currents t e u within = current_case currents t e u (t == u) refl within

edition_if : (J : List (Entry PubdEvent)) (t : ℕ) (e : Edition) (c : Option Edition) (u : ℕ) (b : Bool) → (t == u) ≡ b → e.number ≡ edition J t + 1 → number_of c ≡ edition J u
    → number_of (if b then Some e else c) ≡ (if b then edition J u + 1 else edition J u)
edition_if J t e c u true same new old = new ∙ ap (λ (v : ℕ). edition J v + 1) (same_number t u same)
edition_if J t e c u false same new old = old

text_if : (b : Bool) (e c : Option Edition) (n m : List ℕ) → text_of e ≡ n → text_of c ≡ m → text_of (if b then e else c) ≡ (if b then n else m)
text_if true e c n m new old = new
text_if false e c n m new old = old

counted_if : (b : Bool) (e : Edition) (c : Option Edition) (d : Edition) → 0 < e.number → (c ≡ Some d → 0 < d.number) → (if b then Some e else c) ≡ Some d → 0 < d.number
counted_if true e c d new old is = let same = ap number_of is in omega (arith, same, new)
counted_if false e c d new old is = old is

most_if : (b : Bool) (e c : Option Edition) → number_of e ≤ MOST_EDITIONS → number_of c ≤ MOST_EDITIONS → number_of (if b then e else c) ≤ MOST_EDITIONS
most_if true e c new old = new
most_if false e c new old = old

published : (C : Config) (J : List (Entry PubdEvent)) (g : Granted) (currents : List (Option Edition)) (count : ℕ) (P : List Publication) (R : List Reader) (w t : ℕ) (content : List ℕ) (e f : Edition)
    → Tied C J g currents count P R → t < length C.templates → edition J t < MOST_EDITIONS → length content ≤ LONGEST_TEMPLATE
    → e.number ≡ edition J t + 1 → f.number ≡ edition J t + 1 → arc_value e.content ≡ content → arc_value f.content ≡ content
    → Tied C (record { worker = w; event = Publish t content } ∷ J) g (slice_set currents t (Some e)) (count + 1) (wanted C R (P ++ record { place = count; template = t; edition = f } ∷ [])) R
published C J g currents count P R w t content e f tied within more short number number' is is' =
    let p : Publication = record { place = count; template = t; edition = f } in
    let declared : t < length currents = rw tied.templates within in
    let at : (u : ℕ) → current_in (slice_set currents t (Some e)) u ≡ (if t == u then Some e else current_in currents u) = λ u. current_set currents t (Some e) u declared in
    let before = tied.edition_is t in
    let totals = total_set currents t (Some e) declared in
    let counts = tied.count_is in
    record {
      few = tied.few;
      services = tied.services;
      templates = rw (length-set currents t (Some e)) tied.templates;
      law = (tied.law, (within, short, more));
      edition_is = λ u. rw (at u) (edition_if J t e (current_in currents u) u (t == u) refl number (tied.edition_is u));
      text_is = λ u. rw (at u) (text_if (t == u) (Some e) (current_in currents u) _ _ is (tied.text_is u));
      counted = λ u d same. counted_if (t == u) e (current_in currents u) d (omega (arith, number)) (tied.counted u d) (rw (at u) at same);
      most = λ u. rw (at u) (most_if (t == u) (Some e) (current_in currents u) (omega (arith, number, more)) (tied.most u));
      count_is = omega (arith, totals, counts, before, number);
      below = each_filter (λ (q : Publication). q.place < count + 1) (is_wanted C R) (P ++ p ∷ []) (below_more count count P p tied.below refl);
      wanted_are = each_kept (is_wanted C R) (P ++ p ∷ []);
      readers_may = tied.readers_may;
      drained_is = tied.drained_is;
      heard_are = λ s k m heard. let h = tied.heard_are s k m heard in omega (arith, h);
      news_is = λ s k m may heard.
          news_published C R s k m P p heard (tied.heard_are s k m heard)
          ∙ rw (tied.news_is s k m may heard, number', is') refl;
    }

-- an edition more, of which those who read its template are to hear
pub tied_publish : (C : Config) (J : List (Entry PubdEvent)) (g : Granted) (currents : List (Option Edition)) (count : ℕ) (P : List Publication) (R : List Reader) (w t : ℕ) (content : List ℕ) (e f : Edition) (J' : List (Entry PubdEvent)) (g' : Granted) (P' : List Publication)
    → Tied C J g currents count P R → t < length C.templates → edition J t < MOST_EDITIONS → length content ≤ LONGEST_TEMPLATE
    → e.number ≡ edition J t + 1 → f.number ≡ edition J t + 1 → arc_value e.content ≡ content → arc_value f.content ≡ content
    → J' ≡ record { worker = w; event = Publish t content } ∷ J → g' ≡ g → P' ≡ wanted C R (P ++ record { place = count; template = t; edition = f } ∷ [])
    → Tied C J' g' (slice_set currents t (Some e)) (count + 1) P' R
tied_publish C J g currents count P R w t content e f J' g' P' tied within more short number number' is is' entered same left =
    rw (entered, same, left) (published C J g currents count P R w t content e f tied within more short number number' is is')
