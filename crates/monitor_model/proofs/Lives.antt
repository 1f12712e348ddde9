-- What a worker has seen, piece by piece, and where it stands in the record.
use Rattle.std.proofs.Common.{◌≡◌, ℕ, zero, suc, ◌+◌, ◌<◌, ◌≤◌, Bool, true, false, cond, List, [], ◌∷◌, ◌++◌, ◌==◌, refl, sym, ap, ◌∙◌, subst, arith, length, filter_map, get_or, replicate, eq-eqb, ne_eqb}
use Rattle.std.proofs.lemmas.Bool.{ltb-true, ltb-false}
use Rattle.std.specs.Prelude.{nat_lt, ◌&&◌}
use Rattle.okws_base.specs.Past.{Grows, events_of}
use Rattle.okws_base.specs.Turns.{Behind}
use Rattle.okws_base.specs.declared.journal.Entry.{Entry}
use Rattle.okws_plan.specs.declared.configuration.Config.{Config}
use Rattle.okws_plan.specs.declared.event.OkdEvent.{OkdEvent}
use Rattle.okws_plan.specs.declared.event.OkdEvent.TheVariants as okd
use Rattle.okws_plan.specs.declared.event.ProxyEvent.{ProxyEvent}
use Rattle.okws_plan.specs.declared.event.PubdEvent.TheVariants as pubd
use Rattle.monitor_model.specs.declared.record.Dialog.{Dialog}
use Rattle.monitor_model.specs.declared.record.Own.{Own}
use Rattle.monitor_model.specs.declared.record.Own.TheVariants as own
use Rattle.monitor_model.specs.declared.record.Record.{Record}
use Rattle.monitor_model.specs.declared.verdict.Way.{Way}
use Rattle.monitor_model.specs.declared.verdict.Way.TheVariants as way
use Rattle.monitor_model.specs.Course.{IsDialog, Speaker}
use Rattle.monitor_model.specs.Merged.{okd_item, proxy_item, pubd_item, log_item, launcher_item}
use Rattle.monitor_model.specs.Okd.{accept_verdict}
use Rattle.monitor_model.specs.Pieces.{way_at}
use Rattle.monitor_model.specs.Placed.{before_nth, count_of, seen_after}
use Rattle.monitor_model.specs.Seen.{Seen, AtOkd, noted, proxy_past}
use Rattle.monitor_model.specs.Tied.{OwnsEntries, EndsInOwn, RowGoesOn}
use Rattle.monitor_model.specs.Worker.{Outcome, Unowned, IsDown, IsMissed, WantsMemory, Spoke, Piece, Accepted, Published, Launched, Wants, WentTo, Follows, IsPiece, Lives, IsLeft, nothing_seen}
use Rattle.monitor_model.proofs.Lawful.Plain.{replicate_at}
use Rattle.monitor_model.proofs.Tied.{others_leave_entries, seen_is_placed, count_more}
use Rattle.monitor_model.proofs.Went.{Trimmed, Since, Steps, Went, since_itself, since_then, okd_steps, pubd_steps, launcher_steps, dialog_went, begins}

-- ---- what a worker has seen, piece by piece

-- an item that is no entry changes nothing
noted_steps : (n w : ℕ) (S now : Seen) (item : Own) → now ≡ noted S item → (OwnsEntries n w S → OwnsEntries n w (noted S item)) → Steps n w S now
noted_steps n w S now item is owns = record {
  owns = λ o. subst (OwnsEntries n w) (sym is) (owns o);
  trimmed = λ t. subst (Trimmed w) (sym is) (record { okd = t.okd; proxies = t.proxies; pubd = t.pubd; oklogd = t.oklogd; launcher = t.launcher });
  since = subst (Since S) (sym is) (since_noted S item);
}
  where
    since_noted : (S : Seen) (item : Own) → Since S (noted S item)
    since_noted S item = let all : Since S S = since_itself S in record { okd = all.okd; proxies = all.proxies; pubd = all.pubd; oklogd = all.oklogd; launcher = all.launcher }

same_owns : (n w : ℕ) (S : Seen) (item : Own) → filter_map okd_item (item ∷ S.own) ≡ filter_map okd_item S.own → ((p : ℕ) → filter_map (proxy_item p) (item ∷ S.own) ≡ filter_map (proxy_item p) S.own)
    → filter_map pubd_item (item ∷ S.own) ≡ filter_map pubd_item S.own → filter_map log_item (item ∷ S.own) ≡ filter_map log_item S.own → filter_map launcher_item (item ∷ S.own) ≡ filter_map launcher_item S.own
    → OwnsEntries n w S → OwnsEntries n w (noted S item)
same_owns n w S item at_okd at_proxies at_pubd at_log at_launcher o = record {
  many = o.many;
  okd = o.okd ∙ sym at_okd;
  proxies_are = λ p. o.proxies_are p ∙ sym (at_proxies p);
  pubd = o.pubd ∙ sym at_pubd;
  oklogd = o.oklogd ∙ sym at_log;
  launcher = o.launcher ∙ sym at_launcher;
}

pub then_steps : (n w : ℕ) (I J K : Seen) → Steps n w I J → Steps n w J K → Steps n w I K
then_steps n w I J K i j = record { owns = λ o. j.owns (i.owns o); trimmed = λ t. j.trimmed (i.trimmed t); since = since_then I J K i.since j.since }

same_steps : (n w : ℕ) (S now : Seen) → now ≡ S → Steps n w S now
same_steps n w S now is = record { owns = λ o. subst (OwnsEntries n w) (sym is) o; trimmed = λ t. subst (Trimmed w) (sym is) t; since = subst (Since S) (sym is) (since_itself S) }

missed_steps : (n w s k is : ℕ) (S now : Seen) → now ≡ noted S (own.Missed s k is) → Steps n w S now
missed_steps n w s k is S now e = noted_steps n w S now (own.Missed s k is) e (same_owns n w S (own.Missed s k is) refl (λ p. refl) refl refl refl)

wants_steps : (n w : ℕ) (S now : Seen) → now ≡ noted S own.NoMemory → Steps n w S now
wants_steps n w S now e = noted_steps n w S now own.NoMemory e (same_owns n w S own.NoMemory refl (λ p. refl) refl refl refl)

pub begun_steps : (n w s : ℕ) (S : Seen) → Steps n w S (noted S (own.Dialog s))
begun_steps n w s S = noted_steps n w S (noted S (own.Dialog s)) (own.Dialog s) refl (same_owns n w S (own.Dialog s) refl (λ p. refl) refl refl refl)

-- a dialog of the worker's, from the item that begins it
pub went_of : (C : Config) (w s k : ℕ) (since left due head content : List ℕ) (S now : Seen) (d : Dialog) → OwnsEntries (length C.proxies) w S
    → IsDialog C (record { worker = w; service = s; incarnation = k }) since left due head content (noted S (own.Dialog s)) d.items d.end now
    → Went C (record { worker = w; service = s; incarnation = k }) (noted S (own.Dialog s)) now
went_of C w s k since left due head content S now d o is =
    let who : Speaker = record { worker = w; service = s; incarnation = k } in
    dialog_went C who (noted S (own.Dialog s)) since left due head content (noted S (own.Dialog s)) now d.items d.end is
    (begins C who (noted S (own.Dialog s)) ((begun_steps (length C.proxies) w s S).owns o))

went_steps : (C : Config) (who : Speaker) (I now : Seen) → Went C who I now → Steps (length C.proxies) who.worker I now
went_steps C who I now g = record { owns = λ o. g.owns; trimmed = g.trimmed; since = g.since }

to_steps : (C : Config) (R : Record) (w s k : ℕ) (head content : List ℕ) (S : Seen) (outcome : Outcome) (now : Seen) → OwnsEntries (length C.proxies) w S → WentTo C R w s k head content S outcome now
    → Steps (length C.proxies) w S now
to_steps C R w s k head content S Unowned now o f = absurd f
to_steps C R w s k head content S IsDown now o f = absurd f
to_steps C R w s k head content S IsMissed now o f = missed_steps (length C.proxies) w s k f.0 S now f.1
to_steps C R w s k head content S WantsMemory now o f = wants_steps (length C.proxies) w S now f
to_steps C R w s k head content S (Spoke t j d) now o f =
    then_steps (length C.proxies) w S (noted S (own.Dialog s)) now (begun_steps (length C.proxies) w s S)
    (went_steps C (record { worker = w; service = s; incarnation = k }) (noted S (own.Dialog s)) now (went_of C w s k f.3 f.4 d.due head content S now d o f.5))

pub follows_steps : (C : Config) (R : Record) (w : ℕ) (v : Way) (head content : List ℕ) (S : Seen) (outcome : Outcome) (now : Seen) → OwnsEntries (length C.proxies) w S → Follows C R w v head content S outcome now
    → Steps (length C.proxies) w S now
follows_steps C R w way.NotOwned head content S outcome now o f = same_steps (length C.proxies) w S now f.1
follows_steps C R w (way.Down s) head content S outcome now o f = same_steps (length C.proxies) w S now f.1
follows_steps C R w (way.To s k) head content S outcome now o f = to_steps C R w s k head content S outcome now o f

pub piece_steps : (C : Config) (R : Record) (w : ℕ) (piece : Piece) (mid now : Seen) → OwnsEntries (length C.proxies) w mid → IsPiece C R w piece mid now → Steps (length C.proxies) w mid now
piece_steps C R w (Accepted path head content outcome) mid now o f =
    let first : Steps (length C.proxies) w mid f.1 = okd_steps (length C.proxies) w (okd.Accept path) mid f.0 f.1 f.2 in
    then_steps (length C.proxies) w mid f.1 now first (follows_steps C R w (accept_verdict C f.0 path) head content f.1 outcome now (first.owns o) f.3)
piece_steps C R w (Published t content) mid now o f = pubd_steps (length C.proxies) w (pubd.Publish t content) mid f.0 now f.1
piece_steps C R w (Launched event) mid now o f = launcher_steps (length C.proxies) w event mid f.0 now f.1
piece_steps C R w Wants mid now o f = wants_steps (length C.proxies) w mid now f

-- what is kept
pub record Kept (C : Config) (w : ℕ) (S : Seen) : Type 0 where
  pub owns : OwnsEntries (length C.proxies) w S
  pub trimmed : Trimmed w S

many_replicate : {A : Type 0} (n : ℕ) (d : A) → length (replicate n d) ≡ n
many_replicate zero d = refl
many_replicate (suc n) d = ap (λ (m : ℕ). suc m) (many_replicate n d)

nothing_kept : (C : Config) (w m : ℕ) → m ≡ length C.proxies → Kept C w (nothing_seen m)
nothing_kept C w m is = record {
  owns = record {
    many = many_replicate m [] ∙ is;
    okd = refl;
    proxies_are = λ p. ap (events_of w) (replicate_at m p []);
    pubd = refl;
    oklogd = refl;
    launcher = refl;
  };
  trimmed = record { okd = tt; proxies = λ p. subst (EndsInOwn w) (sym (replicate_at m p [])) tt; pubd = tt; oklogd = tt; launcher = tt };
}

pub lives_kept : (C : Config) (R : Record) (w : ℕ) → length R.proxies ≡ length C.proxies → (pieces : List Piece) (now : Seen) → Lives C R w pieces now → Kept C w now
lives_kept C R w many [] now l = subst (Kept C w) (sym l) (nothing_kept C w (length R.proxies) many)
lives_kept C R w many (piece ∷ pieces) now l =
    let before : Kept C w l.0 = lives_kept C R w many pieces l.0 l.1 in
    let steps : Steps (length C.proxies) w l.0 now = piece_steps C R w piece l.0 now before.owns l.2 in
    record { owns = steps.owns before.owns; trimmed = steps.trimmed before.trimmed }

-- ---- where it stands in the record

-- all that the record holds
abbrev pub all_of : Record → Seen
all_of R = record { okd = R.okd; proxies = R.proxies; pubd = R.pubd; oklogd = R.oklogd; launcher = R.launcher; own = [] }

row_placed : (w : ℕ) (items : List Own) (p : ℕ) (Js Ks : List (List (Entry ProxyEvent))) → length Js ≡ length Ks → ((i : ℕ) → Behind (get_or Js i []) (get_or Ks i [])) → ((i : ℕ) → EndsInOwn w (get_or Js i []))
    → ((i : ℕ) → events_of w (get_or Js i []) ≡ filter_map (proxy_item (p + i)) items) → RowGoesOn w items p Js Ks
row_placed w items p [] [] alike behind ends owns = tt
row_placed w items p [] (K ∷ Ks) alike behind ends owns = let bad : 0 ≡ suc (length Ks) = alike in let never : ⊥ = omega (arith, bad) in absurd never
row_placed w items p (J ∷ Js) [] alike behind ends owns = let bad : suc (length Js) ≡ 0 = alike in let never : ⊥ = omega (arith, bad) in absurd never
row_placed w items p (J ∷ Js) (K ∷ Ks) alike behind ends owns =
    let first : p + 0 ≡ p = omega arith in
    let rest : length Js ≡ length Ks = omega (arith, alike) in (
      record {
        more = (behind zero).0;
        is = (behind zero).1;
        ends = ends zero;
        own = owns zero ∙ ap (λ (q : ℕ). filter_map (proxy_item q) items) first;
      },
      row_placed w items (suc p) Js Ks rest (λ i. behind (suc i)) (λ i. ends (suc i)) (λ i. owns (suc i) ∙ ap (λ (q : ℕ). filter_map (proxy_item q) items) (further i)),
    )
  where
    further : (i : ℕ) → p + suc i ≡ suc p + i
    further i = omega arith

pub placed : (C : Config) (R : Record) (w : ℕ) (S : Seen) → length R.proxies ≡ length C.proxies → Kept C w S → Since S (all_of R) → seen_after R w S.own ≡ S
placed C R w S many k since = seen_is_placed R w S (record {
  okd = record { more = since.okd.0; is = since.okd.1; ends = k.trimmed.okd; own = k.owns.okd };
  proxies = row_placed w S.own 0 S.proxies R.proxies (k.owns.many ∙ sym many) since.proxies k.trimmed.proxies (λ i. k.owns.proxies_are i ∙ ap (λ (q : ℕ). filter_map (proxy_item q) S.own) (none_more i));
  pubd = record { more = since.pubd.0; is = since.pubd.1; ends = k.trimmed.pubd; own = k.owns.pubd };
  oklogd = record { more = since.oklogd.0; is = since.oklogd.1; ends = k.trimmed.oklogd; own = k.owns.oklogd };
  launcher = record { more = since.launcher.0; is = since.launcher.1; ends = k.trimmed.launcher; own = k.owns.launcher };
})
  where
    none_more : (i : ℕ) → i ≡ 0 + i
    none_more i = omega arith

-- the entries before the n-th, where these stand before it
before_it : {E : Type 0} (w : ℕ) (e : Entry E) (before more : List (Entry E)) → e.worker ≡ w → before_nth w (count_of w before) (more ++ e ∷ before) ≡ before
before_it w e before [] own = rw (eq-eqb e.worker w own, eq-eqb (count_of w before) (count_of w before) refl) refl
before_it {E} w e before (m ∷ more) own = by (m.worker == w) (before_it w e before more own)
  where
    one_more : count_of w (e ∷ before) ≡ count_of w before + 1
    one_more = rw (eq-eqb e.worker w own) (omega arith)

    later : count_of w before < count_of w (more ++ e ∷ before)
    later = let grown : count_of w (e ∷ before) ≤ count_of w (more ++ e ∷ before) = count_more w more (e ∷ before) in omega (arith, grown, one_more)

    by : (b : Bool) → before_nth w (count_of w before) (more ++ e ∷ before) ≡ before
        → cond (b && (count_of w (more ++ e ∷ before) == count_of w before)) (more ++ e ∷ before) (before_nth w (count_of w before) (more ++ e ∷ before)) ≡ before
    by true there = rw (ne_eqb (count_of w (more ++ e ∷ before)) (count_of w before) (λ (is : count_of w (more ++ e ∷ before) ≡ count_of w before). omega (arith, is, later))) there
    by false there = there

pub way_placed : (C : Config) (R : Record) (w : ℕ) (path : List ℕ) (mid S : Seen) (before : List (Entry OkdEvent)) → Kept C w mid → AtOkd w (okd.Accept path) mid before S → Since S (all_of R)
    → way_at C R w mid.own path ≡ accept_verdict C before path
way_placed C R w path mid S before k at since =
    let all : R.okd ≡ since.okd.0 ++ record { worker = w; event = okd.Accept path } ∷ before = since.okd.1 ∙ ap (λ (x : Seen). since.okd.0 ++ x.okd) at.1 in
    let many : length (filter_map okd_item mid.own) ≡ count_of w before = ap (λ (events : List OkdEvent). length events) (sym k.owns.okd ∙ sym (others_leave_entries w mid.okd before at.0)) in
    let there : before_nth w (length (filter_map okd_item mid.own)) R.okd ≡ before = rw (all, many) (before_it w (record { worker = w; event = okd.Accept path }) before since.okd.0 refl) in
    ap (λ (J : List (Entry OkdEvent)). accept_verdict C J path) there

-- ---- the record goes on from what was seen at last

grows_behind : {E : Type 0} (w : ℕ) (J K : List (Entry E)) → Grows w J K → Behind J K
grows_behind w J K g = (g.0, g.2)

past_end : {A : Type 0} (xs : List A) (i : ℕ) (d : A) → length xs ≤ i → get_or xs i d ≡ d
past_end [] i d le = refl
past_end (x ∷ xs) zero d le = let bad : suc (length xs) ≤ 0 = le in let never : ⊥ = omega (arith, bad) in absurd never
past_end (x ∷ xs) (suc i) d le = past_end xs i d (omega (arith, le))

pub left_since : (C : Config) (R : Record) (w : ℕ) (S : Seen) → length S.proxies ≡ length R.proxies → IsLeft R w S → Since S (all_of R)
left_since C R w S alike left = record {
  okd = grows_behind w S.okd R.okd left.okd;
  proxies = λ p. by p (nat_lt p (length R.proxies)) refl;
  pubd = grows_behind w S.pubd R.pubd left.pubd;
  oklogd = grows_behind w S.oklogd R.oklogd left.oklogd;
  launcher = grows_behind w S.launcher R.launcher left.launchers;
}
  where
    by : (p : ℕ) (b : Bool) → nat_lt p (length R.proxies) ≡ b → Behind (proxy_past S.proxies p) (proxy_past R.proxies p)
    by p true is = grows_behind w (proxy_past S.proxies p) (proxy_past R.proxies p) (left.proxies p (ltb-true p (length R.proxies) is))
    by p false is =
        let beyond : length R.proxies ≤ p = ltb-false p (length R.proxies) is in
        rw (past_end S.proxies p [] (rw alike beyond), past_end R.proxies p [] beyond) ([], refl)
