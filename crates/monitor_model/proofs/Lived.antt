-- A worker that lived piece by piece has a list of whole pieces, and each of its dialogs fits the entries that follow it.
use Rattle.std.proofs.Common.{◌≡◌, ℕ, Bool, true, false, List, [], ◌∷◌, ◌++◌, refl, sym, ap, ◌∙◌, subst, length, eq-eqb, Option, Some, None}
use Rattle.std.specs.List.{list_all}
use Rattle.std.specs.Prelude.{◌&&◌}
use Rattle.okws_base.specs.Runs.{Each}
use Rattle.okws_plan.specs.declared.configuration.Config.{Config}
use Rattle.okws_plan.specs.declared.event.LauncherEvent.{LauncherEvent}
use Rattle.okws_plan.specs.declared.event.LogEvent.TheVariants as oklogd
use Rattle.okws_plan.specs.declared.event.OkdEvent.TheVariants as okd
use Rattle.okws_plan.specs.declared.event.ProxyEvent.TheVariants as proxy
use Rattle.okws_plan.specs.declared.event.PubdEvent.TheVariants as pubd
use Rattle.monitor_model.specs.declared.record.Dialog.{Dialog}
use Rattle.monitor_model.specs.declared.record.Own.{Own}
use Rattle.monitor_model.specs.declared.record.Own.TheVariants as own
use Rattle.monitor_model.specs.declared.record.Record.{Record}
use Rattle.monitor_model.specs.declared.verdict.Way.{Way}
use Rattle.monitor_model.specs.declared.verdict.Way.TheVariants as way
use Rattle.monitor_model.specs.Course.{IsDialog, Speaker}
use Rattle.monitor_model.specs.Lawful.{FitsEntries, IsFitting}
use Rattle.monitor_model.specs.Okd.{accept_verdict}
use Rattle.monitor_model.specs.Pieces.{Mode, Free, Due, Speaking, Broken, mode, next_mode, after_free, accepted, way_at, is_whole, is_entry_of}
use Rattle.monitor_model.specs.Placed.{seen_after}
use Rattle.monitor_model.specs.Seen.{Seen, noted}
use Rattle.monitor_model.specs.Talks.{Block, Enters, kind_of, talks, talks_to}
use Rattle.monitor_model.specs.Worker.{Outcome, Unowned, IsDown, IsMissed, WantsMemory, Spoke, Piece, Accepted, Published, Launched, Wants, WentTo, Follows, IsPiece, Lives, IsWorker, next_dialog}
use Rattle.monitor_model.proofs.Went.{Since, Steps, Went, since_then, okd_steps}
use Rattle.monitor_model.proofs.Lives.{Kept, all_of, begun_steps, went_of, follows_steps, piece_steps, lives_kept, placed, way_placed, left_since}

-- ---- the mode behind a piece

free_from : (C : Config) (R : Record) (w : ℕ) (items : List Own) (item : Own) (m : Mode) → is_whole m ≡ true → ((s : ℕ) → is_entry_of s item ≡ false) → next_mode C R w items item m ≡ after_free C R w items item
free_from C R w items item Free whole none = refl
free_from C R w items item (Due s k) whole none = let bad : false ≡ true = whole in let never : ⊥ = cc in absurd never
free_from C R w items item (Speaking s) whole none = rw (none s) refl
free_from C R w items item Broken whole none = let bad : false ≡ true = whole in let never : ⊥ = cc in absurd never

speaks_on : (C : Config) (R : Record) (w s : ℕ) (items taken : List Own) → mode C R w items ≡ Speaking s → list_all (is_entry_of s) taken ≡ true → mode C R w (taken ++ items) ≡ Speaking s
speaks_on C R w s items [] here entries = here
speaks_on C R w s items (item ∷ taken) here entries = by (is_entry_of s item) (speaks_on C R w s items taken here) refl entries
  where
    by : (b : Bool) → (list_all (is_entry_of s) taken ≡ true → mode C R w (taken ++ items) ≡ Speaking s) → is_entry_of s item ≡ b → (b && list_all (is_entry_of s) taken) ≡ true → next_mode C R w (taken ++ items) item (mode C R w (taken ++ items)) ≡ Speaking s
    by true before entry more = rw (before more, entry) refl
    by false before entry more = let bad : false ≡ true = more in let never : ⊥ = cc in absurd never

-- ---- the dialogs behind a piece

entry_kind : (s : ℕ) (item : Own) → is_entry_of s item ≡ true → kind_of item ≡ Enters
entry_kind s (own.Proxy p (proxy.Install t k token)) is = let bad : false ≡ true = is in let never : ⊥ = cc in absurd never
entry_kind s (own.Proxy p (proxy.Revoke t k)) is = let bad : false ≡ true = is in let never : ⊥ = cc in absurd never
entry_kind s (own.Proxy p (proxy.Open t k shown)) is = refl
entry_kind s (own.Proxy p (proxy.Call call mark)) is = refl
entry_kind s (own.Pubd (pubd.Install t k)) is = let bad : false ≡ true = is in let never : ⊥ = cc in absurd never
entry_kind s (own.Pubd (pubd.Revoke t k)) is = let bad : false ≡ true = is in let never : ⊥ = cc in absurd never
entry_kind s (own.Pubd (pubd.Publish t content)) is = let bad : false ≡ true = is in let never : ⊥ = cc in absurd never
entry_kind s (own.Pubd (pubd.Drain t k)) is = refl
entry_kind s (own.Pubd (pubd.Get t k name)) is = refl
entry_kind s (own.Oklogd (oklogd.Install t k)) is = let bad : false ≡ true = is in let never : ⊥ = cc in absurd never
entry_kind s (own.Oklogd (oklogd.Revoke t k)) is = let bad : false ≡ true = is in let never : ⊥ = cc in absurd never
entry_kind s (own.Oklogd (oklogd.Log t k text)) is = refl
entry_kind s (own.Okd e) is = let bad : false ≡ true = is in let never : ⊥ = cc in absurd never
entry_kind s (own.Launcher e) is = let bad : false ≡ true = is in let never : ⊥ = cc in absurd never
entry_kind s (own.Dialog t) is = let bad : false ≡ true = is in let never : ⊥ = cc in absurd never
entry_kind s (own.Missed t wanted other) is = let bad : false ≡ true = is in let never : ⊥ = cc in absurd never
entry_kind s own.NoMemory is = let bad : false ≡ true = is in let never : ⊥ = cc in absurd never
entry_kind s (own.Boot t k) is = let bad : false ≡ true = is in let never : ⊥ = cc in absurd never
entry_kind s (own.Retired t) is = let bad : false ≡ true = is in let never : ⊥ = cc in absurd never

block_taken : (s : ℕ) (block : Block) (next : Option Own) (taken earlier : List Own) → list_all (is_entry_of s) taken ≡ true
    → talks_to (Some block) next (taken ++ own.Dialog s ∷ earlier) ≡ record { service = s; earlier = earlier; until = block.until; next = block.next } ∷ talks_to None (Some (own.Dialog s)) earlier
block_taken s block next [] earlier entries = refl
block_taken s block next (item ∷ taken) earlier entries = by (is_entry_of s item) (block_taken s block (Some item) taken earlier) refl entries
  where
    by : (b : Bool)
        → (list_all (is_entry_of s) taken ≡ true
        → talks_to (Some block) (Some item) (taken ++ own.Dialog s ∷ earlier) ≡ record { service = s; earlier = earlier; until = block.until; next = block.next } ∷ talks_to None (Some (own.Dialog s)) earlier)
        → is_entry_of s item ≡ b → (b && list_all (is_entry_of s) taken) ≡ true
        → talks_to (Some block) next (item ∷ (taken ++ own.Dialog s ∷ earlier)) ≡ record { service = s; earlier = earlier; until = block.until; next = block.next } ∷ talks_to None (Some (own.Dialog s)) earlier
    by true before entry more = rw (entry_kind s item entry) (before more)
    by false before entry more = let bad : false ≡ true = more in let never : ⊥ = cc in absurd never

talks_taken : (s : ℕ) (next : Option Own) (taken earlier : List Own) → list_all (is_entry_of s) taken ≡ true
    → talks_to None next (taken ++ own.Dialog s ∷ earlier) ≡ record { service = s; earlier = earlier; until = taken ++ own.Dialog s ∷ earlier; next = next } ∷ talks_to None (Some (own.Dialog s)) earlier
talks_taken s next [] earlier entries = refl
talks_taken s next (item ∷ taken) earlier entries = by (is_entry_of s item) refl entries
  where
    by : (b : Bool) → is_entry_of s item ≡ b → (b && list_all (is_entry_of s) taken) ≡ true
        → talks_to None next (item ∷ (taken ++ own.Dialog s ∷ earlier)) ≡ record { service = s; earlier = earlier; until = item ∷ (taken ++ own.Dialog s ∷ earlier); next = next } ∷ talks_to None (Some (own.Dialog s)) earlier
    by true entry more = rw (entry_kind s item entry) (block_taken s (record { until = item ∷ (taken ++ own.Dialog s ∷ earlier); next = next }) (Some item) taken earlier more)
    by false entry more = let bad : false ≡ true = more in let never : ⊥ = cc in absurd never

-- ---- a worker's list

-- the items are whole pieces, and each dialog fits, whatever comes next
pub record Fits (C : Config) (R : Record) (w : ℕ) (items : List Own) : Type 0 where
  pub whole : is_whole (mode C R w items) ≡ true
  pub each : (next : Option Own) → Each (IsFitting C R w) (talks_to None next items)

nothing_fits : (C : Config) (R : Record) (w : ℕ) → Fits C R w []
nothing_fits C R w = record { whole = refl; each = λ next. tt }

-- an item that is a piece
published_fits : (C : Config) (R : Record) (w t : ℕ) (content : List ℕ) (items : List Own) → Fits C R w items → Fits C R w (own.Pubd (pubd.Publish t content) ∷ items)
published_fits C R w t content items f = record {
  whole = ap is_whole (free_from C R w items (own.Pubd (pubd.Publish t content)) (mode C R w items) f.whole (λ s. refl));
  each = λ next. f.each (Some (own.Pubd (pubd.Publish t content)));
}

launched_fits : (C : Config) (R : Record) (w : ℕ) (event : LauncherEvent) (items : List Own) → Fits C R w items → Fits C R w (own.Launcher event ∷ items)
launched_fits C R w event items f = record {
  whole = ap is_whole (free_from C R w items (own.Launcher event) (mode C R w items) f.whole (λ s. refl));
  each = λ next. f.each (Some (own.Launcher event));
}

wants_fits : (C : Config) (R : Record) (w : ℕ) (items : List Own) → Fits C R w items → Fits C R w (own.NoMemory ∷ items)
wants_fits C R w items f = record {
  whole = ap is_whole (free_from C R w items own.NoMemory (mode C R w items) f.whole (λ s. refl));
  each = λ next. f.each (Some own.NoMemory);
}

-- the mode behind an Accept
pub accept_mode : (C : Config) (R : Record) (w : ℕ) (path : List ℕ) (items : List Own) (v : Way) → Fits C R w items → way_at C R w items path ≡ v → mode C R w (own.Okd (okd.Accept path) ∷ items) ≡ accepted v
accept_mode C R w path items v f is = free_from C R w items (own.Okd (okd.Accept path)) (mode C R w items) f.whole (λ s. refl) ∙ ap accepted is

-- what went nowhere
passed_fits : (C : Config) (R : Record) (w : ℕ) (path : List ℕ) (items : List Own) (v : Way) → Fits C R w items → way_at C R w items path ≡ v → is_whole (accepted v) ≡ true → Fits C R w (own.Okd (okd.Accept path) ∷ items)
passed_fits C R w path items v f is whole = record { whole = ap is_whole (accept_mode C R w path items v f is) ∙ whole; each = λ next. f.each (Some (own.Okd (okd.Accept path))) }

missed_fits : (C : Config) (R : Record) (w s k is : ℕ) (path : List ℕ) (items : List Own) → Fits C R w items → way_at C R w items path ≡ way.To s k → Fits C R w (own.Missed s k is ∷ own.Okd (okd.Accept path) ∷ items)
missed_fits C R w s k is path items f goes = record {
  whole = rw (accept_mode C R w path items (way.To s k) f goes, eq-eqb s s refl, eq-eqb k k refl) refl;
  each = λ next. f.each (Some (own.Okd (okd.Accept path)));
}

starved_fits : (C : Config) (R : Record) (w s k : ℕ) (path : List ℕ) (items : List Own) → Fits C R w items → way_at C R w items path ≡ way.To s k → Fits C R w (own.NoMemory ∷ own.Okd (okd.Accept path) ∷ items)
starved_fits C R w s k path items f goes = record {
  whole = rw (accept_mode C R w path items (way.To s k) f goes) refl;
  each = λ next. f.each (Some (own.Okd (okd.Accept path)));
}

-- the mode behind the item that begins a dialog
begun_mode : (C : Config) (R : Record) (w s k : ℕ) (path : List ℕ) (items : List Own) (d : Dialog) → Fits C R w items → way_at C R w items path ≡ way.To s k
    → next_dialog R w s (own.Okd (okd.Accept path) ∷ items) ≡ Some (k, d) → mode C R w (own.Dialog s ∷ own.Okd (okd.Accept path) ∷ items) ≡ Speaking s
begun_mode C R w s k path items d f goes next =
    rw (accept_mode C R w path items (way.To s k) f goes, eq-eqb s s refl, next, eq-eqb k k refl) refl

-- a dialog fits the entries that follow it
dialog_fits : (C : Config) (R : Record) (w s k : ℕ) (since left head content : List ℕ) (S now : Seen) (d : Dialog) (next : Option Own) (taken : List Own) → length R.proxies ≡ length C.proxies
    → Kept C w (noted S (own.Dialog s)) → Kept C w now → Since (noted S (own.Dialog s)) (all_of R) → Since now (all_of R) → now.own ≡ taken ++ own.Dialog s ∷ S.own → next_dialog R w s S.own ≡ Some (k, d)
    → IsDialog C (record { worker = w; service = s; incarnation = k }) since left d.due head content (noted S (own.Dialog s)) d.items d.end now
    → IsFitting C R w (record { service = s; earlier = S.own; until = taken ++ own.Dialog s ∷ S.own; next = next })
dialog_fits C R w s k since left head content S now d next taken many before after from_before from_after own_is found is =
    let first : seen_after R w (own.Dialog s ∷ S.own) ≡ noted S (own.Dialog s) = placed C R w (noted S (own.Dialog s)) many before from_before in
    let last : seen_after R w (taken ++ own.Dialog s ∷ S.own) ≡ now = ap (seen_after R w) (sym own_is) ∙ placed C R w now many after from_after in
    subst (FitsEntries C R w (record { service = s; earlier = S.own; until = taken ++ own.Dialog s ∷ S.own; next = next })) (sym found) (
      since,
      left,
      head,
      content,
      subst (λ (x : Seen). IsDialog C (record { worker = w; service = s; incarnation = k }) since left d.due head content x d.items d.end (seen_after R w (taken ++ own.Dialog s ∷ S.own))) (sym first)
          (subst (λ (x : Seen). IsDialog C (record { worker = w; service = s; incarnation = k }) since left d.due head content (noted S (own.Dialog s)) d.items d.end x) (sym last) is),
    )

spoke_fits : (C : Config) (R : Record) (w s k : ℕ) (since left head content path : List ℕ) (mid S now : Seen) (d : Dialog) → length R.proxies ≡ length C.proxies → Kept C w S
    → S.own ≡ own.Okd (okd.Accept path) ∷ mid.own → Fits C R w mid.own → way_at C R w mid.own path ≡ way.To s k → Since now (all_of R) → next_dialog R w s S.own ≡ Some (k, d)
    → IsDialog C (record { worker = w; service = s; incarnation = k }) since left d.due head content (noted S (own.Dialog s)) d.items d.end now → Fits C R w now.own
spoke_fits C R w s k since left head content path mid S now d many kept own_is fits goes from_now found is =
    let who : Speaker = record { worker = w; service = s; incarnation = k } in
    let begun : Steps (length C.proxies) w S (noted S (own.Dialog s)) = begun_steps (length C.proxies) w s S in
    let before : Kept C w (noted S (own.Dialog s)) = record { owns = begun.owns kept.owns; trimmed = begun.trimmed kept.trimmed } in
    let went : Went C who (noted S (own.Dialog s)) now = went_of C w s k since left d.due head content S now d kept.owns is in
    let after : Kept C w now = record { owns = went.owns; trimmed = went.trimmed before.trimmed } in
    let from_before : Since (noted S (own.Dialog s)) (all_of R) = since_then (noted S (own.Dialog s)) now (all_of R) went.since from_now in
    let there : next_dialog R w s (own.Okd (okd.Accept path) ∷ mid.own) ≡ Some (k, d) = ap (next_dialog R w s) (sym own_is) ∙ found in
    let speaking : mode C R w (own.Dialog s ∷ S.own) ≡ Speaking s = ap (λ (items : List Own). mode C R w (own.Dialog s ∷ items)) own_is ∙ begun_mode C R w s k path mid.own d fits goes there in
    let rest : (x : Option Own) → Each (IsFitting C R w) (talks_to None x S.own)
    = λ x. subst (λ (items : List Own). Each (IsFitting C R w) (talks_to None x items)) (sym own_is) (fits.each (Some (own.Okd (okd.Accept path)))) in
    subst (Fits C R w) (sym went.taken_is) (record {
      whole = ap is_whole (speaks_on C R w s (own.Dialog s ∷ S.own) went.taken speaking went.entries);
      each = λ next. subst (Each (IsFitting C R w)) (sym (talks_taken s next went.taken S.own went.entries))
          (dialog_fits C R w s k since left head content S now d next went.taken many before after from_before from_now went.taken_is found is, rest (Some (own.Dialog s)));
    })

to_fits : (C : Config) (R : Record) (w s k : ℕ) (head content path : List ℕ) (mid S : Seen) (outcome : Outcome) (now : Seen) → length R.proxies ≡ length C.proxies → Kept C w S
    → S.own ≡ own.Okd (okd.Accept path) ∷ mid.own → Fits C R w mid.own → way_at C R w mid.own path ≡ way.To s k → Since now (all_of R) → WentTo C R w s k head content S outcome now → Fits C R w now.own
to_fits C R w s k head content path mid S Unowned now many kept own_is fits goes from_now f = absurd f
to_fits C R w s k head content path mid S IsDown now many kept own_is fits goes from_now f = absurd f
to_fits C R w s k head content path mid S IsMissed now many kept own_is fits goes from_now f =
    let own_now : now.own ≡ own.Missed s k f.0 ∷ own.Okd (okd.Accept path) ∷ mid.own = ap (λ (x : Seen). x.own) f.1 ∙ ap (λ (items : List Own). own.Missed s k f.0 ∷ items) own_is in
    subst (Fits C R w) (sym own_now) (missed_fits C R w s k f.0 path mid.own fits goes)
to_fits C R w s k head content path mid S WantsMemory now many kept own_is fits goes from_now f =
    let own_now : now.own ≡ own.NoMemory ∷ own.Okd (okd.Accept path) ∷ mid.own = ap (λ (x : Seen). x.own) f ∙ ap (λ (items : List Own). own.NoMemory ∷ items) own_is in
    subst (Fits C R w) (sym own_now) (starved_fits C R w s k path mid.own fits goes)
to_fits C R w s k head content path mid S (Spoke t j d) now many kept own_is fits goes from_now f = spoke_fits C R w s k f.3 f.4 head content path mid S now d many kept own_is fits goes from_now f.2 f.5

follows_fit : (C : Config) (R : Record) (w : ℕ) (v : Way) (head content path : List ℕ) (mid S : Seen) (outcome : Outcome) (now : Seen) → length R.proxies ≡ length C.proxies → Kept C w S
    → S.own ≡ own.Okd (okd.Accept path) ∷ mid.own → Fits C R w mid.own → way_at C R w mid.own path ≡ v → Since now (all_of R) → Follows C R w v head content S outcome now → Fits C R w now.own
follows_fit C R w way.NotOwned head content path mid S outcome now many kept own_is fits goes from_now f =
    subst (Fits C R w) (sym (ap (λ (x : Seen). x.own) f.1 ∙ own_is)) (passed_fits C R w path mid.own way.NotOwned fits goes refl)
follows_fit C R w (way.Down s) head content path mid S outcome now many kept own_is fits goes from_now f =
    subst (Fits C R w) (sym (ap (λ (x : Seen). x.own) f.1 ∙ own_is)) (passed_fits C R w path mid.own (way.Down s) fits goes refl)
follows_fit C R w (way.To s k) head content path mid S outcome now many kept own_is fits goes from_now f =
    to_fits C R w s k head content path mid S outcome now many kept own_is fits goes from_now f

piece_fits : (C : Config) (R : Record) (w : ℕ) (piece : Piece) (mid now : Seen) → length R.proxies ≡ length C.proxies → Kept C w mid → Fits C R w mid.own → Since now (all_of R) → IsPiece C R w piece mid now → Fits C R w now.own
piece_fits C R w (Accepted path head content outcome) mid now many kept fits from_now f =
    let first : Steps (length C.proxies) w mid f.1 = okd_steps (length C.proxies) w (okd.Accept path) mid f.0 f.1 f.2 in
    let then : Kept C w f.1 = record { owns = first.owns kept.owns; trimmed = first.trimmed kept.trimmed } in
    let rest : Steps (length C.proxies) w f.1 now = follows_steps C R w (accept_verdict C f.0 path) head content f.1 outcome now then.owns f.3 in
    let goes : way_at C R w mid.own path ≡ accept_verdict C f.0 path = way_placed C R w path mid f.1 f.0 kept f.2 (since_then f.1 now (all_of R) rest.since from_now) in
    follows_fit C R w (accept_verdict C f.0 path) head content path mid f.1 outcome now many then (ap (λ (x : Seen). x.own) f.2.1) fits goes from_now f.3
piece_fits C R w (Published t content) mid now many kept fits from_now f = subst (Fits C R w) (sym (ap (λ (x : Seen). x.own) f.1.1)) (published_fits C R w t content mid.own fits)
piece_fits C R w (Launched event) mid now many kept fits from_now f = subst (Fits C R w) (sym (ap (λ (x : Seen). x.own) f.1.1)) (launched_fits C R w event mid.own fits)
piece_fits C R w Wants mid now many kept fits from_now f = subst (Fits C R w) (sym (ap (λ (x : Seen). x.own) f)) (wants_fits C R w mid.own fits)

pub lives_fit : (C : Config) (R : Record) (w : ℕ) → length R.proxies ≡ length C.proxies → (pieces : List Piece) (now : Seen) → Lives C R w pieces now → Since now (all_of R) → Fits C R w now.own
lives_fit C R w many [] now l from_now = subst (Fits C R w) (sym (ap (λ (x : Seen). x.own) l)) (nothing_fits C R w)
lives_fit C R w many (piece ∷ pieces) now l from_now =
    let kept : Kept C w l.0 = lives_kept C R w many pieces l.0 l.1 in
    let steps : Steps (length C.proxies) w l.0 now = piece_steps C R w piece l.0 now kept.owns l.2 in
    piece_fits C R w piece l.0 now many kept (lives_fit C R w many pieces l.0 l.1 (since_then l.0 now (all_of R) steps.since from_now)) from_now l.2

pub lives_are_pieces : (C : Config) (R : Record) (w : ℕ) (pieces : List Piece) (items : List Own) → length R.proxies ≡ length C.proxies → IsWorker C R w pieces items
    → (is_whole (mode C R w items) ≡ true) × Each (IsFitting C R w) (talks items)
lives_are_pieces C R w pieces items many x =
    let kept : Kept C w x.seen = lives_kept C R w many pieces x.seen x.lives in
    let fits : Fits C R w x.seen.own = lives_fit C R w many pieces x.seen x.lives (left_since C R w x.seen (kept.owns.many ∙ sym many) x.left) in
    subst (λ (list : List Own). (is_whole (mode C R w list) ≡ true) × Each (IsFitting C R w) (talks list)) (sym x.items_are) (fits.whole, fits.each None)
