-- Where each crash is told of by the piece behind it, the items of the list tell so.
use Rattle.std.proofs.Common.{◌≡◌, ℕ, Bool, true, false, List, [], ◌∷◌, ◌++◌, refl, sym, ap, ◌∙◌, subst, length, Option, Some, None, not}
use Rattle.std.specs.List.{list_all}
use Rattle.std.specs.Prelude.{◌&&◌, ◌||◌, option_map}
use Rattle.okws_plan.specs.declared.configuration.Config.{Config}
use Rattle.okws_plan.specs.declared.event.LogEvent.TheVariants as oklogd
use Rattle.okws_plan.specs.declared.event.OkdEvent.TheVariants as okd
use Rattle.okws_plan.specs.declared.event.ProxyEvent.TheVariants as proxy
use Rattle.okws_plan.specs.declared.event.PubdEvent.TheVariants as pubd
use Rattle.monitor_model.specs.declared.record.Dialog.{Dialog}
use Rattle.monitor_model.specs.declared.record.Own.{Own}
use Rattle.monitor_model.specs.declared.record.Own.TheVariants as own
use Rattle.monitor_model.specs.declared.record.Record.{Record}
use Rattle.monitor_model.specs.declared.verdict.Way.{Way}
use Rattle.monitor_model.specs.declared.verdict.Way.TheVariants as way
use Rattle.monitor_model.specs.Causes.{crash_is_told, crashes_are_told, is_crash, tells_crash}
use Rattle.monitor_model.specs.Okd.{accept_verdict}
use Rattle.monitor_model.specs.Pieces.{is_entry_of}
use Rattle.monitor_model.specs.Seen.{Seen}
use Rattle.monitor_model.specs.Talks.{Block, Enters, Talk, kind_of, talks_to}
use Rattle.monitor_model.specs.Worker.{Outcome, Unowned, IsDown, IsMissed, WantsMemory, Spoke, Piece, Accepted, Published, Launched, Wants, WentTo, Follows, IsPiece, Lives, IsWorker, next_dialog}
use Rattle.monitor_model.proofs.Lives.{Kept, lives_kept, went_of}
use Rattle.monitor_model.proofs.Went.{Steps, Went, okd_steps}
use Rattle.worker_lives.specs.Listing.{are_told, first_item, outcome_is_told, piece_is_told, tells}
use Rattle.worker_lives.proofs.Found.{both_true}

-- ---- the dialogs behind a piece

pub entry_kind : (s : ℕ) (item : Own) → is_entry_of s item ≡ true → kind_of item ≡ Enters
entry_kind s (own.Proxy p (proxy.Install t k token)) is = let bad : false ≡ true = is in let never : ⊥ = cc in absurd never
entry_kind s (own.Proxy p (proxy.Revoke t k)) is = let bad : false ≡ true = is in let never : ⊥ = cc in absurd never
entry_kind s (own.Proxy p (proxy.Open t k shown)) is = refl
entry_kind s (own.Proxy p (proxy.Call call mark)) is = refl
entry_kind s (own.Pubd (pubd.Install t k)) is = let bad : false ≡ true = is in let never : ⊥ = cc in absurd never
entry_kind s (own.Pubd (pubd.Revoke t k)) is = let bad : false ≡ true = is in let never : ⊥ = cc in absurd never
entry_kind s (own.Pubd (pubd.Publish t content)) is = let bad : false ≡ true = is in let never : ⊥ = cc in absurd never
entry_kind s (own.Pubd (pubd.Drain t k)) is = refl
entry_kind s (own.Pubd (pubd.Get t k name)) is = refl
entry_kind s (own.Oklogd (oklogd.Install t k)) is = let bad : false ≡ true = is in let never : ⊥ = cc in absurd never
entry_kind s (own.Oklogd (oklogd.Revoke t k)) is = let bad : false ≡ true = is in let never : ⊥ = cc in absurd never
entry_kind s (own.Oklogd (oklogd.Log t k text)) is = refl
entry_kind s (own.Okd e) is = let bad : false ≡ true = is in let never : ⊥ = cc in absurd never
entry_kind s (own.Launcher e) is = let bad : false ≡ true = is in let never : ⊥ = cc in absurd never
entry_kind s (own.Dialog t) is = let bad : false ≡ true = is in let never : ⊥ = cc in absurd never
entry_kind s (own.Missed t wanted other) is = let bad : false ≡ true = is in let never : ⊥ = cc in absurd never
entry_kind s own.NoMemory is = let bad : false ≡ true = is in let never : ⊥ = cc in absurd never
entry_kind s (own.Boot t k) is = let bad : false ≡ true = is in let never : ⊥ = cc in absurd never
entry_kind s (own.Retired t) is = let bad : false ≡ true = is in let never : ⊥ = cc in absurd never

-- the talk before these entries, where this item came behind them all
record Before (s : ℕ) (next : Option Own) (earlier : List Own) (all : List Talk) : Type 0 where
  until : List Own
  is : all ≡ record { service = s; earlier = earlier; until = until; next = next } ∷ talks_to None (Some (own.Dialog s)) earlier

block_before : (s : ℕ) (block : Block) (next : Option Own) (taken earlier : List Own) → list_all (is_entry_of s) taken ≡ true
    → Before s block.next earlier (talks_to (Some block) next (taken ++ own.Dialog s ∷ earlier))
block_before s block next [] earlier entries = record { until = block.until; is = refl }
block_before s block next (item ∷ taken) earlier entries =
    let both : (is_entry_of s item ≡ true) × (list_all (is_entry_of s) taken ≡ true) = both_true (is_entry_of s item) (list_all (is_entry_of s) taken) entries in
    rw (entry_kind s item both.0) (block_before s block (Some item) taken earlier both.1)

talk_before : (s : ℕ) (next : Option Own) (taken earlier : List Own) → list_all (is_entry_of s) taken ≡ true → Before s next earlier (talks_to None next (taken ++ own.Dialog s ∷ earlier))
talk_before s next [] earlier entries = record { until = own.Dialog s ∷ earlier; is = refl }
talk_before s next (item ∷ taken) earlier entries =
    let both : (is_entry_of s item ≡ true) × (list_all (is_entry_of s) taken ≡ true) = both_true (is_entry_of s item) (list_all (is_entry_of s) taken) entries in
    rw (entry_kind s item both.0) (block_before s (record { until = item ∷ (taken ++ own.Dialog s ∷ earlier); next = next }) (Some item) taken earlier both.1)

-- ---- what is told

-- the item that came next
abbrev begun_by : Option Piece → Option Own
begun_by next = option_map first_item next

tells_item : (s k : ℕ) (next : Option Piece) → tells s k next ≡ tells_crash s k (begun_by next)
tells_item s k None = refl
tells_item s k (Some (Accepted path head content outcome)) = refl
tells_item s k (Some (Published t content)) = refl
tells_item s k (Some (Launched event)) = refl
tells_item s k (Some Wants) = refl

-- each dialog of these is told of
abbrev all_told : Record → ℕ → List Talk → Bool
all_told R w all = list_all (λ (t : Talk). crash_is_told t (next_dialog R w t.service t.earlier)) all

spoke_told : (R : Record) (w s k : ℕ) (d : Dialog) (until earlier : List Own) (next : Option Piece) → next_dialog R w s earlier ≡ Some (k, d) → outcome_is_told (Spoke s k d) next ≡ true
    → crash_is_told (record { service = s; earlier = earlier; until = until; next = begun_by next }) (next_dialog R w s earlier) ≡ true
spoke_told R w s k d until earlier next there told =
    ap (crash_is_told (record { service = s; earlier = earlier; until = until; next = begun_by next })) there
    ∙ ap (λ (b : Bool). not (is_crash d.end) || b) (sym (tells_item s k next))
    ∙ told

to_told : (C : Config) (R : Record) (w s k : ℕ) (head content path : List ℕ) (mid S : Seen) (outcome : Outcome) (now : Seen) (next : Option Piece) → Kept C w S → S.own ≡ own.Okd (okd.Accept path) ∷ mid.own
    → WentTo C R w s k head content S outcome now → outcome_is_told outcome next ≡ true → all_told R w (talks_to None (Some (own.Okd (okd.Accept path))) mid.own) ≡ true
    → all_told R w (talks_to None (begun_by next) now.own) ≡ true
to_told C R w s k head content path mid S Unowned now next kept own_is f told rest = absurd f
to_told C R w s k head content path mid S IsDown now next kept own_is f told rest = absurd f
to_told C R w s k head content path mid S IsMissed now next kept own_is f told rest =
    ap (λ (x : Seen). all_told R w (talks_to None (begun_by next) x.own)) f.1
    ∙ ap (λ (items : List Own). all_told R w (talks_to None (Some (own.Missed s k f.0)) items)) own_is
    ∙ rest
to_told C R w s k head content path mid S WantsMemory now next kept own_is f told rest =
    ap (λ (x : Seen). all_told R w (talks_to None (begun_by next) x.own)) f
    ∙ ap (λ (items : List Own). all_told R w (talks_to None (Some own.NoMemory) items)) own_is
    ∙ rest
to_told C R w s k head content path mid S (Spoke t j d) now next kept own_is f told rest =
    let went : Went C (record { worker = w; service = s; incarnation = k }) _ now = went_of C w s k f.3 f.4 d.due head content S now d kept.owns f.5 in
    let before : Before s (begun_by next) S.own (talks_to None (begun_by next) (went.taken ++ own.Dialog s ∷ S.own)) = talk_before s (begun_by next) went.taken S.own went.entries in
    let named : Spoke t j d ≡ Spoke s k d = ap (λ (u : ℕ). Spoke u j d) f.0 ∙ ap (λ (i : ℕ). Spoke s i d) f.1 in
    let here : crash_is_told (record { service = s; earlier = S.own; until = before.until; next = begun_by next }) (next_dialog R w s S.own) ≡ true
    = spoke_told R w s k d before.until S.own next f.2 (subst (λ (x : Outcome). outcome_is_told x next ≡ true) named told) in
    let behind : all_told R w (talks_to None (Some (own.Dialog s)) S.own) ≡ true
    = ap (λ (items : List Own). all_told R w (talks_to None (Some (own.Dialog s)) items)) own_is ∙ rest in
    ap (λ (items : List Own). all_told R w (talks_to None (begun_by next) items)) went.taken_is
    ∙ ap (all_told R w) before.is
    ∙ ap (λ (b : Bool). b && all_told R w (talks_to None (Some (own.Dialog s)) S.own)) here
    ∙ behind

follows_told : (C : Config) (R : Record) (w : ℕ) (v : Way) (head content path : List ℕ) (mid S : Seen) (outcome : Outcome) (now : Seen) (next : Option Piece) → Kept C w S
    → S.own ≡ own.Okd (okd.Accept path) ∷ mid.own → Follows C R w v head content S outcome now → outcome_is_told outcome next ≡ true
    → all_told R w (talks_to None (Some (own.Okd (okd.Accept path))) mid.own) ≡ true → all_told R w (talks_to None (begun_by next) now.own) ≡ true
follows_told C R w way.NotOwned head content path mid S outcome now next kept own_is f told rest =
    ap (λ (items : List Own). all_told R w (talks_to None (begun_by next) items)) (ap (λ (x : Seen). x.own) f.1 ∙ own_is) ∙ rest
follows_told C R w (way.Down s) head content path mid S outcome now next kept own_is f told rest =
    ap (λ (items : List Own). all_told R w (talks_to None (begun_by next) items)) (ap (λ (x : Seen). x.own) f.1 ∙ own_is) ∙ rest
follows_told C R w (way.To s k) head content path mid S outcome now next kept own_is f told rest = to_told C R w s k head content path mid S outcome now next kept own_is f told rest

-- ---- all pieces

lives_told : (C : Config) (R : Record) (w : ℕ) → length R.proxies ≡ length C.proxies → (pieces : List Piece) (now : Seen) (next : Option Piece) → Lives C R w pieces now → are_told next pieces ≡ true
    → all_told R w (talks_to None (begun_by next) now.own) ≡ true
lives_told C R w many [] now next l told = ap (λ (x : Seen). all_told R w (talks_to None (begun_by next) x.own)) l
lives_told C R w many (Accepted path head content outcome ∷ pieces) now next l told =
    let both : (outcome_is_told outcome next ≡ true) × (are_told (Some (Accepted path head content outcome)) pieces ≡ true)
    = both_true (outcome_is_told outcome next) (are_told (Some (Accepted path head content outcome)) pieces) told in
    let f : IsPiece C R w (Accepted path head content outcome) l.0 now = l.2 in
    let kept : Kept C w l.0 = lives_kept C R w many pieces l.0 l.1 in
    let first : Steps (length C.proxies) w l.0 f.1 = okd_steps (length C.proxies) w (okd.Accept path) l.0 f.0 f.1 f.2 in
    let then : Kept C w f.1 = record { owns = first.owns kept.owns; trimmed = first.trimmed kept.trimmed } in
    follows_told C R w (accept_verdict C f.0 path) head content path l.0 f.1 outcome now next then (ap (λ (x : Seen). x.own) f.2.1) f.3 both.0
    (lives_told C R w many pieces l.0 (Some (Accepted path head content outcome)) l.1 both.1)
lives_told C R w many (Published t content ∷ pieces) now next l told =
    ap (λ (x : Seen). all_told R w (talks_to None (begun_by next) x.own)) l.2.1.1 ∙ lives_told C R w many pieces l.0 (Some (Published t content)) l.1 told
lives_told C R w many (Launched event ∷ pieces) now next l told =
    ap (λ (x : Seen). all_told R w (talks_to None (begun_by next) x.own)) l.2.1.1 ∙ lives_told C R w many pieces l.0 (Some (Launched event)) l.1 told
lives_told C R w many (Wants ∷ pieces) now next l told =
    ap (λ (x : Seen). all_told R w (talks_to None (begun_by next) x.own)) l.2 ∙ lives_told C R w many pieces l.0 (Some Wants) l.1 told

pub crashes_told : (C : Config) (R : Record) (w : ℕ) (pieces : List Piece) (items : List Own) → length R.proxies ≡ length C.proxies → IsWorker C R w pieces items
    → are_told None pieces ≡ true → crashes_are_told R w items ≡ true
crashes_told C R w pieces items many x told = ap (crashes_are_told R w) x.items_are ∙ lives_told C R w many pieces x.seen None x.lives told

-- what is told of with nothing behind it is told of whatever comes
told_anyway : (piece : Piece) (next : Option Piece) → piece_is_told piece None ≡ true → piece_is_told piece next ≡ true
told_anyway (Accepted path head content Unowned) next told = refl
told_anyway (Accepted path head content IsDown) next told = refl
told_anyway (Accepted path head content IsMissed) next told = refl
told_anyway (Accepted path head content WantsMemory) next told = refl
told_anyway (Accepted path head content (Spoke s k d)) next told = by (is_crash d.end) told
  where
    by : (b : Bool) → (not b || false) ≡ true → (not b || tells s k next) ≡ true
    by true bad = let never : ⊥ = cc in absurd never
    by false fine = refl
told_anyway (Published t content) next told = refl
told_anyway (Launched event) next told = refl
told_anyway Wants next told = refl

told_with : (next : Option Piece) (pieces : List Piece) → are_told None pieces ≡ true → are_told next pieces ≡ true
told_with next [] told = refl
told_with next (piece ∷ pieces) told =
    let both : (piece_is_told piece None ≡ true) × (are_told (Some piece) pieces ≡ true) = both_true (piece_is_told piece None) (are_told (Some piece) pieces) told in
    rw (told_anyway piece next both.0) both.1

-- pieces that go on behind others
pub told_both : (next : Option Piece) (first then : List Piece) → are_told None first ≡ true → are_told next then ≡ true → are_told next (then ++ first) ≡ true
told_both next first [] f t = told_with next first f
told_both next first (piece ∷ then) f t =
    let both : (piece_is_told piece next ≡ true) × (are_told (Some piece) then ≡ true) = both_true (piece_is_told piece next) (are_told (Some piece) then) t in
    rw (both.0) (told_both (Some piece) first then f both.1)
