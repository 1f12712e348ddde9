-- The visits of a worker's list are those of the pieces by which it lived.
use Rattle.std.proofs.Common.{◌≡◌, ℕ, Bool, true, false, List, [], ◌∷◌, ◌++◌, refl, sym, ap, ◌∙◌, length, Option, Some, None}
use Rattle.std.specs.List.{list_all}
use Rattle.std.specs.Prelude.{◌&&◌}
use Rattle.okws_plan.specs.declared.configuration.Config.{Config}
use Rattle.okws_plan.specs.declared.event.OkdEvent.TheVariants as okd
use Rattle.okws_plan.specs.declared.event.PubdEvent.TheVariants as pubd
use Rattle.monitor_model.specs.declared.record.Own.{Own}
use Rattle.monitor_model.specs.declared.record.Own.TheVariants as own
use Rattle.monitor_model.specs.declared.record.Record.{Record}
use Rattle.monitor_model.specs.declared.verdict.Way.{Way}
use Rattle.monitor_model.specs.declared.verdict.Way.TheVariants as way
use Rattle.monitor_model.specs.Connections.{Visit, outcome_of, spoke, starved_after, visit_of, visits_to}
use Rattle.monitor_model.specs.Connections as visit
use Rattle.monitor_model.specs.Okd.{accept_verdict}
use Rattle.monitor_model.specs.Pieces.{Mode, Free, Due, Speaking, Broken, mode, way_at, is_whole, is_entry_of}
use Rattle.monitor_model.specs.Seen.{Seen}
use Rattle.monitor_model.specs.Tied.{piece_visit, piece_visits}
use Rattle.monitor_model.specs.Worker.{Outcome, Unowned, IsDown, IsMissed, WantsMemory, Spoke, Piece, Accepted, Published, Launched, Wants, WentTo, Follows, IsPiece, Lives, IsWorker, next_dialog}
use Rattle.monitor_model.proofs.Lives.{Kept, all_of, went_of, follows_steps, piece_steps, lives_kept, way_placed, left_since}
use Rattle.monitor_model.proofs.Lived.{Fits, accept_mode, lives_fit}
use Rattle.monitor_model.proofs.Went.{Since, Steps, since_then, okd_steps}

-- an entry of a dialog is no visit
entry_visits : (C : Config) (R : Record) (w s : ℕ) (items : List Own) (item : Own) (next : Option Own) → is_entry_of s item ≡ true → visit_of C R w items item next ≡ []
entry_visits C R w s items (own.Proxy p e) next is = refl
entry_visits C R w s items (own.Pubd e) next is = refl
entry_visits C R w s items (own.Oklogd e) next is = refl
entry_visits C R w s items (own.Okd e) next is = let bad : false ≡ true = is in let never : ⊥ = cc in absurd never
entry_visits C R w s items (own.Launcher e) next is = refl
entry_visits C R w s items (own.Dialog t) next is = refl
entry_visits C R w s items (own.Missed t wanted other) next is = refl
entry_visits C R w s items own.NoMemory next is = let bad : false ≡ true = is in let never : ⊥ = cc in absurd never
entry_visits C R w s items (own.Boot t k) next is = refl
entry_visits C R w s items (own.Retired t) next is = refl

taken_visits : (C : Config) (R : Record) (w s : ℕ) (next : Option Own) (taken items : List Own) (all : List Visit) → list_all (is_entry_of s) taken ≡ true
    → ((x : Option Own) → visits_to C R w x (own.Dialog s ∷ items) ≡ all) → visits_to C R w next (taken ++ own.Dialog s ∷ items) ≡ all
taken_visits C R w s next [] items all entries rest = rest next
taken_visits C R w s next (item ∷ taken) items all entries rest = by (is_entry_of s item) (taken_visits C R w s (Some item) taken items all) refl entries
  where
    by : (b : Bool) → (list_all (is_entry_of s) taken ≡ true → ((x : Option Own) → visits_to C R w x (own.Dialog s ∷ items) ≡ all) → visits_to C R w (Some item) (taken ++ own.Dialog s ∷ items) ≡ all)
        → is_entry_of s item ≡ b → (b && list_all (is_entry_of s) taken) ≡ true → visits_to C R w next (item ∷ (taken ++ own.Dialog s ∷ items)) ≡ all
    by true before entry more = rw (entry_visits C R w s (taken ++ own.Dialog s ∷ items) item next entry) (before more rest)
    by false before entry more = let bad : false ≡ true = more in let never : ⊥ = cc in absurd never

-- want of memory where no piece is open
starved_visits : (m : Mode) → is_whole m ≡ true → starved_after m ≡ visit.Starved ∷ []
starved_visits Free whole = refl
starved_visits (Due s k) whole = let bad : false ≡ true = whole in let never : ⊥ = cc in absurd never
starved_visits (Speaking s) whole = refl
starved_visits Broken whole = refl

to_visits : (C : Config) (R : Record) (w s k : ℕ) (head content path : List ℕ) (mid S : Seen) (outcome : Outcome) (now : Seen) (all : List Visit) → Kept C w S → S.own ≡ own.Okd (okd.Accept path) ∷ mid.own
    → Fits C R w mid.own → way_at C R w mid.own path ≡ way.To s k → ((next : Option Own) → visits_to C R w next mid.own ≡ all) → WentTo C R w s k head content S outcome now
    → (next : Option Own) → visits_to C R w next now.own ≡ visit.Accepted path outcome ∷ all
to_visits C R w s k head content path mid S Unowned now all kept own_is fits goes rest f next = absurd f
to_visits C R w s k head content path mid S IsDown now all kept own_is fits goes rest f next = absurd f
to_visits C R w s k head content path mid S IsMissed now all kept own_is fits goes rest f next =
    ap (λ (x : Seen). visits_to C R w next x.own) f.1 ∙ ap (λ (items : List Own). visits_to C R w (Some (own.Missed s k f.0)) items) own_is
    ∙ rw (goes) (ap (λ (more : List Visit). visit.Accepted path IsMissed ∷ more) (rest (Some (own.Okd (okd.Accept path)))))
to_visits C R w s k head content path mid S WantsMemory now all kept own_is fits goes rest f next =
    let due : mode C R w S.own ≡ Due s k = ap (mode C R w) own_is ∙ accept_mode C R w path mid.own (way.To s k) fits goes in
    ap (λ (x : Seen). visits_to C R w next x.own) f
    ∙ ap (λ (m : Mode). starved_after m ++ visits_to C R w (Some own.NoMemory) S.own) due
    ∙ ap (λ (items : List Own). visits_to C R w (Some own.NoMemory) items) own_is
    ∙ rw (goes) (ap (λ (more : List Visit). visit.Accepted path WantsMemory ∷ more) (rest (Some (own.Okd (okd.Accept path)))))
to_visits C R w s k head content path mid S (Spoke t j d) now all kept own_is fits goes rest f next =
    let went = went_of C w s k f.3 f.4 d.due head content S now d kept.owns f.5 in
    let there : next_dialog R w s (own.Okd (okd.Accept path) ∷ mid.own) ≡ Some (k, d) = ap (next_dialog R w s) (sym own_is) ∙ f.2 in
    let accepted_visit : visits_to C R w (Some (own.Dialog s)) (own.Okd (okd.Accept path) ∷ mid.own) ≡ visit.Accepted path (Spoke s k d) ∷ all
    = rw (goes, there) (ap (λ (more : List Visit). visit.Accepted path (Spoke s k d) ∷ more) (rest (Some (own.Okd (okd.Accept path))))) in
    let named : visit.Accepted path (Spoke s k d) ∷ all ≡ visit.Accepted path (Spoke t j d) ∷ all
    = ap (λ (u : ℕ). visit.Accepted path (Spoke u k d) ∷ all) (sym f.0) ∙ ap (λ (i : ℕ). visit.Accepted path (Spoke t i d) ∷ all) (sym f.1) in
    ap (visits_to C R w next) went.taken_is
    ∙ taken_visits C R w s next went.taken S.own (visit.Accepted path (Spoke t j d) ∷ all) went.entries
    (λ x. ap (visits_to C R w (Some (own.Dialog s))) own_is ∙ accepted_visit ∙ named)

follows_visits : (C : Config) (R : Record) (w : ℕ) (v : Way) (head content path : List ℕ) (mid S : Seen) (outcome : Outcome) (now : Seen) (all : List Visit) → Kept C w S
    → S.own ≡ own.Okd (okd.Accept path) ∷ mid.own → Fits C R w mid.own → way_at C R w mid.own path ≡ v → ((next : Option Own) → visits_to C R w next mid.own ≡ all) → Follows C R w v head content S outcome now
    → (next : Option Own) → visits_to C R w next now.own ≡ visit.Accepted path outcome ∷ all
follows_visits C R w way.NotOwned head content path mid S outcome now all kept own_is fits goes rest f next =
    ap (visits_to C R w next) (ap (λ (x : Seen). x.own) f.1 ∙ own_is) ∙ rw (goes, f.0) (ap (λ (more : List Visit). visit.Accepted path Unowned ∷ more) (rest (Some (own.Okd (okd.Accept path)))))
follows_visits C R w (way.Down s) head content path mid S outcome now all kept own_is fits goes rest f next =
    ap (visits_to C R w next) (ap (λ (x : Seen). x.own) f.1 ∙ own_is) ∙ rw (goes, f.0) (ap (λ (more : List Visit). visit.Accepted path IsDown ∷ more) (rest (Some (own.Okd (okd.Accept path)))))
follows_visits C R w (way.To s k) head content path mid S outcome now all kept own_is fits goes rest f next =
    to_visits C R w s k head content path mid S outcome now all kept own_is fits goes rest f next

piece_has_visits : (C : Config) (R : Record) (w : ℕ) (piece : Piece) (mid now : Seen) (all : List Visit) → Kept C w mid → Fits C R w mid.own → Since now (all_of R) → ((next : Option Own) → visits_to C R w next mid.own ≡ all)
    → IsPiece C R w piece mid now → (next : Option Own) → visits_to C R w next now.own ≡ piece_visit piece ++ all
piece_has_visits C R w (Accepted path head content outcome) mid now all kept fits from_now rest f next =
    let first : Steps (length C.proxies) w mid f.1 = okd_steps (length C.proxies) w (okd.Accept path) mid f.0 f.1 f.2 in
    let then : Kept C w f.1 = record { owns = first.owns kept.owns; trimmed = first.trimmed kept.trimmed } in
    let behind : Steps (length C.proxies) w f.1 now = follows_steps C R w (accept_verdict C f.0 path) head content f.1 outcome now then.owns f.3 in
    let goes : way_at C R w mid.own path ≡ accept_verdict C f.0 path = way_placed C R w path mid f.1 f.0 kept f.2 (since_then f.1 now (all_of R) behind.since from_now) in
    follows_visits C R w (accept_verdict C f.0 path) head content path mid f.1 outcome now all then (ap (λ (x : Seen). x.own) f.2.1) fits goes rest f.3 next
piece_has_visits C R w (Published t content) mid now all kept fits from_now rest f next = ap (λ (x : Seen). visits_to C R w next x.own) f.1.1 ∙ rest (Some (own.Pubd (pubd.Publish t content)))
piece_has_visits C R w (Launched event) mid now all kept fits from_now rest f next = ap (λ (x : Seen). visits_to C R w next x.own) f.1.1 ∙ rest (Some (own.Launcher event))
piece_has_visits C R w Wants mid now all kept fits from_now rest f next =
    ap (λ (x : Seen). visits_to C R w next x.own) f
    ∙ ap (λ (first : List Visit). first ++ visits_to C R w (Some own.NoMemory) mid.own) (starved_visits (mode C R w mid.own) fits.whole)
    ∙ ap (λ (more : List Visit). visit.Starved ∷ more) (rest (Some own.NoMemory))

lives_have_visits : (C : Config) (R : Record) (w : ℕ) → length R.proxies ≡ length C.proxies → (pieces : List Piece) (now : Seen) → Lives C R w pieces now → Since now (all_of R)
    → (next : Option Own) → visits_to C R w next now.own ≡ piece_visits pieces
lives_have_visits C R w many [] now l from_now next = ap (λ (x : Seen). visits_to C R w next x.own) l
lives_have_visits C R w many (piece ∷ pieces) now l from_now next =
    let kept : Kept C w l.0 = lives_kept C R w many pieces l.0 l.1 in
    let steps : Steps (length C.proxies) w l.0 now = piece_steps C R w piece l.0 now kept.owns l.2 in
    let before : Since l.0 (all_of R) = since_then l.0 now (all_of R) steps.since from_now in
    piece_has_visits C R w piece l.0 now (piece_visits pieces) kept (lives_fit C R w many pieces l.0 l.1 before) from_now (lives_have_visits C R w many pieces l.0 l.1 before) l.2 next

pub lives_are_visits : (C : Config) (R : Record) (w : ℕ) (pieces : List Piece) (items : List Own) → length R.proxies ≡ length C.proxies → IsWorker C R w pieces items
    → visits_to C R w None items ≡ piece_visits pieces
lives_are_visits C R w pieces items many x =
    let kept : Kept C w x.seen = lives_kept C R w many pieces x.seen x.lives in
    ap (visits_to C R w None) x.items_are ∙ lives_have_visits C R w many pieces x.seen x.lives (left_since C R w x.seen (kept.owns.many ∙ sym many) x.left) None
