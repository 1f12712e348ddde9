-- What ended by a worker's pieces ended by its list, and what had its cause by them had it.
use Rattle.std.proofs.Common.{◌≡◌, inl, inr, ⊎_elim, ℕ, ◌==◌, Bool, true, false, cond, List, [], ◌∷◌, ◌++◌, length, map, refl, sym, ap, ◌∙◌, subst, Option, Some, None, eqb-true, arith}
use Rattle.std.specs.Prelude.{◌⊎◌, ◌&&◌, ◌||◌}
use Rattle.std.specs.List.{list_all, list_any}
use Rattle.std.proofs.lemmas.Bool.{and_from, and_parts, or_cases, or_left, or_right}
use Rattle.okws_plan.specs.declared.configuration.Config.{Config}
use Rattle.okws_plan.specs.declared.event.LauncherEvent.{LauncherEvent}
use Rattle.okws_plan.specs.declared.event.LauncherEvent.TheVariants.{Begun, Failed, Crashed, Dead, Asked}
use Rattle.okws_plan.specs.declared.event.OkdEvent.TheVariants as okd
use Rattle.okws_plan.specs.declared.event.PubdEvent.TheVariants as pubd
use Rattle.monitor_model.specs.declared.record.Dialog.{Dialog}
use Rattle.monitor_model.specs.declared.record.Own.{Own}
use Rattle.monitor_model.specs.declared.record.Own.TheVariants as own
use Rattle.monitor_model.specs.declared.record.Record.{Record}
use Rattle.monitor_model.specs.declared.verdict.Way.{Way}
use Rattle.monitor_model.specs.declared.verdict.Way.TheVariants as way
use Rattle.monitor_model.specs.Causes.{crash_was, crashes_were, ends_in_crash, is_crash, is_crash_of, is_launcher_item, item_was}
use Rattle.monitor_model.specs.Launches.{is_begun_item, is_failed_of, is_want, item_after_begun}
use Rattle.monitor_model.specs.Okd.{accept_verdict}
use Rattle.monitor_model.specs.Outside.{Outside}
use Rattle.monitor_model.specs.Pieces.{is_entry_of}
use Rattle.monitor_model.specs.Seen.{Seen}
use Rattle.monitor_model.specs.Worker.{Outcome, Unowned, IsDown, IsMissed, WantsMemory, Spoke, Piece, Accepted, Published, Launched, Wants, WentTo, Follows, IsPiece, Lives, IsWorker, next_dialog}
use Rattle.monitor_model.proofs.Lives.{Kept, lives_kept, went_of}
use Rattle.monitor_model.proofs.Went.{Steps, Went, okd_steps}
use Rattle.worker_lives.specs.Ending.{crashes_came, ends_crashed, event_came, event_ends, is_crash_there, is_failed_item, item_ends, launches_end, says_end}
use Rattle.worker_lives.specs.Listing.{first_item}
use Rattle.worker_lives.proofs.Listed.{Adds, AllExtra, piece_adds}
use Rattle.worker_lives.proofs.Told.{entry_kind}
use Rattle.worker_lives.proofs.Waited.{extra_none}

-- ---- how launches ended

-- what is no event at the launcher begins no launch
other_ends : (up : ℕ → ℕ → Bool) (next : Option Own) (item : Own) → is_launcher_item item ≡ 0 → item_ends up next item ≡ true
other_ends up next (own.Proxy p e) none = refl
other_ends up next (own.Pubd e) none = refl
other_ends up next (own.Oklogd e) none = refl
other_ends up next (own.Okd e) none = refl
other_ends up next (own.Launcher e) none = let never : ⊥ = omega (arith, none) in absurd never
other_ends up next (own.Dialog t) none = refl
other_ends up next (own.Missed t wanted other) none = refl
other_ends up next own.NoMemory none = refl
other_ends up next (own.Boot t k) none = refl
other_ends up next (own.Retired t) none = refl

extras_end : (up : ℕ → ℕ → Bool) (next : Option Own) (behind I : List Own) → AllExtra behind → ((then : Option Own) → launches_end up then I ≡ true) → launches_end up next (behind ++ I) ≡ true
extras_end up next [] I extra given = given next
extras_end up next (i ∷ behind) I extra given = rw (other_ends up next i (extra_none i extra.0)) (extras_end up (Some i) behind I extra.1 given)

-- a piece that is no event at the launcher
other_end : (up : ℕ → ℕ → Bool) (next : Option Own) (first : Own) (mid now : Seen) → is_launcher_item first ≡ 0 → Adds first mid now → launches_end up (Some first) mid.own ≡ true → launches_end up next now.own ≡ true
other_end up next first mid now none adds rest =
    ap (launches_end up next) adds.own_is ∙ extras_end up next adds.behind (first ∷ mid.own) adds.extra (λ then. rw (other_ends up then first none) rest)

pieces_end : (C : Config) (R : Record) (w : ℕ) → length R.proxies ≡ length C.proxies → (up : ℕ → ℕ → Bool) (pieces : List Piece) (now : Seen) (next : Option Own) → Lives C R w pieces now
    → launches_end up next (map first_item pieces) ≡ true → launches_end up next now.own ≡ true
pieces_end C R w many up [] now next l h = ap (λ (x : Seen). launches_end up next x.own) l
pieces_end C R w many up (Launched e ∷ pieces) now next l h =
    let both = and_parts (event_ends up next e) (launches_end up (Some (own.Launcher e)) (map first_item pieces)) h in
    ap (λ (x : Seen). launches_end up next x.own) l.2.1.1
    ∙ and_from (event_ends up next e) (launches_end up (Some (own.Launcher e)) l.0.own) both.0 (pieces_end C R w many up pieces l.0 (Some (own.Launcher e)) l.1 both.1)
pieces_end C R w many up (Accepted path head content outcome ∷ pieces) now next l h =
    other_end up next (own.Okd (okd.Accept path)) l.0 now refl (piece_adds C R w (Accepted path head content outcome) l.0 now (lives_kept C R w many pieces l.0 l.1) l.2)
    (pieces_end C R w many up pieces l.0 (Some (own.Okd (okd.Accept path))) l.1 h)
pieces_end C R w many up (Published t content ∷ pieces) now next l h =
    other_end up next (own.Pubd (pubd.Publish t content)) l.0 now refl (piece_adds C R w (Published t content) l.0 now (lives_kept C R w many pieces l.0 l.1) l.2)
    (pieces_end C R w many up pieces l.0 (Some (own.Pubd (pubd.Publish t content))) l.1 h)
pieces_end C R w many up (Wants ∷ pieces) now next l h =
    other_end up next own.NoMemory l.0 now refl (piece_adds C R w Wants l.0 now (lives_kept C R w many pieces l.0 l.1) l.2)
    (pieces_end C R w many up pieces l.0 (Some own.NoMemory) l.1 h)

pub launches_ended : (C : Config) (R : Record) (w : ℕ) (up : ℕ → ℕ → Bool) (pieces : List Piece) (items : List Own) → length R.proxies ≡ length C.proxies → IsWorker C R w pieces items
    → launches_end up None (map first_item pieces) ≡ true → launches_end up None items ≡ true
launches_ended C R w up pieces items many x h = ap (launches_end up None) x.items_are ∙ pieces_end C R w many up pieces x.seen None x.lives h

-- ---- what a list says of one launch

-- the item says that it failed
abbrev fails_it : ℕ → ℕ → Option Own → Bool
fails_it s k None = false
fails_it s k (Some item) = is_failed_item s k item

-- it failed by the items or the one behind them, or NoMemory is behind its Begun
abbrev HasEnded : ℕ → ℕ → Option Own → List Own → Type 0
HasEnded s k next items = ((fails_it s k next || list_any (is_failed_item s k) items) ≡ true) ⊎ (is_want (item_after_begun s k next items) ≡ true)

said_ended : (s k : ℕ) (next : Option Own) (rest : Bool) → says_end s k next ≡ true → ((fails_it s k next || rest) ≡ true) ⊎ (is_want next ≡ true)
said_ended s k (Some (own.Launcher e)) rest says = inl (or_left (is_failed_of s k e) rest says)
said_ended s k (Some own.NoMemory) rest says = inr refl
said_ended s k (Some (own.Proxy p e)) rest says = let bad : false ≡ true = says in let never : ⊥ = cc in absurd never
said_ended s k (Some (own.Pubd e)) rest says = let bad : false ≡ true = says in let never : ⊥ = cc in absurd never
said_ended s k (Some (own.Oklogd e)) rest says = let bad : false ≡ true = says in let never : ⊥ = cc in absurd never
said_ended s k (Some (own.Okd e)) rest says = let bad : false ≡ true = says in let never : ⊥ = cc in absurd never
said_ended s k (Some (own.Dialog t)) rest says = let bad : false ≡ true = says in let never : ⊥ = cc in absurd never
said_ended s k (Some (own.Missed t wanted other)) rest says = let bad : false ≡ true = says in let never : ⊥ = cc in absurd never
said_ended s k (Some (own.Boot t j)) rest says = let bad : false ≡ true = says in let never : ⊥ = cc in absurd never
said_ended s k (Some (own.Retired t)) rest says = let bad : false ≡ true = says in let never : ⊥ = cc in absurd never
said_ended s k None rest says = let bad : false ≡ true = says in let never : ⊥ = cc in absurd never

-- the Begun itself
begun_says : (up : ℕ → ℕ → Bool) (s k : ℕ) (next : Option Own) (item : Own) → is_begun_item s k item ≡ true → item_ends up next item ≡ true → up s k ≡ false → says_end s k next ≡ true
begun_says up s k next (own.Launcher (Begun t j)) is ends down =
    let both = and_parts (t == s) (j == k) is in
    ⊎_elim
    (λ came. let never : ⊥ = (let c : up s k ≡ true = subst (λ (i : ℕ). up s i ≡ true) (eqb-true j k both.1) (subst (λ (u : ℕ). up u j ≡ true) (eqb-true t s both.0) came) in cc) in absurd never)
    (λ says. subst (λ (i : ℕ). says_end s i next ≡ true) (eqb-true j k both.1) (subst (λ (u : ℕ). says_end u j next ≡ true) (eqb-true t s both.0) says))
    (or_cases (up t j) (says_end t j next) ends)
begun_says up s k next (own.Launcher (Failed t j)) is ends down = let bad : false ≡ true = is in let never : ⊥ = cc in absurd never
begun_says up s k next (own.Launcher (Crashed t j)) is ends down = let bad : false ≡ true = is in let never : ⊥ = cc in absurd never
begun_says up s k next (own.Launcher (Dead t n)) is ends down = let bad : false ≡ true = is in let never : ⊥ = cc in absurd never
begun_says up s k next (own.Launcher (Asked t)) is ends down = let bad : false ≡ true = is in let never : ⊥ = cc in absurd never
begun_says up s k next (own.Proxy p e) is ends down = let bad : false ≡ true = is in let never : ⊥ = cc in absurd never
begun_says up s k next (own.Pubd e) is ends down = let bad : false ≡ true = is in let never : ⊥ = cc in absurd never
begun_says up s k next (own.Oklogd e) is ends down = let bad : false ≡ true = is in let never : ⊥ = cc in absurd never
begun_says up s k next (own.Okd e) is ends down = let bad : false ≡ true = is in let never : ⊥ = cc in absurd never
begun_says up s k next (own.Dialog t) is ends down = let bad : false ≡ true = is in let never : ⊥ = cc in absurd never
begun_says up s k next (own.Missed t wanted other) is ends down = let bad : false ≡ true = is in let never : ⊥ = cc in absurd never
begun_says up s k next own.NoMemory is ends down = let bad : false ≡ true = is in let never : ⊥ = cc in absurd never
begun_says up s k next (own.Boot t j) is ends down = let bad : false ≡ true = is in let never : ⊥ = cc in absurd never
begun_says up s k next (own.Retired t) is ends down = let bad : false ≡ true = is in let never : ⊥ = cc in absurd never

begun_ended : (up : ℕ → ℕ → Bool) (s k : ℕ) (next : Option Own) (items : List Own) → launches_end up next items ≡ true → list_any (is_begun_item s k) items ≡ true → up s k ≡ false → HasEnded s k next items
begun_ended up s k next [] h any down = let bad : false ≡ true = any in let never : ⊥ = cc in absurd never
begun_ended up s k next (item ∷ items) h any down =
    let ends = and_parts (item_ends up next item) (launches_end up (Some item) items) h in
    at ends.0 (λ behind. begun_ended up s k (Some item) items ends.1 behind down) (is_begun_item s k item) refl
  where
    -- whether the newest item is its Begun
    EndsBy : Bool → Type 0
    EndsBy b = ((fails_it s k next || list_any (is_failed_item s k) (item ∷ items)) ≡ true) ⊎ (is_want (cond b next (item_after_begun s k (Some item) items)) ≡ true)

    at : item_ends up next item ≡ true → (list_any (is_begun_item s k) items ≡ true → HasEnded s k (Some item) items) → (b : Bool) → is_begun_item s k item ≡ b → HasEnded s k next (item ∷ items)
    at here before true is = subst EndsBy (sym is) (said_ended s k next (list_any (is_failed_item s k) (item ∷ items)) (begun_says up s k next item is here down))
    at here before false is = subst EndsBy (sym is)
        (⊎_elim (λ failed. inl (or_right (fails_it s k next) (list_any (is_failed_item s k) (item ∷ items)) failed)) (λ wants. inr wants)
        (before (subst (λ (b : Bool). (b || list_any (is_begun_item s k) items) ≡ true) is any)))

pub beguns_ended : (up : ℕ → ℕ → Bool) (s k : ℕ) (items : List Own) → launches_end up None items ≡ true → list_any (is_begun_item s k) items ≡ true → up s k ≡ false
    → (list_any (is_failed_item s k) items ≡ true) ⊎ (is_want (item_after_begun s k None items) ≡ true)
beguns_ended up s k items h any down = begun_ended up s k None items h any down

-- ---- why crashes were entered

-- the entries of a dialog stand between it and what comes
entries_pass : (R : Record) (w s k t : ℕ) (taken earlier : List Own) → list_all (is_entry_of t) taken ≡ true → ends_in_crash R w s k (taken ++ earlier) ≡ ends_in_crash R w s k earlier
entries_pass R w s k t [] earlier entries = refl
entries_pass R w s k t (item ∷ taken) earlier entries =
    let both = and_parts (is_entry_of t item) (list_all (is_entry_of t) taken) entries in
    rw (entry_kind t item both.0) (entries_pass R w s k t taken earlier both.1)

-- a dialog with incarnation j of t, which is one with k of s and a crash
dialog_crashed : (R : Record) (w s k t j : ℕ) (d : Dialog) (items : List Own) → next_dialog R w t items ≡ Some (j, d) → ((t == s) && ((j == k) && is_crash d.end)) ≡ true → ends_in_crash R w s k (own.Dialog t ∷ items) ≡ true
dialog_crashed R w s k t j d items there is =
    let both = and_parts (t == s) ((j == k) && is_crash d.end) is in
    let here : next_dialog R w s items ≡ Some (j, d) = subst (λ (u : ℕ). next_dialog R w u items ≡ Some (j, d)) (eqb-true t s both.0) there in
    and_from (t == s) (is_crash_of k (next_dialog R w s items)) both.0 (ap (is_crash_of k) here ∙ both.1)

to_crashed : (C : Config) (R : Record) (w s k t j : ℕ) (head content : List ℕ) (S : Seen) (outcome : Outcome) (now : Seen) → Kept C w S → WentTo C R w t j head content S outcome now
    → is_crash_there s k outcome ≡ true → ends_in_crash R w s k now.own ≡ true
to_crashed C R w s k t j head content S Unowned now kept f is = absurd f
to_crashed C R w s k t j head content S IsDown now kept f is = absurd f
to_crashed C R w s k t j head content S IsMissed now kept f is = let bad : false ≡ true = is in let never : ⊥ = cc in absurd never
to_crashed C R w s k t j head content S WantsMemory now kept f is = let bad : false ≡ true = is in let never : ⊥ = cc in absurd never
to_crashed C R w s k t j head content S (Spoke u i d) now kept f is =
    let went : Went C (record { worker = w; service = t; incarnation = j }) _ now = went_of C w t j f.3 f.4 d.due head content S now d kept.owns f.5 in
    let named : Spoke u i d ≡ Spoke t j d = ap (λ (x : ℕ). Spoke x i d) f.0 ∙ ap (λ (x : ℕ). Spoke t x d) f.1 in
    ap (ends_in_crash R w s k) went.taken_is
    ∙ entries_pass R w s k t went.taken (own.Dialog t ∷ S.own) went.entries
    ∙ dialog_crashed R w s k t j d S.own f.2 (subst (λ (x : Outcome). is_crash_there s k x ≡ true) named is)

nothing_crashed : (s k : ℕ) (outcome other : Outcome) → outcome ≡ other → is_crash_there s k other ≡ false → is_crash_there s k outcome ≡ true → ⊥
nothing_crashed s k outcome other same none is = let c : is_crash_there s k outcome ≡ false = ap (is_crash_there s k) same ∙ none in let never : ⊥ = cc in never

follows_crashed : (C : Config) (R : Record) (w s k : ℕ) (v : Way) (head content : List ℕ) (S : Seen) (outcome : Outcome) (now : Seen) → Kept C w S → Follows C R w v head content S outcome now
    → is_crash_there s k outcome ≡ true → ends_in_crash R w s k now.own ≡ true
follows_crashed C R w s k way.NotOwned head content S outcome now kept f is = absurd (nothing_crashed s k outcome Unowned f.0 refl is)
follows_crashed C R w s k (way.Down t) head content S outcome now kept f is = absurd (nothing_crashed s k outcome IsDown f.0 refl is)
follows_crashed C R w s k (way.To t j) head content S outcome now kept f is = to_crashed C R w s k t j head content S outcome now kept f is

pieces_crashed : (C : Config) (R : Record) (w s k : ℕ) → length R.proxies ≡ length C.proxies → (pieces : List Piece) (now : Seen) → Lives C R w pieces now → ends_crashed s k pieces ≡ true → ends_in_crash R w s k now.own ≡ true
pieces_crashed C R w s k many [] now l is = let bad : false ≡ true = is in let never : ⊥ = cc in absurd never
pieces_crashed C R w s k many (Accepted path head content outcome ∷ pieces) now l is =
    let f : IsPiece C R w (Accepted path head content outcome) l.0 now = l.2 in
    let kept : Kept C w l.0 = lives_kept C R w many pieces l.0 l.1 in
    let first : Steps (length C.proxies) w l.0 f.1 = okd_steps (length C.proxies) w (okd.Accept path) l.0 f.0 f.1 f.2 in
    let then : Kept C w f.1 = record { owns = first.owns kept.owns; trimmed = first.trimmed kept.trimmed } in
    follows_crashed C R w s k (accept_verdict C f.0 path) head content f.1 outcome now then f.3 is
pieces_crashed C R w s k many (Published t content ∷ pieces) now l is = let bad : false ≡ true = is in let never : ⊥ = cc in absurd never
pieces_crashed C R w s k many (Launched e ∷ pieces) now l is = let bad : false ≡ true = is in let never : ⊥ = cc in absurd never
pieces_crashed C R w s k many (Wants ∷ pieces) now l is = let bad : false ≡ true = is in let never : ⊥ = cc in absurd never

-- what is no event at the launcher needs no cause
other_was : (T : Outside) (R : Record) (w : ℕ) (items : List Own) (item : Own) → is_launcher_item item ≡ 0 → item_was T R w items item ≡ true
other_was T R w items (own.Proxy p e) none = refl
other_was T R w items (own.Pubd e) none = refl
other_was T R w items (own.Oklogd e) none = refl
other_was T R w items (own.Okd e) none = refl
other_was T R w items (own.Launcher e) none = let never : ⊥ = omega (arith, none) in absurd never
other_was T R w items (own.Dialog t) none = refl
other_was T R w items (own.Missed t wanted other) none = refl
other_was T R w items own.NoMemory none = refl
other_was T R w items (own.Boot t k) none = refl
other_was T R w items (own.Retired t) none = refl

extras_were : (T : Outside) (R : Record) (w : ℕ) (behind I : List Own) → AllExtra behind → crashes_were T R w I ≡ true → crashes_were T R w (behind ++ I) ≡ true
extras_were T R w [] I extra given = given
extras_were T R w (i ∷ behind) I extra given = rw (other_was T R w (behind ++ I) i (extra_none i extra.0)) (extras_were T R w behind I extra.1 given)

others_were : (T : Outside) (R : Record) (w : ℕ) (first : Own) (mid now : Seen) → is_launcher_item first ≡ 0 → Adds first mid now → crashes_were T R w mid.own ≡ true → crashes_were T R w now.own ≡ true
others_were T R w first mid now none adds rest =
    ap (crashes_were T R w) adds.own_is ∙ extras_were T R w adds.behind (first ∷ mid.own) adds.extra (rw (other_was T R w mid.own first none) rest)

event_was : (T : Outside) (R : Record) (w : ℕ) (ended : ℕ → ℕ → Bool) (before : List Piece) (items : List Own) → ((s k : ℕ) → ended s k ≡ true → T.ended s k ≡ true) → ((s k : ℕ) → ends_crashed s k before ≡ true → ends_in_crash R w s k items ≡ true)
    → (e : LauncherEvent) → event_came ended before e ≡ true → crash_was T R w items e ≡ true
event_was T R w ended before items tells crashed (Crashed s k) came =
    ⊎_elim (λ has. or_left (T.ended s k) (ends_in_crash R w s k items) (tells s k has)) (λ is. or_right (T.ended s k) (ends_in_crash R w s k items) (crashed s k is))
    (or_cases (ended s k) (ends_crashed s k before) came)
event_was T R w ended before items tells crashed (Begun s k) came = refl
event_was T R w ended before items tells crashed (Failed s k) came = refl
event_was T R w ended before items tells crashed (Dead s n) came = refl
event_was T R w ended before items tells crashed (Asked s) came = refl

pieces_were : (C : Config) (T : Outside) (R : Record) (w : ℕ) (ended : ℕ → ℕ → Bool) → length R.proxies ≡ length C.proxies → ((s k : ℕ) → ended s k ≡ true → T.ended s k ≡ true) → (pieces : List Piece) (now : Seen) → Lives C R w pieces now
    → crashes_came ended pieces ≡ true → crashes_were T R w now.own ≡ true
pieces_were C T R w ended many tells [] now l came = ap (λ (x : Seen). crashes_were T R w x.own) l
pieces_were C T R w ended many tells (Launched e ∷ pieces) now l came =
    let both = and_parts (event_came ended pieces e) (crashes_came ended pieces) came in
    ap (λ (x : Seen). crashes_were T R w x.own) l.2.1.1
    ∙ and_from (crash_was T R w l.0.own e) (crashes_were T R w l.0.own) (event_was T R w ended pieces l.0.own tells (λ s k is. pieces_crashed C R w s k many pieces l.0 l.1 is) e both.0)
    (pieces_were C T R w ended many tells pieces l.0 l.1 both.1)
pieces_were C T R w ended many tells (Accepted path head content outcome ∷ pieces) now l came =
    others_were T R w (own.Okd (okd.Accept path)) l.0 now refl (piece_adds C R w (Accepted path head content outcome) l.0 now (lives_kept C R w many pieces l.0 l.1) l.2) (pieces_were C T R w ended many tells pieces l.0 l.1 came)
pieces_were C T R w ended many tells (Published t content ∷ pieces) now l came =
    others_were T R w (own.Pubd (pubd.Publish t content)) l.0 now refl (piece_adds C R w (Published t content) l.0 now (lives_kept C R w many pieces l.0 l.1) l.2) (pieces_were C T R w ended many tells pieces l.0 l.1 came)
pieces_were C T R w ended many tells (Wants ∷ pieces) now l came =
    others_were T R w own.NoMemory l.0 now refl (piece_adds C R w Wants l.0 now (lives_kept C R w many pieces l.0 l.1) l.2) (pieces_were C T R w ended many tells pieces l.0 l.1 came)

pub crashes_had_causes : (C : Config) (T : Outside) (R : Record) (w : ℕ) (ended : ℕ → ℕ → Bool) (pieces : List Piece) (items : List Own) → length R.proxies ≡ length C.proxies → IsWorker C R w pieces items
    → ((s k : ℕ) → ended s k ≡ true → T.ended s k ≡ true) → crashes_came ended pieces ≡ true → crashes_were T R w items ≡ true
crashes_had_causes C T R w ended pieces items many x tells came = ap (crashes_were T R w) x.items_are ∙ pieces_were C T R w ended many tells pieces x.seen x.lives came
