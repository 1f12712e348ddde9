-- Where the first items of a worker's pieces lead on, its list does.
use Rattle.std.proofs.Common.{◌≡◌, ℕ, ◌+◌, ◌==◌, Bool, true, false, cond, List, [], ◌∷◌, ◌++◌, length, map, refl, sym, ap, ◌∙◌, subst, Option, Some, None, arith}
use Rattle.okws_base.specs.Past.{Grows}
use Rattle.okws_base.specs.declared.journal.Entry.{Entry}
use Rattle.okws_plan.specs.declared.configuration.Config.{Config}
use Rattle.okws_plan.specs.declared.event.LauncherEvent.{LauncherEvent}
use Rattle.okws_plan.specs.declared.event.OkdEvent.TheVariants as okd
use Rattle.okws_plan.specs.declared.event.PubdEvent.TheVariants as pubd
use Rattle.monitor_model.specs.declared.record.Own.{Own}
use Rattle.monitor_model.specs.declared.record.Own.TheVariants as own
use Rattle.monitor_model.specs.declared.record.Record.{Record}
use Rattle.monitor_model.specs.Causes.{is_launcher_item, item_after_nth, launcher_count}
use Rattle.monitor_model.specs.Launcher.{begun}
use Rattle.monitor_model.specs.Launches.{is_want}
use Rattle.monitor_model.specs.Seen.{Seen}
use Rattle.monitor_model.specs.Worker.{Piece, Accepted, Published, Launched, Wants, IsWorker, Lives}
use Rattle.monitor_model.proofs.Lives.{lives_kept}
use Rattle.worker_lives.specs.Listing.{first_item}
use Rattle.worker_lives.specs.Waiting.{LeadsSo, leads_in, own_lead}
use Rattle.worker_lives.proofs.Listed.{Adds, AllExtra, is_extra, piece_adds}
use Rattle.worker_lives.proofs.Waiting.{Gives, false_gives, leads_beside, own_more}

-- what stands in a piece behind its first item is no event at the launcher
pub extra_none : (item : Own) → is_extra item ≡ true → is_launcher_item item ≡ 0
extra_none (own.Proxy p e) is = refl
extra_none (own.Pubd e) is = refl
extra_none (own.Oklogd e) is = refl
extra_none (own.Okd e) is = refl
extra_none (own.Launcher e) is = let bad : false ≡ true = is in let never : ⊥ = cc in absurd never
extra_none (own.Dialog t) is = refl
extra_none (own.Missed t wanted other) is = refl
extra_none own.NoMemory is = refl
extra_none (own.Boot t k) is = refl
extra_none (own.Retired t) is = refl

extras_counted : (behind I : List Own) → AllExtra behind → launcher_count (behind ++ I) ≡ launcher_count I
extras_counted [] I extra = refl
extras_counted (i ∷ behind) I extra =
    let rest : launcher_count (behind ++ I) ≡ launcher_count I = extras_counted behind I extra.1 in let none : is_launcher_item i ≡ 0 = extra_none i extra.0 in omega (arith, rest, none)

-- the item behind the nth event is the same where what is no event comes on top, but for the item that comes next
record PassesTo (n : ℕ) (y : Option Own) (I K : List Own) : Type 0 where
  next : Option Own
  is : item_after_nth n y K ≡ item_after_nth n next I

passed : (n : ℕ) (y : Option Own) (i : Own) (I : List Own) → is_launcher_item i ≡ 0 → item_after_nth n y (i ∷ I) ≡ item_after_nth n (Some i) I
passed n y i I none = rw (none) refl

extras_passed : (n : ℕ) (y : Option Own) (behind I : List Own) → AllExtra behind → PassesTo n y I (behind ++ I)
extras_passed n y [] I extra = record { next = y; is = refl }
extras_passed n y (i ∷ behind) I extra =
    let rest : PassesTo n (Some i) I (behind ++ I) = extras_passed n (Some i) behind I extra.1 in
    record { next = rest.next; is = passed n y i (behind ++ I) (extra_none i extra.0) ∙ rest.is }

-- ---- piece by piece

-- want of memory stands behind the nth event in the one list where it does in the other; and both have as many
record Alike (I K : List Own) : Type 0 where
  counted : launcher_count I ≡ launcher_count K
  wants : (n : ℕ) (x y : Option Own) → Gives (is_want x) (is_want y) → Gives (is_want (item_after_nth n x I)) (is_want (item_after_nth n y K))

-- an event at the launcher on both
alike_launch : (e : LauncherEvent) (I K : List Own) → Alike I K → Alike (own.Launcher e ∷ I) (own.Launcher e ∷ K)
alike_launch e I K h = record {
  counted = ap (λ (m : ℕ). m + 1) h.counted;
  wants = λ n x y given. subst (λ (m : ℕ). Gives (is_want (item_after_nth n x (own.Launcher e ∷ I))) (is_want (cond (m == n) y (item_after_nth n (Some (own.Launcher e)) K)))) h.counted (both n x y given (launcher_count I == n));
}
  where
    both : (n : ℕ) (x y : Option Own) → Gives (is_want x) (is_want y) → (b : Bool) → Gives (is_want (cond b x (item_after_nth n (Some (own.Launcher e)) I))) (is_want (cond b y (item_after_nth n (Some (own.Launcher e)) K)))
    both n x y given true = given
    both n x y given false = h.wants n (Some (own.Launcher e)) (Some (own.Launcher e)) (λ g. g)

-- what is none, with others behind it
alike_other : (first : Own) (behind I K L : List Own) → is_launcher_item first ≡ 0 → AllExtra behind → L ≡ behind ++ first ∷ K → Alike I K → Alike (first ∷ I) L
alike_other first behind I K L none extra is h = subst (Alike (first ∷ I)) (sym is) (record {
  counted = let a : launcher_count I ≡ launcher_count K = h.counted in let b : launcher_count (behind ++ first ∷ K) ≡ launcher_count (first ∷ K) = extras_counted behind (first ∷ K) extra in omega (arith, a, b, none);
  wants = λ n x y given g.
      let p : PassesTo n y (first ∷ K) (behind ++ first ∷ K) = extras_passed n y behind (first ∷ K) extra in
      ap is_want (p.is ∙ passed n p.next first K none) ∙ h.wants n (Some first) (Some first) (λ w. w) (ap is_want (sym (passed n x first I none)) ∙ g);
})

alike_none : Alike [] []
alike_none = record { counted = refl; wants = λ n x y given. false_gives false }

pieces_alike : (C : Config) (R : Record) (w : ℕ) → length R.proxies ≡ length C.proxies → (pieces : List Piece) (now : Seen) → Lives C R w pieces now → Alike (map first_item pieces) now.own
pieces_alike C R w many [] now l = subst (λ (x : Seen). Alike [] x.own) (sym l) alike_none
pieces_alike C R w many (Launched e ∷ pieces) now l =
    subst (Alike (own.Launcher e ∷ map first_item pieces)) (sym (ap (λ (x : Seen). x.own) l.2.1.1)) (alike_launch e (map first_item pieces) l.0.own (pieces_alike C R w many pieces l.0 l.1))
pieces_alike C R w many (Accepted path head content outcome ∷ pieces) now l =
    let adds : Adds (own.Okd (okd.Accept path)) l.0 now = piece_adds C R w (Accepted path head content outcome) l.0 now (lives_kept C R w many pieces l.0 l.1) l.2 in
    alike_other (own.Okd (okd.Accept path)) adds.behind (map first_item pieces) l.0.own now.own refl adds.extra adds.own_is (pieces_alike C R w many pieces l.0 l.1)
pieces_alike C R w many (Published t content ∷ pieces) now l =
    let adds : Adds (own.Pubd (pubd.Publish t content)) l.0 now = piece_adds C R w (Published t content) l.0 now (lives_kept C R w many pieces l.0 l.1) l.2 in
    alike_other (own.Pubd (pubd.Publish t content)) adds.behind (map first_item pieces) l.0.own now.own refl adds.extra adds.own_is (pieces_alike C R w many pieces l.0 l.1)
pieces_alike C R w many (Wants ∷ pieces) now l =
    let adds : Adds own.NoMemory l.0 now = piece_adds C R w Wants l.0 now (lives_kept C R w many pieces l.0 l.1) l.2 in
    alike_other own.NoMemory adds.behind (map first_item pieces) l.0.own now.own refl adds.extra adds.own_is (pieces_alike C R w many pieces l.0 l.1)

-- ---- the whole list

pub pieces_lead : (C : Config) (R : Record) (w : ℕ) (pieces : List Piece) (items : List Own) (seen : List (Entry LauncherEvent)) → length R.proxies ≡ length C.proxies → IsWorker C R w pieces items → LeadsSo w false (map first_item pieces) seen
    → Grows w seen R.launcher → leads_in R w items ≡ true
pieces_lead C R w pieces items seen many x h grows =
    let alike : Alike (map first_item pieces) x.seen.own = pieces_alike C R w many pieces x.seen x.lives in
    let all : LeadsSo w false (map first_item pieces) (grows.0 ++ seen) = leads_beside w false (map first_item pieces) grows.0 seen grows.1 h in
    let there : own_lead w (begun R.launcher) false (map first_item pieces) None R.launcher ≡ true
    = subst (λ (J : List (Entry LauncherEvent)). own_lead w (begun J) false (map first_item pieces) None J ≡ true) (sym grows.2) all.lead in
    ap (leads_in R w) x.items_are
    ∙ own_more w (begun R.launcher) (begun R.launcher) false false (map first_item pieces) x.seen.own None None R.launcher (λ s. omega arith) (λ g. g) (λ n. alike.wants n None None (λ g. g)) (λ s g. g) there
