-- A run's journals and cells are lawful, and each dialog fits the entries that its worker made in it.
use Rattle.std.proofs.Common.{◌≡◌, ◌∙◌, ◌<◌, ◌≤◌, ℕ, suc, Bool, true, List, [], ◌∷◌, length, refl, sym, subst, arith, eq-eqb}
use Rattle.std.proofs.lemmas.Bool.{ne_eqb}
use Rattle.std.specs.declared.option.Option.{Option}
use mathlib.Core.Logic.{dite}
use native.Mathlib.Decide.{ℕ_discrete}
use Rattle.okws_base.specs.Runs.{Each}
use Rattle.okws_base.specs.declared.journal.Entry.{Entry}
use Rattle.okws_plan.specs.declared.configuration.Config.{Config}
use Rattle.okws_plan.specs.declared.event.ProxyEvent.{ProxyEvent}
use Rattle.monitor_model.specs.declared.record.Own.{Own}
use Rattle.monitor_model.specs.declared.record.Record.{Record}
use Rattle.monitor_model.specs.Columns.{ProxyLaw, WithinCount, faults}
use Rattle.monitor_model.specs.Lawful.{AllStandThere, IsFitting, JournalsAreLawful}
use Rattle.monitor_model.specs.Merged.{list_of}
use Rattle.monitor_model.specs.Outside.{Outside}
use Rattle.monitor_model.specs.Pieces.{is_accept_item, is_ordered, worker_list}
use Rattle.monitor_model.specs.Placed.{EachFrom}
use Rattle.monitor_model.specs.Talks.{talks}
use Rattle.site_run.specs.Closing.{AllKept}
use Rattle.site_run.specs.Journals.{AllProxies, KeepLaws}
use Rattle.site_making.specs.Keepers.{KeeperIs}
use Rattle.okws_serve.specs.Lived.{ListIsPieces}
use Rattle.okws_serve.specs.Connected.{rise}
use Rattle.okws_serve.specs.Told.{keeper_rise}
use Rattle.okws_serve.proofs.Connected.{within_rise}
use Rattle.okws_serve.proofs.Whole.{each_from, list_is}

-- it is told of each keeper, the first of which is that of proxy p, how much its count rose, by what the counts were when the run began
abbrev pub TellsFaults : (ℕ → Option ℕ) → (ℕ → ℕ) → ℕ → List KeeperIs → Type 0
TellsFaults told first p [] = Unit {0}
TellsFaults told first p (k ∷ ks) = (told p ≡ rise (first p) k.faults) × TellsFaults told first (suc p) ks

-- what is told of the keepers by their proxies is told of each
pub keepers_told : (told : ℕ → Option ℕ) (first : ℕ → ℕ) (n : ℕ) (ks : List KeeperIs) → ((p : ℕ) → n ≤ p → told p ≡ keeper_rise first n ks p) → TellsFaults told first n ks
keepers_told told first n [] h = tt
keepers_told told first n (k ∷ ks) h =
    (h n (omega arith) ∙ rw (eq-eqb n n refl) refl, keepers_told told first (suc n) ks (λ p l. h p (omega arith) ∙ rw (ne_eqb p n (later p l)) refl))
  where
    later : (p : ℕ) → suc n ≤ p → p ≡ n → ⊥
    later p l is = omega (arith, is, l)

each_law : (C : Config) (seed : List ℕ) (n p : ℕ) (Js : List (List (Entry ProxyEvent))) → AllProxies C seed n p Js → EachFrom (λ (p : ℕ) (J : List (Entry ProxyEvent)). ProxyLaw C seed p J) p Js
each_law C seed n p [] h = tt
each_law C seed n p (J ∷ Js) h = (h.0, each_law C seed n (suc p) Js h.2)

each_count : (C : Config) (steady : Bool) (told : ℕ → Option ℕ) (first : ℕ → ℕ) (p : ℕ) (ks : List KeeperIs) (Js : List (List (Entry ProxyEvent))) → AllKept C true steady first p ks Js → TellsFaults told first p ks
    → EachFrom (λ (p : ℕ) (J : List (Entry ProxyEvent)). WithinCount (told p) (faults J)) p Js
each_count C steady told first p [] [] h t = tt
each_count C steady told first p [] (J ∷ Js) h t = absurd h
each_count C steady told first p (k ∷ ks) [] h t = absurd h
each_count C steady told first p (k ∷ ks) (J ∷ Js) h t =
    (subst (λ (rose : Option ℕ). WithinCount rose (faults J)) (sym t.0) (within_rise (first p) k.faults (faults J) h.0.faults_are), each_count C steady told first (suc p) ks Js h.1 t.1)

pub are_lawful : (C : Config) (seed : List ℕ) (n doors : ℕ) (R : Record) (ended : ℕ → ℕ → Bool) (steady : Bool) (first : ℕ → ℕ) (ks : List KeeperIs) → length R.workers ≡ suc doors → KeepLaws C seed n R → EachFrom (λ s J. AllStandThere J) 0 R.cells
    → ((w : ℕ) → w < doors → ListIsPieces C R ended is_ordered w) → ListIsPieces C R ended is_accept_item doors → AllKept C true steady first 0 ks R.proxies
    → (T : Outside) → TellsFaults T.keepers first 0 ks → JournalsAreLawful C seed T R
are_lawful C seed n doors R ended steady first ks many laws stand at console kept T told =
    record {
      proxies_are = laws.proxies_are;
      cells_are = laws.cells_are;
      cells = stand;
      dialogs = each_from (λ (w : ℕ) (items : List Own). Each (IsFitting C R w) (talks items)) 0 R.workers []
          (λ s m l e. let same : m ≡ s = omega arith in subst (λ (w : ℕ). Each (IsFitting C R w) (talks (worker_list R s))) (sym same) (subst (λ (items : List Own). Each (IsFitting C R s) (talks items)) (list_is R s l) (fits s l)));
      launcher = laws.launcher;
      okd = laws.okd.0;
      proxies = each_law C seed n 0 R.proxies laws.proxies;
      pubd = laws.pubd.0;
      oklogd = laws.oklogd.0;
      faults_are = each_count C steady T.keepers first 0 ks R.proxies kept told;
    }
  where
    fits : (w : ℕ) → w < length R.workers → Each (IsFitting C R w) (talks (list_of R w))
    fits w l = dite (ℕ_discrete w doors)
        (λ is. subst (λ (k : ℕ). Each (IsFitting C R k) (talks (list_of R k))) (sym is) console.fits)
        (λ not. (at w (omega arith)).fits)
