-- Isolation between two runs of servers.
use Rattle.std.proofs.Common.{◌≡◌, ◌+◌, ◌≤◌, ℕ, zero, suc, List, [], ◌∷◌, Option, Some, None, get_or, length, sym, subst, arith}
use Rattle.okws_base.specs.Runs.{Each}
use Rattle.okws_base.specs.declared.journal.Entry.{Entry}
use Rattle.okws_plan.specs.declared.configuration.Config.{Config}
use Rattle.okws_plan.specs.declared.event.ProxyEvent.{ProxyEvent}
use Rattle.monitor_model.specs.declared.record.CellEvent.{CellEvent}
use Rattle.monitor_model.specs.declared.record.Connection.{Connection}
use Rattle.monitor_model.specs.declared.record.Own.{Own}
use Rattle.monitor_model.specs.declared.record.Record.{Record}
use Rattle.monitor_model.specs.declared.sent.Sent.{Sent}
use Rattle.monitor_model.specs.Cell.{CellLaw}
use Rattle.monitor_model.specs.Columns.{ProxyLaw, WithinCount, faults}
use Rattle.monitor_model.specs.Launcher.{begun}
use Rattle.monitor_model.specs.Legal.{EventShownFits, IsLawful}
use Rattle.monitor_model.specs.Legality.{IsLegal}
use Rattle.monitor_model.specs.Merged.{IsMerged, IsOwn, cell_past}
use Rattle.monitor_model.specs.Outside.{Outside}
use Rattle.monitor_model.specs.Placed.{EachFrom}
use Rattle.monitor_model.specs.Seen.{proxy_past}
use Rattle.site_run.specs.Journals.{AllCells, KeepLaws}
use Rattle.two_worlds.specs.Laws.{HearsTheSame, IsDueTheSame}
use Rattle.okws_server.specs.Isolation.{AgreeingServersGiveTheSame}

-- What holds of each holds of the one with this number; of one that isn't there what holds of nothing.
at : {A : Type 0} (P : ℕ → List A → Type 0) (none : (m : ℕ) → P m []) (n : ℕ) (xs : List (List A)) → EachFrom P n xs → (m i : ℕ) → m ≡ i + n → P m (get_or xs i [])
at P none n [] h m i is = none m
at P none n (x ∷ xs) h m zero is = let same : n ≡ m = omega (arith, is) in subst (λ (j : ℕ). P j x) same h.0
at P none n (x ∷ xs) h m (suc i) is = at P none (suc n) xs h.1 m i (omega (arith, is))

none_counted : (rose : Option ℕ) → WithinCount rose 0
none_counted None = tt
none_counted (Some m) = omega arith

each_cell : (C : Config) (seed : List ℕ) (n : ℕ) (Js : List (List CellEvent)) (sents : List (List Sent)) → AllCells C seed n Js sents → EachFrom (λ (s : ℕ) (J : List CellEvent). CellLaw J) n Js
each_cell C seed n [] sents h = tt
each_cell C seed n (J ∷ Js) [] h = absurd h
each_cell C seed n (J ∷ Js) (x ∷ xs) h = (h.0, each_cell C seed (suc n) Js xs h.2)

module _ (C : Config) (seed : List ℕ) (n : ℕ) (T : Outside) (R : Record) (connections : List (List Connection)) (laws : KeepLaws C seed n R) (legal : IsLegal C seed T (record R { doors = connections })) where
  own_was : (launcher w : ℕ) (items : List Own) → IsOwn (record R { doors = connections }) launcher w items → IsOwn R launcher w items
  own_was launcher w items h = record { okd = h.okd; proxies = h.proxies; pubd = h.pubd; oklogd = h.oklogd; launchers = h.launchers; cells = h.cells }

  pub is_lawful : IsLawful C seed T.keepers (length R.workers) R
  is_lawful = record {
    merged = record { own = λ w l. own_was _ w _ (legal.made.merged.own w l); below = legal.made.merged.below };
    proxies_are = laws.proxies_are;
    cells_are = laws.cells_are;
    cells = λ s. at (λ (i : ℕ) (J : List CellEvent). CellLaw J) (λ i. tt) 0 R.cells (each_cell C seed 0 R.cells R.sents laws.cells) s s (omega arith);
    shown = λ s. at (λ (i : ℕ) (J : List CellEvent). Each (EventShownFits (begun R.launcher i)) J) (λ i. tt) 0 R.cells legal.missed.shown s s (omega arith);
    launchers = laws.launcher;
    okd = laws.okd.0;
    proxies = λ p. at (λ (i : ℕ) (J : List (Entry ProxyEvent)). ProxyLaw C seed i J) (λ i. tt) 0 R.proxies legal.lawful.proxies p p (omega arith);
    pubd = laws.pubd.0;
    oklogd = laws.oklogd.0;
    faults_are = λ p. at (λ (i : ℕ) (J : List (Entry ProxyEvent)). WithinCount (T.keepers i) (faults J)) (λ i. none_counted (T.keepers i)) 0 R.proxies legal.lawful.faults_are p p (omega arith);
  }

pub served_the_same : HearsTheSame → IsDueTheSame → AgreeingServersGiveTheSame
served_the_same hears_the_same is_due_the_same C D seed n m T U R Q connections others s lawful_C lawful_D laws_R laws_Q first second agree k =
    let one = is_lawful C seed n T R connections laws_R first in
    let two = is_lawful D seed m U Q others laws_Q second in
    (hears_the_same C D seed _ _ _ _ R Q s lawful_C lawful_D one two agree k, is_due_the_same C D seed _ _ _ _ R Q s lawful_C lawful_D one two agree k)
