-- The record of a good state is lawful.
use Rattle.std.proofs.Common.{◌≡◌, ℕ, zero, suc, ◌<◌, ◌≤◌, Bool, true, false, ◌||◌, ◌&&◌, ◌||◌, List, [], ◌∷◌, Some, None, map, refl, ◌∙◌, arith, length, reverse}
use Rattle.std.specs.List.{list_all, list_any}
use Rattle.std.proofs.lemmas.List.{length-map, length-replicate}
use Rattle.okws_base.specs.Runs.{Each}
use Rattle.okws_base.specs.declared.journal.Entry.{Entry}
use Rattle.okws_plan.specs.declared.configuration.Config.{Config}
use Rattle.okws_plan.specs.declared.script.Line.{Line}
use Rattle.okws_plan.specs.declared.event.ProxyEvent.{ProxyEvent}
use Rattle.monitor_model.specs.declared.record.CellEvent.{CellEvent}
use Rattle.monitor_model.specs.Columns.{faults}
use Rattle.monitor_model.specs.Legal.{IsLawful}
use Rattle.monitor_model.specs.Unharmed.{IsUnharmed, is_wanting}
use Rattle.okws_plan.specs.Lines.{LineFits}
use Rattle.monitor_model.specs.Merged.{IsMerged, IsOwn, are_below, is_cell_below, cell_past, list_of}
use Rattle.monitor_model.specs.Seen.{proxy_past}
use Rattle.monitor_model.specs.Stage.{Stage, Stand, stand, first_stage, empty_stand}
use Rattle.monitor_model.specs.Script.{PlaysAll}
use Rattle.monitor_model.specs.Played.{record_of, with_open, IsPlayed}
use Rattle.monitor_model.proofs.Lawful.Plain.{map_at, replicate_at, all_from, each_reverse, none_some}
use Rattle.monitor_model.proofs.Lawful.Kept.{IsGood}
use Rattle.monitor_model.proofs.Lawful.Lines.{good_line}

-- the journal of a cell, with its open dialog
abbrev pub journal : Stand → List CellEvent
journal there = with_open there.open_dialog there.past

pub cell_is : (S : Stage) (s : ℕ) → cell_past (record_of S) s ≡ journal (stand S s)
cell_is S s = map_at journal S.stands s empty_stand [] refl

-- number 0's list, and the empty one of number 1
own_zero : (C : Config) (seed : List ℕ) (S : Stage) → IsGood C seed S → IsOwn (record_of S) 0 0 S.seen.own
own_zero C seed S g = record {
  okd = g.seen.okd.alone.own;
  proxies = λ p. (g.seen.proxies p).alone.own;
  pubd = g.seen.pubd.alone.own;
  oklogd = g.seen.oklogd.alone.own;
  launchers = g.seen.launcher.alone.own;
  cells = λ s. rw (cell_is S s) (g.cells s).own;
}

own_one : (C : Config) (seed : List ℕ) (S : Stage) → IsGood C seed S → IsOwn (record_of S) 0 1 []
own_one C seed S g = record {
  okd = g.seen.okd.alone.foreign;
  proxies = λ p. (g.seen.proxies p).alone.foreign;
  pubd = g.seen.pubd.alone.foreign;
  oklogd = g.seen.oklogd.alone.foreign;
  launchers = g.seen.launcher.alone.foreign;
  cells = λ s. rw (cell_is S s) (g.cells s).foreign;
}

own_each : (C : Config) (seed : List ℕ) (S : Stage) → IsGood C seed S → (w : ℕ) → w < 2 → IsOwn (record_of S) 0 w (list_of (record_of S) w)
own_each C seed S g zero below = own_zero C seed S g
own_each C seed S g (suc zero) below = own_one C seed S g
own_each C seed S g (suc (suc w)) below = absurd (omega arith)

all_below : (a b c d e f : Bool) → a ≡ true → b ≡ true → c ≡ true → d ≡ true → e ≡ true → f ≡ true → (a && (b && (c && (d && (e && f))))) ≡ true
all_below a b c d e f ha hb hc hd he hf = rw (ha, hb, hc, hd, he, hf) refl

good_is_merged : (C : Config) (seed : List ℕ) (S : Stage) → IsGood C seed S → IsMerged (record_of S) 0
good_is_merged C seed S g = record {
  own = own_each C seed S g;
  below = all_below (are_below 2 S.seen.okd) (list_all (are_below 2) S.seen.proxies) (are_below 2 S.seen.pubd) (are_below 2 S.seen.oklogd) (are_below 2 S.seen.launcher)
      (list_all (λ (J : List CellEvent). list_all (is_cell_below 2) J) (map journal S.stands))
      g.seen.okd.alone.below
      (all_from (are_below 2) [] S.seen.proxies (λ p. (g.seen.proxies p).alone.below))
      g.seen.pubd.alone.below g.seen.oklogd.alone.below g.seen.launcher.alone.below
      (all_from (λ (J : List CellEvent). list_all (is_cell_below 2) J) [] (map journal S.stands) (λ s. rw (cell_is S s) (g.cells s).below));
}

within_none : (n : ℕ) → n ≡ 0 → n ≤ 0
within_none n is = omega arith

pub good_is_lawful : (C : Config) (seed : List ℕ) (S : Stage) → IsGood C seed S → ((p : ℕ) → faults (proxy_past S.seen.proxies p) ≡ 0)
    → IsLawful C seed (λ (p : ℕ). Some 0) 0 (record_of S)
good_is_lawful C seed S g none = record {
  merged = good_is_merged C seed S g;
  proxies_are = g.seen.proxies_are;
  cells_are = length-map S.stands journal ∙ g.stands_are;
  cells = λ s. rw (cell_is S s) (g.cells s).law;
  shown = λ s. rw (cell_is S s) (g.cells s).shown;
  launchers = g.seen.launcher.law;
  okd = g.seen.okd.law;
  proxies = λ p. (g.seen.proxies p).law (none p);
  pubd = g.seen.pubd.law;
  oklogd = g.seen.oklogd.law;
  faults_are = λ p. within_none (faults (proxy_past S.seen.proxies p)) (none p);
}

-- and nothing was harmed
any_false : (b : Bool) → b ≡ false → (b || false) ≡ false
any_false b is = rw is refl

pub good_is_unharmed : (C : Config) (seed : List ℕ) (S : Stage) → IsGood C seed S → IsUnharmed (record_of S)
good_is_unharmed C seed S g = record { cells = λ s. rw (cell_is S s) (g.cells s).unharmed; workers = any_false (list_any is_wanting S.seen.own) g.seen.remembered }

-- the state before the first line is good
pub first_is_good : (C : Config) (seed : List ℕ) → IsGood C seed (first_stage C)
first_is_good C seed = record {
  seen = record {
    okd = record { alone = record { own = refl; foreign = refl; below = refl }; law = tt; up = λ s k up. absurd (none_some k None refl up) };
    proxies_are = length-replicate (length C.proxies) [];
    proxies = λ p. rw (replicate_at {A = List (Entry ProxyEvent)} (length C.proxies) p []) (record { alone = record { own = refl; foreign = refl; below = refl }; law = λ none. tt; last = λ s. omega arith });
    pubd = record { alone = record { own = refl; foreign = refl; below = refl }; law = tt; last = λ s. omega arith };
    oklogd = record { alone = record { own = refl; foreign = refl; below = refl }; law = tt; last = λ s. omega arith };
    launcher = record { alone = record { own = refl; foreign = refl; below = refl }; law = tt; untried = λ s. refl; alive = λ s. refl };
    remembered = refl;
  };
  stands_are = length-replicate (length C.services) empty_stand;
  cells = λ s. rw (replicate_at (length C.services) s empty_stand) (record { own = refl; foreign = refl; below = refl; shown = tt; unharmed = tt; law = tt; silent = refl; last = omega arith });
  requests = tt;
}

-- the lines one after another
pub good_run : (C : Config) (seed : List ℕ) (lines : List Line) (printed : List ℕ) (now : Stage) → Each (LineFits C) lines → PlaysAll C seed lines printed now → IsGood C seed now
good_run C seed [] printed now fits run = rw run.1 (first_is_good C seed)
good_run C seed (line ∷ lines) printed now fits run = good_line C seed line run.0 run.2 now (good_run C seed lines run.1 run.0 fits.1 run.3) fits.0 run.4.0 run.4.1

pub script_runs_are_lawful : (C : Config) (seed : List ℕ) (lines : List Line) (printed : List ℕ) (stage : Stage)
    → Each (LineFits C) lines → PlaysAll C seed (reverse lines) printed stage → ((p : ℕ) → faults (proxy_past stage.seen.proxies p) ≡ 0)
    → IsLawful C seed (λ (p : ℕ). Some 0) 0 (record_of stage)
script_runs_are_lawful C seed lines printed stage fits run none =
    good_is_lawful C seed stage (good_run C seed (reverse lines) printed stage (each_reverse (LineFits C) lines fits) run) none

pub script_runs_are_unharmed : (C : Config) (seed : List ℕ) (lines : List Line) (printed : List ℕ) (stage : Stage)
    → Each (LineFits C) lines → PlaysAll C seed (reverse lines) printed stage → IsUnharmed (record_of stage)
script_runs_are_unharmed C seed lines printed stage fits run =
    good_is_unharmed C seed stage (good_run C seed (reverse lines) printed stage (each_reverse (LineFits C) lines fits) run)

pub script_runs_are_played : (C : Config) (seed : List ℕ) (lines : List Line) (printed : List ℕ) (stage : Stage)
    → Each (LineFits C) lines → PlaysAll C seed (reverse lines) printed stage → ((p : ℕ) → faults (proxy_past stage.seen.proxies p) ≡ 0)
    → IsPlayed C seed lines (record_of stage) printed
script_runs_are_played C seed lines printed stage fits run none = record {
  stage = stage;
  plays = run;
  record_is = refl;
  lawful = script_runs_are_lawful C seed lines printed stage fits run none;
}
