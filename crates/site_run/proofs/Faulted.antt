-- For each Failed of a run, and for each dialog of it that ended by a fault of its link, a fault was told of the children.
use Rattle.std.proofs.Common.{◌≡◌, ◌≢◌, ◌∙◌, ℕ, zero, suc, ◌+◌, ◌-◌, ◌^◌, ◌<◌, ◌≤◌, Bool, true, false, cond, List, [], ◌∷◌, ◌++◌, length, get_or, take, take_all, refl, ap, subst, arith, ne_eqb}
use Rattle.std.specs.Prelude.{◌==◌, ◌&&◌, None, Some, count_by, if◌then◌else◌, min, nat_le, nat_lt, not, sum_by}
use Rattle.std.proofs.lemmas.Bool.{leb-false, ltb-true, true≢false}
use Rattle.std.proofs.lemmas.List.Sums.{sum_by-append, sum_by-cons, sum_by-le-sum_by, sum_by_more}
use Rattle.okws_base.specs.Turns.{GrowsBy}
use Rattle.okws_base.specs.declared.journal.Entry.{Entry}
use Rattle.okws_outer.specs.Families.{Family}
use Rattle.okws_outer.specs.Streams.{counted}
use Rattle.okws_outer.specs.declared.children.ChildEnd.{ChildEnd}
use Rattle.okws_plan.specs.declared.configuration.Config.{Config}
use Rattle.okws_plan.specs.declared.event.LauncherEvent.{LauncherEvent}
use Rattle.monitor_model.specs.declared.record.CellEvent.{CellEvent}
use Rattle.monitor_model.specs.declared.record.CellEvent.TheVariants as cell
use Rattle.monitor_model.specs.declared.record.Record.{Record}
use Rattle.monitor_model.specs.Cell.{CellLaw, incarnation}
use Rattle.monitor_model.specs.Columns.{WithinCount}
use Rattle.monitor_model.specs.Launches.{failures, is_failed, is_fault_event}
use Rattle.monitor_model.specs.Merged.{cell_past}
use Rattle.monitor_model.specs.Sent.{is_link_fault}
use Rattle.site_cells.specs.Held.{by_event}
use Rattle.site_cells.specs.Closing.{AllCellsGrow, CellsGrow}
use Rattle.site_cells.specs.Row.{CellsSeen, link_at, seen_at}
use Rattle.launch_crew.specs.Crews.{CrewIs}
use Rattle.launch_crew.specs.Finished.{all_out, faults_in, faults_out, has_fault, out_at}
use Rattle.launch_crew.specs.Told.{TellsMore}
use Rattle.launch_crew.proofs.Counting.{in_same}
use Rattle.okld_launch.specs.Failures.{FaultsAreTold, children_count, children_rise}
use Rattle.site_run.proofs.Leaving.{cell_at, cells_pop}
use Rattle.site_run.proofs.Pieced.{cell_law}
use Rattle.site_run.specs.Journals.{AllCells}

-- ---- one cell

abbrev faults_of : List CellEvent → ℕ
faults_of J = count_by is_fault_event J

event_cons : (e : CellEvent) (J : List CellEvent) → faults_of (e ∷ J) ≡ cond (is_fault_event e) 1 0 + faults_of J
event_cons e J = sum_by-cons (λ (x : CellEvent). cond (is_fault_event x) 1 0) e J

-- a fault counts where an incarnation is there
counts_there : (fault gone : Bool) (n m : ℕ) → gone ≡ false → n ≤ m → cond fault 1 0 + n ≤ (if fault && not gone then 1 + m else m)
counts_there true true n m there h = absurd (true≢false there)
counts_there true false n m there h = omega (arith, h)
counts_there false gone n m there h = omega (arith, h)

law_faults : (J : List CellEvent) → CellLaw J → faults_of J ≤ faults_in J
law_faults [] law = omega arith
law_faults (cell.Boot k ∷ J) law = omega (arith, event_cons (cell.Boot k) J, law_faults J law.0)
law_faults (cell.Retired ∷ J) law = omega (arith, event_cons cell.Retired J, law_faults J law.0)
law_faults (cell.Missed worker wanted is ∷ J) law = omega (arith, event_cons (cell.Missed worker wanted is) J, law_faults J law.0)
law_faults (cell.Dialog d ∷ J) law =
    let here : cond (is_link_fault d.end) 1 0 + faults_of J ≤ faults_in (cell.Dialog d ∷ J)
    = counts_there (is_link_fault d.end) (incarnation J == 0) (faults_of J) (faults_in J) (ne_eqb (incarnation J) 0 law.2.0) (law_faults J law.0) in
    let first : faults_of (cell.Dialog d ∷ J) ≡ cond (is_link_fault d.end) 1 0 + faults_of J = event_cons (cell.Dialog d) J in
    omega (arith, here, first)
law_faults (cell.Speaking worker items ∷ J) law = omega (arith, event_cons (cell.Speaking worker items) J, law_faults J law.0)

-- what others entered at a cell that was left empty counts no more
cell_faults : (n : ℕ) (w : CellsSeen) (s : ℕ) (J : List CellEvent) → GrowsBy (by_event n) n (seen_at w s) J → link_at w s ≡ false → incarnation (seen_at w s) ≡ 0 → CellLaw J → faults_of J ≤ out_at w s
cell_faults n w s J grown unlinked empty law =
    let out : out_at w s ≡ faults_in (seen_at w s) = ap (λ (b : Bool). faults_out b (seen_at w s)) unlinked in
    let same : faults_in J ≡ faults_in (seen_at w s) = in_same n (seen_at w s) J grown empty in
    omega (arith, out, same, law_faults J law)

-- ---- all cells

more_out : (a b c d e f : ℕ) → a ≡ b + c → b ≤ d → c ≤ e → f ≡ e + d → a ≤ f
more_out a b c d e f is first here sum = omega (arith, is, first, here, sum)

below_next : (i n : ℕ) → suc i ≤ n → i < n
below_next i n l = omega (arith, l)

at_next : (i n : ℕ) → suc i ≤ n → i ≤ n
at_next i n l = omega (arith, l)

one_next : (i : ℕ) → suc i ≡ i + 1
one_next i = omega arith

at_end : (n : ℕ) → n ≤ n
at_end n = omega arith

out_taken : (w : CellsSeen) (Js : List (List CellEvent)) → ((s : ℕ) → s < length Js → faults_of (get_or Js s []) ≤ out_at w s) → (i : ℕ) → i ≤ length Js → sum_by faults_of (take i Js) ≤ all_out w i
out_taken w Js each zero l = omega arith
out_taken w Js each (suc i) l =
    let less : i < length Js = below_next i (length Js) l in
    more_out (sum_by faults_of (take (suc i) Js)) (sum_by faults_of (take i Js)) (faults_of (get_or Js i [])) (all_out w i) (out_at w i) (all_out w (suc i))
    (ap (λ (m : ℕ). sum_by faults_of (take m Js)) (one_next i) ∙ sum_by_more faults_of Js i [] less) (out_taken w Js each i (at_next i (length Js) l)) (each i less) refl

out_all : (w : CellsSeen) (Js : List (List CellEvent)) → ((s : ℕ) → s < length Js → faults_of (get_or Js s []) ≤ out_at w s) → sum_by faults_of Js ≤ all_out w (length Js)
out_all w Js each = subst (λ (xs : List (List CellEvent)). sum_by faults_of xs ≤ all_out w (length Js)) (take_all (length Js) Js (at_end (length Js))) (out_taken w Js each (length Js) (at_end (length Js)))

-- ---- what is told of the children

abbrev link_faults : List ChildEnd → ℕ
link_faults es = sum_by (λ (e : ChildEnd). e.faults) es

at_least : (b : Bool) (n : ℕ) → nat_lt 0 n ≡ b → cond b 1 0 ≤ n
at_least true n is = let some : 0 < n = ltb-true 0 n is in omega (arith, some)
at_least false n is = omega arith

faulty_least : (es : List ChildEnd) → count_by has_fault es ≤ link_faults es
faulty_least es = sum_by-le-sum_by (λ (e : ChildEnd). cond (has_fault e) 1 0) (λ (e : ChildEnd). e.faults) es (λ e. at_least (has_fault e) e.faults refl)

risen : (a b f cf cn ce x sf sn se : ℕ) → f < 2 ^ 64 - 1 → counted a b ≤ f → cf + x ≤ b + cn → cn ≡ ce + cf → sn ≡ se + sf → ce ≤ se → x ≤ f + sn - (a + sf)
risen a b f cf cn ce x sf sn se below h all ends sums least = let m : min (a + b) (2 ^ 64 - 1) ≤ f = h in omega (arith, below, m, all, ends, sums, least)

within_if : (b : Bool) (m n : ℕ) → (b ≡ false → n ≤ m) → WithinCount (if b then None else Some m) n
within_if true m n h = tt
within_if false m n h = h refl

wider : (a j o p b e : ℕ) → p ≤ o → a + (j + o) ≤ b + e → a + (j + p) ≤ b + e
wider a j o p b e less h = omega (arith, less, h)

told_within : (first : Family) (R : Record) (c : CrewIs) → sum_by faults_of R.cells ≤ all_out c.watch (length R.cells) → TellsMore first c.family → FaultsAreTold first R.launcher c → WithinCount (children_rise first c.family) (failures R)
told_within first R c out more h =
    let now = c.family in
    let failed : ℕ = count_by (λ (e : Entry LauncherEvent). is_failed e.event) R.launcher in
    within_if (nat_le (2 ^ 64 - 1) now.faults) (children_count now - children_count first) (failures R)
    (λ is. risen first.faults h.by_starts now.faults (count_by has_fault first.finished) (count_by has_fault now.finished) (count_by has_fault more.ends) (failures R) (link_faults first.finished) (link_faults now.finished) (link_faults more.ends)
    (leb-false (2 ^ 64 - 1) now.faults is) h.starts
    (wider (count_by has_fault first.finished) failed (all_out c.watch (length R.cells)) (sum_by faults_of R.cells) h.by_starts (count_by has_fault now.finished) out (h.all (length R.cells)))
    (ap (λ (es : List ChildEnd). count_by has_fault es) more.finished_is ∙ sum_by-append (λ (e : ChildEnd). cond (has_fault e) 1 0) more.ends first.finished)
    (ap link_faults more.finished_is ∙ sum_by-append (λ (e : ChildEnd). e.faults) more.ends first.finished)
    (faulty_least more.ends))

-- the launcher's seats saw each cell as it was when it was left empty at last
pub faults_within : (C : Config) (seed : List ℕ) (first : Family) (n : ℕ) (R : Record) (cs every : List CellsSeen) (c : CrewIs) → every ≡ cs ++ c.watch ∷ [] → c.watch.number ≡ n → AllCellsGrow n every R.cells → AllCells C seed 0 R.cells R.sents
    → ((s : ℕ) → s < length R.cells → (link_at c.watch s ≡ false) × (incarnation (seen_at c.watch s) ≡ 0)) → TellsMore first c.family → FaultsAreTold first R.launcher c → WithinCount (children_rise first c.family) (failures R)
faults_within C seed first n R cs every c is here grown laws empty more h =
    let cells = subst (λ k. CellsGrow n k c.watch.cells R.cells) here (cells_pop n cs c.watch R.cells (subst (λ xs. AllCellsGrow n xs R.cells) is grown)).1 in
    told_within first R c
    (out_all c.watch R.cells (λ s less. cell_faults n c.watch s (cell_past R s) (cell_at n n c.watch.cells R.cells cells s) (empty s less).0 (empty s less).1 (cell_law C seed 0 R.cells R.sents laws s)))
    more h
