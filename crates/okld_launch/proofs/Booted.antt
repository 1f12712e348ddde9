-- The Boots that the launcher's list has stand in their cells.
use Rattle.std.proofs.Common.{◌≡◌, ◌∙◌, ⊎_elim, ℕ, Bool, true, false, List, [], ◌∷◌, refl, sym}
use Rattle.std.specs.Prelude.{◌==◌, ◌&&◌, ◌||◌, if◌then◌else◌}
use Rattle.std.specs.List.{list_any}
use Rattle.std.proofs.lemmas.Bool.{and_parts, false≢true, or_cases, or_left, or_right}
use Rattle.monitor_model.specs.declared.record.CellEvent.{CellEvent}
use Rattle.monitor_model.specs.declared.record.CellEvent.TheVariants as cell
use Rattle.monitor_model.specs.declared.record.Own.{Own}
use Rattle.monitor_model.specs.declared.record.Own.TheVariants as own
use Rattle.monitor_model.specs.First.{is_boot_of}
use Rattle.monitor_model.specs.Merged.{cell_items, is_at_cell}
use Rattle.okld_launch.specs.Kin.{is_boot}

pub boot_there : (s k : ℕ) (item : Own) → is_boot s k item ≡ true → is_at_cell s item ≡ true
boot_there s k (own.Boot t j) h = (and_parts (t == s) (j == k) h).0
boot_there s k (own.Okd e) h = absurd (false≢true h)
boot_there s k (own.Proxy p e) h = absurd (false≢true h)
boot_there s k (own.Pubd e) h = absurd (false≢true h)
boot_there s k (own.Oklogd e) h = absurd (false≢true h)
boot_there s k (own.Launcher e) h = absurd (false≢true h)
boot_there s k (own.Dialog t) h = absurd (false≢true h)
boot_there s k (own.Missed t wanted is) h = absurd (false≢true h)
boot_there s k own.NoMemory h = absurd (false≢true h)
boot_there s k (own.Retired t) h = absurd (false≢true h)

-- an item that is no Boot, where it was made
other_boot : (s k : ℕ) (b : Bool) (item : Own) (items : List Own) → is_boot s k item ≡ false → list_any (is_boot s k) (if b then item ∷ items else items) ≡ true → list_any (is_boot s k) items ≡ true
other_boot s k true item items none h = ⊎_elim (λ now. absurd (false≢true (sym none ∙ now))) (λ old. old) (or_cases (is_boot s k item) (list_any (is_boot s k) items) h)
other_boot s k false item items none h = h

boot_by : (n s k j : ℕ) (J : List CellEvent) (b : Bool) → (list_any (is_boot s k) (cell_items n n s J) ≡ true → list_any (is_boot_of k) J ≡ true)
    → list_any (is_boot s k) (if b then own.Boot s j ∷ cell_items n n s J else cell_items n n s J) ≡ true → ((j == k) || list_any (is_boot_of k) J) ≡ true
boot_by n s k j J true before h =
    ⊎_elim (λ now. or_left (j == k) (list_any (is_boot_of k) J) (and_parts (s == s) (j == k) now).1) (λ old. or_right (j == k) (list_any (is_boot_of k) J) (before old))
    (or_cases ((s == s) && (j == k)) (list_any (is_boot s k) (cell_items n n s J)) h)
boot_by n s k j J false before h = or_right (j == k) (list_any (is_boot_of k) J) (before h)

pub booted_in : (n s k : ℕ) (J : List CellEvent) → list_any (is_boot s k) (cell_items n n s J) ≡ true → list_any (is_boot_of k) J ≡ true
booted_in n s k [] h = absurd (false≢true h)
booted_in n s k (cell.Boot j ∷ J) h = boot_by n s k j J (n == n) (booted_in n s k J) h
booted_in n s k (cell.Retired ∷ J) h = booted_in n s k J (other_boot s k (n == n) (own.Retired s) (cell_items n n s J) refl h)
booted_in n s k (cell.Missed v wanted is ∷ J) h = booted_in n s k J (other_boot s k (v == n) (own.Missed s wanted is) (cell_items n n s J) refl h)
booted_in n s k (cell.Dialog d ∷ J) h = booted_in n s k J (other_boot s k (d.worker == n) (own.Dialog s) (cell_items n n s J) refl h)
booted_in n s k (cell.Speaking worker items ∷ J) h = booted_in n s k J (other_boot s k (worker == n) (own.Dialog s) (cell_items n n s J) refl h)
