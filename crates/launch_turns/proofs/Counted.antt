-- What is counted of a site.
use Rattle.std.proofs.Common.{◌≡◌, ◌∙◌, ℕ, zero, suc, ◌+◌, ◌-◌, ◌^◌, ◌<◌, ◌≤◌, Bool, true, false, List, ◌∷◌, min, Option, Some, None, not, sym, ap, subst, arith}
use Rattle.std.specs.Prelude.{◌&&◌, IfNone, IfSome, if◌then◌else◌, is_some}
use Rattle.okws_base.specs.declared.journal.Entry.{Entry}
use Rattle.okws_plan.specs.declared.configuration.Config.{Config}
use Rattle.okws_plan.specs.declared.event.LauncherEvent.{LauncherEvent}
use Rattle.okws_plan.specs.declared.event.OkdEvent.{OkdEvent}
use Rattle.monitor_model.specs.Launcher.{begun}
use Rattle.launch_journal.specs.Launches.{given_up}
use Rattle.named_columns.specs.Counts.{capped}
use Rattle.okld_launch.specs.Launchers.{LauncherIs, IsLauncher, up_in}
use Rattle.launch_turns.specs.Deeds.{looks}
use Rattle.launch_turns.specs.Looking.{Stands, count_below, stands_dead, stands_down, stands_up}
use Rattle.launch_turns.specs.declared.deed.Deed.{Deed}
use Rattle.launch_turns.specs.declared.looking.Standing.{Standing}

-- one turn more
pub looks_counted : (d : Deed) (deeds told : List Deed) (old now : ℕ) → old ≡ capped (looks deeds) → now ≡ (if d.tended then min (old + 1) (2 ^ 64 - 1) else old) → told ≡ d ∷ deeds → now ≡ capped (looks told)
looks_counted d deeds told old now is more all = subst (λ (ds : List Deed). now ≡ capped (looks ds)) (sym all) (by d.tended more)
  where
    by : (b : Bool) → now ≡ (if b then min (old + 1) (2 ^ 64 - 1) else old) → now ≡ capped (if b then looks deeds + 1 else looks deeds)
    by true h = omega (arith, h, is)
    by false h = h ∙ is

-- what the launcher has as up is up at okd
pub up_shown : (C : Config) (l : LauncherIs) (s : ℕ) (o : Option ℕ) (b : Bool) → IsLauncher C l → IfNone o (up_in l s ≡ 0) → IfSome o (λ k. (k ≡ up_in l s) × (0 < k) × (k ≤ begun l.journal.past s)) → b ≡ is_some o → b ≡ stands_up l.crew.sat.okd s
up_shown C l s None b keeps none some is = is ∙ sym (ap is_some ((keeps.each s).down none))
up_shown C l s (Some k) b keeps none some is =
    let up : 0 < up_in l s = let e = some.0 in let more = some.1 in omega arith in
    is ∙ sym (ap is_some ((keeps.each s).up up).up)

-- no more than there are
one_more : (b : Bool) (count n : ℕ) → count ≤ n → (if b then count + 1 else count) ≤ suc n
one_more true count n before = omega (arith, before)
one_more false count n before = omega (arith, before)

at_most : (test : ℕ → Bool) (n : ℕ) → count_below test n ≤ n
at_most test zero = omega arith
at_most test (suc n) = one_more (test n) (count_below test n) n (at_most test n)

pub under : (test : ℕ → Bool) (n m count : ℕ) → count ≡ count_below test n → n < m → m < 65536 → count < 65535
under test n m count is less few = let most = at_most test n in omega (arith, is, less, few, most)

-- one service more
more_of : (test : ℕ → Bool) (n old now : ℕ) (b : Bool) → old ≡ count_below test n → b ≡ test n → now ≡ (if b then old + 1 else old) → now ≡ count_below test (suc n)
more_of test n old now b is here more = more ∙ (λ i. if here i then is i + 1 else is i)

pub stands_more : (J : List (Entry OkdEvent)) (L : List (Entry LauncherEvent)) (n m : ℕ) (t u : Standing) (up gone : Bool) → Stands J L n t → up ≡ stands_up J n → gone ≡ is_some (given_up L n)
    → u.up ≡ (if up then t.up + 1 else t.up) → u.down ≡ (if not up && not gone then t.down + 1 else t.down) → u.dead ≡ (if not up && gone then t.dead + 1 else t.dead) → m ≡ suc n → Stands J L m u
stands_more J L n m t u up gone h is_up is_gone more_up more_down more_dead next = subst (λ k. Stands J L k u) (sym next) (record {
  up = more_of (stands_up J) n t.up u.up up h.up is_up more_up;
  down = more_of (stands_down J L) n t.down u.down (not up && not gone) h.down (λ i. not (is_up i) && not (is_gone i)) more_down;
  dead = more_of (stands_dead J L) n t.dead u.dead (not up && gone) h.dead (λ i. not (is_up i) && is_gone i) more_dead;
})
