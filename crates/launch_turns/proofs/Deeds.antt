-- What turns at the launcher tell, where others take some meanwhile.
use Rattle.std.proofs.Common.{◌≡◌, ◌∙◌, ℕ, Bool, true, false, List, [], ◌∷◌, ◌++◌, ◌==◌, refl, sym, ap}
use Rattle.std.specs.Prelude.{◌||◌, if◌then◌else◌}
use Rattle.std.proofs.lemmas.List.{append_assoc}
use Rattle.okws_base.specs.Turns.{Behind, GrowsBy, of}
use Rattle.okws_base.specs.declared.journal.Entry.{Entry}
use Rattle.okws_plan.specs.declared.event.LauncherEvent.{LauncherEvent}
use Rattle.named_columns.specs.Launched.{by_entry}
use Rattle.launch_turns.specs.Deeds.{by_deed, ended_in, entries, up_in}
use Rattle.okld_launch.specs.Entering.{entries_of}
use Rattle.launch_turns.specs.declared.deed.Deed.{Deed}

pub entries_both : (more deeds : List Deed) → entries (more ++ deeds) ≡ entries more ++ entries deeds
entries_both [] deeds = refl
entries_both (d ∷ more) deeds = ap (λ (J : List (Entry LauncherEvent)). entries_of d.worker d.entered ++ J) (entries_both more deeds) ∙ sym (append_assoc (entries_of d.worker d.entered) (entries more) (entries deeds))

-- events of another number
others_pass : (n w : ℕ) (events : List LauncherEvent) (J : List (Entry LauncherEvent)) → (w == n) ≡ false → of by_entry n (entries_of w events ++ J) ≡ of by_entry n J
others_pass n w [] J other = refl
others_pass n w (e ∷ events) J other = rw (other) (others_pass n w events J other)

foreign : (n : ℕ) (more : List Deed) → of by_deed n more ≡ [] → of by_entry n (entries more) ≡ []
foreign n [] none = refl
foreign n (d ∷ more) none = at (d.worker == n) refl none (foreign n more)
  where
    at : (b : Bool) → (d.worker == n) ≡ b → (if b then d ∷ of by_deed n more else of by_deed n more) ≡ [] → (of by_deed n more ≡ [] → of by_entry n (entries more) ≡ []) → of by_entry n (entries (d ∷ more)) ≡ []
    at true is bad before = let never : ⊥ = cc in absurd never
    at false is rest before = others_pass n d.worker d.entered (entries more) is ∙ before rest

-- what turns of others enter is entered by others
pub entries_grow : (n : ℕ) (old deeds : List Deed) → GrowsBy by_deed n old deeds → GrowsBy by_entry n (entries old) (entries deeds)
entries_grow n old deeds h = (entries h.0, foreign n h.0 h.1, ap entries h.2 ∙ entries_both h.0 old)

pub entries_behind : (old deeds : List Deed) → Behind old deeds → Behind (entries old) (entries deeds)
entries_behind old deeds h = (entries h.0, ap entries h.1 ∙ entries_both h.0 old)

or_last : (a b : Bool) → b ≡ true → (a || b) ≡ true
or_last true b h = refl
or_last false b h = h

-- what turns tell stays told
pub up_stays : (more deeds : List Deed) (s k : ℕ) → up_in deeds s k ≡ true → up_in (more ++ deeds) s k ≡ true
up_stays [] deeds s k h = h
up_stays (d ∷ more) deeds s k h = or_last _ (up_in (more ++ deeds) s k) (up_stays more deeds s k h)

pub ended_stays : (more deeds : List Deed) (s k : ℕ) → ended_in deeds s k ≡ true → ended_in (more ++ deeds) s k ≡ true
ended_stays [] deeds s k h = h
ended_stays (d ∷ more) deeds s k h = or_last _ (ended_in (more ++ deeds) s k) (ended_stays more deeds s k h)
