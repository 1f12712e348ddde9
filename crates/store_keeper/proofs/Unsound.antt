-- Tables that were read of a store, whose rows are not sound.
use Rattle.std.proofs.Common.{◌≡◌, ◌∙◌, ℕ, suc, ◌<◌, ◌&&◌, ◌⊎◌, inl, inr, Bool, true, false, List, [], ◌∷◌, ◌++◌, get_or, length, map, refl, sym, ap, Option, Some, None}
use Rattle.std.specs.Prelude.{IfSome, nat_le, slice_get}
use Rattle.std.specs.List.{list_all, count_by}
use Rattle.std.proofs.lemmas.Bool.{and_from, and_parts, false≢true}
use Rattle.std.proofs.lemmas.Option.{slice_get-get_or}
use Rattle.okws_base.specs.declared.value.Value.{Value}
use Rattle.okws_base.specs.declared.limit.TheConstants.{MOST_COLUMNS}
use Rattle.okws_base.specs.Value.{same_bytes}
use Rattle.okws_outer.specs.Depots.{Depot, with_finished}
use Rattle.okws_outer.specs.Streams.{Rose}
use Rattle.okws_outer.specs.declared.stores.KeeperEnd.{KeeperEnd}
use Rattle.okws_plan.specs.Sound.{are_distinct, has_sound_rows, is_sound_table}
use Rattle.okws_plan.specs.declared.configuration.Column.{Column}
use Rattle.okws_plan.specs.declared.configuration.ProxyPlan.{ProxyPlan}
use Rattle.okws_plan.specs.declared.configuration.Table.{Table}
use Rattle.store_keeper.specs.Alike.{AreAlike}
use Rattle.store_keeper.specs.Depots.{Beside, GivesBack, HasFailed, HasUnsoundAt, LacksStore}
use Rattle.store_keeper.specs.Loading.{AreRead, IsReadAt, ReadsUnsound}
use Rattle.store_keeper.proofs.Given.{failed_since, one_failed, still_failed}
use Rattle.store_keeper.proofs.Plans.{told_same}
use Rattle.store_keeper.proofs.Same.{has_read}

-- What a sound table keeps.
pub record TableParts (t : Table) : Type 0 where
  pub columns : nat_le (length t.columns) MOST_COLUMNS ≡ true
  pub names : are_distinct same_bytes (map (λ (c : Column). c.name) t.columns) ≡ true
  pub keys : nat_le (count_by (λ (c : Column). c.key) t.columns) 1 ≡ true
  pub rows : has_sound_rows t ≡ true

pub table_parts : (t : Table) → is_sound_table t ≡ true → TableParts t
table_parts t h =
    let names : Bool = are_distinct same_bytes (map (λ (c : Column). c.name) t.columns) in
    let keys : Bool = nat_le (count_by (λ (c : Column). c.key) t.columns) 1 in
    let one = and_parts (nat_le (length t.columns) MOST_COLUMNS) (names && (keys && has_sound_rows t)) h in
    let two = and_parts names (keys && has_sound_rows t) one.1 in
    let three = and_parts keys (has_sound_rows t) two.1 in
    record { columns = one.0; names = two.0; keys = three.0; rows = three.1 }

pub of_parts : (t : Table) → TableParts t → is_sound_table t ≡ true
of_parts t h =
    let names : Bool = are_distinct same_bytes (map (λ (c : Column). c.name) t.columns) in
    let keys : Bool = nat_le (count_by (λ (c : Column). c.key) t.columns) 1 in
    and_from (nat_le (length t.columns) MOST_COLUMNS) (names && (keys && has_sound_rows t)) h.columns (and_from names (keys && has_sound_rows t) h.names (and_from keys (has_sound_rows t) h.keys h.rows))

all_rows : (ts : List Table) → list_all is_sound_table ts ≡ true → list_all has_sound_rows ts ≡ true
all_rows [] h = refl
all_rows (t ∷ ts) h =
    let both = and_parts (is_sound_table t) (list_all is_sound_table ts) h in
    and_from (has_sound_rows t) (list_all has_sound_rows ts) ((table_parts t both.0).rows) (all_rows ts both.1)

unsound_from : (ts : List Table) (told : Option (List (List (List Value)))) (n : ℕ) (read : List Table) → AreRead ts told n read → list_all has_sound_rows read ≡ false → (at : ℕ) × (t : Table) × IsReadAt ts told at t × (has_sound_rows t ≡ false)
unsound_from ts told n [] are off = absurd (false≢true (sym off))
unsound_from ts told n (t ∷ read) are off = by (has_sound_rows t) refl off (λ later. unsound_from ts told (suc n) read are.1 later)
  where
    by : (b : Bool) → has_sound_rows t ≡ b → (b && list_all has_sound_rows read) ≡ false → (list_all has_sound_rows read ≡ false → (at : ℕ) × (u : Table) × IsReadAt ts told at u × (has_sound_rows u ≡ false))
        → (at : ℕ) × (u : Table) × IsReadAt ts told at u × (has_sound_rows u ≡ false)
    by false one none rest = (n, t, are.0, one)
    by true one none rest = rest none

-- a keeper that tells has the rows that it was made with, which are sound; so one whose rows are not tells none
pub unsound_read : (ts read : List Table) (told : Option (List (List (List Value)))) → IfSome told (λ rows. rows ≡ map (λ (t : Table). t.first) ts) → AreRead ts told 0 read → AreAlike read ts → list_all is_sound_table ts ≡ true → list_all has_sound_rows read ≡ false
    → ReadsUnsound ts told
unsound_read ts read None new are alike sound off =
    let found = unsound_from ts None 0 read are off in
    record { silent = refl; at = found.0; read = found.1; answered = found.2; unsound = found.3 }
unsound_read ts read (Some T) new are alike sound off =
    absurd (false≢true (sym off ∙ ap (list_all has_sound_rows) (told_same read ts (Some T) refl new (has_read ts read (Some T) new are alike sound) alike) ∙ all_rows ts sound))

-- ---- what was given back

-- a store that was given back had failed, or its rows are not sound
pub one_lacks : (plan : ProxyPlan) (a b c : Depot) (p : ℕ) (told : Option (List (List (List Value)))) (faults : ℕ) → b.finished ≡ a.finished → c ≡ with_finished p told faults b → Rose 0 faults ⊎ ReadsUnsound plan.tables told → HasFailed a c ⊎ HasUnsoundAt p plan a c
one_lacks plan a b c p told faults same is (inl rose) = inl (one_failed a b c p told faults same is rose)
one_lacks plan a b c p told faults same is (inr bad) =
    let end : KeeperEnd = record { proxy = p; rows = told; faults = faults } in
    inr (record { end = end; finished = ap (λ (d : Depot). d.finished) is ∙ ap (λ (xs : List KeeperEnd). end ∷ xs) same; proxy_is = refl; answers = bad })

-- the same before these were given back
pub lacks_back : (keepers : List Beside) (plans : List ProxyPlan) (n : ℕ) (plan : ProxyPlan) (a b c d : Depot) → b.finished ≡ a.finished → b.faults ≡ a.faults → n < length plans → plan ≡ get_or plans n plan → HasFailed b c ⊎ HasUnsoundAt n plan b c → GivesBack keepers c d
    → LacksStore plans a d
lacks_back keepers plans n plan a b c d ends faults below here (inl failed) back = inl (still_failed keepers a c d (failed_since a b c ends faults failed) back)
lacks_back keepers plans n plan a b c d ends faults below here (inr bad) back = inr (record {
  front = back.ends;
  end = bad.end;
  rest = [];
  finished = back.finished ∙ ap (λ (xs : List KeeperEnd). back.ends ++ xs) (bad.finished ∙ ap (λ (xs : List KeeperEnd). bad.end ∷ xs) ends);
  plan = plan;
  whose = ap (slice_get plans) bad.proxy_is ∙ slice_get-get_or plans n plan below ∙ ap Some (sym here);
  answers = bad.answers;
})
