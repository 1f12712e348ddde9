-- What is known of a query that a service is granted.
use Rattle.std.proofs.Common.{◌≡◌, ℕ, zero, suc, ◌<◌, Bool, true, false, not, ◌&&◌, ◌||◌, List, [], ◌∷◌, ◌++◌, map, length, Option, Some, None, refl, sym, ap, subst, ◌∙◌, arith}
use Rattle.std.specs.Prelude.{◌==◌, slice_get, nat_lt, nat_le}
use Rattle.std.specs.List.{list_any, list_all}
use Rattle.std.proofs.lemmas.Bool.{true≢false, and_parts, and_from, or_left, or_right, ltb-true, not-true}
use lib.Pointwise.{bytes_decides}
use Rattle.okws_base.specs.Value.{same_bytes}
use Rattle.okws_plan.specs.Configuration.{grants, query, queries_of, tables, tables_of}
use Rattle.okws_plan.specs.Meaning.{columns_of, columns_in}
use Rattle.okws_plan.specs.Rules.{keeps_rules, action_fits, selection_fits, join_fits, join_of, read_columns, are_apart, are_of_kind}
use Rattle.okws_plan.specs.declared.statement.Join.{Join}
use Rattle.okws_plan.specs.Sound.{is_sound_plan, is_sound_table, are_distinct}
use Rattle.okws_base.specs.declared.limit.TheConstants.{MOST_TABLES, MOST_QUERIES}
use Rattle.okws_plan.specs.declared.configuration.Column.{Column}
use Rattle.okws_plan.specs.declared.configuration.Config.{Config}
use Rattle.okws_plan.specs.declared.configuration.ProxyPlan.{ProxyPlan}
use Rattle.okws_plan.specs.declared.configuration.Query.{Query}
use Rattle.okws_plan.specs.declared.configuration.Table.{Table}
use Rattle.okws_plan.specs.declared.statement.Action.{Action}
use Rattle.okws_plan.specs.declared.statement.Action.TheVariants.{Select}
use Rattle.two_worlds.specs.View.{Right, right_of, rights, name_in, second_of, is_named, unnumbered_join, unnumbered, first_read, second_read, by_table}
use Rattle.two_worlds.specs.Agreement.{LawfulConfig}
use Rattle.two_worlds.proofs.Rights as rights
use Rattle.two_worlds.proofs.Rights.{Numbered}
use Rattle.two_worlds.proofs.Seeing.{RightsFit, Holds, mentions_fit, fits_mention}
use Rattle.two_worlds.proofs.ByTable.{Selecting, selecting, by_one, by_both, first_right, second_right, unnumbered_plain, joins_unnumbered, first_fits, second_fits}
use Rattle.two_worlds.proofs.Tables as tables
use Rattle.two_worlds.proofs.Tables.{Named}

-- lists

pub all_at : {A : Type 0} (f : A → Bool) (xs : List A) (i : ℕ) (x : A) → list_all f xs ≡ true → slice_get xs i ≡ Some x → f x ≡ true
all_at f [] i x h e = absurd (let no : None ≡ Some x = e in cc)
all_at f (y ∷ xs) zero x h e = let same : y ≡ x = (let some : Some y ≡ Some x = e in cc) in ap f (sym same) ∙ (and_parts (f y) (list_all f xs) h).0
all_at f (y ∷ xs) (suc i) x h e = all_at f xs i x (and_parts (f y) (list_all f xs) h).1 e

all_from_none : {A : Type 0} (f : A → Bool) (xs : List A) → list_any (λ (x : A). not (f x)) xs ≡ false → list_all f xs ≡ true
all_from_none f [] h = refl
all_from_none {A} f (x ∷ xs) h = by (f x) refl h (λ k. all_from_none f xs k)
  where
    by : (s : Bool) → f x ≡ s → (not s || list_any (λ (y : A). not (f y)) xs) ≡ false → (list_any (λ (y : A). not (f y)) xs ≡ false → list_all f xs ≡ true) → (s && list_all f xs) ≡ true
    by true is h more = more h
    by false is h more = absurd (true≢false h)

there : {A : Type 0} (xs : List A) (i : ℕ) → i < length xs → (x : A) × (slice_get xs i ≡ Some x)
there [] i h = absurd (omega arith)
there (x ∷ more) zero h = (x, refl)
there (x ∷ more) (suc i) h = there more i (omega arith)

-- a lawful configuration

pub plan_sound : (C : Config) (p : ℕ) (plan : ProxyPlan) → LawfulConfig C → slice_get C.proxies p ≡ Some plan → is_sound_plan plan ≡ true
plan_sound C p plan lawful e = all_at is_sound_plan C.proxies p plan lawful.sound.plans e

pub plan_parts : (plan : ProxyPlan) → is_sound_plan plan ≡ true → Named plan.tables × Numbered plan.queries × (list_all is_sound_table plan.tables ≡ true)
plan_parts plan h =
    let one = and_parts (nat_le (length plan.tables) MOST_TABLES) _ h in
    let two = and_parts (nat_le (length plan.queries) MOST_QUERIES) _ one.1 in
    let three = and_parts (are_distinct same_bytes (map (λ (t : Table). t.name) plan.tables)) _ two.1 in
    let four = and_parts (are_distinct (λ (a b : ℕ). a == b) (map (λ (q : Query). q.number) plan.queries)) (list_all is_sound_table plan.tables) three.1 in
    (three.0, four.0, four.1)

pub numbered : (C : Config) (p : ℕ) → LawfulConfig C → Numbered (queries_of (slice_get C.proxies p))
numbered C p lawful = by (slice_get C.proxies p) refl
  where
    by : (o : Option ProxyPlan) → slice_get C.proxies p ≡ o → Numbered (queries_of o)
    by None e = refl
    by (Some plan) e = (plan_parts plan (plan_sound C p plan lawful e)).1

pub named : (C : Config) (p : ℕ) → LawfulConfig C → Named (tables C p)
named C p lawful = by (slice_get C.proxies p) refl
  where
    by : (o : Option ProxyPlan) → slice_get C.proxies p ≡ o → Named (tables_of o)
    by None e = refl
    by (Some plan) e = (plan_parts plan (plan_sound C p plan lawful e)).0

one_name : (ts : List Table) (i j : ℕ) (t u : Table) → Named ts → slice_get ts i ≡ Some t → slice_get ts j ≡ Some u → same_bytes t.name u.name ≡ true → t ≡ u
one_name [] i j t u named e f h = absurd (let no : None ≡ Some t = e in cc)
one_name (v ∷ ts) zero zero t u named e f h = let one : Some v ≡ Some t = e in let two : Some v ≡ Some u = f in cc
one_name (v ∷ ts) zero (suc j) t u named e f h =
    let same : v ≡ t = (let some : Some v ≡ Some t = e in cc) in
    let parts = and_parts (not (list_any (λ (later : List ℕ). same_bytes v.name later) (map (λ (w : Table). w.name) ts))) _ named in
    absurd (true≢false (sym h ∙ ap (λ (w : Table). same_bytes w.name u.name) (sym same) ∙ tables.named_later v.name ts j u (not-true _ parts.0) f))
one_name (v ∷ ts) (suc i) zero t u named e f h =
    let same : v ≡ u = (let some : Some v ≡ Some u = f in cc) in
    let parts = and_parts (not (list_any (λ (later : List ℕ). same_bytes v.name later) (map (λ (w : Table). w.name) ts))) _ named in
    absurd (true≢false (sym h ∙ ap (λ (w : Table). same_bytes t.name w.name) (sym same) ∙ tables.other_name v.name t.name (tables.named_later v.name ts i t (not-true _ parts.0) e)))
one_name (v ∷ ts) (suc i) (suc j) t u named e f h = one_name ts i j t u (and_parts _ _ named).1 e f h

-- what is known of a query that a service is granted: its table
pub record Known (C : Config) (s p : ℕ) (x : Query) : Type 0 where
  pub table : Table
  pub at : slice_get (tables C p) x.statement.table ≡ Some table
  pub name : (right_of C p x).table ≡ table.name
  pub columns : (right_of C p x).columns ≡ table.columns
  pub rights_fit : RightsFit (rights C s p) table

-- of one that joins no table
pub record KnownOne (C : Config) (s p : ℕ) (x : Query) (known : Known C s p x) : Type 0 where
  pub fits : action_fits known.table.columns x.statement.parameters x.statement.action ≡ true
  pub holds : Holds (rights C s p) known.table.name x.statement.action
  pub own : is_named (rights C s p) known.table.name ≡ true

-- of one that joins a second table
pub record KnownBoth (C : Config) (s p : ℕ) (x : Query) (known : Known C s p x) (join : Join) : Type 0 where
  pub select : Selecting x.statement.action join
  pub second : Table
  pub at : slice_get (tables C p) join.table ≡ Some second
  pub name : (right_of C p x).second ≡ second.name
  pub columns : (right_of C p x).others ≡ second.columns
  pub holds : Holds (rights C s p) known.table.name (Select (first_read (length known.table.columns) join select.selection))
  pub second_holds : Holds (rights C s p) second.name (Select (second_read (length known.table.columns) join select.selection))
  pub own : is_named (rights C s p) known.table.name ≡ true
  pub second_own : is_named (rights C s p) second.name ≡ true
  pub rights_fit : RightsFit (rights C s p) second

-- the rules that a query keeps
pub record Ruled (C : Config) (p : ℕ) (x : Query) : Type 0 where
  pub table : Table
  pub at : slice_get (tables C p) x.statement.table ≡ Some table
  pub join : join_fits (tables C p) x.statement.table (join_of x.statement.action) ≡ true
  pub fits : action_fits (read_columns (tables C p) x.statement.table (join_of x.statement.action)) x.statement.parameters x.statement.action ≡ true

pub ruled : (C : Config) (p q : ℕ) (x : Query) → LawfulConfig C → query C p q ≡ Some x → Ruled C p x
ruled C p q x lawful e =
    let rule : keeps_rules (tables C p) x.statement ≡ true = lawful.rules p q x e in
    let o : Option Join = join_of x.statement.action in
    let first = and_parts (nat_lt x.statement.table (length (tables C p))) _ rule in
    let second = and_parts _ _ first.1 in
    let third = and_parts (join_fits (tables C p) x.statement.table o) _ second.1 in
    let fourth = and_parts (action_fits (read_columns (tables C p) x.statement.table o) x.statement.parameters x.statement.action) _ third.1 in
    let found = there (tables C p) x.statement.table (ltb-true x.statement.table (length (tables C p)) first.0) in
    record { table = found.0; at = found.1; join = third.0; fits = fourth.0 }

-- of one that joins no table
pub one_fits : (C : Config) (p : ℕ) (x : Query) (r : Ruled C p x) → join_of x.statement.action ≡ None → action_fits r.table.columns x.statement.parameters x.statement.action ≡ true
one_fits C p x r plain =
    subst (λ (o : Option Table). action_fits (columns_in o) x.statement.parameters x.statement.action ≡ true) r.at
    (subst (λ (o : Option Join). action_fits (read_columns (tables C p) x.statement.table o) x.statement.parameters x.statement.action ≡ true) plain r.fits)

-- of one that joins a second
record RuledBoth (C : Config) (p : ℕ) (x : Query) (r : Ruled C p x) (join : Join) : Type 0 where
  select : Selecting x.statement.action join
  second : Table
  at : slice_get (tables C p) join.table ≡ Some second
  fits : selection_fits (r.table.columns ++ second.columns) x.statement.parameters select.selection ≡ true
  kinds : are_of_kind (slice_get (r.table.columns ++ second.columns) join.left) (slice_get (r.table.columns ++ second.columns) join.right) ≡ true

ruled_both : (C : Config) (p : ℕ) (x : Query) (r : Ruled C p x) (join : Join) → join_of x.statement.action ≡ Some join → RuledBoth C p x r join
ruled_both C p x r join is =
    let select = selecting x.statement.action join is in
    let rule : join_fits (tables C p) x.statement.table (Some join) ≡ true = subst (λ (o : Option Join). join_fits (tables C p) x.statement.table o ≡ true) is r.join in
    let fit : action_fits (columns_of (tables C p) x.statement.table ++ columns_of (tables C p) join.table) x.statement.parameters x.statement.action ≡ true =
    subst (λ (o : Option Join). action_fits (read_columns (tables C p) x.statement.table o) x.statement.parameters x.statement.action ≡ true) is r.fits in
    let one = and_parts (nat_lt join.table (length (tables C p))) _ rule in
    let two = and_parts (not (join.table == x.statement.table)) _ one.1 in
    let three = and_parts (are_apart (length (columns_of (tables C p) x.statement.table)) join.left join.right) _ two.1 in
    let found = there (tables C p) join.table (ltb-true join.table (length (tables C p)) one.0) in
    let both : columns_of (tables C p) x.statement.table ++ columns_of (tables C p) join.table ≡ r.table.columns ++ found.0.columns = λ i. columns_in (r.at i) ++ columns_in (found.1 i) in
    record {
      select = select;
      second = found.0;
      at = found.1;
      fits = subst (λ (a : Action). action_fits (r.table.columns ++ found.0.columns) x.statement.parameters a ≡ true) select.is (subst (λ (cs : List Column). action_fits cs x.statement.parameters x.statement.action ≡ true) both fit);
      kinds = subst (λ (cs : List Column). are_of_kind (slice_get cs join.left) (slice_get cs join.right) ≡ true) both three.1;
    }

-- a right of this number is that of the query
action_of_right : (C : Config) (p : ℕ) (x : Query) → join_of x.statement.action ≡ None → by_table (right_of C p x) ≡ right_of C p x ∷ []
action_of_right C p x plain = by_one (right_of C p x) (joins_unnumbered x.statement.action ∙ ap unnumbered_join plain)

none_of_one : (a : Bool) → a ≡ true → (not a || false) ≡ false
none_of_one true h = refl
none_of_one false h = absurd (true≢false (sym h))

none_of_two : (a b : Bool) → a ≡ true → b ≡ true → (not a || (not b || false)) ≡ false
none_of_two true true h k = refl
none_of_two true false h k = absurd (true≢false (sym k))
none_of_two false b h k = absurd (true≢false (sym h))

rights_fit_all : (C : Config) (s p i : ℕ) (t : Table) → LawfulConfig C → slice_get (tables C p) i ≡ Some t → RightsFit (rights C s p) t
rights_fit_all C s p i t lawful at = all_from_none fit (rights C s p) (by (list_any (λ (r : Right). not (fit r)) (rights C s p)) refl)
  where
    fit : Right → Bool
    fit r = not (same_bytes r.table t.name) || mentions_fit t.columns r.action

    -- a table of this name is this one
    same_table : (j : ℕ) (u : Table) → slice_get (tables C p) j ≡ Some u → same_bytes u.name t.name ≡ true → u ≡ t
    same_table j u e h = one_name (tables C p) j i u t (named C p lawful) e at h

    fits_there : (name : List ℕ) (a : Action) (j : ℕ) (u : Table) → slice_get (tables C p) j ≡ Some u → name ≡ u.name → mentions_fit u.columns a ≡ true → (not (same_bytes name t.name) || mentions_fit t.columns a) ≡ true
    fits_there name a j u e is h = by (same_bytes name t.name) refl
      where
        by : (b : Bool) → same_bytes name t.name ≡ b → (not b || mentions_fit t.columns a) ≡ true
        by true k = subst (λ (v : Table). mentions_fit v.columns a ≡ true) (same_table j u e (ap (λ (n : List ℕ). same_bytes n t.name) (sym is) ∙ k)) h
        by false k = refl

    one_fit : (x : Query) (r : Ruled C p x) → join_of x.statement.action ≡ None → list_any (λ (r : Right). not (fit r)) (by_table (right_of C p x)) ≡ false
    one_fit x r plain =
        let fits : mentions_fit r.table.columns (unnumbered x.statement.action) ≡ true =
        ap (mentions_fit r.table.columns) (unnumbered_plain x.statement.action plain) ∙ fits_mention r.table.columns x.statement.parameters x.statement.action (one_fits C p x r plain) in
        ap (list_any (λ (r : Right). not (fit r))) (action_of_right C p x plain)
        ∙ none_of_one (fit (right_of C p x)) (fits_there (right_of C p x).table (unnumbered x.statement.action) x.statement.table r.table r.at (ap name_in r.at) fits)

    both_fit : (x : Query) (r : Ruled C p x) (join : Join) → join_of x.statement.action ≡ Some join → list_any (λ (r : Right). not (fit r)) (by_table (right_of C p x)) ≡ false
    both_fit x r join is =
        let b = ruled_both C p x r join is in
        let own : Right = right_of C p x in
        let width : length own.columns ≡ length r.table.columns = ap (λ (o : Option Table). length (columns_in o)) r.at in
        let first : mentions_fit r.table.columns (Select (first_read (length own.columns) join b.select.selection)) ≡ true =
        ap (λ (n : ℕ). mentions_fit r.table.columns (Select (first_read n join b.select.selection))) width ∙ first_fits r.table.columns join b.select.selection in
        let second : mentions_fit b.second.columns (Select (second_read (length own.columns) join b.select.selection)) ≡ true =
        ap (λ (n : ℕ). mentions_fit b.second.columns (Select (second_read n join b.select.selection))) width ∙ second_fits r.table.columns b.second.columns x.statement.parameters join b.select.selection b.fits b.kinds in
        let second_name : own.second ≡ b.second.name = ap (λ (o : Option Join). name_in (second_of (tables C p) o)) is ∙ ap name_in b.at in
        ap (list_any (λ (r : Right). not (fit r))) (by_both own x.statement.action join b.select refl)
        ∙ none_of_two (fit (first_right own join b.select.selection)) (fit (second_right own join b.select.selection))
        (fits_there own.table (Select (first_read (length own.columns) join b.select.selection)) x.statement.table r.table r.at (ap name_in r.at) first)
        (fits_there own.second (Select (second_read (length own.columns) join b.select.selection)) join.table b.second b.at second_name second)

    none : (x : Query) → Ruled C p x → list_any (λ (r : Right). not (fit r)) (by_table (right_of C p x)) ≡ false
    none x r = by_join (join_of x.statement.action) refl
      where
        by_join : (o : Option Join) → join_of x.statement.action ≡ o → list_any (λ (r : Right). not (fit r)) (by_table (right_of C p x)) ≡ false
        by_join None is = one_fit x r is
        by_join (Some join) is = both_fit x r join is

    by : (b : Bool) → list_any (λ (r : Right). not (fit r)) (rights C s p) ≡ b → b ≡ false
    by true e =
        let test : Right → Bool = λ (r : Right). list_any (λ (r : Right). not (fit r)) (by_table r) in
        let one = rights.picked (grants C s p) (right_of C p) test (queries_of (slice_get C.proxies p)) (numbered C p lawful) (sym (rights.some_by_table C s p (λ (r : Right). not (fit r))) ∙ e) in
        absurd (true≢false (sym one.passed ∙ none one.query (ruled C p one.query.number one.query lawful one.found)))
    by false e = refl

pub known : (C : Config) (s p q : ℕ) (x : Query) → LawfulConfig C → query C p q ≡ Some x → Known C s p x
known C s p q x lawful found =
    let r = ruled C p q x lawful found in
    record { table = r.table; at = r.at; name = ap name_in r.at; columns = ap columns_in r.at; rights_fit = rights_fit_all C s p x.statement.table r.table lawful r.at }

pub known_one : (C : Config) (s p q : ℕ) (x : Query) (lawful : LawfulConfig C) → grants C s p q ≡ true → (found : query C p q ≡ Some x) → join_of x.statement.action ≡ None → KnownOne C s p x (known C s p q x lawful found)
unfolding known ruled
known_one C s p q x lawful held found plain = record {
  fits = one_fits C p x r plain;
  holds = λ test passes. rights.counted_by_table C s p q x (λ (r' : Right). same_bytes r'.table r.table.name && test r'.action) held found
      (ap (list_any (λ (r' : Right). same_bytes r'.table r.table.name && test r'.action)) (action_of_right C p x plain)
      ∙ or_left _ false (and_from _ _ same (ap test (unnumbered_plain x.statement.action plain) ∙ passes)));
  own = rights.counted_by_table C s p q x (λ (r' : Right). same_bytes r'.table r.table.name) held found
      (ap (list_any (λ (r' : Right). same_bytes r'.table r.table.name)) (action_of_right C p x plain) ∙ or_left _ false same);
}
  where
    r : Ruled C p x
    r = ruled C p q x lawful found

    same : same_bytes (right_of C p x).table r.table.name ≡ true
    same = (bytes_decides (right_of C p x).table r.table.name).1 (ap name_in r.at)

pub known_both : (C : Config) (s p q : ℕ) (x : Query) (lawful : LawfulConfig C) → grants C s p q ≡ true → (found : query C p q ≡ Some x) → (join : Join) → join_of x.statement.action ≡ Some join → KnownBoth C s p x (known C s p q x lawful found) join
unfolding ruled known
known_both C s p q x lawful held found join is = record {
  select = b.select;
  second = b.second;
  at = b.at;
  name = second_name;
  columns = ap (λ (o : Option Join). columns_in (second_of (tables C p) o)) is ∙ ap columns_in b.at;
  holds = λ test passes. rights.counted_by_table C s p q x (λ (r' : Right). same_bytes r'.table r.table.name && test r'.action) held found
      (ap (list_any (λ (r' : Right). same_bytes r'.table r.table.name && test r'.action)) sides
      ∙ or_left _ _ (and_from _ _ same (ap (λ (n : ℕ). test (Select (first_read n join b.select.selection))) width ∙ passes)));
  second_holds = λ test passes. rights.counted_by_table C s p q x (λ (r' : Right). same_bytes r'.table b.second.name && test r'.action) held found
      (ap (list_any (λ (r' : Right). same_bytes r'.table b.second.name && test r'.action)) sides
      ∙ or_right _ _ (or_left _ false (and_from _ _ second_same (ap (λ (n : ℕ). test (Select (second_read n join b.select.selection))) width ∙ passes))));
  own = rights.counted_by_table C s p q x (λ (r' : Right). same_bytes r'.table r.table.name) held found (ap (list_any (λ (r' : Right). same_bytes r'.table r.table.name)) sides ∙ or_left _ _ same);
  second_own = rights.counted_by_table C s p q x (λ (r' : Right). same_bytes r'.table b.second.name) held found
      (ap (list_any (λ (r' : Right). same_bytes r'.table b.second.name)) sides ∙ or_right _ _ (or_left _ false second_same));
  rights_fit = rights_fit_all C s p join.table b.second lawful b.at;
}
  where
    r : Ruled C p x
    r = ruled C p q x lawful found

    b : RuledBoth C p x r join
    b = ruled_both C p x r join is

    width : length (right_of C p x).columns ≡ length r.table.columns
    width = ap (λ (o : Option Table). length (columns_in o)) r.at

    sides : by_table (right_of C p x) ≡ first_right (right_of C p x) join b.select.selection ∷ second_right (right_of C p x) join b.select.selection ∷ []
    sides = by_both (right_of C p x) x.statement.action join b.select refl

    second_name : (right_of C p x).second ≡ b.second.name
    second_name = ap (λ (o : Option Join). name_in (second_of (tables C p) o)) is ∙ ap name_in b.at

    same : same_bytes (right_of C p x).table r.table.name ≡ true
    same = (bytes_decides (right_of C p x).table r.table.name).1 (ap name_in r.at)

    second_same : same_bytes (right_of C p x).second b.second.name ≡ true
    second_same = (bytes_decides (right_of C p x).second b.second.name).1 second_name
