-- That the seats at the launcher's lock take in what number 0's has seen there.
use Rattle.std.proofs.Common.{◌≡◌, ◌∙◌, ℕ, zero, suc, ◌+◌, ◌<◌, List, [], ◌∷◌, ◌++◌, length, get_or, set, refl, sym, ap, subst, arith}
use mathlib.Core.Logic.{dite}
use native.Mathlib.Decide.{ℕ_discrete}
use Rattle.okws_base.specs.Turns.{of, GrowsBy, Behind}
use Rattle.turn_lock.specs.Rows.{RestsAt}
use Rattle.turn_lock.specs.Seats.{TurnIs, SeatIs}
use Rattle.turn_lock.proofs.Grows.{grows_on, of-grows}
use Rattle.turn_lock.proofs.Views.{of-append}
use Rattle.launch_turns.specs.Deeds.{by_deed}
use Rattle.launch_turns.specs.declared.deed.Deed.{Deed}
use Rattle.site_run.specs.Opening.{AllSeeMore, AreQuiet, AreTurns, SeesMore, seen_first}

abbrev Turns : Type 0
Turns = List (SeatIs Deed)

-- ---- seats that may have seen more

same_more : (a : SeatIs Deed) → SeesMore a a
same_more a = record { is = refl; grows = ([], refl, refl) }

then_more : (a b c : SeatIs Deed) → SeesMore a b → SeesMore b c → SeesMore a c
then_more a b c h i =
    let number : b.number ≡ a.number = ap (λ (x : SeatIs Deed). x.number) h.is in
    record {
      is = i.is ∙ ap (λ (x : SeatIs Deed). record x { seen = c.seen }) h.is;
      grows = grows_on by_deed a.number a.seen b.seen c.seen h.grows (subst (λ k. GrowsBy by_deed k b.seen c.seen) number i.grows);
    }

pub all_same : (as' : Turns) → AllSeeMore as' as'
all_same [] = tt
all_same (a ∷ as') = (same_more a, all_same as')

all_then : (as' bs cs : Turns) → AllSeeMore as' bs → AllSeeMore bs cs → AllSeeMore as' cs
all_then [] [] [] h i = tt
all_then [] [] (c ∷ cs) h i = absurd i
all_then [] (b ∷ bs) cs h i = absurd h
all_then (a ∷ as') [] cs h i = absurd h
all_then (a ∷ as') (b ∷ bs) [] h i = absurd i
all_then (a ∷ as') (b ∷ bs) (c ∷ cs) h i = (then_more a b c h.0 i.0, all_then as' bs cs h.1 i.1)

-- one of them has
set_more : (as' : Turns) (i : ℕ) (a b : SeatIs Deed) → a ≡ get_or as' i a → SeesMore a b → AllSeeMore as' (set as' i b)
set_more [] i a b e h = tt
set_more (x ∷ as') zero a b e h = (subst (λ y. SeesMore y b) e h, all_same as')
set_more (x ∷ as') (suc i) a b e h = (same_more x, set_more as' i a b e h)

pub more_length : (as' bs : Turns) → AllSeeMore as' bs → length bs ≡ length as'
more_length [] [] h = refl
more_length [] (b ∷ bs) h = absurd h
more_length (a ∷ as') [] h = absurd h
more_length (a ∷ as') (b ∷ bs) h = ap suc (more_length as' bs h.1)

rests_more : (t : TurnIs) (a b : SeatIs Deed) → SeesMore a b → RestsAt t a → RestsAt t b
rests_more t a b h r = subst (RestsAt t) (sym h.is) (record { lock = r.lock; label_is = r.label_is; free = r.free })

-- each is where it was
pub turn_at : (t : TurnIs) (k i : ℕ) (as' bs : Turns) (b : SeatIs Deed) → AreTurns t k as' → AllSeeMore as' bs → i < length as' → b ≡ get_or bs i b → RestsAt t b × (b.number ≡ k + i)
turn_at t k i [] bs b h m l e = absurd (omega arith)
turn_at t k i (a ∷ as') [] b h m l e = absurd m
turn_at t k zero (a ∷ as') (x ∷ bs) b h m l e =
    let number : x.number ≡ k = ap (λ (y : SeatIs Deed). y.number) m.0.is ∙ h.0 in
    (subst (RestsAt t) (sym e) (rests_more t a x m.0 h.1), ap (λ (y : SeatIs Deed). y.number) e ∙ (number ∙ omega arith))
turn_at t k (suc i) (a ∷ as') (x ∷ bs) b h m l e = let r = turn_at t (suc k) i as' bs b h.2 m.1 (omega (arith, l)) e in let n = r.1 in (r.0, omega (arith, n))

-- what each has seen of its own entries is as it was
own_at : (t : TurnIs) (k i : ℕ) (as' bs : Turns) (b : SeatIs Deed) → AreTurns t k as' → AllSeeMore as' bs → AreQuiet k as' → i < length as' → 0 < k + i → b ≡ get_or bs i b
    → of by_deed (k + i) b.seen ≡ []
own_at t k i [] bs b h m q l o e = absurd (omega arith)
own_at t k i (a ∷ as') [] b h m q l o e = absurd m
own_at t k zero (a ∷ as') (x ∷ bs) b h m q l o e =
    let here : k + zero ≡ k = omega arith in
    let grows : GrowsBy by_deed k a.seen x.seen = subst (λ n. GrowsBy by_deed n a.seen x.seen) h.0 m.0.grows in
    ap (λ n. of by_deed n b.seen) here ∙ (ap (λ (y : SeatIs Deed). of by_deed k y.seen) e ∙ (of-grows by_deed k a.seen x.seen grows ∙ q.0 (omega (arith, o))))
own_at t k (suc i) (a ∷ as') (x ∷ bs) b h m q l o e =
    let here : k + suc i ≡ suc k + i = omega arith in
    ap (λ n. of by_deed n b.seen) here ∙ own_at t (suc k) i as' bs b h.2 m.1 q.1 (omega (arith, l)) (omega arith) e

seen_here : (as' : Turns) (a : SeatIs Deed) → 0 < length as' → a ≡ get_or as' 0 a → seen_first as' ≡ a.seen
seen_here [] a l e = absurd (omega arith)
seen_here (x ∷ as') a l e = ap (λ (y : SeatIs Deed). y.seen) (sym e)

seen_set : (as' : Turns) (i : ℕ) (b : SeatIs Deed) → 0 < i → seen_first (set as' i b) ≡ seen_first as'
seen_set [] i b l = refl
seen_set (x ∷ as') zero b l = absurd (omega arith)
seen_set (x ∷ as') (suc i) b l = refl

same_set : (as' : Turns) (a b : SeatIs Deed) → a ≡ get_or as' 0 a → b ≡ a → set as' 0 b ≡ as'
same_set [] a b e f = refl
same_set (x ∷ as') a b e f = ap (λ y. y ∷ as') (f ∙ e)

pub none_behind : (k : ℕ) (I J : List Deed) → Behind I J → of by_deed k J ≡ [] → of by_deed k I ≡ []
none_behind k I J h none = last (of by_deed k h.0) (of by_deed k I) (sym (of-append by_deed k h.0 I) ∙ (ap (of by_deed k) (sym h.1) ∙ none))
  where
    last : (xs ys : List Deed) → xs ++ ys ≡ [] → ys ≡ []
    last [] ys e = e
    last (x ∷ xs) ys e = let never : ⊥ = cc in absurd never

-- both seats rest while they meet
pub meets : (t : TurnIs) (olds xs : Turns) (i : ℕ) (a c b : SeatIs Deed) → AreTurns t 0 olds → AllSeeMore olds xs → 0 < i → i < length olds
    → a ≡ get_or xs 0 a → c ≡ a → b ≡ get_or (set xs 0 c) i b → RestsAt t a × RestsAt t b
meets t olds xs i a c b turns m o l ea ec eb =
    let there : b ≡ get_or xs i b = subst (λ bs. b ≡ get_or bs i b) (same_set xs a c ea ec) eb in
    ((turn_at t 0 0 olds xs a turns m (omega (arith, o, l)) ea).0, (turn_at t 0 i olds xs b turns m l there).0)

-- seat i takes in what number 0's has seen
pub record Tells (olds xs zs : Turns) (i : ℕ) : Type 0 where
  pub more : AllSeeMore olds zs
  pub first : seen_first zs ≡ seen_first xs
  pub told : AreQuiet 0 olds → of by_deed i (seen_first zs) ≡ []

pub tells : (t : TurnIs) (olds xs ys zs : Turns) (i : ℕ) (a c b d : SeatIs Deed) → AreTurns t 0 olds → AllSeeMore olds xs → 0 < i → i < length olds
    → a ≡ get_or xs 0 a → c ≡ a → ys ≡ set xs 0 c → b ≡ get_or ys i b → d ≡ record b { seen = d.seen } → GrowsBy by_deed b.number b.seen d.seen → Behind c.seen d.seen → zs ≡ set ys i d → Tells olds xs zs i
tells t olds xs ys zs i a c b d turns m o l ea ec ey eb ed grows behind ez =
    let long = more_length olds xs m in
    let some : 0 < length xs = omega (arith, o, l, long) in
    let same : ys ≡ xs = ey ∙ same_set xs a c ea ec in
    let there : b ≡ get_or xs i b = subst (λ bs. b ≡ get_or bs i b) same eb in
    let next : zs ≡ set xs i d = ez ∙ ap (λ bs. set bs i d) same in
    let first : seen_first zs ≡ seen_first xs = ap seen_first next ∙ seen_set xs i d o in
    let at : 0 + i ≡ i = omega arith in
    let number : b.number ≡ i = (turn_at t 0 i olds xs b turns m l there).1 ∙ at in
    let seen : seen_first zs ≡ c.seen = first ∙ (seen_here xs a some ea ∙ ap (λ (x : SeatIs Deed). x.seen) (sym ec)) in
    record {
      more = subst (AllSeeMore olds) (sym next) (all_then olds xs (set xs i d) m (set_more xs i b d there (record { is = ed; grows = grows })));
      first = first;
      told = λ quiet.
          let none : of by_deed i b.seen ≡ [] = ap (λ n. of by_deed n b.seen) (sym at) ∙ own_at t 0 i olds xs b turns m quiet l (subst (λ n. 0 < n) (sym at) o) there in
          let still : of by_deed i d.seen ≡ [] = of-grows by_deed i b.seen d.seen (subst (λ n. GrowsBy by_deed n b.seen d.seen) number grows) ∙ none in
          ap (of by_deed i) seen ∙ none_behind i c.seen d.seen behind still;
    }

-- and so on
pub told_on : (olds xs zs : Turns) (i : ℕ) → Tells olds xs zs i → (AreQuiet 0 olds → (k : ℕ) → 0 < k → k < i → of by_deed k (seen_first xs) ≡ [])
    → AreQuiet 0 olds → (k : ℕ) → 0 < k → k < suc i → of by_deed k (seen_first zs) ≡ []
told_on olds xs zs i h before quiet k o l = dite (ℕ_discrete k i)
    (λ is. ap (λ n. of by_deed n (seen_first zs)) is ∙ h.told quiet)
    (λ apart. ap (of by_deed k) h.first ∙ before quiet k o (omega (arith, l, apart)))
