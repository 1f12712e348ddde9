-- Small laws of tests.
use Rattle.std.proofs.Common.{◌≡◌, Bool, true, false, cond, refl, ap, ◌∙◌, sym}
use Rattle.std.specs.Prelude.{◌&&◌, ◌||◌, not}

joined : (e A K : Bool) → (e || (A || K)) ≡ ((A || e) || K)
joined true true K = refl
joined true false K = refl
joined false true K = refl
joined false false K = refl

cut : (e A K : Bool) → cond e false (not A && K) ≡ (not (A || e) && K)
cut true true K = refl
cut true false K = refl
cut false true K = refl
cut false false K = refl

-- What is put in, beside what was there.
pub put_more : (now before e A later K : Bool) → later ≡ (A || e) → now ≡ (e || before) → before ≡ (A || K) → now ≡ (later || K)
put_more now before e A later K l n b = n ∙ ap (λ (x : Bool). e || x) b ∙ joined e A K ∙ ap (λ (x : Bool). x || K) (sym l)

-- What is taken out, of what was left.
pub take_more : (now before e A later K : Bool) → later ≡ (A || e) → now ≡ cond e false before → before ≡ (not A && K) → now ≡ (not later && K)
take_more now before e A later K l n b = n ∙ ap (λ (x : Bool). cond e false x) b ∙ cut e A K ∙ ap (λ (x : Bool). not x && K) (sym l)

-- What isn't taken out.
pub without : (e K : Bool) → cond e false K ≡ (not e && K)
without true K = refl
without false K = refl

-- What is taken out by parts, of what was left.
pub taken_more : (now before e A later K : Bool) → later ≡ (A || e) → now ≡ (not e && before) → before ≡ (not A && K) → now ≡ (not later && K)
taken_more now before e A later K l n b = take_more now before e A later K l (n ∙ sym (without e before)) b

-- What was put in is taken out again, where it was not there before.
pub undone : (now mid before A K : Bool) → now ≡ (not A && mid) → mid ≡ before → before ≡ (A || K) → (A ≡ true → K ≡ false) → now ≡ K
undone now mid before true K n m b fresh = n ∙ sym (fresh refl)
undone now mid before false K n m b fresh = n ∙ m ∙ b

grouped : (k a e : Bool) → ((k || a) || e) ≡ (k || (a || e))
grouped true a e = refl
grouped false a e = refl

-- One part more beside what was there first.
pub noted : (now before K A e other later : Bool) → later ≡ (A || other) → e ≡ other → now ≡ (before || e) → before ≡ (K || A) → now ≡ (K || later)
noted now before K A e other later l s n b =
    n ∙ ap (λ (x : Bool). x || e) b ∙ ap (λ (x : Bool). (K || A) || x) s ∙ grouped K A other ∙ ap (λ (x : Bool). K || x) (sym l)

-- What is taken out after a part of it came.
pub taken_back : (now mid before part A K : Bool) → now ≡ (not A && mid) → mid ≡ before → before ≡ (part || K) → (part ≡ true → A ≡ true) → now ≡ (not A && K)
taken_back now mid before true true K n m b more = n
taken_back now mid before true false K n m b more = let never : ⊥ = (let all : false ≡ true = more refl in cc) in absurd never
taken_back now mid before false A K n m b more = n ∙ ap (λ (x : Bool). not A && x) (m ∙ b)

-- What comes where it is already.
pub come_already : (e K : Bool) → (e ≡ true → K ≡ true) → K ≡ (e || K)
come_already true K there = there refl
come_already false K there = refl

-- What goes where it isn't.
pub gone_already : (e K : Bool) → (e ≡ true → K ≡ false) → K ≡ (not e && K)
gone_already true K gone = gone refl
gone_already false K gone = refl

-- Of two parts either is there.
pub or_second : (a b : Bool) → b ≡ true → (a || b) ≡ true
or_second true b h = refl
or_second false b h = h

-- What isn't in the second part of two isn't in both.
pub and_second : (a b : Bool) → b ≡ false → (a && b) ≡ false
and_second true b h = h
and_second false b h = refl

-- Of two parts both are there.
pub and_first : (a b : Bool) → (a && b) ≡ true → a ≡ true
and_first true b h = refl
and_first false b h = h

pub and_rest : (a b : Bool) → (a && b) ≡ true → b ≡ true
and_rest true b h = h
and_rest false b h = let never : ⊥ = cc in absurd never

pub and_both : (a b : Bool) → a ≡ true → b ≡ true → (a && b) ≡ true
and_both a b h k = ap (λ (x : Bool). x && b) h ∙ k

-- What came is taken out again.
pub out_again : (A K : Bool) → (not A && (A || K)) ≡ (not A && K)
out_again true K = refl
out_again false K = refl
