use Rattle.std.proofs.Common.{◌≡◌, ◌∙◌, ◌==◌, ◌&&◌, ◌||◌, ℕ, Bool, true, false, List, [], ◌∷◌, ◌++◌, Option, Some, None, refl, ap, arith, not, filter}
use Rattle.std.specs.Prelude.{if◌then◌else◌, nat_lt, unwrap_or}
use Rattle.okws_base.specs.Past.{is_just}
use Rattle.okws_plan.specs.declared.configuration.Config.{Config}
use Rattle.pubd_core.specs.Readers.{is_reader, heard_in, kept_readers, is_kept, other_readers, is_due, is_wanted}
use Rattle.pubd_core.specs.declared.kept.Publication.{Publication}
use Rattle.pubd_core.specs.declared.readers.Reader.{Reader}

same_number : (a b : ℕ) → (a == b) ≡ true → a ≡ b
same_number a b h = grind (arith, h)

both : (a b : Bool) → (a && b) ≡ true → (a ≡ true) × (b ≡ true)
both true b h = (refl, h)
both false b h = cc

or_true : (b : Bool) → (b || true) ≡ true
or_true true = refl
or_true false = refl

pub same_some : (x m : ℕ) → Some x ≡ Some m → x ≡ m
same_some x m e = ap (λ o. unwrap_or o 0) e

-- both numbers of a pair are those of another
pub same_pair : (s k t j : ℕ) → ((s == t) && (k == j)) ≡ true → (s ≡ t) × (k ≡ j)
same_pair s k t j h = (same_number s t (both _ _ h).0, same_number k j (both _ _ h).1)

turned : (s k t j : ℕ) → ((t == s) && (j == k)) ≡ ((s == t) && (k == j))
turned s k t j = grind arith

-- Whether a reader of (t, j) is kept among those of s.
abbrev pub keeps : ℕ → ℕ → Option ℕ → ℕ → ℕ → Bool
keeps s last standing t j = not (t == s) || (nat_lt last j || is_just j standing)

kept_step : (b d q : Bool) (r : Reader) (F : List Reader) (t j : ℕ) (rest : Option ℕ) → is_reader t j r ≡ d → (d ≡ true → b ≡ q) → heard_in F t j ≡ (if q then rest else None)
    → heard_in (if b then r ∷ F else F) t j ≡ (if q then (if d then Some r.heard else rest) else None)
kept_step true true true r F t j rest e same h = rw e refl
kept_step true true false r F t j rest e same h = let x = same refl in cc
kept_step true false q r F t j rest e same h = rw e h
kept_step false true true r F t j rest e same h = let x = same refl in cc
kept_step false true false r F t j rest e same h = h
kept_step false false q r F t j rest e same h = h

either : {A : Type 0} (b : Bool) (x : A) → x ≡ (if b then x else x)
either true x = refl
either false x = refl

-- how much is heard of the readers that are kept
pub heard_kept : (s last : ℕ) (standing : Option ℕ) (R : List Reader) (t j : ℕ) → heard_in (kept_readers s last standing R) t j ≡ (if keeps s last standing t j then heard_in R t j else None)
heard_kept s last standing [] t j = either (keeps s last standing t j) None
heard_kept s last standing (r ∷ R) t j =
    kept_step (is_kept s last standing r) (is_reader t j r) (keeps s last standing t j) r (kept_readers s last standing R) t j (heard_in R t j) refl
    (λ e. let is = same_pair r.service r.incarnation t j e in rw (is.0, is.1) refl) (heard_kept s last standing R t j)

put_step : (b d q : Bool) (x r : Reader) (F : List Reader) (t j : ℕ) (rest : Option ℕ) → is_reader t j x ≡ d → (d ≡ true → b ≡ q) → heard_in (F ++ r ∷ []) t j ≡ (if q then Some r.heard else rest)
    → heard_in ((if not b then x ∷ F else F) ++ r ∷ []) t j ≡ (if q then Some r.heard else (if d then Some x.heard else rest))
put_step true true true x r F t j rest e same h = h
put_step true true false x r F t j rest e same h = let y = same refl in cc
put_step true false q x r F t j rest e same h = h
put_step false true true x r F t j rest e same h = let y = same refl in cc
put_step false true false x r F t j rest e same h = rw e refl
put_step false false q x r F t j rest e same h = rw e h

-- how much is heard after a reader was put in the place of the one that was
pub heard_put : (r : Reader) (R : List Reader) (t j : ℕ) → heard_in (other_readers r.service r.incarnation R ++ r ∷ []) t j ≡ (if (r.service == t) && (r.incarnation == j) then Some r.heard else heard_in R t j)
heard_put r [] t j = refl
heard_put r (x ∷ R) t j =
    put_step (is_reader r.service r.incarnation x) (is_reader t j x) ((r.service == t) && (r.incarnation == j)) x r (other_readers r.service r.incarnation R) t j (heard_in R t j) refl
    (λ e. let is = same_pair x.service x.incarnation t j e in rw (is.0, is.1) (turned r.service r.incarnation t j)) (heard_put r R t j)

wanted_step : (d : Bool) (C : Config) (p : Publication) (r : Reader) (R : List Reader) (s k m : ℕ) → is_reader s k r ≡ d → (if d then Some r.heard else heard_in R s k) ≡ Some m
    → is_due C s m p ≡ true → (heard_in R s k ≡ Some m → is_wanted C R p ≡ true) → is_wanted C (r ∷ R) p ≡ true
wanted_step true C p r R s k m e heard due more =
    let is = same_pair r.service r.incarnation s k e in
    let now : is_due C r.service r.heard p ≡ true = rw (is.0, same_some r.heard m heard) due in
    rw now refl
wanted_step false C p r R s k m e heard due more = rw (more heard) (or_true _)

-- what is due to a reader is wanted
pub wanted_by : (C : Config) (p : Publication) (R : List Reader) (s k m : ℕ) → heard_in R s k ≡ Some m → is_due C s m p ≡ true → is_wanted C R p ≡ true
wanted_by C p [] s k m heard due = cc
wanted_by C p (r ∷ R) s k m heard due = wanted_step (is_reader s k r) C p r R s k m refl heard due (λ h. wanted_by C p R s k m h due)
