-- What several calls print, one after the other.
use Rattle.std.proofs.Common.{◌≡◌, List, ℕ, [], ◌++◌, append-nil, sym, subst}
use Rattle.std.specs.Prelude.{Result, Ok, Err, IsErr}
use Rattle.okws_outer.specs.Printing.{Printer, PrintsOn, PrintsFront, PrintsAs}
use Rattle.okws_outer.proofs.Printed.{then_on, whole_front, front_before, front_then}

-- the same bytes are printed
pub same_on : (a b : Printer) (x y : List ℕ) → x ≡ y → PrintsOn a b x → PrintsOn a b y
same_on a b x y e h = subst (PrintsOn a b) e h

pub same_front : (a b : Printer) (x y : List ℕ) → x ≡ y → PrintsFront a b x → PrintsFront a b y
same_front a b x y e h = subst (PrintsFront a b) e h

pub same_as : {V E : Type 0} (r : Result V E) (a b : Printer) (x y : List ℕ) → x ≡ y → PrintsAs r a b x → PrintsAs r a b y
same_as (Ok v) a b x y e h = same_on a b x y e h
same_as (Err v) a b x y e h = same_front a b x y e h

-- all of it was printed
pub all_front : (a b : Printer) (x : List ℕ) → PrintsOn a b x → PrintsFront a b x
all_front a b x h = same_front a b (x ++ []) x (append-nil x) (whole_front a b x [] h)

-- what holds where memory was refused
pub by_err : {V E : Type 0} (r : Result V E) (P : Result V E → Type 0) → IsErr r → ((e : E) → P (Err e)) → P r
by_err (Ok v) P h f = absurd cc
by_err (Err e) P h f = f e

pub front_err : {V E : Type 0} (r : Result V E) (a b : Printer) (x : List ℕ) → IsErr r → PrintsFront a b x → PrintsAs r a b x
front_err r a b x h front = by_err r (λ v. PrintsAs v a b x) h (λ e. front)
