-- How one print follows another.
use Rattle.std.proofs.Common.{◌≡◌, ℕ, ◌≤◌, List, [], ◌++◌, length, take, Bool, true, false, refl, sym, append_assoc, append-nil, arith}
use Rattle.std.proofs.KnownBytes.{Appends-nil, Appends-trans}
use Rattle.std.specs.Io.KnownBytes.{Appends}
use Rattle.std.specs.declared.option.Option.{Option}
use Rattle.okws_outer.specs.Streams.{AppendsPrefix}
use Rattle.okws_outer.specs.Printing.{Printed, Prints, Counted, CountsOn, Printer, PrintsOn, PrintsFront}
use Rattle.okws_outer.proofs.Given.{whole_is_part, prefix_after, prefix_of_part}

-- a sink that had not stopped was given the bytes, or a prefix of them
pub prints_given : (old new : Option (List ℕ)) (bytes : List ℕ) (failed : Bool) →
    (failed ≡ false → Appends old new bytes) → (failed ≡ true → AppendsPrefix old new bytes) → Prints old false new failed bytes
prints_given old new bytes true whole part start due p =
    record { part = prefix_after start old new due bytes (p.whole refl) (part refl); whole = λ e. cc }
prints_given old new bytes false whole part start due p =
    let all : Appends start new (due ++ bytes) = Appends-trans start old new due bytes (p.whole refl) (whole refl) in
    record { part = whole_is_part start new (due ++ bytes) all; whole = λ e. all }

-- nothing is printed
pub prints_nothing : (old : Option (List ℕ)) (stopped : Bool) → Prints old stopped old stopped []
prints_nothing old stopped start due p = rw (append-nil due) p

-- two prints one after the other print the bytes of both
pub prints_then : (a b c : Option (List ℕ)) (s t u : Bool) (x y : List ℕ) → Prints a s b t x → Prints b t c u y → Prints a s c u (x ++ y)
prints_then a b c s t u x y h k start due p = rw (sym (append_assoc due x y)) (k start (due ++ x) (h start due p))

-- counts go on over two prints
pub counts_then : (a b c : ℕ) (s t u : Bool) → CountsOn a s b t → CountsOn b t c u → CountsOn a s c u
counts_then a b c s t u h k start p = k start (h start p)

-- a put that gave all
pub prints_done : (old new : Option (List ℕ)) (bytes : List ℕ) (stopped : Bool) → stopped ≡ false → Appends old new bytes → Prints old stopped new stopped bytes
prints_done old new bytes stopped e p = rw e (prints_given old new bytes false (λ _. p) (λ h. cc))

-- a put that stopped behind n bytes
pub prints_cut : (old new : Option (List ℕ)) (bytes : List ℕ) (stopped : Bool) (n : ℕ) → stopped ≡ false → n ≤ length bytes → Appends old new (take n bytes) → Prints old stopped new true bytes
prints_cut old new bytes stopped n e le p = rw e (prints_given old new bytes true (λ h. cc) (λ _. record { taken = n; within = le; given = p }))

-- what a print at the start has given
pub printed_first : (old new : Option (List ℕ)) (bytes : List ℕ) (stopped : Bool) → Prints old false new stopped bytes → Printed old new bytes stopped
printed_first old new bytes stopped h = h old [] (record { part = whole_is_part old old [] (Appends-nil old); whole = λ e. Appends-nil old })

-- what a print at the start has counted
pub counted_first : (old new : ℕ) (stopped : Bool) → CountsOn old false new stopped → Counted old new stopped
counted_first old new stopped h = h old (record { later = omega arith; rose = λ e. cc; still = λ e. refl })

-- nothing is printed
pub nothing_on : (a : Printer) → PrintsOn a a []
nothing_on a = record { prints = prints_nothing a.given a.stopped; counts = λ start p. p }

-- two prints one after the other print the bytes of both
pub then_on : (a b c : Printer) (x y : List ℕ) → PrintsOn a b x → PrintsOn b c y → PrintsOn a c (x ++ y)
then_on a b c x y h k = record {
  prints = prints_then a.given b.given c.given a.stopped b.stopped c.stopped x y h.prints k.prints;
  counts = counts_then a.faults b.faults c.faults a.stopped b.stopped c.stopped h.counts k.counts;
}

-- before anything is printed
pub no_front : (a : Printer) (x : List ℕ) → PrintsFront a a x
no_front a x = record { front = []; rest = x; whole = refl; printed = nothing_on a }

-- all that was due, and then more of which nothing was printed
pub whole_front : (a b : Printer) (x y : List ℕ) → PrintsOn a b x → PrintsFront a b (x ++ y)
whole_front a b x y h = record { front = x; rest = y; whole = refl; printed = h }

-- a front of what is due is a front of that and more
pub front_before : (a b : Printer) (x y : List ℕ) → PrintsFront a b x → PrintsFront a b (x ++ y)
front_before a b x y h = record { front = h.front; rest = h.rest ++ y; whole = rw (sym h.whole) (sym (append_assoc h.front h.rest y)); printed = h.printed }

-- all that was due, and then a front of what was due after it
pub front_then : (a b c : Printer) (x y : List ℕ) → PrintsOn a b x → PrintsFront b c y → PrintsFront a c (x ++ y)
front_then a b c x y h k = record {
  front = x ++ k.front;
  rest = k.rest;
  whole = rw (sym k.whole) (append_assoc x k.front k.rest);
  printed = then_on a b c x k.front h k.printed;
}
