use Rattle.std.proofs.Common.{◌≡◌, ℕ, List, ◌∷◌, refl, sym, subst}
use Rattle.httparse.specs.Spans.{header_bytes}
use Rattle.http_front.specs.Fields.{AreFoundUpTo}
use Rattle.http_front.proofs.Naming.{found_none, found_host, found_length, found_coding, found_expect, not_host, not_expect, not_length, not_coding}
use Rattle.http_front.proofs.fields.found_with.Goals as goal

pub returns-in-4 : goal.returns-in-4
returns-in-4 c = λ all rest before.
    let same : header_bytes c.args.bytes.now c.args.header ≡ (c.of-field.result.now, c.of-value.result.now) = rw (c.of-field.ensures, c.of-value.ensures) refl in
    found_host _ _ all rest c.args.found _ c.in-4.is (sym c.if-is_named.ensures) c.with_value-found.ensures (subst (λ (f : List ℕ × List ℕ). AreFoundUpTo all (f ∷ rest) c.args.found) same before)

pub returns-else-is_named : goal.returns-else-is_named
returns-else-is_named c = λ all rest before.
    let same : header_bytes c.args.bytes.now c.args.header ≡ (c.of-field.result.now, c.of-value.result.now) = rw (c.of-field.ensures, c.of-value.ensures) refl in
    let others = not_host _ c.in-4.is in
    found_none _ _ all rest c.args.found (sym c.if-is_named.ensures) others.0 others.1 others.2 (subst (λ (f : List ℕ × List ℕ). AreFoundUpTo all (f ∷ rest) c.args.found) same before)

pub returns-else-found : goal.returns-else-found
returns-else-found c = λ all rest before.
    let same : header_bytes c.args.bytes.now c.args.header ≡ (c.of-field.result.now, c.of-value.result.now) = rw (c.of-field.ensures, c.of-value.ensures) refl in
    found_expect _ _ all rest c.args.found _ c.in-6.is (sym c.if-is_named-2.ensures) c.if-found.false c.are_same_word.ensures (subst (λ (f : List ℕ × List ℕ). AreFoundUpTo all (f ∷ rest) c.args.found) same before)

pub returns-else-is_named-2 : goal.returns-else-is_named-2
returns-else-is_named-2 c = λ all rest before.
    let same : header_bytes c.args.bytes.now c.args.header ≡ (c.of-field.result.now, c.of-value.result.now) = rw (c.of-field.ensures, c.of-value.ensures) refl in
    let others = not_expect _ c.in-6.is in
    found_none _ _ all rest c.args.found others.0 others.1 others.2 (sym c.if-is_named-2.ensures) (subst (λ (f : List ℕ × List ℕ). AreFoundUpTo all (f ∷ rest) c.args.found) same before)

pub returns-in-14 : goal.returns-in-14
returns-in-14 c = λ all rest before.
    let same : header_bytes c.args.bytes.now c.args.header ≡ (c.of-field.result.now, c.of-value.result.now) = rw (c.of-field.ensures, c.of-value.ensures) refl in
    found_length _ _ all rest c.args.found _ c.in-14.is (sym c.if-is_named-3.ensures) c.with_value-found-in-14.ensures (subst (λ (f : List ℕ × List ℕ). AreFoundUpTo all (f ∷ rest) c.args.found) same before)

pub returns-else-is_named-3 : goal.returns-else-is_named-3
returns-else-is_named-3 c = λ all rest before.
    let same : header_bytes c.args.bytes.now c.args.header ≡ (c.of-field.result.now, c.of-value.result.now) = rw (c.of-field.ensures, c.of-value.ensures) refl in
    let others = not_length _ c.in-14.is in
    found_none _ _ all rest c.args.found others.0 others.1 (sym c.if-is_named-3.ensures) others.2 (subst (λ (f : List ℕ × List ℕ). AreFoundUpTo all (f ∷ rest) c.args.found) same before)

pub returns-in-17 : goal.returns-in-17
returns-in-17 c = λ all rest before.
    let same : header_bytes c.args.bytes.now c.args.header ≡ (c.of-field.result.now, c.of-value.result.now) = rw (c.of-field.ensures, c.of-value.ensures) refl in
    found_coding _ _ all rest c.args.found _ c.in-17.is (sym c.if-is_named-4.ensures) c.with_value-found-in-17.ensures (subst (λ (f : List ℕ × List ℕ). AreFoundUpTo all (f ∷ rest) c.args.found) same before)

pub returns-else-is_named-4 : goal.returns-else-is_named-4
returns-else-is_named-4 c = λ all rest before.
    let same : header_bytes c.args.bytes.now c.args.header ≡ (c.of-field.result.now, c.of-value.result.now) = rw (c.of-field.ensures, c.of-value.ensures) refl in
    let others = not_coding _ c.in-17.is in
    found_none _ _ all rest c.args.found others.0 (sym c.if-is_named-4.ensures) others.1 others.2 (subst (λ (f : List ℕ × List ℕ). AreFoundUpTo all (f ∷ rest) c.args.found) same before)
