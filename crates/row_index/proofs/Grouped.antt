-- What a set of slots holds once the places of one group are others.
use Rattle.std.proofs.Common.{◌≡◌, ◌∙◌, ℕ, Bool, true, false, cond, List, [], ◌∷◌, length, suc, refl, ap, sym, arith, Some, None, Result, Ok, Err, OnOk, OnErr, IfOk}
use Rattle.std.specs.Prelude.{◌||◌, ◌&&◌, ◌==◌, not, if◌then◌else◌}
use Rattle.std.specs.BTreeMap.{get, is_at}
use Rattle.std.specs.Map.{lookup}
use Rattle.std.specs.Cmp.{tied_then, unsigned_tied, nat_eq_equiv}
use Rattle.std.specs.Ordering.{is_eq, nat_cmp, ordering_then}
use Rattle.std.specs.declared.cmp.Ordering.{Ordering}
use Rattle.std.specs.declared.cmp.Ordering.TheVariants.{Less, Equal, Greater}
use Rattle.std.specs.declared.option.Option.{Option}
use Rattle.std.proofs.lemmas.Map.Lookups.{exact_unsigned}
use Rattle.okws_base.specs.Value.{value_cmp}
use Rattle.okws_base.specs.declared.value.Value.{Value}
use Rattle.row_index.specs.Groups.{group_cmp}
use Rattle.row_index.specs.Order.{exact_values}
use Rattle.row_index.specs.GroupPlaces.{places_if_any, places_listed, is_among}
use Rattle.row_index.specs.Slots.{slot_cmp, holds, group_places}
use Rattle.row_index.specs.declared.places.Places.{Places}
use Rattle.row_index.specs.declared.places.Places.TheVariants.{Sole}
use Rattle.row_index.specs.declared.slot.Group.{Group}
use Rattle.row_index.specs.declared.slot.Slot.{Slot}
use Rattle.row_index.specs.declared.slots.Slots.{Slots}
use Rattle.row_index.proofs.Bools.{and_first}
use Rattle.row_index.proofs.Moved.{equal_of}

-- ---- groups

then_first : (a b : Ordering) → ordering_then a b ≡ Equal → a ≡ Equal
then_first Less b h = let never : ⊥ = cc in absurd never
then_first Equal b h = refl
then_first Greater b h = let never : ⊥ = cc in absurd never

then_second : (a b : Ordering) → ordering_then a b ≡ Equal → b ≡ Equal
then_second Less b h = let never : ⊥ = cc in absurd never
then_second Equal b h = h
then_second Greater b h = let never : ⊥ = cc in absurd never

-- A group of a column and a value.
abbrev pub made : ℕ → Value → Group
made c v = record { column = c; value = v }

-- The order tells all groups apart.
pub exact_groups : (g h : Group) → is_eq (group_cmp g h) ≡ true → g ≡ h
exact_groups g h same =
    let tied : group_cmp g h ≡ Equal = equal_of (group_cmp g h) same in
    let values : g.value ≡ h.value = exact_values g.value h.value (then_first (value_cmp g.value h.value) (nat_cmp g.column h.column) tied) in
    let columns : g.column ≡ h.column = exact_unsigned g.column h.column (then_second (value_cmp g.value h.value) (nat_cmp g.column h.column) tied) in
    ap (λ (c : ℕ). made c g.value) columns ∙ ap (made h.column) values

-- ---- slots

split : (s q : Slot) → is_eq (slot_cmp s q) ≡ (is_eq (group_cmp s.group q.group) && (s.place == q.place))
split s q = sym (tied_then (group_cmp s.group q.group) (nat_cmp s.place q.place)) ∙ ap (λ (b : Bool). is_eq (group_cmp s.group q.group) && b) (unsigned_tied s.place q.place)

-- A place alone.
pub alone : (p n : ℕ) → is_among n (p ∷ []) ≡ (p == n)
alone p n = last (is_eq (nat_cmp n p)) ∙ unsigned_tied n p ∙ nat_eq_equiv.symm n p
  where
    last : (b : Bool) → (b || false) ≡ b
    last true = refl
    last false = refl

-- In the group that has other places.
pub own : (slots : Slots) (g : Group) (q : Slot) → is_eq (group_cmp g q.group) ≡ true → holds slots q ≡ is_among q.place (group_places slots g)
own slots g q same = ap (λ (h : Group). is_among q.place (group_places slots h)) (sym (exact_groups g q.group same))

-- The places of one group are others.
pub record AreOthers (old new : Slots) (g : Group) (places : Option Places) : Type 0 where
  pub at : (h : Group) → get group_cmp new.groups h ≡ cond (is_at (group_cmp g) h) places (get group_cmp old.groups h)

here : (old new : Slots) (g : Group) (places : Option Places) (q : Slot) → AreOthers old new g places → is_eq (group_cmp g q.group) ≡ true → holds new q ≡ is_among q.place (places_if_any places)
here old new g places q others same =
    ap (λ (o : Option Places). is_among q.place (places_if_any o)) (others.at q.group ∙ ap (λ (b : Bool). cond b places (get group_cmp old.groups q.group)) same)

there : (old new : Slots) (g : Group) (places : Option Places) (q : Slot) → AreOthers old new g places → is_eq (group_cmp g q.group) ≡ false → holds new q ≡ holds old q
there old new g places q others apart =
    ap (λ (o : Option Places). is_among q.place (places_if_any o)) (others.at q.group ∙ ap (λ (b : Bool). cond b places (get group_cmp old.groups q.group)) apart)

-- Where other places stand in the group, as the contracts say it.
pub as_others : (old new : Slots) (g : Group) (places : Option Places) → AreOthers old new g places → (q : Slot) → holds new q ≡ (if is_eq (group_cmp g q.group) then is_among q.place (places_if_any places) else holds old q)
as_others old new g places others q = by (is_eq (group_cmp g q.group)) refl
  where
    by : (b : Bool) → is_eq (group_cmp g q.group) ≡ b → holds new q ≡ (if b then is_among q.place (places_if_any places) else holds old q)
    by true is = here old new g places q others is
    by false is = there old new g places q others is

-- One place more in the group is one slot more.
pub one_more : (old : Slots) (s q : Slot) → (if is_eq (group_cmp s.group q.group) then (s.place == q.place) || is_among q.place (group_places old s.group) else holds old q) ≡ (is_eq (slot_cmp s q) || holds old q)
one_more old s q = by (is_eq (group_cmp s.group q.group)) refl
  where
    by : (b : Bool) → is_eq (group_cmp s.group q.group) ≡ b → (if b then (s.place == q.place) || is_among q.place (group_places old s.group) else holds old q) ≡ (is_eq (slot_cmp s q) || holds old q)
    by true is =
        ap (λ (b : Bool). (s.place == q.place) || b) (sym (own old s.group q is))
        ∙ ap (λ (b : Bool). (b && (s.place == q.place)) || holds old q) (sym is)
        ∙ ap (λ (b : Bool). b || holds old q) (sym (split s q))
    by false is =
        ap (λ (b : Bool). (b && (s.place == q.place)) || holds old q) (sym is)
        ∙ ap (λ (b : Bool). b || holds old q) (sym (split s q))

-- One place less in the group is one slot less.
pub one_less : (old : Slots) (s q : Slot) → (if is_eq (group_cmp s.group q.group) then not (s.place == q.place) && is_among q.place (group_places old s.group) else holds old q) ≡ (not (is_eq (slot_cmp s q)) && holds old q)
one_less old s q = by (is_eq (group_cmp s.group q.group)) refl
  where
    by : (b : Bool) → is_eq (group_cmp s.group q.group) ≡ b → (if b then not (s.place == q.place) && is_among q.place (group_places old s.group) else holds old q) ≡ (not (is_eq (slot_cmp s q)) && holds old q)
    by true is =
        ap (λ (b : Bool). not (s.place == q.place) && b) (sym (own old s.group q is))
        ∙ ap (λ (b : Bool). not (b && (s.place == q.place)) && holds old q) (sym is)
        ∙ ap (λ (b : Bool). not b && holds old q) (sym (split s q))
    by false is =
        ap (λ (b : Bool). not (b && (s.place == q.place)) && holds old q) (sym is)
        ∙ ap (λ (b : Bool). not b && holds old q) (sym (split s q))

-- The same places in the group are the same slots.
pub same_slots : (old : Slots) (g : Group) (q : Slot) → (if is_eq (group_cmp g q.group) then is_among q.place (group_places old g) else holds old q) ≡ holds old q
same_slots old g q = by (is_eq (group_cmp g q.group)) refl
  where
    by : (b : Bool) → is_eq (group_cmp g q.group) ≡ b → (if b then is_among q.place (group_places old g) else holds old q) ≡ holds old q
    by true is = sym (own old g q is)
    by false is = refl

-- What is said of a group twice holds as it was said last.
pub said_last : (b : Bool) {X : Type 0} (x y z : X) → (if b then x else (if b then y else z)) ≡ (if b then x else z)
said_last true x y z = refl
said_last false x y z = refl

-- Without its places there is no slot of the group.
pub none_left : (old new : Slots) (g : Group) → AreOthers old new g None → (q : Slot) → holds new q ≡ (not (is_eq (group_cmp g q.group)) && holds old q)
none_left old new g others q = by (is_eq (group_cmp g q.group)) refl
  where
    by : (b : Bool) → is_eq (group_cmp g q.group) ≡ b → holds new q ≡ (not (is_eq (group_cmp g q.group)) && holds old q)
    by true is = here old new g None q others is ∙ ap (λ (b : Bool). not b && holds old q) (sym is)
    by false is = there old new g None q others is ∙ ap (λ (b : Bool). not b && holds old q) (sym is)

-- After an insert the slot is the only one of its group.
pub driven : (old new : Slots) (g : Group) (place : ℕ) → ((h : Group) → get group_cmp new.groups h ≡ cond (is_at (group_cmp g) h) (Some (Sole place)) (get group_cmp old.groups h)) → (q : Slot) → holds new q ≡ (if is_eq (group_cmp g q.group) then place == q.place else holds old q)
driven old new g place at q =
    as_others old new g (Some (Sole place)) (record { at = at }) q
    ∙ ap (λ (b : Bool). if is_eq (group_cmp g q.group) then b else holds old q) (alone place q.place)

-- What is kept by an entry stays.
pub unchanged : (old new : Slots) → new.groups.entries ≡ old.groups.entries → (q : Slot) → holds new q ≡ holds old q
unchanged old new same q = ap (λ (es : List (Group × Places)). is_among q.place (places_if_any (lookup (is_at (group_cmp q.group)) es))) same

no_more : (b : Bool) → b ≡ (b || false)
no_more true = refl
no_more false = refl

-- A slot that drove none out is one slot more.
pub first_more : (old mid : Slots) (s : Slot) → ((q : Slot) → holds mid q ≡ (if is_eq (group_cmp s.group q.group) then s.place == q.place else holds old q)) → [] ≡ group_places old s.group → (q : Slot) → holds mid q ≡ (is_eq (slot_cmp s q) || holds old q)
first_more old mid s at none q =
    at q
    ∙ ap (λ (b : Bool). if is_eq (group_cmp s.group q.group) then b else holds old q) (no_more (s.place == q.place) ∙ ap (λ (places : List ℕ). (s.place == q.place) || is_among q.place places) none)
    ∙ one_more old s q

-- One that is put beside those that it drove out is so too.
pub beside_more : (old mid new : Slots) (s : Slot) (places : Places) → ((q : Slot) → holds mid q ≡ (if is_eq (group_cmp s.group q.group) then s.place == q.place else holds old q)) → places_listed places ≡ group_places old s.group
    → ((q : Slot) → holds new q ≡ (if is_eq (group_cmp s.group q.group) then (s.place == q.place) || is_among q.place (places_listed places) else holds mid q)) → (q : Slot) → holds new q ≡ (is_eq (slot_cmp s q) || holds old q)
beside_more old mid new s places at same beside q =
    beside q
    ∙ ap (λ (b : Bool). if is_eq (group_cmp s.group q.group) then (s.place == q.place) || is_among q.place (places_listed places) else b) (at q)
    ∙ said_last (is_eq (group_cmp s.group q.group)) ((s.place == q.place) || is_among q.place (places_listed places)) (s.place == q.place) (holds old q)
    ∙ ap (λ (list : List ℕ). if is_eq (group_cmp s.group q.group) then (s.place == q.place) || is_among q.place list else holds old q) same
    ∙ one_more old s q

-- Those that it drove out are the same slots once they are back.
pub back_again : (old mid new : Slots) (s : Slot) (places : Places) → ((q : Slot) → holds mid q ≡ (if is_eq (group_cmp s.group q.group) then s.place == q.place else holds old q)) → places_listed places ≡ group_places old s.group
    → ((q : Slot) → holds new q ≡ (if is_eq (group_cmp s.group q.group) then is_among q.place (places_listed places) else holds mid q)) → (q : Slot) → holds new q ≡ holds old q
back_again old mid new s places at same back q =
    back q
    ∙ ap (λ (b : Bool). if is_eq (group_cmp s.group q.group) then is_among q.place (places_listed places) else b) (at q)
    ∙ said_last (is_eq (group_cmp s.group q.group)) (is_among q.place (places_listed places)) (s.place == q.place) (holds old q)
    ∙ ap (λ (list : List ℕ). if is_eq (group_cmp s.group q.group) then is_among q.place list else holds old q) same
    ∙ same_slots old s.group q

-- Where none is of its group a slot isn't there.
pub none_less : (old : Slots) (s q : Slot) → group_places old s.group ≡ [] → holds old q ≡ (not (is_eq (slot_cmp s q)) && holds old q)
none_less old s q none = by (is_eq (slot_cmp s q)) refl
  where
    by : (b : Bool) → is_eq (slot_cmp s q) ≡ b → holds old q ≡ (not b && holds old q)
    by true is =
        own old s.group q (and_first (is_eq (group_cmp s.group q.group)) (s.place == q.place) (sym (split s q) ∙ is))
        ∙ ap (is_among q.place) none
    by false is = refl

-- With a place less in its group there is a slot less.
pub place_less : (old new : Slots) (s : Slot) (places : Option Places) → ((h : Group) → get group_cmp new.groups h ≡ cond (is_at (group_cmp s.group) h) places (get group_cmp old.groups h))
    → ((p : ℕ) → is_among p (places_if_any places) ≡ (not (s.place == p) && is_among p (group_places old s.group))) → (q : Slot) → holds new q ≡ (not (is_eq (slot_cmp s q)) && holds old q)
place_less old new s places at less q =
    as_others old new s.group places (record { at = at }) q
    ∙ ap (λ (b : Bool). if is_eq (group_cmp s.group q.group) then b else holds old q) (less q.place)
    ∙ one_less old s q

-- Where the place was the last of its group, the others' slots are those that are left.
pub last_less : (old new : Slots) (s : Slot) (places : Option Places) → ((h : Group) → get group_cmp new.groups h ≡ cond (is_at (group_cmp s.group) h) places (get group_cmp old.groups h))
    → ((p : ℕ) → (not (s.place == p) && is_among p (group_places old s.group)) ≡ false) → (q : Slot) → (not (is_eq (group_cmp s.group q.group)) && holds new q) ≡ (not (is_eq (slot_cmp s q)) && holds old q)
last_less old new s places at last q = by (is_eq (group_cmp s.group q.group)) refl ∙ one_less old s q
  where
    by : (b : Bool) → is_eq (group_cmp s.group q.group) ≡ b → (not (is_eq (group_cmp s.group q.group)) && holds new q) ≡ (if is_eq (group_cmp s.group q.group) then not (s.place == q.place) && is_among q.place (group_places old s.group) else holds old q)
    by true is =
        ap (λ (b : Bool). not b && holds new q) is
        ∙ sym (last q.place)
        ∙ sym (ap (λ (b : Bool). if b then not (s.place == q.place) && is_among q.place (group_places old s.group) else holds old q) is)
    by false is =
        ap (λ (b : Bool). not b && holds new q) is
        ∙ there old new s.group places q (record { at = at }) is
        ∙ sym (ap (λ (b : Bool). if b then not (s.place == q.place) && is_among q.place (group_places old s.group) else holds old q) is)

-- What follows from what holds of an answer holds of it.
pub on_ok : {X E P Q : Type 0} (r : Result X E) → (P → Q) → OnOk r P → OnOk r Q
on_ok (Ok x) f h = f h
on_ok (Err e) f h = tt

pub on_err : {X E P Q : Type 0} (r : Result X E) → (P → Q) → OnErr r P → OnErr r Q
on_err (Ok x) f h = tt
on_err (Err e) f h = f h

no_places : (places : List ℕ) → true ≡ (length places == 0) → places ≡ []
no_places [] h = refl
no_places (p ∷ places) h = absurd (more (length places) h)
  where
    more : (n : ℕ) → true ≡ (suc n == 0) → ⊥
    more n e = let other : (suc n == 0) ≡ false = grind arith in cc

-- A slot came where it drove none out, and gave way to those that it did.
pub gave : (came : Bool) (old mid new : Slots) (s : Slot) (places : Places) → ((q : Slot) → holds mid q ≡ (if is_eq (group_cmp s.group q.group) then s.place == q.place else holds old q)) → places_listed places ≡ group_places old s.group
    → came ≡ (length (places_listed places) == 0) → (came ≡ false → (q : Slot) → holds new q ≡ (if is_eq (group_cmp s.group q.group) then is_among q.place (places_listed places) else holds mid q)) → (came ≡ true → new ≡ mid)
    → (q : Slot) → holds new q ≡ ((came && is_eq (slot_cmp s q)) || holds old q)
gave true old mid new s places at same none back stays q =
    ap (λ (slots : Slots). holds slots q) (stays refl)
    ∙ first_more old mid s at (sym (no_places (places_listed places) none) ∙ same) q
gave false old mid new s places at same none back stays q = back_again old mid new s places at same (back refl) q

-- What holds is said of an error.
pub say_err : {X E P : Type 0} (r : Result X E) → P → OnErr r P
say_err (Ok x) h = tt
say_err (Err e) h = h
