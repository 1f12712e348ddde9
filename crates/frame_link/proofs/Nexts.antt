-- What the bytes that were taken tell of the next frame.
use Rattle.std.proofs.Common.{◌≡◌, ◌≢◌, ℕ, ◌+◌, ◌-◌, ◌<◌, ◌≤◌, List, [], ◌++◌, length, take, drop, refl, sym, ap, subst, ◌∙◌, append_assoc, arith, inl, inr}
use Rattle.std.specs.Prelude.{IsTrue}
use Rattle.std.specs.declared.option.Option.{Option}
use Rattle.std.specs.declared.option.Option.TheVariants.{Some, None}
use Rattle.std.specs.Io.KnownBytes.{Consumes, IsAtEnd, Keeps}
use Rattle.std.proofs.KnownBytes.{Consumes-kept, Consumes-nil, Consumes-trans}
use Rattle.std.proofs.lemmas.List.{append-nil, drop_all, drop_at, length-append, length-drop, length-take-le, nil_from_length, take-take, take_all, take_at}
use Rattle.std.proofs.Math.Seq.{take-add}
use borrow.Rule.Slice.PartMut.{put_mid}
use Rattle.okws_outer.specs.Streams.{Rose}
use Rattle.okws_outer.specs.Wire.{Wire, Receives}
use Rattle.frame_codec.specs.Spelling.{four, is_lawful_length}
use Rattle.frame_codec.specs.Stream.{IsBadBy, IsShort}
use Rattle.frame_codec.proofs.Sizes.{length-four}
use Rattle.frame_codec.proofs.Apart.{short_begins_none_by}
use Rattle.frame_codec.proofs.Stops.{bad_stop, head_is_bad, short_stop, bad_more}
use Rattle.frame_link.specs.Next.{AreLeft, IsNextBy, IsBadFrontBy}
use Rattle.frame_link.specs.Filling.{Comes, IsRoom, IsWhole, Reads}
use Rattle.frame_link.specs.declared.receiving.Came.TheVariants as came
use Rattle.frame_link.specs.declared.receiving.NextFrame.{NextFrame}
use Rattle.frame_link.specs.declared.receiving.NextFrame.TheVariants.{Frame, Ended, BadFrame, LinkFault, NoMemory}

told_left : (new : Option (List ℕ)) → (left : List ℕ) × AreLeft new left
told_left None = ([], tt)
told_left (Some left) = (left, refl)

none_left : (new : Option (List ℕ)) → IsAtEnd new → AreLeft new []
none_left None end = tt
none_left (Some left) end = end

-- the bytes that were taken are bad
pub bad_next : {F : Type 0} (parts : F → List (List ℕ)) (fit : F → Type 0) (old new : Option (List ℕ)) (since : List ℕ) → Consumes old new since → IsBadBy parts fit since → IsNextBy parts fit old new BadFrame
bad_next parts fit old new since took bad = (since, (told_left new).0, took, (told_left new).1, bad_stop parts fit since (told_left new).0 bad)

pub bad_front : {F : Type 0} (parts : F → List (List ℕ)) (fit : F → Type 0) (old new : Option (List ℕ)) (since : List ℕ) → Consumes old new since → IsBadBy parts fit since → IsBadFrontBy parts fit old new
bad_front parts fit None new since took bad = tt
bad_front parts fit (Some left) None since took bad = absurd took
bad_front parts fit (Some left) (Some rest) since took bad =
    let all : IsBadBy parts fit left = subst (IsBadBy parts fit) (sym took) (bad_more parts fit since rest bad) in
    (all.0, inl all)

-- the bytes ended inside a frame
pub ended_next : {F : Type 0} (parts : F → List (List ℕ)) (fit : F → Type 0) (old new : Option (List ℕ)) (since : List ℕ) → Consumes old new since → IsShort since → since ≢ [] → IsAtEnd new → IsNextBy parts fit old new BadFrame
ended_next parts fit old new since took short some end = (since, [], took, none_left new end, short_stop parts fit since short some)

pub ended_front : {F : Type 0} (parts : F → List (List ℕ)) (fit : F → Type 0) (old new : Option (List ℕ)) (since : List ℕ) → Consumes old new since → IsShort since → since ≢ [] → IsAtEnd new → IsBadFrontBy parts fit old new
ended_front parts fit None new since took short some end = tt
ended_front parts fit (Some left) None since took short some end = absurd took
ended_front parts fit (Some left) (Some rest) since took short some end =
    let is : left ≡ since = took ∙ ap (λ (t : List ℕ). since ++ t) end ∙ append-nil since in
    let all : IsShort left = subst IsShort (sym is) short in
    (short_begins_none_by parts fit left all, inr (all, (λ none. some (sym is ∙ none)), end))

-- ---- one filling and another

pub took_both : (old mid new : Option (List ℕ)) (before now more : List ℕ) → Consumes old mid before → Consumes mid new more → now ≡ before ++ more → Consumes old new now
took_both old mid new before now more first took is = subst (λ (t : List ℕ). Consumes old new t) (sym is) (Consumes-trans old mid new before more first took)

-- ---- the head, and what came behind it

pub few_are_short : (bytes : List ℕ) → length bytes < 4 → IsShort bytes
few_are_short bytes few = inl few

pub part_is_short : (n : ℕ) (head now more : List ℕ) → IsTrue (is_lawful_length n) → head ≡ four n → now ≡ head ++ more → length now < 4 + n → IsShort now
part_is_short n head now more lawful is all few =
    inr (n, more, lawful, all ∙ ap (λ (t : List ℕ). t ++ more) is, omega (arith, few, ap length all, length-append head more, ap length is, length-four n))

pub is_some : (n : ℕ) (head now more : List ℕ) → head ≡ four n → now ≡ head ++ more → now ≢ []
is_some n head now more is all none = omega (arith, ap length none, ap length all, length-append head more, ap length is, length-four n)

pub is_whole : (n : ℕ) (head now more : List ℕ) → IsTrue (is_lawful_length n) → head ≡ four n → now ≡ head ++ more → length now ≡ 4 + n → IsWhole now
is_whole n head now more lawful is all len =
    (n, more, lawful, all ∙ ap (λ (t : List ℕ). t ++ more) is, omega (arith, len, ap length all, length-append head more, ap length is, length-four n))

-- ---- what a whole frame is

pub reads_next : {F : Type 0} (parts : F → List (List ℕ)) (fit : F → Type 0) (old new : Option (List ℕ)) (since : List ℕ) (answer : NextFrame F) → Consumes old new since → Reads parts fit since answer → IsNextBy parts fit old new answer
reads_next parts fit old new since (Frame frame) took reads = (since, reads, took)
reads_next parts fit old new since BadFrame took reads = bad_next parts fit old new since took reads
reads_next parts fit old new since NoMemory took reads = (since, took)
reads_next parts fit old new since Ended took reads = absurd reads
reads_next parts fit old new since LinkFault took reads = absurd reads

pub reads_front : {F : Type 0} (parts : F → List (List ℕ)) (fit : F → Type 0) (old new : Option (List ℕ)) (since : List ℕ) (answer : NextFrame F) → Consumes old new since → Reads parts fit since answer → answer ≡ BadFrame → IsBadFrontBy parts fit old new
reads_front parts fit old new since answer took reads is = bad_front parts fit old new since took (subst (Reads parts fit since) is reads)

pub not_fault : {F : Type 0} (parts : F → List (List ℕ)) (fit : F → Type 0) (since : List ℕ) (answer : NextFrame F) → Reads parts fit since answer → answer ≡ LinkFault → ⊥
not_fault parts fit since answer reads is = subst (Reads parts fit since) is reads

pub not_empty : (bytes : List ℕ) → 0 < length bytes → bytes ≢ []
not_empty bytes some none = omega (arith, ap length none)

-- ---- a room that bytes came into

-- what is in it so far
abbrev pub HasCome : Option (List ℕ) → Option (List ℕ) → List ℕ → List ℕ → ℕ → Type 0
HasCome old new before room done = (more : List ℕ) × Consumes old new more × (take done room ≡ before ++ more)

pub none_came : (left : Option (List ℕ)) (room : List ℕ) (first : ℕ) → HasCome left left (take first room) room first
none_came left room first = ([], Consumes-nil left, sym (append-nil (take first room)))

front_and : (front behind : List ℕ) (done count : ℕ) → length front ≡ done → take (done + count) (front ++ behind) ≡ front ++ take count behind
front_and front behind done count len =
    take-add done count (front ++ behind) ∙ ap (λ (t : List ℕ). t ++ take count (drop done (front ++ behind))) (take_at front behind done len) ∙ ap (λ (t : List ℕ). front ++ take count t) (drop_at front behind done len)

more_came : (old mid new : Option (List ℕ)) (before room behind : List ℕ) (done count : ℕ) → HasCome old mid before room done → done ≤ length room → Consumes mid new (take count behind) → HasCome old new before (take done room ++ behind) (done + count)
more_came old mid new before room behind done count so_far within took = (
  so_far.0 ++ take count behind,
  Consumes-trans old mid new so_far.0 (take count behind) so_far.1 took,
  front_and (take done room) behind done count (length-take-le done room within) ∙ ap (λ (t : List ℕ). t ++ take count behind) so_far.2 ∙ append_assoc before so_far.0 (take count behind),
)

room_put : (done : ℕ) (room into : List ℕ) → put_mid done (length room - done) room into ≡ take done room ++ into
room_put done room into = ap (λ (t : List ℕ). take done room ++ (into ++ t)) (drop_all (length room - done) (drop done room) (omega (arith, length-drop done room))) ∙ ap (λ (t : List ℕ). take done room ++ t) (append-nil into)

pub more_put : (old mid new : Option (List ℕ)) (before room into : List ℕ) (done count : ℕ) → HasCome old mid before room done → done ≤ length room → Consumes mid new (take count into) → HasCome old new before (put_mid done (length room - done) room into) (done + count)
more_put old mid new before room into done count so_far within took = subst (λ (t : List ℕ). HasCome old new before t (done + count)) (sym (room_put done room into)) (more_came old mid new before room into done count so_far within took)

pub all_came : (old new : Option (List ℕ)) (before room : List ℕ) (done : ℕ) → HasCome old new before room done → length room ≤ done → Comes old new before room came.All
all_came old new before room done so_far full = (so_far.0, so_far.1, sym (take_all done room full) ∙ so_far.2)

pub came_to_end : (old mid new : Option (List ℕ)) (before room now : List ℕ) (done : ℕ) → HasCome old mid before room done → done ≤ length room → Keeps mid new × IsAtEnd new → done < length now → Comes old new before now (came.Ended done)
came_to_end old mid new before room now done so_far within end less =
    (so_far.0, Consumes-kept old mid new so_far.0 so_far.1 end.0, sym (ap length so_far.2) ∙ length-take-le done room within, less, end.1)

pub came_to_fault : (old mid new : Option (List ℕ)) (before room now : List ℕ) (done : ℕ) → HasCome old mid before room done → Keeps mid new → Comes old new before now came.Failed
came_to_fault old mid new before room now done so_far keeps = (so_far.0, Consumes-kept old mid new so_far.0 so_far.1 keeps)

-- ---- bytes that are made longer, and what came into them

-- those that were there stand at the front
pub stand_in_front : (before zeros now : List ℕ) (n done : ℕ) → done ≡ length before → length before ≤ n → now ≡ take n before ++ zeros → take done now ≡ before
stand_in_front before zeros now n done len within is =
    ap (λ (i : ℕ). take i now) len ∙ ap (take (length before)) (is ∙ ap (λ (t : List ℕ). t ++ zeros) (take_all n before within)) ∙ take_at before zeros (length before) refl

-- a whole slice that was written stands in the place of what it was lent from
lent_back : (now xs : List ℕ) (n : ℕ) → n ≡ length xs → length now ≡ length xs → take n (now ++ drop (length now) xs) ≡ now
lent_back now xs n len same = take_at now (drop (length now) xs) n (same ∙ sym len)

pub came_behind : (first before mid xs room more : List ℕ) (n done : ℕ) → before ≡ first ++ mid → take done xs ≡ before → room ≡ take done xs ++ more → n ≡ length xs → length room ≡ length xs → take n (room ++ drop (length room) xs) ≡ first ++ (mid ++ more)
came_behind first before mid xs room more n done is front came len same =
    lent_back room xs n len same ∙ came ∙ ap (λ (t : List ℕ). t ++ more) (front ∙ is) ∙ append_assoc first mid more

-- ---- a head, and what came behind it into a room

pub room_is_whole : (old new : Option (List ℕ)) (start room : List ℕ) → IsRoom start → length room ≡ length start → Comes old new (take 4 start) room came.All → IsWhole room
room_is_whole old new start room is len comes = is_whole is.0 (take 4 start) room comes.0 is.1 is.2 comes.2 (len ∙ is.3)

pub room_next : {F : Type 0} (parts : F → List (List ℕ)) (fit : F → Type 0) (old mid new : Option (List ℕ)) (start room : List ℕ) (answer : NextFrame F) → Comes mid new (take 4 start) room came.All → Reads parts fit room answer → Consumes old mid (take 4 start)
    → IsNextBy parts fit old new answer × (answer ≡ BadFrame → IsBadFrontBy parts fit old new)
room_next parts fit old mid new start room answer comes reads first =
    let took : Consumes old new room = took_both old mid new (take 4 start) room comes.0 first comes.1 comes.2 in
    (reads_next parts fit old new room answer took reads, reads_front parts fit old new room answer took reads)

pub room_ended : {F : Type 0} (parts : F → List (List ℕ)) (fit : F → Type 0) (old mid new : Option (List ℕ)) (start room : List ℕ) (n : ℕ) → IsRoom start → length room ≡ length start → Comes mid new (take 4 start) room (came.Ended n) → Consumes old mid (take 4 start)
    → IsNextBy parts fit old new BadFrame × IsBadFrontBy parts fit old new
room_ended parts fit old mid new start room n is len comes first =
    let took : Consumes old new (take 4 start ++ comes.0) = Consumes-trans old mid new (take 4 start) comes.0 first comes.1 in
    let short : IsShort (take 4 start ++ comes.0) = part_is_short is.0 (take 4 start) (take 4 start ++ comes.0) comes.0 is.1 is.2 refl (omega (arith, comes.2, comes.3, len, is.3)) in
    let some : take 4 start ++ comes.0 ≢ [] = is_some is.0 (take 4 start) (take 4 start ++ comes.0) comes.0 is.2 refl in
    (ended_next parts fit old new (take 4 start ++ comes.0) took short some comes.4, ended_front parts fit old new (take 4 start ++ comes.0) took short some comes.4)

-- ---- the head itself

kept_by_none : (old new : Option (List ℕ)) → Consumes old new [] → Keeps old new
kept_by_none None new took = tt
kept_by_none (Some left) None took = absurd took
kept_by_none (Some left) (Some rest) took = sym took

pub head_ended : {F : Type 0} (parts : F → List (List ℕ)) (fit : F → Type 0) (old new : Option (List ℕ)) (room : List ℕ) (n : ℕ) → Comes old new [] room (came.Ended n) → length room ≡ 4 → n ≢ 0 → IsNextBy parts fit old new BadFrame × IsBadFrontBy parts fit old new
head_ended parts fit old new room n comes len some =
    let short : IsShort comes.0 = few_are_short comes.0 (omega (arith, comes.2, comes.3, len)) in
    let filled : comes.0 ≢ [] = λ none. some (sym comes.2 ∙ ap length none) in
    (ended_next parts fit old new comes.0 comes.1 short filled comes.4, ended_front parts fit old new comes.0 comes.1 short filled comes.4)

pub head_is_end : {F : Type 0} (parts : F → List (List ℕ)) (fit : F → Type 0) (old new : Option (List ℕ)) (room : List ℕ) (n : ℕ) → Comes old new [] room (came.Ended n) → n ≡ 0 → IsNextBy parts fit old new Ended
head_is_end parts fit old new room n comes none = (kept_by_none old new (subst (Consumes old new) (nil_from_length comes.0 (comes.2 ∙ none)) comes.1), comes.4)

pub head_took : (old new : Option (List ℕ)) (room : List ℕ) → Comes old new [] room came.All → Consumes old new room
head_took old new room comes = subst (Consumes old new) (sym comes.2) comes.1

pub head_bad : {F : Type 0} (parts : F → List (List ℕ)) (fit : F → Type 0) (old new : Option (List ℕ)) (room : List ℕ) → Comes old new [] room came.All → IsBadBy parts fit room → IsNextBy parts fit old new BadFrame × IsBadFrontBy parts fit old new
head_bad parts fit old new room comes bad =
    let took : Consumes old new room = head_took old new room comes in
    (bad_next parts fit old new room took bad, bad_front parts fit old new room took bad)

pub head_untold : {F : Type 0} (parts : F → List (List ℕ)) (fit : F → Type 0) (old new : Option (List ℕ)) (room behind : List ℕ) → length room ≡ 4 → Comes old new [] room came.All → (IsShort (take 4 (room ++ behind)) → ⊥)
    → IsNextBy parts fit old new BadFrame × IsBadFrontBy parts fit old new
head_untold parts fit old new room behind len comes long =
    head_bad parts fit old new room comes (head_is_bad parts fit room len (λ short. long (subst IsShort (sym (take_at room behind 4 len)) short)))

-- the head as it stands in a larger room
pub head_in : (old new : Option (List ℕ)) (room behind : List ℕ) → length room ≡ 4 → Comes old new [] room came.All → Consumes old new (take 4 (room ++ behind))
head_in old new room behind len comes = subst (Consumes old new) (sym (take_at room behind 4 len)) (head_took old new room comes)

pub head_in_room : (old new : Option (List ℕ)) (room behind : List ℕ) (size : ℕ) → length room ≡ 4 → Comes old new [] room came.All → Consumes old new (take 4 (take (4 + size) (room ++ behind)))
head_in_room old new room behind size len comes = subst (Consumes old new) (sym (take-take 4 (4 + size) (room ++ behind) (omega arith) ∙ take_at room behind 4 len)) (head_took old new room comes)

pub is_room : (bytes : List ℕ) (size : ℕ) → IsTrue (is_lawful_length size) × (take 4 bytes ≡ four size) → 4 + size ≤ length bytes → IsRoom (take (4 + size) bytes)
is_room bytes size told long = (size, told.0, take-take 4 (4 + size) bytes (omega arith) ∙ told.1, length-take-le (4 + size) bytes long)

-- ---- what else a link keeps

rose_after : (a b c : ℕ) → a ≤ b → Rose b c → Rose a c
rose_after a b c le rose = omega (arith, rose)

pub received_none : (wire : Wire) → Receives wire wire ⊥
received_none wire = record { faults = record { later = omega arith; cause = λ f. absurd f }; still = λ _. refl; sure = λ steady f. f; whose = refl; came = refl; given = refl; steady = refl; ended = refl; room = refl }

pub received_if : (old new : Wire) (fault other : Type 0) → (other → fault) → (fault → ⊥) → Receives old new fault → Receives old new other
received_if old new fault other leads never r = record {
  faults = record { later = r.faults.later; cause = λ f. r.faults.cause (leads f) };
  still = λ _. r.still never;
  sure = λ steady f. r.sure steady (leads f);
  whose = r.whose;
  came = r.came;
  given = r.given;
  steady = r.steady;
  ended = r.ended;
  room = r.room;
}

pub received_then : (old mid new : Wire) (fault : Type 0) → Receives old mid ⊥ → Receives mid new fault → Receives old new fault
received_then old mid new fault a b = record {
  faults = record { later = omega (arith, a.faults.later, b.faults.later); cause = λ f. rose_after old.faults mid.faults new.faults a.faults.later (b.faults.cause f) };
  still = λ none. b.still none ∙ a.still (λ f. f);
  sure = λ steady f. b.sure (a.steady ∙ steady) f;
  whose = b.whose ∙ a.whose;
  came = b.came ∙ a.came;
  given = b.given ∙ a.given;
  steady = b.steady ∙ a.steady;
  ended = b.ended ∙ a.ended;
  room = b.room ∙ a.room;
}
