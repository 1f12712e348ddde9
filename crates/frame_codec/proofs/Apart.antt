-- Spellings are apart: their lengths tell where they end.
use Rattle.std.proofs.Common.{◌≡◌, ℕ, ◌+◌, ◌^◌, ◌<◌, List, [], ◌∷◌, ◌++◌, length, take, drop, Option, Some, refl, sym, ap, subst, ◌∙◌, append_assoc, arith, inl, inr, ◌⊎◌, take-append-drop}
use Rattle.std.specs.Prelude.{IsTrue}
use Rattle.std.specs.Int.{w32}
use Rattle.std.proofs.lemmas.List.{take_at, drop_at, length-append, append-nil, length-take-le}
use Rattle.frame_codec.specs.declared.reading.Read.{Read}
use Rattle.frame_codec.specs.declared.reading.Read.TheVariants.{Frame, Short, BadFrame, NoMemory}
use Rattle.frame_codec.specs.Spelling.{four, size, framed, SpellsBy, service_parts, server_parts, server_spelling, Fits, FitsServer, is_lawful_length}
use Rattle.frame_codec.specs.Stream.{BeginsBy, BeginsNoneBy, FramesBy, IsShort}
use Rattle.frame_codec.specs.Reading.{number_at, payload_at}
use Rattle.frame_codec.specs.ServiceFields.{service_fields_at}
use Rattle.frame_codec.specs.ServerFields.{server_fields_at}
use Rattle.frame_codec.specs.Answer.{TellsBy}
use Rattle.frame_codec.specs.Laws.{OneSpelling, OneFrame, OneServerFrame, NoneIsPrefix, NoneIsServerPrefix, OneBegins, OneServerBegins, ShortBeginsNone, ShortServerBeginsNone, OneStream, OneServerStream, IsReadAgain, IsServiceReadAgain}
use Rattle.frame_codec.proofs.Sizes.{length-four}
use Rattle.frame_codec.proofs.Formats.{bytes_of, length-bytes_of, joined-is, ReadsAsSpelled, four_again}
use Rattle.frame_codec.proofs.Payloads.{service_as_spelled}
use Rattle.frame_codec.proofs.ServerPayloads.{server_as_spelled}
use Rattle.frame_codec.proofs.Whole.{lawful_bounds}

-- a number and bytes
abbrev Headed : Type 0
Headed = ℕ × List ℕ

headed_is : (a b : Headed) → Some a ≡ Some b → a ≡ b
headed_is a b e = cc

pub heads_are : (n m : ℕ) (x y : List ℕ) → n < 2 ^ 32 → m < 2 ^ 32 → four n ++ x ≡ four m ++ y → (n ≡ m) × (x ≡ y)
heads_are n m x y low high e =
    let same = headed_is (n, x) (m, y) (sym (four_again n x low) ∙ ap (number_at w32) e ∙ four_again m y high) in
    (ap (λ (a : Headed). a.0) same, ap (λ (a : Headed). a.1) same)

bodies_are : (n : ℕ) (one other rest behind : List ℕ) → length one ≡ n → length other ≡ n → one ++ rest ≡ other ++ behind → (one ≡ other) × (rest ≡ behind)
bodies_are n one other rest behind l m e =
    (sym (take_at one rest n l) ∙ ap (take n) e ∙ take_at other behind n m, sym (drop_at one rest n l) ∙ ap (drop n) e ∙ drop_at other behind n m)

-- Two spellings at the front of the same bytes have the same parts, and the same rest.
framed_are : (one other : List (List ℕ)) (rest behind : List ℕ) → IsTrue (is_lawful_length (size one)) → IsTrue (is_lawful_length (size other)) → framed one ++ rest ≡ framed other ++ behind
    → (bytes_of one ≡ bytes_of other) × (rest ≡ behind)
framed_are one other rest behind low high e =
    let n : ℕ = size one in
    let m : ℕ = size other in
    let small : n < 2 ^ 32 = omega (arith, (lawful_bounds n low).1) in
    let small' : m < 2 ^ 32 = omega (arith, (lawful_bounds m high).1) in
    let left : framed one ++ rest ≡ four n ++ (bytes_of one ++ rest) = ap (λ (t : List ℕ). t ++ rest) (joined-is (four n) one) ∙ append_assoc (four n) (bytes_of one) rest in
    let right : framed other ++ behind ≡ four m ++ (bytes_of other ++ behind) = ap (λ (t : List ℕ). t ++ behind) (joined-is (four m) other) ∙ append_assoc (four m) (bytes_of other) behind in
    let h = heads_are n m (bytes_of one ++ rest) (bytes_of other ++ behind) small small' (sym left ∙ e ∙ right) in
    bodies_are n (bytes_of one) (bytes_of other) rest behind (length-bytes_of one) (length-bytes_of other ∙ sym h.0) h.1

-- ---- of either direction

one_begins_by : {F : Type 0} (parts : F → List (List ℕ)) (fit : F → Type 0) (fields : ℕ → List ℕ → Option F) → ReadsAsSpelled parts fit fields → (bytes : List ℕ) (frame other : F) (rest behind : List ℕ) → BeginsBy parts fit bytes frame rest → BeginsBy parts fit bytes other behind → (frame ≡ other) × (rest ≡ behind)
one_begins_by {F} parts fit fields law bytes frame other rest behind a b =
    let whole : framed (parts frame) ++ rest ≡ framed (parts other) ++ behind = ap (λ (t : List ℕ). t ++ rest) (sym a.1.spelled) ∙ sym a.2 ∙ b.2 ∙ ap (λ (t : List ℕ). t ++ behind) b.1.spelled in
    let same = framed_are (parts frame) (parts other) rest behind a.1.lawful b.1.lawful whole in
    let one : payload_at fields (bytes_of (parts frame)) ≡ Some frame = law.again frame a.1.fits (omega (arith, (lawful_bounds (size (parts frame)) a.1.lawful).1)) in
    let two : payload_at fields (bytes_of (parts other)) ≡ Some other = law.again other b.1.fits (omega (arith, (lawful_bounds (size (parts other)) b.1.lawful).1)) in
    (some_is frame other (sym one ∙ ap (payload_at fields) same.0 ∙ two), same.1)
  where
    some_is : (x y : F) → Some x ≡ Some y → x ≡ y
    some_is x y e = cc

whole_begins : {F : Type 0} (parts : F → List (List ℕ)) (fit : F → Type 0) (bytes : List ℕ) (frame : F) → SpellsBy parts fit bytes frame → BeginsBy parts fit bytes frame []
whole_begins parts fit bytes frame s = (bytes, s, sym (append-nil bytes))

one_frame_by : {F : Type 0} (parts : F → List (List ℕ)) (fit : F → Type 0) (fields : ℕ → List ℕ → Option F) → ReadsAsSpelled parts fit fields → (bytes : List ℕ) (frame other : F) → SpellsBy parts fit bytes frame → SpellsBy parts fit bytes other → frame ≡ other
one_frame_by parts fit fields law bytes frame other a b = (one_begins_by parts fit fields law bytes frame other [] [] (whole_begins parts fit bytes frame a) (whole_begins parts fit bytes other b)).0

pub short_begins_none_by : {F : Type 0} (parts : F → List (List ℕ)) (fit : F → Type 0) (bytes : List ℕ) → IsShort bytes → BeginsNoneBy parts fit bytes
short_begins_none_by parts fit bytes (inl few) frame rest begins =
    let n : ℕ = size (parts frame) in
    let all : length bytes ≡ length (four n) + length (bytes_of (parts frame) ++ rest) =
    ap length (begins.2 ∙ ap (λ (t : List ℕ). t ++ rest) (begins.1.spelled ∙ joined-is (four n) (parts frame)) ∙ append_assoc (four n) (bytes_of (parts frame)) rest) ∙ length-append (four n) (bytes_of (parts frame) ++ rest) in
    omega (arith, all, length-four n)
short_begins_none_by parts fit bytes (inr part) frame rest begins =
    let n : ℕ = size (parts frame) in
    let body : List ℕ = bytes_of (parts frame) in
    let whole : four part.0 ++ part.1 ≡ four n ++ (body ++ rest) =
    sym part.3 ∙ begins.2 ∙ ap (λ (t : List ℕ). t ++ rest) (begins.1.spelled ∙ joined-is (four n) (parts frame)) ∙ append_assoc (four n) body rest in
    let h = heads_are part.0 n part.1 (body ++ rest) (omega (arith, (lawful_bounds part.0 part.2).1)) (omega (arith, (lawful_bounds n begins.1.lawful).1)) whole in
    omega (arith, part.4, h.0, ap length h.1, length-append body rest, length-bytes_of (parts frame))

one_stream_by : {F : Type 0} (parts : F → List (List ℕ)) (fit : F → Type 0) (fields : ℕ → List ℕ → Option F) → ReadsAsSpelled parts fit fields → (bytes : List ℕ) (frames others : List F) (rest behind : List ℕ) → FramesBy parts fit bytes frames rest → FramesBy parts fit bytes others behind → (frames ≡ others) × (rest ≡ behind)
one_stream_by parts fit fields law bytes [] [] rest behind a b = (refl, sym a.0 ∙ b.0)
one_stream_by parts fit fields law bytes [] (other ∷ others) rest behind a b = absurd (a.1 other b.0 (subst (λ (t : List ℕ). BeginsBy parts fit t other b.0) a.0 b.1))
one_stream_by parts fit fields law bytes (frame ∷ frames) [] rest behind a b = absurd (b.1 frame a.0 (subst (λ (t : List ℕ). BeginsBy parts fit t frame a.0) b.0 a.1))
one_stream_by parts fit fields law bytes (frame ∷ frames) (other ∷ others) rest behind a b =
    let first = one_begins_by parts fit fields law bytes frame other a.0 b.0 a.1 b.1 in
    let then = one_stream_by parts fit fields law a.0 frames others rest behind a.2 (subst (λ (t : List ℕ). FramesBy parts fit t others behind) (sym first.1) b.2) in
    (cc (first.0, then.0), then.1)

-- what was written of a frame is read as that frame, taken whole
read_again_by : {F : Type 0} (parts : F → List (List ℕ)) (fit : F → Type 0) (fields : ℕ → List ℕ → Option F) → ReadsAsSpelled parts fit fields → (frame : F) (rest : List ℕ) (answer : Read F) → fit frame → IsTrue (is_lawful_length (size (parts frame))) → TellsBy parts fit (framed (parts frame) ++ rest) answer
    → (answer ≡ Frame frame (length (framed (parts frame)))) ⊎ (answer ≡ NoMemory)
read_again_by {F} parts fit fields law frame rest (Frame other taken) fits lawful told =
    let bytes : List ℕ = framed (parts frame) ++ rest in
    let begins : BeginsBy parts fit bytes frame rest = (framed (parts frame), record { fits = fits; lawful = lawful; spelled = refl }, refl) in
    let h = one_begins_by parts fit fields law bytes frame other rest (drop taken bytes) begins (take taken bytes, told.1, sym (take-append-drop taken bytes)) in
    let whole : taken ≡ length (framed (parts frame)) = sym (length-take-le taken bytes told.0) ∙ ap length told.1.spelled ∙ ap (λ (f : F). length (framed (parts f))) (sym h.0) in
    inl (cc (h.0, whole))
read_again_by parts fit fields law frame rest Short fits lawful told = absurd (short_begins_none_by parts fit (framed (parts frame) ++ rest) told frame rest (framed (parts frame), record { fits = fits; lawful = lawful; spelled = refl }, refl))
read_again_by parts fit fields law frame rest BadFrame fits lawful told = absurd (told.0 frame rest (framed (parts frame), record { fits = fits; lawful = lawful; spelled = refl }, refl))
read_again_by parts fit fields law frame rest NoMemory fits lawful told = inr refl

-- ---- what a service says

pub one_begins : OneBegins
one_begins = one_begins_by service_parts Fits service_fields_at service_as_spelled

pub one_spelling : OneSpelling
one_spelling one other frame a b = a.spelled ∙ sym b.spelled

pub one_frame : OneFrame
one_frame = one_frame_by service_parts Fits service_fields_at service_as_spelled

pub none_is_prefix : NoneIsPrefix
none_is_prefix front more frame other a b = (one_begins (front ++ more) frame other more [] (front, a, refl) (front ++ more, b, sym (append-nil (front ++ more)))).1

pub short_begins_none : ShortBeginsNone
short_begins_none = short_begins_none_by service_parts Fits

pub one_stream : OneStream
one_stream = one_stream_by service_parts Fits service_fields_at service_as_spelled

pub is_service_read_again : IsServiceReadAgain
is_service_read_again frame rest answer has told = read_again_by service_parts Fits service_fields_at service_as_spelled frame rest answer has.0 has.1 told

-- ---- what a service hears

pub one_server_begins : OneServerBegins
one_server_begins = one_begins_by server_parts FitsServer server_fields_at server_as_spelled

pub one_server_frame : OneServerFrame
one_server_frame frame other a b e =
    one_frame_by server_parts FitsServer server_fields_at server_as_spelled (server_spelling frame) frame other (record { fits = a.0; lawful = a.1; spelled = refl }) (record { fits = b.0; lawful = b.1; spelled = e })

pub none_is_server_prefix : NoneIsServerPrefix
none_is_server_prefix more frame other a b e = (framed_are (server_parts frame) (server_parts other) more [] a.1 b.1 (e ∙ sym (append-nil (framed (server_parts other))))).1

pub short_server_begins_none : ShortServerBeginsNone
short_server_begins_none = short_begins_none_by server_parts FitsServer

pub one_server_stream : OneServerStream
one_server_stream = one_stream_by server_parts FitsServer server_fields_at server_as_spelled

pub is_read_again : IsReadAgain
is_read_again frame rest answer has told = read_again_by server_parts FitsServer server_fields_at server_as_spelled frame rest answer has.0 has.1 told
