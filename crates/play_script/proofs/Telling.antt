-- What a tally makes of the lines that a run prints.
use Rattle.std.proofs.Common.{◌≡◌, ◌∙◌, ℕ, zero, suc, ◌/◌, ◌%◌, ◌<◌, Bool, true, false, List, [], ◌∷◌, ◌++◌, refl, ap, arith, append_assoc}
use Rattle.std.specs.Prelude.{if◌then◌else◌, ◌==◌, ◌||◌, nat_lt, codes, decimal, flat_map, fold, drop, slice_get, map}
use Rattle.std.specs.List.{list_all}
use Rattle.std.specs.Fmt.{digits, digits_onto, digit_glyph}
use Rattle.std.proofs.lemmas.Bool.{ne_eqb}
use Rattle.std.proofs.lemmas.List.Sums.{fold-append}
use Rattle.okws_base.specs.Names.{is_name, is_name_byte}
use Rattle.okws_base.specs.Runs.{Each}
use Rattle.okws_plan.specs.Configuration.{service_name, service_name_of}
use Rattle.okws_plan.specs.Lines.{service_names}
use Rattle.okws_plan.specs.declared.configuration.Config.{Config}
use Rattle.okws_plan.specs.declared.configuration.ServicePlan.{ServicePlan}
use Rattle.frame_codec.specs.Spelling.{four, size, server_parts, server_spelling}
use Rattle.frame_codec.specs.declared.frame.ServerFrame.{ServerFrame}
use Rattle.frame_codec.specs.declared.frame.ServerFrame.TheVariants as frame
use Rattle.frame_codec.proofs.Formats.{bytes_of, joined-is}
use Rattle.plain_text.specs.Hexadecimal.{hex, hex_byte, hex_digit, escaped, escaped_byte}
use Rattle.monitor_model.specs.Stage.{heard_line, answer_line}
use Rattle.monitor_model.specs.Told.{Told, ToldFrame, ToldAnswer, told_text}
use Rattle.play_script.specs.Summary.{kind_of, frames_in}
use Rattle.play_script.specs.Tally.{Tallied, at_place, digit_value, in_words, of_kind, of_rule, step, tick, two_digits}
use Rattle.play_script.specs.declared.tally.Place.TheVariants.{Start, Words, Length, Rest}

-- ---- bytes that neither end a word nor a line

-- a byte that is above a blank
abbrev pub Above : ℕ → Type 0
Above b = 32 < b

-- a byte that is above LF
abbrev pub Over : ℕ → Type 0
Over b = 10 < b

each_append : (P : ℕ → Type 0) (xs ys : List ℕ) → Each P xs → Each P ys → Each P (xs ++ ys)
each_append P [] ys h k = k
each_append P (x ∷ xs) ys h k = (h.0, each_append P xs ys h.1 k)

each_flat : (P : ℕ → Type 0) (f : ℕ → List ℕ) → ((b : ℕ) → Each P (f b)) → (xs : List ℕ) → Each P (flat_map f xs)
each_flat P f h [] = tt
each_flat P f h (x ∷ xs) = each_append P (f x) (flat_map f xs) (h x) (each_flat P f h xs)

each_if : (P : ℕ → Type 0) (b : Bool) (xs ys : List ℕ) → Each P xs → Each P ys → Each P (if b then xs else ys)
each_if P true xs ys h k = h
each_if P false xs ys h k = k

glyph_above : (d : ℕ) → 32 < digit_glyph false d
glyph_above d = grind arith

onto_above : (k n : ℕ) (acc : List ℕ) → Each Above acc → Each Above (digits_onto k 10 false n acc)
onto_above zero n acc h = h
onto_above (suc k) n acc h =
    each_if Above (n / 10 == 0) _ _ (glyph_above (n % 10), h) (onto_above k (n / 10) (digit_glyph false (n % 10) ∷ acc) (glyph_above (n % 10), h))

decimal_above : (n : ℕ) → Each Above (decimal n)
unfolding digits
decimal_above n = onto_above 64 n [] tt

over_above : (xs : List ℕ) → Each Above xs → Each Over xs
over_above [] h = tt
over_above (x ∷ xs) h = (omega (arith, h.0), over_above xs h.1)

name_byte_above : (b : ℕ) → is_name_byte b ≡ true → 32 < b
name_byte_above b h = grind arith

bytes_above : (name : List ℕ) → list_all is_name_byte name ≡ true → Each Above name
bytes_above [] h = tt
bytes_above (b ∷ more) h = (name_byte_above b (grind arith), bytes_above more (grind arith))

name_above : (name : List ℕ) → is_name name ≡ true → Each Above name
name_above name h = bytes_above name (grind arith)

plan_above : (plans : List ServicePlan) (s : ℕ) → list_all is_name (map (λ (plan : ServicePlan). plan.name) plans) ≡ true → Each Above (service_name_of (slice_get plans s))
plan_above [] s h = tt
plan_above (plan ∷ plans) zero h = name_above plan.name (grind arith)
plan_above (plan ∷ plans) (suc s) h = plan_above plans s (grind arith)

service_above : (C : Config) (s : ℕ) → list_all is_name (service_names C) ≡ true → Each Above (service_name C s)
service_above C s h = plan_above C.services s h

hex_digit_over : (n : ℕ) → 10 < hex_digit n
hex_digit_over n = grind arith

hex_byte_over : (b : ℕ) → Each Over (hex_byte b)
hex_byte_over b = (hex_digit_over (b / 16), (hex_digit_over (b % 16), tt))

hex_over : (bytes : List ℕ) → Each Over (hex bytes)
hex_over bytes = each_flat Over hex_byte hex_byte_over bytes

printable_over : (b : ℕ) → (nat_lt b 32 || (nat_lt 126 b || (b == 92))) ≡ false → 10 < b
printable_over b e = grind arith

escaped_byte_over : (b : ℕ) → Each Over (escaped_byte b)
escaped_byte_over b =
    elim (nat_lt b 32 || (nat_lt 126 b || (b == 92))) as (λ t. (nat_lt b 32 || (nat_lt 126 b || (b == 92))) ≡ t → Each Over (if t then 92 ∷ 120 ∷ hex_byte b else b ∷ [])) [
      | true ↦ (λ e. (omega arith, (omega arith, hex_byte_over b)))
      | false ↦ (λ e. (printable_over b e, tt))
    ] refl

escaped_over : (bytes : List ℕ) → Each Over (escaped bytes)
escaped_over bytes = each_flat Over escaped_byte escaped_byte_over bytes

-- ---- what a tally makes of them

words_stay : (n : ℕ) (T : Tallied) (bytes : List ℕ) → Each Above bytes → fold step (at_place T (Words n)) bytes ≡ at_place T (Words n)
words_stay n T [] h = refl
words_stay n T (b ∷ more) h =
    let other : (b == 32) ≡ false = ne_eqb b 32 (λ e. omega (arith, h.0, e)) in
    rw other (words_stay n T more h.1)

rest_stay : (T : Tallied) (bytes : List ℕ) → Each Over bytes → fold step (at_place T Rest) bytes ≡ at_place T Rest
rest_stay T [] h = refl
rest_stay T (b ∷ more) h =
    let other : (b == 10) ≡ false = ne_eqb b 10 (λ e. omega (arith, h.0, e)) in
    rw other (rest_stay T more h.1)

-- the rest of a line, and its end
rest_ends : (T : Tallied) (bytes : List ℕ) → Each Over bytes → fold step (at_place T Rest) (bytes ++ 10 ∷ []) ≡ at_place T Start
rest_ends T bytes h = fold-append step (at_place T Rest) bytes (10 ∷ []) ∙ ap (λ (U : Tallied). fold step U (10 ∷ [])) (rest_stay T bytes h)

-- a word and its blank
word_ends : (n : ℕ) (T : Tallied) (word more : List ℕ) → Each Above word → fold step (at_place T (Words n)) (word ++ 32 ∷ more) ≡ fold step (at_place T (in_words n 32)) more
word_ends n T word more h = fold-append step (at_place T (Words n)) word (32 ∷ more) ∙ ap (λ (U : Tallied). fold step U (32 ∷ more)) (words_stay n T word h)

-- the words before the digits
front_read : (T : Tallied) (name number more : List ℕ) → Each Above name → Each Above number →
    fold step (at_place T Start) (codes "heard " ++ (name ++ (32 ∷ (number ++ (32 ∷ more))))) ≡ fold step (at_place T (Length 0)) more
front_read T name number more h k = word_ends 1 T name (number ++ 32 ∷ more) h ∙ word_ends 2 T number more k

digit_back : (n : ℕ) → digit_value (hex_digit n) ≡ n
digit_back n = grind arith

byte_back : (b : ℕ) → two_digits (hex_digit (b / 16)) (hex_digit (b % 16)) ≡ b
byte_back b = rw (digit_back (b / 16), digit_back (b % 16)) (omega arith)

-- lists one after another
three : (h n a b : List ℕ) → h ++ n ++ a ++ b ≡ h ++ (n ++ (a ++ b))
three h n a b = append_assoc (h ++ n) a b ∙ append_assoc h n (a ++ b)

four_lists : (h n a b c : List ℕ) → h ++ n ++ a ++ b ++ c ≡ h ++ (n ++ (a ++ (b ++ c)))
four_lists h n a b c = append_assoc (h ++ n ++ a) b c ∙ three h n a (b ++ c)

-- the kind of a frame is read
kind_read : (T : Tallied) (n kind : ℕ) (payload more : List ℕ) →
    fold step (at_place T (Length 0)) (hex (four n ++ kind ∷ payload) ++ more) ≡ fold step (of_kind (at_place T Rest) kind) (hex payload ++ more)
unfolding four
kind_read T n kind payload more = ap (λ (k : ℕ). fold step (of_kind (at_place T Rest) k) (hex payload ++ more)) (byte_back kind)

-- bytes of the rest of a line
rest_more : (T : Tallied) (bytes more : List ℕ) → Each Over bytes → fold step (at_place T Rest) (bytes ++ more) ≡ fold step (at_place T Rest) more
rest_more T bytes more h = fold-append step (at_place T Rest) bytes more ∙ ap (λ (U : Tallied). fold step U more) (rest_stay T bytes h)

parts_are : (f : ServerFrame) → server_parts f ≡ (kind_of f ∷ []) ∷ drop 1 (server_parts f)
parts_are (frame.Boot s k tokens) = refl
parts_are (frame.Request head content) = refl
parts_are (frame.Push template edition content) = refl
parts_are (frame.Opened n) = refl
parts_are (frame.Rows columns rows) = refl
parts_are (frame.Changed n) = refl
parts_are (frame.Template edition content) = refl
parts_are frame.Logged = refl
parts_are (frame.Denied rule) = refl
parts_are frame.Failed = refl
parts_are frame.NoMemory = refl
parts_are frame.Duplicate = refl

-- the bytes behind a frame's kind
abbrev pub payload : ServerFrame → List ℕ
payload f = bytes_of (drop 1 (server_parts f))

spelling_is : (f : ServerFrame) → server_spelling f ≡ four (size (server_parts f)) ++ kind_of f ∷ payload f
spelling_is f = joined-is (four (size (server_parts f))) (server_parts f) ∙ ap (λ (parts : List (List ℕ)). four (size (server_parts f)) ++ bytes_of parts) (parts_are f)

-- the frame's kind is read, and its payload is left
frame_read : (T : Tallied) (f : ServerFrame) →
    fold step (at_place T (Length 0)) (hex (server_spelling f) ++ 10 ∷ []) ≡ fold step (of_kind (at_place T Rest) (kind_of f)) (hex (payload f) ++ 10 ∷ [])
frame_read T f =
    ap (λ (t : List ℕ). fold step (at_place T (Length 0)) (hex t ++ 10 ∷ [])) (spelling_is f) ∙ kind_read T (size (server_parts f)) (kind_of f) (payload f) (10 ∷ [])

-- the counts by kind with a frame more
abbrev pub kinds_with : ServerFrame → List ℕ → List ℕ
kinds_with f kinds = if kind_of f == 9 then kinds else tick kinds (kind_of f)

-- the counts by rule with a frame more
abbrev pub rules_with : ServerFrame → List ℕ → List ℕ
rules_with (frame.Denied rule) rules = tick rules rule
rules_with _ rules = rules

-- the tally with a frame more, at the start of a line
abbrev pub marked : Tallied → ServerFrame → Tallied
marked T f = record { kinds = kinds_with f T.kinds; rules = rules_with f T.rules; place = Start }

ends_marked : (T : Tallied) (f : ServerFrame) → fold step (of_kind (at_place T Rest) (kind_of f)) (hex (payload f) ++ 10 ∷ []) ≡ marked T f
ends_marked T (frame.Boot s k tokens) = rest_ends (record T { kinds = tick T.kinds 1 }) (hex (payload (frame.Boot s k tokens))) (hex_over (payload (frame.Boot s k tokens)))
ends_marked T (frame.Request head content) = rest_ends (record T { kinds = tick T.kinds 2 }) (hex (payload (frame.Request head content))) (hex_over (payload (frame.Request head content)))
ends_marked T (frame.Push template edition content) =
    rest_ends (record T { kinds = tick T.kinds 3 }) (hex (payload (frame.Push template edition content))) (hex_over (payload (frame.Push template edition content)))
ends_marked T (frame.Opened n) = rest_ends (record T { kinds = tick T.kinds 4 }) (hex (payload (frame.Opened n))) (hex_over (payload (frame.Opened n)))
ends_marked T (frame.Rows columns rows) = rest_ends (record T { kinds = tick T.kinds 5 }) (hex (payload (frame.Rows columns rows))) (hex_over (payload (frame.Rows columns rows)))
ends_marked T (frame.Changed n) = rest_ends (record T { kinds = tick T.kinds 6 }) (hex (payload (frame.Changed n))) (hex_over (payload (frame.Changed n)))
ends_marked T (frame.Template edition content) =
    rest_ends (record T { kinds = tick T.kinds 7 }) (hex (payload (frame.Template edition content))) (hex_over (payload (frame.Template edition content)))
ends_marked T frame.Logged = refl
ends_marked T (frame.Denied rule) = ap (λ (n : ℕ). at_place (of_rule T n) Start) (byte_back rule)
ends_marked T frame.Failed = refl
ends_marked T frame.NoMemory = refl
ends_marked T frame.Duplicate = refl

-- a line that tells of a frame
heard_read : (C : Config) (T : Tallied) (s k : ℕ) (f : ServerFrame) → list_all is_name (service_names C) ≡ true → fold step (at_place T Start) (heard_line C s k f) ≡ marked T f
heard_read C T s k f names =
    ap (λ (t : List ℕ). fold step (at_place T Start) t) (four_lists (codes "heard ") (service_name C s) (32 ∷ decimal k) (32 ∷ hex (server_spelling f)) (10 ∷ []))
    ∙ front_read T (service_name C s) (decimal k) (hex (server_spelling f) ++ 10 ∷ []) (service_above C s names) (decimal_above k) ∙ frame_read T f ∙ ends_marked T f

-- another line
answer_read : (T : Tallied) (n : ℕ) (text : List ℕ) → fold step (at_place T Start) (answer_line n text) ≡ at_place T Start
answer_read T n text =
    ap (λ (t : List ℕ). fold step (at_place T Start) t) (three (codes "answer ") (decimal n) (32 ∷ escaped text) (10 ∷ []))
    ∙ rest_more T (decimal n) (32 ∷ (escaped text ++ 10 ∷ [])) (over_above (decimal n) (decimal_above n)) ∙ rest_ends T (escaped text) (escaped_over text)

-- lines
pub lines_read : (C : Config) (lines : List Told) (T : Tallied) → list_all is_name (service_names C) ≡ true →
    fold step (at_place T Start) (told_text C lines) ≡ fold marked (at_place T Start) (frames_in lines)
lines_read C [] T names = refl
lines_read C (ToldFrame s k f ∷ more) T names =
    fold-append step (at_place T Start) (heard_line C s k f) (told_text C more) ∙ ap (λ (U : Tallied). fold step U (told_text C more)) (heard_read C T s k f names)
    ∙ lines_read C more (marked T f) names
lines_read C (ToldAnswer n text ∷ more) T names =
    fold-append step (at_place T Start) (answer_line n text) (told_text C more) ∙ ap (λ (U : Tallied). fold step U (told_text C more)) (answer_read T n text)
    ∙ lines_read C more T names
