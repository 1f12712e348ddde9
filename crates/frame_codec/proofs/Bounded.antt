-- Frames that have a spelling by the bounds of their fields.
use Rattle.std.proofs.Common.{◌≡◌, ℕ, ◌+◌, ◌^◌, ◌<◌, ◌≤◌, List, [], ◌∷◌, length, arith, flat_map, refl, lit<, lit≤, ◌*◌}
use Rattle.std.specs.Prelude.{◌==◌, IsTrue}
use Rattle.std.specs.List.{list_all}
use Rattle.okws_base.specs.Runs.{Each}
use Rattle.okws_base.specs.declared.value.Value.{Value}
use Rattle.frame_codec.specs.declared.frame.Issued.{Issued}
use Rattle.std.proofs.lemmas.List.Sums.{sum_by-append}
use Rattle.okws_base.specs.declared.value.Value.TheVariants.{Int, Text, Bytes}
use Rattle.frame_codec.specs.declared.frame.ServerFrame.{ServerFrame}
use Rattle.frame_codec.specs.declared.frame.ServerFrame.TheVariants.{Boot, Request, Push, Opened, Rows, Changed, Template, Logged, Denied, Failed, NoMemory, Duplicate}
use Rattle.frame_codec.specs.Spelling.{two, four, size, value, values, token_parts, server_parts, Bytewise, Spellable, IsIssued, HasSpelling, is_lawful_length}
use Rattle.frame_codec.proofs.Sizes.{sizes, size_from, length-two, length-four}
use Rattle.frame_codec.proofs.Whole.{bounds_lawful}
use Rattle.frame_codec.proofs.Widths.{widths_hold}

lawful : (frame : ServerFrame) (m : ℕ) → size (server_parts frame) ≡ m → 0 < m → m ≤ 1048576 → IsTrue (is_lawful_length (size (server_parts frame)))
lawful frame m e low high = bounds_lawful (size (server_parts frame)) (omega arith) (omega arith)

pub opened_has : (n : ℕ) → n < 2 ^ 32 → HasSpelling (Opened n)
opened_has n low = (low, lawful (Opened n) 5 (simp sizes) (lit< tt) (lit≤ tt))

pub changed_has : (n : ℕ) → n < 2 ^ 64 → HasSpelling (Changed n)
changed_has n low = (low, lawful (Changed n) 9 (simp sizes) (lit< tt) (lit≤ tt))

pub request_has : (head content : List ℕ) → Bytewise head → Bytewise content → length head + length content + 9 ≤ 1048576 → HasSpelling (Request head content)
request_has head content p q high = ((p, q), lawful (Request head content) (length head + length content + 9) (simp sizes (omega arith)) (omega arith) high)

pub push_has : (template : List ℕ) (edition : ℕ) (content : List ℕ) → length template < 256 → Bytewise template → edition < 2 ^ 32 → Bytewise content → length content + 265 ≤ 1048576 → HasSpelling (Push template edition content)
push_has template edition content few p low q high = ((few, p, low, q), lawful (Push template edition content) (length template + length content + 10) (simp sizes (omega arith)) (omega arith) (omega arith))

pub template_has : (edition : ℕ) (content : List ℕ) → edition < 2 ^ 32 → Bytewise content → length content + 9 ≤ 1048576 → HasSpelling (Template edition content)
template_has edition content low q high = ((low, q), lawful (Template edition content) (length content + 9) (simp sizes (omega arith)) (omega arith) high)

size_of_token : (issued : Issued) → IsIssued issued → size (token_parts issued) ≡ 22
size_of_token issued fits = simp sizes (omega (arith, fits.1.0))

size_of_tokens : (tokens : List Issued) → Each IsIssued tokens → size (flat_map token_parts tokens) ≡ 22 * length tokens
size_of_tokens [] fits = refl
size_of_tokens (issued ∷ tokens) fits = omega (arith, sum_by-append length (token_parts issued) (flat_map token_parts tokens), size_of_token issued fits.0, size_of_tokens tokens fits.1)

pub boot_has : (s k : ℕ) (tokens : List Issued) → s < 2 ^ 16 → k < 2 ^ 32 → length tokens < 256 → Each IsIssued tokens → HasSpelling (Boot s k tokens)
boot_has s k tokens p q few fits =
    let n : ℕ = size (flat_map token_parts tokens) in
    let is : n ≡ 22 * length tokens = size_of_tokens tokens fits in
    ((p, q, few, fits), lawful (Boot s k tokens) (8 + n) (omega (arith, size_from (2 + length (two s) + length (four k)) (flat_map token_parts tokens), size_from (1 + length (two s) + length (four k) + 1) (flat_map token_parts tokens), length-two s, length-four k)) (omega arith) (omega arith))

-- a value takes a byte at the least, and so does a row of a column, and rows of such
value_takes : (v : Value) → 0 < size (value v)
value_takes (Int n) = simp sizes (omega arith)
value_takes (Text t) = simp sizes (omega arith)
value_takes (Bytes b) = simp sizes (omega arith)

row_takes : (row : List Value) → length row ≤ size (values row)
row_takes [] = omega arith
row_takes (v ∷ row) = omega (arith, sum_by-append length (value v) (values row), value_takes v, row_takes row)

rows_take : (columns : ℕ) (T : List (List Value)) → 0 < columns → Each (λ (row : List Value). (length row ≡ columns) × Each Spellable row) T → length T ≤ size (flat_map values T)
rows_take columns [] some fits = omega arith
rows_take columns (row ∷ T) some fits = omega (arith, sum_by-append length (values row) (flat_map values T), row_takes row, fits.0.0, rows_take columns T some fits.1)

pub rows_has : (columns : ℕ) (T : List (List Value)) → 0 < columns → columns < 256 → IsTrue (list_all (λ (row : List Value). length row == columns) T) → Each (Each Spellable) T → size (server_parts (Rows columns T)) ≤ 1048576 → HasSpelling (Rows columns T)
rows_has columns T some low wide fits high =
    let all : Each (λ (row : List Value). (length row ≡ columns) × Each Spellable row) T = widths_hold (Each Spellable) columns T wide fits in
    let n : ℕ = size (flat_map values T) in
    let is : size (server_parts (Rows columns T)) ≡ 6 + n = omega (arith, size_from (2 + length (four (length T))) (flat_map values T), length-four (length T)) in
    let enough : length T ≤ n = rows_take columns T some all in
    ((low, omega arith, all), lawful (Rows columns T) (6 + n) is (omega arith) (omega arith))
