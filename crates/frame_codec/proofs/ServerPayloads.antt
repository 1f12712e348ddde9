-- What is read as the payload of a frame that a service hears is one, and a payload is read.
use Rattle.std.proofs.Common.{◌≡◌, ℕ, ◌^◌, ◌<◌, Bool, true, false, cond, eqb, List, [], ◌∷◌, ◌++◌, length, flat_map, Some, None, refl, sym, ap, subst, ◌∙◌, append_assoc, arith}
use Rattle.std.specs.Prelude.{option_map}
use Rattle.std.specs.Int.{w16, w32}
use Rattle.std.proofs.lemmas.List.{append-nil}
use Rattle.std.proofs.lemmas.List.Sums.{sum_by-cons}
use Rattle.okws_base.specs.Runs.{Each}
use Rattle.okws_base.specs.declared.value.Value.{Value}
use Rattle.frame_codec.specs.declared.frame.Issued.{Issued}
use Rattle.frame_codec.specs.declared.frame.ServerFrame.{ServerFrame}
use Rattle.frame_codec.specs.declared.frame.ServerFrame.TheVariants.{Boot, Request, Push, Opened, Rows, Changed, Template, Logged, Denied, Failed, NoMemory, Duplicate}
use Rattle.frame_codec.specs.Spelling.{two, four, eight, name, string, value, values, token_parts, size, server_parts, FitsServer, IsIssued, Spellable, Bytewise}
use Rattle.frame_codec.specs.Reading.{both, after, fixed_at, byte_at, number_at, name_at, string_at, value_at, many_at, all_of, payload_at}
use Rattle.frame_codec.specs.ServerFields.{issued_at, issues_at, rows_at, boot_at, request_at, push_at, opened_at, table_at, changed_at, template_at, denied_at, nothing_at, boot_frame, request_frame, push_frame, rows_frame, template_frame, server_fields_at}
use Rattle.frame_codec.proofs.Formats.{bytes_of, IsBytes, IsBytes-rest, IsFormat, then_some, map_some, some_is, fixed_format, both_format, two_format, four_format, four_again, eight_format, name_format, string_format, byte_format, mapped_format, listed_takes, listed_again, counted_format, all_again, kind_takes, ReadsAsSpelled}
use Rattle.frame_codec.proofs.Values.{value_format}

-- ---- tokens

issued_format : IsFormat token_parts IsIssued IsIssued issued_at
issued_format = mapped_format (λ (p : ℕ × List ℕ). record { proxy = p.0; token = record { bytes = p.1 } }) (λ (i : Issued). (i.proxy, i.token.bytes)) (λ i. refl) (λ (p : ℕ × List ℕ). two p.0 ∷ p.1 ∷ []) token_parts _ _ IsIssued IsIssued (both (number_at w16) (fixed_at 20))
    (both_format (λ n. two n ∷ []) (λ n. n < 2 ^ 16) (λ n. n < 2 ^ 16) (number_at w16) (λ b. b ∷ []) (λ b. length b ≡ 20) (λ b. (length b ≡ 20) × Bytewise b) (fixed_at 20) two_format (fixed_format 20))
    (λ p. refl) (λ p g. (g.0, g.1)) (λ i. refl) (λ i fits. (fits.0, fits.1.0))

-- Tokens behind their count.
tokens_format : IsFormat (λ ts. (length ts ∷ []) ∷ flat_map token_parts ts) (Each IsIssued) (λ ts. (length ts < 256) × Each IsIssued ts) (after byte_at issues_at)
tokens_format = counted_format token_parts IsIssued IsIssued issued_at issued_format

-- ---- rows

-- a row of so many values that have a spelling
abbrev IsRow : ℕ → List Value → Type 0
IsRow columns row = (length row ≡ columns) × Each Spellable row

row_format : (columns : ℕ) → IsFormat values (IsRow columns) (IsRow columns) (many_at columns)
row_format columns = record {
  takes = λ bytes row rest fits e. listed_takes value Spellable Spellable value_at value_format columns bytes row rest fits e;
  again = λ row rest fits small. ap (λ (n : ℕ). many_at n (bytes_of (values row) ++ rest)) (sym fits.0) ∙ listed_again value Spellable Spellable value_at value_format row rest fits.1 small;
}

-- Rows behind the number of their columns and their count.
table_format : IsFormat (λ (p : ℕ × List (List Value)). (p.0 ∷ []) ∷ four (length p.1) ∷ flat_map values p.1)
    (λ p. (length p.1 < 2 ^ 32) × Each (IsRow p.0) p.1) (λ p. (p.0 < 256) × (length p.1 < 2 ^ 32) × Each (IsRow p.0) p.1) table_at
unfolding byte_at
table_format = record { takes = takes_table; again = λ p rest fits small. again_table p.0 p.1 rest fits.0 fits.1 small }
  where
    takes_table : (bytes : List ℕ) (p : ℕ × List (List Value)) (rest : List ℕ) → IsBytes bytes → table_at bytes ≡ Some (p, rest)
        → (bytes ≡ bytes_of ((p.0 ∷ []) ∷ four (length p.1) ∷ flat_map values p.1) ++ rest) × ((p.0 < 256) × (length p.1 < 2 ^ 32) × Each (IsRow p.0) p.1) × IsBytes rest
    takes_table [] p rest fits e = absurd cc
    takes_table (columns ∷ bytes) p rest fits e =
        let m = map_some (after (number_at w32) (rows_at columns) bytes) (λ (a : List (List Value) × List ℕ). ((columns, a.0), a.1)) (p, rest) e in
        let n = then_some (number_at w32 bytes) (λ n. rows_at columns n.0 n.1) m.0 m.1 in
        let x = four_format.takes bytes n.0.0 n.0.1 (IsBytes-rest columns bytes fits) n.1 in
        let y = listed_takes values (IsRow columns) (IsRow columns) (many_at columns) (row_format columns) n.0.0 n.0.1 m.0.0 m.0.1 x.2 n.2 in
        let body : List ℕ = bytes_of (flat_map values m.0.0) in
        let whole : columns ∷ bytes ≡ columns ∷ ((four (length m.0.0) ++ body) ++ m.0.1) =
        ap (λ (t : List ℕ). columns ∷ t) (x.0 ∙ ap (λ (t : List ℕ). t ++ n.0.1) (append-nil (four n.0.0)) ∙ ap (λ (t : List ℕ). four n.0.0 ++ t) y.0 ∙ ap (λ (k : ℕ). four k ++ (body ++ m.0.1)) (sym y.1.0) ∙ sym (append_assoc (four (length m.0.0)) body m.0.1)) in
        subst (λ (q : (ℕ × List (List Value)) × List ℕ). (columns ∷ bytes ≡ bytes_of ((q.0.0 ∷ []) ∷ four (length q.0.1) ∷ flat_map values q.0.1) ++ q.1) × ((q.0.0 < 256) × (length q.0.1 < 2 ^ 32) × Each (IsRow q.0.0) q.0.1) × IsBytes q.1) m.2
        (whole, (fits 0, omega (arith, x.1, y.1.0), y.1.1), y.2)

    again_table : (columns : ℕ) (rows : List (List Value)) (rest : List ℕ) → length rows < 2 ^ 32 → Each (IsRow columns) rows → size ((columns ∷ []) ∷ four (length rows) ∷ flat_map values rows) < 2 ^ 32
        → table_at (bytes_of ((columns ∷ []) ∷ four (length rows) ∷ flat_map values rows) ++ rest) ≡ Some ((columns, rows), rest)
    again_table columns rows rest low fits small =
        let body : List ℕ = bytes_of (flat_map values rows) in
        let less : size (flat_map values rows) < 2 ^ 32 = omega (arith, sum_by-cons length (columns ∷ []) (four (length rows) ∷ flat_map values rows), sum_by-cons length (four (length rows)) (flat_map values rows)) in
        ap (λ (t : List ℕ). table_at (columns ∷ t)) (append_assoc (four (length rows)) body rest) ∙ rw (four_again (length rows) (body ++ rest) low, listed_again values (IsRow columns) (IsRow columns) (many_at columns) (row_format columns) rows rest fits less) refl

-- ---- nothing

nothing_format : IsFormat (λ x. []) (λ x. Unit {0}) (λ x. Unit {0}) nothing_at
nothing_format = record {
  takes = λ bytes x rest fits e. subst (λ (p : Unit {0} × List ℕ). (bytes ≡ p.1) × Unit {0} × IsBytes p.1) (some_is (tt, bytes) (x, rest) e) (refl, tt, fits);
  again = λ x rest _ _. refl;
}

-- ---- the fields of each kind

boot_format : IsFormat (λ (p : ℕ × (ℕ × List Issued)). two p.0 ∷ four p.1.0 ∷ (length p.1.1 ∷ []) ∷ flat_map token_parts p.1.1)
    (λ p. (p.0 < 2 ^ 16) × ((p.1.0 < 2 ^ 32) × Each IsIssued p.1.1))
    (λ p. (p.0 < 2 ^ 16) × ((p.1.0 < 2 ^ 32) × ((length p.1.1 < 256) × Each IsIssued p.1.1))) boot_at
boot_format =
    both_format (λ n. two n ∷ []) (λ n. n < 2 ^ 16) (λ n. n < 2 ^ 16) (number_at w16) _ _ _ _ two_format
    (both_format (λ n. four n ∷ []) (λ n. n < 2 ^ 32) (λ n. n < 2 ^ 32) (number_at w32) _ _ _ _ four_format tokens_format)

request_format : IsFormat (λ (p : List ℕ × List ℕ). string p.0 ++ string p.1) (λ p. Unit {0} × Unit {0}) (λ p. Bytewise p.0 × Bytewise p.1) request_at
request_format = both_format string (λ b. Unit {0}) Bytewise string_at string (λ b. Unit {0}) Bytewise string_at string_format string_format

template_format : IsFormat (λ (p : ℕ × List ℕ). four p.0 ∷ string p.1) (λ p. (p.0 < 2 ^ 32) × Unit {0}) (λ p. (p.0 < 2 ^ 32) × Bytewise p.1) template_at
template_format = both_format (λ n. four n ∷ []) (λ n. n < 2 ^ 32) (λ n. n < 2 ^ 32) (number_at w32) string (λ b. Unit {0}) Bytewise string_at four_format string_format

push_format : IsFormat (λ (p : List ℕ × (ℕ × List ℕ)). name p.0 ++ four p.1.0 ∷ string p.1.1) (λ p. (length p.0 < 256) × ((p.1.0 < 2 ^ 32) × Unit {0})) (λ p. ((length p.0 < 256) × Bytewise p.0) × ((p.1.0 < 2 ^ 32) × Bytewise p.1.1)) push_at
push_format = both_format name (λ b. length b < 256) (λ b. (length b < 256) × Bytewise b) name_at _ _ _ _ name_format template_format

-- ---- payloads

payload_again : (frame : ServerFrame) → FitsServer frame → size (server_parts frame) < 2 ^ 32 → payload_at server_fields_at (bytes_of (server_parts frame)) ≡ Some frame
unfolding server_fields_at
payload_again (Boot s k tokens) fits small = ap (option_map boot_frame) (all_again _ _ _ boot_at boot_format (s, (k, tokens)) (fits.0, (fits.1, fits.3)) (omega (arith, sum_by-cons length (1 ∷ []) (two s ∷ four k ∷ (length tokens ∷ []) ∷ flat_map token_parts tokens))))
payload_again (Request head content) fits small = ap (option_map request_frame) (all_again _ _ _ request_at request_format (head, content) (tt, tt) (omega (arith, sum_by-cons length (2 ∷ []) (string head ++ string content))))
payload_again (Push template edition content) fits small = ap (option_map push_frame) (all_again _ _ _ push_at push_format (template, (edition, content)) (fits.0, (fits.2, tt)) (omega (arith, sum_by-cons length (3 ∷ []) (name template ++ four edition ∷ string content))))
payload_again (Opened n) fits small = ap (option_map Opened) (all_again _ _ _ opened_at four_format n fits (omega (arith, sum_by-cons length (4 ∷ []) (four n ∷ []))))
payload_again (Rows columns rows) fits small = ap (option_map rows_frame) (all_again _ _ _ table_at table_format (columns, rows) (fits.1, fits.2) (omega (arith, sum_by-cons length (5 ∷ []) ((columns ∷ []) ∷ four (length rows) ∷ flat_map values rows))))
payload_again (Changed n) fits small = ap (option_map Changed) (all_again _ _ _ changed_at eight_format n fits (omega (arith, sum_by-cons length (6 ∷ []) (eight n ∷ []))))
payload_again (Template edition content) fits small = ap (option_map template_frame) (all_again _ _ _ template_at template_format (edition, content) (fits.0, tt) (omega (arith, sum_by-cons length (7 ∷ []) (four edition ∷ string content))))
payload_again Logged fits small = ap (option_map (λ (x : Unit {0}). Logged)) (all_again _ _ _ nothing_at nothing_format tt tt (omega arith))
payload_again (Denied rule) fits small = ap (option_map Denied) (all_again _ _ _ denied_at byte_format rule tt (omega (arith, sum_by-cons length (9 ∷ []) ((rule ∷ []) ∷ []))))
payload_again Failed fits small = ap (option_map (λ (x : Unit {0}). Failed)) (all_again _ _ _ nothing_at nothing_format tt tt (omega arith))
payload_again NoMemory fits small = ap (option_map (λ (x : Unit {0}). NoMemory)) (all_again _ _ _ nothing_at nothing_format tt tt (omega arith))
payload_again Duplicate fits small = ap (option_map (λ (x : Unit {0}). Duplicate)) (all_again _ _ _ nothing_at nothing_format tt tt (omega arith))

payload_takes : (bytes : List ℕ) (frame : ServerFrame) → IsBytes bytes → payload_at server_fields_at bytes ≡ Some frame → (bytes ≡ bytes_of (server_parts frame)) × FitsServer frame
unfolding server_fields_at
payload_takes [] frame fits e = absurd cc
payload_takes (kind ∷ bytes) frame fits e = by_kind (eqb kind 1) refl (eqb kind 2) refl (eqb kind 3) refl (eqb kind 4) refl (eqb kind 5) refl (eqb kind 6) refl (eqb kind 7) refl (eqb kind 8) refl (eqb kind 9) refl (eqb kind 10) refl (eqb kind 11) refl (eqb kind 12) refl e
  where
    by_kind : (a : Bool) → eqb kind 1 ≡ a → (b : Bool) → eqb kind 2 ≡ b → (c : Bool) → eqb kind 3 ≡ c → (d : Bool) → eqb kind 4 ≡ d → (f : Bool) → eqb kind 5 ≡ f → (g : Bool) → eqb kind 6 ≡ g → (h : Bool) → eqb kind 7 ≡ h → (i : Bool) → eqb kind 8 ≡ i → (j : Bool) → eqb kind 9 ≡ j → (k : Bool) → eqb kind 10 ≡ k → (l : Bool) → eqb kind 11 ≡ l → (m : Bool) → eqb kind 12 ≡ m
        → cond a (option_map boot_frame (all_of (boot_at bytes))) (cond b (option_map request_frame (all_of (request_at bytes))) (cond c (option_map push_frame (all_of (push_at bytes))) (cond d (option_map Opened (all_of (opened_at bytes))) (cond f (option_map rows_frame (all_of (table_at bytes))) (cond g (option_map Changed (all_of (changed_at bytes))) (cond h (option_map template_frame (all_of (template_at bytes))) (cond i (option_map (λ (x : Unit {0}). Logged) (all_of (nothing_at bytes))) (cond j (option_map Denied (all_of (denied_at bytes))) (cond k (option_map (λ (x : Unit {0}). Failed) (all_of (nothing_at bytes))) (cond l (option_map (λ (x : Unit {0}). NoMemory) (all_of (nothing_at bytes))) (cond m (option_map (λ (x : Unit {0}). Duplicate) (all_of (nothing_at bytes))) None))))))))))) ≡ Some frame
        → (kind ∷ bytes ≡ bytes_of (server_parts frame)) × FitsServer frame
    by_kind true is b _ c _ d _ f _ g _ h _ i _ j _ k _ l _ m _ e = kind_takes server_parts FitsServer _ _ _ boot_at boot_frame 1 kind boot_format (λ p g. (g.0, g.1.0, g.1.1.0, g.1.1.1)) (λ p. refl) bytes frame (IsBytes-rest kind bytes fits) is e
    by_kind false _ true is c _ d _ f _ g _ h _ i _ j _ k _ l _ m _ e = kind_takes server_parts FitsServer _ _ _ request_at request_frame 2 kind request_format (λ p g. g) (λ p. refl) bytes frame (IsBytes-rest kind bytes fits) is e
    by_kind false _ false _ true is d _ f _ g _ h _ i _ j _ k _ l _ m _ e = kind_takes server_parts FitsServer _ _ _ push_at push_frame 3 kind push_format (λ p g. (g.0.0, g.0.1, g.1.0, g.1.1)) (λ p. refl) bytes frame (IsBytes-rest kind bytes fits) is e
    by_kind false _ false _ false _ true is f _ g _ h _ i _ j _ k _ l _ m _ e = kind_takes server_parts FitsServer _ _ _ opened_at Opened 4 kind four_format (λ p g. g) (λ p. refl) bytes frame (IsBytes-rest kind bytes fits) is e
    by_kind false _ false _ false _ false _ true is g _ h _ i _ j _ k _ l _ m _ e = kind_takes server_parts FitsServer _ _ _ table_at rows_frame 5 kind table_format (λ p g. g) (λ p. refl) bytes frame (IsBytes-rest kind bytes fits) is e
    by_kind false _ false _ false _ false _ false _ true is h _ i _ j _ k _ l _ m _ e = kind_takes server_parts FitsServer _ _ _ changed_at Changed 6 kind eight_format (λ p g. g) (λ p. refl) bytes frame (IsBytes-rest kind bytes fits) is e
    by_kind false _ false _ false _ false _ false _ false _ true is i _ j _ k _ l _ m _ e = kind_takes server_parts FitsServer _ _ _ template_at template_frame 7 kind template_format (λ p g. g) (λ p. refl) bytes frame (IsBytes-rest kind bytes fits) is e
    by_kind false _ false _ false _ false _ false _ false _ false _ true is j _ k _ l _ m _ e = kind_takes server_parts FitsServer _ _ _ nothing_at (λ (x : Unit {0}). Logged) 8 kind nothing_format (λ p g. tt) (λ p. refl) bytes frame (IsBytes-rest kind bytes fits) is e
    by_kind false _ false _ false _ false _ false _ false _ false _ false _ true is k _ l _ m _ e = kind_takes server_parts FitsServer _ _ _ denied_at Denied 9 kind byte_format (λ p g. g) (λ p. refl) bytes frame (IsBytes-rest kind bytes fits) is e
    by_kind false _ false _ false _ false _ false _ false _ false _ false _ false _ true is l _ m _ e = kind_takes server_parts FitsServer _ _ _ nothing_at (λ (x : Unit {0}). Failed) 10 kind nothing_format (λ p g. tt) (λ p. refl) bytes frame (IsBytes-rest kind bytes fits) is e
    by_kind false _ false _ false _ false _ false _ false _ false _ false _ false _ false _ true is m _ e = kind_takes server_parts FitsServer _ _ _ nothing_at (λ (x : Unit {0}). NoMemory) 11 kind nothing_format (λ p g. tt) (λ p. refl) bytes frame (IsBytes-rest kind bytes fits) is e
    by_kind false _ false _ false _ false _ false _ false _ false _ false _ false _ false _ false _ true is e = kind_takes server_parts FitsServer _ _ _ nothing_at (λ (x : Unit {0}). Duplicate) 12 kind nothing_format (λ p g. tt) (λ p. refl) bytes frame (IsBytes-rest kind bytes fits) is e
    by_kind false _ false _ false _ false _ false _ false _ false _ false _ false _ false _ false _ false _ e = absurd cc

-- What a service hears is read as it is spelled.
pub server_as_spelled : ReadsAsSpelled server_parts FitsServer server_fields_at
server_as_spelled = record { takes = payload_takes; again = payload_again }
