-- One more byte behind the bytes of a head.
use Rattle.std.proofs.Common.{◌≡◌, ◌≤◌, ◌<◌, ℕ, ◌+◌, true, false, List, [], ◌∷◌, ◌++◌, length, drop, refl, sym, ap, ◌∙◌, subst, arith, inl, inr, append_assoc, append-nil}
use Rattle.std.specs.Prelude.{◌⊎◌, IsUtf8}
use Rattle.std.proofs.lemmas.Bool.Decides.{nat_tests}
use Rattle.std.proofs.lemmas.List.{drop-append-le, drop_all, length_push}
use Rattle.std.proofs.lemmas.List.Elements.{All-nil, All-push, All-cons}
use Rattle.httparse.specs.Grammar.{LineEnd, lf, crlf, print_end, print_blank, print_version, is_token_byte, is_uri_byte, is_value_byte, AllPass, IsToken, IsField}
use Rattle.httparse.proofs.PieceLemmas.{front-append, Blank_deterministic, Method_deterministic, Target_deterministic, RequestStart_deterministic, FieldLines-append, FieldLines_push, Stops_token, token_is_no_newline}
use Rattle.httparse.proofs.ReadLemmas.{blank_more, FieldLine_done}
use Rattle.http_text.specs.Reading.{ends_line}
use Rattle.http_front.specs.Places.{EndsPlain, BehindMethod, BehindTarget, BehindLines, At, Steps, StepsFrom, IsVersion}
use Rattle.http_front.specs.declared.places.Place.TheVariants as place

-- ---- what stands behind stays there

pub behind_method_more : (bytes rest more : List ℕ) → BehindMethod bytes rest → BehindMethod (bytes ++ more) (rest ++ more)
behind_method_more bytes rest more x = record {
  blank = x.blank;
  method = x.method;
  middle = x.middle ++ more;
  blanks = Blank_deterministic.append x.blank bytes x.middle more x.blanks;
  word = Method_deterministic.append x.method x.middle rest more x.word;
}

pub behind_target_more : (bytes rest more : List ℕ) → BehindTarget bytes rest → BehindTarget (bytes ++ more) (rest ++ more)
behind_target_more bytes rest more x = record {
  from = x.from ++ more;
  target = x.target;
  behind = behind_method_more bytes x.from more x.behind;
  word = Target_deterministic.append x.target x.from rest more x.word;
}

pub behind_lines_more : (bytes rest more : List ℕ) → BehindLines bytes rest → BehindLines (bytes ++ more) (rest ++ more)
behind_lines_more bytes rest more x = record {
  line = x.line;
  middle = x.middle ++ more;
  start = RequestStart_deterministic.append x.line bytes x.middle more x.start;
  fields = x.fields;
  lines = FieldLines-append x.fields x.middle rest more x.lines;
}

-- ---- bytes that end no line

pub plain_token : (b : ℕ) → is_token_byte b ≡ true → ends_line b ≡ false
plain_token = token_is_no_newline

pub plain_uri : (b : ℕ) → is_uri_byte b ≡ true → ends_line b ≡ false
plain_uri b uri = grind (arith, nat_tests, uri)

pub plain_value : (b : ℕ) → is_value_byte b ≡ true → ends_line b ≡ false
plain_value b value = grind (arith, nat_tests, value)

pub plain_end : (bytes : List ℕ) (b : ℕ) → ends_line b ≡ false → EndsPlain (bytes ++ b ∷ [])
plain_end bytes b plain = (bytes, b, refl, plain)

-- ---- empty lines

pub blanks_lf : (b : ℕ) → b ≡ 10 → Steps place.Blanks b place.Blanks
blanks_lf b is bytes at = (
  at.0 ++ lf ∷ [],
  blank_more at.0 lf (bytes ++ b ∷ []) (b ∷ []) [] (front-append bytes (print_blank at.0) [] (b ∷ []) at.1) (ap (λ (v : ℕ). v ∷ []) is),
)

pub blanks_cr : (b : ℕ) → b ≡ 13 → Steps place.Blanks b place.BlankReturn
blanks_cr b is bytes at =
    (at.0, front-append bytes (print_blank at.0) [] (b ∷ []) at.1 ∙ ap (λ (v : ℕ). print_blank at.0 ++ v ∷ []) is)

pub return_lf : (b : ℕ) → b ≡ 10 → Steps place.BlankReturn b place.Blanks
return_lf b is bytes at = (
  at.0 ++ crlf ∷ [],
  blank_more at.0 crlf (bytes ++ b ∷ []) (13 ∷ b ∷ []) [] (front-append bytes (print_blank at.0) (13 ∷ []) (b ∷ []) at.1) (ap (λ (v : ℕ). 13 ∷ v ∷ []) is),
)

-- ---- the request line

one_token : (b : ℕ) → is_token_byte b ≡ true → IsToken (b ∷ [])
one_token b token = (omega arith, All-cons (λ v. is_token_byte v ≡ true) b [] token (All-nil _))

more_token : (word : List ℕ) (b : ℕ) → IsToken word → is_token_byte b ≡ true → IsToken (word ++ b ∷ [])
more_token word b x token = (omega (arith, length_push word b), All-push (λ v. is_token_byte v ≡ true) word b x.1 token)

pub blanks_token : (b : ℕ) → is_token_byte b ≡ true → Steps place.Blanks b place.Method
blanks_token b token bytes at =
    (at.0, b ∷ [], one_token b token, front-append bytes (print_blank at.0) [] (b ∷ []) at.1, plain_end bytes b (plain_token b token))

pub method_token : (b : ℕ) → is_token_byte b ≡ true → Steps place.Method b place.Method
method_token b token bytes at = (
  at.0,
  at.1 ++ b ∷ [],
  more_token at.1 b at.2 token,
  front-append bytes (print_blank at.0) at.1 (b ∷ []) at.3,
  plain_end bytes b (plain_token b token),
)

pub method_space : (b before : ℕ) → b ≡ 32 → StepsFrom before place.Method b (place.Target (before + 1))
method_space b before is bytes size at =
    let long : length (bytes ++ b ∷ []) ≡ before + 1 = length_push bytes b ∙ ap (λ (n : ℕ). n + 1) (sym size) in
    let none : drop (before + 1) (bytes ++ b ∷ []) ≡ [] = drop_all (before + 1) (bytes ++ b ∷ []) (omega (arith, long)) in
    let behind : BehindMethod (bytes ++ b ∷ []) [] = record {
      blank = at.0;
      method = at.1;
      middle = at.1 ++ b ∷ [];
      blanks = (front-append bytes (print_blank at.0) at.1 (b ∷ []) at.3, Stops_token at.1 (b ∷ []) at.2.0 at.2.1);
      word = (at.2.0, at.2.1, ap (λ (v : ℕ). at.1 ++ v ∷ []) is);
    } in (
      omega (arith, long),
      subst (BehindMethod (bytes ++ b ∷ [])) (sym none) behind,
      subst (AllPass is_uri_byte) (sym none) (All-nil _),
      plain_end bytes b (subst (λ (v : ℕ). ends_line v ≡ false) (sym is) refl),
    )

pub target_uri : (start b : ℕ) → is_uri_byte b ≡ true → Steps (place.Target start) b (place.Target start)
target_uri start b uri bytes at =
    let cut : drop start (bytes ++ b ∷ []) ≡ drop start bytes ++ b ∷ [] = drop-append-le start bytes (b ∷ []) at.0 in (
      omega (arith, at.0, length_push bytes b),
      subst (BehindMethod (bytes ++ b ∷ [])) (sym cut) (behind_method_more bytes (drop start bytes) (b ∷ []) at.1),
      subst (AllPass is_uri_byte) (sym cut) (All-push (λ v. is_uri_byte v ≡ true) (drop start bytes) b at.2 uri),
      plain_end bytes b (plain_uri b uri),
    )

pub target_space : (start b : ℕ) (bytes target : List ℕ) → b ≡ 32 → target ≡ drop start bytes → 0 < length target → IsUtf8 target → At (place.Target start) bytes → At (place.Version (length bytes + 1)) (bytes ++ b ∷ [])
target_space start b bytes target is cut some text at =
    let none : drop (length bytes + 1) (bytes ++ b ∷ []) ≡ [] = drop_all (length bytes + 1) (bytes ++ b ∷ []) (omega (arith, length_push bytes b)) in
    let behind : BehindTarget (bytes ++ b ∷ []) [] = record {
      from = drop start bytes ++ b ∷ [];
      target = target;
      behind = behind_method_more bytes (drop start bytes) (b ∷ []) at.1;
      word = ((some, subst (AllPass is_uri_byte) (sym cut) at.2, rw (← cut, is) refl), text);
    } in
    (omega (arith, length_push bytes b), subst (BehindTarget (bytes ++ b ∷ [])) (sym none) behind)

pub version_more : (start b : ℕ) → Steps (place.Version start) b (place.Version start)
version_more start b bytes at = (
  omega (arith, at.0, length_push bytes b),
  subst (BehindTarget (bytes ++ b ∷ [])) (sym (drop-append-le start bytes (b ∷ []) at.0)) (behind_target_more bytes (drop start bytes) (b ∷ []) at.1),
)

whole_line : (bytes rest : List ℕ) (minor : ℕ) (end : LineEnd) → minor ≤ 1 → rest ≡ print_version minor ++ print_end end → BehindTarget bytes rest → BehindLines bytes []
whole_line bytes rest minor end small is x = record {
  line = (x.behind.blank, (x.behind.method, (x.target, (minor, end))));
  middle = [];
  start = (x.behind.middle, x.behind.blanks, (x.from, x.behind.word, (rest, x.word, (print_end end, (small, is), sym (append-nil (print_end end))))));
  fields = [];
  lines = (All-nil IsField, refl);
}

version_end : (version : List ℕ) (b minor : ℕ) → b ≡ 10 → (version ≡ print_version minor) ⊎ (version ≡ print_version minor ++ 13 ∷ []) → (end : LineEnd) × (version ++ b ∷ [] ≡ print_version minor ++ print_end end)
version_end version b minor is (inl e) = (lf, rw (e, is) refl)
version_end version b minor is (inr e) = (crlf, rw (e, is) (append_assoc (print_version minor) (13 ∷ []) (10 ∷ [])))

pub version_lf : (start b : ℕ) (bytes version : List ℕ) → b ≡ 10 → version ≡ drop start bytes → IsVersion version → At (place.Version start) bytes → At place.Line (bytes ++ b ∷ [])
version_lf start b bytes version is cut told at =
    let end = version_end version b told.0 is told.2 in
    whole_line (bytes ++ b ∷ []) (version ++ b ∷ []) told.0 end.0 told.1 end.1
    (subst (λ (t : List ℕ). BehindTarget (bytes ++ b ∷ []) (t ++ b ∷ [])) (sym cut) (behind_target_more bytes (drop start bytes) (b ∷ []) at.1))

-- ---- fields

pub line_token : (b : ℕ) → is_token_byte b ≡ true → Steps place.Line b place.Name
line_token b token bytes at =
    (b ∷ [], one_token b token, behind_lines_more bytes [] (b ∷ []) at, plain_end bytes b (plain_token b token))

pub name_token : (b : ℕ) → is_token_byte b ≡ true → Steps place.Name b place.Name
name_token b token bytes at =
    (at.0 ++ b ∷ [], more_token at.0 b at.1 token, behind_lines_more bytes at.0 (b ∷ []) at.2, plain_end bytes b (plain_token b token))

pub name_colon : (b : ℕ) → b ≡ 58 → Steps place.Name b place.Value
name_colon b is bytes at = (
  (at.0, [], at.1, All-nil _, subst (λ (v : ℕ). BehindLines (bytes ++ b ∷ []) (at.0 ++ v ∷ [])) is (behind_lines_more bytes at.0 (b ∷ []) at.2)),
  plain_end bytes b (subst (λ (v : ℕ). ends_line v ≡ false) (sym is) refl),
)

-- one more byte of a field's line
field_more : (bytes name raw : List ℕ) (b : ℕ) → BehindLines bytes (name ++ 58 ∷ raw) → BehindLines (bytes ++ b ∷ []) (name ++ 58 ∷ (raw ++ b ∷ []))
field_more bytes name raw b x =
    subst (BehindLines (bytes ++ b ∷ [])) (append_assoc name (58 ∷ raw) (b ∷ [])) (behind_lines_more bytes (name ++ 58 ∷ raw) (b ∷ []) x)

pub value_value : (b : ℕ) → is_value_byte b ≡ true → Steps place.Value b place.Value
value_value b value bytes ((name, raw, token, all, behind), plain) = (
  (name, raw ++ b ∷ [], token, All-push (λ v. is_value_byte v ≡ true) raw b all value, field_more bytes name raw b behind),
  plain_end bytes b (plain_value b value),
)

pub value_cr : (b : ℕ) → b ≡ 13 → Steps place.Value b place.ValueReturn
value_cr b is bytes ((name, raw, token, all, behind), plain) =
    (name, raw, token, all, subst (λ (v : ℕ). BehindLines (bytes ++ b ∷ []) (name ++ 58 ∷ (raw ++ v ∷ []))) is (field_more bytes name raw b behind))

field_end : (bytes name raw : List ℕ) (end : LineEnd) → IsToken name → AllPass is_value_byte raw → BehindLines bytes (name ++ 58 ∷ (raw ++ print_end end)) → BehindLines bytes []
field_end bytes name raw end token all x = record {
  line = x.line;
  middle = x.middle;
  start = x.start;
  fields = x.fields ++ (record { name = name; raw = raw; end = end }) ∷ [];
  lines = FieldLines_push x.fields (record { name = name; raw = raw; end = end }) x.middle (name ++ 58 ∷ (raw ++ print_end end)) [] x.lines
      (FieldLine_done name raw end (name ++ 58 ∷ (raw ++ print_end end)) (raw ++ print_end end) [] (token.0, token.1, refl) (all, ap (λ (t : List ℕ). raw ++ t) (sym (append-nil (print_end end)))));
}

pub value_lf : (b : ℕ) → b ≡ 10 → Steps place.Value b place.Line
value_lf b is bytes ((name, raw, token, all, behind), plain) =
    field_end (bytes ++ b ∷ []) name raw lf token all
    (subst (λ (v : ℕ). BehindLines (bytes ++ b ∷ []) (name ++ 58 ∷ (raw ++ v ∷ []))) is (field_more bytes name raw b behind))

pub value_return_lf : (b : ℕ) → b ≡ 10 → Steps place.ValueReturn b place.Line
value_return_lf b is bytes (name, raw, token, all, behind) =
    let more : BehindLines (bytes ++ b ∷ []) (name ++ 58 ∷ ((raw ++ 13 ∷ []) ++ b ∷ [])) = field_more bytes name (raw ++ 13 ∷ []) b behind in
    let same : (raw ++ 13 ∷ []) ++ b ∷ [] ≡ raw ++ print_end crlf = append_assoc raw (13 ∷ []) (b ∷ []) ∙ ap (λ (v : ℕ). raw ++ 13 ∷ v ∷ []) is in
    field_end (bytes ++ b ∷ []) name raw crlf token all (subst (λ (t : List ℕ). BehindLines (bytes ++ b ∷ []) (name ++ 58 ∷ t)) same more)
