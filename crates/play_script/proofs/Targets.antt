-- A target of a script is one of HTTP, and names the path before its first `?`.
use Rattle.std.proofs.Common.{◌≡◌, ℕ, suc, Bool, true, false, ◌&&◌, not, List, [], ◌∷◌, ◌++◌, length, take, drop, refl, sym, ap, ◌∙◌, arith, nat_le, ◌==◌, ◌||◌, nat_lt, cond, ◌<◌}
use Rattle.std.specs.Prelude.{Some, None}
use Rattle.std.specs.List.{list_all, position_or_len}
use Rattle.std.proofs.lemmas.Bool.{and_parts, and_from, eqb-true}
use Rattle.std.proofs.lemmas.Grind.{common_steps}
use Rattle.std.proofs.lemmas.List.{take-append-drop}
use Rattle.okws_base.specs.Names.{is_path, is_path_byte}
use Rattle.okws_base.specs.declared.limit.TheConstants.{LONGEST_PATH}
use Rattle.http_text.specs.Target as http
use Rattle.play_script.specs.Reading.{is_query, is_target, target_path}

pub list_all-map : (p q : ℕ → Bool) → ((x : ℕ) → p x ≡ true → q x ≡ true) → (xs : List ℕ) → list_all p xs ≡ true → list_all q xs ≡ true
list_all-map p q more [] h = refl
list_all-map p q more (x ∷ xs) h = let parts = and_parts (p x) (list_all p xs) h in and_from (q x) (list_all q xs) (more x parts.0) (list_all-map p q more xs parts.1)

pub list_all-both : (p : ℕ → Bool) (xs ys : List ℕ) → list_all p xs ≡ true → list_all p ys ≡ true → list_all p (xs ++ ys) ≡ true
list_all-both p [] ys h k = k
list_all-both p (x ∷ xs) ys h k = let parts = and_parts (p x) (list_all p xs) h in and_from (p x) (list_all p (xs ++ ys)) parts.0 (list_all-both p xs ys parts.1 k)

path_byte : (b : ℕ) → is_path_byte b ≡ true → http.is_target_byte b ≡ true
path_byte b h =
    let low = and_parts (nat_le 33 b) (nat_le b 126 && (not (b == 63) && not (b == 35))) h in
    let high = and_parts (nat_le b 126) (not (b == 63) && not (b == 35)) low.1 in
    let marks = and_parts (not (b == 63)) (not (b == 35)) high.1 in
    and_from (nat_le 33 b) (nat_le b 126 && not (b == 35)) low.0 (and_from (nat_le b 126) (not (b == 35)) high.0 marks.1)

path_bytes : (path : List ℕ) → is_path path ≡ true → list_all http.is_target_byte path ≡ true
path_bytes [] h = absurd (cc)
path_bytes (b ∷ more) h =
    let slash = and_parts (b == 47) (nat_le (length (b ∷ more)) LONGEST_PATH && list_all is_path_byte more) h in
    let rest = and_parts (nat_le (length (b ∷ more)) LONGEST_PATH) (list_all is_path_byte more) slash.1 in
    let is : b ≡ 47 = eqb-true b 47 slash.0 in
    and_from (http.is_target_byte b) (list_all http.is_target_byte more) (ap http.is_target_byte is) (list_all-map is_path_byte http.is_target_byte path_byte more rest.1)

query_bytes : (query : List ℕ) → is_query query ≡ true → list_all http.is_target_byte query ≡ true
query_bytes [] h = refl
query_bytes (b ∷ more) h =
    let mark = and_parts (b == 63) (nat_le (length more) LONGEST_PATH && list_all http.is_target_byte more) h in
    let rest = and_parts (nat_le (length more) LONGEST_PATH) (list_all http.is_target_byte more) mark.1 in
    let is : b ≡ 63 = eqb-true b 63 mark.0 in
    and_from (http.is_target_byte b) (list_all http.is_target_byte more) (ap http.is_target_byte is) rest.1

-- what passes in both parts of a list passes in the list
in_both : (n : ℕ) (xs : List ℕ) → list_all http.is_target_byte (take n xs) ≡ true → list_all http.is_target_byte (drop n xs) ≡ true → list_all http.is_target_byte xs ≡ true
in_both n xs h k = ap (list_all http.is_target_byte) (sym (take-append-drop n xs)) ∙ list_all-both http.is_target_byte (take n xs) (drop n xs) h k

first_byte : (b : ℕ) (more : List ℕ) → is_path (b ∷ more) ≡ true → b ≡ 47
first_byte b more h = eqb-true b 47 ((and_parts (b == 47) (nat_le (length (b ∷ more)) LONGEST_PATH && list_all is_path_byte more) h).0)

path_front : (b : ℕ) (more : List ℕ) (t : Bool) → http.is_question_mark b ≡ t → is_path (target_path (b ∷ more)) ≡ true → b ≡ 47
path_front b more true e h =
    let place : position_or_len http.is_question_mark (b ∷ more) ≡ 0 = rw e refl in
    let none : is_path [] ≡ true = sym (ap (λ n. is_path (take n (b ∷ more))) place) ∙ h in
    absurd (cc)
path_front b more false e h =
    let place : position_or_len http.is_question_mark (b ∷ more) ≡ suc (position_or_len http.is_question_mark more) = rw e (grind arith) in
    first_byte b (take (position_or_len http.is_question_mark more) more) (sym (ap (λ n. is_path (take n (b ∷ more))) place) ∙ h)

-- the front of a list is as long as it is
take-length-take : (n : ℕ) (xs : List ℕ) → take (length (take n xs)) xs ≡ take n xs
take-length-take n xs = grind (arith, common_steps)

-- what begins a path begins the target
slash_first : (target : List ℕ) → is_path (target_path target) ≡ true → http.begins_with_slash target ≡ true
slash_first [] h = absurd (cc)
slash_first (b ∷ more) h = ap (λ x. http.begins_with_slash (x ∷ more)) (path_front b more _ refl h)

-- a path where the bytes are a target's and a slash stands first
with_slash : (all slash absolute : Bool) (path other : List ℕ) → all ≡ true → slash ≡ true → cond (all && (slash || absolute)) (Some (cond slash path other)) None ≡ Some path
with_slash true true absolute path other h k = refl
with_slash true false absolute path other h k = absurd (cc)
with_slash false slash absolute path other h k = absurd (cc)

pub target_bytes : (target : List ℕ) → is_target target ≡ true → list_all http.is_target_byte target ≡ true
target_bytes target h =
    let parts = and_parts (is_path (target_path target)) (is_query (drop (length (target_path target)) target)) h in
    let place : target_path target ≡ take (length (target_path target)) target = sym (take-length-take (position_or_len http.is_question_mark target) target) in
    let path = ap (list_all http.is_target_byte) (sym place) ∙ path_bytes (target_path target) parts.0 in
    in_both (length (target_path target)) target path (query_bytes (drop (length (target_path target)) target) parts.1)

pub target_some : (target : List ℕ) → is_target target ≡ true → 0 < length target
target_some [] h = absurd (cc)
target_some (b ∷ more) h = omega arith

pub target_named : (target : List ℕ) → is_target target ≡ true → http.path_of target ≡ Some (target_path target)
target_named target h =
    let parts = and_parts (is_path (target_path target)) (is_query (drop (length (target_path target)) target)) h in
    with_slash (list_all http.is_target_byte target) (http.begins_with_slash target) (http.begins_with_scheme target && nat_lt 0 (length (http.authority target)))
    (target_path target) (http.path_after_authority (http.after_authority target)) (target_bytes target h) (slash_first target parts.0)
