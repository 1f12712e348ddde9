-- What is asked for is within what may be.
use Rattle.std.proofs.Common.{◌≡◌, ℕ, ◌<◌, ◌≤◌, ◌^◌, ◌-◌, List, [], ◌∷◌, Bool, true, false, refl, subst, codes, arith, Option, Some, None}
use Rattle.std.specs.Prelude.{◌&&◌, nat_le, if◌then◌else◌, option_map, option_and_then}
use Rattle.std.specs.Option.{option_map_or}
use Rattle.std.specs.Str.{bytes_eq}
use Rattle.std.proofs.lemmas.Bool.{and_parts, leb-true}
use Rattle.std.proofs.lemmas.Option.{cond_some, option_and_then_some, none-some, same_Some}
use Rattle.plain_text.specs.Decimals.{decimal_value}
use Rattle.okws_base.specs.declared.limit.TheConstants.{MOST_CONNECTIONS, MOST_DOORS}
use Rattle.play_script.specs.declared.words.TheConstants.{MOST_EVENTS}
use Rattle.command_line.specs.Asked.{Asked, Checks, Plays, Drills, Versions, asked, check_of, play_of, drill_of, drill_numbers, serve_of, serve_config, version_of, version_alone, command_of, port_in, doors_in, connections_in, connections_of, patience_in, served_by, one_word, two_words, own_alone, are_server_options}
use Rattle.command_line.specs.Numbers.{is_plain, number_in}
use Rattle.command_line.specs.Parts.{Parts, parts_of, value_of, has_option}
use Rattle.command_line.specs.declared.command.Connections.{Connections}
use Rattle.command_line.specs.declared.command.Connections.TheVariants.{Count, Always}
use Rattle.command_line.specs.declared.command.TheConstants.{USUAL_DOORS}
use Rattle.okws_serve.specs.declared.outfit.TheConstants.{MOST_BEGUN}
use Rattle.okws_server.specs.Commands.{IsWithin}
use Rattle.okws_server.specs.Served.{limit_of}

-- a number that a word writes is one of those that it may be
number_within : (least most n : ℕ) (word : List ℕ) → number_in least most word ≡ Some n → (least ≤ n) × (n ≤ most)
number_within least most n word h =
    let found = cond_some (is_plain word && (nat_le least (decimal_value word) && nat_le (decimal_value word) most)) (decimal_value word) n h in
    let inner = and_parts (is_plain word) (nat_le least (decimal_value word) && nat_le (decimal_value word) most) found.0 in
    let both = and_parts (nat_le least (decimal_value word)) (nat_le (decimal_value word) most) inner.1 in
    (subst (λ x. least ≤ x) found.1 (leb-true least (decimal_value word) both.0), subst (λ x. x ≤ most) found.1 (leb-true (decimal_value word) most both.1))

-- what a mapped value was made of
map_some : {A B P : Type 0} (f : A → B) (o : Option A) (y : B) → option_map f o ≡ Some y → ((x : A) → o ≡ Some x → f x ≡ y → P) → P
map_some f None y e k = absurd (none-some y e)
map_some f (Some x) y e k = k x refl (same_Some (f x) y e)

-- one of two
either : {A P : Type 0} (t : Bool) (o p : Option A) (y : A) → (if t then o else p) ≡ Some y → (o ≡ Some y → P) → (p ≡ Some y → P) → P
either true o p y e f g = f e
either false o p y e f g = g e

check_within : (parts : Parts) (a : Asked) → check_of parts ≡ Some a → IsWithin a
check_within parts a e = map_some Checks (option_and_then one_word (own_alone parts.options parts.own)) a e (λ c _ same. subst IsWithin same tt)

play_within : (parts : Parts) (a : Asked) → play_of parts ≡ Some a → IsWithin a
play_within parts a e = map_some (λ (p : List ℕ × List ℕ). Plays p.0 p.1) (option_and_then two_words (own_alone parts.options parts.own)) a e (λ p _ same. subst IsWithin same tt)

drill_within : (parts : Parts) (a : Asked) → drill_of parts ≡ Some a → IsWithin a
drill_within parts a e =
    option_and_then_some drill_numbers (option_and_then two_words (own_alone parts.options parts.own)) a e (λ p _ h.
    option_and_then_some (λ seed. option_map (Drills seed) (number_in 0 MOST_EVENTS p.1)) (number_in 0 (2 ^ 64 - 1) p.0) a h (λ seed _ k.
    map_some (Drills seed) (number_in 0 MOST_EVENTS p.1) a k (λ events found same.
    subst IsWithin same (number_within 0 MOST_EVENTS events p.1 found).1)))

-- the doors of a server
doors_within : (options : List (List ℕ × List ℕ)) (told : Option (List ℕ)) (doors : ℕ) → option_map_or (number_in 1 MOST_DOORS) told (Some USUAL_DOORS) ≡ Some doors → (0 < doors) × (doors ≤ MOST_DOORS)
doors_within options None doors e = subst (λ d. (0 < d) × (d ≤ MOST_DOORS)) (same_Some USUAL_DOORS doors e) (omega arith, omega arith)
doors_within options (Some word) doors e = let w = number_within 1 MOST_DOORS doors word e in (omega (arith, w.0), w.1)

-- the connections of a server
connections_within : (always : Bool) (told : Option (List ℕ)) (connections : Connections) → connections_of always told ≡ Some connections → limit_of connections ≤ MOST_BEGUN
connections_within true None connections e = subst (λ c. limit_of c ≤ MOST_BEGUN) (same_Some Always connections e) (omega arith)
connections_within true (Some word) connections e = absurd (none-some connections e)
connections_within false None connections e = absurd (none-some connections e)
connections_within false (Some word) connections e =
    map_some Count (number_in 0 MOST_CONNECTIONS word) connections e (λ n found same.
    let few = (number_within 0 MOST_CONNECTIONS n word found).1 in subst (λ c. limit_of c ≤ MOST_BEGUN) same (omega (arith, few)))

serving_within : (options : List (List ℕ × List ℕ)) (config : List ℕ) (a : Asked) → serve_config options config ≡ Some a → IsWithin a
serving_within options config a e =
    option_and_then_some (λ port. option_and_then (λ doors. option_and_then (λ connections. option_map (served_by options config port doors connections) (patience_in options)) (connections_in options)) (doors_in options)) (port_in options) a e (λ port _ h.
    option_and_then_some (λ doors. option_and_then (λ connections. option_map (served_by options config port doors connections) (patience_in options)) (connections_in options)) (doors_in options) a h (λ doors there k.
    option_and_then_some (λ connections. option_map (served_by options config port doors connections) (patience_in options)) (connections_in options) a k (λ connections found m.
    map_some (served_by options config port doors connections) (patience_in options) a m (λ patience _ same.
    let d = doors_within options (value_of (codes "doors") options) doors there in
    subst IsWithin same (record { limit = connections_within (has_option (codes "always") options) (value_of (codes "serve") options) connections found; some = d.0; few = d.1 })))))

serve_within : (parts : Parts) (a : Asked) → serve_of parts ≡ Some a → IsWithin a
serve_within parts a e =
    either (are_server_options parts.options) (option_and_then (serve_config parts.options) (one_word parts.own)) None a e
    (λ h. option_and_then_some (serve_config parts.options) (one_word parts.own) a h (λ config _ k. serving_within parts.options config a k))
    (λ h. absurd (none-some a h))

version_within : (parts : Parts) (a : Asked) → version_of parts ≡ Some a → IsWithin a
version_within parts a e = option_and_then_some version_alone (own_alone parts.options parts.own) a e (λ own _ h. go own h)
  where
    go : (own : List (List ℕ)) → version_alone own ≡ Some a → IsWithin a
    go [] h = subst IsWithin (same_Some Versions a h) tt
    go (word ∷ more) h = absurd (none-some a h)

command_within : (name : List ℕ) (parts : Parts) (a : Asked) → command_of name parts ≡ Some a → IsWithin a
command_within name parts a e =
    either (bytes_eq name (codes "check")) (check_of parts)
    (if bytes_eq name (codes "play") then play_of parts else (if bytes_eq name (codes "drill") then drill_of parts else (if bytes_eq name (codes "serve") then serve_of parts else (if bytes_eq name (codes "--version") then version_of parts else None))))
    a e (check_within parts a) (λ h.
    either (bytes_eq name (codes "play")) (play_of parts)
    (if bytes_eq name (codes "drill") then drill_of parts else (if bytes_eq name (codes "serve") then serve_of parts else (if bytes_eq name (codes "--version") then version_of parts else None))) a h
    (play_within parts a) (λ k.
    either (bytes_eq name (codes "drill")) (drill_of parts) (if bytes_eq name (codes "serve") then serve_of parts else (if bytes_eq name (codes "--version") then version_of parts else None)) a k
    (drill_within parts a) (λ m.
    either (bytes_eq name (codes "serve")) (serve_of parts) (if bytes_eq name (codes "--version") then version_of parts else None) a m (serve_within parts a) (λ n.
    either (bytes_eq name (codes "--version")) (version_of parts) None a n (version_within parts a) (λ o. absurd (none-some a o))))))

-- what words ask for is within what may be
pub asked_within : (words : List (List ℕ)) (a : Asked) → asked words ≡ Some a → IsWithin a
asked_within [] a e = absurd (none-some a e)
asked_within (name ∷ behind) a e = option_and_then_some (command_of name) (parts_of behind) a e (λ parts _ h. command_within name parts a h)
