-- What a column keeps of its grants, read as finite maps.
use Rattle.std.specs.Prelude.{◌≡◌, ℕ, ◌<◌, ◌^◌, Bool, true, false, List, Option, Some, None, ◌==◌, ◌&&◌, nat_lt, if◌then◌else◌, count_by, slice_index_or, unwrap_or, nat_eq, length}
use Rattle.std.specs.Cmp.Lexicographic.{pointwise}
use Rattle.std.specs.Map.{lookup}
use Rattle.okws_base.specs.Value.{same_token}
use Rattle.okws_base.specs.declared.value.Token.{Token}
use Rattle.grant_column.specs.declared.grants.Service.{Service}
use Rattle.grant_column.specs.declared.grants.Incarnation.{Incarnation}
use Rattle.grant_column.specs.declared.grants.Issue.{Issue}

-- What is kept of each service, how many sessions each incarnation opened that stood before the last one, and the incarnation to which each token was issued.
pub record Granted : Type 0 where
  pub services : List Service
  pub ended : List (Incarnation × ℕ)
  pub issues : List (Issue × ℕ)

-- What is kept of a service of which nothing was installed.
abbrev pub nobody : Service
nobody = record { last = 0; is_live = false; opened = 0 }

-- What is kept of service s.
abbrev pub service_in : List Service → ℕ → Service
service_in services s = slice_index_or services s nobody

-- Two incarnations are of one service and have one number.
abbrev pub same_incarnation : Incarnation → Incarnation → Bool
same_incarnation a b = (a.service == b.service) && (a.number == b.number)

-- Two issues are of one service and one token.
abbrev pub same_issue : Issue → Issue → Bool
same_issue a b = (a.service == b.service) && pointwise nat_eq a.bytes b.bytes

-- How many sessions incarnation k of s opened, where it is the last one of s no longer.
abbrev pub ended_in : List (Incarnation × ℕ) → ℕ → ℕ → ℕ
ended_in ended s k = unwrap_or (lookup (same_incarnation (record { service = s; number = k })) ended) 0

-- To which incarnation of s a token was issued, as kept.
abbrev pub issued_in : List (Issue × ℕ) → ℕ → Token → Option ℕ
issued_in issues s t = lookup (same_issue (record { service = s; bytes = t.bytes })) issues

-- How many services there are.
abbrev pub service_count : Granted → ℕ
service_count g = length g.services

-- The incarnation of s that stands.
abbrev pub stands : Granted → ℕ → Option ℕ
stands g s = if (service_in g.services s).is_live then Some (service_in g.services s).last else None

-- The greatest incarnation of s that was installed, 0 for none.
abbrev pub last : Granted → ℕ → ℕ
last g s = (service_in g.services s).last

-- The incarnation of s to which the token was issued.
abbrev pub issued : Granted → ℕ → Token → Option ℕ
issued g s t = issued_in g.issues s t

-- How many sessions incarnation k of s opened.
abbrev pub opened : Granted → ℕ → ℕ → ℕ
opened g s k = if (service_in g.services s).last == k then (service_in g.services s).opened else ended_in g.ended s k

-- How many incarnations stand. So many revocations may come, for which room is to be kept.
abbrev pub places : Granted → ℕ
places g = count_by (λ x. x.is_live) g.services

-- Nothing was installed yet.
pub record IsNew (services : ℕ) (g : Granted) : Type 0 where
  pub services_are : service_count g ≡ services
  pub standing_is : (s : ℕ) → stands g s ≡ None
  pub last_is : (s : ℕ) → last g s ≡ 0
  pub issued_is : (s : ℕ) (t : Token) → issued g s t ≡ None
  pub opened_is : (s k : ℕ) → opened g s k ≡ 0
  pub places_are : places g ≡ 0

-- Two grants answer alike.
pub record IsSame (g h : Granted) : Type 0 where
  pub services_are : service_count h ≡ service_count g
  pub standing_is : (s : ℕ) → stands h s ≡ stands g s
  pub last_is : (s : ℕ) → last h s ≡ last g s
  pub issued_is : (s : ℕ) (t : Token) → issued h s t ≡ issued g s t
  pub opened_is : (s k : ℕ) → opened h s k ≡ opened g s k
  pub places_are : places h ≡ places g

-- The incarnation of s to which a token was issued, after incarnation k of u was installed with its token, if it has one.
abbrev pub issued_with : ℕ → ℕ → Option Token → ℕ → Token → Option ℕ → Option ℕ
issued_with u k None s t before = before
issued_with u k (Some token) s t before = if (u == s) && same_token token t then Some k else before

-- The services are counted in 16 bits, and no incarnation beyond the last one of its service has ended.
pub record IsKept (g : Granted) : Type 0 where
  pub few : length g.services < 2 ^ 16
  pub none : (s k : ℕ) → nat_lt (service_in g.services s).last k ≡ true → ended_in g.ended s k ≡ 0
