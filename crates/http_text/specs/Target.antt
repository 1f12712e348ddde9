-- The target of a request (RFC 9112, section 3.2): which are taken, and the path that one names.
use Rattle.std.specs.Prelude.{ℕ, Bool, ◌&&◌, ◌||◌, ◌==◌, not, nat_le, nat_lt, nat_eq, List, length, drop, take, codes, Option, Some, None, if◌then◌else◌}
use Rattle.std.specs.List.{list_all, starts_with, before_first}
use Rattle.okws_base.specs.Names.{same_word}

-- A byte 33 to 126 without `#`.
abbrev pub is_target_byte : ℕ → Bool
is_target_byte b = nat_le 33 b && (nat_le b 126 && not (b == 35))

-- The byte `?`.
abbrev pub is_question_mark : ℕ → Bool
is_question_mark b = b == 63

-- The byte `/` or `?`.
abbrev pub ends_authority : ℕ → Bool
ends_authority b = (b == 47) || (b == 63)

-- A text begins with `/`.
abbrev pub begins_with_slash : List ℕ → Bool
begins_with_slash text = starts_with nat_eq text (codes "/")

-- What the absolute form begins with, its letters in any case.
abbrev pub scheme : List ℕ
scheme = codes "HTTP://"

-- A text begins with `HTTP://` in any case.
abbrev pub begins_with_scheme : List ℕ → Bool
begins_with_scheme text = same_word (take (length scheme) text) scheme

-- What follows `HTTP://`.
abbrev pub after_scheme : List ℕ → List ℕ
after_scheme target = drop (length scheme) target

-- The authority goes from after `HTTP://` up to the first `/` or `?` or the end.
abbrev pub authority : List ℕ → List ℕ
authority target = before_first ends_authority (after_scheme target)

-- What follows the authority.
abbrev pub after_authority : List ℕ → List ℕ
after_authority target = drop (length (authority target)) (after_scheme target)

-- A target has bytes 33 to 126 without `#`, and begins with `/`, or with `HTTP://` in any case and an authority that isn't empty.
abbrev pub is_target : List ℕ → Bool
is_target target =
    list_all is_target_byte target
    && (begins_with_slash target || (begins_with_scheme target && nat_lt 0 (length (authority target))))

-- What follows the authority begins with the path, which goes up to the first `?` or the end; where no `/` stands there, the path is `/`.
abbrev pub path_after_authority : List ℕ → List ℕ
path_after_authority rest = if begins_with_slash rest then before_first is_question_mark rest else codes "/"

-- The path of a target that begins with `/` goes up to the first `?` or the end; else it stands after the authority.
abbrev pub path : List ℕ → List ℕ
path target =
    if begins_with_slash target then before_first is_question_mark target else path_after_authority (after_authority target)

-- The path of a target, and none where the bytes are no target.
abbrev pub path_of : List ℕ → Option (List ℕ)
path_of target = if is_target target then Some (path target) else None
