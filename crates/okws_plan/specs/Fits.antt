-- When arguments fit a statement's parameters.
use Rattle.std.specs.Prelude.{Bool, true, false, List, [], ◌∷◌, ◌&&◌}
use Rattle.okws_base.specs.Value.{kind_of, same_kind}
use Rattle.okws_base.specs.declared.value.Value.{Value}
use Rattle.okws_base.specs.declared.value.Kind.{Kind}

-- The arguments fit the parameters in count and kinds.
abbrev pub fits : List Kind → List Value → Bool
fits [] [] = true
fits (k ∷ ks) (v ∷ vs) = same_kind k (kind_of v) && fits ks vs
fits [] (v ∷ vs) = false
fits (k ∷ ks) [] = false
