-- Doors and posts that are taken from their rows and put back.
use Rattle.std.proofs.Common.{◌≡◌, ℕ, List, [], ◌∷◌, ◌++◌, length, take, drop, sym, ap, ◌∙◌, arith, append-nil}
use Rattle.std.proofs.Math.Seq.{take-length}
use Rattle.std.proofs.lemmas.List.{drop_all}
use Rattle.std.specs.Prelude.{IsNone}
use Rattle.okws_outer.specs.Doors.{Entrance}
use Rattle.site_run.specs.Places.{AllIdle}

-- a whole slice, put back after it was changed
pub put_back : {A : Type 0} (n : ℕ) (now xs : List A) → length now ≡ length xs → n ≡ length xs → take n (now ++ drop (length now) xs) ≡ now
put_back n now xs k l =
    let d = drop_all (length now) xs (omega arith) in
    let m : n ≡ length now = l ∙ sym k in
    ap (λ r. take n (now ++ r)) d ∙ (ap (take n) (append-nil now) ∙ (ap (λ i. take i now) m ∙ take-length now))

-- of doors in a row at which no connection is out, the last
pub idle_pop : (es : List Entrance) (e : Entrance) → AllIdle (es ++ e ∷ []) → AllIdle es × IsNone e.out
idle_pop [] e h = (tt, h.0)
idle_pop (d ∷ es) e h = let i = idle_pop es e h.1 in ((h.0, i.0), i.1)

pub idle_push : (es : List Entrance) (e : Entrance) → AllIdle es → IsNone e.out → AllIdle (es ++ e ∷ [])
idle_push [] e h i = (i, tt)
idle_push (d ∷ es) e h i = (h.0, idle_push es e h.1 i)
