-- What is taken back from the posts at doors, the first door first.
use Rattle.std.proofs.Common.{◌≡◌, ℕ, suc, ◌+◌, ◌||◌, List, [], ◌∷◌, ◌++◌, length, subst, arith}
use Rattle.named_columns.specs.Counts.{capped}
use Rattle.site_worker.specs.declared.door.Attended.{Attended}
use Rattle.turn_lock.specs.Seats.{TurnIs}
use Rattle.site_run.specs.Rows.{WorksAs}
use Rattle.site_run.proofs.Seating.{push_length}
use Rattle.okws_serve.specs.Doors.{any_starved}
use Rattle.okws_serve.specs.Posts.{DoorIs, ConsoleIs}
use Rattle.okws_serve.specs.Manned.{AllDone, AreAt, served_of}
use Rattle.okws_serve.specs.declared.post.Post.{Post}
use Rattle.okws_serve.specs.declared.post.Post.TheVariants.{Door, Console}

-- the last of posts that are done
pub done_pop : (ps : List (Post DoorIs ConsoleIs)) (p : Post DoorIs ConsoleIs) → AllDone (ps ++ p ∷ []) → AllDone ps × AllDone (p ∷ [])
done_pop [] p h = (tt, h)
done_pop (Door d ∷ ps) p h = let i = done_pop ps p h.1 in ((h.0, i.0), i.1)
done_pop (Console c ∷ ps) p h = absurd h

-- the last has the least number
pub at_pop : (t : TurnIs) (k : ℕ) (ps : List (Post DoorIs ConsoleIs)) (d : DoorIs) → AreAt t k (ps ++ Door d ∷ []) → AreAt t (suc k) ps × WorksAs t k d.life
at_pop t k [] d h = (tt, subst (λ x. WorksAs t x d.life) (let e : 0 + k ≡ k = omega arith in e) h.0)
at_pop t k (Door e ∷ ps) d h =
    let i = at_pop t k ps d h.1 in
    let n = push_length ps (Door d) in
    ((subst (λ x. WorksAs t x e.life) (let q : length (ps ++ Door d ∷ []) + k ≡ length ps + suc k = omega arith in q) h.0, i.0), i.1)
at_pop t k (Console c ∷ ps) d h = absurd h

-- one more connection is served after others
pub served_push : (as' : List Attended) (a : Attended) → served_of (as' ++ a ∷ []) ≡ served_of as' + a.connections
served_push [] a = omega arith
served_push (b ∷ as') a = let h = served_push as' a in omega arith

-- a count that stays at its last value counts on
pub counts_on : (x y : ℕ) → capped (capped x + y) ≡ capped (x + y)
counts_on x y = omega arith

-- one more worker was starved or not
pub starved_push : (as' : List Attended) (a : Attended) → any_starved (as' ++ a ∷ []) ≡ (any_starved as' || a.starved)
starved_push [] a = grind arith
starved_push (b ∷ as') a = let h = starved_push as' a in grind (arith, h)
