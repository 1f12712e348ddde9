use Rattle.turn_tests.proofs.Frees.{each_free}
use Rattle.turn_tests.proofs.turns.a_turn_is_taken_while_the_holder_sleeps.Goals as goal

pub map_vec-done-requires-after_bounds : goal.map_vec-done-requires-after_bounds
map_vec-done-requires-after_bounds g c κs within = λ i x l e. each_free _ _ 0 c.in-Ok.seats.items c.in-Ok.ensures.2 i x l e
