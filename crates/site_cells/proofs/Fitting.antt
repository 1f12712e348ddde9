-- A Reply that has a spelling fits where the parts of one are kept.
use Rattle.std.proofs.Common.{◌≡◌, ℕ, ◌≤◌, ◌+◌, List, length, IsSome, arith, ◌&&◌, nat_le}
use Rattle.std.specs.Prelude.{IsTrue}
use Rattle.std.specs.List.{list_all}
use Rattle.std.proofs.lemmas.Bool.{and_parts, leb-true}
use Rattle.std.proofs.lemmas.Grind.{common_steps}
use Rattle.http_text.specs.Status.{phrase}
use Rattle.frame_codec.specs.declared.frame.ServiceFrame.TheVariants as said
use Rattle.frame_codec.specs.Spelling.{size, service_parts, is_reply_status, is_printable, is_visible, is_trimmed}
use Rattle.frame_codec.proofs.Sizes.{sizes}
use Rattle.frame_codec.proofs.Whole.{lawful_bounds}
use Rattle.service_cell.specs.Ending.{IsSpelledReply}

phrased : (n : ℕ) → IsTrue (is_reply_status n) → IsSome (phrase n)
phrased n is = grind (arith, common_steps)
