use Rattle.std.proofs.Common.{◌≡◌, ◌∙◌, ℕ, zero, suc, ◌<◌, Bool, List, [], ◌∷◌, Option, Some, None, length, get_or, refl, sym, ap, arith, get_or-set_same}
use Rattle.std.specs.Prelude.{IfSome, option_map, slice_get, slice_set, unwrap_or}
use Rattle.okws_plan.specs.declared.configuration.Config.{Config}
use Rattle.frame_codec.specs.declared.frame.ServerFrame.{ServerFrame}
use Rattle.http_text.specs.Response.{own_response}
use Rattle.monitor_model.specs.declared.record.End.TheVariants as end
use Rattle.monitor_model.specs.Cell.{boot_frame, incarnation}
use Rattle.monitor_model.specs.Launcher.{begun}
use Rattle.monitor_model.specs.Script.{greatest, superseded, superseded_if, superseded_text, freshly_booted, boot_text, request_method}
use Rattle.monitor_model.specs.Stage.{Stage, Stand, Opened, Asked, stand, empty_stand, heard_line, answer_line}
use Rattle.okws_play.specs.Cells.{stand_at, closed_stand, booted_stand}
use Rattle.okws_play.specs.Run.{Run}

-- the line of a Boot frame
pub heard_is : (R : Run) (C D : Config) (seed : List ℕ) (s k : ℕ) (f : ServerFrame) → C ≡ R.config → D ≡ R.config → seed ≡ R.seed → f ≡ boot_frame C seed s k
    → k ≡ begun R.stage.seen.launcher s → heard_line D s k f ≡ boot_text R.config R.seed s R.stage
heard_is R C D seed s k f c d e is at = rw (is, at, c, d, e) refl

pub text_if : (S : Stage) (s n : ℕ) (o : Option Opened) → Some n ≡ option_map (λ (opened : Opened). opened.request) o
    → answer_line n (own_response 503 (request_method (slice_get S.requests n))) ≡ superseded_text s o S
text_if S s n None e = cc
text_if S s n (Some opened) e = let same : n ≡ opened.request = ap (λ o. unwrap_or o 0) e in rw same refl
