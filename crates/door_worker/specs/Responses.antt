-- The response that is due to a request, by what became of it.
use Rattle.std.specs.Prelude.{ℕ, Bool, List, [], ◌∷◌, ◌==◌, ◌||◌, IsTrue, ⊤}
use Rattle.http_text.specs.Response.{response, own_response}
use Rattle.frame_codec.specs.declared.frame.ServiceFrame.TheVariants as frame
use Rattle.monitor_model.specs.declared.record.End.{End}
use Rattle.monitor_model.specs.declared.record.End.TheVariants as end
use Rattle.monitor_model.specs.declared.record.Item.TheVariants.{Said}
use Rattle.monitor_model.specs.Answering.{end_response}
use Rattle.http_front.specs.Replies.{Replied}
use Rattle.door_worker.specs.declared.handler.Outcome.{Outcome}
use Rattle.door_worker.specs.declared.handler.Outcome.TheVariants as outcome
use Rattle.door_worker.specs.declared.answer.Answer.{Answer}
use Rattle.door_worker.specs.declared.answer.Answer.TheVariants as answer

-- The response to a request: 404 where nobody owns its path; 503 where the owner isn't up, or the incarnation wasn't there; 507 where memory was refused; else that of its dialog, whose last item is the Reply where a service replied.
abbrev pub outcome_response : Outcome → Replied → List ℕ → List ℕ
outcome_response outcome.NotOwned reply method = own_response 404 method
outcome_response outcome.Down reply method = own_response 503 method
outcome_response outcome.Missed reply method = own_response 503 method
outcome_response (outcome.Ended how) reply method = end_response how (Said (frame.Reply reply.status reply.content_type reply.location reply.content) ∷ []) method
outcome_response outcome.NoMemory reply method = own_response 507 method

-- The text of an answer.
abbrev pub answer_response : Answer → Replied → List ℕ → List ℕ
answer_response (answer.Own status) reply method = own_response status method
answer_response answer.Reply reply method = response reply.status reply.content_type reply.location reply.content method

-- The answer to a dialog that ended so.
abbrev pub end_answer : End → Answer
end_answer end.Reply = answer.Reply
end_answer (end.Superseded shown) = answer.Own 503
end_answer end.BadFrame = answer.Own 502
end_answer end.Ended = answer.Own 502
end_answer end.LinkFault = answer.Own 502
end_answer end.FrameLimit = answer.Own 502
end_answer end.Starved = answer.Own 507

-- The answer to a request of which this became.
abbrev pub answer_of : Outcome → Answer
answer_of outcome.NotOwned = answer.Own 404
answer_of outcome.Down = answer.Own 503
answer_of outcome.Missed = answer.Own 503
answer_of (outcome.Ended how) = end_answer how
answer_of outcome.NoMemory = answer.Own 507

-- A status with which the server itself responds.
abbrev pub is_own : ℕ → Bool
is_own status = (status == 400) || ((status == 404) || ((status == 413) || ((status == 431) || ((status == 501) || ((status == 502) || ((status == 503) || (status == 507)))))))

-- The server's own answers have such a status.
abbrev pub IsLawful : Answer → Type 0
IsLawful (answer.Own status) = IsTrue (is_own status)
IsLawful answer.Reply = ⊤
