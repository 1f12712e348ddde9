-- The responses of dialogs.
use Rattle.std.specs.Prelude.{ℕ, List, [], ◌∷◌}
use Rattle.http_text.specs.Response.{response, own_response}
use Rattle.frame_codec.specs.declared.frame.ServiceFrame.{ServiceFrame}
use Rattle.frame_codec.specs.declared.frame.ServiceFrame.TheVariants as frame
use Rattle.monitor_model.specs.declared.record.Item.{Item}
use Rattle.monitor_model.specs.declared.record.Item.TheVariants.{Heard, Said}
use Rattle.monitor_model.specs.declared.record.End.{End}
use Rattle.monitor_model.specs.declared.record.End.TheVariants as end

-- The response that a Reply asks for.
abbrev pub said_response : ServiceFrame → List ℕ → List ℕ
said_response (frame.Reply status content_type location content) method = response status content_type location content method
said_response (frame.Open p shown) method = []
said_response (frame.Call p n q args) method = []
said_response (frame.Get name) method = []
said_response (frame.Log text) method = []

-- The response of a dialog's last item, its Reply.
abbrev pub reply_response : List Item → List ℕ → List ℕ
reply_response [] method = []
reply_response (Heard frame ∷ items) method = []
reply_response (Said said ∷ items) method = said_response said method

-- The response of a dialog: its Reply; 503 where it was superseded; 502 where it crashed by one of the first four causes; 507 where memory was wanting.
abbrev pub end_response : End → List Item → List ℕ → List ℕ
end_response end.Reply items method = reply_response items method
end_response (end.Superseded shown) items method = own_response 503 method
end_response end.BadFrame items method = own_response 502 method
end_response end.Ended items method = own_response 502 method
end_response end.LinkFault items method = own_response 502 method
end_response end.FrameLimit items method = own_response 502 method
end_response end.Starved items method = own_response 507 method
