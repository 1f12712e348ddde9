-- What the small runs' request reads as.
use Rattle.std.proofs.Common.{◌≡◌, true, [], ◌∷◌, refl, arith, codes}
use Rattle.std.proofs.lemmas.List.Elements.{All-nil, All-cons}
use Rattle.httparse.specs.Grammar.{RequestHead, IsRequestHead, print_request, is_token_byte, is_uri_byte, crlf, IsField, AllPass}
use Rattle.http_text.specs.Reading.{IsWholeHead, HasFront, Headed, Asks, IsReading, IsInterim, IsMethod}
use Rattle.monitor_model.specs.ShortRun.{guest_request}

-- its head
abbrev guest_head : RequestHead
guest_head = record { blank = []; method = codes "GET"; target = codes "/guest"; minor = 0; line_end = crlf; fields = []; last = crlf }

method_is_token : AllPass is_token_byte (codes "GET")
unfolding is_token_byte
method_is_token =
    All-cons (λ b. is_token_byte b ≡ true) 71 (69 ∷ 84 ∷ []) refl
    (All-cons (λ b. is_token_byte b ≡ true) 69 (84 ∷ []) refl (All-cons (λ b. is_token_byte b ≡ true) 84 [] refl (All-nil _)))

target_passes : AllPass is_uri_byte (codes "/guest")
target_passes =
    All-cons (λ b. is_uri_byte b ≡ true) 47 (103 ∷ 117 ∷ 101 ∷ 115 ∷ 116 ∷ []) refl
    (All-cons (λ b. is_uri_byte b ≡ true) 103 (117 ∷ 101 ∷ 115 ∷ 116 ∷ []) refl
    (All-cons (λ b. is_uri_byte b ≡ true) 117 (101 ∷ 115 ∷ 116 ∷ []) refl
    (All-cons (λ b. is_uri_byte b ≡ true) 101 (115 ∷ 116 ∷ []) refl
    (All-cons (λ b. is_uri_byte b ≡ true) 115 (116 ∷ []) refl (All-cons (λ b. is_uri_byte b ≡ true) 116 [] refl (All-nil _))))))

guest_is_head : IsRequestHead guest_head
unfolding lib.Utf8.encode
guest_is_head = record {
  method = (omega arith, method_is_token);
  target = (omega arith, target_passes);
  target_text = (codes "/guest", (refl, refl));
  minor = omega arith;
  fields = All-nil IsField;
}

guest_is_whole : IsWholeHead guest_request guest_head []
unfolding print_request
guest_is_whole = record { reads = (guest_is_head, refl); size = omega arith; few = omega arith }

guest_front : HasFront guest_request (Headed guest_head [])
guest_front = guest_is_whole

pub guest_is_read : IsReading guest_request (Asks (codes "GET") (codes "/guest") guest_request [])
unfolding print_request
guest_is_read = (Headed guest_head [], guest_front, refl)

pub guest_waits_for_nothing : IsInterim guest_request []
guest_waits_for_nothing = (Headed guest_head [], guest_front, refl)

pub guest_is_get : IsMethod guest_request (codes "GET")
guest_is_get = (Headed guest_head [], guest_front, refl)
