-- How a dialog opens, push by push.
use Rattle.std.proofs.Common.{◌≡◌, ℕ, List, [], ◌∷◌, ◌++◌, length, map, reverse, refl, sym, ap, subst, ◌∙◌, append_assoc, arith}
use Rattle.std.specs.declared.result.Result.{Result}
use Rattle.std.specs.declared.result.Result.TheVariants.{Ok, Err}
use Rattle.std.proofs.lemmas.List.{append-nil, map-append, reverse-append}
use Rattle.okws_base.specs.declared.crash.Cause.{Cause}
use Rattle.okws_base.specs.declared.crash.Cause.TheVariants as cause
use Rattle.std.specs.Prelude.{OnOk}
use Rattle.okws_base.specs.Runs.{Each}
use Rattle.frame_codec.specs.Spelling.{HasSpelling, server_spelling}
use Rattle.frame_codec.specs.declared.frame.ServerFrame.{ServerFrame}
use Rattle.okws_outer.specs.Wire.{Wire}
use Rattle.monitor_model.specs.declared.verdict.Push.{Push}
use Rattle.monitor_model.specs.declared.record.Item.{Item}
use Rattle.monitor_model.specs.declared.record.Item.TheVariants.{Heard}
use Rattle.monitor_model.specs.Course.{heard_text, push_frame, opening}
use Rattle.service_cell.specs.Standing.{Moves, Breaks}
use Rattle.service_cell.specs.Exchange.{IsSpelled, Hears, Opens}
use Rattle.service_cell.proofs.Wires.{moves_then, breaks_after}

pub nothing_left : {A : Type 0} (xs : List A) → length xs ≡ 0 → xs ≡ []
nothing_left [] e = refl
nothing_left (x ∷ xs) e = absurd (omega arith)

abbrev heard_push : Push → Item
heard_push push = Heard (push_frame push)

pub pushed_more : (pushes : List Push) (push : Push) → reverse (map heard_push (pushes ++ push ∷ [])) ≡ Heard (push_frame push) ∷ reverse (map heard_push pushes)
pushed_more pushes push = ap reverse (map-append heard_push pushes (push ∷ [])) ∙ reverse-append (map heard_push pushes) (heard_push push ∷ [])

-- what is due once these pushes were heard
pub due_after : (all pushes more : List Push) (push : Push) (request : ServerFrame) (items : List Item) → all ≡ pushes ++ push ∷ more → items ≡ reverse (map heard_push pushes)
    → opening all request ≡ (Heard request ∷ reverse (map heard_push more)) ++ Heard (push_frame push) ∷ items
due_after all pushes more push request items e is =
    let whole : reverse (map heard_push (pushes ++ push ∷ more)) ≡ reverse (map heard_push more) ++ Heard (push_frame push) ∷ reverse (map heard_push pushes) =
    ap reverse (map-append heard_push pushes (push ∷ more)) ∙ reverse-append (map heard_push pushes) (heard_push push ∷ map heard_push more)
    ∙ ap (λ (t : List Item). t ++ reverse (map heard_push pushes)) (reverse-append (heard_push push ∷ []) (map heard_push more)) ∙ append_assoc (reverse (map heard_push more)) (heard_push push ∷ []) (reverse (map heard_push pushes)) in
    ap (λ (t : List Item). Heard request ∷ t) (ap (λ (ps : List Push). reverse (map heard_push ps)) e ∙ whole ∙ ap (λ (t : List Item). reverse (map heard_push more) ++ Heard (push_frame push) ∷ t) (sym is))

pub heard_one : (old mid new : Wire) (items items' : List Item) (frame : ServerFrame) → Moves old mid [] (heard_text items) → Moves mid new [] (server_spelling frame) → items' ≡ Heard frame ∷ items → Moves old new [] (heard_text items')
heard_one old mid new items items' frame before now is =
    subst (λ (t : List Item). Moves old new [] (heard_text t)) (sym is) (moves_then old mid new [] [] (heard_text items) (server_spelling frame) before now)

pub broke_off : (old mid new : Wire) (items items' opened rest : List Item) (frame : ServerFrame) (due : List ℕ) (why : Cause) → Moves old mid [] (heard_text items) → Hears mid items frame (Err why) new items' due → opened ≡ rest ++ Heard frame ∷ items
    → Opens old opened (Err why) new items' due
broke_off old mid new items items' opened rest frame due cause.LinkFault before h all =
    (rest, frame, rw h.1 all, subst (λ (bytes : List ℕ). Breaks old new [] bytes (server_spelling frame)) (append-nil (heard_text items) ∙ ap heard_text (sym h.1)) (breaks_after old mid new [] [] (heard_text items) [] (server_spelling frame) before h.0), h.2)
broke_off old mid new items items' opened rest frame due cause.Starved before h all =
    (rest ++ Heard frame ∷ [], rw h.1 (all ∙ sym (append_assoc rest (Heard frame ∷ []) items)), subst (λ (bytes : List ℕ). Moves old new [] bytes) (append-nil (heard_text items) ∙ ap heard_text (sym h.1)) (moves_then old mid new [] [] (heard_text items) [] before h.0), h.2)
broke_off old mid new items items' opened rest frame due cause.BadFrame before h all = absurd h
broke_off old mid new items items' opened rest frame due cause.Ended before h all = absurd h
broke_off old mid new items items' opened rest frame due cause.FrameLimit before h all = absurd h

pub last_heard : (old mid new : Wire) (items items' : List Item) (pushes all : List Push) (request : ServerFrame) (due : List ℕ) (result : Result (Unit {0}) Cause) → Moves old mid [] (heard_text items) → Hears mid items request result new items' due → items ≡ reverse (map heard_push pushes) → all ≡ pushes ++ []
    → Opens old (opening all request) result new items' due
last_heard old mid new items items' pushes all request due (Ok done) before h is e =
    let whole : items' ≡ opening all request = h.1 ∙ ap (λ (t : List Item). Heard request ∷ t) (is ∙ ap (λ (ps : List Push). reverse (map heard_push ps)) (sym (e ∙ append-nil pushes))) in
    (subst (λ (t : List Item). Moves old new [] (heard_text t)) whole (heard_one old mid new items items' request before h.0 h.1), whole)
last_heard old mid new items items' pushes all request due (Err why) before h is e =
    broke_off old mid new items items' (opening all request) [] request due why before h (ap (λ (t : List Item). Heard request ∷ t) (ap (λ (ps : List Push). reverse (map heard_push ps)) (e ∙ append-nil pushes) ∙ sym is))

pub heard_spelled : (old new : Wire) (items items' : List Item) (frame : ServerFrame) (due : List ℕ) (result : Result (Unit {0}) Cause) → Hears old items frame result new items' due → HasSpelling frame → Each IsSpelled items → OnOk result (Each IsSpelled items')
heard_spelled old new items items' frame due (Ok done) h spelling all = rw h.1 (spelling, all)
heard_spelled old new items items' frame due (Err why) h spelling all = tt
