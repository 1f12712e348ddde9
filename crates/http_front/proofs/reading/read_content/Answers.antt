use Rattle.std.proofs.Common.{◌≡◌, ◌≤◌, ℕ, List, length, take, drop, refl, sym, ap, ◌∙◌, arith, inr, Ok}
use Rattle.okws_base.specs.declared.limit.TheConstants.{LONGEST_CONTENT}
use Rattle.httparse.specs.Grammar.{print_request}
use Rattle.httparse.specs.Spans.{span_bytes}
use Rattle.http_text.specs.Reading.{checked_head, is_served}
use Rattle.http_front.proofs.Heads.{span_of_front}
use Rattle.http_front.proofs.Progress.{whole_more, short_content}
use Rattle.http_front.proofs.Asking.{head_method, head_size, request_is_no_fault, refused_is_no_fault, want_is_no_fault, content_of, due_is, asked_whole, receive_content}
use Rattle.http_front.proofs.reading.read_content.Goals as goal

pub overflow_add-head : goal.overflow_add-head
overflow_add-head g c =
    let stands = c.requires.stands in
    let passed : checked_head stands.head ≡ Ok c.args.size = sym stands.told.checked_is ∙ c.requires.passed in
    let few : c.args.size ≤ LONGEST_CONTENT = head_size stands.head c.args.size passed in
    omega (arith, few, stands.told.len, stands.is.size)

pub request_of-requires-clause-whole : goal.request_of-requires-clause-whole
request_of-requires-clause-whole g c = omega (arith, c.in-Whole.ensures.enough refl, ap length c.deref.ensures.value)

pub request_of-requires-clause-served : goal.request_of-requires-clause-served
request_of-requires-clause-served g c =
    let stands = c.requires.stands in
    let passed : checked_head stands.head ≡ Ok c.args.size = sym stands.told.checked_is ∙ c.requires.passed in
    let grown = c.in-Whole.ensures.grown in
    let whole = whole_more _ _ grown.0 stands.head stands.rest grown.1 stands.is in
    let method = span_of_front _ (print_request stands.head) _ c.args.head.now.method c.args.head.now.len (c.deref.ensures.value ∙ whole.reads.1) stands.told.len stands.told.method_within ∙ stands.told.method in
    ap is_served method ∙ head_method stands.head c.args.size passed

pub returns-in-Ok : goal.returns-in-Ok
returns-in-Ok g c = λ start begun.
    let stands = c.requires.stands in
    let content = content_of stands.head c.args.head.now c.args.size _ stands.told c.requires.passed refl in
    let fills = c.in-Whole.ensures.content start stands.head stands.rest c.args.kept.now.interim content stands.is (begun.interim ∙ ap length (sym (due_is stands.head c.args.head.now stands.told))) begun.reads in
    let same = c.deref.ensures.value in
    receive_content start _ _ c.args.kept.now _ c.args.head.now stands.head _ _ _ stands.told begun fills refl refl refl
    (asked_whole _ stands.head fills.rest c.args.head.now c.args.size c.in-Ok.request fills.whole stands.told c.requires.passed fills.ends
    (c.in-Ok.ensures.method ∙ ap (λ (b : List ℕ). span_bytes b c.args.head.now.method) same)
    c.in-Ok.ensures.target
    (c.in-Ok.ensures.head ∙ ap (take c.args.head.now.len) same)
    (c.in-Ok.ensures.content ∙ ap (λ (b : List ℕ). take c.args.size (drop c.args.head.now.len b)) same))
    (λ e. absurd (request_is_no_fault _ e)) (λ _. fills.still (λ e. cc))

pub returns-in-Err : goal.returns-in-Err
returns-in-Err g c = λ start begun.
    let stands = c.requires.stands in
    let content = content_of stands.head c.args.head.now c.args.size _ stands.told c.requires.passed refl in
    let fills = c.in-Whole.ensures.content start stands.head stands.rest c.args.kept.now.interim content stands.is (begun.interim ∙ ap length (sym (due_is stands.head c.args.head.now stands.told))) begun.reads in
    receive_content start _ _ c.args.kept.now _ c.args.head.now stands.head _ _ _ stands.told begun fills refl refl refl tt (λ e. absurd (want_is_no_fault e)) (λ _. fills.still (λ e. cc))

pub returns-in-Ended : goal.returns-in-Ended
returns-in-Ended g c = λ start begun.
    let stands = c.requires.stands in
    let content = content_of stands.head c.args.head.now c.args.size _ stands.told c.requires.passed refl in
    let fills = c.in-Ended.ensures.content start stands.head stands.rest c.args.kept.now.interim content stands.is (begun.interim ∙ ap length (sym (due_is stands.head c.args.head.now stands.told))) begun.reads in
    receive_content start _ _ c.args.kept.now _ c.args.head.now stands.head _ _ _ stands.told begun fills refl refl refl
    (inr (short_content _ stands.head fills.rest c.args.size fills.whole (sym stands.told.checked_is ∙ c.requires.passed) (omega (arith, fills.ends.0, stands.told.len)), fills.ends.1, refl)) (λ e. absurd (refused_is_no_fault _ e)) (λ _. fills.still (λ e. cc))

pub returns-in-Failed : goal.returns-in-Failed
returns-in-Failed g c = λ start begun.
    let stands = c.requires.stands in
    let content = content_of stands.head c.args.head.now c.args.size _ stands.told c.requires.passed refl in
    let fills = c.in-Failed.ensures.content start stands.head stands.rest c.args.kept.now.interim content stands.is (begun.interim ∙ ap length (sym (due_is stands.head c.args.head.now stands.told))) begun.reads in
    receive_content start _ _ c.args.kept.now _ c.args.head.now stands.head _ _ _ stands.told begun fills refl refl refl tt (λ _. fills.faults.cause refl) (λ fine. absurd (fine refl))

pub returns-in-NoMemory : goal.returns-in-NoMemory
returns-in-NoMemory g c = λ start begun.
    let stands = c.requires.stands in
    let content = content_of stands.head c.args.head.now c.args.size _ stands.told c.requires.passed refl in
    let fills = c.in-NoMemory.ensures.content start stands.head stands.rest c.args.kept.now.interim content stands.is (begun.interim ∙ ap length (sym (due_is stands.head c.args.head.now stands.told))) begun.reads in
    receive_content start _ _ c.args.kept.now _ c.args.head.now stands.head _ _ _ stands.told begun fills refl refl refl tt (λ e. absurd (want_is_no_fault e)) (λ _. fills.still (λ e. cc))
