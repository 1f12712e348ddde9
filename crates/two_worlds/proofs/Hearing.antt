-- What an incarnation heard is told by its story, by its boot frame and by the verdicts of its entries.
use Rattle.std.proofs.Common.{◌≡◌, ◌≢◌, ℕ, Bool, true, false, ◌&&◌, ◌||◌, cond, List, [], ◌∷◌, ◌++◌, map, length, Option, Some, None, option_map, refl, sym, ap, subst, ◌∙◌, ⊎_elim}
use Rattle.std.specs.Prelude.{◌==◌, nat_lt, slice_get, find, option_and_then}
use Rattle.std.specs.List.{filter, list_any, list_all}
use Rattle.std.proofs.lemmas.Bool.{true≢false, false≢true, and_parts, and_from, or_cases, or_left, or_right, eqb-true, eq-eqb}
use Rattle.std.proofs.lemmas.List.{append-nil}
use Rattle.token_core.specs.Token.{token_of}
use Rattle.okws_plan.specs.Configuration.{grants_at, proxies_of, queries_of, numbered_from}
use Rattle.okws_plan.specs.Sound.{names_query}
use Rattle.okws_plan.specs.declared.configuration.Config.{Config}
use Rattle.okws_plan.specs.declared.configuration.Granted.{Granted}
use Rattle.okws_plan.specs.declared.configuration.Query.{Query}
use Rattle.okws_plan.specs.declared.script.Place.{Place}
use Rattle.okws_plan.specs.declared.script.Place.TheVariants.{Proxy, Pubd, Oklogd}
use Rattle.frame_codec.specs.Spelling.{server_spelling}
use Rattle.frame_codec.specs.declared.frame.ServerFrame.{ServerFrame}
use Rattle.frame_codec.specs.declared.frame.ServerFrame.TheVariants as frame
use Rattle.monitor_model.specs.declared.record.CellEvent.{CellEvent}
use Rattle.monitor_model.specs.declared.record.CellEvent.TheVariants as cell
use Rattle.monitor_model.specs.declared.record.End.{End}
use Rattle.monitor_model.specs.declared.record.End.TheVariants as end
use Rattle.monitor_model.specs.declared.record.Item.{Item}
use Rattle.monitor_model.specs.declared.record.Item.TheVariants.{Heard, Said}
use Rattle.monitor_model.specs.declared.record.Record.{Record}
use Rattle.monitor_model.specs.declared.verdict.Verdict.{Verdict}
use Rattle.monitor_model.specs.declared.verdict.Noted.{Noted}
use Rattle.monitor_model.specs.Cell.{incarnation, after_end, CellLaw, heard, boot_frame}
use Rattle.monitor_model.specs.Course.{heard_text, verdict_frame, got_frame, noted_frame, push_frame}
use Rattle.monitor_model.specs.Merged.{cell_past}
use Rattle.monitor_model.specs.Seen.{proxy_past}
use Rattle.monitor_model.specs.Sent.{is_link_fault, or_else, cut_due, broken_in}
use Rattle.two_worlds.specs.View.{right_of}
use Rattle.two_worlds.specs.Agreement.{LawfulConfig, ConfigsAgree, right}
use Rattle.two_worlds.specs.PubdSight.{PubdVerdict}
use Rattle.two_worlds.specs.Story.{Source, Stays, AnswerTo, PushOf, ToldItem, Hears, Says, StoryEvent, Boots, Talks, at_place, joined, got_of, pushes_of, answer_frame, pushed_frame, ComesFrom, AreTold, DueComes, unnumbered, IsStory, RecordsAgree}
use Rattle.two_worlds.proofs.Rights as rights
use Rattle.two_worlds.proofs.AtProxy.{same_at_proxy}
use Rattle.two_worlds.proofs.AtPubd.{same_at_pubd}
use Rattle.two_worlds.proofs.AtLog.{same_at_log}

-- the bytes of a story, where answers and pushes have these frames

abbrev text_of : Option ServerFrame → List ℕ
text_of None = []
text_of (Some frame) = server_spelling frame

abbrev source_text : (Place → ℕ → Option ServerFrame) → (ℕ → ℕ → Option ServerFrame) → Source → List ℕ
source_text answer push (Stays frame) = server_spelling frame
source_text answer push (AnswerTo at n) = text_of (answer at n)
source_text answer push (PushOf n m) = text_of (push n m)

abbrev items_text : (Place → ℕ → Option ServerFrame) → (ℕ → ℕ → Option ServerFrame) → List ToldItem → List ℕ
items_text answer push [] = []
items_text answer push (Hears source ∷ more) = items_text answer push more ++ source_text answer push source
items_text answer push (Says frame ∷ more) = items_text answer push more

-- the last incarnation that was booted
abbrev current : List StoryEvent → ℕ
current [] = 0
current (Boots k ∷ story) = k
current (Talks how told due ∷ story) = current story

abbrev story_text : (Place → ℕ → Option ServerFrame) → (ℕ → ℕ → Option ServerFrame) → List ℕ → ℕ → List StoryEvent → List ℕ
story_text answer push boot k [] = []
story_text answer push boot k (Boots j ∷ story) = story_text answer push boot k story ++ cond (j == k) boot []
story_text answer push boot k (Talks how told due ∷ story) = story_text answer push boot k story ++ cond (current story == k) (items_text answer push told) []

abbrev due_text : (Place → ℕ → Option ServerFrame) → (ℕ → ℕ → Option ServerFrame) → Option Source → List ℕ
due_text answer push None = []
due_text answer push (Some source) = source_text answer push source

-- what was due where the link of incarnation k failed
abbrev story_cut : (Place → ℕ → Option ServerFrame) → (ℕ → ℕ → Option ServerFrame) → ℕ → List StoryEvent → Option (List ℕ)
story_cut answer push k [] = None
story_cut answer push k (Boots j ∷ story) = story_cut answer push k story
story_cut answer push k (Talks None told due ∷ story) = story_cut answer push k story
story_cut answer push k (Talks (Some how) told due ∷ story) =
    cond (current story == k) (or_else (cond (is_link_fault how) (Some (due_text answer push due)) None) (story_cut answer push k story)) (story_cut answer push k story)

-- a frame's bytes are its source's
source_is : (C : Config) (R : Record) (s : ℕ) (heard : ServerFrame) (source : Source) → ComesFrom C R s heard source → server_spelling heard ≡ source_text (answer_frame C R s) (pushed_frame C R s) source
source_is C R s heard (Stays frame) h = ap server_spelling h.0
source_is C R s heard (AnswerTo at n) h = sym (ap text_of h)
source_is C R s heard (PushOf n m) h = sym (ap text_of h)

items_are : (C : Config) (R : Record) (s : ℕ) (items : List Item) (told : List ToldItem) → AreTold C R s items told → heard_text items ≡ items_text (answer_frame C R s) (pushed_frame C R s) told
items_are C R s [] told h = sym (ap (items_text (answer_frame C R s) (pushed_frame C R s)) h)
items_are C R s (Heard heard ∷ items) told h =
    (λ i. items_are C R s items h.1 h.4 i ++ source_is C R s heard h.0 h.3 i) ∙ sym (ap (items_text (answer_frame C R s) (pushed_frame C R s)) h.2)
items_are C R s (Said said ∷ items) told h = items_are C R s items h.0 h.2 ∙ sym (ap (items_text (answer_frame C R s) (pushed_frame C R s)) h.1)

-- a cell's incarnation, where it has one, is the last that was booted
current_is : (C : Config) (R : Record) (s : ℕ) (J : List CellEvent) (story : List StoryEvent) → IsStory C R s J story → incarnation J ≢ 0 → incarnation J ≡ current story
current_is C R s [] story h there = absurd (there refl)
current_is C R s (cell.Boot k ∷ J) story h there = sym (ap current h.1)
current_is C R s (cell.Retired ∷ J) story h there = absurd (there refl)
current_is C R s (cell.Missed worker wanted is ∷ J) story h there = current_is C R s J story h there
current_is C R s (cell.Dialog d ∷ J) story h there = by d.end there (current_is C R s J h.0 h.6) ∙ sym (ap current h.3)
  where
    by : (how : End) → after_end how (incarnation J) ≢ 0 → (incarnation J ≢ 0 → incarnation J ≡ current h.0) → after_end how (incarnation J) ≡ current h.0
    by end.Reply there more = more there
    by (end.Superseded shown) there more = more there
    by end.BadFrame there more = absurd (there refl)
    by end.Ended there more = absurd (there refl)
    by end.LinkFault there more = absurd (there refl)
    by end.FrameLimit there more = absurd (there refl)
    by end.Starved there more = absurd (there refl)
current_is C R s (cell.Speaking worker items ∷ J) story h there = current_is C R s J h.0 h.4 there ∙ sym (ap current h.2)

-- what was heard is the story's bytes
pub heard_is : (C : Config) (R : Record) (seed : List ℕ) (s k : ℕ) (J : List CellEvent) (story : List StoryEvent) → CellLaw J → IsStory C R s J story
    → heard C seed s k J ≡ story_text (answer_frame C R s) (pushed_frame C R s) (server_spelling (boot_frame C seed s k)) k story
heard_is C R seed s k [] story law h = sym (ap (story_text (answer_frame C R s) (pushed_frame C R s) (server_spelling (boot_frame C seed s k)) k) h)
heard_is C R seed s k (cell.Boot j ∷ J) story law h =
    ap (λ (l : List ℕ). l ++ cond (j == k) (server_spelling (boot_frame C seed s k)) []) (heard_is C R seed s k J h.0 law.0 h.2)
    ∙ sym (ap (story_text (answer_frame C R s) (pushed_frame C R s) (server_spelling (boot_frame C seed s k)) k) h.1)
heard_is C R seed s k (cell.Retired ∷ J) story law h = append-nil (heard C seed s k J) ∙ heard_is C R seed s k J story law.0 h
heard_is C R seed s k (cell.Missed worker wanted is ∷ J) story law h = append-nil (heard C seed s k J) ∙ heard_is C R seed s k J story law.0 h
heard_is C R seed s k (cell.Dialog d ∷ J) story law h =
    (λ i. heard_is C R seed s k J h.0 law.0 h.6 i ++ cond (current_is C R s J h.0 h.6 law.2.0 i == k) (items_are C R s d.items h.1 h.4 i) [])
    ∙ sym (ap (story_text (answer_frame C R s) (pushed_frame C R s) (server_spelling (boot_frame C seed s k)) k) h.3)
heard_is C R seed s k (cell.Speaking worker items ∷ J) story law h =
    (λ i. heard_is C R seed s k J h.0 law.0 h.4 i ++ cond (current_is C R s J h.0 h.4 law.2 i == k) (items_are C R s items h.1 h.3 i) [])
    ∙ sym (ap (story_text (answer_frame C R s) (pushed_frame C R s) (server_spelling (boot_frame C seed s k)) k) h.2)

-- what was due is its source's bytes
due_is : (C : Config) (R : Record) (s : ℕ) (how : End) (due : List ℕ) (told : Option Source) → DueComes C R s (cut_due how due) told
    → cut_due how due ≡ cond (is_link_fault (unnumbered how)) (Some (due_text (answer_frame C R s) (pushed_frame C R s) told)) None
due_is C R s end.Reply due told h = refl
due_is C R s (end.Superseded shown) due told h = refl
due_is C R s end.BadFrame due told h = refl
due_is C R s end.Ended due told h = refl
due_is C R s end.FrameLimit due told h = refl
due_is C R s end.Starved due told h = refl
due_is C R s end.LinkFault due None h = ap Some h
due_is C R s end.LinkFault due (Some source) h = ap Some (h.1 ∙ source_is C R s h.0 source h.2)

broken_is : (C : Config) (R : Record) (s k : ℕ) (J : List CellEvent) (story : List StoryEvent) → CellLaw J → IsStory C R s J story → broken_in k J ≡ story_cut (answer_frame C R s) (pushed_frame C R s) k story
broken_is C R s k [] story law h = sym (ap (story_cut (answer_frame C R s) (pushed_frame C R s) k) h)
broken_is C R s k (cell.Boot j ∷ J) story law h = broken_is C R s k J h.0 law.0 h.2 ∙ sym (ap (story_cut (answer_frame C R s) (pushed_frame C R s) k) h.1)
broken_is C R s k (cell.Retired ∷ J) story law h = broken_is C R s k J story law.0 h
broken_is C R s k (cell.Missed worker wanted is ∷ J) story law h = broken_is C R s k J story law.0 h
broken_is C R s k (cell.Dialog d ∷ J) story law h =
    (λ i. cond (current_is C R s J h.0 h.6 law.2.0 i == k) (or_else (due_is C R s d.end d.due h.2 h.5 i) (broken_is C R s k J h.0 law.0 h.6 i)) (broken_is C R s k J h.0 law.0 h.6 i))
    ∙ sym (ap (story_cut (answer_frame C R s) (pushed_frame C R s) k) h.3)
broken_is C R s k (cell.Speaking worker items ∷ J) story law h = broken_is C R s k J h.0 law.0 h.4 ∙ sym (ap (story_cut (answer_frame C R s) (pushed_frame C R s) k) h.2)

-- the proxies where s has a grant

granted_somewhere : (C : Config) (s p : ℕ) (gs : List Granted) → list_all (names_query C) gs ≡ true → list_any (λ (g : Granted). (g.service == s) && (g.proxy == p)) gs ≡ true
    → (q : ℕ) × (list_any (λ (g : Granted). (g.service == s) && ((g.proxy == p) && (g.query == q))) gs ≡ true) × (list_any (λ (x : Query). x.number == q) (queries_of (slice_get C.proxies p)) ≡ true)
granted_somewhere C s p [] all h = absurd (false≢true h)
granted_somewhere C s p (g ∷ gs) all h =
    let both = and_parts (names_query C g) (list_all (names_query C) gs) all in
    let declared = and_parts (nat_lt g.service (length C.services)) (list_any (λ (x : Query). x.number == g.query) (queries_of (slice_get C.proxies g.proxy))) both.0 in
    by ((g.service == s) && (g.proxy == p)) refl h declared.1 (λ k. granted_somewhere C s p gs both.1 k)
  where
    by : (b : Bool) → ((g.service == s) && (g.proxy == p)) ≡ b → (b || list_any (λ (x : Granted). (x.service == s) && (x.proxy == p)) gs) ≡ true
        → list_any (λ (x : Query). x.number == g.query) (queries_of (slice_get C.proxies g.proxy)) ≡ true
        → (list_any (λ (x : Granted). (x.service == s) && (x.proxy == p)) gs ≡ true
        → (q : ℕ) × (list_any (λ (x : Granted). (x.service == s) && ((x.proxy == p) && (x.query == q))) gs ≡ true) × (list_any (λ (x : Query). x.number == q) (queries_of (slice_get C.proxies p)) ≡ true))
        → (q : ℕ) × (list_any (λ (x : Granted). (x.service == s) && ((x.proxy == p) && (x.query == q))) (g ∷ gs) ≡ true) × (list_any (λ (x : Query). x.number == q) (queries_of (slice_get C.proxies p)) ≡ true)
    by true is h declared more =
        let parts = and_parts (g.service == s) (g.proxy == p) is in (
          g.query,
          or_left _ _ (and_from (g.service == s) _ parts.0 (and_from (g.proxy == p) (g.query == g.query) parts.1 (eq-eqb g.query g.query refl))),
          subst (λ (n : ℕ). list_any (λ (x : Query). x.number == g.query) (queries_of (slice_get C.proxies n)) ≡ true) (eqb-true g.proxy p parts.1) declared,
        )
    by false is h declared more = let rest = more h in (rest.0, or_right _ _ rest.1, rest.2)

found_somewhere : (qs : List Query) (q : ℕ) → list_any (λ (x : Query). x.number == q) qs ≡ true → (x : Query) × (find (λ (y : Query). y.number == q) qs ≡ Some x)
found_somewhere [] q h = absurd (false≢true h)
found_somewhere (y ∷ qs) q h = by (y.number == q) refl h (λ k. found_somewhere qs q k)
  where
    by : (b : Bool) → (y.number == q) ≡ b → (b || list_any (λ (x : Query). x.number == q) qs) ≡ true → (list_any (λ (x : Query). x.number == q) qs ≡ true → (x : Query) × (find (λ (z : Query). z.number == q) qs ≡ Some x))
        → (x : Query) × (cond b (Some y) (find (λ (z : Query). z.number == q) qs) ≡ Some x)
    by true is h more = (y, refl)
    by false is h more = more h

grant_at : (s p q : ℕ) (gs : List Granted) → list_any (λ (g : Granted). (g.service == s) && ((g.proxy == p) && (g.query == q))) gs ≡ true → list_any (λ (g : Granted). (g.service == s) && (g.proxy == p)) gs ≡ true
grant_at s p q [] h = absurd (false≢true h)
grant_at s p q (g ∷ gs) h =
    ⊎_elim (λ (e : ((g.service == s) && ((g.proxy == p) && (g.query == q))) ≡ true).
    let parts = and_parts (g.service == s) ((g.proxy == p) && (g.query == q)) e in
    or_left _ _ (and_from (g.service == s) (g.proxy == p) parts.0 (and_parts (g.proxy == p) (g.query == q) parts.1).0))
    (λ (e : list_any (λ (x : Granted). (x.service == s) && ((x.proxy == p) && (x.query == q))) gs ≡ true). or_right _ _ (grant_at s p q gs e))
    (or_cases ((g.service == s) && ((g.proxy == p) && (g.query == q))) (list_any (λ (x : Granted). (x.service == s) && ((x.proxy == p) && (x.query == q))) gs) h)

grants_there : (C D : Config) (s p : ℕ) → LawfulConfig C → ((q : ℕ) → right C s p q ≡ right D s p q) → grants_at C s p ≡ true → grants_at D s p ≡ true
grants_there C D s p lawful same h =
    let one = granted_somewhere C s p C.grants lawful.sound.granted h in
    let found = found_somewhere (queries_of (slice_get C.proxies p)) one.0 one.2 in
    let other = rights.granted_right D s p one.0 (right_of C p found.0) (sym (same one.0) ∙ rights.right_is C s p one.0 found.0 one.1 found.1) in
    grant_at s p one.0 D.grants other.held

grants_same : (C D : Config) (s p : ℕ) → LawfulConfig C → LawfulConfig D → ((q : ℕ) → right C s p q ≡ right D s p q) → grants_at C s p ≡ grants_at D s p
grants_same C D s p lawful_c lawful_d same = by (grants_at C s p) refl (grants_at D s p) refl
  where
    by : (a : Bool) → grants_at C s p ≡ a → (b : Bool) → grants_at D s p ≡ b → a ≡ b
    by true e true f = refl
    by true e false f = absurd (true≢false (sym (grants_there C D s p lawful_c same e) ∙ f))
    by false e true f = absurd (true≢false (sym (grants_there D C s p lawful_d (λ q. sym (same q)) f) ∙ e))
    by false e false f = refl

proxies_same : (C D : Config) (s : ℕ) → LawfulConfig C → LawfulConfig D → ConfigsAgree C D s → proxies_of C s ≡ proxies_of D s
proxies_same C D s lawful_c lawful_d agree = λ i. filter (λ (p : ℕ). grants_same C D s p lawful_c lawful_d (agree.rights p) i) (numbered_from 0 (agree.proxies i))

boot_same : (C D : Config) (seed : List ℕ) (s k : ℕ) → LawfulConfig C → LawfulConfig D → ConfigsAgree C D s → boot_frame C seed s k ≡ boot_frame D seed s k
boot_same C D seed s k lawful_c lawful_d agree = ap (λ (ps : List ℕ). frame.Boot s k (map (λ (p : ℕ). record { proxy = p; token = token_of seed s k p }) ps)) (proxies_same C D s lawful_c lawful_d agree)

-- two records that agree

answers_same : (C D : Config) (R Q : Record) (s : ℕ) → LawfulConfig C → LawfulConfig D → RecordsAgree C D R Q s → (at : Place) (n : ℕ) → answer_frame C R s at n ≡ answer_frame D Q s at n
answers_same C D R Q s lawful_c lawful_d agree (Proxy p) n =
    ap (λ (l : List (Option Verdict)). option_map verdict_frame (joined (at_place l n)))
    (same_at_proxy C D s p lawful_c lawful_d (agree.configs.rights p) (agree.configs.first p) (proxy_past R.proxies p) (proxy_past Q.proxies p) (agree.proxies p)).verdicts
answers_same C D R Q s lawful_c lawful_d agree Pubd n =
    ap (λ (l : List (Option PubdVerdict)). option_map got_frame (option_and_then got_of (joined (at_place l n)))) (same_at_pubd C D s lawful_c lawful_d agree.configs.readable R.pubd Q.pubd agree.pubd)
answers_same C D R Q s lawful_c lawful_d agree Oklogd n =
    ap (λ (l : List (Option Noted)). option_map noted_frame (joined (at_place l n))) (same_at_log C D s agree.configs.logs R.oklogd Q.oklogd agree.oklogd)

pushes_same : (C D : Config) (R Q : Record) (s : ℕ) → LawfulConfig C → LawfulConfig D → RecordsAgree C D R Q s → (n m : ℕ) → pushed_frame C R s n m ≡ pushed_frame D Q s n m
pushes_same C D R Q s lawful_c lawful_d agree n m =
    ap (λ (l : List (Option PubdVerdict)). option_map push_frame (option_and_then (λ (v : PubdVerdict). slice_get (pushes_of v) m) (joined (at_place l n))))
    (same_at_pubd C D s lawful_c lawful_d agree.configs.readable R.pubd Q.pubd agree.pubd)

pub heard_same : (C D : Config) (R Q : Record) (seed : List ℕ) (s : ℕ) → LawfulConfig C → LawfulConfig D → CellLaw (cell_past R s) → CellLaw (cell_past Q s) → RecordsAgree C D R Q s → (k : ℕ)
    → heard C seed s k (cell_past R s) ≡ heard D seed s k (cell_past Q s)
heard_same C D R Q seed s lawful_c lawful_d law_r law_q agree k =
    let answers : answer_frame C R s ≡ answer_frame D Q s = λ i at n. answers_same C D R Q s lawful_c lawful_d agree at n i in
    let pushes : pushed_frame C R s ≡ pushed_frame D Q s = λ i n m. pushes_same C D R Q s lawful_c lawful_d agree n m i in
    let boots : boot_frame C seed s k ≡ boot_frame D seed s k = boot_same C D seed s k lawful_c lawful_d agree.configs in
    heard_is C R seed s k (cell_past R s) agree.story.0 law_r agree.story.1
    ∙ (λ i. story_text (answers i) (pushes i) (server_spelling (boots i)) k agree.story.0)
    ∙ sym (heard_is D Q seed s k (cell_past Q s) agree.story.0 law_q agree.story.2)

pub broken_same : (C D : Config) (R Q : Record) (s : ℕ) → LawfulConfig C → LawfulConfig D → CellLaw (cell_past R s) → CellLaw (cell_past Q s) → RecordsAgree C D R Q s → (k : ℕ)
    → broken_in k (cell_past R s) ≡ broken_in k (cell_past Q s)
broken_same C D R Q s lawful_c lawful_d law_r law_q agree k =
    let answers : answer_frame C R s ≡ answer_frame D Q s = λ i at n. answers_same C D R Q s lawful_c lawful_d agree at n i in
    let pushes : pushed_frame C R s ≡ pushed_frame D Q s = λ i n m. pushes_same C D R Q s lawful_c lawful_d agree n m i in
    broken_is C R s k (cell_past R s) agree.story.0 law_r agree.story.1
    ∙ (λ i. story_cut (answers i) (pushes i) k agree.story.0)
    ∙ sym (broken_is D Q s k (cell_past Q s) agree.story.0 law_q agree.story.2)
