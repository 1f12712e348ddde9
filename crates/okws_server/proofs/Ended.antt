-- How a run ends, from what it printed.
use Rattle.std.proofs.Common.{◌≡◌, ◌∙◌, ℕ, ◌+◌, List, [], ◌∷◌, ◌++◌, take, Bool, true, false, refl, sym, append-nil, subst, inl, inr, Some, None}
use Rattle.std.specs.declared.option.Option.{Option}
use Rattle.okws_base.specs.declared.limit.TheConstants.{LONGEST_SCRIPT}
use Rattle.okws_outer.specs.Streams.{IsFrontOf}
use Rattle.okws_outer.specs.Shelf.{Shelf, Reads}
use Rattle.okws_outer.specs.Printing.{Printed, Counted, Printer, PrintsOn, PrintsFront}
use Rattle.okws_outer.proofs.Printed.{then_on, printed_first, counted_first}
use Rattle.okws_plan.specs.declared.configuration.Config.{Config}
use Rattle.monitor_model.specs.declared.record.Record.{Record}
use Rattle.play_script.specs.Refusal.{script_refused}
use Rattle.play_script.specs.Rule.{script_rule_number}
use Rattle.config_reader.specs.declared.error.Refusal.{Refusal}
use Rattle.command_line.specs.declared.answer.TheConstants.{VERSION}
use Rattle.okws_server.specs.Commands.{TellsVersion}
use Rattle.okws_server.specs.Ending.{Told, BreaksOff, no_memory_line, RoseWhere}
use Rattle.okws_server.specs.Headline.{IsWholeRun, IsRefused, IsEmptyRecord, IsDueOf, Leaves}
use Rattle.okws_server.specs.Ran.{zero_seed, out_status, GivesConfig, IsRefusedBy, TellsRefusal, Plays, PlaysFiles, Played, Ends, Lists, Checked}
use Rattle.okws_server.specs.Listing.{listing}
use Rattle.okws_server.specs.declared.script.Broken.{Broken}
use Rattle.okws_server.specs.declared.status.Status.{Status}
use Rattle.okws_server.specs.declared.status.Status.TheVariants as status
use Rattle.okws_server.proofs.Files.{whole_text, long_text}

told_by : (old new : Option (List ℕ)) (bytes : List ℕ) (f g : ℕ) (stopped : Bool) → Printed old new bytes stopped → Counted f g stopped → Told old new bytes (RoseWhere f g)
told_by old new bytes f g true p n = record { part = p.part; whole = inr (n.rose refl) }
told_by old new bytes f g false p n = record { part = p.part; whole = inl (p.whole refl, n.still refl) }

-- where printing stands before anything is printed
abbrev pub at_start : Option (List ℕ) → ℕ → Printer
at_start old f = record { given = old; faults = f; stopped = false }

-- what a print at the start told
pub told_on : (old : Option (List ℕ)) (f : ℕ) (c : Printer) (bytes : List ℕ) → PrintsOn (at_start old f) c bytes → Told old c.given bytes (RoseWhere f c.faults)
told_on old f c bytes h = told_by old c.given bytes f c.faults c.stopped (printed_first old c.given bytes c.stopped h.prints) (counted_first f c.faults c.stopped h.counts)

-- a front of what is due was printed, and then that memory was refused
pub breaks_off : (old : Option (List ℕ)) (f : ℕ) (b c : Printer) (due : List ℕ) → PrintsFront (at_start old f) b due → PrintsOn b c no_memory_line → BreaksOff old c.given due (RoseWhere f c.faults)
breaks_off old f b c due h then = record {
  front = h.front;
  rest = h.rest;
  whole = h.whole;
  told = told_on old f c (h.front ++ no_memory_line) (then_on (at_start old f) b c h.front no_memory_line h.printed then);
}

-- all that is due was printed, and then that memory was refused
breaks_behind : (old : Option (List ℕ)) (f : ℕ) (b c : Printer) (due : List ℕ) → PrintsOn (at_start old f) b due → PrintsOn b c no_memory_line → BreaksOff old c.given due (RoseWhere f c.faults)
breaks_behind old f b c due h then = record {
  front = due;
  rest = [];
  whole = append-nil due;
  told = told_on old f c (due ++ no_memory_line) (then_on (at_start old f) b c due no_memory_line h then);
}

-- what a run up to a line that is refused has printed
due_to : (C : Config) (text printed : List ℕ) (R : Record) (line rule : ℕ) → IsRefused C zero_seed text R printed line rule → IsDueOf C zero_seed text printed
due_to C text printed R line rule (inl long) = inl long.nothing
due_to C text printed R line rule (inr run) = inr (
  run.fits,
  record {
    front = run.front;
    rest = run.broken ∷ run.rest;
    parts = run.parts;
    lines = run.lines;
    says = run.says;
    printed = printed;
    stage = run.monitored.stage;
    plays = run.monitored.plays;
    last = [];
    next = inl refl;
    due_is = sym (append-nil printed);
  },
)

-- the record that goes with another status than want of memory is the run's
with_record : (C : Config) (text : List ℕ) (old new : Option (List ℕ)) (rose : Bool → Type 0) (R given : Record) (how is : Status) → how ≡ is → (is ≡ status.NoMemory → ⊥) →
    ((how ≡ status.NoMemory → ⊥) → given ≡ R) → Plays C text old new rose R is → Plays C text old new rose given how
with_record C text old new rose R given how is e other same plays = rw (e, same (λ none. other (sym e ∙ none))) plays

-- how a run ends that was broken nowhere
ends_whole : (C : Config) (text printed : List ℕ) (R given : Record) (old new : Option (List ℕ)) (f k : ℕ) (t : Bool) (how : Status) → IsWholeRun C zero_seed text R printed →
    Printed old new printed t → Counted f k t → how ≡ out_status t → ((how ≡ status.NoMemory → ⊥) → given ≡ R) → Plays C text old new (RoseWhere f k) given how
ends_whole C text printed R given old new f k true how run p n e same =
    with_record C text old new (RoseWhere f k) R given how status.OutFault e (λ none. cc) same (n.rose refl, printed, run, p.part)
ends_whole C text printed R given old new f k false how run p n e same =
    with_record C text old new (RoseWhere f k) R given how status.Ok e (λ none. cc) same (printed, run, p.whole refl, n.still refl)

-- how a run ends whose script was played
pub plays_ends : (C : Config) (text : List ℕ) (found : Option Broken) (R given : Record) (old : Option (List ℕ)) (f : ℕ) (b c : Printer) (how : Status) →
    ((printed : List ℕ) × Leaves C zero_seed text found R printed × PrintsOn (at_start old f) b printed) → Ends found b c how →
    ((how ≡ status.NoMemory → ⊥) → given ≡ R) → (how ≡ status.NoMemory → IsEmptyRecord given) → Plays C text old c.given (RoseWhere f c.faults) given how
plays_ends C text None R given old f b c how h e same empty =
    let all : PrintsOn (at_start old f) c (h.0 ++ []) = then_on (at_start old f) b c h.0 [] h.2 e.0 in
    let on : PrintsOn (at_start old f) c h.0 = rw (append-nil h.0) at all in
    ends_whole C text h.0 R given old c.given f c.faults c.stopped how h.1 (printed_first old c.given h.0 c.stopped on.prints) (counted_first f c.faults c.stopped on.counts) e.1 same
plays_ends C text (Some found) R given old f b c how h (inl e) same empty =
    let due : List ℕ = h.0 ++ script_refused found.line (script_rule_number found.rule) in
    let on : PrintsOn (at_start old f) c due = then_on (at_start old f) b c h.0 (script_refused found.line (script_rule_number found.rule)) h.2 e.1 in
    with_record C text old c.given (RoseWhere f c.faults) R given how status.ScriptRefused e.0 (λ none. cc) same (h.0, found.line, script_rule_number found.rule, h.1, told_on old f c due on)
plays_ends C text (Some found) R given old f b c how h (inr e) same empty =
    let there : IsEmptyRecord given = empty e.0 in
    let off : Plays C text old c.given (RoseWhere f c.faults) given status.NoMemory =
    (there, h.0, due_to C text h.0 R found.line (script_rule_number found.rule) h.1, breaks_behind old f b c h.0 h.2 e.1) in
    rw e.0 off

-- how a run ends in which memory was refused
pub plays_off : (C : Config) (text : List ℕ) (R : Record) (old : Option (List ℕ)) (f : ℕ) (b c : Printer) → ((due : List ℕ) × IsDueOf C zero_seed text due × PrintsFront (at_start old f) b due) →
    PrintsOn b c no_memory_line → IsEmptyRecord R → Plays C text old c.given (RoseWhere f c.faults) R status.NoMemory
plays_off C text R old f b c h then empty = (empty, h.0, h.1, breaks_off old f b c h.0 h.2 then)

-- what was read to one byte above the limit is refused as the whole script
refused_whole : (C : Config) (all text printed : List ℕ) (R : Record) (line rule : ℕ) → text ≡ take (LONGEST_SCRIPT + 1) all →
    IsRefused C zero_seed text R printed line rule → IsRefused C zero_seed all R printed line rule
refused_whole C all text printed R line rule e (inl long) =
    inl (record { long = long_text LONGEST_SCRIPT all text e long.long; empty = long.empty; nothing = long.nothing; line_is = long.line_is; rule_is = long.rule_is })
refused_whole C all text printed R line rule e (inr run) =
    let same : text ≡ all = whole_text LONGEST_SCRIPT all text e run.fits in
    rw (← same) (inr run)

whole_whole : (C : Config) (all text printed : List ℕ) (R : Record) → text ≡ take (LONGEST_SCRIPT + 1) all → IsWholeRun C zero_seed text R printed → IsWholeRun C zero_seed all R printed
whole_whole C all text printed R e run =
    let same : text ≡ all = whole_text LONGEST_SCRIPT all text e run.fits in
    rw (← same) run

due_whole : (C : Config) (all text due : List ℕ) → text ≡ take (LONGEST_SCRIPT + 1) all → IsDueOf C zero_seed text due → IsDueOf C zero_seed all due
due_whole C all text due e (inl none) = inl none
due_whole C all text due e (inr h) =
    let same : text ≡ all = whole_text LONGEST_SCRIPT all text e h.0 in
    rw (← same) (inr h)

-- the same of how a run ends
plays_whole : (C : Config) (all text : List ℕ) (old new : Option (List ℕ)) (rose : Bool → Type 0) (R : Record) (how : Status) → text ≡ take (LONGEST_SCRIPT + 1) all →
    Plays C text old new rose R how → Plays C all old new rose R how
plays_whole C all text old new rose R status.Ok e h = (h.0, whole_whole C all text h.0 R e h.1, h.2, h.3)
plays_whole C all text old new rose R status.OutFault e h = (h.0, h.1, whole_whole C all text h.1 R e h.2, h.3)
plays_whole C all text old new rose R status.ScriptRefused e h = (h.0, h.1, h.2, refused_whole C all text h.0 R h.1 h.2 e h.3, h.4)
plays_whole C all text old new rose R status.NoMemory e h = (h.0, h.1, due_whole C all text h.1 e h.2, h.3)
plays_whole C all text old new rose R _ e h = absurd h

plays_files : (a b : Shelf) (config script : List ℕ) (C : Config) (text : List ℕ) (old new : Option (List ℕ)) (rose : Bool → Type 0) (R : Record) (how : Status) →
    GivesConfig (a.held config) C × IsFrontOf (a.held script) (LONGEST_SCRIPT + 1) text × Reads a b (script ∷ config ∷ []) ⊥ → Plays C text old new rose R how →
    PlaysFiles a b config script old new rose R how
plays_files a b config script C text old new rose R how reads h =
    (C, reads.0, reads.1.0, reads.1.1, reads.2, plays_whole C reads.1.0 text old new rose R how reads.1.2 h)

-- a script that was read and played
pub played_by : (a b : Shelf) (config script : List ℕ) (C : Config) (text : List ℕ) (old new : Option (List ℕ)) (rose : Bool → Type 0) (R : Record) (how : Status) →
    GivesConfig (a.held config) C × IsFrontOf (a.held script) (LONGEST_SCRIPT + 1) text × Reads a b (script ∷ config ∷ []) ⊥ → Plays C text old new rose R how →
    Played a b config script old new rose R how
played_by a b config script C text old new rose R status.Ok reads h = plays_files a b config script C text old new rose R status.Ok reads h
played_by a b config script C text old new rose R status.OutFault reads h = plays_files a b config script C text old new rose R status.OutFault reads h
played_by a b config script C text old new rose R status.ScriptRefused reads h = plays_files a b config script C text old new rose R status.ScriptRefused reads h
played_by a b config script C text old new rose R status.NoMemory reads h = inr (plays_files a b config script C text old new rose R status.NoMemory reads h)
played_by a b config script C text old new rose R status.ConfigRefused reads h = absurd h
played_by a b config script C text old new rose R status.ReadFault reads h = absurd h
played_by a b config script C text old new rose R _ reads h = absurd h

-- the same bytes
pub told_as : (old new : Option (List ℕ)) (given due : List ℕ) (rose : Bool → Type 0) → given ≡ due → Told old new given rose → Told old new due rose
told_as old new given due rose e h = subst (λ (t : List ℕ). Told old new t rose) e h

pub prints_as : (a b : Printer) (given due : List ℕ) → given ≡ due → PrintsOn a b given → PrintsOn a b due
prints_as a b given due e h = subst (λ (x : List ℕ). PrintsOn a b x) e h

-- what a listing that was printed answers
lists_at : (C : Config) (old new : Option (List ℕ)) (f g : ℕ) (stopped : Bool) → Printed old new (listing C) stopped → Counted f g stopped → Lists C old new (RoseWhere f g) (out_status stopped)
lists_at C old new f g true p n = (n.rose refl, p.part)
lists_at C old new f g false p n = (p.whole refl, n.still refl)

pub lists_by : (C : Config) (old : Option (List ℕ)) (f : ℕ) (b : Printer) → PrintsOn (at_start old f) b (listing C) → Lists C old b.given (RoseWhere f b.faults) (out_status b.stopped)
lists_by C old f b h = lists_at C old b.given f b.faults b.stopped (printed_first old b.given (listing C) b.stopped h.prints) (counted_first f b.faults b.stopped h.counts)

-- the program's version was told
version_at : (old new : Option (List ℕ)) (f g : ℕ) (stopped : Bool) → Printed old new VERSION.now stopped → Counted f g stopped → TellsVersion old new (RoseWhere f g) (out_status stopped)
version_at old new f g true p n = (n.rose refl, p.part)
version_at old new f g false p n = (p.whole refl, n.still refl)

pub version_by : (old : Option (List ℕ)) (f : ℕ) (b : Printer) → PrintsOn (at_start old f) b VERSION.now → TellsVersion old b.given (RoseWhere f b.faults) (out_status b.stopped)
version_by old f b h = version_at old b.given f b.faults b.stopped (printed_first old b.given VERSION.now b.stopped h.prints) (counted_first f b.faults b.stopped h.counts)

-- the objects that a run was given and gave back
pub over_objects : {A : Type 0} (P : A → A → Type 0) (o p : Option A) (a b x y : A) → o ≡ Some a → p ≡ Some b → o ≡ Some x → p ≡ Some y → P a b → P x y
over_objects P o p a b x y e f h k there =
    let first : a ≡ x = cc in
    let second : b ≡ y = cc in
    subst (λ v. P x v) second (subst (λ u. P u b) first there)

-- the same script
pub plays_as : (C : Config) (given text : List ℕ) (old new : Option (List ℕ)) (rose : Bool → Type 0) (R : Record) (how : Status) → given ≡ text → Plays C given old new rose R how → Plays C text old new rose R how
plays_as C given text old new rose R how e h = subst (λ (t : List ℕ). Plays C t old new rose R how) e h
