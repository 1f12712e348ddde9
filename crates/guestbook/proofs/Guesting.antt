-- How rounds follow on one another.
use Rattle.std.proofs.Common.{◌≡◌, ◌≤◌, ℕ, List, [], ◌∷◌, ◌++◌, length, refl, sym, ap, subst, ◌∙◌, arith, inl, inr, append-nil}
use Rattle.std.specs.Prelude.{option_to_list, option_and_then, option_map}
use Rattle.std.specs.declared.option.Option.{Option}
use Rattle.std.specs.declared.option.Option.TheVariants.{Some, None}
use Rattle.std.specs.declared.result.Result.{Result}
use Rattle.std.specs.declared.result.Result.TheVariants.{Ok, Err}
use Rattle.std.specs.Io.KnownBytes.{Consumes, Appends}
use Rattle.std.proofs.KnownBytes.{Consumes-nil, Consumes-trans, Consumes-kept, Appends-nil, Appends-trans}
use Rattle.std.proofs.lemmas.Grind.{flat_map-append}
use Rattle.std.proofs.Math.Seq.{take-length}
use Rattle.okws_outer.specs.Streams.{AppendsPrefix, Rose}
use Rattle.okws_outer.specs.Wire.{Wire}
use Rattle.okws_outer.proofs.Given.{prefix_after}
use Rattle.frame_codec.specs.declared.frame.ServiceFrame.{ServiceFrame}
use Rattle.frame_codec.specs.declared.frame.ServerFrame.{ServerFrame}
use Rattle.frame_codec.specs.Spelling.{service_spelling, ServiceHasSpelling}
use Rattle.svc_kit.specs.Asking.{IsHeard, IsUnjudged, Says}
use Rattle.svc_kit.specs.declared.stop.Stop.{Stop}
use Rattle.svc_kit.specs.declared.stop.Stop.TheVariants.{Ended, BadFrame, LinkFault, Unlooked, Unsayable, NoMemory}
use Rattle.guestbook.specs.declared.book.Guestbook.{Guestbook}
use Rattle.guestbook.specs.Book.{Turn, Step, Told, told, turn, hears, goes_on, blank, book_of}
use Rattle.guestbook.specs.Guest.{stream, spoken, IsHearing, SaysAny, Round, Rounds, HasRun, Guests}

-- the guestbook is what is told
pub record Knows (book : Guestbook) (now : Told) : Type 0 where
  pub book_is : now.book ≡ book_of book
  pub awaits_is : now.awaits ≡ book.awaits

-- ---- the bytes

appends_same : (a b c : Option (List ℕ)) (bs : List ℕ) → Appends a b bs → c ≡ b → Appends a c bs
appends_same a b c bs p is = subst (λ (x : Option (List ℕ)). Appends a x bs) (sym is) p

consumes_same : (a b c : Option (List ℕ)) (bs : List ℕ) → Consumes a b bs → c ≡ b → Consumes a c bs
consumes_same a b c bs p is = subst (λ (x : Option (List ℕ)). Consumes a x bs) (sym is) p

any_left : (mid new : Wire) (says : Option ServiceFrame) → SaysAny mid says new → new.left ≡ mid.left
any_left mid new None said = ap (λ (w : Wire). w.left) said
any_left mid new (Some frame) said = said.left

any_given : (mid new : Wire) (says : Option ServiceFrame) → SaysAny mid says new → Appends mid.given new.given (spoken (option_to_list says))
any_given mid new None said = appends_same mid.given mid.given new.given [] (Appends-nil mid.given) (ap (λ (w : Wire). w.given) said)
any_given mid new (Some frame) said = subst (λ (t : List ℕ). Appends mid.given new.given t) (sym (append-nil (service_spelling frame))) said.puts.1

any_faults : (mid new : Wire) (says : Option ServiceFrame) → SaysAny mid says new → new.faults ≡ mid.faults
any_faults mid new None said = ap (λ (w : Wire). w.faults) said
any_faults mid new (Some frame) said = said.still (λ is. cc)

prefix_of : (old new : Option (List ℕ)) (bs : List ℕ) → Appends old new bs → AppendsPrefix old new bs
prefix_of old new bs p = record { taken = length bs; within = omega arith; given = subst (λ (t : List ℕ). Appends old new t) (sym (take-length bs)) p }

-- ---- a frame was heard

heard_more : (start mid new : Wire) (frames : List ServerFrame) (now : Told) (frame : ServerFrame) → HasRun start frames now mid → IsHeard mid (Ok frame) new → Consumes start.left new.left (stream (frame ∷ frames))
heard_more start mid new frames now frame run hears =
    subst (λ (t : List ℕ). Consumes start.left new.left (stream frames ++ t)) hears.takes.1.spelled (Consumes-trans start.left mid.left new.left (stream frames) hears.takes.0 run.took hears.takes.2)

told_more : (frames : List ServerFrame) (now : Told) (frame : ServerFrame) (book : Guestbook) (step : Step) → told frames ≡ Some now → Knows book now → turn book.awaits (book_of book) frame ≡ Some step
    → told (frame ∷ frames) ≡ Some (goes_on now.said step)
told_more frames now frame book step is knows due =
    ap (λ (t : Option Told). option_and_then (hears frame) t) is
    ∙ ap (λ b. option_map (goes_on now.said) (turn now.awaits b frame)) knows.book_is
    ∙ ap (λ a. option_map (goes_on now.said) (turn a (book_of book) frame)) knows.awaits_is
    ∙ ap (λ (t : Turn). option_map (goes_on now.said) t) due

spoken_more : (said : List ServiceFrame) (says : Option ServiceFrame) → spoken (said ++ option_to_list says) ≡ spoken said ++ spoken (option_to_list says)
spoken_more said says = flat_map-append service_spelling said (option_to_list says)

-- ---- rounds

pub first_run : (wire : Wire) (book : Guestbook) → HasRun wire [] blank wire
first_run wire book = record { is = refl; spelled = tt; took = Consumes-nil wire.left; gave = Appends-nil wire.given; faults = refl }

pub record Runs (start : Wire) (book : Guestbook) (new : Wire) : Type 0 where
  pub frames : List ServerFrame
  pub now : Told
  pub run : HasRun start frames now new
  pub knows : Knows book now

pub next_run : (start mid new : Wire) (book later : Guestbook) → Runs start book mid → Round book mid later new → Runs start later new
next_run start mid new book later before round =
    let run = before.run in
    let step : Step = record { book = book_of later; awaits = later.awaits; says = round.says } in
    record {
      frames = round.frame ∷ before.frames;
      now = goes_on before.now.said step;
      run = record {
        is = told_more before.frames before.now round.frame book step run.is before.knows round.due;
        spelled = ((round.hears.takes.1.fits, round.hears.takes.1.lawful), run.spelled);
        took = consumes_same start.left round.mid.left new.left _ (heard_more start mid round.mid before.frames before.now round.frame run round.hears) (any_left round.mid new round.says round.said);
        gave = subst (λ (t : List ℕ). Appends start.given new.given t) (sym (spoken_more before.now.said round.says))
            (Appends-trans start.given round.mid.given new.given _ _ (appends_same start.given mid.given round.mid.given _ run.gave round.hears.given) (any_given round.mid new round.says round.said));
        faults = any_faults round.mid new round.says round.said ∙ (round.hears.still (λ is. cc) ∙ run.faults);
      };
      knows = record { book_is = refl; awaits_is = refl };
    }

-- ---- ends

plus_nothing : (a b : Option (List ℕ)) (bs : List ℕ) → Consumes a b bs → Consumes a b (bs ++ [])
plus_nothing a b bs p = subst (λ (t : List ℕ). Consumes a b t) (sym (append-nil bs)) p

rose_later : (a b c : ℕ) → a ≤ b → Rose b c → Rose a c
rose_later a b c le rose = omega (arith, rose)

pub stops : (start mid new : Wire) (book later : Guestbook) (stop : Stop) → Runs start book mid → Rounds book mid (Err stop) later new → Guests start stop new
stops start mid new book later Ended before round = record {
  frames = before.frames;
  now = before.now;
  since = [];
  is = before.run.is;
  spelled = before.run.spelled;
  took = plus_nothing start.left new.left _ (Consumes-kept start.left mid.left new.left _ before.run.took round.takes.0);
  stopped = (refl, round.takes.1);
  gave = appends_same start.given mid.given new.given _ before.run.gave round.given;
  faults = record { later = omega (arith, before.run.faults, round.faults.later); cause = λ is. absurd (cc) };
  still = λ other. round.still (λ is. cc) ∙ before.run.faults;
}
stops start mid new book later BadFrame before round = record {
  frames = before.frames;
  now = before.now;
  since = round.takes.0;
  is = before.run.is;
  spelled = before.run.spelled;
  took = Consumes-trans start.left mid.left new.left _ _ before.run.took round.takes.2;
  stopped = (round.takes.1, round.takes.3, round.takes.4);
  gave = appends_same start.given mid.given new.given _ before.run.gave round.given;
  faults = record { later = omega (arith, before.run.faults, round.faults.later); cause = λ is. absurd (cc) };
  still = λ other. round.still (λ is. cc) ∙ before.run.faults;
}
stops start mid new book later (Unlooked frame) before round = record {
  frames = before.frames;
  now = before.now;
  since = round.0.takes.0;
  is = before.run.is;
  spelled = before.run.spelled;
  took = Consumes-trans start.left mid.left new.left _ _ before.run.took round.0.takes.2;
  stopped = (round.0.takes.1, ap (λ b. option_map (goes_on before.now.said) (turn before.now.awaits b frame)) before.knows.book_is ∙ ap (λ a. option_map (goes_on before.now.said) (turn a (book_of book) frame)) before.knows.awaits_is ∙ ap (λ (t : Turn). option_map (goes_on before.now.said) t) round.1);
  gave = appends_same start.given mid.given new.given _ before.run.gave round.0.given;
  faults = record { later = omega (arith, before.run.faults, round.0.faults.later); cause = λ is. absurd (cc) };
  still = λ other. round.0.still (λ is. cc) ∙ before.run.faults;
}
stops start mid new book later NoMemory before (inl heard) = record {
  frames = before.frames;
  now = before.now;
  since = heard.takes.0;
  is = before.run.is;
  spelled = before.run.spelled;
  took = Consumes-trans start.left mid.left new.left _ _ before.run.took heard.takes.1;
  stopped = tt;
  gave = prefix_of start.given new.given _ (appends_same start.given mid.given new.given _ before.run.gave heard.given);
  faults = record { later = omega (arith, before.run.faults, heard.faults.later); cause = λ is. absurd (cc) };
  still = λ other. heard.still (λ is. cc) ∙ before.run.faults;
}
stops start mid new book later NoMemory before (inr (frame, heard)) = record {
  frames = before.frames;
  now = before.now;
  since = heard.takes.0;
  is = before.run.is;
  spelled = before.run.spelled;
  took = Consumes-trans start.left mid.left new.left _ _ before.run.took heard.takes.2;
  stopped = tt;
  gave = prefix_of start.given new.given _ (appends_same start.given mid.given new.given _ before.run.gave heard.given);
  faults = record { later = omega (arith, before.run.faults, heard.faults.later); cause = λ is. absurd (cc) };
  still = λ other. heard.still (λ is. cc) ∙ before.run.faults;
}
stops start mid new book later LinkFault before (inl heard) = record {
  frames = before.frames;
  now = before.now;
  since = heard.takes.0;
  is = before.run.is;
  spelled = before.run.spelled;
  took = Consumes-trans start.left mid.left new.left _ _ before.run.took heard.takes.1;
  stopped = tt;
  gave = prefix_of start.given new.given _ (appends_same start.given mid.given new.given _ before.run.gave heard.given);
  faults = record { later = omega (arith, before.run.faults, heard.faults.later); cause = λ is. rose_later start.faults mid.faults new.faults (omega (arith, before.run.faults)) (heard.faults.cause refl) };
  still = λ other. absurd (other refl);
}
stops start mid new book later LinkFault before (inr fails) =
    let run = before.run in
    let rose : start.faults ≤ fails.mid.faults = omega (arith, run.faults, fails.hears.faults.later) in
    record {
      frames = fails.frame ∷ before.frames;
      now = goes_on before.now.said fails.step;
      since = [];
      is = told_more before.frames before.now fails.frame book fails.step run.is before.knows fails.due;
      spelled = ((fails.hears.takes.1.fits, fails.hears.takes.1.lawful), run.spelled);
      took = plus_nothing start.left new.left _ (consumes_same start.left fails.mid.left new.left _ (heard_more start mid fails.mid before.frames before.now fails.frame run fails.hears) fails.said.left);
      stopped = tt;
      gave = subst (λ (says : Option ServiceFrame). AppendsPrefix start.given new.given (spoken (before.now.said ++ option_to_list says))) (sym fails.is)
          (subst (λ (t : List ℕ). AppendsPrefix start.given new.given t) (sym (spoken_more before.now.said (Some fails.says) ∙ ap (λ (t : List ℕ). spoken before.now.said ++ t) (append-nil (service_spelling fails.says))))
          (prefix_after start.given fails.mid.given new.given _ _ (appends_same start.given mid.given fails.mid.given _ run.gave fails.hears.given) fails.said.puts.1));
      faults = record { later = omega (arith, rose, fails.said.faults.later); cause = λ is. rose_later start.faults fails.mid.faults new.faults rose (fails.said.faults.cause refl) };
      still = λ other. absurd (other refl);
    }
stops start mid new book later Unsayable before round = absurd round

-- ---- one round

pub unheard : (book now : Guestbook) (old new : Wire) (stop : Stop) → IsHeard old (Err stop) new → IsUnjudged (Err stop) → Rounds book old (Err stop) now new
unheard book now old new Ended hears unjudged = hears
unheard book now old new BadFrame hears unjudged = hears
unheard book now old new LinkFault hears unjudged = inl hears
unheard book now old new NoMemory hears unjudged = inl hears
unheard book now old new (Unlooked frame) hears unjudged = absurd unjudged
unheard book now old new Unsayable hears unjudged = absurd hears.takes
