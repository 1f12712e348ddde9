-- How what was taken, done and told becomes a step.
use Rattle.std.proofs.Common.{◌≡◌, ◌≤◌, ◌<◌, ℕ, List, [], ◌∷◌, ◌++◌, None, length, refl, sym, ap, ◌∙◌, subst, arith, append_assoc, inl, inr}
use Rattle.std.specs.declared.option.Option.{Option}
use Rattle.std.specs.Io.KnownBytes.{Appends, Consumes}
use Rattle.std.specs.Str.Lines.{strip_carriage_return}
use Rattle.std.proofs.KnownBytes.{Consumes-trans}
use Rattle.okws_plan.specs.declared.configuration.Config.{Config}
use Rattle.okws_outer.specs.Streams.{Rose, AppendsPrefix}
use Rattle.okws_outer.specs.Conns.{ConnWire}
use Rattle.admin_console.specs.Orders.{order_of}
use Rattle.admin_console.specs.Answers.{answer_text}
use Rattle.admin_console.specs.Reading.{TakesCommand, ended}
use Rattle.admin_console.specs.Steps.{CarriesOut, Command, Does, Tells, Steps, IsCut, IsDone, size_said}
use Rattle.admin_console.specs.declared.reader.Taken.TheVariants as taken
use Rattle.admin_console.specs.declared.order.Order.{Order}
use Rattle.admin_console.specs.declared.answer.Answer.{Answer}
use Rattle.admin_console.specs.declared.controls.Publishing.{Publishing}
use Rattle.admin_console.specs.declared.controls.Relaunching.{Relaunching}
use Rattle.admin_console.specs.declared.controls.Status.{Status}
use Rattle.admin_console.specs.declared.step.Stepped.{Stepped}
use Rattle.admin_console.specs.declared.step.Stepped.TheVariants.{Answered, Finished, Stop, ConsoleFault}
use Rattle.admin_console.specs.declared.step.Done.TheVariants as done
use Rattle.admin_console.proofs.Lines.{order_held}

joined : (front text bytes : List ℕ) → (front ++ (text ++ 10 ∷ [])) ++ bytes ≡ front ++ (text ++ 10 ∷ bytes)
joined front text bytes = append_assoc front (text ++ 10 ∷ []) bytes ∙ ap (λ (t : List ℕ). front ++ t) (append_assoc text (10 ∷ []) bytes)

rose_later : (a b c : ℕ) → a ≤ b → Rose b c → Rose a c
rose_later a b c le rose = omega (arith, rose)

-- a line and the bytes behind it are a command
commanded : (start mid old new : ConnWire) (before after : ℕ) (held bytes : List ℕ) (t : TakesCommand start mid before after held taken.Line) → Consumes mid.left old.left bytes → new.left ≡ old.left → Command start new before after (strip_carriage_return t.text) bytes
commanded start mid old new before after held bytes t taken same =
    let all : Consumes start.left old.left (ended t.blanks ++ (t.text ++ 10 ∷ bytes)) =
    subst (λ (b : List ℕ). Consumes start.left old.left b) (joined (ended t.blanks) t.text bytes) (Consumes-trans start.left mid.left old.left (ended t.blanks ++ (t.text ++ 10 ∷ [])) bytes t.ends.0 taken) in
    record {
      blanks = t.blanks;
      text = t.text;
      are_blank = t.are_blank;
      plain = t.plain;
      filled = t.ends.1;
      line_is = refl;
      taken_are = subst (λ (left : Option (List ℕ)). Consumes start.left left (ended t.blanks ++ (t.text ++ 10 ∷ bytes))) (sym same) all;
      count = t.count;
    }

-- what the held bytes say is what the line says
said : (C : Config) (start mid : ConnWire) (before after : ℕ) (held : List ℕ) (command : Order) (t : TakesCommand start mid before after held taken.Line) → command ≡ order_of C (strip_carriage_return held) → command ≡ order_of C (strip_carriage_return t.text)
said C start mid before after held command t is = is ∙ ap (λ (h : List ℕ). order_of C (strip_carriage_return h)) t.held_is ∙ order_held C t.text

module _ (S : Type 0) (publishes : S → ℕ → List ℕ → Publishing → S → Type 0) (relaunches : S → ℕ → Relaunching → S → Type 0) (surveys : S → Status → S → Type 0) (C : Config) where
  did : (start mid old new : ConnWire) (before after : ℕ) (held : List ℕ) (command : Order) (J now : S) (a : Answer) → TakesCommand start mid before after held taken.Line → command ≡ order_of C (strip_carriage_return held)
      → CarriesOut publishes relaunches surveys mid old after command J now (done.Answered a) → new.left ≡ old.left → Does publishes relaunches surveys C start new before after J now a
  did start mid old new before after held command J now a t is carried same =
      let order_is : command ≡ order_of C (strip_carriage_return t.text) = said C start mid before after held command t is in
      let first = subst (λ (o : Order). IsDone publishes relaunches surveys after o carried.bytes old.left J a now) order_is carried.is in
      record {
        line = strip_carriage_return t.text;
        bytes = carried.bytes;
        command = commanded start mid old new before after held carried.bytes t carried.taken_are same;
        is = subst (λ (left : Option (List ℕ)). IsDone publishes relaunches surveys after (order_of C (strip_carriage_return t.text)) carried.bytes left J a now) (sym same) first;
      }

  pub told : (start mid old new : ConnWire) (before after : ℕ) (held : List ℕ) (command : Order) (J now : S) (a : Answer) (what : Stepped) → TakesCommand start mid before after held taken.Line → command ≡ order_of C (strip_carriage_return held)
      → CarriesOut publishes relaunches surveys mid old after command J now (done.Answered a) → Tells old new a what → Steps publishes relaunches surveys C start new before after J now what
  told start mid old new before after held command J now a (Answered b) t is carried tells =
      let same : old.given ≡ start.given = carried.given ∙ t.given in
      let done = did start mid old new before after held command J now a t is carried tells.left in
      let given = subst (λ (g : Option (List ℕ)). Appends g new.given (answer_text a)) same tells.told.1 in
      subst (λ (x : Answer). Does publishes relaunches surveys C start new before after J now x × Appends start.given new.given (answer_text x) × (new.faults ≡ start.faults)) (sym tells.told.0) (done, given, tells.told.2 ∙ carried.still (λ e. cc) ∙ t.still (λ e. cc))
  told start mid old new before after held command J now a (ConsoleFault b) t is carried tells =
      let same : old.given ≡ start.given = carried.given ∙ t.given in
      let done = did start mid old new before after held command J now a t is carried tells.left in
      let given = subst (λ (g : Option (List ℕ)). AppendsPrefix g new.given (answer_text a)) same tells.told.1 in
      let later : start.faults ≤ old.faults = omega (arith, t.later, carried.later) in
      let rose : Rose start.faults new.faults = rose_later start.faults old.faults new.faults later tells.told.2 in
      subst (λ (x : Option Answer). Steps publishes relaunches surveys C start new before after J now (ConsoleFault x)) (sym tells.told.0) (done, given, rose)
  told start mid old new before after held command J now a Finished t is carried tells = absurd tells.told
  told start mid old new before after held command J now a Stop t is carried tells = absurd tells.told

  pub ends : (start mid new : ConnWire) (before after : ℕ) (held : List ℕ) (command : Order) (J now : S) → TakesCommand start mid before after held taken.Line → command ≡ order_of C (strip_carriage_return held)
      → CarriesOut publishes relaunches surveys mid new after command J now done.Ends → Steps publishes relaunches surveys C start new before after J now Finished
  ends start mid new before after held command J now t is carried =
      let command_is = commanded start mid new new before after held [] t (subst (λ (b : List ℕ). Consumes mid.left new.left b) carried.is.1 carried.taken_are) refl in
      let order_is = sym (said C start mid before after held command t is) ∙ carried.is.0 in
      (inl (strip_carriage_return t.text, command_is, order_is), carried.given ∙ t.given, carried.is.2, carried.still (λ e. cc) ∙ t.still (λ e. cc))

  pub stops : (start mid new : ConnWire) (before after : ℕ) (held : List ℕ) (command : Order) (J now : S) → TakesCommand start mid before after held taken.Line → command ≡ order_of C (strip_carriage_return held)
      → CarriesOut publishes relaunches surveys mid new after command J now done.Stops → Steps publishes relaunches surveys C start new before after J now Stop
  stops start mid new before after held command J now t is carried =
      let command_is = commanded start mid new new before after held [] t (subst (λ (b : List ℕ). Consumes mid.left new.left b) carried.is.1 carried.taken_are) refl in
      let order_is = sym (said C start mid before after held command t is) ∙ carried.is.0 in
      ((strip_carriage_return t.text, command_is, order_is), carried.given ∙ t.given, carried.is.2, carried.still (λ e. cc) ∙ t.still (λ e. cc))

  pub fails : (start mid new : ConnWire) (before after : ℕ) (held : List ℕ) (command : Order) (J now : S) → TakesCommand start mid before after held taken.Line → command ≡ order_of C (strip_carriage_return held)
      → CarriesOut publishes relaunches surveys mid new after command J now done.Failed → Steps publishes relaunches surveys C start new before after J now (ConsoleFault None)
  fails start mid new before after held command J now t is carried =
      let rose : Rose mid.faults new.faults = carried.is.2 in
      let taken : List ℕ = ended t.blanks ++ (t.text ++ 10 ∷ carried.bytes) in
      let all : Consumes start.left new.left taken =
      subst (λ (b : List ℕ). Consumes start.left new.left b) (joined (ended t.blanks) t.text carried.bytes)
      (Consumes-trans start.left mid.left new.left (ended t.blanks ++ (t.text ++ 10 ∷ [])) carried.bytes t.ends.0 carried.taken_are) in
      let fewer : length carried.bytes < size_said (order_of C (strip_carriage_return t.text))
      = subst (λ (o : Order). length carried.bytes < size_said o) (said C start mid before after held command t is) carried.is.1 in
      let cut : IsCut C taken = record { blanks = t.blanks; text = t.text; are_blank = t.are_blank; plain = t.plain; cut = inr (carried.bytes, refl, fewer) } in
      (taken, all, carried.given ∙ t.given, carried.is.0, rose_later start.faults mid.faults new.faults t.later rose, cut, inr (carried.bytes, refl, t.count))

  -- the console ended before a line did
  pub runs_out : (start new : ConnWire) (before after : ℕ) (held : List ℕ) (J : S) → TakesCommand start new before after held taken.Ended → Steps publishes relaunches surveys C start new before after J J Finished
  runs_out start new before after held J t = (
    inr (record { blanks = t.blanks; rest = t.text; are_blank = t.are_blank; plain = t.plain; taken_are = t.ends.0; none_left = t.ends.1; count = t.count }),
    t.given,
    refl,
    t.still (λ e. cc),
  )

  -- the console failed before a line was whole
  pub cut_off : (start new : ConnWire) (before after : ℕ) (held : List ℕ) (J : S) → TakesCommand start new before after held taken.Failed → Steps publishes relaunches surveys C start new before after J J (ConsoleFault None)
  cut_off start new before after held J t =
      let cut : IsCut C (ended t.blanks ++ t.text) = record { blanks = t.blanks; text = t.text; are_blank = t.are_blank; plain = t.plain; cut = inl refl } in
      (ended t.blanks ++ t.text, t.ends.0, t.given, refl, t.ends.1, cut, inl (refl, t.count))
