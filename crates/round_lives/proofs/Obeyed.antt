-- What a worker that oversees a console carries out comes of what is ordered there.
use Rattle.std.proofs.Common.{◌≡◌, inl, inr, ℕ, ◌<◌, Bool, true, false, List, [], ◌∷◌, ◌++◌, length, map, reverse, filter_map, option_map, if◌then◌else◌, refl, sym, ap, ◌∙◌, subst, append-nil, eq-eqb, ne_eqb, arith}
use Rattle.std.proofs.lemmas.Bool.{true≢false}
use Rattle.std.specs.List.{cons_option, list_any}
use Rattle.std.specs.Prelude.{◌||◌, Some, None, is_some}
use Rattle.std.specs.declared.option.Option.{Option}
use Rattle.std.specs.Io.KnownBytes.{Appends}
use Rattle.okws_plan.specs.declared.configuration.Config.{Config}
use Rattle.okws_plan.specs.declared.event.LauncherEvent.{LauncherEvent}
use Rattle.okws_plan.specs.declared.event.LauncherEvent.TheVariants as event
use Rattle.okws_outer.specs.Conns.{ConnWire}
use Rattle.okws_outer.specs.Streams.{AppendsPrefix}
use Rattle.monitor_model.specs.Outside.{Order, Publishes as Publication, Relaunches as Relaunch, Became, Obeyed, Ordered, come_of, item_order}
use Rattle.monitor_model.specs.Worker.{Piece, Launched, Wants}
use Rattle.worker_lives.specs.Listing.{first_item}
use Rattle.admin_console.specs.Answers.{answer_text, publishing_answer, relaunching_answer}
use Rattle.admin_console.specs.Orders.{order_of}
use Rattle.admin_console.specs.Steps.{Does, IsDone}
use Rattle.admin_console.specs.declared.answer.Answer.{Answer}
use Rattle.admin_console.specs.declared.controls.Publishing.{Publishing}
use Rattle.admin_console.specs.declared.controls.Publishing.TheVariants as publishing
use Rattle.admin_console.specs.declared.controls.Relaunching.{Relaunching}
use Rattle.admin_console.specs.declared.order.Order.{Order as Said}
use Rattle.admin_console.specs.declared.order.Order.TheVariants as said
use Rattle.admin_console.specs.declared.step.Stepped.{Stepped}
use Rattle.admin_console.specs.declared.step.Stepped.TheVariants as stepped
use Rattle.okld_launch.specs.declared.answer.Launched.{Launched as Launch}
use Rattle.site_worker.specs.Commands.{Commands, Oversees, StepsAt, ends_by}
use Rattle.site_worker.specs.Launching.{Asks, launch_starved}
use Rattle.site_worker.specs.Lives.{Life}
use Rattle.site_worker.specs.Steering.{Publishes, Relaunches, Surveys, told_of}
use Rattle.site_worker.specs.declared.console.Overseen.{Overseen}
use Rattle.site_worker.specs.declared.console.Overseen.TheVariants as overseen
use Rattle.round_lives.specs.Laws.{is_accepted, is_order}
use Rattle.round_lives.specs.Living.{IsOf, LivesOn}
use Rattle.round_lives.specs.Orders.{AreAnswered, AreBehind, EndsBehind, Reads, Steers, Taken, Takes, became_of, carried_out, order_by, order_in, orders_in}
use Rattle.round_lives.proofs.Awaited.{with_wants}
use Rattle.round_lives.proofs.Coming.{come_then, comes_alone, filter_map-both, filter_map-reverse}
use Rattle.round_lives.proofs.Entered.{BeginsWithAsked, Behind, asked_entered, is_asked}
use Rattle.round_lives.proofs.Stepped.{asks_lives, asks_lives_by, lives_then, lives_then_by, publishes_lives, publishes_lives_by, same_lives, sees_lives, starves_lives, surveys_lives, unasked_pieces}

-- ---- pieces that carry nothing out

-- the order that a piece carries out, if it does
abbrev order_of_piece : Piece → Option Order
order_of_piece piece = item_order (first_item piece)

-- neither an Accept nor an order
abbrev is_busy : Piece → Bool
is_busy piece = is_accepted piece || is_order piece

some_none : {X : Type 0} (o : Option X) → is_some o ≡ false → o ≡ None
some_none None h = refl
some_none (Some x) h = absurd (true≢false h)

neither : (a b : Bool) → (a || b) ≡ false → (a ≡ false) × (b ≡ false)
neither true b h = absurd (true≢false h)
neither false b h = (refl, h)

none_filtered : (pieces : List Piece) → list_any is_order pieces ≡ false → filter_map order_of_piece pieces ≡ []
none_filtered [] h = refl
none_filtered (piece ∷ pieces) h =
    let both = neither (is_order piece) (list_any is_order pieces) h in
    ap (λ (o : Option Order). cons_option o (filter_map order_of_piece pieces)) (some_none (order_of_piece piece) both.0) ∙ none_filtered pieces both.1

pub nothing_carried : (pieces : List Piece) → list_any is_order pieces ≡ false → carried_out pieces ≡ []
nothing_carried pieces h = filter_map-reverse order_of_piece pieces ∙ ap reverse (none_filtered pieces h)

unaccepted : (pieces : List Piece) → list_any is_busy pieces ≡ false → list_any is_accepted pieces ≡ false
unaccepted [] h = refl
unaccepted (piece ∷ pieces) h =
    let both = neither (is_busy piece) (list_any is_busy pieces) h in
    rw ((neither (is_accepted piece) (is_order piece) both.0).0) (unaccepted pieces both.1)

unordered : (pieces : List Piece) → list_any is_busy pieces ≡ false → list_any is_order pieces ≡ false
unordered [] h = refl
unordered (piece ∷ pieces) h =
    let both = neither (is_busy piece) (list_any is_busy pieces) h in
    rw ((neither (is_accepted piece) (is_order piece) both.0).1) (unordered pieces both.1)

-- ---- a worker's steps

module _ (C : Config) (w : ℕ) where
  idles : (orders : List Ordered) (J K : Life) → come_of false orders [] ≡ true → LivesOn C w is_busy J K → Steers C w orders J K
  idles orders J K none lives = record {
    lives = record { pieces = lives.pieces; goes = lives.goes; same = lives.same; told = lives.told; allowed = unaccepted lives.pieces lives.allowed; ends = lives.ends; leads = lives.leads };
    comes = subst (λ (done : List Order). come_of false orders done ≡ true) (sym (nothing_carried lives.pieces (unordered lives.pieces lives.allowed))) none;
  }

  steers_then : (orders later : List Ordered) (I J K : Life) → Steers C w orders I J → Steers C w later J K → Steers C w (orders ++ later) I K
  steers_then orders later I J K i j = record {
    lives = lives_then C w is_accepted I J K i.lives j.lives;
    comes = subst (λ (done : List Order). come_of false (orders ++ later) done ≡ true)
        (sym (ap carried_out (lives_then_by C w is_accepted I J K i.lives j.lives) ∙ filter_map-both order_of_piece i.lives.pieces j.lives.pieces))
        (come_then orders later (carried_out i.lives.pieces) (carried_out j.lives.pieces) i.comes j.comes);
  }

  same_steers : (orders : List Ordered) (J K : Life) → come_of false orders [] ≡ true → IsOf w J → K ≡ J → Steers C w orders J K
  same_steers orders J K none of is = idles orders J K none (same_lives C w is_busy J K of is)

  -- ---- a publication

  publishes_steers : (J : Life) (t line : ℕ) (content : List ℕ) (p : Publishing) (K : Life) → IsOf w J → Publishes J t content p K
      → Steers C w (record { order = Publication t content; became = became_of (publishing_answer line p) } ∷ []) J K
  publishes_steers J t line content (publishing.Edition n) K of h = record {
    lives = publishes_lives C w is_accepted J K t content h.0 refl of h.2 h.3;
    comes = subst (λ (pieces : List Piece). come_of false (record { order = Publication t content; became = Obeyed } ∷ []) (carried_out pieces) ≡ true)
        (sym (publishes_lives_by C w is_accepted J K t content h.0 refl of h.2 h.3)) (comes_alone (Publication t content) Obeyed (λ never. let no : ⊥ = cc in absurd no));
  }
  publishes_steers J t line content publishing.EditionsSpent K of h = idles _ J K refl (sees_lives C w is_busy J K of h.1)
  publishes_steers J t line content publishing.NoMemory K of (inl h) = idles _ J K refl (starves_lives C w is_busy J K refl of h)
  publishes_steers J t line content publishing.NoMemory K of (inr h) = same_steers _ J K refl of h

  -- ---- a relaunch

  -- what a relaunch entered, where it was asked for
  asked_comes : (s : ℕ) (became : Became) (events : List LauncherEvent) → Behind (event.Asked s) events → come_of false (record { order = Relaunch s; became = became } ∷ []) (carried_out (map Launched events)) ≡ true
  asked_comes s became events b = subst (λ (xs : List LauncherEvent). come_of false orders (carried_out (map Launched xs)) ≡ true) (sym b.is)
      (subst (λ (done : List Order). come_of false orders done ≡ true) (sym (done_are b.more b.unasked)) (comes_alone (Relaunch s) became (λ is. refl)))
    where
      orders : List Ordered
      orders = record { order = Relaunch s; became = became } ∷ []

      map_push : (more : List LauncherEvent) → map Launched (more ++ event.Asked s ∷ []) ≡ map Launched more ++ Launched (event.Asked s) ∷ []
      map_push [] = refl
      map_push (e ∷ more) = ap (λ (rest : List Piece). Launched e ∷ rest) (map_push more)

      done_are : (more : List LauncherEvent) → list_any is_asked more ≡ false → carried_out (map Launched (more ++ event.Asked s ∷ [])) ≡ Relaunch s ∷ []
      done_are more unasked =
          ap carried_out (map_push more) ∙ filter_map-both order_of_piece (Launched (event.Asked s) ∷ []) (map Launched more)
          ∙ ap (λ (done : List Order). Relaunch s ∷ done) (nothing_carried (map Launched more) (unasked_pieces more unasked))

  -- want of memory carries out nothing
  carried_where : (starved : Bool) (pieces : List Piece) → carried_out (with_wants starved pieces) ≡ carried_out pieces
  carried_where true pieces = filter_map-both order_of_piece pieces (Wants ∷ []) ∙ append-nil (carried_out pieces)
  carried_where false pieces = refl

  -- what a launch that was asked for entered comes of the order
  launch_comes : (s line : ℕ) (answer : Launch) (events : List LauncherEvent) → BeginsWithAsked s events answer
      → come_of false (record { order = Relaunch s; became = became_of (relaunching_answer line (told_of answer)) } ∷ []) (carried_out (map Launched events)) ≡ true
  launch_comes s line answer events (inr h) = asked_comes s (became_of (relaunching_answer line (told_of answer))) events h
  launch_comes s line answer events (inl (inl starved, none)) = rw (starved, none) refl
  launch_comes s line answer events (inl (inr spent, none)) = rw (spent, none) refl

  asks_steers : (s line : ℕ) (answer : Launch) (J K : Life) → IsOf w J → Asks C s answer J K → Steers C w (record { order = Relaunch s; became = became_of (relaunching_answer line (told_of answer)) } ∷ []) J K
  asks_steers s line answer J K of h =
      let t = h.relaunches in
      let orders : List Ordered = record { order = Relaunch s; became = became_of (relaunching_answer line (told_of answer)) } ∷ [] in
      let entered : BeginsWithAsked s h.events answer = asked_entered C J.launcher.number s t.before.journal.past t.before.crew.family h.events answer t.after t.turn.enters t.goes in
      record {
        lives = asks_lives C w s answer J K of h;
        comes = subst (λ (done : List Order). come_of false orders done ≡ true)
            (sym (ap carried_out (asks_lives_by C w s answer J K of h) ∙ carried_where (launch_starved answer) (map Launched h.events))) (launch_comes s line answer h.events entered);
      }

  relaunches_steers : (s line : ℕ) (r : Relaunching) (J K : Life) → IsOf w J → Relaunches C J s r K → Steers C w (record { order = Relaunch s; became = became_of (relaunching_answer line r) } ∷ []) J K
  relaunches_steers s line r J K of (inl h) =
      subst (λ (x : Relaunching). Steers C w (record { order = Relaunch s; became = became_of (relaunching_answer line x) } ∷ []) J K) (sym h.1) (asks_steers s line h.0 J K of h.2)
  relaunches_steers s line r J K of (inr h) =
      subst (λ (x : Relaunching). Steers C w (record { order = Relaunch s; became = became_of (relaunching_answer line x) } ∷ []) J K) (sym h.0) (same_steers _ J K refl of h.1)

  -- ---- a command

  -- the orders of a command whose line says this
  abbrev orders_by : Said → Taken → List Ordered
  orders_by says one = cons_option (order_by says one) []

  abbrev published_as : ℕ → List ℕ → Answer → Bool → List Ordered
  published_as t bytes a whole =
      cons_option (option_map (λ (order : Order). record { order = order; became = became_of a }) (if whole then Some (Publication t bytes) else None)) []

  done : (line : ℕ) (says : Said) (text bytes : List ℕ) (left : Option (List ℕ)) (J : Life) (a : Answer) (K : Life) → IsOf w J → IsDone Publishes (Relaunches C) (Surveys C) line says bytes left J a K
      → AreBehind says bytes left × Steers C w (orders_by says (record { line = text; bytes = bytes; answer = a })) J K
  done line (said.Publish t size) text bytes left J a K of (inl h) = (
    inl h.0,
    subst (λ (b : Bool). Steers C w (published_as t bytes a b) J K) (sym (eq-eqb (length bytes) size h.0))
        (subst (λ (x : Answer). Steers C w (record { order = Publication t bytes; became = became_of x } ∷ []) J K) (sym h.3) (publishes_steers J t line bytes h.1 K of h.2)),
  )
  done line (said.Publish t size) text bytes left J a K of (inr (inl h)) =
      (inr (h.0, h.1), subst (λ (b : Bool). Steers C w (published_as t bytes a b) J K) (sym (ne_eqb (length bytes) size (λ (e : length bytes ≡ size). let l : length bytes < size = h.0 in omega arith))) (same_steers [] J K refl of h.3))
  done line (said.Publish t size) text bytes left J a K of (inr (inr h)) = (
    inl h.0,
    subst (λ (b : Bool). Steers C w (published_as t bytes a b) J K) (sym (eq-eqb (length bytes) size h.0))
        (subst (λ (x : Answer). Steers C w (record { order = Publication t bytes; became = became_of x } ∷ []) J K) (sym h.1) (same_steers _ J K refl of h.2)),
  )
  done line (said.Relaunch s) text bytes left J a K of h =
      (h.0, subst (λ (x : Answer). Steers C w (record { order = Relaunch s; became = became_of x } ∷ []) J K) (sym h.3) (relaunches_steers s line h.1 J K of h.2))
  done line said.Status text bytes left J a K of h = (h.0, idles [] J K refl (surveys_lives C w is_busy h.1 J K refl of h.2))
  done line said.End text bytes left J a K of h = absurd h
  done line said.Stop text bytes left J a K of h = absurd h
  done line (said.Refused broken size) text bytes left J a K of h = (h.0, same_steers [] J K refl of h.2)

  -- a command was taken, answered so, and carried out
  record Did (x y : ConnWire) (before after : ℕ) (J K : Life) (a : Answer) : Type 0 where
    one : Taken
    answer_is : one.answer ≡ a
    takes : Takes C x y before after one
    steers : Steers C w (orders_in C (one ∷ [])) J K

  did : (x y : ConnWire) (before after : ℕ) (J K : Life) (a : Answer) → IsOf w J → Does Publishes (Relaunches C) (Surveys C) C x y before after J K a → Did x y before after J K a
  did x y before after J K a of h =
      let it = done after (order_of C h.line) h.line h.bytes y.left J a K of h.is in
      record { one = record { line = h.line; bytes = h.bytes; answer = a }; answer_is = refl; takes = record { command = h.command; behind = it.0 }; steers = it.1 }

  -- ---- all commands

  both_orders : (before behind : List Taken) → orders_in C (behind ++ before) ≡ orders_in C before ++ orders_in C behind
  both_orders before behind = filter_map-both (order_in C) before behind

  record Answers (x y : ConnWire) (before after : ℕ) (J K : Life) : Type 0 where
    answered : List Taken
    chain : AreAnswered C answered x y before after
    steers : Steers C w (orders_in C answered) J K

  commands : (answers : List Answer) (x y : ConnWire) (before after : ℕ) (J K : Life) → IsOf w J → Commands C answers x y before after J K → Answers x y before after J K
  commands [] x y before after J K of h = record { answered = []; chain = (h.0, h.1); steers = same_steers [] J K refl of h.2 }
  commands (a ∷ answers) x y before after J K of h =
      let first = commands answers x h.0 before h.1 J h.2 of h.3 in
      let next = did h.0 y h.1 after h.2 K a first.steers.lives.same h.4.0 in
      record {
        answered = next.one ∷ first.answered;
        chain = (h.0, h.1, first.chain, next.takes, subst (λ (b : Answer). Appends h.0.given y.given (answer_text b)) (sym next.answer_is) h.4.1);
        steers = subst (λ (os : List Ordered). Steers C w os J K) (sym (both_orders first.answered (next.one ∷ [])))
            (steers_then (orders_in C first.answered) (orders_in C (next.one ∷ [])) J h.2 K first.steers next.steers);
      }

  -- the last step
  record Last (x y : ConnWire) (before after : ℕ) (J K : Life) (how : Overseen) : Type 0 where
    last : List Taken
    ends : EndsBehind C last x y before after how
    steers : Steers C w (orders_in C last) J K

  same_some : {X : Type 0} (a b : X) → Some a ≡ Some b → a ≡ b
  same_some a b is = cc

  last_step : (x y : ConnWire) (before after : ℕ) (J K : Life) (what : Stepped) (how : Overseen) → IsOf w J → StepsAt C x y before after J K what → ends_by what ≡ Some how → Last x y before after J K how
  last_step x y before after J K (stepped.Answered a) how of h is = let never : ⊥ = cc in absurd never
  last_step x y before after J K stepped.Finished how of h is = subst (Last x y before after J K) (same_some overseen.Finished how is)
      (record { last = []; ends = (h.0, h.1); steers = same_steers [] J K refl of h.2 })
  last_step x y before after J K stepped.Stop how of h is = subst (Last x y before after J K) (same_some overseen.Stop how is)
      (record { last = []; ends = (h.0, h.1); steers = same_steers [] J K refl of h.2 })
  last_step x y before after J K (stepped.ConsoleFault (Some a)) how of h is =
      let it = did x y before after J K a of h.0 in
      subst (Last x y before after J K) (same_some overseen.ConsoleFault how is)
      (record { last = it.one ∷ []; ends = (it.takes, subst (λ (b : Answer). AppendsPrefix x.given y.given (answer_text b)) (sym it.answer_is) h.1, h.2); steers = it.steers })
  last_step x y before after J K (stepped.ConsoleFault None) how of h is = subst (Last x y before after J K) (same_some overseen.ConsoleFault how is)
      (record { last = []; ends = (h.0, h.1, h.5, h.2, h.4); steers = same_steers [] J K refl of h.3 })

  pub consoles_are_obeyed : (x y : ConnWire) (before after : ℕ) (J K : Life) (how : Overseen) → IsOf w J → Oversees C x y before after J K how
      → (orders : List Ordered) × Reads C x y before after how orders × Steers C w orders J K
  consoles_are_obeyed x y before after J K how of h =
      let first = commands h.answers x h.mid before h.lines J h.life of h.commands in
      let end = last_step h.mid y h.lines after h.life K h.last how first.steers.lives.same h.steps h.ends in
      let orders : List Ordered = orders_in C (end.last ++ first.answered) in (
        orders,
        record { answered = first.answered; last = end.last; mid = h.mid; lines = h.lines; commands = first.chain; ends = end.ends; orders_are = refl },
        subst (λ (os : List Ordered). Steers C w os J K) (sym (both_orders first.answered end.last))
            (steers_then (orders_in C first.answered) (orders_in C end.last) J h.life K first.steers end.steers),
      )
