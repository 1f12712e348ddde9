-- What a connection of a door had of its worker, and that what is due to that was written on it.
use Rattle.std.proofs.Common.{◌≡◌, inl, inr, ℕ, ◌+◌, ◌≤◌, Bool, true, false, List, [], ◌∷◌, ◌++◌, refl, sym, ap, ◌∙◌, subst, arith, append-nil, filter_map, Option, Some, None}
use Rattle.std.proofs.lemmas.Bool.{true≢false}
use Rattle.std.proofs.lemmas.List.Sums.{sum_by-cons}
use Rattle.std.specs.Prelude.{IfSome, IsSome, cond, count_by, is_some, option_to_list}
use Rattle.std.specs.Io.KnownBytes.{Appends}
use Rattle.http_text.specs.Reading.{IsInterim, IsMethod}
use Rattle.http_text.specs.Reading.{Refuses, Unsettled}
use Rattle.okws_outer.specs.Conns.{ConnWire}
use Rattle.okws_outer.specs.Doors.{Entrance}
use Rattle.okws_outer.specs.Streams.{Rose, counted}
use Rattle.okws_outer.specs.declared.door.Served.{Served}
use Rattle.okws_plan.specs.declared.configuration.Config.{Config}
use Rattle.monitor_model.specs.declared.record.Connection.{Connection}
use Rattle.monitor_model.specs.Connections.{IsCutShort, IsDue, IsRefusedBy, IsServed, Share, Visit}
use Rattle.monitor_model.specs.Connections as visit
use Rattle.http_front.specs.Replies.{Replied}
use Rattle.door_worker.specs.Serving.{Course, IsHandled, IsRead, due_answer, due_response}
use Rattle.door_worker.specs.Serving.{Handled, Refused, Starved, Broken}
use Rattle.door_worker.specs.declared.answer.Answer.{Answer}
use Rattle.site_worker.specs.Handling.{Handles}
use Rattle.site_worker.specs.Lives.{Life, Starves}
use Rattle.round_lives.specs.Living.{IsOf}
use Rattle.round_lives.specs.Serving.{IsFinished, LivesFor, ServesAll}
use Rattle.round_lives.proofs.Answered.{Answers, due_by, handles_answers}
use Rattle.round_lives.proofs.Visiting.{same_visits, starves_visits, visits_then}

-- ---- by what came of it

-- to a connection of which this came, the text is due by this visit; where it failed before, there is none
abbrev pub DueBy : Course → List ℕ → Option Visit → List ℕ → Type 0
DueBy (Handled asked outcome) read v text = IsDue read v text
DueBy (Refused status) read v text = IsDue read v text
DueBy Starved read v text = IsDue read v text
DueBy Broken read v text = v ≡ None

-- the worker lived on for the visit of the connection, if it had one, to which the response is due
pub record CourseIs (C : Config) (w : ℕ) (course : Course) (read : List ℕ) (reply : Replied) (J K : Life) : Type 0 where
  pub visit_is : Option Visit
  pub lives : LivesFor C w (option_to_list visit_is) J K
  pub due : (interim method : List ℕ) → IsInterim read interim → IsMethod read method → DueBy course read visit_is (interim ++ due_response course reply method)

refused_by : (read : List ℕ) (left : Option (List ℕ)) (status : ℕ) → IsRead read left (Refused status) → IsRefusedBy read status
refused_by read left status (inl r) = (Refuses status, r, refl)
refused_by read left status (inr r) = (Unsettled, r.0, ap Refuses (sym r.2))

module _ (C : Config) (n w : ℕ) where
  pub course_is : (course : Course) (read : List ℕ) (left : Option (List ℕ)) (reply : Replied) (J K : Life) → IsOf w J → IsRead read left course → IsHandled (Handles C n) Starves J course reply K → CourseIs C w course read reply J K
  course_is (Handled asked told) read left reply J K of is h =
      let it : Answers C w asked told reply J K = handles_answers C n w asked told reply J K of h in
      record { visit_is = Some it.visit_is; lives = it.lives; due = λ interim method i m. due_by asked told reply it.visit_is read interim method it.fits is i m }
  course_is (Refused status) read left reply J K of is h = record {
    visit_is = None;
    lives = same_visits C w J K of h;
    due = λ interim method i m. record { status = status; interim = interim; method = method; is = refused_by read left status is; interim_is = i; method_is = m; text_is = refl };
  }
  course_is Starved read left reply J K of is h = record {
    visit_is = Some visit.Starved;
    lives = starves_visits C w (visit.Starved ∷ []) J K (inr ([], refl, refl)) of h;
    due = λ interim method i m. record { interim = interim; method = method; interim_is = inl i; method_is = m; text_is = refl };
  }
  course_is Broken read left reply J K of is h = record { visit_is = None; lives = same_visits C w J K of h; due = λ interim method i m. refl }

-- ---- what was written

-- a connection that was answered whole
pub served_whole : (course : Course) (c : Connection) (v : Option Visit) (a : Answer) (text : List ℕ) → due_answer course ≡ Some a → DueBy course c.read v text → text ≡ c.written → IsServed c false v
served_whole (Handled asked outcome) c v a text answer due is = subst (IsDue c.read v) is due
served_whole (Refused status) c v a text answer due is = subst (IsDue c.read v) is due
served_whole Starved c v a text answer due is = subst (IsDue c.read v) is due
served_whole Broken c v a text answer due is = absurd (true≢false (sym (ap is_some answer)))

cut_short : (read written text rest : List ℕ) (v : Option Visit) → IsDue read v text → text ≡ written ++ rest → IsCutShort read v written
cut_short read written text rest None due is = inl (text, due, (rest, is))
cut_short read written text rest (Some v) due is = (text, due, (rest, is))

-- one that was cut
pub served_cut : (course : Course) (c : Connection) (v : Option Visit) (reply : Replied) (interim method rest : List ℕ) → IsInterim c.read interim → DueBy course c.read v (interim ++ due_response course reply method)
    → interim ++ due_response course reply method ≡ c.written ++ rest → IsServed c true v
served_cut (Handled asked outcome) c v reply interim method rest i due is = cut_short c.read c.written (interim ++ due_response (Handled asked outcome) reply method) rest v due is
served_cut (Refused status) c v reply interim method rest i due is = cut_short c.read c.written (interim ++ due_response (Refused status) reply method) rest v due is
served_cut Starved c v reply interim method rest i due is = cut_short c.read c.written (interim ++ due_response Starved reply method) rest v due is
served_cut Broken c v reply interim method rest i due is =
    subst (λ (x : Option Visit). IsCutShort c.read x c.written) (sym due) (inr (interim, i, (rest, sym (append-nil interim) ∙ is)))

-- ---- at the door

-- where what was given is told from the beginning, it is what was written
pub told_given : (old new : Option (List ℕ)) (written : List ℕ) → IsSome old → IfSome old (λ given. given ≡ []) → Appends old new written → new ≡ Some written
told_given None new written tells none appends = absurd (true≢false (sym tells))
told_given (Some xs) None written tells none appends = absurd appends
told_given (Some xs) (Some ys) written tells none appends = ap Some (appends ∙ ap (λ (x : List ℕ). x ++ written) none)

first_visit : (v : Option Visit) (b : Bool) (shares : List Share) → filter_map (λ (share : Share). share.visit) (record { visit = v; is_cut = b } ∷ shares) ≡ option_to_list v ++ filter_map (λ (share : Share). share.visit) shares
first_visit None b shares = refl
first_visit (Some v) b shares = refl

pub counts_whole : (c m e g : ℕ) → counted c m ≤ e → counted c (0 + m) ≤ counted e g
counts_whole c m e g l = omega arith

pub counts_cut : (c m e f : ℕ) → counted c m ≤ e → Rose e f → counted c (1 + m) ≤ f
counts_cut c m e f l r = omega arith

-- nothing was done
pub none_serves : {X : Type 0} (wire : X → ConnWire) (C : Config) (w : ℕ) (e f : Entrance) (J K : Life) → IsOf w J → f.finished ≡ e.finished → e.faults ≤ f.faults → K ≡ J → ServesAll wire C w e f J K
none_serves wire C w e f J K of same later is = record {
  connections = [];
  finishes = record { since = []; finished_is = same; are = tt };
  shares = [];
  served = tt;
  lives = same_visits C w J K of is;
  cut = omega arith;
}

module _ {X : Type 0} (wire : X → ConnWire) (C : Config) (w : ℕ) where
  -- the worker did something else behind the connections
  pub serves_then : (e g f : Entrance) (I J K : Life) → ServesAll wire C w e g I J → LivesFor C w [] J K → f.finished ≡ g.finished → g.faults ≤ f.faults → ServesAll wire C w e f I K
  serves_then e g f I J K all then same later = record {
    connections = all.connections;
    finishes = record { since = all.finishes.since; finished_is = same ∙ all.finishes.finished_is; are = all.finishes.are };
    shares = all.shares;
    served = all.served;
    lives = visits_then C w (filter_map (λ (share : Share). share.visit) all.shares) [] I J K all.lives then;
    cut = let l = all.cut in omega (arith, l);
  }

  -- one connection more
  pub serves_more : (e g f : Entrance) (I J K : Life) (x : Served) (c : Connection) (b : Bool) (v : Option Visit) → (all : ServesAll wire C w e g I J) → f.finished ≡ x ∷ g.finished → IsFinished wire x c → IsServed c b v
      → LivesFor C w (option_to_list v) J K → counted e.faults (cond b 1 0 + count_by (λ (share : Share). share.is_cut) all.shares) ≤ f.faults → ServesAll wire C w e f I K
  serves_more e g f I J K x c b v all more is served lives cut = record {
    connections = c ∷ all.connections;
    finishes = record { since = x ∷ all.finishes.since; finished_is = more ∙ ap (λ (xs : List Served). x ∷ xs) all.finishes.finished_is; are = (is, all.finishes.are) };
    shares = record { visit = v; is_cut = b } ∷ all.shares;
    served = (served, all.served);
    lives = subst (λ (visits : List Visit). LivesFor C w visits I K) (sym (first_visit v b all.shares))
        (visits_then C w (filter_map (λ (share : Share). share.visit) all.shares) (option_to_list v) I J K all.lives lives);
    cut = subst (λ (n : ℕ). counted e.faults n ≤ f.faults) (sym (sum_by-cons (λ (share : Share). cond share.is_cut 1 0) (record { visit = v; is_cut = b }) all.shares)) cut;
  }
