-- What each connection adds to the tally of a door.
use Rattle.std.proofs.Common.{◌≡◌, ℕ, suc, ◌+◌, ◌<◌, ◌≤◌, Bool, true, false, cond, List, [], ◌∷◌, length, refl, sym, ap, ◌∙◌, subst, arith}
use Rattle.std.proofs.lemmas.Bool.{lt-ltb}
use Rattle.std.proofs.lemmas.List.{length-append}
use Rattle.std.proofs.lemmas.List.Sums.{sum_by-cons}
use Rattle.std.specs.Prelude.{count_by, nat_lt}
use Rattle.okws_outer.specs.Conns.{ConnWire}
use Rattle.okws_outer.specs.Doors.{Entrance}
use Rattle.okws_outer.specs.Streams.{Rose, counted}
use Rattle.okws_outer.specs.declared.door.Served.{Served}
use Rattle.okws_serve.specs.Doors.{Tally, TalliesAt, had_fault, faults_of, connections_of, begun_of}

-- a count after more faults took these in too
counts_more : (c m e g : ℕ) → counted c m ≤ e → counted c (g + m) ≤ counted e g
counts_more c m e g l = omega arith

-- one fault more
counts_one : (c m e f : ℕ) → counted c m ≤ e → Rose e f → counted c (m + 1) ≤ f
counts_one c m e f l r = omega arith

-- none more
counts_none : (c : ℕ) → counted c 0 ≤ c
counts_none c = omega arith

one_more : (a b c : ℕ) → a ≡ b → c ≡ 1 + b → suc a ≡ c
one_more a b c is more = omega (arith, is, more)

no_more : (a b c : ℕ) → a ≡ b → c ≡ 0 + b → a ≡ c
no_more a b c is more = omega (arith, is, more)

plus_middle : (a b m n : ℕ) → n ≡ a + b → a + (b + m) ≡ n + m
plus_middle a b m n is = omega (arith, is)

plus_last : (a m : ℕ) → (a + m) + 1 ≡ a + suc m
plus_last a m = omega arith

-- a tally of turns, with all that was begun in them; where no stop was seen, none was awaited
pub record Tallied (seen m : ℕ) (e f : Entrance) : Type 0 where
  pub tally : Tally
  pub at : TalliesAt tally e f
  pub begun : begun_of tally ≡ m
  pub cause : seen ≡ 0 → tally.awaited ≡ 0

-- nothing was begun
pub none_tallied : (seen : ℕ) (e f : Entrance) → f ≡ e → Tallied seen 0 e f
none_tallied seen e f same = record {
  tally = record { whole = 0; cut = 0; missed = 0; awaited = 0 };
  at = record {
    since = [];
    finished_is = ap (λ (x : Entrance). x.finished) same;
    finished = refl;
    cut_is = refl;
    faults = subst (λ (n : ℕ). counted e.faults 0 ≤ n) (sym (ap (λ (x : Entrance). x.faults) same)) (counts_none e.faults);
  };
  begun = refl;
  cause = λ _. refl;
}

-- the faults of a connection more, and those before
more_faults : (e g f : Entrance) (x : Served) (since : List Served) (missed : ℕ) → f.faults ≡ counted g.faults x.faults → counted e.faults (faults_of since + missed) ≤ g.faults
    → counted e.faults (faults_of (x ∷ since) + missed) ≤ f.faults
more_faults e g f x since missed is l =
    subst (λ (n : ℕ). counted e.faults n ≤ f.faults) (plus_middle x.faults (faults_of since) missed (faults_of (x ∷ since)) (sum_by-cons (λ (y : Served). y.faults) x since))
    (subst (λ (n : ℕ). counted e.faults (x.faults + (faults_of since + missed)) ≤ n) (sym is) (counts_more e.faults (faults_of since + missed) g.faults x.faults l))

-- whether it had one, and those before
more_cut : (x : Served) (since : List Served) (b : Bool) → had_fault x ≡ b → count_by had_fault (x ∷ since) ≡ cond b 1 0 + count_by had_fault since
more_cut x since b is = sum_by-cons (λ (y : Served). cond (had_fault y) 1 0) x since ∙ ap (λ (c : Bool). cond c 1 0 + count_by had_fault since) is

-- a connection more that was served whole
pub whole_tallied : (seen m : ℕ) (e g f : Entrance) (x : Served) → x.faults ≡ 0 → f.finished ≡ x ∷ g.finished → f.faults ≡ counted g.faults x.faults → Tallied seen m e g → Tallied seen (suc m) e f
whole_tallied seen m e g f x none l c t =
    let a = t.at.finished in let b = t.begun in
    let counts : count_by had_fault (x ∷ t.at.since) ≡ 0 + count_by had_fault t.at.since = more_cut x t.at.since false (ap (λ (n : ℕ). nat_lt 0 n) none) in
    record {
      tally = record t.tally { whole = suc t.tally.whole };
      at = record {
        since = x ∷ t.at.since;
        finished_is = l ∙ ap (λ (xs : List Served). x ∷ xs) t.at.finished_is;
        finished = omega (arith, a);
        cut_is = no_more t.tally.cut (count_by had_fault t.at.since) (count_by had_fault (x ∷ t.at.since)) t.at.cut_is counts;
        faults = more_faults e g f x t.at.since t.tally.missed c t.at.faults;
      };
      begun = omega (arith, b);
      cause = t.cause;
    }

-- one more that was cut
pub cut_tallied : (seen m : ℕ) (e g f : Entrance) (x : Served) → 0 < x.faults → f.finished ≡ x ∷ g.finished → f.faults ≡ counted g.faults x.faults → Tallied seen m e g → Tallied seen (suc m) e f
cut_tallied seen m e g f x some l c t =
    let a = t.at.finished in let b = t.begun in
    let counts : count_by had_fault (x ∷ t.at.since) ≡ 1 + count_by had_fault t.at.since = more_cut x t.at.since true (lt-ltb 0 x.faults some) in
    record {
      tally = record t.tally { cut = suc t.tally.cut };
      at = record {
        since = x ∷ t.at.since;
        finished_is = l ∙ ap (λ (xs : List Served). x ∷ xs) t.at.finished_is;
        finished = omega (arith, a);
        cut_is = one_more t.tally.cut (count_by had_fault t.at.since) (count_by had_fault (x ∷ t.at.since)) t.at.cut_is counts;
        faults = more_faults e g f x t.at.since t.tally.missed c t.at.faults;
      };
      begun = omega (arith, b);
      cause = t.cause;
    }

-- one more that did not come
pub missed_tallied : (seen m : ℕ) (e g f : Entrance) → f.finished ≡ g.finished → Rose g.faults f.faults → Tallied seen m e g → Tallied seen (suc m) e f
missed_tallied seen m e g f same r t =
    let b = t.begun in
    record {
      tally = record t.tally { missed = suc t.tally.missed };
      at = record {
        since = t.at.since;
        finished_is = same ∙ t.at.finished_is;
        finished = t.at.finished;
        cut_is = t.at.cut_is;
        faults = subst (λ (n : ℕ). counted e.faults n ≤ f.faults) (plus_last (faults_of t.at.since) t.tally.missed)
            (counts_one e.faults (faults_of t.at.since + t.tally.missed) g.faults f.faults t.at.faults r);
      };
      begun = omega (arith, b);
      cause = t.cause;
    }

-- one more that was awaited when the run was stopped
pub awaited_tallied : (seen m : ℕ) (e g f : Entrance) → f ≡ g → 0 < seen → Tallied seen m e g → Tallied seen (suc m) e f
awaited_tallied seen m e g f same l t =
    let b = t.begun in
    record {
      tally = record t.tally { awaited = suc t.tally.awaited };
      at = record {
        since = t.at.since;
        finished_is = ap (λ (x : Entrance). x.finished) same ∙ t.at.finished_is;
        finished = t.at.finished;
        cut_is = t.at.cut_is;
        faults = subst (λ (n : ℕ). counted e.faults (faults_of t.at.since + t.tally.missed) ≤ n) (sym (ap (λ (x : Entrance). x.faults) same)) t.at.faults;
      };
      begun = omega (arith, b);
      cause = λ z. absurd (omega (arith, z, l));
    }

-- how many connections a door has finished
pub finished_many : (t : Tally) (e f : Entrance) → TalliesAt t e f → length f.finished ≡ connections_of t + length e.finished
finished_many t e f at = ap length at.finished_is ∙ length-append at.since e.finished ∙ ap (λ (n : ℕ). n + length e.finished) at.finished

-- the connection as it was finished
abbrev pub as_finished : ConnWire → ConnWire → Served
as_finished begun ended = record { came = begun.left; left = ended.left; given = ended.given; faults = ended.faults }

-- a call of it failed, where its count rose from nothing
pub some_fault : (before now : ℕ) → before ≡ 0 → Rose before now → 0 < now
some_fault before now none rose = omega (arith, none, rose)
