-- What the cells of a run leave.
use Rattle.std.proofs.Common.{◌≡◌, ◌∙◌, ◌<◌, ℕ, zero, suc, ◌+◌, List, [], ◌∷◌, ◌++◌, Option, Some, None, length, get_or, map, refl, sym, ap, subst, arith, append_assoc}
use Rattle.std.proofs.lemmas.List.{append-nil, length-append, length-map, map-append}
use Rattle.okws_base.specs.Runs.{Each}
use Rattle.okws_plan.specs.declared.configuration.Config.{Config}
use Rattle.okws_outer.specs.Wire.{Wire}
use Rattle.monitor_model.specs.declared.record.CellEvent.{CellEvent}
use Rattle.monitor_model.specs.declared.sent.Sent.{Sent}
use Rattle.monitor_model.specs.Cell.{last_booted}
use Rattle.monitor_model.specs.Played.{with_open}
use Rattle.monitor_model.specs.Sent.{AreSent, IsToldOf}
use Rattle.monitor_model.specs.Stage.{Stand}
use Rattle.service_cell.specs.Standing.{Open, Standing, all_sent, with_open as cell_with_open}
use Rattle.okws_play.specs.Cells.{stand_by, stands_by, opened_by, past_of, IsOwn, IsLinked, IsSeat, AreClosed, AreLeft, AreSeats}

closed_more : (C : Config) (seed : List ℕ) (i s : ℕ) (pasts : List (List CellEvent)) (sents : List (List Sent)) (past : List CellEvent) (sent : List Sent) → AreClosed C seed i pasts sents → s ≡ i + length pasts → AreSent C seed s past sent → Each IsToldOf sent
    → AreClosed C seed i (pasts ++ past ∷ []) (sents ++ sent ∷ [])
closed_more C seed i s [] [] past sent h e is told = let same : s ≡ i = omega (arith, e) in (subst (λ n. AreSent C seed n past sent) same is, told, tt)
closed_more C seed i s [] (x ∷ sents) past sent h e is told = absurd h
closed_more C seed i s (x ∷ pasts) [] past sent h e is told = absurd h
closed_more C seed i s (x ∷ pasts) (y ∷ sents) past sent h e is told = (h.0, h.1, closed_more C seed (i + 1) s pasts sents past sent h.2 (omega (arith, e)) is told)

pub closed_sent : (C : Config) (seed : List ℕ) (i p s : ℕ) (pasts : List (List CellEvent)) (sents : List (List Sent)) → AreClosed C seed i pasts sents → p < length pasts → s ≡ i + p → AreSent C seed s (get_or pasts p []) (get_or sents p [])
closed_sent C seed i p s [] sents h below e = absurd (omega (arith, below))
closed_sent C seed i p s (x ∷ pasts) [] h below e = absurd h
closed_sent C seed i zero s (x ∷ pasts) (y ∷ sents) h below e = let same : i ≡ s = omega (arith, e) in subst (λ n. AreSent C seed n x y) same h.0
closed_sent C seed i (suc p) s (x ∷ pasts) (y ∷ sents) h below e = closed_sent C seed (i + 1) p s pasts sents h.2 (omega (arith, below)) (omega (arith, e))

pub closed_long : (C : Config) (seed : List ℕ) (i : ℕ) (pasts : List (List CellEvent)) (sents : List (List Sent)) → AreClosed C seed i pasts sents → length sents ≡ length pasts
closed_long C seed i [] [] h = refl
closed_long C seed i [] (y ∷ sents) h = absurd h
closed_long C seed i (x ∷ pasts) [] h = absurd h
closed_long C seed i (x ∷ pasts) (y ∷ sents) h = let e = closed_long C seed (i + 1) pasts sents h.2 in omega (arith, e)

pub closed_told : (C : Config) (seed : List ℕ) (i p : ℕ) (pasts : List (List CellEvent)) (sents : List (List Sent)) → AreClosed C seed i pasts sents → Each IsToldOf (get_or sents p [])
closed_told C seed i p pasts [] h = tt
closed_told C seed i p [] (y ∷ sents) h = absurd h
closed_told C seed i zero (x ∷ pasts) (y ∷ sents) h = h.1
closed_told C seed i (suc p) (x ∷ pasts) (y ∷ sents) h = closed_told C seed (i + 1) p pasts sents h.2

seat_next : (C : Config) (seed : List ℕ) (i : ℕ) (before : List Standing) (c : Standing) (rest : List Standing) → AreSeats C seed i (before ++ c ∷ rest) → IsSeat C seed (i + length before) c
seat_next C seed i [] c rest h = let same : i ≡ i + 0 = omega arith in subst (λ n. IsSeat C seed n c) same h.0
seat_next C seed i (x ∷ before) c rest h = let same : i + 1 + length before ≡ i + length (x ∷ before) = omega arith in subst (λ n. IsSeat C seed n c) same (seat_next C seed (i + 1) before c rest h.1)

all_told : (k : ℕ) (c : Standing) → IsLinked c.link → Each IsToldOf c.sent → Each IsToldOf (all_sent k c.link c.sent)
all_told k c linked sent = by c.link linked
  where
    by : (link : Option Wire) → IsLinked link → Each IsToldOf (all_sent k link c.sent)
    by None w = sent
    by (Some wire) w = (w.given, sent)

own_open : (o : Option Open) (J : List CellEvent) → IsOwn o → cell_with_open o J ≡ with_open (opened_by o) J
own_open None J own = refl
own_open (Some o) J own = rw own refl

-- how far the cells of a run were closed
pub record HasClosed (C : Config) (seed : List ℕ) (stands : List Stand) (yielded rest : List Standing) (pasts : List (List CellEvent)) (sents : List (List Sent)) : Type 0 where
  pub seats : AreSeats C seed 0 (yielded ++ rest)
  pub stands_are : stands_by (yielded ++ rest) ≡ stands
  pub pasts_are : pasts ≡ map past_of (stands_by yielded)
  pub closed : AreClosed C seed 0 pasts sents

pub has_none : (C : Config) (seed : List ℕ) (cells rest : List Standing) (pasts : List (List CellEvent)) (sents : List (List Sent)) → rest ≡ cells → pasts ≡ [] → sents ≡ [] → AreSeats C seed 0 cells → HasClosed C seed (stands_by cells) [] rest pasts sents
has_none C seed cells rest pasts sents all none unsent h = rw (all, none, unsent) (record { seats = h; stands_are = refl; pasts_are = refl; closed = tt })

pub has_more : (C : Config) (seed : List ℕ) (stands : List Stand) (yielded rest more : List Standing) (c : Standing) (pasts : List (List CellEvent)) (sents : List (List Sent)) (past : List CellEvent) (sent : List Sent) → HasClosed C seed stands yielded rest pasts sents → rest ≡ c ∷ more
    → past ≡ cell_with_open c.open_dialog c.past → sent ≡ all_sent (last_booted c.past) c.link c.sent → AreSent c.config c.seed c.service past sent
    → HasClosed C seed stands (yielded ++ c ∷ []) more (pasts ++ past ∷ []) (sents ++ sent ∷ [])
has_more C seed stands yielded rest more c pasts sents past sent h left is links given =
    let all : yielded ++ rest ≡ (yielded ++ c ∷ []) ++ more = ap (λ t. yielded ++ t) left ∙ sym (append_assoc yielded (c ∷ []) more) in
    let number : 0 + length yielded ≡ length yielded = omega arith in
    let seat : IsSeat C seed (length yielded) c = subst (λ n. IsSeat C seed n c) number (seat_next C seed 0 yielded c more (subst (λ t. AreSeats C seed 0 (yielded ++ t)) left h.seats)) in
    let count : length pasts ≡ length yielded = ap length h.pasts_are ∙ length-map (stands_by yielded) past_of ∙ length-map yielded stand_by in
    let own : past ≡ past_of (stand_by c) = is ∙ own_open c.open_dialog c.past seat.own in
    let mine : AreSent C seed (length yielded) past sent = rw (seat.config_is, seat.seed_is, seat.service_is) at given in record {
      seats = subst (AreSeats C seed 0) all h.seats;
      stands_are = ap stands_by (sym all) ∙ h.stands_are;
      pasts_are = rw (h.pasts_are, own) (sym (ap (map past_of) (map-append stand_by yielded (c ∷ [])) ∙ map-append past_of (stands_by yielded) (stand_by c ∷ [])));
      closed = closed_more C seed 0 (length yielded) pasts sents past sent h.closed (omega (arith, count)) mine (rw links (all_told (last_booted c.past) c seat.linked seat.sent));
    }

pub has_all : (C : Config) (seed : List ℕ) (stands : List Stand) (yielded rest : List Standing) (pasts : List (List CellEvent)) (sents : List (List Sent)) → HasClosed C seed stands yielded rest pasts sents → rest ≡ [] → AreLeft C seed stands pasts sents
has_all C seed stands yielded rest pasts sents h none = record {
  pasts_are = h.pasts_are ∙ ap (map past_of) (ap stands_by (sym (append-nil yielded) ∙ ap (λ t. yielded ++ t) (sym none)) ∙ h.stands_are);
  closed = h.closed;
}

pub nothing_left : {A : Type 0} (xs : List A) → length xs ≡ 0 → xs ≡ []
nothing_left [] e = refl
nothing_left (x ∷ xs) e = absurd (omega arith)
