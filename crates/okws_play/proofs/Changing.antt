-- A cell that is retired, booted or fed, in a script's state.
use Rattle.std.proofs.Common.{◌≡◌, ◌≢◌, ◌≤◌, ◌<◌, ℕ, ◌+◌, Bool, true, false, List, [], ◌∷◌, ◌++◌, Option, Some, None, length, refl, sym, ap, subst, ◌∙◌, arith}
use Rattle.std.specs.Prelude.{◌==◌, max, slice_set, slice_get, if◌then◌else◌, IsSome, option_map}
use Rattle.std.proofs.lemmas.Option.{same_Some}
use Rattle.okws_plan.specs.declared.configuration.Config.{Config}
use Rattle.okws_outer.specs.Wire.{fed, shut}
use Rattle.http_text.specs.Response.{own_response}
use Rattle.monitor_model.specs.declared.record.CellEvent.{CellEvent}
use Rattle.monitor_model.specs.declared.record.CellEvent.TheVariants as cell
use Rattle.monitor_model.specs.declared.record.End.TheVariants as end
use Rattle.monitor_model.specs.declared.record.Own.TheVariants as own
use Rattle.monitor_model.specs.Cell.{incarnation, last_booted}
use Rattle.monitor_model.specs.Launcher.{begun}
use Rattle.monitor_model.specs.Script.{freshly_booted, given, greatest, has_ended, request_method, superseded, superseded_text, retired as retires, settled}
use Rattle.monitor_model.specs.Seen.{Seen, noted}
use Rattle.monitor_model.specs.Stage.{Stage, Stand, Opened, Asked, stand, answer_line}
use Rattle.service_cell.specs.Standing.{Open, Standing, all_sent}
use Rattle.service_cell.specs.Steps.{retired, superseded as supersedes}
use Rattle.site_columns.specs.Site.{Site}
use Rattle.okws_play.specs.Cells.{stand_by, stands_by, stand_at, left_on, opened_by, booted_stand, closed_stand, AreBytes, IsOwn, IsSeat}
use Rattle.okws_play.specs.Run.{Run, IsRun, at_stage}
use Rattle.okws_play.proofs.Cells.{plain, retired_none, stand_plain, not_zero, stands_set, stand_set, run_set, seat_on, retired_seat, fed_linked, fed_left, fed_ended, still_some, shut_linked, shut_left, shut_ended}
use Rattle.okws_play.proofs.Running.{IsAt, none_open, run_of, stage_of}
use Rattle.okws_play.proofs.Steps.{finished_is, none_some, opened}

-- the run after the cell of s changed
pub set_state : (C : Config) (seed : List ℕ) (columns : Site) (K : Seen) (cells : List Standing) (requests : List Asked) (R : Run) (s : ℕ) (c d : Standing) (X : Stand) → IsAt C seed columns cells requests R s c → stand_by d ≡ X
    → run_of C seed K (slice_set cells s d) requests ≡ at_stage R (record R.stage { seen = K; stands = slice_set R.stage.stands s X })
set_state C seed columns K cells requests R s c d X at is =
    subst (λ (x : Run). run_of C seed K (slice_set cells s d) requests ≡ at_stage x (record x.stage { seen = K; stands = slice_set x.stage.stands s X })) at.view (rw (stands_set cells s d, is) refl)

-- the cell after a dialog ended as superseded
superseded_seat : (C : Config) (seed : List ℕ) (s shown : ℕ) (c : Standing) (o : Open) → IsSeat C seed s c → c.open_dialog ≡ Some o → IsSeat C seed s (supersedes c (Some o) shown)
superseded_seat C seed s shown c o h is = seat_on C seed s c (supersedes c (Some o) shown) _ None c.link h refl h.there h.linked tt

-- what a dialog that was superseded leaves
pub record IsSuperseded (C : Config) (seed : List ℕ) (columns : Site) (cells : List Standing) (requests : List Asked) (R : Run) (s n : ℕ) (d : Standing) : Type 0 where
  pub run : IsRun C seed columns (slice_set cells s d) requests
  pub state : run_of C seed columns.seen (slice_set cells s d) requests ≡ at_stage R (superseded s R.stage)
  pub text : answer_line n (own_response 503 (request_method (slice_get requests n))) ≡ superseded_text s (stand R.stage s).open_dialog R.stage
  pub past : last_booted d.past ≡ last_booted (stand R.stage s).past

pub superseded_of : (C : Config) (seed : List ℕ) (columns : Site) (cells : List Standing) (requests : List Asked) (R : Run) (s n shown : ℕ) (c d : Standing) → IsAt C seed columns cells requests R s c → incarnation c.past ≢ 0
    → Some n ≡ option_map (λ (x : Open). x.request) c.open_dialog → shown ≡ begun columns.seen.launcher s → d ≡ supersedes c c.open_dialog shown → IsSuperseded C seed columns cells requests R s n d
superseded_of C seed columns cells requests R s n shown c d at some asked is made = by c.open_dialog refl asked made
  where
    by : (o : Option Open) → c.open_dialog ≡ o → Some n ≡ option_map (λ (x : Open). x.request) o → d ≡ supersedes c o shown → IsSuperseded C seed columns cells requests R s n d
    by None e m g = absurd cc
    by (Some o) e m g =
        let same : n ≡ o.request = same_Some n o.request m in
        let worker : o.worker ≡ 0 = subst IsOwn e at.seat.own in
        let there : stand R.stage s ≡ plain c = sym at.stand_is ∙ stand_plain c some in
        let moved : stand_by d ≡ closed_stand (stand R.stage s) (opened o) (end.Superseded shown) = finished_is c d o.items (end.Superseded shown) (opened_by c.open_dialog) (opened o) c.link (rw worker at g) refl ∙ rw there refl in
        let dialog : (stand R.stage s).open_dialog ≡ Some (opened o) = rw there (ap opened_by e) in
        let number : shown ≡ greatest R.stage s = is ∙ ap (λ (x : Run). begun x.stage.seen.launcher s) at.view in
        let seen : columns.seen ≡ R.stage.seen = ap (λ (x : Run). x.stage.seen) at.view in
        let booted : last_booted d.past ≡ last_booted (stand R.stage s).past = ap (λ (x : Standing). last_booted x.past) g ∙ ap (λ (t : Stand). last_booted t.past) at.stand_is in
        let before : last_booted (stand R.stage s).past ≤ begun columns.seen.launcher s = subst (λ (x : Run). last_booted (stand x.stage s).past ≤ begun columns.seen.launcher s) at.view (at.run.booted_are s) in record {
          run = run_set C seed columns columns cells requests s d at.run at.below (subst (IsSeat C seed s) (sym g) (superseded_seat C seed s shown c o at.seat e)) refl refl refl refl (omega (arith, booted, before));
          state = set_state C seed columns columns.seen cells requests R s c d (closed_stand (stand R.stage s) (opened o) (end.Superseded shown)) at moved ∙ ap (at_stage R) (rw (dialog, seen, number) refl);
          text = rw (dialog, same) (ap (λ (x : Run). answer_line o.request (own_response 503 (request_method (slice_get x.stage.requests o.request)))) at.view);
          past = booted;
        }

-- what a cell that was retired leaves
pub record IsRetired (C : Config) (seed : List ℕ) (now : Site) (cells : List Standing) (requests : List Asked) (R : Run) (s : ℕ) (d : Standing) : Type 0 where
  pub run : IsRun C seed now (slice_set cells s d) requests
  pub state : run_of C seed now.seen (slice_set cells s d) requests ≡ at_stage R (retires s R.stage)

pub retired_of : (C : Config) (seed : List ℕ) (columns now : Site) (cells : List Standing) (requests : List Asked) (R : Run) (s k : ℕ) (c d : Standing) → IsAt C seed columns cells requests R s c → k ≡ incarnation c.past → k ≢ 0 → c.open_dialog ≡ None
    → d ≡ retired c → now.config ≡ columns.config → now.seed ≡ columns.seed → now.worker ≡ columns.worker → now.seen ≡ noted columns.seen (own.Retired s) → IsRetired C seed now cells requests R s d
retired_of C seed columns now cells requests R s k c d at same some closed made config seeded worker seen =
    let off : (incarnation c.past == 0) ≡ false = ap (λ (j : ℕ). j == 0) (sym same) ∙ not_zero k some in
    let is : d ≡ record c { past = cell.Retired ∷ c.past; link = None; sent = all_sent (last_booted c.past) c.link c.sent } = made ∙ rw off refl in
    let moved : stand_by d ≡ record { past = cell.Retired ∷ c.past; left = []; has_ended = false; open_dialog = None } = rw (is, closed) refl in
    let booted : last_booted d.past ≡ last_booted c.past = ap (λ (x : Standing). last_booted x.past) is in
    let before : last_booted c.past ≤ begun columns.seen.launcher s = subst (λ (t : Stand). last_booted t.past ≤ begun columns.seen.launcher s) (sym at.stand_is) (subst (λ (x : Run). last_booted (stand x.stage s).past ≤ begun columns.seen.launcher s) at.view (at.run.booted_are s)) in
    let there : (incarnation (stand R.stage s).past == 0) ≡ false = ap (λ (t : Stand). incarnation t.past == 0) (sym at.stand_is) ∙ off in
    let open_is : (stand R.stage s).open_dialog ≡ None = ap (λ (t : Stand). t.open_dialog) (sym at.stand_is) ∙ ap opened_by closed in
    let past : (stand R.stage s).past ≡ c.past = ap (λ (t : Stand). t.past) (sym at.stand_is) in
    let own_seen : columns.seen ≡ R.stage.seen = ap (λ (x : Run). x.stage.seen) at.view in record {
      run = run_set C seed columns now cells requests s d at.run at.below (retired_seat C seed s c d at.seat closed made) config seeded worker (ap (λ (x : Seen). x.launcher) seen) (omega (arith, booted, before));
      state = set_state C seed columns now.seen cells requests R s c d _ at moved ∙ ap (at_stage R) (rw (there, seen, own_seen, open_is, past) refl);
    }

-- a cell that was booted, and what it leaves
pub booted_run : (C : Config) (seed : List ℕ) (columns now : Site) (cells : List Standing) (requests : List Asked) (R : Run) (s k : ℕ) (c d : Standing) → IsAt C seed columns cells requests R s c → IsSeat C seed s d → last_booted d.past ≤ k → k ≡ begun columns.seen.launcher s
    → now.config ≡ columns.config → now.seed ≡ columns.seed → now.worker ≡ columns.worker → now.seen.launcher ≡ columns.seen.launcher → IsRun C seed now (slice_set cells s d) requests
booted_run C seed columns now cells requests R s k c d at seat most is config seeded worker launcher = run_set C seed columns now cells requests s d at.run at.below seat config seeded worker launcher (omega (arith, most, is))

pub booted_state : (C : Config) (seed : List ℕ) (columns : Site) (K : Seen) (cells : List Standing) (requests : List Asked) (R : Run) (s k : ℕ) (c d : Standing) → IsAt C seed columns cells requests R s c → stand_by d ≡ booted_stand (stand_by c) k → k ≡ begun columns.seen.launcher s
    → K ≡ noted columns.seen (own.Boot s k) → run_of C seed K (slice_set cells s d) requests ≡ at_stage R (freshly_booted s R.stage)
booted_state C seed columns K cells requests R s k c d at moved is noted_is =
    let seen : columns.seen ≡ R.stage.seen = ap (λ (x : Run). x.stage.seen) at.view in
    let number : k ≡ greatest R.stage s = is ∙ ap (λ (x : Seen). begun x.launcher s) seen in
    set_state C seed columns K cells requests R s c d _ at moved
    ∙ ap (λ (t : Stand). at_stage R (record R.stage { seen = K; stands = slice_set R.stage.stands s (booted_stand t k) })) at.stand_is ∙ ap (at_stage R) (rw (noted_is, seen, number) refl)

-- ---- what a service says

pub fed_seat : (C : Config) (seed : List ℕ) (s : ℕ) (c d : Standing) (bytes : List ℕ) → IsSeat C seed s c → AreBytes bytes → d ≡ record c { link = option_map (fed bytes) c.link } → IsSeat C seed s d
fed_seat C seed s c d bytes h more is = seat_on C seed s c d c.past c.open_dialog (option_map (fed bytes) c.link) h is (λ some. still_some (fed bytes) c.link (h.there some)) (fed_linked bytes c.link more h.linked) h.own

fed_stand : (C : Config) (seed : List ℕ) (s : ℕ) (c d : Standing) (bytes : List ℕ) → IsSeat C seed s c → incarnation c.past ≢ 0 → d ≡ record c { link = option_map (fed bytes) c.link } → stand_by d ≡ record (stand_by c) { left = (stand_by c).left ++ bytes }
fed_stand C seed s c d bytes h some is =
    rw is (stand_plain (record c { link = option_map (fed bytes) c.link }) some ∙ rw (fed_left bytes c.link (h.there some) h.linked, fed_ended bytes c.link) (ap (λ (t : Stand). record t { left = t.left ++ bytes }) (sym (stand_plain c some))))

pub shut_seat : (C : Config) (seed : List ℕ) (s : ℕ) (c d : Standing) → IsSeat C seed s c → d ≡ record c { link = option_map shut c.link } → IsSeat C seed s d
shut_seat C seed s c d h is = seat_on C seed s c d c.past c.open_dialog (option_map shut c.link) h is (λ some. still_some shut c.link (h.there some)) (shut_linked c.link h.linked) h.own

shut_stand : (C : Config) (seed : List ℕ) (s : ℕ) (c d : Standing) → IsSeat C seed s c → incarnation c.past ≢ 0 → d ≡ record c { link = option_map shut c.link } → stand_by d ≡ record (stand_by c) { has_ended = true }
shut_stand C seed s c d h some is =
    rw is (stand_plain (record c { link = option_map shut c.link }) some ∙ rw (shut_left c.link, shut_ended c.link (h.there some)) (ap (λ (t : Stand). record t { has_ended = true }) (sym (stand_plain c some))))

-- a cell that changed in its link alone
kept_run : (C : Config) (seed : List ℕ) (columns : Site) (cells : List Standing) (requests : List Asked) (R : Run) (s : ℕ) (c d : Standing) → IsAt C seed columns cells requests R s c → IsSeat C seed s d → d.past ≡ c.past → IsRun C seed columns (slice_set cells s d) requests
kept_run C seed columns cells requests R s c d at seat past =
    let before : last_booted c.past ≤ begun columns.seen.launcher s = subst (λ (t : Stand). last_booted t.past ≤ begun columns.seen.launcher s) (sym at.stand_is) (subst (λ (x : Run). last_booted (stand x.stage s).past ≤ begun columns.seen.launcher s) at.view (at.run.booted_are s)) in
    run_set C seed columns columns cells requests s d at.run at.below seat refl refl refl refl (omega (arith, before, ap last_booted past))

pub fed_run : (C : Config) (seed : List ℕ) (columns : Site) (cells : List Standing) (requests : List Asked) (R : Run) (s : ℕ) (c d : Standing) (bytes : List ℕ) → IsAt C seed columns cells requests R s c → AreBytes bytes
    → d ≡ record c { link = option_map (fed bytes) c.link } → IsRun C seed columns (slice_set cells s d) requests
fed_run C seed columns cells requests R s c d bytes at more is = kept_run C seed columns cells requests R s c d at (fed_seat C seed s c d bytes at.seat more is) (ap (λ (x : Standing). x.past) is)

pub shut_run : (C : Config) (seed : List ℕ) (columns : Site) (cells : List Standing) (requests : List Asked) (R : Run) (s : ℕ) (c d : Standing) → IsAt C seed columns cells requests R s c → d ≡ record c { link = option_map shut c.link } → IsRun C seed columns (slice_set cells s d) requests
shut_run C seed columns cells requests R s c d at is = kept_run C seed columns cells requests R s c d at (shut_seat C seed s c d at.seat is) (ap (λ (x : Standing). x.past) is)

pub fed_state : (C : Config) (seed : List ℕ) (columns : Site) (cells : List Standing) (requests : List Asked) (R : Run) (s : ℕ) (c d : Standing) (bytes : List ℕ) → IsAt C seed columns cells requests R s c → incarnation c.past ≢ 0 → d ≡ record c { link = option_map (fed bytes) c.link }
    → run_of C seed columns.seen (slice_set cells s d) requests ≡ at_stage R (given s bytes R.stage)
fed_state C seed columns cells requests R s c d bytes at some is =
    let seen : columns.seen ≡ R.stage.seen = ap (λ (x : Run). x.stage.seen) at.view in
    set_state C seed columns columns.seen cells requests R s c d _ at (fed_stand C seed s c d bytes at.seat some is)
    ∙ ap (λ (t : Stand). at_stage R (record R.stage { seen = columns.seen; stands = slice_set R.stage.stands s (record t { left = t.left ++ bytes }) })) at.stand_is
    ∙ ap (λ (J : Seen). at_stage R (record R.stage { seen = J; stands = slice_set R.stage.stands s (record (stand R.stage s) { left = (stand R.stage s).left ++ bytes }) })) seen

pub shut_state : (C : Config) (seed : List ℕ) (columns : Site) (cells : List Standing) (requests : List Asked) (R : Run) (s : ℕ) (c d : Standing) → IsAt C seed columns cells requests R s c → incarnation c.past ≢ 0 → d ≡ record c { link = option_map shut c.link }
    → run_of C seed columns.seen (slice_set cells s d) requests ≡ at_stage R (has_ended s R.stage)
shut_state C seed columns cells requests R s c d at some is =
    let seen : columns.seen ≡ R.stage.seen = ap (λ (x : Run). x.stage.seen) at.view in
    set_state C seed columns columns.seen cells requests R s c d _ at (shut_stand C seed s c d at.seat some is)
    ∙ ap (λ (t : Stand). at_stage R (record R.stage { seen = columns.seen; stands = slice_set R.stage.stands s (record t { has_ended = true }) })) at.stand_is
    ∙ ap (λ (J : Seen). at_stage R (record R.stage { seen = J; stands = slice_set R.stage.stands s (record (stand R.stage s) { has_ended = true }) })) seen

-- ---- what a cell shows that was retired, or superseded

pub closed_none : (c : Standing) (there : Stand) → stand_by c ≡ there → there.open_dialog ≡ None → c.open_dialog ≡ None
closed_none c there is none = none_open c.open_dialog (ap (λ (t : Stand). t.open_dialog) is ∙ none)

pub retired_booted : (c d : Standing) → d ≡ retired c → last_booted d.past ≡ last_booted c.past
retired_booted c d is = ap (λ (x : Standing). last_booted x.past) is ∙ by (incarnation c.past == 0)
  where
    by : (test : Bool) → last_booted (if test then c.past else cell.Retired ∷ c.past) ≡ last_booted c.past
    by true = refl
    by false = refl

pub retired_empty : (c d : Standing) → d ≡ retired c → incarnation d.past ≡ 0
retired_empty c d is = ap (λ (x : Standing). incarnation x.past) is ∙ retired_none c.past

pub retired_closed : (c d : Standing) → c.open_dialog ≡ None → d ≡ retired c → opened_by d.open_dialog ≡ None
retired_closed c d none is = ap (λ (x : Standing). opened_by x.open_dialog) is ∙ ap opened_by none

pub superseded_closed : (c d : Standing) (n : Option ℕ) (shown : ℕ) → IsSome n → n ≡ option_map (λ (x : Open). x.request) c.open_dialog → d ≡ supersedes c c.open_dialog shown → opened_by d.open_dialog ≡ None
superseded_closed c d n shown some asked is = ap (λ (x : Standing). opened_by x.open_dialog) is ∙ by c.open_dialog asked
  where
    by : (o : Option Open) → n ≡ option_map (λ (x : Open). x.request) o → opened_by (supersedes c o shown).open_dialog ≡ None
    by None e = absurd (none_some n e some)
    by (Some o) e = refl

-- ---- a cell that is booted

pub seat_self : (C : Config) (seed : List ℕ) (s : ℕ) (c : Standing) → IsSeat C seed s c → IsSeat c.config c.seed c.service c
seat_self C seed s c h = record { config_is = refl; seed_is = refl; service_is = refl; there = h.there; linked = h.linked; own = h.own; sent = h.sent }

pub seat_from : (C : Config) (seed : List ℕ) (s : ℕ) (c d : Standing) → IsSeat C seed s c → IsSeat c.config c.seed c.service d → IsSeat C seed s d
seat_from C seed s c d h k = record { config_is = k.config_is ∙ h.config_is; seed_is = k.seed_is ∙ h.seed_is; service_is = k.service_is ∙ h.service_is; there = k.there; linked = k.linked; own = k.own; sent = k.sent }

pub booted_most : (c d : Standing) (k : ℕ) → stand_by d ≡ booted_stand (stand_by c) k → last_booted c.past < k → last_booted d.past ≤ k
booted_most c d k is later = let e : last_booted d.past ≡ max k (last_booted c.past) = ap (λ (t : Stand). last_booted t.past) is in omega (arith, e, later)

-- what was booted at the cell is below the greatest that was begun
pub later_here : (C : Config) (seed : List ℕ) (columns : Site) (cells : List Standing) (requests : List Asked) (R : Run) (s : ℕ) (c : Standing) (k : ℕ) → IsAt C seed columns cells requests R s c → k ≡ begun columns.seen.launcher s
    → last_booted (stand R.stage s).past < begun R.stage.seen.launcher s → last_booted c.past < k
later_here C seed columns cells requests R s c k at is later =
    omega (arith, is, later, ap (λ (t : Stand). last_booted t.past) at.stand_is, ap (λ (x : Run). begun x.stage.seen.launcher s) at.view)
