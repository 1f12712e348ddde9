use Rattle.std.proofs.Common.{◌≡◌, ◌∙◌, ap, ℕ, suc, ◌+◌, ◌-◌, ◌<◌, ◌≤◌, Bool, true, false, List, [], ◌∷◌, ◌++◌, Option, Some, None, map, length, get_or, refl, arith}
use Rattle.std.specs.Prelude.{if◌then◌else◌}
use Rattle.okws_base.specs.Past.{last_by}
use Rattle.okws_plan.specs.Configuration.{grants_at, numbered_from, proxies_of, cols, all_places}
use Rattle.okws_plan.specs.declared.configuration.Config.{Config}
use Rattle.okws_plan.specs.declared.script.Place.{Place}
use Rattle.okws_plan.specs.declared.script.Place.TheVariants.{Proxy, Pubd, Oklogd}
use Rattle.monitor_model.specs.Cell.{boot_frame, last_booted}
use Rattle.monitor_model.specs.Launcher.{begun}
use Rattle.monitor_model.specs.Script.{installed, installed_all, revoked, revoked_all, superseded_text, boot_text, booting_text}
use Rattle.monitor_model.specs.Seen.{proxy_past}
use Rattle.monitor_model.specs.Stage.{Stage, Opened, stand, empty_stand, heard_line}
use Rattle.monitor_model.specs.Standing.{proxy_grant}
use Rattle.okws_play.specs.Run.{Run, at_stage, IsOnlyAt, IsAtProxies, KeepsCells, MayLaunch}
use Rattle.service_cell.proofs.Granted.{granted_from, grants_first, skips_first}

-- what is still to be installed at the proxies from i on makes all of it
pub install_more : (C : Config) (seed : List ℕ) (s i n : ℕ) (now next all : Stage) → i < n → next ≡ (if grants_at C s i then installed seed s (Proxy i) now else now)
    → installed_all seed s (map Proxy (granted_from C s i n)) now ≡ all → installed_all seed s (map Proxy (granted_from C s (i + 1) n)) next ≡ all
install_more C seed s i n now next all below is so = by (grants_at C s i) refl is
  where
    by : (b : Bool) → grants_at C s i ≡ b → next ≡ (if b then installed seed s (Proxy i) now else now) → installed_all seed s (map Proxy (granted_from C s (i + 1) n)) next ≡ all
    by true h e = rw e (rw (grants_first C s i n below h) at so)
    by false h e = rw e (rw (skips_first C s i n below h) at so)

pub install_end : (C : Config) (seed : List ℕ) (s i n : ℕ) (now : Stage) → n ≤ i → installed_all seed s (map Proxy (granted_from C s i n)) now ≡ now
install_end C seed s i n now h = let e : n - i ≡ 0 = omega (arith, h) in rw e refl

-- the same of what is still to be revoked
pub revoke_more : (s i n : ℕ) (now all : Stage) → i < n → revoked_all s (map Proxy (numbered_from i (n - i))) now ≡ all
    → revoked_all s (map Proxy (numbered_from (i + 1) (n - (i + 1)))) (revoked s (Proxy i) now) ≡ all
revoke_more s i n now all below so = let e : n - i ≡ suc (n - (i + 1)) = omega (arith, below) in rw e at so

pub revoke_end : (s i n : ℕ) (now : Stage) → n ≤ i → revoked_all s (map Proxy (numbered_from i (n - i))) now ≡ now
revoke_end s i n now h = let e : n - i ≡ 0 = omega (arith, h) in rw e refl

-- one list of columns after another
pub install_both : (seed : List ℕ) (s : ℕ) (xs ys : List Place) (S : Stage) → installed_all seed s (xs ++ ys) S ≡ installed_all seed s ys (installed_all seed s xs S)
install_both seed s [] ys S = refl
install_both seed s (at ∷ xs) ys S = install_both seed s xs ys (installed seed s at S)

pub revoke_both : (s : ℕ) (xs ys : List Place) (S : Stage) → revoked_all s (xs ++ ys) S ≡ revoked_all s ys (revoked_all s xs S)
revoke_both s [] ys S = refl
revoke_both s (at ∷ xs) ys S = revoke_both s xs ys (revoked s at S)

-- what changed at one proxy, after what changed at the proxies before it
pub only_more : (p s : ℕ) (S T U : Stage) → IsAtProxies S T → IsOnlyAt p s T U → IsAtProxies S U
only_more p s S T U h k = record {
  launcher_is = rw k.launcher_is h.launcher_is;
  pubd_is = rw k.pubd_is h.pubd_is;
  log_is = rw k.log_is h.log_is;
  stands_are = rw k.stands_are h.stands_are;
  requests_are = rw k.requests_are h.requests_are;
}

-- nothing later was installed at the proxies that are left
pub later_more : (p s : ℕ) (T U : Stage) → ((q : ℕ) → p ≤ q → last_by proxy_grant (proxy_past T.seen.proxies q) s < begun T.seen.launcher s) → IsOnlyAt p s T U
    → (q : ℕ) → p + 1 ≤ q → last_by proxy_grant (proxy_past U.seen.proxies q) s < begun U.seen.launcher s
later_more p s T U h k q le = rw (k.others q (omega (arith, le)), k.launcher_is) (h q (omega (arith, le)))

-- a run that is changed again is the run that it was, at another state
pub same_more : (R S T : Run) (X : Stage) → S ≡ at_stage R S.stage → T ≡ at_stage S X → T ≡ at_stage R T.stage
same_more R S T X e f = let c : S.config ≡ R.config = ap (λ v. v.config) e in let d : S.seed ≡ R.seed = ap (λ v. v.seed) e in rw (f, c, d) refl

-- the run at a state to which it came
pub done_is : (R S : Run) (X : Stage) → S ≡ at_stage R S.stage → S.stage ≡ X → S ≡ at_stage R X
done_is R S X e f = e ∙ ap (at_stage R) f

pub install_step : (R S T : Run) (s i : ℕ) (all : Stage) → S ≡ at_stage R S.stage → T ≡ at_stage S (if grants_at S.config s i then installed S.seed s (Proxy i) S.stage else S.stage)
    → i < length R.config.proxies → installed_all R.seed s (map Proxy (granted_from R.config s i (length R.config.proxies))) S.stage ≡ all
    → installed_all R.seed s (map Proxy (granted_from R.config s (i + 1) (length R.config.proxies))) T.stage ≡ all
install_step R S T s i all e f below so =
    let c : S.config ≡ R.config = ap (λ v. v.config) e in
    let d : S.seed ≡ R.seed = ap (λ v. v.seed) e in
    let next : T.stage ≡ (if grants_at R.config s i then installed R.seed s (Proxy i) S.stage else S.stage) = rw (c, d) at (ap (λ v. v.stage) f) in
    install_more R.config R.seed s i (length R.config.proxies) S.stage T.stage all below next so

pub revoke_step : (R S T : Run) (s i : ℕ) (all : Stage) → T ≡ at_stage S (revoked s (Proxy i) S.stage)
    → i < length R.config.proxies → revoked_all s (map Proxy (numbered_from i (length R.config.proxies - i))) S.stage ≡ all
    → revoked_all s (map Proxy (numbered_from (i + 1) (length R.config.proxies - (i + 1)))) T.stage ≡ all
revoke_step R S T s i all f below so = rw f (revoke_more s i (length R.config.proxies) S.stage all below so)

pub keeps_more : (S T U : Stage) → KeepsCells S T → KeepsCells T U → KeepsCells S U
keeps_more S T U h k = record { launcher_is = rw k.launcher_is h.launcher_is; stands_are = rw k.stands_are h.stands_are; requests_are = rw k.requests_are h.requests_are }

-- installed along all columns
pub all_installed : (R A B D : Run) (s : ℕ) → A ≡ at_stage R (installed_all R.seed s (map Proxy (proxies_of R.config s)) R.stage) → B ≡ at_stage A (installed A.seed s Pubd A.stage)
    → D ≡ at_stage B (installed B.seed s Oklogd B.stage) → D ≡ at_stage R (installed_all R.seed s (cols R.config s) R.stage)
all_installed R A B D s a b d = rw (d, b, a, install_both R.seed s (map Proxy (proxies_of R.config s)) (Pubd ∷ Oklogd ∷ []) R.stage) refl

pub all_keeps : (R A B D : Run) (s : ℕ) → IsAtProxies R.stage A.stage → B ≡ at_stage A (installed A.seed s Pubd A.stage) → D ≡ at_stage B (installed B.seed s Oklogd B.stage)
    → KeepsCells R.stage D.stage
all_keeps R A B D s a b d = rw (d, b) (record { launcher_is = a.launcher_is; stands_are = a.stands_are; requests_are = a.requests_are })

-- revoked at all columns
pub all_revoked : (R A B D : Run) (s : ℕ) → A ≡ at_stage R (revoked_all s (map Proxy (numbered_from 0 (length R.config.proxies))) R.stage) → B ≡ at_stage A (revoked s Pubd A.stage)
    → D ≡ at_stage B (revoked s Oklogd B.stage) → D ≡ at_stage R (revoked_all s (all_places R.config) R.stage)
all_revoked R A B D s a b d = rw (d, b, a, revoke_both s (map Proxy (numbered_from 0 (length R.config.proxies))) (Pubd ∷ Oklogd ∷ []) R.stage) refl

-- what is superseded is told by the requests and the launcher's journal
pub superseded_same : (s : ℕ) (o : Option Opened) (S T : Stage) → T.requests ≡ S.requests → T.seen.launcher ≡ S.seen.launcher → superseded_text s o T ≡ superseded_text s o S
superseded_same s None S T e f = refl
superseded_same s (Some opened) S T e f = rw e refl

pub boot_same : (C D : Config) (seed other : List ℕ) (s : ℕ) (S T : Stage) → C ≡ D → seed ≡ other → S.seen.launcher ≡ T.seen.launcher → boot_text C seed s S ≡ boot_text D other s T
boot_same C D seed other s S T c d e =
    ap (λ v. boot_text v seed s S) c ∙ ap (λ v. boot_text D v s S) d ∙ ap (λ J. heard_line D s (begun J s) (boot_frame D other s (begun J s))) e

pub booting_same : (C : Config) (seed : List ℕ) (s : ℕ) (S T : Stage) → KeepsCells S T → booting_text C seed s T ≡ booting_text C seed s S
booting_same C seed s S T k =
    let a : superseded_text s (stand T s).open_dialog T ≡ superseded_text s (stand S s).open_dialog S =
    ap (λ v. superseded_text s (get_or v s empty_stand).open_dialog T) k.stands_are ∙ superseded_same s (stand S s).open_dialog S T k.requests_are k.launcher_is in
    ap (λ x. x ++ boot_text C seed s T) a ∙ ap (λ y. superseded_text s (stand S s).open_dialog S ++ y) (boot_same C C seed seed s T S refl refl k.launcher_is)

-- what a boot prints, in two parts
pub boot_prints : (R A B : Run) (s : ℕ) (X Y : Stage) → A ≡ at_stage R X → A.stage.seen.launcher ≡ R.stage.seen.launcher → B ≡ at_stage A Y → B.stage.seen.launcher ≡ A.stage.seen.launcher
    → superseded_text s (stand R.stage s).open_dialog R.stage ++ boot_text B.config B.seed s B.stage ≡ booting_text R.config R.seed s R.stage
boot_prints R A B s X Y a e b f =
    ap (λ y. superseded_text s (stand R.stage s).open_dialog R.stage ++ y)
    (boot_same B.config R.config B.seed R.seed s B.stage R.stage (ap (λ v. v.config) b ∙ ap (λ v. v.config) a) (ap (λ v. v.seed) b ∙ ap (λ v. v.seed) a) (f ∙ e))

-- what the rest of a launch prints
pub launch_prints : (R A : Run) (s : ℕ) (X : Stage) → A ≡ at_stage R X → KeepsCells R.stage A.stage → booting_text A.config A.seed s A.stage ≡ booting_text R.config R.seed s R.stage
launch_prints R A s X a k =
    ap (λ v. booting_text v A.seed s A.stage) (ap (λ v. v.config) a) ∙ ap (λ v. booting_text R.config v s A.stage) (ap (λ v. v.seed) a)
    ∙ booting_same R.config R.seed s R.stage A.stage k

-- what a relaunch prints, in two parts
pub relaunch_prints : (R B D : Run) (s : ℕ) (X Y : Stage) → B ≡ at_stage R X → D ≡ at_stage B Y → (stand D.stage s).open_dialog ≡ None → D.stage.seen.launcher ≡ B.stage.seen.launcher
    → superseded_text s (stand B.stage s).open_dialog B.stage ++ booting_text D.config D.seed s D.stage ≡ booting_text R.config R.seed s X
relaunch_prints R B D s X Y b d closed e =
    let rest : booting_text D.config D.seed s D.stage ≡ boot_text R.config R.seed s B.stage =
    ap (λ o. superseded_text s o D.stage ++ boot_text D.config D.seed s D.stage) closed
    ∙ boot_same D.config R.config D.seed R.seed s D.stage B.stage (ap (λ v. v.config) d ∙ ap (λ v. v.config) b) (ap (λ v. v.seed) d ∙ ap (λ v. v.seed) b) e in
    ap (λ y. superseded_text s (stand B.stage s).open_dialog B.stage ++ y) rest ∙ ap (λ S. booting_text R.config R.seed s S) (ap (λ v. v.stage) b)

-- what a relaunch prints before the rest of it
pub taken_prints : (R B : Run) (s : ℕ) (X : Stage) → B ≡ at_stage R X → superseded_text s (stand B.stage s).open_dialog B.stage ++ boot_text R.config R.seed s X ≡ booting_text R.config R.seed s X
taken_prints R B s X b = ap (λ (S : Stage). superseded_text s (stand S s).open_dialog S ++ boot_text R.config R.seed s X) (ap (λ v. v.stage) b)

-- what may be launched may be launched where nothing was begun, installed or booted since
pub may_kept : (s : ℕ) (S T : Stage) → T.seen.launcher ≡ S.seen.launcher → T.seen.proxies ≡ S.seen.proxies → T.seen.pubd ≡ S.seen.pubd → T.seen.oklogd ≡ S.seen.oklogd → last_booted (stand T s).past ≡ last_booted (stand S s).past → MayLaunch s S → MayLaunch s T
may_kept s S T l p q o b may = record {
  first = rw l may.first;
  at_proxies = λ i. rw (l, p) (may.at_proxies i);
  at_pubd = rw (l, q) may.at_pubd;
  at_log = rw (l, o) may.at_log;
  booted = rw (l, b) may.booted;
}
