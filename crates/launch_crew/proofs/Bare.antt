-- Links with notes of what was installed, and without them.
use Rattle.std.proofs.Common.{if◌then◌else◌, ◌≡◌, ◌⊎◌, inl, inr, ◌∙◌, ℕ, ◌<◌, Bool, List, [], ◌∷◌, Option, Some, None, refl, sym, ap, subst, eq-eqb, ne_eqb}
use mathlib.Core.Logic.{dite}
use native.Mathlib.Decide.{ℕ_discrete}
use Rattle.std.specs.Io.KnownBytes.{Consumes}
use Rattle.std.specs.Prelude.{Result, Ok, Err, IfSome, is_some, option_map}
use Rattle.okws_base.specs.Past.{Grant, Installs as Grants, Leaves, Revokes, standing_by, standing_after}
use Rattle.okws_base.specs.declared.journal.Entry.{Entry}
use Rattle.okws_outer.specs.Families.{child_named}
use Rattle.okws_outer.specs.Wire.{Wire}
use Rattle.okws_outer.specs.declared.children.ChildName.{ChildName}
use Rattle.okws_plan.specs.declared.configuration.Config.{Config}
use Rattle.okws_plan.specs.declared.event.ProxyEvent.{ProxyEvent}
use Rattle.okws_plan.specs.declared.event.ProxyEvent.TheVariants as event
use Rattle.okws_plan.specs.declared.script.Place.TheVariants.{Oklogd, Proxy, Pubd}
use Rattle.frame_codec.specs.Spelling.{server_spelling}
use Rattle.monitor_model.specs.Booting.{Installs, WasInstalled}
use Rattle.monitor_model.specs.Cell.{boot_frame}
use Rattle.monitor_model.specs.Installed.{HasStood, Stands}
use Rattle.monitor_model.specs.Seen.{proxy_past}
use Rattle.monitor_model.specs.Standing.{log_grant, proxy_grant, pubd_grant}
use Rattle.site_locks.specs.Heard.{AreInstalled, ColumnsSeen, columns_of}
use Rattle.site_locks.specs.Sat.{Sat}
use Rattle.launch_crew.specs.Acts.{BootsCell, IsBare}
use Rattle.launch_crew.specs.Crews.{StandsAt}
use Rattle.launch_crew.specs.Finished.{IsFront}
use Rattle.launch_crew.specs.Recorded.{Recorded}
use Rattle.launch_crew.specs.declared.answer.Missed.{Missed}

some_name : (a b : ChildName) → Some a ≡ Some b → a ≡ b
some_name a b e = cc

-- the incarnation to whose child the link leads is the one that was installed
pub told_of : (C : Config) (s k : ℕ) (whose : Option ChildName) (notes : ColumnsSeen) → whose ≡ Some (child_named s k) → AreInstalled C s k notes → (t j : ℕ) → whose ≡ Some (child_named t j) → AreInstalled C t j notes
told_of C s k whose notes is all t j at =
    let same : child_named s k ≡ child_named t j = some_name (child_named s k) (child_named t j) (sym is ∙ at) in
    subst (λ (n : ChildName). AreInstalled C n.service n.incarnation notes) same all

-- what stands was installed
some_is : (a b : ℕ) → Some a ≡ Some b → a ≡ b
some_is a b e = cc

none_is : (k : ℕ) → None ≡ Some k → ⊥
none_is k e = absurd (cc)

stood_step : (s k : ℕ) (v : ProxyEvent) (J : List (Entry ProxyEvent)) → (standing_by proxy_grant J s ≡ Some k → WasInstalled J s k) → standing_after (proxy_grant v) s (standing_by proxy_grant J s) ≡ Some k → Installs s k v ⊎ WasInstalled J s k
stood_step s k (event.Install t j token) J rest h = dite (ℕ_discrete t s)
    (λ same. inl (same, some_is j k (subst (λ (b : Bool). (if b then Some j else standing_by proxy_grant J s) ≡ Some k) (eq-eqb t s same) h)))
    (λ other. inr (rest (subst (λ (b : Bool). (if b then Some j else standing_by proxy_grant J s) ≡ Some k) (ne_eqb t s other) h)))
stood_step s k (event.Revoke t j) J rest h = dite (ℕ_discrete t s)
    (λ same. absurd (none_is k (subst (λ (b : Bool). (if b then None else standing_by proxy_grant J s) ≡ Some k) (eq-eqb t s same) h)))
    (λ other. inr (rest (subst (λ (b : Bool). (if b then None else standing_by proxy_grant J s) ≡ Some k) (ne_eqb t s other) h)))
stood_step s k (event.Open t j shown) J rest h = inr (rest h)
stood_step s k (event.Call call mark) J rest h = inr (rest h)

stood : (J : List (Entry ProxyEvent)) (s k : ℕ) → standing_by proxy_grant J s ≡ Some k → WasInstalled J s k
stood [] s k h = absurd (none_is k h)
stood (e ∷ J) s k h = stood_step s k e.event J (stood J s k) h

-- what stands by its grants was installed
stands_step : (s k : ℕ) (v : Grant) (before : Option ℕ) (Rest : Type 0) → (before ≡ Some k → Rest) → standing_after v s before ≡ Some k → Stands s k v ⊎ Rest
stands_step s k (Grants t j) before Rest rest h = dite (ℕ_discrete t s)
    (λ same. inl (same, some_is j k (subst (λ (b : Bool). (if b then Some j else before) ≡ Some k) (eq-eqb t s same) h)))
    (λ other. inr (rest (subst (λ (b : Bool). (if b then Some j else before) ≡ Some k) (ne_eqb t s other) h)))
stands_step s k (Revokes t) before Rest rest h = dite (ℕ_discrete t s)
    (λ same. absurd (none_is k (subst (λ (b : Bool). (if b then None else before) ≡ Some k) (eq-eqb t s same) h)))
    (λ other. inr (rest (subst (λ (b : Bool). (if b then None else before) ≡ Some k) (ne_eqb t s other) h)))
stands_step s k Leaves before Rest rest h = inr (rest h)

has_stood : {E : Type 0} (grant : E → Grant) (J : List (Entry E)) (s k : ℕ) → standing_by grant J s ≡ Some k → HasStood grant J s k
has_stood grant [] s k h = absurd (none_is k h)
has_stood grant (e ∷ J) s k h = stands_step s k (grant e.event) (standing_by grant J s) (HasStood grant J s k) (has_stood grant J s k) h

pub stands_installed : (C : Config) (s k : ℕ) (a : Sat) → StandsAt C s k a → AreInstalled C s k (columns_of a)
stands_installed C s k a h = record {
  proxies = λ p lt granted. stood (proxy_past a.proxies p) s k (h (Proxy p) (lt, granted));
  pubd = has_stood pubd_grant a.pubd s k (h Pubd tt);
  oklogd = has_stood log_grant a.oklogd s k (h Oklogd tt);
}

module _ {L : Type 0} (wire : L → Wire) where
  mapped_there : (o : Option L) → is_some (option_map wire o) ≡ is_some o
  mapped_there None = refl
  mapped_there (Some l) = refl

  kept_map : (o : Option Wire) → option_map (λ (w : Wire). w) o ≡ o
  kept_map None = refl
  kept_map (Some w) = refl

  -- a link without its notes is there where that with them was
  pub bare_there : (noted : Option Wire) (link : Option L) → option_map wire link ≡ noted → is_some link ≡ is_some noted
  bare_there noted link is = sym (mapped_there link) ∙ ap is_some is

  pub bare_holds : (noted : Option Wire) (link : Option L) (P : Wire → Type 0) → option_map wire link ≡ noted → IfSome (option_map (λ (w : Wire). w) noted) P → IfSome (option_map wire link) P
  bare_holds noted link P is h = subst (λ (o : Option Wire). IfSome o P) (kept_map noted ∙ sym is) h

  -- a cell that was booted over a link with notes
  pub bare_boots : (C : Config) (seed : List ℕ) (s k : ℕ) (r : Result (Unit {0}) (Missed × Wire)) (q : Result (Unit {0}) (Missed × L)) (a b : Recorded) → IsBare wire r q → BootsCell (λ (w : Wire). w) C seed s k r a b → BootsCell wire C seed s k q a b
  bare_boots C seed s k (Ok u) (Err e) a b is h = absurd is
  bare_boots C seed s k (Err d) (Ok v) a b is h = absurd is
  bare_boots C seed s k (Ok u) (Ok v) a b is h = record {
    columns = h.columns;
    only = h.only;
    most = h.most;
    ok = h.ok;
    err = tt;
    behind = h.behind;
    added = h.added;
    kept = tt;
    linked = h.linked;
    unlinked = tt;
    out = h.out;
    last = h.last;
    front = tt;
    whose = tt;
    untaken = tt;
    cause = tt;
    room = h.room;
  }
  bare_boots C seed s k (Err d) (Err e) a b is h = record {
    columns = h.columns;
    only = h.only;
    most = h.most;
    ok = tt;
    err = h.err;
    behind = h.behind;
    added = tt;
    kept = h.kept;
    linked = tt;
    unlinked = h.unlinked;
    out = h.out;
    last = tt;
    front = subst (λ (w : Wire). IsFront (server_spelling (boot_frame C seed s k)) w.given) (sym is.1) h.front;
    whose = subst (λ (w : Wire). w.whose ≡ Some (child_named s k)) (sym is.1) h.whose;
    untaken = subst (λ (w : Wire). Consumes w.came w.left []) (sym is.1) h.untaken;
    cause = λ failed. subst (λ (w : Wire). 0 < w.faults) (sym is.1) (h.cause (sym is.0 ∙ failed));
    room = h.room;
  }
