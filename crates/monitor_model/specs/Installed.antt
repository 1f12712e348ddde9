-- That an incarnation asks pubd and oklogd behind its Install there. J is a past: the entries before the one in question, the newest first.
use Rattle.std.specs.Prelude.{◌≡◌, ◌⊎◌, ℕ, List, [], ◌∷◌}
use Rattle.okws_base.specs.Past.{Grant, Installs, Revokes, Leaves}
use Rattle.okws_base.specs.declared.journal.Entry.{Entry}
use Rattle.okws_plan.specs.declared.event.LogEvent.{LogEvent}
use Rattle.okws_plan.specs.declared.event.LogEvent.TheVariants as oklogd
use Rattle.okws_plan.specs.declared.event.PubdEvent.{PubdEvent}
use Rattle.okws_plan.specs.declared.event.PubdEvent.TheVariants as pubd
use Rattle.monitor_model.specs.Standing.{log_grant, pubd_grant}

-- What has incarnation k of s stand.
abbrev pub Stands : ℕ → ℕ → Grant → Type 0
Stands s k (Installs t j) = (t ≡ s) × (j ≡ k)
Stands s k (Revokes t) = ⊥
Stands s k Leaves = ⊥

-- Incarnation k of s was installed.
abbrev pub HasStood : {E : Type 0} → (E → Grant) → List (Entry E) → ℕ → ℕ → Type 0
HasStood grant [] s k = ⊥
HasStood grant (e ∷ J) s k = Stands s k (grant e.event) ⊎ HasStood grant J s k

-- A Drain and a Get stand above the Install of their incarnation.
abbrev pub PubdFollows : List (Entry PubdEvent) → PubdEvent → Type 0
PubdFollows J (pubd.Install s k) = Unit {0}
PubdFollows J (pubd.Revoke s k) = Unit {0}
PubdFollows J (pubd.Publish t content) = Unit {0}
PubdFollows J (pubd.Drain s k) = HasStood pubd_grant J s k
PubdFollows J (pubd.Get s k name) = HasStood pubd_grant J s k

-- A Log stands above the Install of its incarnation.
abbrev pub LogFollows : List (Entry LogEvent) → LogEvent → Type 0
LogFollows J (oklogd.Install s k) = Unit {0}
LogFollows J (oklogd.Revoke s k) = Unit {0}
LogFollows J (oklogd.Log s k text) = HasStood log_grant J s k

-- Each entry follows so upon those before it.
abbrev pub EachFollows : {E : Type 0} → (List (Entry E) → E → Type 0) → List (Entry E) → Type 0
EachFollows follows [] = Unit {0}
EachFollows follows (e ∷ J) = EachFollows follows J × follows J e.event
