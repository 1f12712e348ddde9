-- What the template column keeps is what its past says.
use Rattle.std.specs.Prelude.{◌≡◌, ℕ, ◌<◌, ◌≤◌, List, Option, Some, is_some, true, length}
use Rattle.okws_base.specs.Runs.{Each}
use Rattle.okws_base.specs.declared.journal.Entry.{Entry}
use Rattle.okws_base.specs.declared.limit.TheConstants.{MOST_EDITIONS, MOST_TEMPLATES}
use Rattle.okws_plan.specs.declared.configuration.Config.{Config}
use Rattle.okws_plan.specs.declared.event.PubdEvent.{PubdEvent}
use Rattle.grant_column.specs.Granted.{Granted, service_count}
use Rattle.monitor_model.specs.Columns.{PubdLaw}
use Rattle.monitor_model.specs.Pubd.{edition, text, drained, news}
use Rattle.pubd_core.specs.Kept.{current_in, number_of, text_of, total}
use Rattle.pubd_core.specs.Readers.{may_stand, heard_in, news_in, is_wanted}
use Rattle.pubd_core.specs.declared.kept.Edition.{Edition}
use Rattle.pubd_core.specs.declared.kept.Publication.{Publication}
use Rattle.pubd_core.specs.declared.readers.Reader.{Reader}

-- Each edition came before the first `count` publications were over.
abbrev pub AreBelow : ℕ → List Publication → Type 0
AreBelow count P = Each (λ (p : Publication). p.place < count) P

-- What the template column keeps beside its head is what its past says, and each entry fits those before it.
pub record Tied (C : Config) (J : List (Entry PubdEvent)) (g : Granted) (currents : List (Option Edition)) (count : ℕ) (P : List Publication) (R : List Reader) : Type 0 where
  pub few : length C.templates ≤ MOST_TEMPLATES
  pub services : service_count g ≡ length C.services
  pub templates : length currents ≡ length C.templates
  pub law : PubdLaw C J
  pub edition_is : (t : ℕ) → number_of (current_in currents t) ≡ edition J t
  pub text_is : (t : ℕ) → text_of (current_in currents t) ≡ text J t
  pub counted : (t : ℕ) (e : Edition) → current_in currents t ≡ Some e → 0 < e.number
  pub most : (t : ℕ) → number_of (current_in currents t) ≤ MOST_EDITIONS
  pub count_is : count ≡ total currents
  pub below : AreBelow count P
  -- each edition that is kept is still due to a reader, and a reader that is kept stands or may yet stand
  pub wanted_are : Each (λ (p : Publication). is_wanted C R p ≡ true) P
  pub readers_may : (s k m : ℕ) → heard_in R s k ≡ Some m → may_stand J s k ≡ true
  pub drained_is : (s k : ℕ) → may_stand J s k ≡ true → is_some (heard_in R s k) ≡ drained J s k
  pub heard_are : (s k m : ℕ) → heard_in R s k ≡ Some m → m ≤ count
  pub news_is : (s k m : ℕ) → may_stand J s k ≡ true → heard_in R s k ≡ Some m → news_in C s m P ≡ news C J s k
