-- What a call leaves of a cell at which no dialog is open.
use Rattle.std.proofs.Common.{◌≡◌, ◌≢◌, inl, inr, ℕ, ◌<◌, ◌≤◌, Bool, true, false, List, [], ◌∷◌, Option, Some, None, refl, ap, sym, ◌∙◌, subst, arith, eq-eqb}
use Rattle.std.specs.Prelude.{IfSome, if◌then◌else◌, ◌==◌, is_some, max, option_map}
use Rattle.std.proofs.lemmas.Bool.{false≢true}
use Rattle.okws_outer.specs.Streams.{Rose}
use Rattle.okws_base.specs.Turns.{AddsBy}
use Rattle.okws_plan.specs.declared.configuration.Config.{Config}
use Rattle.frame_codec.specs.Spelling.{server_spelling}
use Rattle.frame_codec.specs.declared.frame.ServerFrame.{ServerFrame}
use Rattle.frame_codec.specs.declared.frame.ServiceFrame.TheVariants as said
use Rattle.okws_outer.specs.Families.{IsNewLink, child_named}
use Rattle.okws_outer.specs.Wire.{Wire}
use Rattle.monitor_model.specs.declared.record.CellEvent.{CellEvent}
use Rattle.monitor_model.specs.declared.record.CellEvent.TheVariants as cell
use Rattle.monitor_model.specs.declared.record.End.{End}
use Rattle.monitor_model.specs.declared.record.End.TheVariants as end
use Rattle.monitor_model.specs.declared.record.Item.{Item}
use Rattle.monitor_model.specs.declared.record.Item.TheVariants.{Said}
use Rattle.monitor_model.specs.declared.record.Own.TheVariants as own
use Rattle.monitor_model.specs.Cell.{CellLaw, incarnation, last_booted}
use Rattle.monitor_model.specs.Sent.{AreSent, broken_in, is_link_fault, or_else}
use Rattle.monitor_model.specs.declared.sent.Sent.{Sent}
use Rattle.monitor_model.specs.Seen.{Seen, noted}
use Rattle.service_cell.specs.Asking.{Asker}
use Rattle.site_cells.specs.Held.{by_event, events_in, is_booted, newest, with_boot, with_dialog, is_broken, CountsFaults, HasCounted, IsLinkOf, IsShut, LeadsTo}
use Rattle.service_cell.specs.Dialogs.{Dialogs, GoesOver, HasDialog}
use Rattle.service_cell.specs.Standing.{Standing, all_sent, finished, speaker, Passes, Fails}
use Rattle.service_cell.specs.Steps.{Boots, crash_end, retired}
use Rattle.service_cell.specs.declared.answer.Booting.{Booting}
use Rattle.service_cell.specs.declared.answer.Booting.TheVariants as booting
use Rattle.service_cell.specs.declared.answer.Spoken.{Spoken}
use Rattle.service_cell.specs.declared.answer.Spoken.TheVariants as spoken
use Rattle.service_cell.proofs.Sending.{is_last, unbroken}
use Rattle.site_cells.specs.Taken.{IsTaken}
use Rattle.site_cells.proofs.Taken.{bad_stop, boot_taken, goes_taken, missed_taken}

-- The same cell, at which number w may have entered something, from E to F; number n launches.
pub record Keeps (n w : ℕ) (E F : List CellEvent) (c d : Standing) : Type 0 where
  pub config_is : d.config ≡ c.config
  pub seed_is : d.seed ≡ c.seed
  pub service_is : d.service ≡ c.service
  pub open_is : c.open_dialog ≡ None → d.open_dialog ≡ None
  pub past_is : c.past ≡ events_in E → d.past ≡ events_in F
  pub link_is : is_some c.link ≡ is_booted E → is_some d.link ≡ is_booted F
  pub whose : LeadsTo c.service c.past c.link → LeadsTo d.service d.past d.link
  pub counted : HasCounted c.past c.link → HasCounted d.past d.link
  pub taken : IsTaken c.past c.link → IsTaken d.past d.link
  pub adds : AddsBy (by_event n) w E F

pub still_shut : (C : Config) (seed : List ℕ) (n w : ℕ) (E F : List CellEvent) (c d : Standing) → IsShut C seed E c → Keeps n w E F c d → IsShut C seed F d
still_shut C seed n w E F c d shut keeps = record {
  closed = keeps.open_is shut.closed;
  config_is = keeps.config_is ∙ shut.config_is;
  seed_is = keeps.seed_is ∙ shut.seed_is;
  past_is = keeps.past_is shut.past_is;
  link_is = keeps.link_is shut.link_is;
  whose = keeps.whose shut.whose;
  counted = keeps.counted shut.counted;
  taken = keeps.taken shut.taken;
}

-- ---- the link stays where a dialog goes over it

passes_link : (old new : Option Wire) (taken put : List ℕ) → Passes old new taken put → is_some new ≡ is_some old
passes_link None new taken put h = absurd h
passes_link (Some wire) None taken put h = absurd h
passes_link (Some wire) (Some now) taken put h = refl

fails_link : (old new : Option Wire) (taken put due : List ℕ) → Fails old new taken put due → is_some new ≡ is_some old
fails_link None new taken put due h = absurd h
fails_link (Some wire) None taken put due h = absurd h
fails_link (Some wire) (Some now) taken put due h = refl

goes_link : (old new : Option Wire) (since left due : List ℕ) (items : List Item) (how : End) → GoesOver old new since left due items how → is_some new ≡ is_some old
goes_link old new since left due items end.Reply h = passes_link old new _ _ h
goes_link old new since left due items (end.Superseded shown) (inl h) = ap is_some h.1
goes_link old new since left due items (end.Superseded shown) (inr h) = passes_link old new _ _ h
goes_link old new since left due items end.BadFrame h = passes_link old new _ _ h.0
goes_link old new since left due items end.Ended h = passes_link old new _ _ h.0
goes_link old new since left due items end.LinkFault h = fails_link old new _ _ due h.1
goes_link old new since left due items end.FrameLimit h = passes_link old new _ _ h
goes_link old new since left due items end.Starved h = passes_link old new _ _ h.1

-- ---- it leads to the same child

leads_on : (s : ℕ) (J K : List CellEvent) (link : Option Wire) → last_booted K ≡ last_booted J → LeadsTo s J link → LeadsTo s K link
leads_on s J K None same leads = tt
leads_on s J K (Some wire) same leads = leads ∙ ap (λ (k : ℕ). Some (child_named s k)) (sym same)

passes_leads : (s : ℕ) (J K : List CellEvent) (old new : Option Wire) (taken put : List ℕ) → last_booted K ≡ last_booted J → Passes old new taken put → LeadsTo s J old → LeadsTo s K new
passes_leads s J K None new taken put same h leads = absurd h
passes_leads s J K (Some wire) None taken put same h leads = absurd h
passes_leads s J K (Some wire) (Some now) taken put same h leads = h.whose ∙ (leads ∙ ap (λ (k : ℕ). Some (child_named s k)) (sym same))

fails_leads : (s : ℕ) (J K : List CellEvent) (old new : Option Wire) (taken put due : List ℕ) → last_booted K ≡ last_booted J → Fails old new taken put due → LeadsTo s J old → LeadsTo s K new
fails_leads s J K None new taken put due same h leads = absurd h
fails_leads s J K (Some wire) None taken put due same h leads = absurd h
fails_leads s J K (Some wire) (Some now) taken put due same h leads = h.whose ∙ (leads ∙ ap (λ (k : ℕ). Some (child_named s k)) (sym same))

goes_leads : (s : ℕ) (J K : List CellEvent) (old new : Option Wire) (since left due : List ℕ) (items : List Item) (how : End) → last_booted K ≡ last_booted J → GoesOver old new since left due items how → LeadsTo s J old → LeadsTo s K new
goes_leads s J K old new since left due items end.Reply same h leads = passes_leads s J K old new _ _ same h leads
goes_leads s J K old new since left due items (end.Superseded shown) same (inl h) leads = subst (LeadsTo s K) (sym h.1) (leads_on s J K old same leads)
goes_leads s J K old new since left due items (end.Superseded shown) same (inr h) leads = passes_leads s J K old new _ _ same h leads
goes_leads s J K old new since left due items end.BadFrame same h leads = passes_leads s J K old new _ _ same h.0 leads
goes_leads s J K old new since left due items end.Ended same h leads = passes_leads s J K old new _ _ same h.0 leads
goes_leads s J K old new since left due items end.LinkFault same h leads = fails_leads s J K old new _ _ due same h.1 leads
goes_leads s J K old new since left due items end.FrameLimit same h leads = passes_leads s J K old new _ _ same h leads
goes_leads s J K old new since left due items end.Starved same h leads = passes_leads s J K old new _ _ same h.1 leads

-- ---- the link counts its fault

same_either : {A : Type 0} (b : Bool) (x : A) → (if b then x else x) ≡ x
same_either true x = refl
same_either false x = refl

-- a dialog that ended otherwise breaks nothing
unbroken_by : (J : List CellEvent) (w : ℕ) (items : List Item) (due : List ℕ) (how : End) → is_link_fault how ≡ false → is_broken (cell.Dialog (record { worker = w; items = items; end = how; due = due }) ∷ J) ≡ is_broken J
unbroken_by J w items due how other =
    ap (λ (b : Bool). is_some (if incarnation J == last_booted J then or_else (if b then Some due else None) (broken_in (last_booted J) J) else broken_in (last_booted J) J)) other
    ∙ ap is_some (same_either (incarnation J == last_booted J) (broken_in (last_booted J) J))

some_rose : (a b : ℕ) → Rose a b → 0 < b
some_rose a b rose = omega (arith, rose)

counted_as : (J K : List CellEvent) (link : Option Wire) → is_broken K ≡ is_broken J → HasCounted J link → HasCounted K link
counted_as J K None same counted = tt
counted_as J K (Some wire) same counted = subst (λ (b : Bool). CountsFaults b wire.faults) (sym same) counted

passes_counts : (J K : List CellEvent) (old new : Option Wire) (taken put : List ℕ) → is_broken K ≡ is_broken J → Passes old new taken put → HasCounted J old → HasCounted K new
passes_counts J K None new taken put same h counted = absurd h
passes_counts J K (Some wire) None taken put same h counted = absurd h
passes_counts J K (Some wire) (Some now) taken put same h counted = subst (λ (n : ℕ). CountsFaults (is_broken K) n) (sym h.faults) (subst (λ (b : Bool). CountsFaults b wire.faults) (sym same) counted)

fails_counts : (K : List CellEvent) (old new : Option Wire) (taken put due : List ℕ) → is_broken K ≡ true → Fails old new taken put due → HasCounted K new
fails_counts K None new taken put due broken h = absurd h
fails_counts K (Some wire) None taken put due broken h = absurd h
fails_counts K (Some wire) (Some now) taken put due broken h = subst (λ (b : Bool). CountsFaults b now.faults) (sym broken) (some_rose wire.faults now.faults h.faults)

-- a dialog that a fault of its link ended breaks its incarnation
broken_by : (J : List CellEvent) (w : ℕ) (items : List Item) (due : List ℕ) → incarnation J ≡ last_booted J → is_broken (cell.Dialog (record { worker = w; items = items; end = end.LinkFault; due = due }) ∷ J) ≡ true
broken_by J w items due there = ap (λ (b : Bool). is_some (if b then or_else (Some due) (broken_in (last_booted J) J) else broken_in (last_booted J) J)) (eq-eqb (incarnation J) (last_booted J) there)

module _ (J : List CellEvent) (w : ℕ) (old new : Option Wire) (since left due : List ℕ) (items : List Item) (there : incarnation J ≡ last_booted J) where
  -- the events with the dialog
  abbrev ended_so : End → List CellEvent
  ended_so how = cell.Dialog (record { worker = w; items = items; end = how; due = due }) ∷ J

  passes_so : (how : End) (taken put : List ℕ) → is_link_fault how ≡ false → Passes old new taken put → HasCounted J old → HasCounted (ended_so how) new
  passes_so how taken put other h counted = passes_counts J (ended_so how) old new taken put (unbroken_by J w items due how other) h counted

  goes_counts : (how : End) → GoesOver old new since left due items how → HasCounted J old → HasCounted (ended_so how) new
  goes_counts end.Reply h counted = passes_so end.Reply _ _ refl h counted
  goes_counts (end.Superseded shown) (inl h) counted =
      subst (HasCounted (ended_so (end.Superseded shown))) (sym h.1) (counted_as J (ended_so (end.Superseded shown)) old (unbroken_by J w items due (end.Superseded shown) refl) counted)
  goes_counts (end.Superseded shown) (inr h) counted = passes_so (end.Superseded shown) _ _ refl h counted
  goes_counts end.BadFrame h counted = passes_so end.BadFrame _ _ refl h.0 counted
  goes_counts end.Ended h counted = passes_so end.Ended _ _ refl h.0 counted
  goes_counts end.LinkFault h counted = fails_counts (ended_so end.LinkFault) old new _ _ due (broken_by J w items due there) h.1
  goes_counts end.FrameLimit h counted = passes_so end.FrameLimit _ _ refl h counted
  goes_counts end.Starved h counted = passes_so end.Starved _ _ refl h.1 counted

-- a link was put on a cell by a Boot
boot_counts : (k : ℕ) (J : List CellEvent) (old : Wire) (new : Option Wire) (put : List ℕ) → last_booted J < k → old.faults ≡ 0 → Passes (Some old) new [] put → HasCounted (cell.Boot k ∷ J) new
boot_counts k J old None put later fresh h = absurd h
boot_counts k J old (Some wire) put later fresh h =
    subst (λ (b : Bool). CountsFaults b wire.faults) (sym (ap is_some (unbroken (max k (last_booted J)) J (omega (arith, later))))) (h.faults ∙ fresh)

most_of : (k n : ℕ) → n < k → max k n ≡ k
most_of k n less = omega (arith, less)

boot_leads : (s k : ℕ) (J : List CellEvent) (old : Wire) (new : Option Wire) (put : List ℕ) → last_booted J < k → old.whose ≡ Some (child_named s k) → Passes (Some old) new [] put → LeadsTo s (cell.Boot k ∷ J) new
boot_leads s k J old None put later is h = absurd h
boot_leads s k J old (Some new) put later is h = h.whose ∙ (is ∙ ap (λ (n : ℕ). Some (child_named s n)) (sym (most_of k (last_booted J) later)))

pub some_link : {L : Type 0} (f : L → Wire) (link : Option L) → is_some link ≡ is_some (option_map f link)
some_link f None = refl
some_link f (Some x) = refl

-- ---- each call

keeps_same : (n w : ℕ) (E : List CellEvent) (c d : Standing) → d ≡ c → Keeps n w E E c d
keeps_same n w E c d is = record {
  config_is = ap (λ (s : Standing). s.config) is;
  seed_is = ap (λ (s : Standing). s.seed) is;
  service_is = ap (λ (s : Standing). s.service) is;
  open_is = λ none. ap (λ (s : Standing). s.open_dialog) is ∙ none;
  past_is = λ past. ap (λ (s : Standing). s.past) is ∙ past;
  link_is = λ link. ap (λ (s : Standing). is_some s.link) is ∙ link;
  whose = λ leads. subst (λ (x : Standing). LeadsTo x.service x.past x.link) (sym is) leads;
  counted = λ counted. subst (λ (s : Standing). HasCounted s.past s.link) (sym is) counted;
  taken = λ taken. subst (λ (s : Standing). IsTaken s.past s.link) (sym is) taken;
  adds = ([], tt, refl);
}

keeps_finished : (n w : ℕ) (E : List CellEvent) (c d : Standing) (items : List Item) (how : End) (due : List ℕ) (link : Option Wire) → is_some link ≡ is_some c.link
    → (LeadsTo c.service c.past c.link → LeadsTo c.service (cell.Dialog (record { worker = w; items = items; end = how; due = due }) ∷ c.past) link)
    → (HasCounted c.past c.link → HasCounted (cell.Dialog (record { worker = w; items = items; end = how; due = due }) ∷ c.past) link)
    → (IsTaken c.past c.link → IsTaken (cell.Dialog (record { worker = w; items = items; end = how; due = due }) ∷ c.past) link) → d ≡ finished c w items how due link → Keeps n w E (newest d.past ∷ E) c d
keeps_finished n w E c d items how due link same led counts takes is = record {
  config_is = ap (λ (s : Standing). s.config) is;
  seed_is = ap (λ (s : Standing). s.seed) is;
  service_is = ap (λ (s : Standing). s.service) is;
  open_is = λ none. ap (λ (s : Standing). s.open_dialog) is;
  past_is = λ past. ap (λ (s : Standing). s.past) is
      ∙ (ap (λ J. cell.Dialog (record { worker = w; items = items; end = how; due = due }) ∷ J) past ∙ sym (ap (λ (s : Standing). events_in (newest s.past ∷ E)) is));
  link_is = λ linked. ap (λ (s : Standing). is_some s.link) is ∙ (same ∙ (linked ∙ sym (ap (λ (s : Standing). is_booted (newest s.past ∷ E)) is)));
  whose = λ leads. subst (λ (x : Standing). LeadsTo x.service x.past x.link) (sym is) (led leads);
  counted = λ counted. subst (λ (s : Standing). HasCounted s.past s.link) (sym is) (counts counted);
  taken = λ taken. subst (λ (s : Standing). IsTaken s.past s.link) (sym is) (takes taken);
  adds = (newest d.past ∷ [], (ap (λ (s : Standing). by_event n (newest s.past)) is, tt), refl);
}

keeps_missed : (n w wanted there : ℕ) (E : List CellEvent) (c d : Standing) → d ≡ record c { past = cell.Missed w wanted there ∷ c.past } → Keeps n w E (newest d.past ∷ E) c d
keeps_missed n w wanted there E c d is = record {
  config_is = ap (λ (s : Standing). s.config) is;
  seed_is = ap (λ (s : Standing). s.seed) is;
  service_is = ap (λ (s : Standing). s.service) is;
  open_is = λ none. ap (λ (s : Standing). s.open_dialog) is ∙ none;
  past_is = λ past. ap (λ (s : Standing). s.past) is ∙ (ap (λ J. cell.Missed w wanted there ∷ J) past ∙ sym (ap (λ (s : Standing). events_in (newest s.past ∷ E)) is));
  link_is = λ linked. ap (λ (s : Standing). is_some s.link) is ∙ (linked ∙ sym (ap (λ (s : Standing). is_booted (newest s.past ∷ E)) is));
  whose = λ leads. subst (λ (x : Standing). LeadsTo x.service x.past x.link) (sym is) (leads_on c.service c.past (cell.Missed w wanted there ∷ c.past) c.link refl leads);
  counted = λ counted. subst (λ (s : Standing). HasCounted s.past s.link) (sym is) (counted_as c.past (cell.Missed w wanted there ∷ c.past) c.link refl counted);
  taken = λ taken. subst (λ (s : Standing). IsTaken s.past s.link) (sym is) (missed_taken c.past w wanted there c.link taken);
  adds = (newest d.past ∷ [], (ap (λ (s : Standing). by_event n (newest s.past)) is, tt), refl);
}

wanted_there : (wanted k : ℕ) → 0 < wanted → wanted ≡ k → k ≢ 0
wanted_there wanted k some is = omega (arith, some, is)

pub keeps_dialog : (n : ℕ) (who : Asker) (shows : ℕ → Type 0) (head content : List ℕ) (wanted : ℕ) (E : List CellEvent) (c : Standing) (J : Seen) (answer : Spoken) (d : Standing) (now : Seen)
    → CellLaw c.past → 0 < wanted → Dialogs who shows head content wanted c J answer d now → Keeps n who.worker E (with_dialog answer (newest d.past) E) c d
keeps_dialog n who shows head content wanted E c J answer d now law some h = by answer h
  where
    -- a whole dialog
    talked : (items : List Item) (how : End) → wanted ≡ incarnation c.past → HasDialog who head content c J items how d now → Keeps n who.worker E (newest d.past ∷ E) c d
    talked items how is x =
        keeps_finished n who.worker E c d items how x.due d.link (goes_link c.link d.link x.since x.left x.due items how x.link)
        (goes_leads c.service c.past (cell.Dialog (record { worker = who.worker; items = items; end = how; due = x.due }) ∷ c.past) c.link d.link x.since x.left x.due items how refl x.link)
        (goes_counts c.past who.worker c.link d.link x.since x.left x.due items (is_last c.past law (wanted_there wanted (incarnation c.past) some is)) how x.link)
        (goes_taken c.past who.worker items x.due law (wanted_there wanted (incarnation c.past) some is) how c.link d.link x.since x.left x.link
        (bad_stop who.config (speaker c who.worker) x.since x.left x.due head content (noted J (own.Dialog c.service)) now items how x.follows)) x.entered

    by : (answer : Spoken) → Dialogs who shows head content wanted c J answer d now → Keeps n who.worker E (with_dialog answer (newest d.past) E) c d
    by spoken.Reply h = talked (Said (said.Reply h.1.1 h.1.2 h.1.3 h.1.4) ∷ h.1.5) end.Reply h.0 h.1.6
    by (spoken.Crashed why) h = talked h.1.1 (crash_end why) h.0 h.1.2
    by (spoken.Superseded k shown) h = talked h.1.3 (end.Superseded shown) h.0 h.1.4
    by (spoken.Missed asked there) h = keeps_missed n who.worker wanted there E c d h.3
    by spoken.NoMemory h = keeps_same n who.worker E c d h.0

pub keeps_boot : {L : Type 0} (n : ℕ) (wire : L → Wire) (link : L) (frame : ServerFrame) (k : ℕ) (E : List CellEvent) (c : Standing) (answer : Booting L) (d : Standing)
    → last_booted c.past < k → IsNewLink c.service k (wire link) → Boots wire link frame k c answer d → Keeps n n E (with_boot answer k E) c d
keeps_boot n wire link frame k E c booting.Booted d later new_link h = record {
  config_is = ap (λ (s : Standing). s.config) h.0;
  seed_is = ap (λ (s : Standing). s.seed) h.0;
  service_is = ap (λ (s : Standing). s.service) h.0;
  open_is = λ none. ap (λ (s : Standing). s.open_dialog) h.0 ∙ none;
  past_is = λ past. ap (λ (s : Standing). s.past) h.0 ∙ ap (λ J. cell.Boot k ∷ J) past;
  link_is = λ linked. passes_link (Some (wire link)) d.link _ _ h.1;
  whose = λ leads. subst (λ (x : ℕ × List CellEvent). LeadsTo x.0 x.1 d.link) (sym (ap (λ (s : Standing). (s.service, s.past)) h.0)) (boot_leads c.service k c.past (wire link) d.link (server_spelling frame) later new_link.whose h.1);
  counted = λ counted. subst (λ (J : List CellEvent). HasCounted J d.link) (sym (ap (λ (s : Standing). s.past) h.0)) (boot_counts k c.past (wire link) d.link (server_spelling frame) later new_link.faults h.1);
  taken = λ taken. subst (λ (J : List CellEvent). IsTaken J d.link) (sym (ap (λ (s : Standing). s.past) h.0)) (boot_taken k c.past (wire link) d.link (server_spelling frame) later new_link.came h.1);
  adds = (cell.Boot k ∷ [], (refl, tt), refl);
}
keeps_boot n wire link frame k E c (booting.LinkFault back) d later new_link h = keeps_same n n E c d h.0
keeps_boot n wire link frame k E c (booting.NoMemory back) d later new_link h = keeps_same n n E c d h.0

pub keeps_retired : (n : ℕ) (E : List CellEvent) (c d : Standing) → d ≡ retired c → Keeps n n E (cell.Retired ∷ E) c d
keeps_retired n E c d is = record {
  config_is = ap (λ (s : Standing). s.config) is;
  seed_is = ap (λ (s : Standing). s.seed) is;
  service_is = ap (λ (s : Standing). s.service) is;
  open_is = λ none. ap (λ (s : Standing). s.open_dialog) is ∙ none;
  past_is = λ past. ap (λ (s : Standing). s.past) is ∙ ap (λ (J : List CellEvent). if incarnation J == 0 then J else cell.Retired ∷ J) past;
  link_is = λ linked. ap (λ (s : Standing). is_some s.link) is;
  whose = λ leads. subst (λ (link : Option Wire). LeadsTo d.service d.past link) (sym (ap (λ (s : Standing). s.link) is)) tt;
  counted = λ counted. subst (λ (link : Option Wire). HasCounted d.past link) (sym (ap (λ (s : Standing). s.link) is)) tt;
  taken = λ taken. subst (λ (link : Option Wire). IsTaken d.past link) (sym (ap (λ (s : Standing). s.link) is)) tt;
  adds = (cell.Retired ∷ [], (refl, tt), refl);
}

-- what is known of a link that is taken out
pub link_out : (C : Config) (seed : List ℕ) (s : ℕ) (J : List CellEvent) (link : Option Wire) (sent : List Sent) → AreSent C seed s J (all_sent (last_booted J) link sent) → LeadsTo s J link → HasCounted J link → IsTaken J link → IfSome link (IsLinkOf C seed s J)
link_out C seed s J None sent sents leads counted taken = tt
link_out C seed s J (Some wire) sent sents leads counted taken = record { whose = leads; given = sents.each.0; taken = taken; faults = counted }
