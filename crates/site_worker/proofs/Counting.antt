-- What is counted of the columns, one after the other.
use Rattle.std.proofs.Common.{◌≡◌, ◌∙◌, List, sym, ap}
use Rattle.okws_base.specs.Turns.{Behind, GrowsBy}
use Rattle.okws_base.specs.declared.journal.Entry.{Entry}
use Rattle.okws_plan.specs.declared.configuration.Config.{Config}
use Rattle.okws_plan.specs.declared.event.LogEvent.{LogEvent}
use Rattle.okws_plan.specs.declared.event.OkdEvent.{OkdEvent}
use Rattle.okws_plan.specs.declared.event.PubdEvent.{PubdEvent}
use Rattle.turn_lock.specs.Seats.{SeatIs}
use Rattle.named_columns.specs.Counts.{accepts, capped, logged, publications, ups}
use Rattle.named_columns.specs.Launched.{by_entry}
use Rattle.site_cells.specs.Row.{CellsSeen}
use Rattle.site_locks.specs.Sat.{Sat}
use Rattle.site_locks.specs.Steps.{SeesLog, SeesOkd, SeesPubd}
use Rattle.site_locks.proofs.Heard.{all_then, behind_then}
use Rattle.site_locks.proofs.Seeing.{log_same, okd_same, pubd_same}
use Rattle.launch_turns.specs.declared.deed.Deed.{Deed}
use Rattle.site_worker.specs.Asking.{CountsAt, KeepsPasts, SameBoard}
use Rattle.site_worker.specs.Lives.{life_of}
use Rattle.site_worker.specs.Steering.{Counts}
use Rattle.site_worker.specs.declared.hands.Counted.{Counted}
use Rattle.site_worker.proofs.Asking.{past_kept, past_on, sees_log, sees_okd, sees_pubd}
use Rattle.site_worker.proofs.Lives.{sees_columns}

keeps_both : {E : Type 0} (I J K : List E) → KeepsPasts I J → KeepsPasts J K → KeepsPasts I K
keeps_both I J K i j = λ past b. j past (i past b)

same_both : (a b d : Sat) → SameBoard a b → SameBoard b d → SameBoard a d
same_both a b d i j = record {
  number_is = j.number_is ∙ i.number_is;
  board_is = j.board_is ∙ i.board_is;
  drawn_is = j.drawn_is ∙ i.drawn_is;
  spare_is = j.spare_is ∙ i.spare_is;
  behind = record {
    proxies = all_then a.proxies b.proxies d.proxies i.behind.proxies j.behind.proxies;
    pubd = behind_then a.pubd b.pubd d.pubd i.behind.pubd j.behind.pubd;
    oklogd = behind_then a.oklogd b.oklogd d.oklogd i.behind.oklogd j.behind.oklogd;
  };
}

-- the number is the same whatever it saw
pub counts_same : (s a b d e : Sat) (I : List (Entry OkdEvent)) (P : List (Entry PubdEvent)) (L : List (Entry LogEvent))
    → GrowsBy by_entry s.number s.okd a.okd → a ≡ record s { okd = a.okd } → SeesOkd I a b → SeesPubd P b d → SeesLog L d e → SameBoard s e
counts_same s a b d e I P L grows only at_okd at_pubd at_log =
    same_both s a e (sees_okd a.okd s a (record { grows = grows; is = only })) (same_both a b e (sees_okd I a b at_okd) (same_both b d e (sees_pubd P b d at_pubd) (sees_log L d e at_log)))

-- from s to a it took in what it was shown of okd, to b it saw okd, to d pubd, and to e oklogd
pub counts_made : (C : Config) (shown : List (Entry OkdEvent)) (t : Counted) (s a b d e : Sat) (I : List (Entry OkdEvent)) (P : List (Entry PubdEvent)) (L : List (Entry LogEvent))
    → Behind shown a.okd → GrowsBy by_entry s.number s.okd a.okd → a ≡ record s { okd = a.okd } → SeesOkd I a b → SeesPubd P b d → SeesLog L d e
    → t.accepts ≡ capped (accepts I) → t.launches ≡ capped (ups I) → t.publications ≡ capped (publications P) → t.logged ≡ capped (logged C L) → CountsAt C shown t s e
counts_made C shown t s a b d e I P L met grows only at_okd at_pubd at_log requests raised published lines =
    let first : SeesOkd a.okd s a = record { grows = grows; is = only } in
    let okd_is : e.okd ≡ I = ap (λ (x : Sat). x.okd) at_log.is ∙ (ap (λ (x : Sat). x.okd) at_pubd.is ∙ ap (λ (x : Sat). x.okd) at_okd.is) in
    let pubd_is : e.pubd ≡ P = ap (λ (x : Sat). x.pubd) at_log.is ∙ ap (λ (x : Sat). x.pubd) at_pubd.is in
    let log_is : e.oklogd ≡ L = ap (λ (x : Sat). x.oklogd) at_log.is in
    let more : KeepsPasts a.okd e.okd = past_on a.okd e.okd (at_okd.grows.0, okd_is ∙ at_okd.grows.2) in
    let before : KeepsPasts s.okd a.okd = past_on s.okd a.okd (grows.0, grows.2) in
    let pubd_before : KeepsPasts s.pubd b.pubd = past_kept s.pubd b.pubd (ap (λ (x : Sat). x.pubd) at_okd.is ∙ ap (λ (x : Sat). x.pubd) only) in
    let log_before : KeepsPasts s.oklogd d.oklogd = past_kept s.oklogd d.oklogd (ap (λ (x : Sat). x.oklogd) at_pubd.is ∙ (ap (λ (x : Sat). x.oklogd) at_okd.is ∙ ap (λ (x : Sat). x.oklogd) only)) in
    record {
      accepts_are = requests ∙ sym (ap (λ (J : List (Entry OkdEvent)). capped (accepts J)) okd_is);
      launches_are = raised ∙ sym (ap (λ (J : List (Entry OkdEvent)). capped (ups J)) okd_is);
      publications_are = published ∙ sym (ap (λ (J : List (Entry PubdEvent)). capped (publications J)) pubd_is);
      logged_are = lines ∙ sym (ap (λ (J : List (Entry LogEvent)). capped (logged C J)) log_is);
      met = more shown met;
      seen_is = log_same d e L at_log ∙ (pubd_same b d P at_pubd ∙ (okd_same a b I at_okd ∙ okd_same s a a.okd first));
      okd = keeps_both s.okd a.okd e.okd before more;
      pubd = keeps_both s.pubd b.pubd e.pubd pubd_before (past_on b.pubd e.pubd (at_pubd.grows.0, pubd_is ∙ at_pubd.grows.2));
      oklogd = keeps_both s.oklogd d.oklogd e.oklogd log_before (past_on d.oklogd e.oklogd (at_log.grows.0, log_is ∙ at_log.grows.2));
      same = counts_same s a b d e I P L grows only at_okd at_pubd at_log;
    }

-- of the worker whose hands they are
pub counts_of : (C : Config) (shown : List (Entry OkdEvent)) (t : Counted) (s now : Sat) (cells : CellsSeen) (launcher : SeatIs Deed) (last : List (Entry OkdEvent)) → CountsAt C shown t s now → Counts C shown t (life_of s cells launcher last) (life_of now cells launcher last)
counts_of C shown t s now cells launcher last h = record {
  accepts_are = h.accepts_are;
  launches_are = h.launches_are;
  publications_are = h.publications_are;
  logged_are = h.logged_are;
  met = h.met;
  sees = sees_columns s now cells launcher last h.seen_is h.same h.okd h.pubd h.oklogd;
}
