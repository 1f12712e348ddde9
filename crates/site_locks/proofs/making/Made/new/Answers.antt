use Rattle.std.proofs.Common.{rules, ◌≡◌, ◌+◌, ◌∙◌, length, refl, sym, ap, subst}
use Rattle.std.specs.Prelude.{Result, Ok, IfOk}
use Rattle.std.proofs.lemmas.List.{length-map}
use Rattle.named_columns.specs.Held.{HeldProxy}
use Rattle.turn_lock.specs.Rows.{AllCount}
use Rattle.turn_lock.specs.Seats.{TurnIs, AreFresh}
use Rattle.site_locks.specs.Sat.{RiseFrom}
use Rattle.site_locks.proofs.making.Made.new.Goals as goal

-- what a result promises holds of the value that it has
ok_has : {A E : Type 0} (P : A → Type 0) (r : Result A E) (x : A) → r ≡ Ok x → IfOk r P → P x
ok_has P r x e h = subst (λ q. IfOk q P) e h

-- both of a pair that was made were made
paired : {A B E : Type 0} (a : Result A E) (b : Result B E) (r : Result (A × B) E) (x : A × B) → r ≡ Ok x → IfOk r (λ y. (a ≡ Ok y.0) × (b ≡ Ok y.1)) → (a ≡ Ok x.0) × (b ≡ Ok x.1)
paired a b r x e h = ok_has _ r x e h

pub invariant_of-result : goal.invariant_of-result
invariant_of-result g c =
    let made = c.in_ok-made.made in
    let fourth = c.in_ok-made.ensures in
    let third = paired c.pair-2.result c.make_row-row.result c.pair-3.result made.0 fourth.0 c.pair-3.ensures in
    let second = paired c.pair.result c.lock-oklogd.result c.pair-2.result made.0.0 third.0 c.pair-2.ensures in
    let first = paired c.lock-okd.result c.lock-pubd.result c.pair.result made.0.0.0 second.0 c.pair.ensures in
    let okd = ok_has _ c.lock-okd.result made.0.0.0.0 first.0 c.lock-okd.ensures in
    let pubd = ok_has _ c.lock-pubd.result made.0.0.0.1 first.1 c.lock-pubd.ensures in
    let log = ok_has _ c.lock-oklogd.result made.0.0.1 second.1 c.lock-oklogd.ensures in
    let labels = ok_has _ c.make_row-row.result made.0.1 third.1 c.make_row-row.ensures.labels in
    let counts = ok_has _ c.make_row-row.result made.0.1 third.1 c.make_row-row.ensures.counts in
    let rows_fresh = ok_has _ c.make_row-row.result made.0.1 third.1 c.make_row-row.ensures.fresh in
    let board = ok_has _ c.new-board.result made.1 fourth.1 c.new-board.ensures.ok in
    let count : c.args.workers + 1 ≡ g.N.Numbered.launcher + 1 = ap (λ w. w + 1) c.requires.workers in
    let turns = made.0.1.0.items in
    let values = c.args.columns.proxies.items in
    let okds : length made.0.0.0.0.1.items ≡ c.args.workers + 1 = let q = okd.2 in search rules in
    let rows : length made.0.1.1.items ≡ c.args.workers + 1 = let q = counts.1 in search rules in
    let pubds : length made.0.0.0.1.1.items ≡ c.args.workers + 1 = let q = pubd.2 in search rules in
    let logs : length made.0.0.1.1.items ≡ c.args.workers + 1 = let q = log.2 in search rules in
    let boards : length made.1.1.items ≡ c.args.workers + 1 = let q = board.1 in search rules in
    record {
      locks = record {
        ids_are = refl;
        okd_count = okd.0 ∙ count;
        proxies_count = subst (λ m. AllCount m turns) count counts.0;
        pubd_count = pubd.0 ∙ count;
        oklogd_count = log.0 ∙ count;
        board_count = board.0 ∙ count;
        labels = subst (RiseFrom 0) (sym labels) c.requires.numbered;
        declared = sym (length-map turns (λ (t : TurnIs). t.label)) ∙ (ap length labels ∙ (length-map values (λ (x : HeldProxy). x.number) ∙ c.requires.declared));
        few = c.requires.few;
      };
      count_is = count;
      deals = record {
        okd_fresh = subst (λ l. AreFresh made.0.0.0.0.0.id l 0 made.0.0.0.0.1.items) okd.1 okd.3;
        rows_fresh = rows_fresh;
        pubd_fresh = subst (λ l. AreFresh made.0.0.0.1.0.id l 0 made.0.0.0.1.1.items) pubd.1 pubd.3;
        oklogd_fresh = subst (λ l. AreFresh made.0.0.1.0.id l 0 made.0.0.1.1.items) log.1 log.3;
        board_fresh = board.2;
        okd_many = okds;
        rows_many = length-map made.0.1.1.items (λ r. r.items) ∙ rows;
        pubd_many = pubds;
        oklogd_many = logs;
        board_many = boards;
      };
    }
