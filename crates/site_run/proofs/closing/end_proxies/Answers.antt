use Rattle.std.proofs.Common.{rules, ◌≡◌, ◌≤◌, ◌+◌, ◌++◌, ◌∷◌, [], ℕ, suc, List, map, reverse, length, refl, sym, ap, ◌∙◌, subst, arith, append-nil}
use Rattle.okws_base.specs.declared.journal.Entry.{Entry}
use Rattle.okws_outer.specs.Streams.{counted}
use Rattle.okws_plan.specs.declared.event.ProxyEvent.{ProxyEvent}
use Rattle.monitor_model.specs.Booting.{AllFollow}
use Rattle.monitor_model.specs.Columns.{faults}
use Rattle.monitor_model.specs.Placed.{EachFrom}
use Rattle.named_columns.specs.Held.{HeldProxy}
use Rattle.site_locks.specs.Sat.{RiseFrom}
use Rattle.turn_lock.proofs.Rows.{pushed_map, turned_push}
use Rattle.turn_lock.proofs.Spots.{empty_of}
use Rattle.site_run.specs.Journals.{AllProxies}
use Rattle.site_making.specs.Keepers.{keeper_of}
use Rattle.site_run.specs.Closing.{AllKept}
use Rattle.site_run.proofs.Lists.{follows_push, kept_push, proxies_push}
use Rattle.site_run.proofs.Making.{moved}
use Rattle.site_run.proofs.Seating.{push_length}
use Rattle.site_run.proofs.closing.end_proxies.Goals as goal

pub loop-proxy-init : goal.loop-proxy-init
loop-proxy-init g c =
    let none : c.args.room.pasts.items ≡ [] = empty_of c.args.room.pasts.items (search rules) in
    let alone : c.args.room.keepers.items ≡ [] = empty_of c.args.room.keepers.items (search rules) in
    let f = keeper_of g.K.Keeper.tables g.K.Keeper.told g.K.Keeper.faults g.K.Keeper.steady in
    record {
      pasts = ap (λ l. l ++ reverse (map (λ (x : HeldProxy). x.past) c.args.proxies.items)) none;
      numbered = subst (λ l. RiseFrom (length l) (reverse (map (λ (x : HeldProxy). x.number) c.args.proxies.items))) (sym none) c.requires.numbered;
      laws = subst (AllProxies g.N.Numbered.site g.N.Numbered.run_seed g.N.Numbered.launcher 0) (sym none) tt;
      follows = subst (EachFrom (λ (p : ℕ) (J : List (Entry ProxyEvent)). AllFollow g.N.Numbered.site p J) 0) (sym none) tt;
      kept = subst (AllKept g.N.Numbered.site g.N.Backed.tells g.N.Backed.steady g.N.Backed.keeper_faults 0 (map f c.args.room.keepers.items)) (sym none)
          (subst (λ l. AllKept g.N.Numbered.site g.N.Backed.tells g.N.Backed.steady g.N.Backed.keeper_faults 0 (map f l) []) (sym alone) tt);
      many = search rules;
      alike = search rules;
      pasts_room = refl;
      keepers_room = refl;
    }

pub loop-proxy-preserved : goal.loop-proxy-preserved
loop-proxy-preserved g c =
    let C = g.N.Numbered.site in
    let seed = g.N.Numbered.run_seed in
    let n = g.N.Numbered.launcher in
    let past : HeldProxy → List (Entry ProxyEvent) = λ x. x.past in
    let number : HeldProxy → ℕ = λ x. x.number in
    let f = keeper_of g.K.Keeper.tables g.K.Keeper.told g.K.Keeper.faults g.K.Keeper.steady in
    let i = c.loop-proxy.invariant in
    let more = c.loop-proxy.proxies.items in
    let left = c.pop.new.self.items in
    let x = c.in-Some.proxy in
    let e = c.in-Some.ensures.items in
    let J = c.close-past.result.0 in
    let keeper = c.close-past.result.1 in
    let pasts = c.loop-proxy.end.pasts.items in
    let pasts_now = c.push_reserved.new.self.items in
    let keepers = c.loop-proxy.end.keepers.items in
    let keepers_now = c.push_reserved-in-Some.new.self.items in
    let put : pasts_now ≡ pasts ++ J ∷ [] = search rules in
    let held : keepers_now ≡ keepers ++ keeper ∷ [] = search rules in
    let rise : RiseFrom (length pasts) (number x ∷ reverse (map number left)) = subst (RiseFrom (length pasts)) (turned_push number more left x e) i.numbered in
    let size : length pasts_now ≡ suc (length pasts) = ap length put ∙ push_length pasts J in
    let at : number x ≡ length pasts + 0 = (let q = rise.0 in omega arith) in
    record {
      pasts = moved past more left x pasts pasts_now J _ e put c.close-past.ensures.past i.pasts;
      numbered = subst (λ k. RiseFrom k (reverse (map number left))) (sym size) rise.1;
      laws = subst (AllProxies C seed n 0) (sym put) (proxies_push C seed n 0 (number x) pasts J at i.laws c.close-past.ensures.law c.close-past.ensures.launched);
      follows = subst (EachFrom (λ (p : ℕ) (K : List (Entry ProxyEvent)). AllFollow C p K) 0) (sym put) (follows_push (λ (p : ℕ) (K : List (Entry ProxyEvent)). AllFollow C p K) 0 (number x) pasts J at i.follows c.close-past.ensures.follows);
      kept = subst (AllKept C g.N.Backed.tells g.N.Backed.steady g.N.Backed.keeper_faults 0 (map f keepers_now)) (sym put)
          (subst (λ ls. AllKept C g.N.Backed.tells g.N.Backed.steady g.N.Backed.keeper_faults 0 ls (pasts ++ J ∷ [])) (sym (pushed_map f keepers_now keepers keeper held))
          (kept_push C g.N.Backed.tells g.N.Backed.steady g.N.Backed.keeper_faults 0 (number x) (map f keepers) (f keeper) pasts J at i.kept (record {
            tables_are = c.close-past.ensures.tables;
            tells_them = c.close-past.ensures.tells;
            rows_are = c.close-past.ensures.rows;
            faults_are = subst (λ m. counted (g.N.Backed.keeper_faults (number x)) (faults J) ≤ m) (sym c.close-past.ensures.faults) c.close-past.ensures.marked;
            faultless = c.close-past.ensures.faultless;
            still = λ none. c.close-past.ensures.faults ∙ c.close-past.ensures.still none;
          })));
      many = search rules;
      alike = search rules;
      pasts_room = search rules;
      keepers_room = search rules;
    }

pub returns-clause-pasts : goal.returns-clause-pasts
returns-clause-pasts g c =
    let none = empty_of c.loop-proxy.proxies.items (search rules) in
    sym (append-nil c.loop-proxy.end.pasts.items) ∙ (ap (λ l. c.loop-proxy.end.pasts.items ++ reverse (map (λ (x : HeldProxy). x.past) l)) (sym none) ∙ c.loop-proxy.invariant.pasts)
