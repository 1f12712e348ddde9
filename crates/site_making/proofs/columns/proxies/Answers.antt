use Rattle.std.proofs.Common.{rules, ◌≡◌, ◌+◌, ◌++◌, ◌∷◌, [], ℕ, suc, List, map, reverse, length, sym, subst, arith}
use Rattle.std.proofs.lemmas.List.{length-map}
use Rattle.okws_base.specs.declared.journal.Entry.{Entry}
use Rattle.okws_plan.specs.declared.event.ProxyEvent.{ProxyEvent}
use Rattle.named_columns.specs.Held.{HeldProxy}
use Rattle.site_locks.specs.Sat.{RiseFrom}
use Rattle.turn_lock.specs.Rows.{AllNone}
use Rattle.turn_lock.proofs.Rows.{pushed_map}
use Rattle.site_making.specs.Keepers.{AreBacked, keeper_of}
use Rattle.site_making.proofs.Lists.{none_push, rise_push, backed_next}
use Rattle.site_making.proofs.columns.proxies.Goals as goal

pub loop-keeper-preserved : goal.loop-keeper-preserved
loop-keeper-preserved g c =
    let past : HeldProxy → List (Entry ProxyEvent) = λ x. x.past in
    let number : HeldProxy → ℕ = λ x. x.number in
    let f = keeper_of g.K.Keeper.tables g.K.Keeper.told g.K.Keeper.faults g.K.Keeper.steady in
    let i = c.loop-keeper.invariant in
    let more = c.loop-keeper.keepers.items in
    let left = c.pop.new.self.items in
    let columns = c.loop-keeper.columns.items in
    let now = c.push_reserved.new.self.items in
    let one = c.in_ok-column.column in
    let put : now ≡ columns ++ one ∷ [] = search rules in
    let next = backed_next f g.N.Numbered.site g.N.Backed.steady g.N.Backed.keeper_faults c.loop-keeper.number more left c.in-Some.keeper c.in-Some.ensures.items i.backed in
    let m = length-map columns number in
    let n : number one ≡ length (map number columns) + 0 = (let q = i.number_is in let r = c.in_ok-column.ensures.1 in search (rules, arith)) in
    record {
      fresh = subst AllNone (sym (pushed_map past now columns one put)) (none_push (map past columns) (past one) c.in_ok-column.ensures.0 i.fresh);
      numbered = subst (RiseFrom 0) (sym (pushed_map number now columns one put)) (rise_push 0 (number one) (map number columns) n i.numbered);
      number_is = search rules;
      many = search rules;
      room = search rules;
      backed = subst (λ k. AreBacked g.N.Numbered.site g.N.Backed.steady g.N.Backed.keeper_faults k (reverse (map f left))) (let q : suc c.loop-keeper.number ≡ c.loop-keeper.number + 1 = omega arith in q) next.3;
    }

pub proxy-requires-clause-keeper : goal.proxy-requires-clause-keeper
proxy-requires-clause-keeper g c =
    (backed_next (keeper_of g.K.Keeper.tables g.K.Keeper.told g.K.Keeper.faults g.K.Keeper.steady) g.N.Numbered.site g.N.Backed.steady g.N.Backed.keeper_faults c.loop-keeper.number c.loop-keeper.keepers.items c.pop.new.self.items c.in-Some.keeper c.in-Some.ensures.items c.loop-keeper.invariant.backed).0

pub proxy-requires-clause-steady : goal.proxy-requires-clause-steady
proxy-requires-clause-steady g c =
    (backed_next (keeper_of g.K.Keeper.tables g.K.Keeper.told g.K.Keeper.faults g.K.Keeper.steady) g.N.Numbered.site g.N.Backed.steady g.N.Backed.keeper_faults c.loop-keeper.number c.loop-keeper.keepers.items c.pop.new.self.items c.in-Some.keeper c.in-Some.ensures.items c.loop-keeper.invariant.backed).1

pub proxy-requires-clause-faults : goal.proxy-requires-clause-faults
proxy-requires-clause-faults g c =
    (backed_next (keeper_of g.K.Keeper.tables g.K.Keeper.told g.K.Keeper.faults g.K.Keeper.steady) g.N.Numbered.site g.N.Backed.steady g.N.Backed.keeper_faults c.loop-keeper.number c.loop-keeper.keepers.items c.pop.new.self.items c.in-Some.keeper c.in-Some.ensures.items c.loop-keeper.invariant.backed).2
