use Rattle.std.proofs.Common.{rules, ◌≡◌, ℕ, position, Some, None, sym}
use Rattle.okws_base.specs.Value.{same_bytes}
use Rattle.okws_plan.specs.declared.configuration.Column.{Column}
use Rattle.statement_core.specs.Joining.{qualified_name}
use Rattle.statement_core.proofs.Qualified.{seen_first, seen_second}
use Rattle.statement_core.proofs.scope.Scope.place.Goals as goal

pub returns-in-Some : goal.returns-in-Some
returns-in-Some c =
    let a = c.self.inside in
    let found : position (λ (x : Column). same_bytes (qualified_name a.table.now x.name) c.args.name.now) a.columns.now ≡ Some c.in-Some.place = search rules in
    seen_first a.is_joined a.table.now a.columns.now a.second.now a.others.now c.args.name.now c.in-Some.place c.args.self.now c.if-not-self.false (sym c.self.view_is) found

pub returns-in-None : goal.returns-in-None
returns-in-None c =
    let a = c.self.inside in
    let none : position (λ (x : Column). same_bytes (qualified_name a.table.now x.name) c.args.name.now) a.columns.now ≡ None = search rules in
    let other : position (λ (x : Column). same_bytes (qualified_name a.second.now x.name) c.args.name.now) a.others.now ≡ None = search rules in
    seen_second a.is_joined a.table.now a.columns.now a.second.now a.others.now c.args.name.now None c.args.self.now c.if-not-self.false (sym c.self.view_is) none other

pub returns-in-Some-place_qualified : goal.returns-in-Some-place_qualified
returns-in-Some-place_qualified c =
    let a = c.self.inside in
    let place : ℕ = c.in-Some-place_qualified.place in
    let none : position (λ (x : Column). same_bytes (qualified_name a.table.now x.name) c.args.name.now) a.columns.now ≡ None = search rules in
    let other : position (λ (x : Column). same_bytes (qualified_name a.second.now x.name) c.args.name.now) a.others.now ≡ Some place = search rules in
    seen_second a.is_joined a.table.now a.columns.now a.second.now a.others.now c.args.name.now (Some place) c.args.self.now c.if-not-self.false (sym c.self.view_is) none other
