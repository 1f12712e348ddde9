use Rattle.std.proofs.Common.{rules, ◌≡◌, ◌∙◌, ℕ, ◌≤◌, Some, false, refl, ap, subst, sym}
use Rattle.okws_outer.specs.Families.{child_named}
use Rattle.frame_codec.specs.Spelling.{server_spelling}
use Rattle.frame_codec.specs.declared.frame.ServerFrame.{ServerFrame}
use Rattle.frame_codec.specs.declared.frame.ServerFrame.TheVariants as frame
use Rattle.site_cells.specs.Held.{has_booted}
use Rattle.monitor_model.specs.Cell.{incarnation}
use Rattle.site_cells.specs.Row.{link_at, seen_at}
use Rattle.okws_outer.specs.Wire.{Wire}
use Rattle.launch_crew.proofs.Counting.{all_booted, all_unbooted}
use Rattle.launch_crew.proofs.Recording.{cell_booted, cell_seen, booted, booted_last, faulted, faulted_front, faulted_untaken, faulted_whose, refused, refused_front, refused_untaken, refused_whose}
use Rattle.monitor_model.specs.declared.record.CellEvent.TheVariants as cell
use Rattle.launch_crew.specs.Finished.{IsFront, all_out}
use Rattle.launch_crew.specs.Listed.{CellsGo}
use Rattle.launch_crew.specs.Recorded.{Recorded}
use Rattle.launch_crew.proofs.Retiring.{go_before, go_behind}
use Rattle.launch_crew.proofs.recorder.Recorder.boot_cell.Goals as goal

pub invariant_of-self : goal.invariant_of-self
invariant_of-self g c =
    let h = c.boot-booting.ensures.launched in
    cell_booted g.N.Numbered.site g.N.Numbered.launcher c.args.service c.self.inside.seats c.self.inside.cells c.boot-booting.new.self c.self.inside.own.past c.enter.new.self.past c.self.inside.own.room c.enter.new.self.room
    h.before.past c.boot-booting.ensures.only h.found.grows c.self.invariant c.args.incarnation c.enter.ensures.past
    (booted (λ (w : Wire). w) g.N.Numbered.launcher c.args.service c.args.incarnation c.args.link (frame.Boot c.args.service c.args.incarnation c.args.tokens) (seen_at c.self.inside.cells c.args.service) (seen_at c.boot-booting.new.self c.args.service) c.boot-booting.result c.boot-booting.ensures.launched c.in-Booted.is)

pub invariant_of-self-in-LinkFault : goal.invariant_of-self-in-LinkFault
invariant_of-self-in-LinkFault g c =
    let h = c.boot-booting.ensures.launched in
    cell_seen g.N.Numbered.site g.N.Numbered.launcher c.args.service c.self.inside.seats c.self.inside.cells c.boot-booting.new.self c.self.inside.own.past c.self.inside.own.past c.self.inside.own.room c.self.inside.own.room
    h.before.past c.boot-booting.ensures.only h.found.grows c.self.invariant refl
    (faulted (λ (w : Wire). w) g.N.Numbered.launcher c.args.service c.args.incarnation c.args.link (frame.Boot c.args.service c.args.incarnation c.args.tokens) (seen_at c.self.inside.cells c.args.service) (seen_at c.boot-booting.new.self c.args.service) c.boot-booting.result c.boot-booting.ensures.launched c.in-LinkFault.link c.in-LinkFault.is)

pub invariant_of-self-in-NoMemory : goal.invariant_of-self-in-NoMemory
invariant_of-self-in-NoMemory g c =
    let h = c.boot-booting.ensures.launched in
    cell_seen g.N.Numbered.site g.N.Numbered.launcher c.args.service c.self.inside.seats c.self.inside.cells c.boot-booting.new.self c.self.inside.own.past c.self.inside.own.past c.self.inside.own.room c.self.inside.own.room
    h.before.past c.boot-booting.ensures.only h.found.grows c.self.invariant refl
    (refused (λ (w : Wire). w) g.N.Numbered.launcher c.args.service c.args.incarnation c.args.link (frame.Boot c.args.service c.args.incarnation c.args.tokens) (seen_at c.self.inside.cells c.args.service) (seen_at c.boot-booting.new.self c.args.service) c.boot-booting.result c.boot-booting.ensures.launched c.in-NoMemory.link c.in-NoMemory.is)

pub returns-in-Booted : goal.returns-in-Booted
returns-in-Booted g c = record {
  columns = search rules;
  only = search rules;
  most = search rules;
  ok = search rules;
  err = tt;
  behind = let h = c.boot-booting.ensures.launched in
      subst (λ (r : Recorded). CellsGo r.watch c.boot-booting.new.self) c.self.view_is
      (go_behind g.N.Numbered.launcher c.args.service c.self.inside.seats c.self.inside.cells c.boot-booting.new.self c.self.inside.own.past c.enter.new.self.past h.before.past c.boot-booting.ensures.only c.self.invariant.own_is h.found.grows (cell.Boot c.args.incarnation)
      (booted (λ (w : Wire). w) g.N.Numbered.launcher c.args.service c.args.incarnation c.args.link (frame.Boot c.args.service c.args.incarnation c.args.tokens) (seen_at c.self.inside.cells c.args.service) (seen_at c.boot-booting.new.self c.args.service) c.boot-booting.result c.boot-booting.ensures.launched c.in-Booted.is));
  added = search rules;
  kept = tt;
  linked = c.boot-booting.ensures.link ∙ ap has_booted c.in-Booted.is;
  unlinked = tt;
  out = let s = c.args.service in
      let old = c.self.inside.cells in
      let new = c.boot-booting.new.self in
      let h = c.boot-booting.ensures.launched in
      let empty = subst (λ (r : Recorded). incarnation (seen_at r.watch s) ≡ 0) (sym c.self.view_is) c.requires.empty in
      subst (λ (r : Recorded). link_at r.watch s ≡ false → (n : ℕ) → all_out new n ≤ all_out r.watch n) c.self.view_is
      (all_booted g.N.Numbered.launcher s c.args.incarnation old new h.before.past c.boot-booting.ensures.only h.found.grows empty (booted (λ (w : Wire). w) g.N.Numbered.launcher c.args.service c.args.incarnation c.args.link (frame.Boot c.args.service c.args.incarnation c.args.tokens) (seen_at c.self.inside.cells c.args.service) (seen_at c.boot-booting.new.self c.args.service) c.boot-booting.result c.boot-booting.ensures.launched c.in-Booted.is) (c.boot-booting.ensures.link ∙ ap has_booted c.in-Booted.is));
  last = booted_last (λ (w : Wire). w) g.N.Numbered.launcher c.args.service c.args.incarnation c.args.link (frame.Boot c.args.service c.args.incarnation c.args.tokens) (seen_at c.self.inside.cells c.args.service) (seen_at c.boot-booting.new.self c.args.service) c.boot-booting.result c.boot-booting.ensures.launched c.in-Booted.is;
  front = tt;
  whose = tt;
  untaken = tt;
  cause = tt;
  room = search rules;
}

pub returns-in-LinkFault : goal.returns-in-LinkFault
returns-in-LinkFault g c = record {
  columns = search rules;
  only = search rules;
  most = search rules;
  ok = tt;
  err = search rules;
  behind = let h = c.boot-booting.ensures.launched in
      subst (λ (r : Recorded). CellsGo r.watch c.boot-booting.new.self) c.self.view_is
      (go_before g.N.Numbered.launcher c.args.service c.self.inside.seats c.self.inside.cells c.boot-booting.new.self c.self.inside.own.past c.self.inside.own.past h.before.past c.boot-booting.ensures.only c.self.invariant.own_is h.found.grows
      (faulted (λ (w : Wire). w) g.N.Numbered.launcher c.args.service c.args.incarnation c.args.link (frame.Boot c.args.service c.args.incarnation c.args.tokens) (seen_at c.self.inside.cells c.args.service) (seen_at c.boot-booting.new.self c.args.service) c.boot-booting.result c.boot-booting.ensures.launched c.in-LinkFault.link c.in-LinkFault.is));
  added = tt;
  kept = search rules;
  linked = tt;
  unlinked = c.boot-booting.ensures.link ∙ ap has_booted c.in-LinkFault.is;
  out = let s = c.args.service in
      let old = c.self.inside.cells in
      let new = c.boot-booting.new.self in
      let h = c.boot-booting.ensures.launched in
      let empty = subst (λ (r : Recorded). incarnation (seen_at r.watch s) ≡ 0) (sym c.self.view_is) c.requires.empty in
      subst (λ (r : Recorded). link_at r.watch s ≡ false → (n : ℕ) → all_out new n ≤ all_out r.watch n) c.self.view_is
      (all_unbooted g.N.Numbered.launcher s old new h.before.past c.boot-booting.ensures.only h.found.grows empty (faulted (λ (w : Wire). w) g.N.Numbered.launcher c.args.service c.args.incarnation c.args.link (frame.Boot c.args.service c.args.incarnation c.args.tokens) (seen_at c.self.inside.cells c.args.service) (seen_at c.boot-booting.new.self c.args.service) c.boot-booting.result c.boot-booting.ensures.launched c.in-LinkFault.link c.in-LinkFault.is) (c.boot-booting.ensures.link ∙ ap has_booted c.in-LinkFault.is));
  last = tt;
  front = subst (λ (x : ServerFrame). IsFront (server_spelling x) c.in-LinkFault.link.given) c.requires.tokens
      (faulted_front (λ (w : Wire). w) g.N.Numbered.launcher c.args.service c.args.incarnation c.args.link (frame.Boot c.args.service c.args.incarnation c.args.tokens) (seen_at c.self.inside.cells c.args.service) (seen_at c.boot-booting.new.self c.args.service) c.boot-booting.result c.boot-booting.ensures.launched c.requires.link.given c.in-LinkFault.link c.in-LinkFault.is);
  whose = faulted_whose (λ (w : Wire). w) g.N.Numbered.launcher c.args.service c.args.incarnation c.args.link (frame.Boot c.args.service c.args.incarnation c.args.tokens) (seen_at c.self.inside.cells c.args.service) (seen_at c.boot-booting.new.self c.args.service) c.boot-booting.result c.boot-booting.ensures.launched (Some (child_named c.args.service c.args.incarnation)) c.requires.link.whose c.in-LinkFault.link c.in-LinkFault.is;
  untaken = faulted_untaken (λ (w : Wire). w) g.N.Numbered.launcher c.args.service c.args.incarnation c.args.link (frame.Boot c.args.service c.args.incarnation c.args.tokens) (seen_at c.self.inside.cells c.args.service) (seen_at c.boot-booting.new.self c.args.service) c.boot-booting.result c.boot-booting.ensures.launched c.requires.link.came c.in-LinkFault.link c.in-LinkFault.is;
  cause = search rules;
  room = search rules;
}

pub returns-in-NoMemory : goal.returns-in-NoMemory
returns-in-NoMemory g c = record {
  columns = search rules;
  only = search rules;
  most = search rules;
  ok = tt;
  err = search rules;
  behind = let h = c.boot-booting.ensures.launched in
      subst (λ (r : Recorded). CellsGo r.watch c.boot-booting.new.self) c.self.view_is
      (go_before g.N.Numbered.launcher c.args.service c.self.inside.seats c.self.inside.cells c.boot-booting.new.self c.self.inside.own.past c.self.inside.own.past h.before.past c.boot-booting.ensures.only c.self.invariant.own_is h.found.grows
      (refused (λ (w : Wire). w) g.N.Numbered.launcher c.args.service c.args.incarnation c.args.link (frame.Boot c.args.service c.args.incarnation c.args.tokens) (seen_at c.self.inside.cells c.args.service) (seen_at c.boot-booting.new.self c.args.service) c.boot-booting.result c.boot-booting.ensures.launched c.in-NoMemory.link c.in-NoMemory.is));
  added = tt;
  kept = search rules;
  linked = tt;
  unlinked = c.boot-booting.ensures.link ∙ ap has_booted c.in-NoMemory.is;
  out = let s = c.args.service in
      let old = c.self.inside.cells in
      let new = c.boot-booting.new.self in
      let h = c.boot-booting.ensures.launched in
      let empty = subst (λ (r : Recorded). incarnation (seen_at r.watch s) ≡ 0) (sym c.self.view_is) c.requires.empty in
      subst (λ (r : Recorded). link_at r.watch s ≡ false → (n : ℕ) → all_out new n ≤ all_out r.watch n) c.self.view_is
      (all_unbooted g.N.Numbered.launcher s old new h.before.past c.boot-booting.ensures.only h.found.grows empty (refused (λ (w : Wire). w) g.N.Numbered.launcher c.args.service c.args.incarnation c.args.link (frame.Boot c.args.service c.args.incarnation c.args.tokens) (seen_at c.self.inside.cells c.args.service) (seen_at c.boot-booting.new.self c.args.service) c.boot-booting.result c.boot-booting.ensures.launched c.in-NoMemory.link c.in-NoMemory.is) (c.boot-booting.ensures.link ∙ ap has_booted c.in-NoMemory.is));
  last = tt;
  front = subst (λ (x : ServerFrame). IsFront (server_spelling x) c.in-NoMemory.link.given) c.requires.tokens
      (refused_front (λ (w : Wire). w) g.N.Numbered.launcher c.args.service c.args.incarnation c.args.link (frame.Boot c.args.service c.args.incarnation c.args.tokens) (seen_at c.self.inside.cells c.args.service) (seen_at c.boot-booting.new.self c.args.service) c.boot-booting.result c.boot-booting.ensures.launched c.requires.link.given c.in-NoMemory.link c.in-NoMemory.is);
  whose = refused_whose (λ (w : Wire). w) g.N.Numbered.launcher c.args.service c.args.incarnation c.args.link (frame.Boot c.args.service c.args.incarnation c.args.tokens) (seen_at c.self.inside.cells c.args.service) (seen_at c.boot-booting.new.self c.args.service) c.boot-booting.result c.boot-booting.ensures.launched (Some (child_named c.args.service c.args.incarnation)) c.requires.link.whose c.in-NoMemory.link c.in-NoMemory.is;
  untaken = refused_untaken (λ (w : Wire). w) g.N.Numbered.launcher c.args.service c.args.incarnation c.args.link (frame.Boot c.args.service c.args.incarnation c.args.tokens) (seen_at c.self.inside.cells c.args.service) (seen_at c.boot-booting.new.self c.args.service) c.boot-booting.result c.boot-booting.ensures.launched c.requires.link.came c.in-NoMemory.link c.in-NoMemory.is;
  cause = search rules;
  room = search rules;
}
