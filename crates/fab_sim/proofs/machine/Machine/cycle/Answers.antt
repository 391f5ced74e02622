use Rattle.std.proofs.Common.{◌≡◌, ℕ, List, length, sym, ap, subst, ◌∙◌}
use Rattle.std.specs.List.{slice_get}
use Rattle.std.specs.Vec.{with_items}
use Rattle.std.proofs.lemmas.List.{with_items_is}
use Rattle.fab_ternary.specs.declared.Tern.{Tern}
use Rattle.fab_state_points.specs.Entries.{in_entries, out_entries}
use Rattle.fab_network.specs.declared.forms.Form.{Form}
use Rattle.fab_demand.specs.Demand.{AreFormsOf}
use Rattle.fab_phases.specs.Cycles.{IsRunningAt}
use Rattle.fab_sim.proofs.Numbers.{as_many_ins, ins_once, numbers_within}
use Rattle.fab_sim.proofs.Cycling.{ShowsAs, TicksAs, moved, runs_as}
use Rattle.fab_sim.proofs.Opening.{own_marked, runs_on}
use Rattle.fab_sim.proofs.machine.Machine.cycle.Goals as goal

pub begin_cycle-requires-clause-marked : goal.begin_cycle-requires-clause-marked
begin_cycle-requires-clause-marked c =
    let m = c.args.self.now in
    own_marked m.network m.points.ins.items m.points.outs.items m.demand m.given.items c.requires.3.holds c.requires.3.running

pub cycle_in_run-requires-clause-ins : goal.cycle_in_run-requires-clause-ins
cycle_in_run-requires-clause-ins c place number e =
    let m = c.args.self.now in
    let of = c.requires.3.of in
    numbers_within c.requires.0 (in_entries c.requires.1.ins) m.points.ins.items (length m.network.drives.items) of.stands.ins of.network.long place number
    (ap (λ (ns : List ℕ). slice_get ns place) (sym c.deref.ensures.value) ∙ e)

pub cycle_in_run-requires-clause-once : goal.cycle_in_run-requires-clause-once
cycle_in_run-requires-clause-once c place other number e f =
    let of = c.requires.3.of in
    ins_once c.requires.0 c.requires.1 c.args.self.now.points.ins.items of.once of.stands.ins place other number
    (ap (λ (ns : List ℕ). slice_get ns place) (sym c.deref.ensures.value) ∙ e) (ap (λ (ns : List ℕ). slice_get ns other) (sym c.deref.ensures.value) ∙ f)

pub cycle_in_run-requires-clause-outs : goal.cycle_in_run-requires-clause-outs
cycle_in_run-requires-clause-outs c place number e =
    let m = c.args.self.now in
    let of = c.requires.3.of in
    numbers_within c.requires.0 (out_entries c.requires.1.outs) m.points.outs.items (length m.network.drives.items) of.stands.outs of.network.long place number
    (ap (λ (ns : List ℕ). slice_get ns place) (sym c.deref-2.ensures.value) ∙ e)

pub cycle_in_run-requires-clause-forms : goal.cycle_in_run-requires-clause-forms
cycle_in_run-requires-clause-forms c =
    let m = c.args.self.now in
    subst (λ (forms : List Form). AreFormsOf m.network c.begin_cycle.new.demand forms) (sym c.deref-3.ensures.value) c.begin_cycle.ensures.forms

pub returns : goal.returns
returns c text state held next shown at cycle =
    let m = c.args.self.now in
    let values = c.args.inputs.now in
    let many : length values ≡ length state.ins =
    c.requires.4 ∙ sym (as_many_ins c.requires.0 c.requires.1.ins m.points.ins.items c.requires.3.of.stands.ins) ∙ as_many_ins text state.ins
    m.points.ins.items at.of.stands.ins in
    let run = runs_as text state m held next at values many shown cycle c.numbered_exists.ensures.numbers c.numbered_solutions.ensures.least
    c.numbered_kept.ensures in
    let formed = c.begin_cycle.new.demand in
    let running = runs_on m.network m.points.ins.items m.points.outs.items m.demand formed m.given.items at.holds c.begin_cycle.ensures.stays at.running in
    let shows = moved (ShowsAs m.network formed values c.cycle_in_run.new.outputs) c.deref.result.now m.points.ins.items c.deref-2.result.now m.points.outs.items
    c.deref_mut.result.now m.given.items c.deref.ensures.value c.deref-2.ensures.value c.deref_mut.ensures.value c.cycle_in_run.ensures.shows in
    let ticks = moved (TicksAs m.network formed c.cycle_in_run.new.demand values c.cycle_in_run.new.given) c.deref.result.now m.points.ins.items c.deref-2.result.now
    m.points.outs.items
    c.deref_mut.result.now m.given.items c.deref.ensures.value c.deref-2.ensures.value c.deref_mut.ensures.value c.cycle_in_run.ensures.ticks in
    let filled : (with_items m.given c.cycle_in_run.new.given).items ≡ c.cycle_in_run.new.given = with_items_is m.given c.cycle_in_run.new.given
    (c.cycle_in_run.auto.given ∙ c.deref_mut.ensures.len) in (
      shows at.holds run.later run.t running run.fed run.least ∙ run.shows,
      record {
        of = record {
          network = at.of.network;
          once = at.of.once;
          stands = at.of.stands;
          values = at.of.values;
          given = ap length filled ∙ c.cycle_in_run.auto.given ∙ ap length c.deref_mut.ensures.value ∙ at.of.given;
          demand = c.cycle_in_run.ensures.points ∙ c.begin_cycle.ensures.points ∙ at.of.demand;
          loads = at.of.loads;
          clock = at.of.clock;
        };
        holds = run.after;
        running = subst (λ (xs : List Tern). IsRunningAt m.network m.points.ins.items m.points.outs.items c.cycle_in_run.new.demand xs run.after) (sym filled)
            (ticks at.holds run.later run.t run.after running run.fed run.least run.ticked);
        forms = subst (λ (forms : List Form). AreFormsOf m.network c.cycle_in_run.new.demand forms) c.deref-3.ensures.value c.cycle_in_run.ensures.forms;
        agree = run.agree;
        low = run.low;
      },
    )
