use Rattle.std.proofs.Common.{◌≡◌, ℕ, List, length, map, refl, sym, ap, ◌∙◌}
use Rattle.std.specs.List.{slice_get}
use Rattle.fab_equations.specs.Instances.{points}
use Rattle.fab_ternary.specs.Terns.{is_one}
use Rattle.fab_network.specs.Passes.{kept_tern}
use Rattle.fab_state_points.specs.Entries.{out_entries}
use Rattle.fab_sim.specs.declared.stepper.Stepper.{Stepper}
use Rattle.fab_sim.proofs.Ended.{after_end, is_end, stands_end}
use Rattle.fab_sim.proofs.Numbers.{numbers_within}
use Rattle.fab_sim.proofs.stepper.Stepper.end.Goals as goal

pub show-requires-clause-outs : goal.show-requires-clause-outs
show-requires-clause-outs c place number e =
    let stands = c.requires.1.4 in
    let long : length c.deref-2.result.now ≡ length (points c.requires.1.0) = ap length c.deref-2.ensures.value ∙ stands.board.terns ∙ stands.network.long in
    numbers_within c.requires.1.0 (out_entries c.requires.1.1.outs) c.args.self.now.points.outs.items (length c.deref-2.result.now) stands.points_stand.outs long place number
    (ap (λ (ns : List ℕ). slice_get ns place) (sym c.deref.ensures.value) ∙ e)

pub returns : goal.returns
returns c text state draws before stands many =
    let old = c.args.self.now in
    let new : Stepper = record {
      network = old.network;
      points = old.points;
      board = c.tick.new.self;
      solution = old.solution;
      readers = old.readers;
      order = old.order;
      free = old.free;
      random = old.random;
    } in
    let one = c.points_of_sound_texts_have_one_driver.ensures in
    let shown : c.show.new.outputs ≡ map (λ point. is_one (kept_tern old.board.terns.items point)) old.points.outs.items =
    c.show.ensures ∙ (λ i. map (λ point. is_one (kept_tern (c.deref-2.ensures.value i) point)) (c.deref.ensures.value i)) in (
      after_end text state draws one old new before stands c.show.new.outputs shown c.tick.ensures refl refl refl refl refl refl,
      is_end text state draws one old new before stands c.show.new.outputs shown c.tick.ensures refl refl refl refl refl refl,
      stands_end text state draws one old new before stands c.show.new.outputs shown c.tick.ensures refl refl refl refl refl refl,
    )
