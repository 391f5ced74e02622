use Rattle.std.proofs.Common.{◌≡◌, ℕ, Bool, true, List, length, refl, sym, ap, ◌∙◌, subst}
use Rattle.std.specs.List.{slice_get}
use Rattle.std.specs.Vec.{with_items}
use Rattle.std.proofs.lemmas.List.{with_items_is}
use Rattle.fab_draws.specs.Draws.{after, word_at}
use Rattle.fab_equations.specs.Instances.{points}
use Rattle.fab_ternary.specs.declared.Tern.{Tern}
use Rattle.fab_ternary.specs.Terns.{is_known}
use Rattle.fab_compiled.specs.Terns.{seen}
use Rattle.fab_network.specs.declared.network.Drive.TheVariants.{Given}
use Rattle.fab_network.specs.Passes.{kept_tern}
use Rattle.fab_network.specs.Solved.{IsLeast}
use Rattle.fab_phases.specs.Cycles.{AreOnce, IsFed}
use Rattle.fab_state_points.specs.Entries.{in_entries}
use Rattle.fab_stepping.specs.Boards.{given_on}
use Rattle.fab_stepping.specs.Drawing.{AreDrawn, marked_before}
use Rattle.fab_sim.specs.declared.stepper.Stepper.{Stepper}
use Rattle.fab_sim.proofs.CyclesBegin.{after_begin, is_begun, stands_begin}
use Rattle.fab_sim.proofs.Feeding.{flops_known, value_known}
use Rattle.fab_sim.proofs.Points.{point_of}
use Rattle.fab_sim.proofs.Numbers.{ins_once, numbers_within}
use Rattle.fab_sim.proofs.stepper.Stepper.begin.Goals as goal

pub feed-requires-clause-ins : goal.feed-requires-clause-ins
feed-requires-clause-ins c place number e =
    let stands = c.requires.1.4 in
    let long : length c.deref_mut.result.now ≡ length (points c.requires.1.0) = ap length c.deref_mut.ensures.value ∙ stands.board.terns ∙ stands.network.long in
    numbers_within c.requires.1.0 (in_entries c.requires.1.1.ins) c.args.self.now.points.ins.items (length c.deref_mut.result.now) stands.points_stand.ins long place number
    (ap (λ (ns : List ℕ). slice_get ns place) (sym c.deref.ensures.value) ∙ e)

pub feed-requires-clause-once : goal.feed-requires-clause-once
feed-requires-clause-once c =
    let stands = c.requires.1.4 in
    subst AreOnce (sym c.deref.ensures.value) (ins_once c.requires.1.0 c.requires.1.1 c.args.self.now.points.ins.items stands.once stands.points_stand.ins)

pub solve-requires-clause-known : goal.solve-requires-clause-known
solve-requires-clause-known c =
    let old = c.args.self.now in
    let text = c.requires.1.0 in
    let state = c.requires.1.1 in
    let draws = c.requires.1.2 in
    let before = c.requires.1.3 in
    let stands = c.requires.1.4 in
    let one = c.points_of_sound_texts_have_one_driver.ensures in
    let fed = c.feed.new.given in
    let terns = c.draw_values.new.terns in
    let filled : (with_items old.board.terns fed).items ≡ fed = with_items_is old.board.terns fed (c.feed.auto.given ∙ c.deref_mut.ensures.len) in
    let drawn_in : (with_items (with_items old.board.terns fed) terns).items ≡ terns =
    with_items_is (with_items old.board.terns fed) terns (c.draw_values.auto.terns ∙ c.deref_mut-2.ensures.len) in
    let is_fed : IsFed old.points.ins.items c.args.inputs.now (kept_tern old.board.terns.items) (kept_tern fed) =
    subst (λ (ins : List ℕ). IsFed ins c.args.inputs.now (kept_tern old.board.terns.items) (kept_tern fed)) c.deref.ensures.value
    (subst (λ (ts : List Tern). IsFed c.deref.result.now c.args.inputs.now (kept_tern ts) (kept_tern fed)) c.deref_mut.ensures.value c.feed.ensures) in
    let drawn : AreDrawn (word_at old.random) old.free.items true fed terns =
    subst (λ (marks : List Bool). AreDrawn (word_at old.random) marks true fed terns) c.deref-2.ensures.value
    (subst (λ (ts : List Tern). AreDrawn (word_at old.random) c.deref-2.result.now true ts terns) (c.deref_mut-2.ensures.value ∙ filled) c.draw_values.ensures.values) in
    record {
      inputs = λ point e.
          let p = point_of text old.network stands.network point Given e in
          ap (λ (ts : List Tern). is_known (kept_tern ts point)) drawn_in
          ∙ value_known text state draws one old before stands c.args.inputs.now c.requires.1.5 fed terns is_fed drawn point p.0 p.1;
      flops = flops_known text state draws one old before stands;
    }

pub returns : goal.returns
returns c text state draws before stands many =
    let old = c.args.self.now in
    let one = c.points_of_sound_texts_have_one_driver.ensures in
    let fed = c.feed.new.given in
    let terns = c.draw_values.new.terns in
    let new : Stepper = record {
      network = old.network;
      points = old.points;
      board = record { terns = with_items (with_items old.board.terns fed) terns; held = old.board.held; leads = old.board.leads };
      solution = with_items old.solution c.solve.new.solution;
      readers = c.solve.new.readers;
      order = old.order;
      free = old.free;
      random = c.draw_values.new.random;
    } in
    let filled : (with_items old.board.terns fed).items ≡ fed = with_items_is old.board.terns fed (c.feed.auto.given ∙ c.deref_mut.ensures.len) in
    let drawn_in : (with_items (with_items old.board.terns fed) terns).items ≡ terns =
    with_items_is (with_items old.board.terns fed) terns (c.draw_values.auto.terns ∙ c.deref_mut-2.ensures.len) in
    let solved_in : (with_items old.solution c.solve.new.solution).items ≡ c.solve.new.solution =
    with_items_is old.solution c.solve.new.solution (c.solve.auto.solution ∙ c.deref_mut-3.ensures.len) in
    let is_fed : IsFed old.points.ins.items c.args.inputs.now (kept_tern old.board.terns.items) (kept_tern fed) =
    subst (λ (ins : List ℕ). IsFed ins c.args.inputs.now (kept_tern old.board.terns.items) (kept_tern fed)) c.deref.ensures.value
    (subst (λ (ts : List Tern). IsFed c.deref.result.now c.args.inputs.now (kept_tern ts) (kept_tern fed)) c.deref_mut.ensures.value c.feed.ensures) in
    let drawn : AreDrawn (word_at old.random) old.free.items true fed terns =
    subst (λ (marks : List Bool). AreDrawn (word_at old.random) marks true fed terns) c.deref-2.ensures.value
    (subst (λ (ts : List Tern). AreDrawn (word_at old.random) c.deref-2.result.now true ts terns) (c.deref_mut-2.ensures.value ∙ filled) c.draw_values.ensures.values) in
    let fed_long : length fed ≡ length old.board.terns.items = c.feed.auto.given ∙ ap length c.deref_mut.ensures.value in
    let random_is : c.draw_values.new.random ≡ after (marked_before true old.free.items (length old.free.items)) old.random =
    c.draw_values.ensures.rest ∙ ap (λ (marks : List Bool). after (marked_before true marks (length marks)) old.random) c.deref-2.ensures.value in
    let long : length (with_items old.solution c.solve.new.solution).items ≡ length (points text) =
    ap length solved_in ∙ c.solve.auto.solution ∙ ap length c.deref_mut-3.ensures.value ∙ stands.solution_long in
    let least : IsLeast old.network.trees.items old.network.drives.items (given_on old.network new.board) (seen (with_items old.solution c.solve.new.solution).items old.board.leads.items) =
    subst (λ (ts : List Tern). IsLeast old.network.trees.items old.network.drives.items (given_on old.network new.board) (seen ts old.board.leads.items)) (sym solved_in)
    c.solve.ensures in (
      after_begin text state draws one c.least_solutions.ensures.exist old new before stands c.args.inputs.now many fed terns is_fed drawn fed_long refl refl refl refl drawn_in refl refl
          random_is long least,
      is_begun text state draws one c.least_solutions.ensures.exist old new before stands c.args.inputs.now many fed terns is_fed drawn fed_long refl refl refl refl drawn_in refl refl
          random_is long least,
      stands_begin text state draws one c.least_solutions.ensures.exist old new before stands c.args.inputs.now many fed terns is_fed drawn fed_long refl refl refl refl drawn_in refl
          refl random_is long least,
    )
