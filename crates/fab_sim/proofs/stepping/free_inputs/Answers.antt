use Rattle.std.proofs.Common.{◌≡◌, ℕ, Bool, List, [], length, sym, ap, ◌∙◌, subst, arith}
use Rattle.std.specs.List.{slice_get}
use Rattle.std.specs.Vec.{with_items}
use Rattle.std.proofs.lemmas.List.{with_items_is}
use Rattle.std.proofs.lemmas.Option.{slice_get_within}
use Rattle.fab_meaning.specs.Points.{point}
use Rattle.fab_meaning.specs.Runs.{user_clock_name}
use Rattle.fab_equations.specs.Instances.{points}
use Rattle.fab_equations.specs.Equations.{IsPoint}
use Rattle.fab_wiring.specs.Clocks.{IsClockAt}
use Rattle.fab_state_points.specs.Entries.{in_entries}
use Rattle.fab_sim.specs.inner.Rooms.{IsUnmarked, IsUnmarkedAt}
use Rattle.fab_sim.specs.Stepper.{AreFreeInputs}
use Rattle.fab_sim.proofs.FreeInputs.{are_free}
use Rattle.fab_sim.proofs.Numbers.{numbers_within}
use Rattle.fab_sim.proofs.stepping.free_inputs.Goals as goal

pub unmark-requires : goal.unmark-requires
unmark-requires c place number e =
    let fresh = c.requires.5 in
    let long : length c.deref_mut.result.now ≡ length (points c.requires.0) = ap length c.deref_mut.ensures.value ∙ c.in_ok-free.ensures.long ∙ fresh.of.network.long in
    numbers_within c.requires.0 (in_entries c.requires.1.ins) c.args.machine.now.points.ins.items (length c.deref_mut.result.now) fresh.of.stands.ins long place number
    (ap (λ (ns : List ℕ). slice_get ns place) (sym c.deref-2.ensures.value) ∙ e)

pub unmark_point-requires : goal.unmark_point-requires
unmark_point-requires c number e =
    let fresh = c.requires.5 in
    let free = c.in_ok-free.free in
    let first = c.unmark.new.marks in
    let in_first : (with_items free first).items ≡ first = with_items_is free first (c.unmark.auto.marks ∙ c.deref_mut.ensures.len) in
    let long : length c.deref_mut-2.result.now ≡ length (points c.requires.0) =
    ap length (c.deref_mut-2.ensures.value ∙ in_first) ∙ c.unmark.auto.marks ∙ ap length c.deref_mut.ensures.value ∙ c.in_ok-free.ensures.long ∙ fresh.of.network.long in
    let is : IsPoint c.requires.0 number (point [] user_clock_name 0) = subst (IsClockAt c.requires.0 user_clock_name) e fresh.of.clock in
    let inside = slice_get_within (points c.requires.0) number (point [] user_clock_name 0) is in
    omega (arith, inside, long)

pub returns : goal.returns
returns c text state loaded fresh =
    let machine = c.args.machine.now in
    let free = c.in_ok-free.free in
    let first = c.unmark.new.marks in
    let second = c.unmark_point.new.marks in
    let in_first : (with_items free first).items ≡ first = with_items_is free first (c.unmark.auto.marks ∙ c.deref_mut.ensures.len) in
    let in_second : (with_items (with_items free first) second).items ≡ second =
    with_items_is (with_items free first) second (c.unmark_point.auto.marks ∙ c.deref_mut-2.ensures.len) in
    let unmarked : IsUnmarked machine.points.ins.items free.items first =
    subst (λ (ns : List ℕ). IsUnmarked ns free.items first) c.deref-2.ensures.value
    (subst (λ (ms : List Bool). IsUnmarked c.deref-2.result.now ms first) c.deref_mut.ensures.value c.unmark.ensures) in
    let unmarked_at : IsUnmarkedAt machine.clock first second =
    subst (λ (ms : List Bool). IsUnmarkedAt machine.clock ms second) (c.deref_mut-2.ensures.value ∙ in_first) c.unmark_point.ensures in
    let long : length second ≡ length (points text) =
    c.unmark_point.auto.marks ∙ ap length (c.deref_mut-2.ensures.value ∙ in_first) ∙ c.unmark.auto.marks ∙ ap length c.deref_mut.ensures.value ∙ c.in_ok-free.ensures.long
    ∙ fresh.of.network.long in
    subst (AreFreeInputs text state) (sym in_second)
    (are_free text state c.points_of_sound_texts_have_one_driver.ensures machine.network fresh.of.network machine.points fresh.of.stands machine.loads.items fresh.of.loads
    machine.clock fresh.of.clock free.items first second long
    (λ at drive load e f. c.in_ok-free.ensures.marks at drive load e (ap (λ (ms : List Bool). slice_get ms at) c.deref.ensures.value ∙ f)) unmarked unmarked_at)
