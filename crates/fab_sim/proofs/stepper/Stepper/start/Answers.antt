use Rattle.std.proofs.Common.{◌≡◌, ℕ, true, false, List, length, zero-add, sym, ap, ◌∙◌, subst}
use Rattle.std.specs.List.{slice_get}
use Rattle.std.specs.Vec.{with_items}
use Rattle.std.proofs.lemmas.List.{with_items_is}
use Rattle.fab_draws.specs.Draws.{behind, word_at}
use Rattle.fab_equations.specs.Instances.{points}
use Rattle.fab_equations.proofs.Numbering.{same_value}
use Rattle.fab_ternary.specs.declared.Tern.{Tern}
use Rattle.fab_ternary.specs.Terns.{is_known}
use Rattle.fab_network.specs.declared.network.Drive.{Drive}
use Rattle.fab_network.specs.declared.network.Drive.TheVariants.{Flop, Given}
use Rattle.fab_network.specs.Passes.{kept_tern}
use Rattle.fab_wiring.specs.Wiring.{IsDriveOf}
use Rattle.fab_phases.specs.Cycles.{AreOnce, IsFed}
use Rattle.fab_state_points.specs.Entries.{register_entries}
use Rattle.fab_stepping.specs.declared.board.Board.{Board}
use Rattle.fab_stepping.specs.Boards.{IsBoardOf, IsTakenOver}
use Rattle.fab_stepping.specs.Drawing.{AreDrawn, marked_before}
use Rattle.fab_sim.proofs.Blocks.{known_is, words_later}
use Rattle.fab_sim.proofs.Feeding.{flop_holds}
use Rattle.fab_sim.proofs.Numbers.{ffs_once, numbers_within}
use Rattle.fab_sim.proofs.Orders.{own_apart, own_below, own_range}
use Rattle.fab_sim.proofs.Points.{number_declared, point_of}
use Rattle.fab_sim.proofs.StartValues.{drawn_at, drawn_now, held_at, held_now}
use Rattle.fab_sim.proofs.Starts.{is_start, solution_so, stands_for, start}
use Rattle.fab_sim.proofs.stepper.Stepper.start.Goals as goal

pub feed-requires-clause-ins : goal.feed-requires-clause-ins
feed-requires-clause-ins c place number e =
    let unset = c.requires.5 in
    let old = c.args.self.now in
    let h1 = c.take_over.new.terns in
    let in_h1 : (with_items old.board.held h1).items ≡ h1 = with_items_is old.board.held h1 (c.take_over.auto.terns ∙ c.deref_mut-2.ensures.len) in
    let long : length c.deref_mut-3.result.now ≡ length (points c.requires.0) =
    ap length (c.deref_mut-3.ensures.value ∙ in_h1) ∙ c.take_over.auto.terns ∙ ap length c.deref_mut-2.ensures.value ∙ unset.board.held ∙ unset.network.long in
    numbers_within c.requires.0 (register_entries c.requires.1.ffs) c.args.self.now.points.ffs.items (length c.deref_mut-3.result.now) unset.points_stand.ffs long place number
    (ap (λ (ns : List ℕ). slice_get ns place) (sym c.deref-2.ensures.value) ∙ e)

pub feed-requires-clause-once : goal.feed-requires-clause-once
feed-requires-clause-once c =
    let unset = c.requires.5 in
    subst AreOnce (sym c.deref-2.ensures.value) (ffs_once c.requires.0 c.requires.1 c.args.self.now.points.ffs.items unset.once unset.points_stand.ffs)

pub solve-requires-clause-known : goal.solve-requires-clause-known
solve-requires-clause-known c =
    let text = c.requires.0 in
    let state = c.requires.1 in
    let words = c.requires.2 in
    let loaded = c.requires.3 in
    let is_loaded = c.requires.4 in
    let unset = c.requires.5 in
    let old = c.args.self.now in
    let loads = c.args.loads.now in
    let values = c.args.values.now in
    let one = c.points_of_sound_texts_have_one_driver.ensures in
    let decided = c.loading_is_decided.ensures in
    let t1 = c.draw_values.new.terns in
    let h1 = c.take_over.new.terns in
    let h2 = c.feed.new.given in
    let in_t1 : (with_items old.board.terns t1).items ≡ t1 = with_items_is old.board.terns t1 (c.draw_values.auto.terns ∙ c.deref_mut.ensures.len) in
    let in_h1 : (with_items old.board.held h1).items ≡ h1 = with_items_is old.board.held h1 (c.take_over.auto.terns ∙ c.deref_mut-2.ensures.len) in
    let in_h2 : (with_items (with_items old.board.held h1) h2).items ≡ h2 = with_items_is (with_items old.board.held h1) h2 (c.feed.auto.given ∙ c.deref_mut-3.ensures.len) in
    let drawn : AreDrawn (word_at old.random) loads false old.board.terns.items t1 =
    subst (λ (ts : List Tern). AreDrawn (word_at old.random) loads false ts t1) c.deref_mut.ensures.value c.draw_values.ensures.values in
    let taken : IsTakenOver loads false t1 old.board.held.items h1 =
    subst (λ (ts : List Tern). IsTakenOver loads false ts old.board.held.items h1) (c.deref.ensures.value ∙ in_t1)
    (subst (λ (ts : List Tern). IsTakenOver loads false c.deref.result.now ts h1) c.deref_mut-2.ensures.value c.take_over.ensures) in
    let fed : IsFed old.points.ffs.items values (kept_tern h1) (kept_tern h2) =
    subst (λ (ns : List ℕ). IsFed ns values (kept_tern h1) (kept_tern h2)) c.deref-2.ensures.value
    (subst (λ (ts : List Tern). IsFed c.deref-2.result.now values (kept_tern ts) (kept_tern h2)) (c.deref_mut-3.ensures.value ∙ in_h1) c.feed.ensures) in
    record {
      inputs = λ point e.
          let p = point_of text old.network unset.network point Given e in
          ap (λ (ts : List Tern). is_known (kept_tern ts point)) in_t1
          ∙ ap is_known (drawn_at text state loaded loads values old unset words is_loaded decided t1 h1 h2 drawn taken fed point p.0 p.1)
          ∙ known_is (drawn_now text state loaded loads values old unset words is_loaded decided t1 h1 h2 drawn taken fed p.0);
      flops = λ point clock next e.
          let p = point_of text old.network unset.network point (Flop clock next) e in
          let d = one text unset.network.sound p.0 (number_declared text unset.network.sound point p.0 p.1) in
          let w = unset.network.drives point p.0 d.0 p.1 d.1 in
          let same : w.drive ≡ Flop clock next = same_value (slice_get old.network.drives.items point) w.drive (Flop clock next) w.is e in
          let holds = flop_holds text old.network.trees.items d.0 clock next (subst (λ (x : Drive). IsDriveOf text old.network.trees.items d.0 x) same w.of) in
          ap (λ (ts : List Tern). is_known (kept_tern ts point)) in_h2
          ∙ ap is_known (held_at text state loaded loads values old unset words is_loaded decided t1 h1 h2 drawn taken fed point p.0 d.0 p.1 d.1 holds)
          ∙ known_is (held_now text state loaded loads values old unset words is_loaded decided t1 h1 h2 drawn taken fed p.0);
    }

pub returns : goal.returns
returns c text state words loaded is_loaded unset =
    let old = c.args.self.now in
    let loads = c.args.loads.now in
    let values = c.args.values.now in
    let one = c.points_of_sound_texts_have_one_driver.ensures in
    let decided = c.loading_is_decided.ensures in
    let runs = c.loading_runs_exist.ensures.runs in
    let knows = c.loading_is_known.ensures.known in
    let exist = c.least_solutions.ensures.exist in
    let t1 = c.draw_values.new.terns in
    let h1 = c.take_over.new.terns in
    let h2 = c.feed.new.given in
    let solution = c.solve.new.solution in
    let t2 = c.take_over-2.new.terns in
    let in_t1 : (with_items old.board.terns t1).items ≡ t1 = with_items_is old.board.terns t1 (c.draw_values.auto.terns ∙ c.deref_mut.ensures.len) in
    let in_h1 : (with_items old.board.held h1).items ≡ h1 = with_items_is old.board.held h1 (c.take_over.auto.terns ∙ c.deref_mut-2.ensures.len) in
    let in_h2 : (with_items (with_items old.board.held h1) h2).items ≡ h2 = with_items_is (with_items old.board.held h1) h2 (c.feed.auto.given ∙ c.deref_mut-3.ensures.len) in
    let in_solution : (with_items old.solution solution).items ≡ solution = with_items_is old.solution solution (c.solve.auto.solution ∙ c.deref_mut-4.ensures.len) in
    let in_t2 : (with_items (with_items old.board.terns t1) t2).items ≡ t2 = with_items_is (with_items old.board.terns t1) t2 (c.take_over-2.auto.terns ∙ c.deref_mut-5.ensures.len) in
    let drawn : AreDrawn (word_at old.random) loads false old.board.terns.items t1 =
    subst (λ (ts : List Tern). AreDrawn (word_at old.random) loads false ts t1) c.deref_mut.ensures.value c.draw_values.ensures.values in
    let taken : IsTakenOver loads false t1 old.board.held.items h1 =
    subst (λ (ts : List Tern). IsTakenOver loads false ts old.board.held.items h1) (c.deref.ensures.value ∙ in_t1)
    (subst (λ (ts : List Tern). IsTakenOver loads false c.deref.result.now ts h1) c.deref_mut-2.ensures.value c.take_over.ensures) in
    let fed : IsFed old.points.ffs.items values (kept_tern h1) (kept_tern h2) =
    subst (λ (ns : List ℕ). IsFed ns values (kept_tern h1) (kept_tern h2)) c.deref-2.ensures.value
    (subst (λ (ts : List Tern). IsFed c.deref-2.result.now values (kept_tern ts) (kept_tern h2)) (c.deref_mut-3.ensures.value ∙ in_h1) c.feed.ensures) in
    let over : IsTakenOver loads true solution t1 t2 =
    subst (λ (ts : List Tern). IsTakenOver loads true ts t1 t2) (c.deref-3.ensures.value ∙ in_solution)
    (subst (λ (ts : List Tern). IsTakenOver loads true c.deref-3.result.now ts t2) (c.deref_mut-5.ensures.value ∙ in_t1) c.take_over-2.ensures) in
    let middle : Board = record { terns = with_items old.board.terns t1; held = with_items (with_items old.board.held h1) h2; leads = old.board.leads } in
    let held_long : length (with_items (with_items old.board.held h1) h2).items ≡ length old.network.drives.items =
    ap length in_h2 ∙ c.feed.auto.given ∙ ap length (c.deref_mut-3.ensures.value ∙ in_h1) ∙ taken.long ∙ unset.board.held in
    let is_middle : IsBoardOf old.network middle = record {
      few = unset.board.few;
      terns = ap length in_t1 ∙ drawn.long ∙ unset.board.terns;
      held = held_long;
      leads = unset.board.leads;
    } in
    let last : Board = record { terns = with_items (with_items old.board.terns t1) t2; held = with_items (with_items old.board.held h1) h2; leads = old.board.leads } in
    let first_words : word_at old.random ≡ behind 0 (word_at old.random) = (λ i place. word_at old.random (sym (zero-add place) i)) in (
      start text state loaded loads values old unset words is_loaded decided t1 h1 h2 drawn taken fed one runs knows exist middle is_middle in_t1 in_h2 solution t2 c.solve.ensures over,
      is_start text state loaded loads values old unset words is_loaded decided t1 h1 h2 drawn taken fed one runs knows exist middle is_middle in_t1 in_h2 solution t2 c.solve.ensures over,
      record {
        network = unset.network;
        once = unset.once;
        points_stand = unset.points_stand;
        board = record {
          few = unset.board.few;
          terns = ap length in_t2 ∙ over.long ∙ drawn.long ∙ unset.board.terns;
          held = held_long;
          leads = unset.board.leads;
        };
        standing =
            stands_for text state loaded loads values old unset words is_loaded decided t1 h1 h2 drawn taken fed one runs knows exist middle is_middle in_t1 in_h2 solution t2
            c.solve.ensures over last in_t2 in_h2;
        solution_long = ap length in_solution ∙ c.solve.auto.solution ∙ ap length c.deref_mut-4.ensures.value ∙ unset.solution_long;
        solution = λ number p at.
            ap (λ (ts : List Tern). kept_tern ts number) in_solution
            ∙ solution_so text state loaded loads values old unset words is_loaded decided t1 h1 h2 drawn taken fed one runs knows exist middle is_middle in_t1 in_h2 solution t2
            c.solve.ensures over number p at;
        order = own_range (length (points text)) old.order.items unset.order;
        order_long = unset.order.long;
        below = own_below (length (points text)) old.order.items unset.order;
        apart = own_apart (length (points text)) old.order.items unset.order;
        free = unset.free;
        drawn = words_later (word_at old.random) 0 (marked_before false loads (length loads)) old.random c.draw_values.new.random first_words c.draw_values.ensures.rest;
      },
    )
