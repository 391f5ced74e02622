use Rattle.std.proofs.Common.{rules, ◌≡◌, ◌++◌, ◌<◌, ◌≤◌, ℕ, List, Option, length, sym, ◌∙◌, ap, subst, arith}
use Rattle.std.specs.List.{All}
use Rattle.std.specs.Option.{IfSome}
use Rattle.std.proofs.lemmas.Grind.{common_steps}
use Rattle.fab_fabric.specs.declared.wire.Site.{Site}
use Rattle.fab_annealing.specs.Boards.{IsPlaced, Keeps, cost}
use Rattle.fab_place.specs.inner.Starts.{start_numbers}
use Rattle.fab_place.specs.inner.BoardOf.{IsBoardOf}
use Rattle.fab_place.proofs.Settling.{few_luts, few_pads, pads_apart, pads_inside, board_good, start_placed}
use Rattle.fab_place.proofs.placing.numbers_of.Goals as goal

pub overflow_cast-first_pad : goal.overflow_cast-first_pad
overflow_cast-first_pad g c = omega (arith, few_luts c.args.fabric.now c.args.packed.now c.args.fixed.now c.args.luts.now c.args.pads.now c.requires.luts c.requires.pads c.is_well_made.ensures.is_fabric)

pub overflow_cast-pad_count : goal.overflow_cast-pad_count
overflow_cast-pad_count g c = omega (arith, few_pads c.args.fabric.now c.args.packed.now c.args.fixed.now c.args.luts.now c.args.pads.now c.requires.luts c.requires.pads c.is_well_made.ensures.is_fabric)

pub constrained_pads-requires-clause-few : goal.constrained_pads-requires-clause-few
constrained_pads-requires-clause-few g c = omega (arith, few_pads c.args.fabric.now c.args.packed.now c.args.fixed.now c.args.luts.now c.args.pads.now c.requires.luts c.requires.pads c.is_well_made.ensures.is_fabric)

pub constrained_pads-requires-clause-pads_apart : goal.constrained_pads-requires-clause-pads_apart
constrained_pads-requires-clause-pads_apart g c = pads_apart c.args.fabric.now c.args.packed.now c.args.fixed.now c.args.luts.now c.args.pads.now c.requires.luts c.requires.pads

pub start_of-requires-clause-few : goal.start_of-requires-clause-few
start_of-requires-clause-few g c = omega (arith, few_luts c.args.fabric.now c.args.packed.now c.args.fixed.now c.args.luts.now c.args.pads.now c.requires.luts c.requires.pads c.is_well_made.ensures.is_fabric)

pub start_of-requires-clause-few_pads : goal.start_of-requires-clause-few_pads
start_of-requires-clause-few_pads g c = omega (arith, few_pads c.args.fabric.now c.args.packed.now c.args.fixed.now c.args.luts.now c.args.pads.now c.requires.luts c.requires.pads c.is_well_made.ensures.is_fabric)

pub start_of-requires-clause-inside : goal.start_of-requires-clause-inside
start_of-requires-clause-inside g c =
    subst (λ (found : List (Option ℕ)). All (λ pad. IfSome pad (λ number. number < length c.args.pads.now)) found) (sym c.deref-2.ensures.value)
    (pads_inside c.args.fabric.now c.args.packed.now c.args.fixed.now c.args.luts.now c.args.pads.now c.requires.luts c.requires.pads c.requires.fits c.requires.fixed c.in_ok-constrained.constrained.items c.in_ok-constrained.ensures)

pub settled-requires-clause-board : goal.settled-requires-clause-board
settled-requires-clause-board g c =
    let board = c.in_ok-board.board in
    let luts = c.args.luts.now in
    let is = subst (λ (found : List (Option ℕ)). IsBoardOf c.args.packed.now (luts ++ c.args.pads.now) (length luts) found board) c.deref.ensures.value
    (subst (λ (sites : List Site). IsBoardOf c.args.packed.now sites (length luts) c.deref.result.now board) c.requires.sites c.in_ok-board.ensures) in
    board_good c.args.fabric.now c.args.packed.now c.args.fixed.now c.args.luts.now c.args.pads.now c.requires.luts c.requires.pads c.requires.fits c.requires.fixed c.in_ok-constrained.constrained.items c.in_ok-constrained.ensures board is c.is_well_made.ensures.is_fabric

pub settled-requires-clause-placed : goal.settled-requires-clause-placed
settled-requires-clause-placed g c =
    let board = c.in_ok-board.board in
    let luts = c.args.luts.now in
    let constrained = c.in_ok-constrained.constrained.items in
    let is = subst (λ (found : List (Option ℕ)). IsBoardOf c.args.packed.now (luts ++ c.args.pads.now) (length luts) found board) c.deref.ensures.value
    (subst (λ (sites : List Site). IsBoardOf c.args.packed.now sites (length luts) c.deref.result.now board) c.requires.sites c.in_ok-board.ensures) in
    let cells : c.len-cells.result ≡ length c.args.packed.now.cells = first_of (search rules, grind (arith, common_steps)) in
    let start : c.deref-3.result.now ≡ start_numbers (length c.args.packed.now.cells) (length luts) (length c.args.pads.now) constrained =
    c.deref-3.ensures.value ∙ c.in_ok-start.ensures ∙ ap (λ (found : List (Option ℕ)). start_numbers c.len-cells.result (length luts) (length c.args.pads.now) found) c.deref-2.ensures.value
    ∙ ap (λ n. start_numbers n (length luts) (length c.args.pads.now) constrained) cells in
    subst (λ (numbers : List ℕ). IsPlaced board numbers) (sym start)
    (start_placed c.args.fabric.now c.args.packed.now c.args.fixed.now c.args.luts.now c.args.pads.now c.requires.luts c.requires.pads c.requires.fits c.requires.fixed constrained c.in_ok-constrained.ensures board is)

pub returns : goal.returns
returns g c =
    let board = c.in_ok-board.board in
    let luts = c.args.luts.now in
    let constrained = c.in_ok-constrained.constrained.items in
    let numbers = c.in_ok-numbers.numbers.items in
    let is = subst (λ (found : List (Option ℕ)). IsBoardOf c.args.packed.now (luts ++ c.args.pads.now) (length luts) found board) c.deref.ensures.value
    (subst (λ (sites : List Site). IsBoardOf c.args.packed.now sites (length luts) c.deref.result.now board) c.requires.sites c.in_ok-board.ensures) in
    let cells : c.len-cells.result ≡ length c.args.packed.now.cells = first_of (search rules, grind (arith, common_steps)) in
    let start : c.deref-3.result.now ≡ start_numbers (length c.args.packed.now.cells) (length luts) (length c.args.pads.now) constrained =
    c.deref-3.ensures.value ∙ c.in_ok-start.ensures ∙ ap (λ (found : List (Option ℕ)). start_numbers c.len-cells.result (length luts) (length c.args.pads.now) found) c.deref-2.ensures.value
    ∙ ap (λ n. start_numbers n (length luts) (length c.args.pads.now) constrained) cells in
    record {
      board = board;
      constrained = constrained;
      are = c.in_ok-constrained.ensures;
      board_is = is;
      placed = c.in_ok-numbers.ensures.placed;
      keeps = subst (λ (first : List ℕ). Keeps board first numbers) start c.in_ok-numbers.ensures.keeps;
      low = subst (λ (first : List ℕ). cost board numbers ≤ cost board first) start c.in_ok-numbers.ensures.low;
      optimal = c.in_ok-numbers.ensures.optimal;
    }
