-- The board of a design, and placements of its items that no exchange betters.
use Rattle.std.specs.Prelude.{◌≡◌, ℕ, ◌≤◌, false, List, ◌++◌, Option, map, length, replicate, is_some}
use Rattle.fab_fabric.specs.declared.wire.Site.{Site}
use Rattle.fab_netlist.specs.Packed.{PlainPacked}
use Rattle.fab_implementation.specs.Plain.{Pad}
use Rattle.fab_annealing.specs.declared.board.Board.{Board}
use Rattle.fab_annealing.specs.Measured.{IsNets, net_count, item_count}
use Rattle.fab_annealing.specs.Boards.{IsPlaced, IsOptimal, Keeps, cost}
use Rattle.fab_ways_laws.specs.fab_legal_WellMade.{ports}
use Rattle.fab_place.specs.Pins.{net_total, item_total, pins, HavePins}
use Rattle.fab_place.specs.inner.Constraints.{AreConstrained}
use Rattle.fab_place.specs.inner.Starts.{start_numbers}

-- the sites by column and row, the nets of the pins, and the ports that stay
pub record IsBoardOf (packed : PlainPacked) (sites : List Site) (luts : ℕ) (constrained : List (Option ℕ)) (board : Board) : Type 0 where
  pub columns : board.columns.items ≡ map (λ (site : Site). site.x) sites
  pub rows : board.rows.items ≡ map (λ (site : Site). site.y) sites
  pub second : board.second ≡ luts
  pub good_nets : IsNets board.nets
  pub nets : net_count board.nets ≡ net_total packed
  pub items : item_count board.nets ≡ item_total packed
  pub pins : HavePins board.nets (pins packed)
  pub locked : board.locked.items ≡ replicate (length packed.cells) false ++ map is_some constrained

-- no exchange betters where the items stand, which came of the placement in order
pub record IsSettled (packed : PlainPacked) (fixed : List Pad) (luts pads : List Site) (numbers : List ℕ) : Type 0 where
  pub board : Board
  pub constrained : List (Option ℕ)
  pub are : AreConstrained fixed pads (ports packed) constrained
  pub board_is : IsBoardOf packed (luts ++ pads) (length luts) constrained board
  pub placed : IsPlaced board numbers
  pub keeps : Keeps board (start_numbers (length packed.cells) (length luts) (length pads) constrained) numbers
  pub low : cost board numbers ≤ cost board (start_numbers (length packed.cells) (length luts) (length pads) constrained)
  pub optimal : IsOptimal board numbers
