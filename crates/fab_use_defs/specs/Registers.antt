-- The flip-flops of a design as the latches of its netlist, and what the state file says of them.
use Rattle.std.specs.Prelude.{◌≡◌, ℕ, Bool, true, false, List, All, Contains, length, map, nat_eq, bytes_eq, option_map, Option, Some}
use Rattle.std.specs.List.{filter_map, enumerate_from}
use Rattle.fab_meaning.specs.Settled.{Assignment}
use Rattle.fab_text_loads_laws.specs.fab_fabric_wire_Site.{Site}
use Rattle.fab_state.specs.fab_netlist.specs.declared.netlist.Latch.{Latch}
use Rattle.fab_state.specs.fab_netlist.specs.Meaning.{begins_high}
use Rattle.fab_state.specs.fab_netlist.specs.Plain.{PlainNetlist, IsAt, bit_at}
use Rattle.fab_state.specs.fab_netlist.specs.Packed.{PlainCell, PlainPacked}
use Rattle.fab_state.specs.fab_netlist.specs.Packing.{Work, works, latch_of}
use Rattle.fab_state.specs.fab_implementation.specs.Plain.{Pad, PlainImplementation}
use Rattle.fab_legal.specs.Sinks.{site_of}
use Rattle.fab_state.specs.Plain.{Register, PlainState}
use Rattle.fab_text_loads_laws.specs.fab_prim_Modules.{flip_flop_name}
use Rattle.fab_use_defs.specs.Sites.{bel_point}

-- Values of the latches of a netlist, by place: each is what the flip-flop holds at the site of the cell that was made of the latch.
pub record HoldsLatches (netlist : PlainNetlist) (implementation : PlainImplementation) (held : Assignment) (latches : List Bool) : Type 0 where
  pub all : length latches ≡ length netlist.latches
  pub each : (cell_number latch : ℕ) (work : Work) (site : Site) → IsAt (works netlist) cell_number work → latch_of work ≡ Some latch →
      Contains implementation.cells (cell_number, site) → bit_at latches latch ≡ held (bel_point site flip_flop_name)

-- ---- the state file

-- a port at its pad
abbrev pub bound_pad : List Pad → (port : List ℕ) → Pad
bound_pad lines port = (port, site_of bytes_eq lines port)

-- the flip-flop of a cell with a latch, and its initial value; where the netlist says 2 or 3, any value, it is 0
abbrev pub register_of : PlainImplementation → (cell_number : ℕ) → PlainCell → Option Register
register_of implementation cell_number cell = option_map (λ init. (site_of nat_eq implementation.cells cell_number, begins_high init)) cell.latch

-- the ports in declared order, and then the flip-flops in the order of cells
abbrev pub design_state : PlainPacked → PlainImplementation → PlainState
design_state packed implementation = record {
  ins = map (bound_pad implementation.ins) packed.inputs;
  outs = map (λ output. bound_pad implementation.outs output.0) packed.outputs;
  ffs = filter_map (λ at. register_of implementation at.0 at.1) (enumerate_from 0 packed.cells);
}

-- each flip-flop of a state holds its value
abbrev pub HoldsState : PlainState → Assignment → Type 0
HoldsState state held = All (λ register. held (bel_point register.0 flip_flop_name) ≡ register.1) state.ffs

-- latches that the netlist begins with 0 or 1 have this value; the others may have any
abbrev pub IsInitial : PlainNetlist → List Bool → Type 0
IsInitial netlist latches =
    (place : ℕ) (latch : Latch) → IsAt netlist.latches place latch → (latch.init ≡ 0 → bit_at latches place ≡ false) × (latch.init ≡ 1 → bit_at latches place ≡ true)
