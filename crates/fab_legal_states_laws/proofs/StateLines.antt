-- What the lines of a legal implementation's state name stands in the implementation.
use Rattle.std.proofs.Common.{◌≡◌, ℕ, ◌+◌, ◌<◌, List, length, get_or, All, Contains, Some, nat_eq, sym, ap, ◌∙◌, subst, arith}
use Rattle.std.specs.List.{enumerate_from}
use Rattle.std.specs.Str.{bytes_eq}
use Rattle.std.proofs.lemmas.Bool.Decides.{Decides-eqb}
use Rattle.std.proofs.lemmas.List.Elements.{All-contains_itself, All-map}
use Rattle.std.proofs.lemmas.List.FromFn.{get_or-enumerate_from, length-enumerate_from}
use Rattle.std.proofs.lemmas.Slice.Eq.{bytes_eq-Decides}
use Rattle.fab_kinds.specs.declared.kind.Kind.TheVariants as kinds
use Rattle.fab_model.specs.Grid.{PlainFabric}
use Rattle.fab_model.proofs.Steps.{map_gives}
use Rattle.fab_fabric.specs.declared.wire.Site.{Site}
use Rattle.fab_netlist.specs.declared.net_id.NetId.{NetId}
use Rattle.fab_netlist.specs.Plain.{IsAt}
use Rattle.fab_netlist.specs.Packed.{PlainCell, PlainPacked}
use Rattle.fab_netlist.proofs.Members.{mapped_in}
use Rattle.fab_implementation.specs.Plain.{Pad, PlainImplementation}
use Rattle.fab_legal.specs.Legal.{IsLegal}
use Rattle.fab_legal.specs.Lines.{IsCell, IsInput, IsOutput}
use Rattle.fab_legal.specs.Sinks.{site_of}
use Rattle.fab_legal.specs.WellMade.{output_name}
use Rattle.fab_legal.proofs.Lists.{at_default}
use Rattle.fab_legal.proofs.SinkLaw.{known_site}
use Rattle.fab_state.specs.Plain.{PlainState, Register}
use Rattle.fab_points_laws.proofs.fab_drives_laws_Lists.{all_found}
use Rattle.fab_points_laws.specs.fab_use_defs_Design.{IsBound}
use Rattle.fab_points_laws.specs.fab_use_defs_Registers.{bound_pad, design_state, register_of}

-- a port of the design at its pad
abbrev pub IsInputAt : PlainPacked → PlainImplementation → Pad → Type 0
IsInputAt packed it pad = IsInput packed pad.0 × Contains it.ins pad

abbrev pub IsOutputAt : PlainPacked → PlainImplementation → Pad → Type 0
IsOutputAt packed it pad = IsOutput packed pad.0 × Contains it.outs pad

-- a cell stands on the site
pub record IsOfCell (packed : PlainPacked) (it : PlainImplementation) (site : Site) : Type 0 where
  pub number : ℕ
  pub cell : PlainCell
  pub bound : IsBound packed it number site cell

module _ (fabric : PlainFabric) (packed : PlainPacked) (fixed : List Pad) (it : PlainImplementation) (legal : IsLegal fabric packed fixed it) where
  abbrev state : PlainState
  state = design_state packed it

  pub ins_listed : All (IsInputAt packed it) state.ins
  ins_listed =
      All-map (IsInputAt packed it) (bound_pad it.ins) packed.inputs (λ k d few.
      let port = get_or packed.inputs k d in
      let known = All-contains_itself packed.inputs k d few in
      (known, known_site bytes_eq bytes_eq-Decides fabric kinds.Io (IsInput packed) it.ins legal.placed.ports.ins port known))

  pub outs_listed : All (IsOutputAt packed it) state.outs
  outs_listed =
      All-map (IsOutputAt packed it) (λ (output : List ℕ × NetId). bound_pad it.outs output.0) packed.outputs (λ k d few.
      let output = get_or packed.outputs k d in
      let known : IsOutput packed output.0 = mapped_in output_name packed.outputs output (All-contains_itself packed.outputs k d few) in
      (known, known_site bytes_eq bytes_eq-Decides fabric kinds.Io (IsOutput packed) it.outs legal.placed.ports.outs output.0 known))

  cell_there : (k : ℕ) (d : ℕ × PlainCell) → k < length (enumerate_from 0 packed.cells) →
      let at = get_or (enumerate_from 0 packed.cells) k d in IsAt packed.cells at.0 at.1
  cell_there k d few =
      let cell = get_or packed.cells k d.1 in
      let inside : k < length packed.cells = omega (arith, few, length-enumerate_from 0 packed.cells) in
      let number : k ≡ 0 + k = omega arith in
      let same : (k, cell) ≡ get_or (enumerate_from 0 packed.cells) k d = ap (λ (n : ℕ). (n, cell)) number ∙ sym (get_or-enumerate_from 0 packed.cells k d inside) in
      subst (λ (at : ℕ × PlainCell). IsAt packed.cells at.0 at.1) same (at_default packed.cells k d.1 inside)

  register_bound : (number : ℕ) (cell : PlainCell) (register : Register) → IsAt packed.cells number cell → register_of it number cell ≡ Some register →
      IsOfCell packed it register.0
  register_bound number cell register at is =
      let site = site_of nat_eq it.cells number in
      let latch = map_gives (λ (init : ℕ). (site, nat_eq init 1)) cell.latch register is in
      let listed : Contains it.cells (number, site) = known_site nat_eq Decides-eqb fabric kinds.Lut4c (IsCell packed) it.cells legal.placed.cells number at.0 in
      subst (λ (r : Register). IsOfCell packed it r.0) latch.2 (record { number = number; cell = cell; bound = record { listed = listed; cell_is = at } })

  pub ffs_bound : All (λ (register : Register). IsOfCell packed it register.0) state.ffs
  ffs_bound =
      all_found (λ (register : Register). IsOfCell packed it register.0) (λ (at : ℕ × PlainCell). register_of it at.0 at.1) (enumerate_from 0 packed.cells)
      (λ k d few register is. let at = get_or (enumerate_from 0 packed.cells) k d in register_bound at.0 at.1 register (cell_there k d few) is)
