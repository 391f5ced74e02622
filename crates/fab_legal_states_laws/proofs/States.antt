-- The text of a legal implementation's state is short where names of ports are.
use Rattle.std.proofs.Common.{◌≡◌, ℕ, ◌≤◌, Bool, true, false, List, [], ◌∷◌, ◌++◌, codes, length, map, All, Contains, Option, Some, None, refl, arith, length-append}
use Rattle.std.specs.List.{enumerate_from, filter_map}
use Rattle.std.proofs.lemmas.List.{length-map}
use Rattle.std.proofs.lemmas.List.Elements.{All-contains}
use Rattle.std.proofs.lemmas.List.FromFn.{length-enumerate_from}
use Rattle.fab_base.specs.declared.TheConstants.{MAX_FILE_BYTES}
use Rattle.fab_kinds.specs.declared.kind.Kind.TheVariants as kinds
use Rattle.fab_model.specs.Grid.{PlainFabric}
use Rattle.fab_fabric.specs.Fabric.{IsFabric}
use Rattle.fab_netlist.specs.declared.net_id.NetId.{NetId}
use Rattle.fab_netlist.specs.Packed.{PlainCell, PlainPacked}
use Rattle.fab_implementation.specs.Plain.{Pad, PlainImplementation}
use Rattle.fab_legal.specs.Legal.{IsLegal}
use Rattle.fab_legal.specs.Lines.{IsCell, IsInput, IsOutput}
use Rattle.fab_legal.specs.WellMade.{IsWellMadePacked, ports}
use Rattle.fab_fabric.specs.Names.{site_text}
use Rattle.fab_texts.specs.Printed.{row_text, rows_text}
use Rattle.fab_texts.specs.Sections.{ending}
use Rattle.fab_state.specs.Plain.{PlainState, Register}
use Rattle.fab_state.specs.Spelled.{digit, ff_line, header, inner_lines, pad_line, state_text}
use Rattle.fab_legal_states_laws.specs.fab_use_defs_Registers.{bound_pad, design_state, register_of}
use Rattle.fab_legal_states_laws.proofs.StateLines.{IsInputAt, IsOfCell, IsOutputAt, ffs_bound, ins_listed, outs_listed}
use Rattle.fab_legal_states_laws.specs.ShortLaws.{IsShortName}
use Rattle.fab_legal_states_laws.proofs.Lines.{input_short, output_short, short_line}
use Rattle.fab_legal_states_laws.proofs.Rows.{row_length, rows_behind, rows_within}

-- no more is found than there is
few_found : {X Y : Type 0} (f : X → Option Y) (xs : List X) → length (filter_map f xs) ≤ length xs
few_found f [] = omega arith
few_found {X} {Y} f (x ∷ xs) = by_first (few_found f xs) (f x) refl
  where
    by_first : length (filter_map f xs) ≤ length xs → (found : Option Y) → f x ≡ found → length (filter_map f (x ∷ xs)) ≤ length (x ∷ xs)
    by_first few None is = rw is (omega (arith, few))
    by_first few (Some y) is = rw is (omega (arith, few))

short_digit : (held : Bool) → length (digit held) ≡ 1
short_digit true = refl
short_digit false = refl

module _ (fabric : PlainFabric) (is : IsFabric fabric) (packed : PlainPacked) (made : IsWellMadePacked packed) (fixed : List Pad) (it : PlainImplementation)
    (legal : IsLegal fabric packed fixed it) (names : All IsShortName (ports packed)) where
  abbrev state : PlainState
  state = design_state packed it

  short_in : (pad : Pad) → Contains state.ins pad → length (row_text (pad_line (codes "in") pad)) ≤ 48
  short_in pad here =
      let at = All-contains (IsInputAt packed it) state.ins pad (ins_listed fabric packed fixed it legal) here in
      omega (
        arith,
        row_length (codes "in") (pad.0 ∷ site_text pad.1 ∷ []),
        input_short packed names pad.0 at.0,
        short_line fabric kinds.Io (IsInput packed) it.ins legal.placed.ports.ins is pad at.1,
      )

  short_out : (pad : Pad) → Contains state.outs pad → length (row_text (pad_line (codes "out") pad)) ≤ 48
  short_out pad here =
      let at = All-contains (IsOutputAt packed it) state.outs pad (outs_listed fabric packed fixed it legal) here in
      omega (
        arith,
        row_length (codes "out") (pad.0 ∷ site_text pad.1 ∷ []),
        output_short packed names pad.0 at.0,
        short_line fabric kinds.Io (IsOutput packed) it.outs legal.placed.ports.outs is pad at.1,
      )

  short_ff : (register : Register) → Contains state.ffs register → length (row_text (ff_line register)) ≤ 48
  short_ff register here =
      let of = All-contains (λ (register : Register). IsOfCell packed it register.0) state.ffs register (ffs_bound fabric packed fixed it legal) here in
      omega (
        arith,
        row_length (codes "ff") (site_text register.0 ∷ digit register.1 ∷ []),
        short_line fabric kinds.Lut4c (IsCell packed) it.cells legal.placed.cells is (of.number, register.0) of.bound.listed,
        short_digit register.1,
      )

  few_ffs : length state.ffs ≤ length packed.cells
  few_ffs =
      omega (arith, few_found (λ (at : ℕ × PlainCell). register_of it at.0 at.1) (enumerate_from 0 packed.cells), length-enumerate_from 0 packed.cells)

  pub state_short : length (state_text state) ≤ MAX_FILE_BYTES
  state_short =
      let ins = map (pad_line (codes "in")) state.ins in
      let outs = map (pad_line (codes "out")) state.outs in
      let ffs = map ff_line state.ffs in
      omega (
        arith,
        length-append (row_text header) (rows_text (inner_lines state ++ ending ∷ [])),
        rows_behind (inner_lines state) (ending ∷ []),
        rows_behind (ins ++ outs) ffs,
        rows_behind ins outs,
        rows_within (pad_line (codes "in")) 48 state.ins short_in,
        rows_within (pad_line (codes "out")) 48 state.outs short_out,
        rows_within ff_line 48 state.ffs short_ff,
        length-map packed.inputs (bound_pad it.ins),
        length-map packed.outputs (λ (output : List ℕ × NetId). bound_pad it.outs output.0),
        few_ffs,
        made.few_cells,
        made.few_ports,
      )
