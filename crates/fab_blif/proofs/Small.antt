-- The numbers of nets in a netlist whose wires hold together fit 32 bits.
use Rattle.std.proofs.Common.{ℕ, ◌<◌, ◌^◌, List, ◌++◌, flat_map, All, Contains, arith}
use Rattle.std.proofs.lemmas.List.Elements.{Contains-append_left, Contains-append_right}
use Rattle.fab_netlist.specs.declared.netlist.Latch.{Latch}
use Rattle.fab_netlist.specs.Plain.{PlainCover, PlainNetlist}
use Rattle.fab_netlist.specs.Wide.{PlainWide, PlainWideCover, tabled, tabled_cover}
use Rattle.fab_netlist.specs.WellMade.{IsWired, cover_outputs, driven, latch_inputs, latch_outputs, read}
use Rattle.fab_netlist.proofs.Members.{mapped_in}
use Rattle.fab_netlist.proofs.Stepping.{all_of, in_flat}

abbrev IsSmall : ℕ → Type 0
IsSmall net = net < 2 ^ 32

module _ (wide : PlainWide) (made : IsWired (tabled wide)) where
  abbrev netlist : PlainNetlist
  netlist = tabled wide

  abbrev cover_inputs : List ℕ
  cover_inputs = flat_map (λ (cover : PlainCover). cover.inputs) netlist.covers

  driven_small : (net : ℕ) → Contains (driven netlist) net → IsSmall net
  driven_small net is = omega (arith, made.driven_below net is, made.small)

  read_small : (net : ℕ) → Contains (read netlist) net → IsSmall net
  read_small net is = omega (arith, made.read_below net is, made.small)

  cover_output : (net : ℕ) → Contains (cover_outputs netlist.covers) net → IsSmall net
  cover_output net is = driven_small net (Contains-append_left (cover_outputs netlist.covers) (latch_outputs netlist ++ netlist.inputs) net is)

  cover_input : (net : ℕ) → Contains cover_inputs net → IsSmall net
  cover_input net is = read_small net (Contains-append_left cover_inputs (latch_inputs netlist ++ netlist.outputs) net is)

  beside_outputs : (net : ℕ) → Contains (latch_outputs netlist ++ netlist.inputs) net → IsSmall net
  beside_outputs net is = driven_small net (Contains-append_right (cover_outputs netlist.covers) (latch_outputs netlist ++ netlist.inputs) net is)

  beside_inputs : (net : ℕ) → Contains (latch_inputs netlist ++ netlist.outputs) net → IsSmall net
  beside_inputs net is = read_small net (Contains-append_right cover_inputs (latch_inputs netlist ++ netlist.outputs) net is)

  pub small_inputs : All (λ (net : ℕ). net < 2 ^ 32) netlist.inputs
  small_inputs = all_of IsSmall netlist.inputs (λ net is. beside_outputs net (Contains-append_right (latch_outputs netlist) netlist.inputs net is))

  pub small_outputs : All (λ (net : ℕ). net < 2 ^ 32) netlist.outputs
  small_outputs = all_of IsSmall netlist.outputs (λ net is. beside_inputs net (Contains-append_right (latch_inputs netlist) netlist.outputs net is))

  small_cover : (cover : PlainWideCover) → Contains wide.covers cover → All IsSmall cover.inputs × IsSmall cover.output
  small_cover cover is =
      let there : Contains netlist.covers (tabled_cover cover) = mapped_in tabled_cover wide.covers cover is in (
        all_of IsSmall cover.inputs (λ net one. cover_input net (in_flat (λ (some : PlainCover). some.inputs) netlist.covers (tabled_cover cover) net there one)),
        cover_output cover.output (mapped_in (λ (some : PlainCover). some.output) netlist.covers (tabled_cover cover) there),
      )

  pub small_covers : All (λ (cover : PlainWideCover). All (λ (net : ℕ). net < 2 ^ 32) cover.inputs × (cover.output < 2 ^ 32)) wide.covers
  small_covers = all_of (λ (cover : PlainWideCover). All IsSmall cover.inputs × IsSmall cover.output) wide.covers small_cover

  small_latch : (latch : Latch) → Contains netlist.latches latch → IsSmall latch.input × IsSmall latch.output
  small_latch latch is =
      let input = mapped_in (λ (some : Latch). some.input) netlist.latches latch is in
      let output = mapped_in (λ (some : Latch). some.output) netlist.latches latch is in (
        beside_inputs latch.input (Contains-append_left (latch_inputs netlist) netlist.outputs latch.input input),
        beside_outputs latch.output (Contains-append_left (latch_outputs netlist) netlist.inputs latch.output output),
      )

  pub small_latches : All (λ (latch : Latch). (latch.input < 2 ^ 32) × (latch.output < 2 ^ 32)) netlist.latches
  small_latches = all_of (λ (latch : Latch). IsSmall latch.input × IsSmall latch.output) netlist.latches small_latch
