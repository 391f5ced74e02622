-- Each point with a source is a route, cell or pad point.
use Rattle.std.proofs.Common.{◌≡◌, ℕ, List, [], ◌∷◌, codes, length, take, refl, sym, subst, inl, inr, arith, Option, Some, is_some, Contains, if◌then◌else◌}
use Rattle.std.proofs.lemmas.List.Elements.{Contains-append_right}
use Rattle.fab_kinds.specs.declared.kind.Kind.TheVariants as kinds
use Rattle.fab_kinds.specs.Pins.{input_names}
use Rattle.fab_meaning.specs.Points.{Point}
use Rattle.fab_model.specs.Grid.{PlainFabric}
use Rattle.fab_fabric.specs.Fabric.{AreTiles}
use Rattle.fab_fabric.specs.declared.wire.Site.{Site}
use Rattle.fab_netlist.specs.Packed.{PlainCell, PlainPacked}
use Rattle.fab_use_defs.specs.fab_implementation_Plain.{Pad, PlainImplementation}
use Rattle.fab_use_defs.specs.fab_legal_WellMade.{IsWellMadePacked}
use Rattle.fab_use_defs.specs.fab_legal_Legal.{IsLegal}
use Rattle.fab_prim.specs.Ports.{top_name}
use Rattle.fab_use_defs.specs.fab_drives_laws_Points.{end_bit, wire_between, begin_bit}
use Rattle.fab_use_defs.proofs.fab_tile_drives_laws_Members.{contains_at}
use Rattle.fab_use_defs.specs.Sites.{bel_point, port_point, top_point, pin_point}
use Rattle.fab_use_defs.specs.Design as design
use Rattle.fab_use_defs.specs.Design.{IsBound, IsSourced, IsRoutePoint, IsCellPoint, input_pad, required_pins}
use Rattle.fab_use_defs.specs.Sources as sources
use Rattle.fab_use_defs.specs.Sources.{Source, HasSource}
use Rattle.fab_points_laws.specs.Laws.{SourcesAreOfDesign}
use Rattle.fab_points_laws.proofs.Places.{index_wire, outputs_there, entered_tree}
use Rattle.fab_points_laws.proofs.Covers.{way_through}
use Rattle.fab_points_laws.proofs.ReadPoints.{used_pin, in_pad, out_pad, either_pad}

module _ (fabric : PlainFabric) (packed : PlainPacked) (fixed : List Pad) (implementation : PlainImplementation) (are : AreTiles fabric) (made : IsWellMadePacked packed)
    (legal : IsLegal fabric packed fixed implementation) where
  abbrev Has : Point → Type 0
  Has p = IsSourced fabric packed implementation p

  route : (p : Point) → IsRoutePoint fabric implementation p → Has p
  route p is = inl is

  cell_point : (p : Point) → IsCellPoint packed implementation p → Has p
  cell_point p is = inr (inl is)

  -- SR or EN of a cell with a latch
  latch_pin : (cell_number init : ℕ) (site : Site) (cell : PlainCell) (name : List ℕ) → IsBound packed implementation cell_number site cell → cell.latch ≡ Some init →
      Contains (codes "SR" ∷ codes "EN" ∷ []) name → Has (bel_point site name)
  latch_pin cell_number init site cell name bound latched among =
      let Among : Option ℕ → Type 0 = λ latch. Contains (if is_some latch then codes "SR" ∷ codes "EN" ∷ [] else []) name in
      cell_point (bel_point site name) (design.at_pin bound
      (Contains-append_right (take (length cell.inputs) (input_names kinds.Lut4c)) (if is_some cell.latch then codes "SR" ∷ codes "EN" ∷ [] else []) name
      (subst Among (sym latched) among)))

  source_of_design : (p : Point) (s : Source) → HasSource fabric packed implementation p s → Has p
  source_of_design p s (sources.of_output tree output) = route _ (design.in_tile tree)
  source_of_design p s (sources.of_edge {tree} {edge} {x} {y} {tile} {output} {input} listed among there to output_is from) =
      route _ (design.in_matrix (entered_tree fabric implementation tree edge x y tile output listed among there to)
      (outputs_there tile output (index_wire fabric edge.1.0 x y output tile to there) output_is))
  source_of_design p s (sources.of_input tree no_output some) = route _ (design.in_matrix tree some)
  source_of_design p s (sources.constant_bit tree there jump bare) = route _ (design.in_tile tree)
  source_of_design p s (sources.jump_bit tree there jump named) = route _ (design.in_tile tree)
  source_of_design p s (sources.end_bit tree placed_is no_jump) = route _ (design.in_tile tree)
  source_of_design p s (sources.into {at} {previous} {at_bit} way is) =
      route _ (design.between way.wire way.placed way.no_jump (way_through fabric way.here way.bit at at_bit _ way.passes end_bit))
  source_of_design p s (sources.across {at} {previous} {at_bit} way is) =
      route _ (design.between way.wire way.placed way.no_jump (way_through fabric way.here way.bit at at_bit _ way.passes (wire_between is)))
  source_of_design p s (sources.passing_on {at} {previous} {at_bit} way is few) =
      route _ (design.between way.wire way.placed way.no_jump (way_through fabric way.here way.bit at at_bit _ way.passes (begin_bit is)))
  source_of_design p s (sources.beginning {at} {previous} {at_bit} m way is place) =
      route _ (design.between way.wire way.placed way.no_jump (way_through fabric way.here way.bit at at_bit _ way.passes (begin_bit is)))
  source_of_design p s (sources.cell_wire bound tree) = route _ (design.in_tile tree)
  source_of_design p s (sources.cell_input {cell_number} {site} {cell} {tile} {name} pin bound there few at) =
      used_pin fabric packed fixed implementation are legal made cell_number site cell pin name bound few at
  source_of_design p s (sources.cell_reset {cell_number} {init} {site} {cell} bound there latched) =
      latch_pin cell_number init site cell (codes "SR") bound latched (0, omega arith, refl)
  source_of_design p s (sources.cell_enable {cell_number} {init} {site} {cell} bound there latched) =
      latch_pin cell_number init site cell (codes "EN") bound latched (1, omega arith, refl)
  source_of_design p s (sources.cell_index bound some) = cell_point _ (design.at_index bound some)
  source_of_design p s (sources.cell_table bound) = cell_point _ (design.at_table bound)
  source_of_design p s (sources.cell_output bound) = cell_point _ (design.at_output bound)
  source_of_design p s (sources.cell_register bound latched) = cell_point _ (design.at_flip_flop bound latched)
  source_of_design p s (sources.pad_top {port} {site} listed) =
      in_pad fabric packed fixed implementation are legal made port site 8 (top_point site top_name) listed (λ tile. refl)
  source_of_design p s (sources.pad_tile {port} {site} listed) =
      in_pad fabric packed fixed implementation are legal made port site 4 (port_point site top_name) listed (λ tile. refl)
  source_of_design p s (sources.pad_bel {port} {site} listed) =
      in_pad fabric packed fixed implementation are legal made port site 0 (bel_point site top_name) listed (λ tile. refl)
  source_of_design p s (sources.pad_output {port} {site} listed) =
      in_pad fabric packed fixed implementation are legal made port site 1 (bel_point site (codes "O")) listed (λ tile. refl)
  source_of_design p s (sources.pad_wire {port} {site} {tile} listed there) =
      inr (inr (design.of_input listed there (contains_at (input_pad tile site) 6 (pin_point tile site 2) refl)))
  source_of_design p s (sources.shown_bel {port} {site} listed there) =
      out_pad fabric packed fixed implementation are legal made port site 0 (bel_point site (codes "I")) listed (λ tile. refl)
  source_of_design p s (sources.shown_top {port} {site} listed) =
      out_pad fabric packed fixed implementation are legal made port site 1 (bel_point site (codes "I_top")) listed (λ tile. refl)
  source_of_design p s (sources.shown_tile {port} {site} listed) =
      out_pad fabric packed fixed implementation are legal made port site 4 (port_point site (codes "I_top")) listed (λ tile. refl)
  source_of_design p s (sources.shown_outside {port} {site} listed) =
      out_pad fabric packed fixed implementation are legal made port site 8 (top_point site (codes "I_top")) listed (λ tile. refl)
  source_of_design p s (sources.turned_bel {port} {site} listed there) =
      either_pad fabric packed fixed implementation are legal made port site 2 2 (bel_point site (codes "T")) listed (λ tile. refl) (λ tile. refl)
  source_of_design p s (sources.turned_top {port} {site} listed) =
      either_pad fabric packed fixed implementation are legal made port site 3 3 (bel_point site (codes "T_top")) listed (λ tile. refl) (λ tile. refl)
  source_of_design p s (sources.turned_tile {port} {site} listed) =
      either_pad fabric packed fixed implementation are legal made port site 5 5 (port_point site (codes "T_top")) listed (λ tile. refl) (λ tile. refl)
  source_of_design p s (sources.turned_outside {port} {site} listed) =
      either_pad fabric packed fixed implementation are legal made port site 9 9 (top_point site (codes "T_top")) listed (λ tile. refl) (λ tile. refl)

pub sources_are_of_design : SourcesAreOfDesign
sources_are_of_design fabric packed fixed implementation are made legal p s source =
    source_of_design fabric packed fixed implementation are made legal p s source
