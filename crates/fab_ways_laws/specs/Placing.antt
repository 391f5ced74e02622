-- Placements: what one costs, and when it is good.
use Rattle.std.specs.Prelude.{◌≡◌, ◌⊎◌, ℕ, ◌+◌, ◌-◌, ◌≤◌, Bool, true, false, ◌&&◌, ◌||◌, is_some, List, [], ◌∷◌, ◌++◌, map, filter, not, take, drop, length, fold, max, min, sum_by, Contains, nat_eq, bytes_eq, get_or, if◌then◌else◌}
use Rattle.std.specs.List.{enumerate_from, list_any}
use Rattle.fab_kinds.specs.declared.kind.Kind.TheVariants as kinds
use Rattle.fab_legal.specs.fab_model.specs.Tiles.{counted}
use Rattle.fab_legal.specs.fab_model.specs.Grid.{PlainFabric}
use Rattle.fab_legal.specs.fab_fabric.specs.declared.wire.Site.{Site}
use Rattle.fab_legal.specs.fab_netlist.specs.declared.net_id.NetId.{NetId}
use Rattle.fab_legal.specs.fab_netlist.specs.declared.net_id.NetId.TheVariants as ids
use Rattle.fab_legal.specs.fab_netlist.specs.Packed.{PlainCell, PlainPacked}
use Rattle.fab_legal.specs.fab_implementation.specs.Plain.{Pad, PlainImplementation, reset_name}
use Rattle.fab_legal.specs.fab_implementation.specs.OnFabric.{IsSite, kind_at}
use Rattle.fab_legal.specs.Lines.{named, ConstraintsHold}
use Rattle.fab_legal.specs.Legal.{ArePlaced}
use Rattle.fab_legal.specs.Sinks.{reset_id, site_of}
use Rattle.fab_legal.specs.WellMade.{output_ports}
use Rattle.fab_legal.specs.fab_fabric.specs.Sites.{sites_of_kind}
use Rattle.fab_ways_laws.specs.Sites.{same_site}

-- ---- distances

-- how far two columns, or two rows, are from each other
abbrev pub gap : ℕ → ℕ → ℕ
gap m n = (m - n) + (n - m)

-- the Manhattan distance of two tiles
abbrev pub tile_distance : (x1 y1 x2 y2 : ℕ) → ℕ
tile_distance x1 y1 x2 y2 = gap x1 x2 + gap y1 y2

-- ---- cost

abbrev pub same_net : NetId → NetId → Bool
same_net ids.Zero ids.Zero = true
same_net ids.One ids.One = true
same_net (ids.In a) (ids.In b) = nat_eq a b
same_net (ids.Cell a) (ids.Cell b) = nat_eq a b
same_net _ _ = false

-- the greatest number less the least
abbrev pub spread : List ℕ → ℕ
spread [] = 0
spread (n ∷ ns) = fold max n ns - fold min n ns

-- width plus height of the least box around the tiles of some sites
abbrev pub half_perimeter : List Site → ℕ
half_perimeter at = spread (map (λ (site : Site). site.x) at) + spread (map (λ (site : Site). site.y) at)

abbrev pub cell_site : PlainImplementation → (number : ℕ) → Site
cell_site placement number = site_of nat_eq placement.cells number

-- whether a cell reads a net: at an input, or at SR where it has a latch, which reads the net that resets
abbrev pub reads_net : (reset net : NetId) → PlainCell → Bool
reads_net reset net cell = list_any (same_net net) cell.inputs || (is_some cell.latch && same_net net reset)

-- the sites of the cells and of the output ports that read a net
abbrev pub reader_sites : PlainPacked → PlainImplementation → NetId → List Site
reader_sites packed placement net =
    map (λ cell. cell_site placement cell.0) (filter (λ cell. reads_net (reset_id packed.reset) net cell.1) (enumerate_from 0 packed.cells))
    ++ map (λ output. site_of bytes_eq placement.outs output.0) (filter (λ output. same_net net output.1) packed.outputs)

-- the half perimeters of the nets of input ports and of cells; those of constants have roots all over the fabric, and cost nothing
abbrev pub cost : PlainPacked → PlainImplementation → ℕ
cost packed placement =
    sum_by (λ port. half_perimeter (site_of bytes_eq placement.ins port.1 ∷ reader_sites packed placement (ids.In port.0))) (enumerate_from 0 packed.inputs)
    + sum_by (λ cell. half_perimeter (cell_site placement cell.0 ∷ reader_sites packed placement (ids.Cell cell.0))) (enumerate_from 0 packed.cells)

-- ---- exchanges

-- where what stands on a site is after the exchange of two sites
abbrev pub site_after : (a b : Site) → Site → Site
site_after a b site = if same_site site a then b else (if same_site site b then a else site)

abbrev pub moved : {X : Type 0} → (to : Site → Site) → List (X × Site) → List (X × Site)
moved {X} to lines = map (λ (line : X × Site). (line.0, to line.1)) lines

-- what stands on one site comes to the other; where the other is empty, this is a move
abbrev pub exchanged : (a b : Site) → PlainImplementation → PlainImplementation
exchanged a b placement =
    record {
      cells = moved (site_after a b) placement.cells;
      ins = moved (site_after a b) placement.ins;
      outs = moved (site_after a b) placement.outs;
      trees = placement.trees;
      reset = placement.reset;
    }

-- two sites of one kind in tiles not more than 4 apart, neither of which holds a port with a pad constraint
pub record MayExchange (fabric : PlainFabric) (fixed : List Pad) (placement : PlainImplementation) (a b : Site) : Type 0 where
  pub is_site : IsSite fabric a
  pub same_kind : kind_at fabric b ≡ kind_at fabric a
  pub near : tile_distance a.x a.y b.x b.y ≤ 4
  pub unconstrained : (pad : Pad) → Contains (placement.ins ++ placement.outs) pad → (pad.1 ≡ a) ⊎ (pad.1 ≡ b) → Contains (named fixed) pad.0 → ⊥

-- no such exchange lowers the cost
abbrev pub IsOptimal : PlainFabric → PlainPacked → (fixed : List Pad) → PlainImplementation → Type 0
IsOptimal fabric packed fixed placement =
    (a b : Site) → MayExchange fabric fixed placement a b → cost packed placement ≤ cost packed (exchanged a b placement)

-- ---- the placement in order

-- what stands for a site past the last; a design that fits never has it
abbrev pub no_site : Site
no_site = record { x = 0; y = 0; bel = 0 }

abbrev pub is_fixed : (fixed : List Pad) → (port : List ℕ) → Bool
is_fixed fixed port = list_any (λ (pad : Pad). bytes_eq pad.0 port) fixed

-- a port with a constraint has that pad, and each other port the next free one
abbrev pub pads_in_order : (fixed : List Pad) → (free : List Site) → (ports : List (List ℕ)) → List Pad
pads_in_order fixed free [] = []
pads_in_order fixed free (port ∷ ports) =
    if is_fixed fixed port then (port, site_of bytes_eq fixed port) ∷ pads_in_order fixed free ports
    else (port, get_or free 0 no_site) ∷ pads_in_order fixed (drop 1 free) ports

-- the pads that no constraint names
abbrev pub free_pads : PlainFabric → (fixed : List Pad) → List Site
free_pads fabric fixed = filter (λ site. not (list_any (λ (pad : Pad). same_site pad.1 site) fixed)) (sites_of_kind fabric kinds.Io)

-- each cell on the LUT4c of its number, and the ports, inputs first, on pads in order
abbrev pub placement_in_order : PlainFabric → PlainPacked → (fixed : List Pad) → PlainImplementation
placement_in_order fabric packed fixed =
    let pads = pads_in_order fixed (free_pads fabric fixed) (packed.inputs ++ output_ports packed) in
    record {
      cells = counted (length packed.cells) (λ number. (number, get_or (sites_of_kind fabric kinds.Lut4c) number no_site));
      ins = take (length packed.inputs) pads;
      outs = drop (length packed.inputs) pads;
      trees = [];
      reset = reset_name packed;
    }

-- ---- good placements

-- Each cell and each port has a site, named in the order of the packed design, and nothing is routed. No exchange lowers the cost,
-- which is not above that of the placement in order.
pub record IsGoodPlacement (fabric : PlainFabric) (packed : PlainPacked) (fixed : List Pad) (placement : PlainImplementation) : Type 0 where
  pub placed : ArePlaced fabric packed placement
  pub constraints : ConstraintsHold fixed placement
  pub unrouted : placement.trees ≡ []
  pub cells : named placement.cells ≡ counted (length packed.cells) (λ number. number)
  pub ins : named placement.ins ≡ packed.inputs
  pub outs : named placement.outs ≡ output_ports packed
  pub reset : placement.reset ≡ reset_name packed
  pub optimal : IsOptimal fabric packed fixed placement
  pub low : cost packed placement ≤ cost packed (placement_in_order fabric packed fixed)
