-- Packed designs: covers and latches as cells, and what their nets carry.
use Rattle.std.specs.Prelude.{◌≡◌, ℕ, suc, ◌<◌, Bool, true, false, ◌&&◌, List, [], ◌∷◌, ◌++◌, map, length, Option, Some, None, Result, Ok, Err, option_map, get_or, if◌then◌else◌, is_some, nat_eq, nat_lt}
use Rattle.std.specs.List.{filter, flat_map}
use Rattle.fab_base.specs.declared.fault.Fault.{Fault}
use Rattle.fab_base.specs.declared.fault.Fault.TheVariants as faults
use Rattle.fab_base.specs.declared.fault.SiteKind.TheVariants as kinds
use Rattle.fab_bits.specs.Bits.{number}
use Rattle.fab_netlist.specs.declared.netlist.Latch.{Latch}
use Rattle.fab_netlist.specs.declared.net_id.NetId.{NetId}
use Rattle.fab_netlist.specs.declared.net_id.NetId.TheVariants as ids
use Rattle.fab_netlist.specs.Plain.{PlainCover, PlainNetlist, IsAt, name_of}
use Rattle.fab_netlist.specs.WellMade.{IsWellMade, times, cover_outputs, latch_inputs, ports, table_bit}
use Rattle.fab_netlist.specs.Kept.{is_kept}
use Rattle.fab_netlist.specs.Meaning.{Meets}
use Rattle.fab_netlist.specs.Cycles.{HasNoCycle}
use Rattle.fab_netlist.specs.Packed.{PlainCell, PlainPacked}

-- what a cell is made of: a cover and the number of the latch that is paired with it, if one is, or the number of another latch
pub data Work : Type 0 where
  of_cover : PlainCover → Option ℕ → Work
  of_latch : ℕ → Work

-- what stands for a latch past the end
abbrev pub no_latch : Latch
no_latch = record { input = 0; output = 0; init = 0 }

abbrev pub latch_at : PlainNetlist → ℕ → Latch
latch_at netlist place = get_or netlist.latches place no_latch

-- the nets that covers and latches read
abbrev pub inner_reads : PlainNetlist → List ℕ
inner_reads netlist = flat_map (λ cover. cover.inputs) netlist.covers ++ latch_inputs netlist

-- a net with one reader, which is no output of the netlist
abbrev pub is_alone : PlainNetlist → ℕ → Bool
is_alone netlist net = nat_eq (times net (inner_reads netlist)) 1 && nat_eq (times net netlist.outputs) 0

-- the first place of a net in a list
abbrev pub place_of : ℕ → List ℕ → Option ℕ
place_of net [] = None
place_of net (other ∷ nets) = if nat_eq other net then Some 0 else option_map (λ place. suc place) (place_of net nets)

-- the latch that is paired with a cover: the one reader of its output
abbrev pub pair : PlainNetlist → PlainCover → Option ℕ
pair netlist cover = if is_alone netlist cover.output then place_of cover.output (latch_inputs netlist) else None

-- a latch is paired where it is the one reader of the output of a cover
abbrev pub is_paired : PlainNetlist → Latch → Bool
is_paired netlist latch = is_alone netlist latch.input && is_some (place_of latch.input (cover_outputs netlist.covers))

-- the numbers of the other latches, where the first latch has this number
abbrev pub others : PlainNetlist → ℕ → List Latch → List ℕ
others netlist place [] = []
others netlist place (latch ∷ latches) = if is_paired netlist latch then others netlist (suc place) latches else place ∷ others netlist (suc place) latches

-- the cells in their order
abbrev pub works : PlainNetlist → List Work
works netlist =
    map (λ cover. of_cover cover (pair netlist cover)) (filter (is_kept netlist) netlist.covers)
    ++ map of_latch (others netlist 0 netlist.latches)

-- the number of the latch of a cell
abbrev pub latch_of : Work → Option ℕ
latch_of (of_cover cover latch) = latch
latch_of (of_latch place) = Some place

-- the net that a cell drives
abbrev pub output_of : PlainNetlist → Work → ℕ
output_of netlist (of_cover cover None) = cover.output
output_of netlist (of_cover cover (Some place)) = (latch_at netlist place).output
output_of netlist (of_latch place) = (latch_at netlist place).output

abbrev pub input_or : Option ℕ → NetId → NetId
input_or None other = other
input_or (Some place) other = ids.In place

abbrev pub cell_or : Option ℕ → NetId → NetId
cell_or None other = other
cell_or (Some place) other = ids.Cell place

-- a net of the netlist as a net of the packed design; one that nothing drives is 0
abbrev pub net_of : PlainNetlist → ℕ → NetId
net_of netlist net = input_or (place_of net netlist.inputs) (cell_or (place_of net (map (output_of netlist) (works netlist))) ids.Zero)

-- the cell; that of a latch alone passes on its one input
abbrev pub cell_of : PlainNetlist → Work → PlainCell
cell_of netlist (of_cover cover latch) =
    record { table = cover.table; inputs = map (net_of netlist) cover.inputs; latch = option_map (λ place. (latch_at netlist place).init) latch }
cell_of netlist (of_latch place) =
    record { table = 43690; inputs = net_of netlist (latch_at netlist place).input ∷ []; latch = Some (latch_at netlist place).init }

abbrev pub packed : PlainNetlist → PlainPacked
packed netlist = record {
  cells = map (cell_of netlist) (works netlist);
  inputs = map (name_of netlist) netlist.inputs;
  outputs = map (λ net. (name_of netlist net, net_of netlist net)) netlist.outputs;
  reset = netlist.reset;
}

-- what packing answers where there are so many sites of the two kinds
abbrev pub packing : PlainNetlist → (luts pads : ℕ) → Result PlainPacked Fault
packing netlist luts pads =
    if nat_lt luts (length (works netlist)) then Err (faults.Short kinds.Lut (length (works netlist)) luts)
    else if nat_lt pads (length (ports netlist)) then Err (faults.Short kinds.Pad (length (ports netlist)) pads)
    else Ok (packed netlist)

-- what a cell makes of the values of its inputs, which is what its latch takes next
abbrev pub computes : PlainCell → (NetId → Bool) → Bool
computes cell values = table_bit cell.table (number (map values cell.inputs))

-- the value that a latch holds, else another one
abbrev pub held_or : Option ℕ → (held : ℕ → Bool) → Bool → Bool
held_or None held other = other
held_or (Some place) held other = held place

-- Values of the nets of a packed netlist, under values of the inputs and held values of the latches, both by place.
pub record Carries (netlist : PlainNetlist) (given held : ℕ → Bool) (values : NetId → Bool) : Type 0 where
  pub zero : values ids.Zero ≡ false
  pub one : values ids.One ≡ true
  pub inputs : (place : ℕ) → place < length netlist.inputs → values (ids.In place) ≡ given place
  pub cells : (place : ℕ) (work : Work) (cell : PlainCell) → IsAt (works netlist) place work → IsAt (packed netlist).cells place cell →
      values (ids.Cell place) ≡ held_or (latch_of work) held (computes cell values)

-- The packed netlist shows what the netlist does: at each output, and in what each latch takes next. Each latch has a cell.
pub record ShowsAs (netlist : PlainNetlist) (now : ℕ → Bool) (values : NetId → Bool) : Type 0 where
  pub outputs : (place net : ℕ) (name : List ℕ) (id : NetId) → IsAt netlist.outputs place net → IsAt (packed netlist).outputs place (name, id) → values id ≡ now net
  pub next : (place latch net : ℕ) (work : Work) (cell : PlainCell) → IsAt (works netlist) place work → IsAt (packed netlist).cells place cell →
      latch_of work ≡ Some latch → IsAt (latch_inputs netlist) latch net → computes cell values ≡ now net
  pub latches : (latch : ℕ) → latch < length netlist.latches → (place : ℕ) × (work : Work) × IsAt (works netlist) place work × (latch_of work ≡ Some latch)

abbrev pub PackingKeepsMeaning : Type 0
PackingKeepsMeaning =
    (netlist : PlainNetlist) → IsWellMade netlist → HasNoCycle netlist → (given held now : ℕ → Bool) → Meets netlist given held now →
    ((values : NetId → Bool) × Carries netlist given held values)
    × ((values : NetId → Bool) → Carries netlist given held values → ShowsAs netlist now values)
    × ((first second : NetId → Bool) → Carries netlist given held first → Carries netlist given held second → (place : ℕ) → place < length (works netlist) → first (ids.Cell place) ≡ second (ids.Cell place))
