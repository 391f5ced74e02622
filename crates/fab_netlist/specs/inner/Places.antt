-- Packing by the tables of a survey.
use Rattle.std.specs.Prelude.{◌≡◌, ℕ, ◌<◌, not, List, [], ◌∷◌, ◌++◌, map, length, Option, Some, None, option_map, get_or, Result, Ok, Err, if◌then◌else◌, nat_lt}
use Rattle.std.specs.List.{filter}
use Rattle.fab_base.specs.declared.fault.Fault.{Fault}
use Rattle.fab_base.specs.declared.fault.Fault.TheVariants as faults
use Rattle.fab_base.specs.declared.fault.SiteKind.TheVariants as kinds
use Rattle.fab_netlist.specs.declared.netlist.Latch.{Latch}
use Rattle.fab_netlist.specs.declared.net_id.NetId.{NetId}
use Rattle.fab_netlist.specs.declared.net_id.NetId.TheVariants as ids
use Rattle.fab_netlist.specs.Plain.{PlainCover, PlainNetlist, name_of}
use Rattle.fab_netlist.specs.Packed.{PlainCell, PlainPacked}
use Rattle.fab_netlist.specs.Packing.{latch_at, input_or, cell_or}
use Rattle.fab_netlist.specs.inner.Survey.{PlainSurvey, place_table, kept_by, pair_by, paired_by}

-- tables that fit a netlist
pub record IsFor (netlist : PlainNetlist) (survey : PlainSurvey) : Type 0 where
  pub readers : length survey.readers ≡ length netlist.nets
  pub takers : length survey.takers ≡ length netlist.nets
  pub drivers : length survey.drivers ≡ length netlist.nets
  pub latches : (net place : ℕ) → get_or survey.takers net None ≡ Some place → place < length netlist.latches

abbrev pub paired_or : PlainNetlist → Option ℕ → ℕ → ℕ
paired_or netlist None net = net
paired_or netlist (Some place) net = (latch_at netlist place).output

-- the net that a cover's cell drives
abbrev pub net_by : PlainNetlist → PlainSurvey → PlainCover → ℕ
net_by netlist survey cover = paired_or netlist (pair_by survey cover) cover.output

-- the nets that the cells drive
abbrev pub nets_by : PlainNetlist → PlainSurvey → List ℕ
nets_by netlist survey = map (net_by netlist survey) (filter (kept_by survey) netlist.covers) ++ map (λ latch. latch.output) (filter (λ latch. not (paired_by survey latch)) netlist.latches)

-- the packed net of each net, by the places of inputs and of nets of cells
abbrev pub ids_by : (inputs cells : List (Option ℕ)) → List NetId
ids_by [] cells = []
ids_by (input ∷ inputs) [] = []
ids_by (input ∷ inputs) (cell ∷ cells) = input_or input (cell_or cell ids.Zero) ∷ ids_by inputs cells

-- the same where these are the nets of the cells
abbrev pub table_by : PlainNetlist → List ℕ → List NetId
table_by netlist nets = ids_by (place_table (length netlist.nets) netlist.inputs) (place_table (length netlist.nets) nets)

abbrev pub id_at : List NetId → ℕ → NetId
id_at table net = get_or table net ids.Zero

-- the cell of a cover
abbrev pub cell_by : PlainNetlist → PlainSurvey → List NetId → PlainCover → PlainCell
cell_by netlist survey table cover =
    record { table = cover.table; inputs = map (id_at table) cover.inputs; latch = option_map (λ place. (latch_at netlist place).init) (pair_by survey cover) }

-- the cell of a latch alone
abbrev pub latch_cell_by : List NetId → Latch → PlainCell
latch_cell_by table latch = record { table = 43690; inputs = id_at table latch.input ∷ []; latch = Some latch.init }

-- the cells
abbrev pub cells_by : PlainNetlist → PlainSurvey → List NetId → List PlainCell
cells_by netlist survey table = map (cell_by netlist survey table) (filter (kept_by survey) netlist.covers) ++ map (latch_cell_by table) (filter (λ latch. not (paired_by survey latch)) netlist.latches)

-- the packed netlist
abbrev pub packed_by : PlainNetlist → PlainSurvey → PlainPacked
packed_by netlist survey = record {
  cells = cells_by netlist survey (table_by netlist (nets_by netlist survey));
  inputs = map (name_of netlist) netlist.inputs;
  outputs = map (λ net. (name_of netlist net, id_at (table_by netlist (nets_by netlist survey)) net)) netlist.outputs;
  reset = netlist.reset;
}

-- whether there are sites enough, or which kind is short
abbrev pub room : (cells ports luts pads : ℕ) → Result (Unit {0}) Fault
room cells ports luts pads =
    if nat_lt luts cells then Err (faults.Short kinds.Lut cells luts)
    else if nat_lt pads ports then Err (faults.Short kinds.Pad ports pads)
    else Ok tt
