-- The implementation in which the items of a design stand on sites, by the numbers of these. Items are the cells, then the input
-- ports, then the output ports.
use Rattle.std.specs.Prelude.{ℕ, ◌+◌, List, [], map, length, get_or}
use Rattle.std.specs.List.{enumerate_from}
use Rattle.fab_model.specs.Tiles.{counted}
use Rattle.fab_fabric.specs.declared.wire.Site.{Site}
use Rattle.fab_netlist.specs.declared.net_id.NetId.{NetId}
use Rattle.fab_netlist.specs.Packed.{PlainPacked}
use Rattle.fab_implementation.specs.Plain.{Pad, PlainImplementation, reset_name}
use Rattle.fab_ways_laws.specs.Placing.{no_site}

-- the site of an item
abbrev pub site_at : List Site → (numbers : List ℕ) → (item : ℕ) → Site
site_at sites numbers item = get_or sites (get_or numbers item 0) no_site

abbrev pub cell_lines : List Site → (numbers : List ℕ) → (cells : ℕ) → List (ℕ × Site)
cell_lines sites numbers cells = counted cells (λ number. (number, site_at sites numbers number))

-- the lines of ports, the first of which is this item
abbrev pub input_lines : List Site → (numbers : List ℕ) → (first : ℕ) → (inputs : List (List ℕ)) → List Pad
input_lines sites numbers first inputs = map (λ (input : ℕ × List ℕ). (input.1, site_at sites numbers (first + input.0))) (enumerate_from 0 inputs)

abbrev pub output_lines : List Site → (numbers : List ℕ) → (first : ℕ) → (outputs : List (List ℕ × NetId)) → List Pad
output_lines sites numbers first outputs = map (λ (output : ℕ × (List ℕ × NetId)). (output.1.0, site_at sites numbers (first + output.0))) (enumerate_from 0 outputs)

abbrev pub standing : PlainPacked → List Site → (numbers : List ℕ) → PlainImplementation
standing packed sites numbers = record {
  cells = cell_lines sites numbers (length packed.cells);
  ins = input_lines sites numbers (length packed.cells) packed.inputs;
  outs = output_lines sites numbers (length packed.cells + length packed.inputs) packed.outputs;
  trees = [];
  reset = reset_name packed;
}
