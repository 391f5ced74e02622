-- A switch matrix as a Verilog module.
use Rattle.std.specs.Prelude.{ℕ, ◌+◌, ◌-◌, Bool, true, false, List, [], ◌∷◌, ◌++◌, map, slice_index_or}
use Rattle.std.specs.List.{enumerate_from}
use Rattle.std.specs.Str.{bytes_eq}
use Rattle.fab_bits.specs.Bits.{digits}
use Rattle.fab_syntax.specs.declared.tree.Op.TheVariants.{Equal}
use Rattle.fab_syntax.specs.Plain.{PlainExpr, constant, variable, part, operation, conditional, assign, PlainModule}
use Rattle.fab_select.specs.declared.pair.Pair.{Pair}
use Rattle.fab_select.specs.Selection.{inputs_of, firsts, field_width, field_low, select_bits}
use Rattle.fab_meaning.specs.Ports.{scalar, config_name, config_port}
use Rattle.fab_matrix.specs.Names.{Name}

-- the select bits of an output
abbrev pub field : (low width : ℕ) → PlainExpr
field low width = part config_name (low + width - 1) low

-- (F == 1) ? s1 : ((F == 2) ? s2 : ( .. s0)), here from the number i on
abbrev pub chain : (low width i : ℕ) → (first : Name) → List Name → PlainExpr
chain low width i first [] = variable first
chain low width i first (input ∷ inputs) =
    conditional (operation Equal (field low width) (constant (digits width i))) (variable input) (chain low width (i + 1) first inputs)

-- constant 0 without an input, the one input where there is one, else the input at the select value, and the first where
-- there is none at that value
abbrev pub selection : (low width : ℕ) → List Name → PlainExpr
selection low width [] = constant (false ∷ [])
selection low width (input ∷ []) = variable input
selection low width (first ∷ second ∷ inputs) = chain low width 1 first (second ∷ inputs)

abbrev pub output_value : {K : Type 0} → (same : K → K → Bool) → List (K × Name) → (output : K) → PlainExpr
output_value same pairs output = selection (field_low same pairs output) (field_width same pairs output) (inputs_of same pairs output)

-- The module: inputs, select bits and outputs as ports, and an assignment for each output. An output is a key and a name.
abbrev pub matrix : {K : Type 0} → (same : K → K → Bool) → (name : Name) → (inputs : List Name) → (outputs : List (K × Name)) → List (K × Name) → PlainModule
matrix same name inputs outputs pairs = record {
  name = name;
  ports = map (scalar true) inputs ++ (config_port (select_bits same pairs) ++ map (λ output. scalar false output.1) outputs);
  items = map (λ output. assign output.1 (output_value same pairs output.0)) outputs;
}

-- outputs with their numbers as keys
abbrev pub numbered_outputs : List Name → List (ℕ × Name)
numbered_outputs names = enumerate_from 0 names

-- pairs of numbers, each with the name of its input
abbrev pub named : (inputs : List Name) → List Pair → List (ℕ × Name)
named inputs pairs = map (λ pair. (pair.output, slice_index_or inputs pair.input [])) pairs

-- of a list of pairs by name, an output and an input each: the inputs in the order of their first pairs
abbrev pub list_inputs : List (Name × Name) → List Name
list_inputs pairs = firsts bytes_eq (map (λ pair. pair.1) pairs)

-- the outputs in the order of their first pairs, each its own key
abbrev pub list_outputs : List (Name × Name) → List (Name × Name)
list_outputs pairs = map (λ output. (output, output)) (firsts bytes_eq (map (λ pair. pair.0) pairs))

-- the module of a list of pairs
abbrev pub list_matrix : (name : Name) → List (Name × Name) → PlainModule
list_matrix name pairs = matrix bytes_eq name (list_inputs pairs) (list_outputs pairs) pairs
