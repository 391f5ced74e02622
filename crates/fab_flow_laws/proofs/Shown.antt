-- Values that are known, as ternary bits and as plain ones.
use Rattle.std.proofs.Common.{◌≡◌, ℕ, Bool, true, false, List, [], ◌∷◌, map, refl, sym, ap, ◌∙◌}
use Rattle.fab_systems_laws.specs.Ternary.{known, no, yes, unknown}
use Rattle.fab_systems_laws.specs.Ternary.{Tern as PlainTern}
use Rattle.fab_netlist.specs.Plain.{PlainNetlist}
use Rattle.fab_ternary.specs.declared.Tern.{Tern}
use Rattle.fab_ternary.specs.declared.Tern.TheVariants as terns
use Rattle.fab_ternary.specs.Terns.{plain_tern}
use Rattle.fab_netlist_traces_laws.specs.SimulatedDesigns.{shown_by}
use Rattle.fab_netlist_traces_laws.specs.OrderedDesigns.{outputs_by}
use Rattle.fab_flow_laws.specs.SimulatedLaws.{known_tern, port_values}

-- the bit that a plain one is
abbrev back : PlainTern → Tern
back no = terns.No
back yes = terns.Yes
back unknown = terns.Open

back_again : (t : Tern) → back (plain_tern t) ≡ t
back_again terns.No = refl
back_again terns.Yes = refl
back_again terns.Open = refl

line_again : (line : List Tern) → map back (map plain_tern line) ≡ line
line_again [] = refl
line_again (t ∷ line) = let here = back_again t in let rest = line_again line in λ j. here j ∷ rest j

lines_again : (lines : List (List Tern)) → map (map back) (map (map plain_tern) lines) ≡ lines
lines_again [] = refl
lines_again (line ∷ lines) = let here = line_again line in let rest = lines_again lines in λ j. here j ∷ rest j

known_back : (b : Bool) → back (known b) ≡ known_tern b
known_back false = refl
known_back true = refl

values_back : (nets : ℕ → Bool) (outputs : List ℕ) → map back (map (λ net. known (nets net)) outputs) ≡ map (λ net. known_tern (nets net)) outputs
values_back nets [] = refl
values_back nets (net ∷ outputs) = let here = known_back (nets net) in let rest = values_back nets outputs in λ j. here j ∷ rest j

shown_back : (netlist : PlainNetlist) (nows : List (ℕ → Bool)) → map (map back) (map (shown_by netlist) nows) ≡ map (port_values netlist) nows
shown_back netlist [] = refl
shown_back netlist (now ∷ nows) = let here = values_back now netlist.outputs in let rest = shown_back netlist nows in λ j. here j ∷ rest j

-- what shows the values of a netlist has them
pub shown_values : (netlist : PlainNetlist) (shown : List (List Tern)) (nows : List (ℕ → Bool)) → map (map plain_tern) shown ≡ map (shown_by netlist) nows →
    shown ≡ map (port_values netlist) nows
shown_values netlist shown nows same = sym (lines_again shown) ∙ ap (map (map back)) same ∙ shown_back netlist nows

-- ---- values that are all known

line_known : (nets : ℕ → Bool) (outputs : List ℕ) → map known (map nets outputs) ≡ map (λ net. known (nets net)) outputs
line_known nets [] = refl
line_known nets (net ∷ outputs) = let rest = line_known nets outputs in λ j. known (nets net) ∷ rest j

-- what output ports have, as it is shown
pub lines_known : (netlist : PlainNetlist) (nows : List (ℕ → Bool)) → map (map known) (map (outputs_by netlist) nows) ≡ map (shown_by netlist) nows
lines_known netlist [] = refl
lines_known netlist (now ∷ nows) = let here = line_known now netlist.outputs in let rest = lines_known netlist nows in λ j. here j ∷ rest j
