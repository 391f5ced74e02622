-- The data ports of a netlist, which constraints may name, are the ports of its packed design.
use Rattle.std.proofs.Common.{◌≡◌, ◌⊎◌, ℕ, Bool, true, false, cond, List, [], ◌∷◌, ◌++◌, map, inl, inr, sym, subst, arith}
use Rattle.std.specs.Prelude.{fold, Contains}
use Rattle.std.proofs.lemmas.Simd.{map-map}
use Rattle.std.proofs.lemmas.List.Elements.{Contains-push_cases, Contains-append_left, Contains-append_right}
use Rattle.fab_netlist.specs.Plain.{PlainNetlist, name_of}
use Rattle.fab_netlist.specs.Packing.{net_of, packed}
use Rattle.fab_netlist.proofs.Members.{first_in, later_in}
use Rattle.fab_legal.specs.WellMade.{output_name, output_ports, ports}
use Rattle.fab_texts.specs.Rows.{Word}
use Rattle.fab_lines.specs.Items.{is_among}
use Rattle.fab_state.specs.Constraints.{with_word, data_ports}

old_or_new : (known : Bool) (words : List Word) (word other : Word) → Contains (cond known words (words ++ word ∷ [])) other → Contains words other ⊎ (word ≡ other)
old_or_new true words word other has = inl has
old_or_new false words word other has = Contains-push_cases words word other has

added : (start more : List Word) (word : Word) → Contains (fold with_word start more) word → Contains start word ⊎ Contains more word
added start [] word has = inl has
added start (first ∷ more) word has = elim (added (with_word start first) more word has) [
  | inl before ↦ elim (old_or_new (is_among start first) start first word before) [
    | inl old ↦ inl old
    | inr new ↦ inr (first_in first more word new)
  ]
  | inr later ↦ inr (later_in first more word later)
]

no_member : (word : Word) → Contains [] word → ⊥
no_member word has = let below = has.1 in omega (arith, below)

pub data_ports_are_ports : (netlist : PlainNetlist) (port : Word) → Contains (data_ports netlist) port → Contains (ports (packed netlist)) port
data_ports_are_ports netlist port has =
    let inputs = map (name_of netlist) netlist.inputs in
    let outputs = map (name_of netlist) netlist.outputs in
    let packed_outputs = output_ports (packed netlist) in
    let same : packed_outputs ≡ outputs = map-map output_name (λ (net : ℕ). (name_of netlist net, net_of netlist net)) netlist.outputs in
    elim (added (fold with_word [] inputs) outputs port has) [
      | inl input ↦ elim (added [] inputs port input) [
        | inl none ↦ absurd (no_member port none)
        | inr there ↦ Contains-append_left inputs packed_outputs port there
      ]
      | inr output ↦ Contains-append_right inputs packed_outputs port (subst (λ (l : List Word). Contains l port) (sym same) output)
    ]
