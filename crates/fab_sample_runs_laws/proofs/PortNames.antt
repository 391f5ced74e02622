-- The ports of a sample's netlist have short names.
use Rattle.std.proofs.Common.{◌≡◌, ◌≤◌, ℕ, List, ◌++◌, length, map, All, sym, ◌∙◌, subst, arith}
use Rattle.std.specs.List.{AllByRecursion as Each}
use Rattle.std.proofs.lemmas.List.Elements.{All-append, All-from_recursion, All-weaker}
use Rattle.std.proofs.lemmas.Simd.{map-map}
use Rattle.fab_netlist.specs.Plain.{PlainNetlist, name_of}
use Rattle.fab_netlist.specs.Packing.{net_of, packed}
use Rattle.fab_legal.specs.WellMade.{output_name, output_ports, ports}
use Rattle.fab_sample_laws.specs.Items.{Item}
use Rattle.fab_sample_laws.specs.Named.{IsOfItems}
use Rattle.fab_sample_laws.specs.Samples.{input_words, output_words}
use Rattle.fab_sample_laws.proofs.SampleItems.{inputs_are, output_words_are}
use Rattle.fab_sample_laws.proofs.ShortTexts.{short_run}
use Rattle.fab_sample_laws.proofs.TaggedWords.{run}
use Rattle.fab_flow_laws.specs.fab_legal_states_laws_ShortLaws.{IsShortName}

-- a letter and a number
run_short : (letter size : ℕ) → size ≤ 16 → (words : List (List ℕ)) → words ≡ run letter 0 size → All IsShortName words
run_short letter size most words are =
    subst (All IsShortName) (sym are)
    (All-weaker (λ word. length word ≤ 8) IsShortName (λ word short. omega (arith, short)) (run letter 0 size)
    (All-from_recursion (λ word. length word ≤ 8) (run letter 0 size) (short_run letter 0 size (omega (arith, most)))))

module _ (size : ℕ) (draws : ℕ → ℕ) (least : 2 ≤ size) (most : size ≤ 16) (netlist : PlainNetlist) (items : List Item)
    (is : IsOfItems netlist (input_words size) (output_words size) items) where
  some : 1 ≤ size
  some = omega (arith, least)

  outputs_are : output_ports (packed netlist) ≡ output_words size
  outputs_are = map-map output_name (λ net. (name_of netlist net, net_of netlist net)) netlist.outputs ∙ is.outputs

  pub ports_short : All IsShortName (ports (packed netlist))
  ports_short =
      All-append IsShortName (packed netlist).inputs (output_ports (packed netlist))
      (run_short 105 size most (packed netlist).inputs (is.inputs ∙ inputs_are size draws draws some most))
      (run_short 111 size most (output_ports (packed netlist)) (outputs_are ∙ output_words_are size draws draws some most))
