-- The names of the ports of a netlist are those that the first model declares, and words.
use Rattle.std.proofs.Common.{◌≡◌, ℕ, ◌==◌, ◌-◌, ◌&&◌, true, not, List, [], ◌∷◌, map, length, All, refl, sym, subst, ◌∙◌, arith}
use Rattle.std.specs.List.{AllByRecursion as Each, list_all}
use Rattle.std.proofs.lemmas.Bool.Decides.{nat_tests}
use Rattle.std.proofs.lemmas.List.Elements.{All-from_recursion}
use Rattle.fab_blif_models.specs.Words.{Word}
use Rattle.fab_texts.specs.Printed.{ends_line, is_last_word, is_word_byte}
use Rattle.fab_lines.specs.Items.{is_filled}
use Rattle.fab_netlist.specs.Plain.{name_of}
use Rattle.fab_netlist.specs.WellMade.{ports}
use Rattle.fab_blif.specs.Blif.{IsBlif, design_in, models_in, netlist_in}
use Rattle.fab_blif.specs.Design.{PlainDesign, clock_number, is_number, nets_of}
use Rattle.fab_blif.specs.Flat.{PlainNet, Placed, flat_lines}
use Rattle.fab_blif.proofs.Below.{all_named, name_in}
use Rattle.fab_blif.proofs.Each.{each_joined, each_kept, each_mapped, of_place}
use Rattle.fab_blif.proofs.Ports.{input_uses_named, output_uses_named, text_inputs, text_outputs}
use Rattle.fab_spelled_designs_laws.proofs.Lines.{AreSpoken, IsOfWord, IsSpoken}
use Rattle.fab_spelled_designs_laws.proofs.Spoken.{inputs_are_spoken, outputs_are_spoken}

-- ---- a word of a line is one of the other formats

word_byte : (byte : ℕ) → IsOfWord byte → is_word_byte byte ≡ true
word_byte byte is = let printed = is.0 in let other = is.1 in grind (arith, nat_tests)

no_return : (byte : ℕ) → IsOfWord byte → not (byte == 13) ≡ true
no_return byte is = let printed = is.0 in grind (arith, nat_tests)

word_bytes : (word : Word) → Each IsOfWord word → list_all is_word_byte word ≡ true
word_bytes [] all = refl
word_bytes (byte ∷ word) all = let here = word_byte byte all.0 in let rest = word_bytes word all.1 in λ j. here j && rest j

no_returns : (word : Word) → Each IsOfWord word → Each (λ byte. not (byte == 13) ≡ true) word
no_returns [] all = tt
no_returns (byte ∷ word) all = (no_return byte all.0, no_returns word all.1)

is_last : (word : Word) → IsSpoken word → is_last_word word ≡ true
is_last word spoken =
    let filled : is_filled word ≡ true = spoken.0 in
    let bytes = word_bytes word spoken.1 in
    let last : ends_line word ≡ true = of_place (λ byte. not (byte == 13) ≡ true) word (length word - 1) 0 refl (no_returns word spoken.1) in
    λ j. filled j && bytes j && last j

-- ---- ports

-- what holds of the images of items holds of the items
each_unmapped : {X Y : Type 0} (P : Y → Type 0) (f : X → Y) (xs : List X) → Each P (map f xs) → Each (λ x. P (f x)) xs
each_unmapped P f [] all = tt
each_unmapped P f (x ∷ xs) all = (all.0, each_unmapped P f xs all.1)

each_last : (names : List Word) → AreSpoken names → Each (λ name. is_last_word name ≡ true) names
each_last [] all = tt
each_last (name ∷ names) all = (is_last name all.0, each_last names all.1)

module _ (bytes : List ℕ) where
  abbrev text : List Placed
  text = flat_lines (models_in bytes)

  abbrev nets : List PlainNet
  nets = nets_of text

  abbrev design : PlainDesign
  design = design_in bytes

  abbrev HasLastName : ℕ → Type 0
  HasLastName net = is_last_word (name_in nets net) ≡ true

  -- nets that have these names
  nets_named : {Used : Type 0} (net_of : Used → ℕ) (used : List Used) (names : List Word) → map (λ one. name_in nets (net_of one)) used ≡ names → AreSpoken names → Each HasLastName (map net_of used)
  nets_named net_of used names are spoken =
      each_mapped HasLastName net_of used (each_unmapped (λ name. is_last_word name ≡ true) (λ one. name_in nets (net_of one)) used
      (subst (Each (λ name. is_last_word name ≡ true)) (sym are) (each_last names spoken)))

  inputs_named : Each HasLastName (netlist_in bytes).inputs
  inputs_named =
      each_kept HasLastName (λ net. not (is_number (clock_number design) net)) (map (λ port. port.net) design.inputs)
      (nets_named (λ port. port.net) design.inputs _ (input_uses_named nets text (all_named text) ∙ text_inputs (models_in bytes)) (inputs_are_spoken bytes))

  outputs_named : Each HasLastName (netlist_in bytes).outputs
  outputs_named = nets_named (λ port. port.net) design.outputs _ (output_uses_named nets text (all_named text) ∙ text_outputs (models_in bytes)) (outputs_are_spoken bytes)

pub ports_are_words : (most : ℕ) (bytes : List ℕ) → IsBlif most bytes → All (λ net. is_last_word (name_of (netlist_in bytes) net) ≡ true) (ports (netlist_in bytes))
ports_are_words most bytes is =
    All-from_recursion (λ net. is_last_word (name_of (netlist_in bytes) net) ≡ true) (ports (netlist_in bytes))
    (each_joined (HasLastName bytes) (netlist_in bytes).inputs (netlist_in bytes).outputs (inputs_named bytes) (outputs_named bytes))
