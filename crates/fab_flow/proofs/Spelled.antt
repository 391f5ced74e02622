-- No input of a list that is spelled is the configuration port, and what its printed module is.
use Rattle.std.proofs.Common.{◌≡◌, ◌≢◌, ℕ, true, List, [], ◌∷◌, All, ap, ◌∙◌, subst}
use Rattle.std.specs.Str.{bytes_eq}
use Rattle.std.proofs.lemmas.List.Elements.{All-weaker}
use Rattle.fab_desk.specs.Files.{Map}
use Rattle.fab_lines.specs.Names.{is_wire_name}
use Rattle.fab_list_files.specs.Sides.{HasWireNames, SpellsPairs}
use Rattle.fab_list_files.proofs.Named.{names_are_wires}
use Rattle.fab_meaning.specs.Ports.{config_name}
use Rattle.fab_matrix.specs.Matrix.{list_matrix, list_outputs}
use Rattle.fab_matrix.specs.Selects.{Selects}
use Rattle.fab_syntax.specs.Plain.{PlainModule}
use Rattle.fab_syntax.specs.Spelling.{text_bytes}
use Rattle.fab_tables.specs.Lists.{Pair}
use Rattle.fab_outputs.specs.Storing.{PlainOutput, output}
use Rattle.fab_flow.specs.Matrix.{module_name, IsModuleOf, MakesMatrix}

not_config : (name : List ℕ) → is_wire_name name ≡ true → name ≢ config_name
not_config name wire same =
    let false_is : is_wire_name config_name ≡ true = subst (λ (x : List ℕ). is_wire_name x ≡ true) same wire in
    absurd cc

pub inputs_apart : (files : Map) (list : List ℕ) (pairs : List Pair) → SpellsPairs files list pairs → All (λ pair. pair.1 ≢ config_name) pairs
inputs_apart files list pairs spelled =
    All-weaker HasWireNames (λ (pair : Pair). pair.1 ≢ config_name) (λ pair named. not_config pair.1 named.1) pairs (names_are_wires files list pairs spelled)

-- the printed module of pairs
pub module_of_pairs : (list text name : List ℕ) (pairs : List Pair) (m : PlainModule) → name ≡ module_name list → m ≡ list_matrix name pairs → text ≡ text_bytes (m ∷ [])
    → Selects bytes_eq m (list_outputs pairs) pairs → IsModuleOf list pairs text
module_of_pairs list text name pairs m named is printed selects =
    let same : m ≡ list_matrix (module_name list) pairs = is ∙ ap (λ (n : List ℕ). list_matrix n pairs) named in
    record {
      printed = printed ∙ ap (λ (x : PlainModule). text_bytes (x ∷ [])) same;
      selects = subst (λ (x : PlainModule). Selects bytes_eq x (list_outputs pairs) pairs) same selects;
    }

-- what the command makes of the pairs that its list spells
pub matrix_made : (files : Map) (list out text : List ℕ) (pairs given : List Pair) (outputs : List PlainOutput) → SpellsPairs files list pairs → given ≡ pairs
    → (All (λ pair. pair.1 ≢ config_name) given → IsModuleOf list given text) → outputs ≡ output out text ∷ [] → MakesMatrix files list out outputs
matrix_made files list out text pairs given outputs spelled same made are =
    let module_is : IsModuleOf list pairs text =
    subst (λ (ps : List Pair). All (λ pair. pair.1 ≢ config_name) ps → IsModuleOf list ps text) same made (inputs_apart files list pairs spelled) in
    record { text = text; made = record { pairs = pairs; spelled = spelled; made = module_is }; outputs_are = are }
