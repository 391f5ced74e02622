-- What a switch matrix does.
use Rattle.std.specs.Prelude.{◌≡◌, ℕ, ◌+◌, Bool, false, List, [], ◌∷◌, slice_index_or, Contains, Some}
use Rattle.fab_bits.specs.Bits.{number, first_bits}
use Rattle.fab_syntax.specs.Plain.{PlainModule}
use Rattle.fab_meaning.specs.Points.{Path, point, module_at}
use Rattle.fab_meaning.specs.Settled.{Assignment, IsSettledOn}
use Rattle.fab_select.specs.Selection.{inputs_of, field_width, field_low}
use Rattle.fab_matrix.specs.Names.{Name}
use Rattle.fab_meaning.specs.Ports.{config_name}

-- the select value of an output: the number in its field
abbrev pub select_value : {K : Type 0} → (same : K → K → Bool) → List (K × Name) → Assignment → Path → (output : K) → ℕ
select_value same pairs now path output =
    number (first_bits (field_width same pairs output) (λ bit. now (point path config_name (field_low same pairs output + bit))))

-- the value of the input at the select value, else of the first input, else 0
abbrev pub chosen : (value : Name → Bool) → List Name → (select : ℕ) → Bool
chosen value [] select = false
chosen value (first ∷ inputs) select = value (slice_index_or (first ∷ inputs) select first)

-- Wherever the module stands in a text, in each assignment that is settled on the point of an output, that output has the
-- value of its input at the select value, else of its first input, and 0 without an input.
abbrev pub Selects : {K : Type 0} → (same : K → K → Bool) → PlainModule → (outputs : List (K × Name)) → List (K × Name) → Type 0
Selects {K} same matrix outputs pairs =
    (text : List PlainModule) (path : Path) (inputs held now : Assignment) (output : K × Name) →
    module_at text path ≡ Some matrix → Contains outputs output →
    IsSettledOn (λ p. p ≡ point path output.1 0) text inputs held now →
    now (point path output.1 0)
    ≡ chosen (λ input. now (point path input 0)) (inputs_of same pairs output.0) (select_value same pairs now path output.0)
