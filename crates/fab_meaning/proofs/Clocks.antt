-- Clocks are led to the top one instance at a time.
use Rattle.std.proofs.Common.{◌≡◌, ℕ, true, List, [], ◌∷◌, Some, refl, ap, ◌∙◌}
use Rattle.fab_syntax.specs.Plain.{variable, PlainModule}
use Rattle.fab_syntax.specs.Declarations.{is_input, is_input_of}
use Rattle.fab_meaning.specs.Points.{Path, Found, instance_in, module_at}
use Rattle.fab_meaning.specs.Runs.{clock_of, join_named, join_of}

-- an input of the top is its own clock
pub clock_at_top : (text : List PlainModule) (top : PlainModule) (clock : List ℕ) → module_at text [] ≡ Some top → is_input top.ports clock ≡ true →
    clock_of text [] clock ≡ Some clock
clock_at_top text top clock stands input =
    let is : is_input_of (module_at text []) clock ≡ true = ap (λ m. is_input_of m clock) stands ∙ input in
    rw is refl

-- an input that is joined to a plain name has the clock of that name
pub clock_below : (text : List PlainModule) (path : Path) (i clock : List ℕ) (here : PlainModule) (found : Found) (name : List ℕ) →
    module_at text (i ∷ path) ≡ Some here → is_input here.ports clock ≡ true →
    instance_in (module_at text path) i ≡ Some found → join_named found.joins clock ≡ Some (variable name) →
    clock_of text (i ∷ path) clock ≡ clock_of text path name
clock_below text path i clock here found name stands input at joined =
    let is : is_input_of (module_at text (i ∷ path)) clock ≡ true = ap (λ m. is_input_of m clock) stands ∙ input in
    let join : join_of (instance_in (module_at text path) i) clock ≡ Some (variable name) = ap (λ f. join_of f clock) at ∙ joined in
    rw (is, join) refl
