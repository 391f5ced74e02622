use Rattle.std.proofs.Common.{◌≡◌, ◌+◌, ◌-◌, Bool, ℕ, List, false, get_or, ap, ◌∙◌}
use Rattle.fab_fasm.proofs.Powers.{fits_more}
use Rattle.fab_features.specs.Design.{field_name}
use Rattle.fab_features.specs.Spelled.{unless_zero, field_features, value_of}
use Rattle.fab_features.proofs.Pushed.{pushes_same}
use Rattle.fab_features.proofs.Values.{number_below, capped_small}
use Rattle.fab_features.proofs.spelled.push_field.Goals as goal

pub returns : goal.returns
returns c =
    let bits : ℕ → Bool = λ place. get_or c.args.bits.now place false in
    let low = c.args.low in
    let width = c.args.width in
    let n = value_of bits low width in
    let value_is : c.value_of.result ≡ n = c.value_of.ensures ∙ capped_small n (fits_more n width 16 (number_below width (λ place. bits (low + place))) c.requires.few) in
    pushes_same c.args.features.now.items c.push_value.new.features.items _ (field_features bits c.args.site c.args.field.now low width)
    (ap (λ (name : List ℕ). unless_zero name (width - 1) c.value_of.result) c.in_ok-name.ensures ∙ ap (unless_zero (field_name c.args.site c.args.field.now) (width - 1)) value_is) c.in_ok-push_value.ensures
