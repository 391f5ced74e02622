use Rattle.std.proofs.Common.{◌≡◌, ◌<◌, ◌^◌, Bool, ℕ, false, get_or, length, ap, ◌∙◌, arith}
use Rattle.fab_lines.specs.Numbers.{capped}
use Rattle.fab_model.specs.Drive.{select_value}
use Rattle.fab_features.specs.Said.{TwoNumbers}
use Rattle.fab_features.specs.Spelled.{value_of}
use Rattle.fab_features.proofs.Values.{picked_none, picked_some}
use Rattle.fab_features.proofs.spelled.picked_input.Goals as goal

pub returns-then-value-inputs : goal.returns-then-value-inputs
returns-then-value-inputs c =
    let bits : ℕ → Bool = λ place. get_or c.args.bits.now place false in
    let value_is : c.value_of-value.result ≡ capped (select_value c.args.tile.now bits c.args.output) =
    c.value_of-value.ensures ∙ ap (λ (field : TwoNumbers). capped (value_of bits field.0 field.1)) c.field-low.ensures in
    picked_none c.args.tile.now bits c.args.output c.value_of-value.result c.inputs_of-inputs.result.now value_is (c.inputs_of-inputs.ensures ∙ c.requires.inputs c.args.output) c.if-value-inputs.either

pub returns-else-value-inputs : goal.returns-else-value-inputs
returns-else-value-inputs c =
    let bits : ℕ → Bool = λ place. get_or c.args.bits.now place false in
    let value_is : c.value_of-value.result ≡ capped (select_value c.args.tile.now bits c.args.output) =
    c.value_of-value.ensures ∙ ap (λ (field : TwoNumbers). capped (value_of bits field.0 field.1)) c.field-low.ensures in
    let fits : length c.inputs_of-inputs.result.now < 2 ^ 64 = omega arith in
    picked_some c.args.tile.now bits c.args.output c.value_of-value.result c.inputs_of-inputs.result.now value_is (c.inputs_of-inputs.ensures ∙ c.requires.inputs c.args.output)
    c.if-value-inputs.false.0 c.if-value-inputs.false.1 fits
