-- The module of a pad works.
use Rattle.std.proofs.Common.{◌≡◌, [], ◌∷◌, codes, refl, ◌∙◌, arith}
use Rattle.fab_kinds.specs.declared.kind.Kind.TheVariants as kinds
use Rattle.fab_kinds.specs.Pins.{input_names, output_names}
use Rattle.fab_kinds.specs.Kinds.{outputs_of}
use Rattle.fab_syntax.specs.Plain.{variable, complement}
use Rattle.fab_meaning.specs.Points.{point}
use Rattle.fab_prim.specs.Ports.{top_name}
use Rattle.fab_prim.specs.Modules.{flip_flop_name, module_of_kind}
use Rattle.fab_prim.specs.Works.{PrimitiveWorks, values_at, pin_values, config_values, top_value, held_value}
use Rattle.fab_prim.proofs.Pins.{value_at_name}
use Rattle.fab_prim.proofs.Instance.{assigned, shows_held, takes}

pub pad_works : PrimitiveWorks kinds.Io (module_of_kind kinds.Io)
pad_works text path inputs held now stands settled =
    let m = module_of_kind kinds.Io in
    let pins = pin_values kinds.Io now path in
    let config = config_values kinds.Io now path in
    let kept = held_value held path in
    let top = top_value now path in
    let q_is = shows_held m text path inputs held now stands settled (variable top_name) 1 (omega arith) refl refl refl in
    let o_is = assigned m text path inputs held now stands settled (codes "O") (variable top_name) 0 2 (omega arith) refl refl refl in
    let later_is = assigned m text path inputs held now stands settled (codes "Q") (variable flip_flop_name) 0 3 (omega arith) refl refl refl ∙ q_is in
    let i_is = assigned m text path inputs held now stands settled (codes "I_top") (variable (codes "I")) 0 4 (omega arith) refl refl refl in
    let t_is = assigned m text path inputs held now stands settled (codes "T_top") (complement (variable (codes "T"))) 0 5 (omega arith) refl refl refl in
    let outputs : values_at now path (output_names kinds.Io) ≡ outputs_of kinds.Io pins config kept top = λ j. o_is j ∷ later_is j ∷ [] in
    record {
      outputs = λ pin name. value_at_name (λ n. now (point path n 0)) (input_names kinds.Io) (output_names kinds.Io) (outputs_of kinds.Io pins config kept top) pin name outputs;
      next = λ has. takes m text path inputs held now stands settled (variable top_name) 1 top (omega arith) refl refl;
      to_outside = λ j. i_is j ∷ t_is j ∷ [];
    }
