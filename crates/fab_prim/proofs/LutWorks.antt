-- The module of a LUT works.
use Rattle.std.proofs.Common.{◌≡◌, ℕ, ◌<◌, ◌≤◌, Bool, true, false, ◌&&◌, ◌||◌, List, [], ◌∷◌, codes, refl, sym, ap, ap₂, ◌∙◌, arith, Some, if◌then◌else◌}
use Rattle.std.proofs.lemmas.Bool.{lt-ltb}
use Rattle.fab_meaning.specs.fab_bits.specs.Bits.{bit_number, number}
use Rattle.fab_meaning.specs.fab_bits.proofs.Numbers.{get_first_bits}
use Rattle.fab_kinds.specs.declared.kind.Kind.TheVariants as kinds
use Rattle.fab_kinds.specs.Pins.{input_names, output_names}
use Rattle.fab_kinds.specs.Lut.{lut_pins, lut_settings, lut_value, at_least_two}
use Rattle.fab_kinds.specs.Kinds.{outputs_of, next_of}
use Rattle.fab_syntax.specs.Plain.{PlainModule, part}
use Rattle.fab_meaning.specs.Value.{value, bit_at}
use Rattle.fab_meaning.specs.Points.{Path, point, module_at}
use Rattle.fab_meaning.specs.Settled.{Assignment, IsSettledOn}
use Rattle.fab_meaning.specs.Ports.{config_name}
use Rattle.fab_prim.specs.Modules as modules
use Rattle.fab_prim.specs.Modules.{flip_flop_name, module_of_kind}
use Rattle.fab_prim.specs.Works.{IsOwnPoint, PrimitiveWorks, values_at, pin_values, config_values, top_value, held_value}
use Rattle.fab_prim.proofs.Pins.{value_at_name}
use Rattle.fab_prim.proofs.Instance.{one_if, seen, assigned, shows_held, takes}

carries : (a b c : Bool) → ((a && b) || (a && c)) || (b && c) ≡ at_least_two a b c
carries true true true = refl
carries true true false = refl
carries true false true = refl
carries true false false = refl
carries false true true = refl
carries false true false = refl
carries false false true = refl
carries false false false = refl

-- one of three bits by two tests
one_of_three : (enable reset value_there value_else kept : Bool) →
    bit_at (if enable then (if reset then value_there ∷ [] else value_else ∷ []) else kept ∷ []) 0
    ≡ (if enable then (if reset then value_there else value_else) else kept)
one_of_three true true value_there value_else kept = refl
one_of_three true false value_there value_else kept = refl
one_of_three false reset value_there value_else kept = refl

bit_small : (bit : Bool) → bit_number bit ≤ 1
bit_small true = omega arith
bit_small false = omega arith

four_bits : (a b c d : Bool) → number (a ∷ b ∷ c ∷ d ∷ []) < 16
four_bits a b c d = omega (arith, bit_small a, bit_small b, bit_small c, bit_small d)

module _ (text : List PlainModule) (path : Path) (inputs held now : Assignment) (stands : module_at text path ≡ Some (module_of_kind kinds.Lut4c))
    (settled : IsSettledOn (IsOwnPoint text path) text inputs held now) where
  abbrev bit : List ℕ → Bool
  bit name = now (point path name 0)

  abbrev setting : ℕ → Bool
  setting place = now (point path config_name place)

  abbrev pins : List Bool
  pins = pin_values kinds.Lut4c now path

  abbrev config : List Bool
  config = config_values kinds.Lut4c now path

  abbrev kept : Bool
  kept = held_value held path

  init_is : (place : ℕ) → place < 16 → now (point path (codes "init") place) ≡ setting place
  init_is place small =
      assigned (module_of_kind kinds.Lut4c) text path inputs held now stands settled (codes "init") (part config_name 15 0) place 4 (omega arith) refl (lt-ltb place 16 small) refl
      ∙ get_first_bits 16 setting place false small

  x_is : bit (codes "x") ≡ (if setting 17 then bit (codes "Ci") else bit (codes "I0"))
  x_is =
      assigned (module_of_kind kinds.Lut4c) text path inputs held now stands settled (codes "x") (modules.one_of (modules.config_bit 17) (codes "Ci") (codes "I0")) 0 5 (omega arith) refl refl refl
      ∙ one_if (setting 17) (bit (codes "Ci")) (bit (codes "I0"))

  abbrev index : (lowest : Bool) → ℕ
  index lowest = number (lowest ∷ bit (codes "I1") ∷ bit (codes "I2") ∷ bit (codes "I3") ∷ [])

  small_index : (lowest : Bool) → index lowest < 16
  small_index lowest = four_bits lowest (bit (codes "I1")) (bit (codes "I2")) (bit (codes "I3"))

  -- the table at an index
  table_at : (place : ℕ) → place < 16 → setting place ≡ bit_at config place
  table_at place small = sym (get_first_bits 19 setting place false (omega arith))

  t_is : bit (codes "t") ≡ lut_value (lut_settings config) (lut_pins pins)
  t_is =
      assigned (module_of_kind kinds.Lut4c) text path inputs held now stands settled (codes "t") modules.lut_value 0 6 (omega arith) refl refl refl
      ∙ get_first_bits 16 (λ place. now (point path (codes "init") place)) (index (bit (codes "x"))) false (small_index (bit (codes "x")))
      ∙ init_is (index (bit (codes "x"))) (small_index (bit (codes "x")))
      ∙ table_at (index (bit (codes "x"))) (small_index (bit (codes "x")))
      ∙ ap (λ lowest. bit_at config (index lowest)) x_is

  q_is : bit flip_flop_name ≡ kept
  q_is = shows_held (module_of_kind kinds.Lut4c) text path inputs held now stands settled modules.lut_next 7 (omega arith) refl refl refl

  o_is : bit (codes "O") ≡ (if setting 16 then kept else lut_value (lut_settings config) (lut_pins pins))
  o_is =
      assigned (module_of_kind kinds.Lut4c) text path inputs held now stands settled (codes "O") (modules.one_of (modules.config_bit 16) flip_flop_name (codes "t")) 0 8 (omega arith) refl refl refl
      ∙ one_if (setting 16) (bit flip_flop_name) (bit (codes "t"))
      ∙ ap₂ (λ q t. if setting 16 then q else t) q_is t_is

  co_is : bit (codes "Co") ≡ at_least_two (bit (codes "Ci")) (bit (codes "I1")) (bit (codes "I2"))
  co_is =
      assigned (module_of_kind kinds.Lut4c) text path inputs held now stands settled (codes "Co") modules.lut_carry 0 9 (omega arith) refl refl refl
      ∙ carries (bit (codes "Ci")) (bit (codes "I1")) (bit (codes "I2"))

  next_is : bit_at (value (seen (module_of_kind kinds.Lut4c) path now) modules.lut_next) 0 ≡ next_of kinds.Lut4c pins config kept (top_value now path)
  next_is =
      one_of_three (bit (codes "EN")) (bit (codes "SR")) (setting 18) (bit (codes "t")) (bit flip_flop_name)
      ∙ ap₂ (λ t q. if bit (codes "EN") then (if bit (codes "SR") then setting 18 else t) else q) t_is q_is

  outputs_are : values_at now path (output_names kinds.Lut4c) ≡ outputs_of kinds.Lut4c pins config kept (top_value now path)
  outputs_are = λ j. o_is j ∷ co_is j ∷ []

pub lut_works : PrimitiveWorks kinds.Lut4c (module_of_kind kinds.Lut4c)
lut_works text path inputs held now stands settled = record {
  outputs = λ pin name. value_at_name (λ n. now (point path n 0)) (input_names kinds.Lut4c) (output_names kinds.Lut4c) (outputs_of kinds.Lut4c (pin_values kinds.Lut4c now path) (config_values kinds.Lut4c now path) (held_value held path) (top_value now path)) pin name (outputs_are text path inputs held now stands settled);
  next = λ has. takes (module_of_kind kinds.Lut4c) text path inputs held now stands settled modules.lut_next 7 (next_of kinds.Lut4c (pin_values kinds.Lut4c now path) (config_values kinds.Lut4c now path) (held_value held path) (top_value now path)) (omega arith) refl (next_is text path inputs held now stands settled);
  to_outside = refl;
}
