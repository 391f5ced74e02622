-- The module of a tree of multiplexers works.
use Rattle.std.proofs.Common.{◌≡◌, ℕ, ◌<◌, Bool, true, false, List, [], ◌∷◌, codes, get_or, refl, ap, ap₂, ◌∙◌, arith, Some, nat_lt, if◌then◌else◌}
use Rattle.std.proofs.lemmas.Bool.{false≢true}
use Rattle.fab_kinds.specs.declared.kind.Kind.TheVariants as kinds
use Rattle.fab_kinds.specs.Pins.{input_names, output_names}
use Rattle.fab_kinds.specs.Kinds.{outputs_of}
use Rattle.fab_kinds.specs.Mux as tree
use Rattle.fab_kinds.specs.Mux.{chosen, mux_pins, mux_selects, mux_tree}
use Rattle.fab_syntax.specs.Plain.{PlainModule, PlainExpr, variable, assign}
use Rattle.fab_meaning.specs.Value.{value, bit_at}
use Rattle.fab_syntax.specs.Declarations.{declared_width, is_input}
use Rattle.fab_meaning.specs.Points.{Path, point, module_at}
use Rattle.fab_meaning.specs.Settled.{Assignment, IsSettledOn}
use Rattle.fab_meaning.specs.Ports.{config_name}
use Rattle.fab_prim.specs.Modules.{module_of_kind, config_bit, one_of, mux_whole_tree}
use Rattle.fab_prim.specs.Works.{IsOwnPoint, PrimitiveWorks, values_at, pin_values, config_values, top_value, held_value}
use Rattle.fab_prim.proofs.Pins.{value_at_name}
use Rattle.fab_prim.proofs.Instance.{one_if, seen, assigned}

one_of_two_tests : (outer inner first second third : Bool) →
    bit_at (if outer then first ∷ [] else (if inner then second ∷ [] else third ∷ [])) 0 ≡ (if outer then first else (if inner then second else third))
one_of_two_tests true inner first second third = refl
one_of_two_tests false true first second third = refl
one_of_two_tests false false first second third = refl

module _ (text : List PlainModule) (path : Path) (inputs held now : Assignment) (stands : module_at text path ≡ Some (module_of_kind kinds.Mux8))
    (settled : IsSettledOn (IsOwnPoint text path) text inputs held now) where
  abbrev bit : List ℕ → Bool
  bit name = now (point path name 0)

  abbrev c0 : Bool
  c0 = now (point path config_name 0)

  abbrev c1 : Bool
  c1 = now (point path config_name 1)

  abbrev pins : tree.MuxPins
  pins = mux_pins (pin_values kinds.Mux8 now path)

  abbrev selects : tree.MuxSelects
  selects = mux_selects c0 c1 pins

  abbrev node : tree.MuxTree
  node = mux_tree selects pins

  -- a name that one assignment drives
  given : (name : List ℕ) (e : PlainExpr) (place : ℕ) → place < 26 → get_or (module_of_kind kinds.Mux8).items place (assign name e) ≡ assign name e →
      nat_lt 0 (declared_width (module_of_kind kinds.Mux8).ports (module_of_kind kinds.Mux8).items name) ≡ true →
      is_input (module_of_kind kinds.Mux8).ports name ≡ false →
      bit name ≡ bit_at (value (seen (module_of_kind kinds.Mux8) path now) e) 0
  given name e place small there declared output =
      assigned (module_of_kind kinds.Mux8) text path inputs held now stands settled name e 0 place small there declared output

  scd_is : bit (codes "scd") ≡ selects.cd
  scd_is = given (codes "scd") (one_of (config_bit 0) (codes "S0") (codes "S1")) 11 (omega arith) refl refl refl ∙ one_if c0 (bit (codes "S0")) (bit (codes "S1"))

  sef_is : bit (codes "sef") ≡ selects.ef
  sef_is = given (codes "sef") (one_of (config_bit 1) (codes "S0") (codes "S2")) 12 (omega arith) refl refl refl ∙ one_if c1 (bit (codes "S0")) (bit (codes "S2"))

  seh_is : bit (codes "seh") ≡ selects.eh
  seh_is = given (codes "seh") (one_of (config_bit 1) (codes "S1") (codes "S3")) 13 (omega arith) refl refl refl ∙ one_if c1 (bit (codes "S1")) (bit (codes "S3"))

  sgh_is : bit (codes "sgh") ≡ selects.gh
  sgh_is =
      given (codes "sgh") (one_of (config_bit 0) (codes "sef") (codes "seh")) 14 (omega arith) refl refl refl
      ∙ one_if c0 (bit (codes "sef")) (bit (codes "seh"))
      ∙ ap₂ (λ ef eh. chosen eh ef c0) sef_is seh_is

  ab_is : bit (codes "ab") ≡ node.ab
  ab_is = given (codes "ab") (one_of (variable (codes "S0")) (codes "B") (codes "A")) 15 (omega arith) refl refl refl ∙ one_if (bit (codes "S0")) (bit (codes "B")) (bit (codes "A"))

  cd_is : bit (codes "cd") ≡ node.cd
  cd_is =
      given (codes "cd") (one_of (variable (codes "scd")) (codes "D") (codes "C")) 16 (omega arith) refl refl refl
      ∙ one_if (bit (codes "scd")) (bit (codes "D")) (bit (codes "C"))
      ∙ ap (chosen (bit (codes "C")) (bit (codes "D"))) scd_is

  ef_is : bit (codes "ef") ≡ node.ef
  ef_is =
      given (codes "ef") (one_of (variable (codes "sef")) (codes "F") (codes "E")) 17 (omega arith) refl refl refl
      ∙ one_if (bit (codes "sef")) (bit (codes "F")) (bit (codes "E"))
      ∙ ap (chosen (bit (codes "E")) (bit (codes "F"))) sef_is

  gh_is : bit (codes "gh") ≡ node.gh
  gh_is =
      given (codes "gh") (one_of (variable (codes "sgh")) (codes "H") (codes "G")) 18 (omega arith) refl refl refl
      ∙ one_if (bit (codes "sgh")) (bit (codes "H")) (bit (codes "G"))
      ∙ ap (chosen (bit (codes "G")) (bit (codes "H"))) sgh_is

  ad_is : bit (codes "ad") ≡ node.ad
  ad_is =
      given (codes "ad") (one_of (variable (codes "S1")) (codes "cd") (codes "ab")) 19 (omega arith) refl refl refl
      ∙ one_if (bit (codes "S1")) (bit (codes "cd")) (bit (codes "ab"))
      ∙ ap₂ (λ ab cd. chosen ab cd (bit (codes "S1"))) ab_is cd_is

  eh_is : bit (codes "eh") ≡ node.eh
  eh_is =
      given (codes "eh") (one_of (variable (codes "seh")) (codes "gh") (codes "ef")) 20 (omega arith) refl refl refl
      ∙ one_if (bit (codes "seh")) (bit (codes "gh")) (bit (codes "ef"))
      ∙ (λ j. chosen (ef_is j) (gh_is j) (seh_is j))

  ah_is : bit (codes "ah") ≡ node.ah
  ah_is =
      given (codes "ah") (one_of (variable (codes "S3")) (codes "eh") (codes "ad")) 21 (omega arith) refl refl refl
      ∙ one_if (bit (codes "S3")) (bit (codes "eh")) (bit (codes "ad"))
      ∙ ap₂ (λ ad eh. chosen ad eh (bit (codes "S3"))) ad_is eh_is

  m_ab_is : bit (codes "M_AB") ≡ node.ab
  m_ab_is = given (codes "M_AB") (variable (codes "ab")) 22 (omega arith) refl refl refl ∙ ab_is

  m_ad_is : bit (codes "M_AD") ≡ chosen node.cd node.ad c0
  m_ad_is =
      given (codes "M_AD") (one_of (config_bit 0) (codes "ad") (codes "cd")) 23 (omega arith) refl refl refl
      ∙ one_if c0 (bit (codes "ad")) (bit (codes "cd"))
      ∙ ap₂ (λ cd ad. chosen cd ad c0) cd_is ad_is

  m_ah_is : bit (codes "M_AH") ≡ chosen (chosen node.gh node.eh c0) node.ah c1
  m_ah_is =
      given (codes "M_AH") mux_whole_tree 24 (omega arith) refl refl refl
      ∙ one_of_two_tests c1 c0 (bit (codes "ah")) (bit (codes "eh")) (bit (codes "gh"))
      ∙ (λ j. chosen (chosen (gh_is j) (eh_is j) c0) (ah_is j) c1)

  m_ef_is : bit (codes "M_EF") ≡ node.ef
  m_ef_is = given (codes "M_EF") (variable (codes "ef")) 25 (omega arith) refl refl refl ∙ ef_is

  outputs_are : values_at now path (output_names kinds.Mux8)
      ≡ outputs_of kinds.Mux8 (pin_values kinds.Mux8 now path) (config_values kinds.Mux8 now path) (held_value held path) (top_value now path)
  outputs_are = λ j. m_ab_is j ∷ m_ad_is j ∷ m_ah_is j ∷ m_ef_is j ∷ []

pub mux_works : PrimitiveWorks kinds.Mux8 (module_of_kind kinds.Mux8)
mux_works text path inputs held now stands settled = record {
  outputs = λ pin name. value_at_name (λ n. now (point path n 0)) (input_names kinds.Mux8) (output_names kinds.Mux8) (outputs_of kinds.Mux8 (pin_values kinds.Mux8 now path) (config_values kinds.Mux8 now path) (held_value held path) (top_value now path)) pin name (outputs_are text path inputs held now stands settled);
  next = λ has. absurd (false≢true has);
  to_outside = refl;
}
