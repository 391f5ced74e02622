-- The bits of a name of an instance stand at its places.
use Rattle.std.proofs.Common.{◌≡◌, ℕ, ◌+◌, List, Option, None, Some, refl, sym, ap, ◌∙◌}
use Rattle.fab_syntax.specs.Declarations.{width_in}
use Rattle.fab_syntax.specs.Plain.{PlainModule}
use Rattle.fab_syntax.specs.Sound.{IsSound}
use Rattle.fab_solutions_laws.specs.fab_meaning_Points.{point, module_at}
use Rattle.fab_values.specs.Declarations.{declarations, found_in, width}
use Rattle.fab_values.specs.declared.names.Local.{Local}
use Rattle.fab_systems_laws.specs.Ternary.{Tern}
use Rattle.fab_solutions_laws.specs.fab_ternary_laws_Values.{tern_value}
use Rattle.fab_solutions_laws.specs.fab_ternary_laws_Shown.{Terns, first_terns, tern_names}
use Rattle.fab_equations.specs.Instances.{Instance}
use Rattle.fab_equations.specs.Numbering.{IsInstanceOfNumber, points_before}
use Rattle.fab_equations.proofs.Numbering.{instances_stand}
use Rattle.fab_equations.proofs.Places.{names_have_points}
use Rattle.fab_equations.proofs.Points.{found_width, not_found_width}
use Rattle.fab_compiled.specs.Compiling.{local_terns, named_terns}
use Rattle.fab_compiled.specs.Leading.{PointTerns}
use Rattle.fab_compiled.specs.Values.{AreByNumber, CompiledValues}
use Rattle.fab_compiled.proofs.TreesGrow.{same_first}

module _ (text : List PlainModule) (sound : IsSound text) (number : ℕ) (i : Instance) (is : IsInstanceOfNumber text number i)
    (t : Terns) (s : PointTerns) (same : AreByNumber text t s) where
  abbrev at : ℕ → Tern
  at place = s (points_before text number + place)

  stands : module_at text i.path ≡ Some i.here
  stands = (instances_stand text sound number i is).0

  by_local : (name : List ℕ) (o : Option Local) → found_in (declarations i.here) name ≡ o → local_terns at o ≡ tern_names text t i.path name
  by_local name None found =
      let none_wide : width_in (module_at text i.path) name ≡ 0 = ap (λ (m : Option PlainModule). width_in m name) stands ∙ not_found_width i.here name found in
      sym (ap (λ n. first_terns n (λ bit. t (point i.path name bit))) none_wide)
  by_local name (Some local) found =
      let wide : width_in (module_at text i.path) name ≡ width local.shape = ap (λ (m : Option PlainModule). width_in m name) stands ∙ found_width i.here name local found in
      same_first (width local.shape) (λ bit. at (local.first + bit)) (λ bit. t (point i.path name bit))
      (λ bit l. same (points_before text number + (local.first + bit)) (point i.path name bit) (names_have_points text number i is name local found bit l))
      ∙ sym (ap (λ n. first_terns n (λ bit. t (point i.path name bit))) wide)

  pub name_terns : (name : List ℕ) → named_terns (declarations i.here) at name ≡ tern_names text t i.path name
  name_terns name = by_local name (found_in (declarations i.here) name) refl

pub compiled_values : CompiledValues
compiled_values text sound number i is t s same e tree wide compiled =
    compiled.value (λ place. s (points_before text number + place))
    ∙ (λ j. tern_value (λ name. name_terns text sound number i is t s same name j) e)
