-- Names of instances by the numbers of their first points.
use Rattle.std.proofs.Common.{◌≡◌, ℕ, ◌+◌, ◌-◌, ◌<◌, ◌≤◌, true, false, List, [], length, slice_get, option_map, Option, Some, None, refl, sym, ap, ◌∙◌, subst, arith}
use Rattle.std.specs.Prelude.{nat_lt}
use Rattle.std.proofs.lemmas.Bool.{ltb-true, lt-ltb}
use Rattle.std.proofs.lemmas.Option.{slice_get_within, slice_get-get_or, get_or_from_slice_get}
use Rattle.fab_syntax.specs.Declarations.{width, width_in}
use Rattle.fab_syntax.specs.Plain.{PlainModule}
use Rattle.fab_syntax.specs.Sound.{IsSound}
use Rattle.fab_meaning.specs.Points.{Path, Point, point, module_at}
use Rattle.fab_meaning.specs.Reads.{is_declared}
use Rattle.fab_values.specs.Declarations.{declarations, found_in}
use Rattle.fab_equations.specs.Instances.{Instance, instances, points}
use Rattle.fab_equations.specs.Numbering.{IsInstanceOfNumber, points_before}
use Rattle.fab_equations.specs.Equations.{IsPoint, declared_as, declared_in}
use Rattle.fab_equations.specs.declared.driver.Declared.{Declared}
use Rattle.fab_equations.proofs.Numbering.{same_value, instances_stand}
use Rattle.fab_equations.proofs.Paths.{paths_are_instances, top_path}
use Rattle.fab_equations.proofs.Places.{names_have_points}
use Rattle.fab_equations.proofs.Points.{found_width, not_found_width, point_at, points_are_declared, points_differ, declared_are_points}
use Rattle.fab_load_points.specs.inner.Causes.{StandsFor, IsFirstOf}

pub none_mapped : {X Y : Type 0} (f : X → Y) (o : Option X) → None ≡ option_map f o → o ≡ None
none_mapped f None e = refl
none_mapped f (Some x) e = cc

pub some_mapped : {X Y : Type 0} (f : X → Y) (o : Option X) (y : Y) → Some y ≡ option_map f o → (x : X) × (o ≡ Some x) × (y ≡ f x)
some_mapped f None y e = cc
some_mapped f (Some x) y e = (x, refl, cc)

module _ (text : List PlainModule) (sound : IsSound text) where
  -- ---- where names are declared

  undeclared : (number : ℕ) (i : Instance) → IsInstanceOfNumber text number i → (name : List ℕ) → width_in (Some i.here) name ≡ 0 → is_declared text (point i.path name 0) ≡ false
  undeclared number i is name none = ap (λ o. nat_lt 0 (width_in o name)) (instances_stand text sound number i is).0 ∙ ap (nat_lt 0) none

  pub not_found_first : (number : ℕ) (i : Instance) → IsInstanceOfNumber text number i → (name : List ℕ) → None ≡ declared_in text number i name →
      is_declared text (point i.path name 0) ≡ false
  not_found_first number i is name none =
      undeclared number i is name (not_found_width i.here name (none_mapped (declared_as text number) (found_in (declarations i.here) name) none))

  pub no_bits_first : (number : ℕ) (i : Instance) → IsInstanceOfNumber text number i → (name : List ℕ) (d : Declared) → Some d ≡ declared_in text number i name →
      width d.shape ≡ 0 → is_declared text (point i.path name 0) ≡ false
  no_bits_first number i is name d some none =
      let f = some_mapped (declared_as text number) (found_in (declarations i.here) name) d some in
      undeclared number i is name (found_width i.here name f.0 f.1 ∙ ap (λ (x : Declared). width x.shape) (sym f.2) ∙ none)

  pub found_first : (number : ℕ) (i : Instance) → IsInstanceOfNumber text number i → (name : List ℕ) (d : Declared) → Some d ≡ declared_in text number i name →
      0 < width d.shape → IsPoint text d.first (point i.path name 0)
  found_first number i is name d some bits =
      let f = some_mapped (declared_as text number) (found_in (declarations i.here) name) d some in
      let wide : 0 < width f.0.shape = omega (arith, ap (λ (x : Declared). width x.shape) f.2, bits) in
      let place : d.first ≡ points_before text number + (f.0.first + 0) = omega (arith, ap (λ (x : Declared). x.first) f.2) in
      ap (slice_get (points text)) place ∙ names_have_points text number i is name f.0 f.1 0 wide

  pub no_instance : length (instances text) ≡ 0 → (name : List ℕ) → is_declared text (point [] name 0) ≡ false
  no_instance none name = by (module_at text []) refl
    where
      by : (o : Option PlainModule) → module_at text [] ≡ o → nat_lt 0 (width_in (module_at text []) name) ≡ false
      by None e = ap (λ o. nat_lt 0 (width_in o name)) e
      by (Some m) e = let at = paths_are_instances text sound [] m e in absurd (omega (arith, slice_get_within (instances text) at.0 at.1 at.2, none))

  pub top_first : (i : Instance) → IsInstanceOfNumber text 0 i → (name : List ℕ) (o : Option ℕ) → IsFirstOf text i.path name o → IsFirstOf text [] name o
  top_first i is name o first = subst (λ (path : Path). IsFirstOf text path name o) (top_path text i is) first

  -- ---- points and their names

  pub point_declared : (number : ℕ) (p : Point) → IsPoint text number p → is_declared text p ≡ true
  point_declared number p is = points_are_declared text sound p (number, slice_get_within (points text) number p is, get_or_from_slice_get (points text) number p p is)

  pub first_declared : (p : Point) → is_declared text p ≡ true → is_declared text (point p.path p.name 0) ≡ true
  first_declared p h =
      let wide = width_in (module_at text p.path) p.name in
      lt-ltb 0 wide (omega (arith, ltb-true p.bit wide h))

  pub numbered : (p : Point) → is_declared text p ≡ true → (number : ℕ) × IsPoint text number p
  numbered p h = let there = declared_are_points text sound p h in (there.0, slice_get-get_or (points text) there.0 p there.1 ∙ ap (λ (q : Point). Some q) there.2)

  pub stands_at : (p : Point) → is_declared text p ≡ true → (number : ℕ) × StandsFor text number (point p.path p.name 0)
  stands_at p h = let at = numbered (point p.path p.name 0) (first_declared p h) in (at.0, record { is = at.1; first = refl })

  pub one_point : (number : ℕ) (p q : Point) → StandsFor text number p → StandsFor text number q → p ≡ q
  one_point number p q a b = same_value (slice_get (points text) number) p q a.is b.is

  pub one_number : (number other : ℕ) (p : Point) → IsPoint text number p → IsPoint text other p → number ≡ other
  one_number number other p a b = points_differ text sound number other p a b

  -- the first point of the name of a point
  pub begins_at : (number : ℕ) (p : Point) → IsPoint text number p → (p.bit ≤ number) × StandsFor text (number - p.bit) (point p.path p.name 0)
  begins_at number p is =
      let at = point_at text sound number p is in
      let place : number - p.bit ≡ points_before text at.above + (at.local.first + 0) = omega (arith, at.place) in
      let there = names_have_points text at.above at.i at.is p.name at.local at.found 0 (omega (arith, at.less)) in (
        omega (arith, at.place),
        record { is = ap (slice_get (points text)) place ∙ there ∙ ap (λ (path : Path). Some (point path p.name 0)) at.same; first = refl },
      )

-- a first point
pub is_first : (p : Point) → p.bit ≡ 0 → point p.path p.name 0 ≡ p
is_first p e = ap (point p.path p.name) (sym e)
