-- What is found of the names of a text.
use Rattle.std.proofs.Common.{◌≡◌, ℕ, ◌+◌, ◌<◌, List, [], length, codes, Option, None, Some, Contains, refl, sym, ap, ◌∙◌, subst, arith}
use Rattle.std.specs.List.{slice_get}
use Rattle.std.specs.Option.{option_map, IfSome}
use Rattle.std.proofs.lemmas.Option.{slice_get_within, get_or_from_slice_get}
use Rattle.fab_syntax.specs.Plain.{PlainModule}
use Rattle.fab_syntax.specs.Sound.{IsSound}
use Rattle.fab_syntax.specs.declared.tree.Shape.{Shape}
use Rattle.fab_syntax.specs.declared.tree.Shape.TheVariants.{Scalar}
use Rattle.fab_fabric.specs.declared.wire.Site.{Site}
use Rattle.fab_meaning.specs.Points.{Path, Point, point, flop, module_at, Drives}
use Rattle.fab_meaning.specs.Points.{Driver as MeantDriver}
use Rattle.fab_meaning.specs.Sound.{PointsOfSoundTextsHaveOneDriver}
use Rattle.fab_values.specs.Declarations.{declarations, declared_at, found_in, width}
use Rattle.fab_values.specs.declared.names.Role.{Role}
use Rattle.fab_values.specs.declared.names.Role.TheVariants as roles
use Rattle.fab_equations.specs.Instances.{Instance, instances, points}
use Rattle.fab_equations.specs.Numbering.{IsInstanceOfNumber, InstancesStand, NamesHavePoints, PathsAreInstances, PointsAreDeclared, points_before}
use Rattle.fab_equations.specs.Equations.{IsDriven, IsPoint, Means, declared_as, declared_in}
use Rattle.fab_equations.specs.declared.driver.Declared.{Declared}
use Rattle.fab_equations.specs.declared.driver.Driver.{Driver}
use Rattle.fab_equations.specs.declared.driver.Driver.TheVariants.{Outside, Same, Value, Flop, Hold}
use Rattle.fab_equations.proofs.Numbering.{some_there}
use Rattle.fab_equations.proofs.Paths.{top_path}
use Rattle.fab_use_defs.specs.fab_fabric_text_defs_Names.{pad_port_name}
use Rattle.fab_prim.specs.Modules.{flip_flop_name}
use Rattle.fab_use_defs.specs.Sites.{bel_point}
use Rattle.fab_state_points.specs.Finding.{AreBits, IsClocked, IsDeclared, IsFoundFlop, IsFoundName, IsInstanceAt}
use Rattle.fab_state_points.specs.Entries.{IsFoundEntry}
use Rattle.fab_state_points.specs.declared.entry.Entry.TheVariants as entries

-- ---- the top

-- a text without instances has no top
pub top_none : PathsAreInstances → (text : List PlainModule) → IsSound text → length (instances text) ≡ 0 → module_at text [] ≡ None
top_none all text sound none = by (module_at text []) refl
  where
    by : (o : Option PlainModule) → module_at text [] ≡ o → module_at text [] ≡ None
    by None e = e
    by (Some m) e =
        let there = all text sound [] m e in
        let less = slice_get_within (instances text) there.0 there.1 there.2 in
        absurd (omega arith)

pub top_some : (text : List PlainModule) → (length (instances text) ≡ 0 → ⊥) → IsInstanceAt text [] (Some 0)
top_some text some =
    let there = some_there (instances text) 0 (omega (arith, some)) in
    (there.0, there.1, top_path text there.0 there.1)

-- ---- names

mapped : {X Y : Type 0} (f : X → Y) (o : Option X) (y : Y) → option_map f o ≡ Some y → (x : X) × (o ≡ Some x) × (f x ≡ y)
mapped f None y e = cc
mapped f (Some x) y e = let same : f x ≡ y = cc in (x, refl, same)

pub name_found : InstancesStand → NamesHavePoints → (text : List PlainModule) → IsSound text → (number : ℕ) (i : Instance) (path : Path) (name : List ℕ) (found : Declared) (shape : Shape)
    (role : Role) → IsInstanceOfNumber text number i → i.path ≡ path → declared_in text number i name ≡ Some found → found.shape ≡ shape → found.role ≡ role →
    IsDeclared text path name shape role × AreBits text path name shape found.first
name_found stand have text sound number i path name found shape role numbered path_is e shape_is role_is =
    let local = mapped (declared_as text number) (found_in (declarations i.here) name) found e in
    let here : module_at text path ≡ Some i.here = ap (module_at text) (sym path_is) ∙ (stand text sound number i numbered).0 in
    let local_shape : local.0.shape ≡ shape = ap (λ (d : Declared). d.shape) local.2 ∙ shape_is in (
      record {
        local = local.0;
        is = ap (λ o. found_in (declared_at o) name) here ∙ local.1;
        shape_is = local_shape;
        role_is = ap (λ (d : Declared). d.role) local.2 ∙ role_is;
      },
      λ bit less.
          let at = have text number i numbered name local.0 local.1 bit (subst (λ (s : Shape). bit < width s) (sym local_shape) less) in
          let first : points_before text number + local.0.first ≡ found.first = ap (λ (d : Declared). d.first) local.2 in
          let same : points_before text number + (local.0.first + bit) ≡ found.first + bit = omega arith in
          ap (slice_get (points text)) (sym same) ∙ at ∙ ap (λ (p : Path). Some (point p name bit)) path_is,
    )

-- ---- flip-flops

-- drivers of no flip-flop
abbrev pub IsOther : Driver → Type 0
IsOther Outside = Unit {0}
IsOther (Same number) = Unit {0}
IsOther (Value source) = Unit {0}
IsOther (Flop clock next) = ⊥
IsOther (Hold gate latched) = Unit {0}

no_flop : (text : List PlainModule) (driver : Driver) (d : MeantDriver) → IsOther driver → Means text driver d → (clocked : (p : Point) × IsClocked text p) →
    d ≡ flop clocked.1.path clocked.1.clock clocked.1.next clocked.1.bit → ⊥
no_flop text Outside d other means clocked e = let both = sym means ∙ e in absurd (cc)
no_flop text (Same number) d other means clocked e = let both = sym means.2 ∙ e in absurd (cc)
no_flop text (Value source) d other means clocked e = let both = sym means.3 ∙ e in absurd (cc)
no_flop text (Flop clock next) d other means clocked e = other
no_flop text (Hold gate latched) d other means clocked e = let both = sym means.6 ∙ e in absurd (cc)

pub not_clocked : PointsAreDeclared → PointsOfSoundTextsHaveOneDriver → (text : List PlainModule) → IsSound text → (number : ℕ) (driver : Driver) (p : Point) →
    IsDriven text number driver → IsOther driver → IsPoint text number p → IsClocked text p → ⊥
not_clocked are one text sound number driver p driven other is clocked =
    let there : Contains (points text) p = (number, slice_get_within (points text) number p is, get_or_from_slice_get (points text) number p p is) in
    let d = one text sound p (are text sound p there) in
    let both : Some driven.of ≡ Some p = sym driven.is ∙ is in
    let same : driven.of ≡ p = cc in
    let drives : Drives text p driven.by = subst (λ (q : Point). Drives text q driven.by) same driven.drives in
    let flop_is : MeantDriver = flop clocked.path clocked.clock clocked.next clocked.bit in
    no_flop text driver driven.by other driven.means (p, clocked) (d.2 driven.by drives ∙ sym (d.2 flop_is clocked.drives))

-- ---- lines of a state

first_bit : (text : List PlainModule) (path : Path) (name : List ℕ) (first : ℕ) → AreBits text path name Scalar first → IsPoint text first (point path name 0)
first_bit text path name first are = let same : first + 0 ≡ first = omega arith in subst (λ (n : ℕ). IsPoint text n (point path name 0)) same (are 0 (omega arith))

pub input_found : (text : List PlainModule) (site : Site) (found : Option ℕ) →
    IsFoundName text [] (pad_port_name site.x site.y site.bel (codes "O_top")) Scalar roles.Input found → IsFoundEntry text (entries.Input site) found
input_found text site None absent = absent
input_found text site (Some first) found = (found.0, first_bit text [] (pad_port_name site.x site.y site.bel (codes "O_top")) first found.1)

pub output_found : (text : List PlainModule) (site : Site) (found : Option ℕ) →
    IsFoundName text [] (pad_port_name site.x site.y site.bel (codes "I_top")) Scalar roles.Output found → IsFoundEntry text (entries.Output site) found
output_found text site None absent = absent
output_found text site (Some first) found = (found.0, first_bit text [] (pad_port_name site.x site.y site.bel (codes "I_top")) first found.1)

pub register_found : (text : List PlainModule) (site : Site) (declared found : Option ℕ) → IsFoundName text (bel_point site flip_flop_name).path flip_flop_name Scalar roles.Reg declared →
    IsFoundFlop text declared found → IsFoundEntry text (entries.Register site) found
register_found text site None None absent is = λ has. absent has.0
register_found text site None (Some number) absent is = absurd is
register_found text site (Some first) None there is =
    λ has. is (bel_point site flip_flop_name) (first_bit text (bel_point site flip_flop_name).path flip_flop_name first there.1) has.1
register_found text site (Some first) (Some number) there is =
    let at = first_bit text (bel_point site flip_flop_name).path flip_flop_name first there.1 in
    ((there.0, is.1 (bel_point site flip_flop_name) at), subst (λ (n : ℕ). IsPoint text n (bel_point site flip_flop_name)) (sym is.0) at)

-- a name that is declared has points
pub found_within : (text : List PlainModule) (path : Path) (name : List ℕ) (role : Role) (first : ℕ) → IsFoundName text path name Scalar role (Some first) → first < length (points text)
found_within text path name role first found = slice_get_within (points text) first (point path name 0) (first_bit text path name first found.1)

pub declared_within : (text : List PlainModule) (path : Path) (name : List ℕ) (role : Role) (o : Option ℕ) → IsFoundName text path name Scalar role o → IfSome o (λ n. n < length (points text))
declared_within text path name role None found = tt
declared_within text path name role (Some first) found = found_within text path name role first found
