-- The points of a sound text are its declared bits, each once.
use Rattle.std.proofs.Common.{◌≡◌, ℕ, ◌+◌, ◌<◌, ◌≤◌, Bool, false, List, [], ◌∷◌, ◌++◌, length, map, slice_get, Contains, Option, Some, None, refl, sym, ap, ◌∙◌, arith}
use Rattle.std.specs.List.{flat_map}
use Rattle.std.proofs.lemmas.Bool.{ltb-true, lt-ltb}
use Rattle.std.proofs.lemmas.List.{length-map}
use Rattle.std.proofs.lemmas.Option.{slice_get_within, slice_get-get_or, get_or_from_slice_get}
use Rattle.fab_bits.proofs.Numbers.{length_first_bits}
use Rattle.fab_syntax.specs.Declarations.{width, width_in}
use Rattle.fab_syntax.specs.declared.tree.Port.{Port}
use Rattle.fab_syntax.specs.Plain.{PlainItem, instance, wire, reg, assign, latch, clocked, PlainModule}
use Rattle.fab_syntax.specs.Sound.{Mention, net, item_mentions, mentions_in, refusals, IsSound}
use Rattle.fab_syntax.proofs.SoundNames.{times_declared, declared_once, each_names_fit}
use Rattle.fab_values.specs.fab_meaning.specs.Points.{Path, Point, point, module_at}
use Rattle.fab_values.specs.fab_meaning.proofs.Modules.{module_at_holds}
use Rattle.fab_values.specs.Declarations.{port_declaration, item_declarations, declarations, found_in, declared_points}
use Rattle.fab_values.specs.declared.names.Local.{Local}
use Rattle.fab_values.proofs.Agreement.{bits_are_names}
use Rattle.fab_values.proofs.Named as named
use Rattle.fab_equations.specs.Instances.{Instance, instance_points, instances, points}
use Rattle.fab_equations.specs.Numbering.{IsInstanceOfNumber, points_before, PointsAreDeclared, DeclaredArePoints, PointsDiffer}
use Rattle.fab_equations.proofs.Counted.{points_length}
use Rattle.fab_equations.proofs.Numbering.{same_value, standing}
use Rattle.fab_equations.proofs.Paths.{paths_are_instances, paths_differ}
use Rattle.fab_equations.proofs.Places.{flat_from, times_named, declared_at_place, names_have_points}

-- ---- a module of a sound text declares each name once

times_skipped : (name : List ℕ) (xs ys : List Mention) → times_declared name ys ≤ times_declared name (xs ++ ys)
times_skipped name [] ys = omega arith
times_skipped name (x ∷ xs) ys = omega (arith, times_skipped name xs ys)

items_named : (name : List ℕ) (items : List PlainItem) → times_named (item_declarations items) name ≤ times_declared name (flat_map item_mentions items)
items_named name [] = omega arith
items_named name (wire shape other ∷ items) = omega (arith, items_named name items)
items_named name (reg shape other ∷ items) = omega (arith, items_named name items)
items_named name (assign target e ∷ items) = omega (arith, items_named name items, times_skipped name (item_mentions (assign target e)) (flat_map item_mentions items))
items_named name (latch target gate e ∷ items) = omega (arith, items_named name items, times_skipped name (item_mentions (latch target gate e)) (flat_map item_mentions items))
items_named name (clocked clock target e ∷ items) = omega (arith, items_named name items, times_skipped name (item_mentions (clocked clock target e)) (flat_map item_mentions items))
items_named name (instance of i joins ∷ items) = omega (arith, items_named name items, times_skipped name (item_mentions (instance of i joins)) (flat_map item_mentions items))

declarations_named : (name : List ℕ) (ports : List Port) (items : List PlainItem) →
    times_named (map port_declaration ports ++ item_declarations items) name
    ≤ times_declared name (map (λ (port : Port). net port.name) ports ++ flat_map item_mentions items)
declarations_named name [] items = items_named name items
declarations_named name (port ∷ ports) items = omega (arith, declarations_named name ports items)

pub named_once : (text : List PlainModule) → IsSound text → (path : Path) (m : PlainModule) → module_at text path ≡ Some m → (name : List ℕ) → times_named (declarations m) name ≤ 1
named_once text sound path m e name =
    let fits : refusals [] (mentions_in m) ≡ [] = module_at_holds (λ m. refusals [] (mentions_in m) ≡ []) text path m (each_names_fit [] text sound.names) e in
    omega (arith, declarations_named name m.ports m.items, declared_once name (mentions_in m) fits)

-- ---- look-up agrees with the width of a name

all_false : Point → Bool
all_false p = false

pub found_width : (m : PlainModule) (name : List ℕ) (local : Local) → found_in (declarations m) name ≡ Some local → width_in (Some m) name ≡ width local.shape
found_width m name local e =
    let bits = map all_false (declared_points [] (declarations m)) in
    sym (length_first_bits (width_in (Some m) name) (λ bit. all_false (point [] name bit)))
    ∙ sym (ap length (bits_are_names (Some m) all_false [] name))
    ∙ named.bits_length (declarations m) bits name local e (length-map (declared_points [] (declarations m)) all_false ∙ points_length [] (declarations m))

pub not_found_width : (m : PlainModule) (name : List ℕ) → found_in (declarations m) name ≡ None → width_in (Some m) name ≡ 0
not_found_width m name e =
    sym (length_first_bits (width_in (Some m) name) (λ bit. all_false (point [] name bit)))
    ∙ sym (ap length (bits_are_names (Some m) all_false [] name))
    ∙ ap length (named.not_named (declarations m) (map all_false (declared_points [] (declarations m))) 0 name e)

-- ---- the number of a point

pub record IsPointAt (text : List PlainModule) (number : ℕ) (p : Point) : Type 0 where
  pub above : ℕ
  pub i : Instance
  pub is : IsInstanceOfNumber text above i
  pub local : Local
  pub found : found_in (declarations i.here) p.name ≡ Some local
  pub less : p.bit < width local.shape
  pub same : i.path ≡ p.path
  pub place : number ≡ points_before text above + (local.first + p.bit)

pub point_at : (text : List PlainModule) → IsSound text → (number : ℕ) (p : Point) → slice_get (points text) number ≡ Some p → IsPointAt text number p
unfolding points
point_at text sound number p e =
    let flat = flat_from instance_points (instances text) number p e in
    let here = (standing text sound flat.i flat.x flat.is).stands.here in
    let at = declared_at_place flat.x.path (declarations flat.x.here) (named_once text sound flat.x.path flat.x.here here) 0 flat.k p flat.there in
    record {
      above = flat.i;
      i = flat.x;
      is = flat.is;
      local = at.local;
      found = at.found;
      less = at.less;
      same = at.same;
      place = omega (arith, flat.place, at.place);
    }

pub points_are_declared : PointsAreDeclared
points_are_declared text sound p there =
    let at = point_at text sound there.0 p (slice_get-get_or (points text) there.0 p there.1 ∙ ap Some there.2) in
    let here : module_at text p.path ≡ Some at.i.here = ap (module_at text) (sym at.same) ∙ (standing text sound at.above at.i at.is).stands.here in
    let wide : width_in (module_at text p.path) p.name ≡ width at.local.shape = ap (λ o. width_in o p.name) here ∙ found_width at.i.here p.name at.local at.found in
    lt-ltb p.bit (width_in (module_at text p.path) p.name) (omega (arith, wide, at.less))

pub points_differ : PointsDiffer
points_differ text sound number other p e f =
    let a = point_at text sound number p e in
    let b = point_at text sound other p f in
    let above : a.above ≡ b.above = paths_differ text sound a.above b.above a.i b.i a.is b.is (a.same ∙ sym b.same) in
    let same : a.i ≡ b.i = same_value (slice_get (instances text) a.above) a.i b.i a.is (ap (slice_get (instances text)) above ∙ b.is) in
    let local : a.local ≡ b.local =
    same_value (found_in (declarations a.i.here) p.name) a.local b.local a.found (ap (λ (x : Instance). found_in (declarations x.here) p.name) same ∙ b.found) in
    a.place ∙ (λ k. points_before text (above k) + ((local k).first + p.bit)) ∙ sym b.place

-- a bit of a name of the module that stands at a path
declared_point : (text : List PlainModule) → IsSound text → (p : Point) (here : Option PlainModule) → module_at text p.path ≡ here → p.bit < width_in here p.name → Contains (points text) p
declared_point text sound p None e l = absurd (omega arith)
declared_point text sound p (Some m) e l = by (found_in (declarations m) p.name) refl
  where
    by : (found : Option Local) → found_in (declarations m) p.name ≡ found → Contains (points text) p
    by None none = absurd (omega (arith, not_found_width m p.name none))
    by (Some local) found =
        let at = paths_are_instances text sound p.path m e in
        let stands : module_at text p.path ≡ Some at.1.here = ap (module_at text) (sym at.3) ∙ (standing text sound at.0 at.1 at.2).stands.here in
        let same : m ≡ at.1.here = same_value (module_at text p.path) m at.1.here e stands in
        let number = points_before text at.0 + (local.first + p.bit) in
        let is : slice_get (points text) number ≡ Some p =
        names_have_points text at.0 at.1 at.2 p.name local (ap (λ (n : PlainModule). found_in (declarations n) p.name) (sym same) ∙ found) p.bit (omega (arith, found_width m p.name local found))
        ∙ ap (λ (path : Path). Some (point path p.name p.bit)) at.3 in
        (number, slice_get_within (points text) number p is, get_or_from_slice_get (points text) number p p is)

pub declared_are_points : DeclaredArePoints
declared_are_points text sound p declared =
    declared_point text sound p (module_at text p.path) refl (ltb-true p.bit (width_in (module_at text p.path) p.name) declared)
