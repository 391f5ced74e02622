-- One more item of a module that is no instance, and a module that is gone through.
use Rattle.std.proofs.Common.{◌≡◌, ℕ, ◌+◌, List, [], ◌∷◌, ◌++◌, length, map, slice_get, Some, refl, sym, ap, subst, ◌∙◌, arith}
use Rattle.std.proofs.lemmas.List.{append-nil, append_assoc}
use Rattle.fab_syntax.specs.Plain.{PlainExpr, PlainItem, assign, latch, clocked}
use Rattle.fab_syntax.specs.Declarations.{one_if_same, times_driven, times_driven_by}
use Rattle.fab_values.specs.Declarations.{declarations, number_of}
use Rattle.fab_equations.specs.Instances.{expressions, in_64_bits}
use Rattle.fab_equations.specs.Children.{Child, children, modules_before, instances_of_children}
use Rattle.fab_equations.specs.inner.Building.{put_at, Spot, AreDriven, IsDrivenSoFar, IsItem, IsInside}
use Rattle.fab_equations.specs.declared.tables.LocalDriver.{LocalDriver}
use Rattle.fab_equations.specs.declared.tables.LocalDriver.TheVariants.{Value, Flop, Hold}
use Rattle.fab_equations.specs.declared.driving.Inside.{Inside}
use Rattle.fab_equations.proofs.ListPlaces.{at_place, stands_in}
use Rattle.fab_equations.proofs.DrivenNames.{driven_same, driven_step, driven_append}
use Rattle.fab_equations.proofs.SoundModules.{once_here}
use Rattle.fab_equations.proofs.ChildSteps.{children-append}

item_step : (spot : Spot) (so_far : List PlainItem) (item : PlainItem) (inside new : Inside) → children (item ∷ []) ≡ [] →
    new.child_names.keys ≡ inside.child_names.keys → new.next_offset ≡ inside.next_offset → new.children.items ≡ inside.children.items →
    AreDriven spot (λ name. times_driven spot.text so_far name + times_driven_by spot.text item name) new.drivers.items →
    IsInside spot so_far inside → IsInside spot (so_far ++ item ∷ []) new
item_step spot so_far item inside new none names next same are old =
    let own : children (so_far ++ item ∷ []) ≡ children so_far = children-append so_far (item ∷ []) ∙ ap (λ cs. children so_far ++ cs) none ∙ append-nil (children so_far) in
    record {
      drivers = driven_same spot _ (times_driven spot.text (so_far ++ item ∷ [])) new.drivers.items (λ name. sym (driven_append spot.text so_far item name)) are;
      child_names = ap (map (λ key. key.items)) names ∙ old.child_names ∙ ap (map (λ (child : Child). child.name)) (sym own);
      offset = next ∙ old.offset ∙ ap (λ cs. in_64_bits (1 + instances_of_children (modules_before spot.text spot.number) cs)) (sym own);
      children_count = ap length same ∙ old.children_count ∙ ap length (sym own);
      children_fit = λ number child at. old.children_fit number child (ap (λ xs. slice_get xs number) (sym same) ∙ at);
    }

-- ---- items that drive nothing

pub wire_step : (spot : Spot) (so_far : List PlainItem) (item : PlainItem) (inside : Inside) → children (item ∷ []) ≡ [] →
    ((name : List ℕ) → times_driven_by spot.text item name ≡ 0) → IsInside spot so_far inside → IsInside spot (so_far ++ item ∷ []) inside
wire_step spot so_far item inside none idle old =
    item_step spot so_far item inside inside none refl refl refl
    (driven_same spot (times_driven spot.text so_far) _ inside.drivers.items (λ name. omega (arith, idle name)) old.drivers) old

-- ---- items that drive a name

drive_step : (spot : Spot) (so_far : List PlainItem) (item : PlainItem) (inside new : Inside) (target : List ℕ) (driver : LocalDriver) → children (item ∷ []) ≡ [] →
    ((name : List ℕ) → one_if_same target name ≡ times_driven_by spot.text item name) → ((n : ℕ) → IsDrivenSoFar spot n target driver) →
    new.child_names.keys ≡ inside.child_names.keys → new.next_offset ≡ inside.next_offset → new.children.items ≡ inside.children.items →
    new.drivers.items ≡ put_at inside.drivers.items (number_of (declarations spot.here) target) driver → IsInside spot so_far inside → IsInside spot (so_far ++ item ∷ []) new
drive_step spot so_far item inside new target driver none times drives names next same put old =
    item_step spot so_far item inside new none names next same
    (subst (AreDriven spot (λ name. times_driven spot.text so_far name + times_driven_by spot.text item name)) (sym put)
    (driven_same spot _ _ (put_at inside.drivers.items (number_of (declarations spot.here) target) driver) (λ name. ap (λ n. times_driven spot.text so_far name + n) (times name))
    (driven_step spot (times_driven spot.text so_far) inside.drivers.items target driver (once_here spot) drives old.drivers))) old

pub assign_step : (spot : Spot) (so_far : List PlainItem) (target : List ℕ) (e : PlainExpr) (es : List PlainExpr) (inside new : Inside) (number : ℕ) →
    IsItem spot so_far (assign target e) es → number ≡ length es →
    new.child_names.keys ≡ inside.child_names.keys → new.next_offset ≡ inside.next_offset → new.children.items ≡ inside.children.items →
    new.drivers.items ≡ put_at inside.drivers.items (number_of (declarations spot.here) target) (Value number) → IsInside spot so_far inside → IsInside spot (so_far ++ assign target e ∷ []) new
assign_step spot so_far target e es inside new number item place names next same put old =
    drive_step spot so_far (assign target e) inside new target (Value number) refl (λ name. refl)
    (λ n. (e, at_place es e item.more (expressions spot.text) number item.all place, stands_in so_far (assign target e) item.rest spot.here.items item.parts)) names next same put old

pub latch_step : (spot : Spot) (so_far : List PlainItem) (target : List ℕ) (g e : PlainExpr) (es : List PlainExpr) (inside new : Inside) (gate number : ℕ) →
    IsItem spot so_far (latch target g e) es → gate ≡ length es → number ≡ length (es ++ g ∷ []) →
    new.child_names.keys ≡ inside.child_names.keys → new.next_offset ≡ inside.next_offset → new.children.items ≡ inside.children.items →
    new.drivers.items ≡ put_at inside.drivers.items (number_of (declarations spot.here) target) (Hold gate number) → IsInside spot so_far inside →
    IsInside spot (so_far ++ latch target g e ∷ []) new
latch_step spot so_far target g e es inside new gate number item first second names next same put old =
    drive_step spot so_far (latch target g e) inside new target (Hold gate number) refl (λ name. refl)
    (λ n. (
      g,
      e,
      at_place es g (e ∷ item.more) (expressions spot.text) gate item.all first,
      at_place (es ++ g ∷ []) e item.more (expressions spot.text) number (append_assoc es (g ∷ []) (e ∷ item.more) ∙ item.all) second,
      stands_in so_far (latch target g e) item.rest spot.here.items item.parts,
    )) names next same put old

pub clocked_step : (spot : Spot) (so_far : List PlainItem) (c target : List ℕ) (e : PlainExpr) (es : List PlainExpr) (inside new : Inside) (clock number : ℕ) →
    IsItem spot so_far (clocked c target e) es → number_of (declarations spot.here) c ≡ Some clock → number ≡ length es →
    new.child_names.keys ≡ inside.child_names.keys → new.next_offset ≡ inside.next_offset → new.children.items ≡ inside.children.items →
    new.drivers.items ≡ put_at inside.drivers.items (number_of (declarations spot.here) target) (Flop clock number) → IsInside spot so_far inside →
    IsInside spot (so_far ++ clocked c target e ∷ []) new
clocked_step spot so_far c target e es inside new clock number item declared place names next same put old =
    drive_step spot so_far (clocked c target e) inside new target (Flop clock number) refl (λ name. refl)
    (λ n. (c, e, declared, at_place es e item.more (expressions spot.text) number item.all place, stands_in so_far (clocked c target e) item.rest spot.here.items item.parts)) names next same put old
