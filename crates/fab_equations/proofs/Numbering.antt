-- The numbers of instances: where each stands, and the instances in it.
use Rattle.std.proofs.Common.{◌≡◌, ℕ, zero, suc, ◌+◌, ◌<◌, List, [], ◌∷◌, length, slice_get, Option, Some, refl, sym, ap, subst, ◌∙◌, inl, inr, arith}
use Rattle.std.proofs.lemmas.Option.{slice_get_within}
use Rattle.fab_syntax.specs.Declarations.{module_named}
use Rattle.fab_syntax.specs.Plain.{PlainModule}
use Rattle.fab_syntax.specs.Sound.{IsSound}
use Rattle.fab_values.specs.fab_meaning.specs.Points.{Path}
use Rattle.fab_equations.specs.Children.{Child, children, modules_before, offset_of}
use Rattle.fab_equations.specs.Instances.{Instance, instances}
use Rattle.fab_equations.specs.Numbering.{IsInstanceOfNumber, InstancesStand, ChildrenFollow, InstancesAreChildren, offset_in}
use Rattle.fab_equations.proofs.Standing.{Stands, the_instance, is_numbered, is_module, modules_are, child_stands, each_reached}

pub same_value : {X : Type 0} (o : Option X) (x y : X) → o ≡ Some x → o ≡ Some y → x ≡ y
same_value o x y e f = cc

pub some_there : {X : Type 0} (xs : List X) (k : ℕ) → k < length xs → (x : X) × (slice_get xs k ≡ Some x)
some_there [] k l = absurd (omega arith)
some_there (x ∷ xs) zero l = (x, refl)
some_there (x ∷ xs) (suc k) l = some_there xs k (omega arith)

-- where the instance of a number stands
pub record Standing (text : List PlainModule) (number : ℕ) (i : Instance) : Type 0 where
  pub before : List PlainModule
  pub stands : Stands text number before i.here i.path
  pub last : length before ≡ i.number

pub standing : (text : List PlainModule) → IsSound text → (number : ℕ) (i : Instance) → IsInstanceOfNumber text number i → Standing text number i
standing text sound number i e =
    let r = each_reached text sound number (slice_get_within (instances text) number i e) in
    let same : the_instance r.before r.m r.path ≡ i = same_value (slice_get (instances text) number) (the_instance r.before r.m r.path) i (is_numbered text number r.before r.m r.path r.stands) e in
    subst (Standing text number) same (record { before = r.before; stands = r.stands; last = refl })

pub instances_stand : InstancesStand
instances_stand text sound number i e =
    let s = standing text sound number i e in
    (s.stands.here, ap (slice_get text) (sym s.last) ∙ is_module text number s.before i.here i.path s.stands)

pub modules_before_it : (text : List PlainModule) (number : ℕ) (i : Instance) (s : Standing text number i) → modules_before text i.number ≡ s.before
modules_before_it text number i s = ap (modules_before text) (sym s.last) ∙ modules_are text number s.before i.here i.path s.stands

-- the child of a number stands at its offset
pub child_follows : (text : List PlainModule) → IsSound text → (number : ℕ) (i : Instance) → IsInstanceOfNumber text number i → (place : ℕ) (child : Child) →
    slice_get (children i.here.items) place ≡ Some child →
    (below : Instance) × IsInstanceOfNumber text (number + offset_in text i place) below × (below.path ≡ child.name ∷ i.path) × (module_named text child.module_name ≡ Some below.here)
child_follows text sound number i e place child is =
    let s = standing text sound number i e in
    let b = child_stands text number s.before i.here i.path s.stands place child sound is in
    let there = is_numbered text (number + offset_of s.before (children i.here.items) place) b.behind b.below (child.name ∷ i.path) b.stands in (
      the_instance b.behind b.below (child.name ∷ i.path),
      subst (λ (ms : List PlainModule). slice_get (instances text) (number + offset_of ms (children i.here.items) place) ≡ Some (the_instance b.behind b.below (child.name ∷ i.path)))
          (sym (modules_before_it text number i s)) there,
      refl,
      b.named,
    )

pub children_follow : ChildrenFollow
children_follow text sound number i e place l =
    let all = children i.here.items in
    let child : (x : Child) × (slice_get all place ≡ Some x) = some_there all place l in
    let f = child_follows text sound number i e place child.0 child.1 in
    (f.0, f.1, record { child = child.0; is = child.1; path = f.2; of = f.3 })

-- an instance that is the child of one of a number
pub record IsChildAt (text : List PlainModule) (number : ℕ) (path : Path) : Type 0 where
  pub above : ℕ
  pub i : Instance
  pub is : IsInstanceOfNumber text above i
  pub place : ℕ
  pub child : Child
  pub child_is : slice_get (children i.here.items) place ≡ Some child
  pub offset : number ≡ above + offset_in text i place
  pub named : path ≡ child.name ∷ i.path

-- an instance behind the top is such a child
pub child_at : (text : List PlainModule) → IsSound text → (number : ℕ) (i : Instance) → IsInstanceOfNumber text number i → 0 < number → IsChildAt text number i.path
child_at text sound number i e behind =
    let r = each_reached text sound number (slice_get_within (instances text) number i e) in
    let same : the_instance r.before r.m r.path ≡ i = same_value (slice_get (instances text) number) (the_instance r.before r.m r.path) i (is_numbered text number r.before r.m r.path r.stands) e in
    elim r.from [
      | inl none ↦ absurd (omega (arith, none, behind))
      | inr b ↦ record {
        above = b.above;
        i = the_instance b.before b.m b.route;
        is = is_numbered text b.above b.before b.m b.route b.stands;
        place = b.place;
        child = b.child;
        child_is = b.is;
        offset = b.offset ∙ ap (λ ms. b.above + offset_of ms (children b.m.items) b.place) (sym (modules_are text b.above b.before b.m b.route b.stands));
        named = sym (ap (λ (x : Instance). x.path) same) ∙ b.named;
      }
    ]

pub instances_are_children : InstancesAreChildren
instances_are_children text sound number behind l =
    let i = some_there (instances text) number l in
    let at = child_at text sound number i.0 i.1 behind in
    (at.above, at.i, at.is, at.place, slice_get_within (children at.i.here.items) at.place at.child at.child_is, at.offset)
