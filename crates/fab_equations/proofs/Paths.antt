-- Instances by their paths: one at each path at which a module stands.
use Rattle.std.proofs.Common.{◌≡◌, ℕ, zero, suc, ◌+◌, ◌<◌, ◌≤◌, List, [], ◌∷◌, length, reverse, slice_get, Option, Some, None, refl, sym, ap, subst, ◌∙◌, inl, inr, arith}
use Rattle.std.specs.Str.{bytes_eq}
use Rattle.std.proofs.lemmas.Bool.{cases_Bool, cases_lt}
use Rattle.std.proofs.lemmas.List.{reverse-reverse}
use Rattle.std.proofs.lemmas.Option.{slice_get_within}
use Rattle.std.proofs.lemmas.Slice.Eq.{bytes_eq-Decides}
use Rattle.fab_syntax.specs.Declarations.{module_named, times_instance}
use Rattle.fab_syntax.specs.Plain.{PlainItem, instance, PlainModule}
use Rattle.fab_syntax.specs.Sound.{IsSound}
use Rattle.fab_values.specs.fab_meaning.specs.Points.{Path, Found, last_of, instance_named, instance_in, module_of, module_at}
use Rattle.fab_values.specs.fab_meaning.specs.Sound.{DrivesOnce}
use Rattle.fab_values.specs.fab_meaning.proofs.Counted.{counts_one}
use Rattle.fab_values.specs.fab_meaning.proofs.Modules.{module_at_holds}
use Rattle.fab_values.specs.fab_meaning.proofs.SoundTexts.{sound_drives_once}
use Rattle.fab_equations.specs.Children.{Child, children}
use Rattle.fab_equations.specs.Instances.{Instance, instances_of_last, instances}
use Rattle.fab_equations.specs.Numbering.{IsInstanceOfNumber, PathsAreInstances, PathsDiffer, offset_in}
use Rattle.fab_equations.proofs.Standing.{Stands, the_instance, is_numbered, top_stands, child_stands}
use Rattle.fab_equations.proofs.Numbering.{same_value, standing, child_at}

-- ---- at each path

record StandsAt (text : List PlainModule) (path : Path) (m : PlainModule) : Type 0 where
  number : ℕ
  before : List PlainModule
  stands : Stands text number before m path

-- a child that an item's name finds
pub record NamedChild (items : List PlainItem) (name : List ℕ) (module_name : List ℕ) : Type 0 where
  pub number : ℕ
  pub child : Child
  pub is : slice_get (children items) number ≡ Some child
  pub named : child.name ≡ name
  pub of : child.module_name ≡ module_name

pub named_child : (items : List PlainItem) (name : List ℕ) (found : Found) → instance_named items name ≡ Some found → NamedChild items name found.module_name
named_child [] name found e = cc
named_child (instance of other joins ∷ items) name found e =
    elim (cases_Bool (bytes_eq other name)) [
      | inl t ↦ (let here : instance_named (instance of other joins ∷ items) name ≡ Some (record { module_name = of; joins = joins }) = rw t refl in
          let same : of ≡ found.module_name = ap (λ (f : Found). f.module_name) (same_value (instance_named (instance of other joins ∷ items) name) (record { module_name = of; joins = joins }) found here e) in
          record { number = 0; child = record { module_name = of; name = other; joins = joins }; is = refl; named = (bytes_eq-Decides other name).0 t; of = same })
      | inr f ↦ (let passed : instance_named (instance of other joins ∷ items) name ≡ instance_named items name = rw f refl in
          let rest = named_child items name found (sym passed ∙ e) in
          record { number = suc rest.number; child = rest.child; is = rest.is; named = rest.named; of = rest.of })
    ]
named_child (_ ∷ items) name found e =
    let rest = named_child items name found e in
    record { number = rest.number; child = rest.child; is = rest.is; named = rest.named; of = rest.of }

top_at : (text : List PlainModule) (m : PlainModule) → last_of text ≡ Some m → StandsAt text [] m
top_at text m e = by (reverse text) refl
  where
    by : (behind : List PlainModule) → reverse text ≡ behind → StandsAt text [] m
    by [] none =
        let empty : text ≡ [] = sym (reverse-reverse text) ∙ ap reverse none in
        let nothing : last_of text ≡ None = ap last_of empty in
        cc
    by (top ∷ before) is =
        let stands = top_stands text before top is in
        let same : top ≡ m = same_value (last_of text) top m stands.here e in
        subst (StandsAt text []) same (record { number = 0; before = before; stands = stands })

below_at : (text : List PlainModule) → IsSound text → (path : Path) (name : List ℕ) → ((m : PlainModule) → module_at text path ≡ Some m → StandsAt text path m) →
    (above : Option PlainModule) → module_at text path ≡ above → (found : Option Found) → instance_in above name ≡ found →
    (m : PlainModule) → module_of text found ≡ Some m → StandsAt text (name ∷ path) m
below_at text sound path name at None e found has m is = (let none : found ≡ None = sym has in let nothing : module_of text found ≡ None = ap (module_of text) none in cc)
below_at text sound path name at (Some above) e None has m is = cc
below_at text sound path name at (Some above) e (Some found) has m is =
    let up = at above e in
    let child = named_child above.items name found has in
    let b = child_stands text up.number up.before above path up.stands child.number child.child sound child.is in
    let same : b.below ≡ m = same_value (module_named text child.child.module_name) b.below m b.named (ap (module_named text) child.of ∙ is) in
    subst (λ (n : List ℕ). StandsAt text (n ∷ path) m) child.named
    (subst (StandsAt text (child.child.name ∷ path)) same (record { number = _; before = b.behind; stands = b.stands }))

stands_at : (text : List PlainModule) → IsSound text → (path : Path) (m : PlainModule) → module_at text path ≡ Some m → StandsAt text path m
stands_at text sound [] m e = top_at text m e
stands_at text sound (name ∷ path) m e =
    below_at text sound path name (stands_at text sound path) (module_at text path) refl (instance_in (module_at text path) name) refl m e

pub paths_are_instances : PathsAreInstances
paths_are_instances text sound path m e =
    let s = stands_at text sound path m e in
    (s.number, the_instance s.before m path, is_numbered text s.number s.before m path s.stands, refl)

-- ---- and just one

pub top_path : (text : List PlainModule) (i : Instance) → IsInstanceOfNumber text 0 i → i.path ≡ []
unfolding instances
top_path text i e = by (reverse text) refl
  where
    by : (behind : List PlainModule) → reverse text ≡ behind → i.path ≡ []
    by [] none = absurd (omega (arith, ap (λ ms. length (instances_of_last ms)) none, slice_get_within (instances text) 0 i e))
    by (m ∷ before) is =
        let top = is_numbered text 0 before m [] (top_stands text before m is) in
        ap (λ (x : Instance). x.path) (same_value (slice_get (instances text) 0) i (the_instance before m []) e top)

child_counts : (items : List PlainItem) (place : ℕ) (child : Child) (name : List ℕ) → slice_get (children items) place ≡ Some child → child.name ≡ name → 1 ≤ times_instance items name
child_counts [] place child name e same = cc
child_counts (instance of other joins ∷ items) zero child name e same =
    let first : Child = record { module_name = of; name = other; joins = joins } in
    let is : first ≡ child = same_value (slice_get (children (instance of other joins ∷ items)) zero) first child refl e in
    omega (arith, counts_one other name (ap (λ (x : Child). x.name) is ∙ same))
child_counts (instance of other joins ∷ items) (suc place) child name e same = omega (arith, child_counts items place child name e same)
child_counts (_ ∷ items) place child name e same = child_counts items place child name e same

-- where instances have names of their own, a name is that of one child
child_once : (items : List PlainItem) (name : List ℕ) → times_instance items name ≤ 1 → (place other : ℕ) (x y : Child) →
    slice_get (children items) place ≡ Some x → slice_get (children items) other ≡ Some y → x.name ≡ name → y.name ≡ name → place ≡ other
child_once [] name once place other x y e f same also = cc
child_once (instance of first joins ∷ items) name once zero zero x y e f same also = refl
child_once (instance of first joins ∷ items) name once zero (suc other) x y e f same also =
    let here : Child = record { module_name = of; name = first; joins = joins } in
    let is : here ≡ x = same_value (slice_get (children (instance of first joins ∷ items)) zero) here x refl e in
    absurd (omega (arith, counts_one first name (ap (λ (z : Child). z.name) is ∙ same), child_counts items other y name f also))
child_once (instance of first joins ∷ items) name once (suc place) zero x y e f same also =
    let here : Child = record { module_name = of; name = first; joins = joins } in
    let is : here ≡ y = same_value (slice_get (children (instance of first joins ∷ items)) zero) here y refl f in
    absurd (omega (arith, counts_one first name (ap (λ (z : Child). z.name) is ∙ also), child_counts items place x name e same))
child_once (instance of first joins ∷ items) name once (suc place) (suc other) x y e f same also =
    ap suc (child_once items name (omega (arith, once)) place other x y e f same also)
child_once (_ ∷ items) name once place other x y e f same also = child_once items name once place other x y e f same also

module _ (text : List PlainModule) (sound : IsSound text) where
  one_number : (path : Path) (number other : ℕ) (i j : Instance) → IsInstanceOfNumber text number i → IsInstanceOfNumber text other j → i.path ≡ path → j.path ≡ path → number ≡ other
  one_number [] number other i j e f ip jp =
      let first : number ≤ 0 = is_top number i e ip in
      let second : other ≤ 0 = is_top other j f jp in
      omega arith
    where
      is_top : (n : ℕ) (x : Instance) → IsInstanceOfNumber text n x → x.path ≡ [] → n ≤ 0
      is_top n x is none =
          elim (cases_lt 0 n) [
            | inl behind ↦ (let at = child_at text sound n x is behind in
                let long : at.child.name ∷ at.i.path ≡ [] = sym at.named ∙ none in
                cc)
            | inr top ↦ top
          ]
  one_number (name ∷ path) number other i j e f ip jp =
      let a = child_at text sound number i e (is_behind number i e ip) in
      let b = child_at text sound other j f (is_behind other j f jp) in
      let first : a.child.name ∷ a.i.path ≡ name ∷ path = sym a.named ∙ ip in
      let second : b.child.name ∷ b.i.path ≡ name ∷ path = sym b.named ∙ jp in
      let above : a.above ≡ b.above = one_number path a.above b.above a.i b.i a.is b.is (cc) (cc) in
      let same : a.i ≡ b.i = same_value (slice_get (instances text) a.above) a.i b.i a.is (ap (slice_get (instances text)) above ∙ b.is) in
      let once : times_instance a.i.here.items name ≤ 1 =
      (module_at_holds (DrivesOnce text) text a.i.path a.i.here (sound_drives_once text sound) (standing text sound a.above a.i a.is).stands.here).instances name in
      let there : slice_get (children a.i.here.items) b.place ≡ Some b.child = ap (λ (x : Instance). slice_get (children x.here.items) b.place) same ∙ b.child_is in
      let place : a.place ≡ b.place = child_once a.i.here.items name once a.place b.place a.child b.child a.child_is there (cc) (cc) in
      a.offset ∙ (λ k. above k + offset_in text (same k) (place k)) ∙ sym b.offset
    where
      is_behind : (n : ℕ) (x : Instance) → IsInstanceOfNumber text n x → x.path ≡ name ∷ path → 0 < n
      is_behind n x is long =
          elim (cases_lt 0 n) [
            | inl behind ↦ behind
            | inr top ↦ (let zeroth : IsInstanceOfNumber text 0 x = subst (λ k. IsInstanceOfNumber text k x) (omega (arith, top)) is in
                let short : name ∷ path ≡ [] = sym long ∙ top_path text x zeroth in
                cc)
          ]

pub paths_differ : PathsDiffer
paths_differ text sound number other i j e f same = one_number text sound j.path number other i j e f same refl
