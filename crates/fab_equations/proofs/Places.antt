-- The numbers of points: the bits of names, name by name and instance by instance.
use Rattle.std.proofs.Common.{◌≡◌, ℕ, zero, suc, ◌+◌, ◌-◌, ◌<◌, ◌≤◌, false, List, [], ◌∷◌, ◌++◌, length, take, slice_get, Some, length-append, refl, sym, ap, subst, ◌∙◌, inl, inr, arith}
use Rattle.std.specs.List.{flat_map}
use Rattle.std.specs.Str.{bytes_eq}
use Rattle.std.proofs.lemmas.Bool.{cases_Bool, cases_lt}
use Rattle.std.proofs.lemmas.Option.{slice_get_within}
use Rattle.std.proofs.lemmas.Slice.Eq.{bytes_eq-Decides}
use Rattle.fab_syntax.specs.Declarations.{width, one_if_same}
use Rattle.fab_values.specs.fab_meaning.specs.Points.{Path, Point, point}
use Rattle.fab_values.specs.fab_meaning.proofs.Counted.{counts_one}
use Rattle.fab_values.specs.fab_meaning.proofs.Dependence.{same_name}
use Rattle.fab_values.specs.Declarations.{Declaration, declarations, found_from, bits_from, declared_points}
use Rattle.fab_values.specs.declared.names.Local.{Local}
use Rattle.fab_equations.specs.Instances.{instance_points, instances, points}
use Rattle.fab_equations.specs.Numbering.{NamesHavePoints}
use Rattle.fab_equations.proofs.Counted.{bits_length}
use Rattle.fab_equations.proofs.Numbering.{same_value}
use Rattle.fab_equations.proofs.Standing.{get_left, get_right}

-- ---- lists of lists

flat_at : {X Y : Type 0} (f : X → List Y) (xs : List X) (i k : ℕ) (x : X) (y : Y) → slice_get xs i ≡ Some x → slice_get (f x) k ≡ Some y →
    slice_get (flat_map f xs) (length (flat_map f (take i xs)) + k) ≡ Some y
flat_at f [] i k x y e there = cc
flat_at f (first ∷ xs) zero k x y e there =
    let same : first ≡ x = cc in
    let own : slice_get (f first) k ≡ Some y = ap (λ z. slice_get (f z) k) same ∙ there in
    ap (slice_get (f first ++ flat_map f xs)) (omega arith) ∙ get_left (f first) (flat_map f xs) k (slice_get_within (f first) k y own) ∙ own
flat_at f (first ∷ xs) (suc i) k x y e there =
    get_right (f first) (flat_map f xs) (length (flat_map f (take i xs)) + k) (length (f first ++ flat_map f (take i xs)) + k)
    (omega (arith, length-append (f first) (flat_map f (take i xs))))
    ∙ flat_at f xs i k x y e there

-- the list in which an element stands, and its place there
pub record IsFlat {X Y : Type 0} (f : X → List Y) (xs : List X) (n : ℕ) (y : Y) : Type 0 where
  pub i : ℕ
  pub x : X
  pub is : slice_get xs i ≡ Some x
  pub k : ℕ
  pub there : slice_get (f x) k ≡ Some y
  pub place : n ≡ length (flat_map f (take i xs)) + k

pub flat_from : {X Y : Type 0} (f : X → List Y) (xs : List X) (n : ℕ) (y : Y) → slice_get (flat_map f xs) n ≡ Some y → IsFlat f xs n y
flat_from f [] n y e = cc
flat_from f (first ∷ xs) n y e =
    elim (cases_lt n (length (f first))) [
      | inl here ↦ record { i = 0; x = first; is = refl; k = n; there = sym (get_left (f first) (flat_map f xs) n here) ∙ e; place = omega arith }
      | inr past ↦ (let rest = flat_from f xs (n - length (f first)) y (sym (get_right (f first) (flat_map f xs) (n - length (f first)) n (omega arith)) ∙ e) in
          record {
            i = suc rest.i;
            x = rest.x;
            is = rest.is;
            k = rest.k;
            there = rest.there;
            place = omega (arith, rest.place, length-append (f first) (flat_map f (take rest.i xs)));
          })
    ]

-- ---- the bits of a name

bits_at : (path : Path) (name : List ℕ) (count bit k : ℕ) → k < count → slice_get (bits_from path name count bit) k ≡ Some (point path name (bit + k))
bits_at path name zero bit k l = absurd (omega arith)
bits_at path name (suc count) bit zero l = ap (λ n. Some (point path name n)) (omega arith)
bits_at path name (suc count) bit (suc k) l = bits_at path name count (suc bit) k (omega arith) ∙ ap (λ n. Some (point path name n)) (omega arith)

first_bits_at : (path : Path) (name : List ℕ) (count k : ℕ) → k < count → slice_get (bits_from path name count 0) k ≡ Some (point path name k)
first_bits_at path name count k l = bits_at path name count 0 k l ∙ ap (λ n. Some (point path name n)) (omega arith)

-- where the bits of a name begin among the points of declarations
record IsPlaced (path : Path) (ds : List Declaration) (first : ℕ) (name : List ℕ) (local : Local) : Type 0 where
  place : ℕ
  starts : local.first ≡ first + place
  are : (bit n : ℕ) → bit < width local.shape → n ≡ place + bit → slice_get (declared_points path ds) n ≡ Some (point path name bit)

placed : (path : Path) (ds : List Declaration) (first : ℕ) (name : List ℕ) (local : Local) → found_from first ds name ≡ Some local → IsPlaced path ds first name local
placed path [] first name local e = cc
placed path (d ∷ ds) first name local e =
    let own = bits_from path d.name (width d.shape) 0 in
    elim (cases_Bool (bytes_eq name d.name)) [
      | inl t ↦ (let here : Local = record { first = first; shape = d.shape; role = d.role } in
          let found : found_from first (d ∷ ds) name ≡ Some here = rw t refl in
          let same : here ≡ local = same_value (found_from first (d ∷ ds) name) here local found e in
          let named : d.name ≡ name = sym ((bytes_eq-Decides name d.name).0 t) in
          let wide : width d.shape ≡ width local.shape = ap (λ (l : Local). width l.shape) same in
          record {
            place = 0;
            starts = omega (arith, ap (λ (l : Local). l.first) same);
            are = λ bit n l is.
                ap (slice_get (own ++ declared_points path ds)) (omega (arith, is))
                ∙ get_left own (declared_points path ds) bit (omega (arith, bits_length path d.name (width d.shape) 0, wide))
                ∙ first_bits_at path d.name (width d.shape) bit (omega (arith, wide))
                ∙ ap (λ m. Some (point path m bit)) named;
          })
      | inr f ↦ (let passed : found_from first (d ∷ ds) name ≡ found_from (first + width d.shape) ds name = rw f refl in
          let rest = placed path ds (first + width d.shape) name local (sym passed ∙ e) in
          record {
            place = width d.shape + rest.place;
            starts = omega (arith, rest.starts);
            are = λ bit n l is.
                get_right own (declared_points path ds) (rest.place + bit) n (omega (arith, is, bits_length path d.name (width d.shape) 0))
                ∙ rest.are bit (rest.place + bit) l refl;
          })
    ]

pub names_have_points : NamesHavePoints
unfolding points
names_have_points text number i is name local found bit l =
    let p = placed i.path (declarations i.here) 0 name local found in
    flat_at instance_points (instances text) number (local.first + bit) i (point i.path name bit) is (p.are bit (local.first + bit) l (omega (arith, p.starts)))

-- ---- each point is a bit of a name

-- how often a name is declared
abbrev pub times_named : List Declaration → (name : List ℕ) → ℕ
times_named [] name = 0
times_named (d ∷ ds) name = one_if_same d.name name + times_named ds name

found_counts : (first : ℕ) (ds : List Declaration) (name : List ℕ) (local : Local) → found_from first ds name ≡ Some local → 1 ≤ times_named ds name
found_counts first [] name local e = cc
found_counts first (d ∷ ds) name local e =
    elim (cases_Bool (bytes_eq name d.name)) [
      | inl t ↦ (let here : one_if_same d.name name ≡ 1 = counts_one d.name name (sym ((bytes_eq-Decides name d.name).0 t)) in omega (arith, here))
      | inr f ↦ (let passed : found_from first (d ∷ ds) name ≡ found_from (first + width d.shape) ds name = rw f refl in
          omega (arith, found_counts (first + width d.shape) ds name local (sym passed ∙ e)))
    ]

pub record IsDeclaredAt (path : Path) (ds : List Declaration) (first k : ℕ) (p : Point) : Type 0 where
  pub local : Local
  pub found : found_from first ds p.name ≡ Some local
  pub less : p.bit < width local.shape
  pub same : path ≡ p.path
  pub place : first + k ≡ local.first + p.bit

-- where each name is declared once, each point is a bit of a name that look-up finds
pub declared_at_place : (path : Path) (ds : List Declaration) → ((name : List ℕ) → times_named ds name ≤ 1) → (first k : ℕ) (p : Point) →
    slice_get (declared_points path ds) k ≡ Some p → IsDeclaredAt path ds first k p
declared_at_place path [] once first k p e = cc
declared_at_place path (d ∷ ds) once first k p e =
    let own = bits_from path d.name (width d.shape) 0 in
    let long = bits_length path d.name (width d.shape) 0 in
    elim (cases_lt k (width d.shape)) [
      | inl l ↦ (let same : point path d.name k ≡ p = same_value (slice_get (own ++ declared_points path ds) k) (point path d.name k) p
          (get_left own (declared_points path ds) k (omega (arith, long)) ∙ first_bits_at path d.name (width d.shape) k l) e in
          subst (IsDeclaredAt path (d ∷ ds) first k) same (record {
            local = record { first = first; shape = d.shape; role = d.role };
            found = rw (same_name d.name) refl;
            less = l;
            same = refl;
            place = refl;
          }))
      | inr past ↦ (let rest = declared_at_place path ds (λ name. omega (arith, once name)) (first + width d.shape) (k - width d.shape) p
          (sym (get_right own (declared_points path ds) (k - width d.shape) k (omega (arith, long))) ∙ e) in
          let other : bytes_eq p.name d.name ≡ false = elim (cases_Bool (bytes_eq p.name d.name)) [
            | inl t ↦ (let here : one_if_same d.name p.name ≡ 1 = counts_one d.name p.name (sym ((bytes_eq-Decides p.name d.name).0 t)) in
                absurd (omega (arith, here, once p.name, found_counts (first + width d.shape) ds p.name rest.local rest.found)))
            | inr f ↦ f
          ] in
          record {
            local = rest.local;
            found = rw other rest.found;
            less = rest.less;
            same = rest.same;
            place = omega (arith, rest.place);
          })
    ]
