-- Where a point is: its instance, the declaration there, and the bit of it.
use Rattle.std.proofs.Common.{◌≡◌, ℕ, zero, suc, ◌+◌, ◌-◌, ◌<◌, ◌≤◌, true, false, leb, leb-true, List, [], ◌∷◌, length, take, slice_get, get_or, Some, length-append, refl, sym, ap, subst, ◌∙◌, inl, inr, arith}
use Rattle.std.specs.List.{flat_map}
use Rattle.std.specs.List.Sorted.{IsPartitionPoint, IsNonDecreasingBy}
use Rattle.std.specs.Str.{bytes_eq}
use Rattle.std.proofs.lemmas.Bool.{cases_Bool, cases_lt, false≢true}
use Rattle.std.proofs.lemmas.Option.{slice_get_within, slice_get-get_or, slice_get_read, get_or_from_slice_get}
use Rattle.std.specs.Borrow.{Bor}
use Rattle.std.proofs.lemmas.Slice.Eq.{bytes_eq-Decides}
use Rattle.fab_syntax.specs.Declarations.{one_if_same, width}
use Rattle.fab_syntax.specs.Plain.{PlainModule}
use Rattle.fab_values.specs.fab_meaning.specs.Points.{point}
use Rattle.fab_values.specs.fab_meaning.proofs.Counted.{counts_one}
use Rattle.fab_values.specs.fab_meaning.proofs.Dependence.{same_name}
use Rattle.fab_values.specs.Declarations.{Declaration, declarations, bits_of, found_from, found_in}
use Rattle.fab_values.specs.declared.names.Local.{Local}
use Rattle.fab_syntax.specs.declared.tree.Expr.{Expr}
use Rattle.fab_equations.specs.Instances.{Instance, instance_points, instances, points, most_points}
use Rattle.fab_equations.specs.Children.{modules_before}
use Rattle.fab_equations.specs.Numbering.{IsInstanceOfNumber, points_before}
use Rattle.fab_equations.specs.Tables.{firsts_from, firsts_of, IsTable}
use Rattle.fab_equations.specs.inner.Placed.{IsPlaced, ArePlaced, Keeps}
use Rattle.fab_equations.specs.Lookups.{IsHere, IsBit, IsLastAtMost, IsPointOf}
use Rattle.fab_equations.specs.declared.lookups.Here.{Here}
use Rattle.fab_equations.specs.declared.tables.Table.{Table}
use Rattle.fab_equations.specs.declared.placed.PlacedInstance.{PlacedInstance}
use Rattle.fab_equations.proofs.Counted.{points_length}
use Rattle.fab_equations.proofs.Numbering.{same_value, some_there, instances_stand}
use Rattle.fab_equations.proofs.Places.{times_named, names_have_points}
use Rattle.fab_equations.proofs.Points.{named_once}

-- ---- the last that begins at a place or before it

some_last : {X : Type 0} (begins : X → ℕ) (xs : List X) (place k : ℕ) → k ≤ length xs →
    IsPartitionPoint (λ x. leb (begins x) place ≡ true) (λ x. leb (begins x) place ≡ false) xs k →
    (first : X) → slice_get xs 0 ≡ Some first → begins first ≤ place → 1 ≤ k
some_last begins xs place zero within point first is l =
    let after : leb (begins (get_or xs 0 first)) place ≡ false = point.1 0 first (omega arith) (slice_get_within xs 0 first is) in
    let past : leb (begins first) place ≡ false = subst (λ x. leb (begins x) place ≡ false) (get_or_from_slice_get xs 0 first first is) after in
    let not : leb (begins first) place ≡ true = grind (arith, l) in
    absurd (false≢true (sym past ∙ not))
some_last begins xs place (suc k) within point first is l = omega arith

pub last_found : {X : Type 0} (begins : X → ℕ) (xs : List X) (place k : ℕ) → k ≤ length xs →
    IsPartitionPoint (λ x. leb (begins x) place ≡ true) (λ x. leb (begins x) place ≡ false) xs k →
    (first : X) → slice_get xs 0 ≡ Some first → begins first ≤ place → (1 ≤ k) × IsLastAtMost begins xs place (k - 1)
last_found begins xs place k within point first is l =
    let some : 1 ≤ k = some_last begins xs place k within point first is l in
    let less : k - 1 < length xs = omega arith in
    let here = get_or xs (k - 1) first in
    let before : leb (begins here) place ≡ true = point.0 (k - 1) first (omega arith) (omega arith) in (
      some,
      record {
        x = here;
        is = slice_get-get_or xs (k - 1) first less;
        at_most = leb-true (begins here) place before;
        last = λ later next after there.
            let past : leb (begins (get_or xs later next)) place ≡ false = point.1 later next (omega arith) (slice_get_within xs later next there) in
            let is_past : leb (begins next) place ≡ false = subst (λ x. leb (begins x) place ≡ false) (get_or_from_slice_get xs later next next there) past in
            grind (arith, is_past);
      },
    )

-- ---- where the bits of each declaration begin

firsts_above : (first : ℕ) (ds : List Declaration) (j d : ℕ) → j < length (firsts_from first ds) → first ≤ get_or (firsts_from first ds) j d
firsts_above first [] j d l = absurd (omega arith)
firsts_above first (x ∷ ds) zero d l = omega arith
firsts_above first (x ∷ ds) (suc j) d l = omega (arith, firsts_above (first + width x.shape) ds j d (omega arith))

firsts_rise_from : (first : ℕ) (ds : List Declaration) (i j d : ℕ) → i ≤ j → j < length (firsts_from first ds) → get_or (firsts_from first ds) i d ≤ get_or (firsts_from first ds) j d
firsts_rise_from first [] i j d u l = absurd (omega arith)
firsts_rise_from first (x ∷ ds) zero j d u l = firsts_above first (x ∷ ds) j d l
firsts_rise_from first (x ∷ ds) (suc i) zero d u l = absurd (omega arith)
firsts_rise_from first (x ∷ ds) (suc i) (suc j) d u l = firsts_rise_from (first + width x.shape) ds i j d (omega arith) (omega arith)

pub firsts_rise : (ds : List Declaration) → IsNonDecreasingBy (λ (n : ℕ). n) (firsts_of ds)
firsts_rise ds i j d u l = firsts_rise_from 0 ds i j d u l

pub firsts_start : (ds : List Declaration) → 0 < bits_of ds → slice_get (firsts_of ds) 0 ≡ Some 0
firsts_start [] l = absurd (omega arith)
firsts_start (d ∷ ds) l = refl

pub firsts_long : (first : ℕ) (ds : List Declaration) → length (firsts_from first ds) ≡ length ds
firsts_long first [] = refl
firsts_long first (d ∷ ds) = omega (arith, firsts_long (first + width d.shape) ds)

pub first_there : (first : ℕ) (ds : List Declaration) (number : ℕ) (d : Declaration) → slice_get ds number ≡ Some d → (begin : ℕ) × (slice_get (firsts_from first ds) number ≡ Some begin)
first_there first ds number d e = some_there (firsts_from first ds) number (omega (arith, slice_get_within ds number d e, firsts_long first ds))

-- a declaration and the place of its first bit
pub record Begins (first : ℕ) (ds : List Declaration) (number begin : ℕ) : Type 0 where
  pub d : Declaration
  pub is : slice_get ds number ≡ Some d
  pub within : begin + width d.shape ≤ first + bits_of ds
  pub ends : (place : ℕ) → place < first + bits_of ds →
      ((next : ℕ) → slice_get (firsts_from first ds) (suc number) ≡ Some next → place < next) → place < begin + width d.shape

pub begins : (first : ℕ) (ds : List Declaration) (number begin : ℕ) → slice_get (firsts_from first ds) number ≡ Some begin → Begins first ds number begin
begins first [] number begin e = cc
begins first (d ∷ []) zero begin e =
    let same : first ≡ begin = cc in
    record { d = d; is = refl; within = omega (arith, same); ends = λ place l later. omega (arith, same, l) }
begins first (d ∷ next ∷ ds) zero begin e =
    let same : first ≡ begin = cc in
    record { d = d; is = refl; within = omega (arith, same); ends = λ place l later. omega (arith, same, later (first + width d.shape) refl) }
begins first (d ∷ ds) (suc number) begin e =
    let rest = begins (first + width d.shape) ds number begin e in
    record { d = rest.d; is = rest.is; within = omega (arith, rest.within); ends = λ place l later. rest.ends place (omega (arith, l)) later }

pub declared_counts : (ds : List Declaration) (number : ℕ) (d : Declaration) → slice_get ds number ≡ Some d → 1 ≤ times_named ds d.name
declared_counts [] number d e = cc
declared_counts (x ∷ ds) zero d e =
    let same : x ≡ d = cc in
    omega (arith, counts_one x.name d.name (ap (λ (y : Declaration). y.name) same))
declared_counts (x ∷ ds) (suc number) d e = omega (arith, declared_counts ds number d e)

-- where each name is declared once, look-up finds a declaration by its name
pub found_declared : (first : ℕ) (ds : List Declaration) → ((name : List ℕ) → times_named ds name ≤ 1) → (number : ℕ) (d : Declaration) (begin : ℕ) →
    slice_get ds number ≡ Some d → slice_get (firsts_from first ds) number ≡ Some begin →
    found_from first ds d.name ≡ Some (record { first = begin; shape = d.shape; role = d.role })
found_declared first [] once number d begin e f = cc
found_declared first (x ∷ ds) once zero d begin e f =
    let same : x ≡ d = cc in
    let start : first ≡ begin = cc in
    let here : found_from first (x ∷ ds) x.name ≡ Some (record { first = first; shape = x.shape; role = x.role }) = rw (same_name x.name) refl in
    subst (λ (y : Declaration). found_from first (x ∷ ds) y.name ≡ Some (record { first = begin; shape = y.shape; role = y.role })) same
    (subst (λ (n : ℕ). found_from first (x ∷ ds) x.name ≡ Some (record { first = n; shape = x.shape; role = x.role })) start here)
found_declared first (x ∷ ds) once (suc number) d begin e f =
    let other : bytes_eq d.name x.name ≡ false = elim (cases_Bool (bytes_eq d.name x.name)) [
      | inl t ↦ (let one : one_if_same x.name d.name ≡ 1 = counts_one x.name d.name (sym ((bytes_eq-Decides d.name x.name).0 t)) in
          absurd (omega (arith, one, once d.name, declared_counts ds number d e)))
      | inr n ↦ n
    ] in
    rw other (found_declared (first + width x.shape) ds (λ name. omega (arith, once name)) number d begin e f)

pub found_within : (first : ℕ) (ds : List Declaration) (name : List ℕ) (local : Local) → found_from first ds name ≡ Some local →
    local.first + width local.shape ≤ first + bits_of ds
found_within first [] name local e = cc
found_within first (d ∷ ds) name local e =
    elim (cases_Bool (bytes_eq name d.name)) [
      | inl t ↦ (let here : Local = record { first = first; shape = d.shape; role = d.role } in
          let found : found_from first (d ∷ ds) name ≡ Some here = rw t refl in
          let same : here ≡ local = same_value (found_from first (d ∷ ds) name) here local found e in
          omega (arith, ap (λ (l : Local). l.first) same, ap (λ (l : Local). width l.shape) same))
      | inr f ↦ (let passed : found_from first (d ∷ ds) name ≡ found_from (first + width d.shape) ds name = rw f refl in
          omega (arith, found_within (first + width d.shape) ds name local (sym passed ∙ e)))
    ]

-- ---- where the points of each instance begin

take_nothing : {X : Type 0} (n : ℕ) → ◌≡◌ {A = List X} (take n []) []
take_nothing zero = refl
take_nothing (suc n) = refl

module _ {X Y : Type 0} (f : X → List Y) where
  flat_next : (xs : List X) (k : ℕ) (x : X) → slice_get xs k ≡ Some x → length (flat_map f (take (suc k) xs)) ≡ length (flat_map f (take k xs)) + length (f x)
  flat_next [] k x e = cc
  flat_next (y ∷ xs) zero x e =
      let same : y ≡ x = cc in
      length-append (f y) [] ∙ omega (arith, ap (λ z. length (f z)) same)
  flat_next (y ∷ xs) (suc k) x e =
      omega (arith, length-append (f y) (flat_map f (take (suc k) xs)), length-append (f y) (flat_map f (take k xs)), flat_next xs k x e)

  flat_rise : (xs : List X) (i j : ℕ) → i ≤ j → length (flat_map f (take i xs)) ≤ length (flat_map f (take j xs))
  flat_rise [] i j l = omega (arith, ap (λ ys. length (flat_map f ys)) (take_nothing i), ap (λ ys. length (flat_map f ys)) (take_nothing j))
  flat_rise (x ∷ xs) zero j l = omega arith
  flat_rise (x ∷ xs) (suc i) zero l = absurd (omega arith)
  flat_rise (x ∷ xs) (suc i) (suc j) l =
      omega (arith, length-append (f x) (flat_map f (take i xs)), length-append (f x) (flat_map f (take j xs)), flat_rise xs i j (omega arith))

  flat_all : (xs : List X) (k : ℕ) → length xs ≤ k → length (flat_map f (take k xs)) ≡ length (flat_map f xs)
  flat_all [] k l = ap (λ ys. length (flat_map f ys)) (take_nothing k)
  flat_all (x ∷ xs) zero l = absurd (omega arith)
  flat_all (x ∷ xs) (suc k) l =
      omega (arith, length-append (f x) (flat_map f (take k xs)), length-append (f x) (flat_map f xs), flat_all xs k (omega arith))

module _ (text : List PlainModule) where
  pub points_next : (number : ℕ) (i : Instance) → IsInstanceOfNumber text number i → points_before text (suc number) ≡ points_before text number + bits_of (declarations i.here)
  points_next number i e = flat_next instance_points (instances text) number i e ∙ ap (λ n. points_before text number + n) (points_length i.path (declarations i.here))

  pub points_rise : (i j : ℕ) → i ≤ j → points_before text i ≤ points_before text j
  points_rise i j l = flat_rise instance_points (instances text) i j l

  pub points_all : (number : ℕ) → length (instances text) ≤ number → points_before text number ≡ length (points text)
  unfolding points
  points_all number l = flat_all instance_points (instances text) number l

  pub points_within : (number : ℕ) (i : Instance) → IsInstanceOfNumber text number i → bits_of (declarations i.here) + points_before text number ≤ length (points text)
  points_within number i e =
      omega (arith, points_next number i e, points_rise (suc number) (suc number + length (instances text)) (omega arith), points_all (suc number + length (instances text)) (omega arith))

  module _ (placed : List PlacedInstance) (are : ArePlaced text placed) where
    first_at : (number : ℕ) (d : PlacedInstance) → number < length placed → (get_or placed number d).first ≡ points_before text number
    first_at number d l = (are.1 number (get_or placed number d) (slice_get-get_or placed number d l)).first

    pub placed_rise : IsNonDecreasingBy (λ (p : PlacedInstance). p.first) placed
    placed_rise i j d u l = omega (arith, first_at i d (omega arith), first_at j d l, points_rise i j u)

    pub some_instance : (point : ℕ) → point < length (points text) → 0 < length placed
    unfolding points
    some_instance point l =
        elim (cases_lt 0 (length placed)) [
          | inl some ↦ some
          | inr none ↦ absurd (omega (arith, are.0, none, points_all 0 (omega (arith, are.0, none))))
        ]

    pub first_placed : (point : ℕ) → point < length (points text) → (p : PlacedInstance) × (slice_get placed 0 ≡ Some p) × (p.first ≤ point)
    first_placed point l =
        let p = some_there placed 0 (some_instance point l) in
        (p.0, p.1, omega (arith, (are.1 0 p.0 p.1).first))

    pub point_of : (point number : ℕ) → point < length (points text) → IsLastAtMost (λ (p : PlacedInstance). p.first) placed point number → IsPointOf text point number
    point_of point number l at =
        let here = are.1 number at.x at.is in
        record {
          i = here.i;
          is = here.is;
          begins = omega (arith, here.first, at.at_most);
          ends = elim (cases_lt (suc number) (length placed)) [
            | inl more ↦ (let next = some_there placed (suc number) more in
                omega (arith, at.last (suc number) next.0 (omega arith) next.1, (are.1 (suc number) next.0 next.1).first, points_next number here.i here.is))
            | inr none ↦ omega (arith, l, are.0, points_all (suc number) (omega (arith, are.0, none)), points_next number here.i here.is)
          ];
        }

    pub instance_found : (point k : ℕ) → point < length (points text) → k ≤ length placed →
        IsPartitionPoint (λ (p : PlacedInstance). leb p.first point ≡ true) (λ (p : PlacedInstance). leb p.first point ≡ false) placed k → (1 ≤ k) × IsPointOf text point (k - 1)
    instance_found point k l within parted =
        let top = first_placed point l in
        let found = last_found (λ (p : PlacedInstance). p.first) placed point k within parted top.0 top.1 top.2 in
        (found.0, point_of point (k - 1) l found.1)

-- ---- what is kept

module _ (text : List PlainModule) (tables : List Table) (exprs : List (Bor Expr)) (placed : List PlacedInstance) (count : ℕ) (keeps : Keeps text tables exprs placed count) where
  pub kept_instance : (number : ℕ) (p : PlacedInstance) → number < length (instances text) → p ≡ get_or placed number p → IsPlaced text number p
  kept_instance number p l e = keeps.placed_are.1 number p (slice_get_read placed (length (instances text)) number p (sym keeps.placed_are.0) l e)

  pub kept_number : (number : ℕ) (p : PlacedInstance) → number < length (instances text) → p ≡ get_or placed number p → p.«module» < length tables
  kept_number number p l e =
      let is = kept_instance number p l e in
      omega (arith, keeps.tables_are.0, is.of_module, slice_get_within text is.i.number is.i.here (instances_stand text keeps.sound number is.i is.is).1)

  pub kept_here : (number : ℕ) (p : PlacedInstance) (table : Table) → number < length (instances text) → p ≡ get_or placed number p → table ≡ get_or tables p.«module» table →
      (ref : Bor Table) → ref.now ≡ table → IsHere text number (record { placed = p; table = ref })
  kept_here number p table l e f ref same =
      let is = kept_instance number p l e in
      let stands = (instances_stand text keeps.sound number is.i is.is).1 in
      let there : slice_get tables is.i.number ≡ Some table =
      ap (slice_get tables) (sym is.of_module) ∙ slice_get_read tables (length tables) p.«module» table refl (kept_number number p l e) f in
      record {
        sound = keeps.sound;
        small = keeps.small;
        narrow = keeps.narrow;
        placed = is;
        table = subst (λ (t : Table). IsTable text (modules_before text is.i.number) is.i.here t) (sym same) (keeps.tables_are.1 is.i.number is.i.here table stands there);
      }

-- ---- the bit of a declared name

pub local_within : (text : List PlainModule) (number : ℕ) (here : Here) → IsHere text number here → (name : List ℕ) (local : Local) →
    Some local ≡ found_in here.table.now.names name → here.placed.first + local.first ≤ most_points
local_within text number here is name local found =
    let i = is.placed.i in
    let there : found_in (declarations i.here) name ≡ Some local = ap (λ ds. found_in ds name) (sym is.table.names) ∙ sym found in
    omega (arith, is.placed.first, found_within 0 (declarations i.here) name local there, points_within text number i is.placed.is, is.small)

-- the points of an instance end at a number that is counted in 32 bits
pub points_end : (text : List PlainModule) (number : ℕ) (here : Here) → IsHere text number here → here.placed.first + bits_of here.table.now.names ≤ most_points
points_end text number here is =
    omega (arith, is.placed.first, ap bits_of is.table.names, points_within text number is.placed.i is.placed.is, is.small)

pub firsts_here : (text : List PlainModule) (point number : ℕ) (here : Here) → IsPointOf text point number → IsHere text number here →
    (slice_get here.table.now.firsts.items 0 ≡ Some 0) × IsNonDecreasingBy (λ (n : ℕ). n) here.table.now.firsts.items
firsts_here text point number here of is =
    let same : of.i ≡ is.placed.i = same_value (slice_get (instances text) number) of.i is.placed.i of.is is.placed.is in
    let some : 0 < bits_of (declarations is.placed.i.here) = omega (arith, of.begins, of.ends, ap (λ (i : Instance). bits_of (declarations i.here)) same) in (
      ap (λ ns. slice_get ns 0) is.table.firsts ∙ firsts_start (declarations is.placed.i.here) some,
      subst (IsNonDecreasingBy (λ (n : ℕ). n)) (sym is.table.firsts) (firsts_rise (declarations is.placed.i.here)),
    )

pub bit_fits : (firsts : List ℕ) (place declared first : ℕ) → IsLastAtMost (λ n. n) firsts place declared → first ≡ get_or firsts declared first → first ≤ place
bit_fits firsts place declared first last read =
    let at : slice_get firsts declared ≡ Some first = slice_get_read firsts (length firsts) declared first refl (slice_get_within firsts declared last.x last.is) read in
    omega (arith, same_value (slice_get firsts declared) last.x first last.is at, last.at_most)

-- the last declaration that begins at the place of a point or before it has the point
pub bit_found : (text : List PlainModule) (point number declared : ℕ) (here : Here) (first : ℕ) → IsPointOf text point number → IsHere text number here →
    IsLastAtMost (λ n. n) here.table.now.firsts.items (point - here.placed.first) declared →
    first ≡ get_or here.table.now.firsts.items declared first →
    IsBit text point (record { instance = number; declared = declared; bit = point - here.placed.first - first })
bit_found text point number declared here first of is last read =
    let i = is.placed.i in
    let ds = declarations i.here in
    let same : of.i ≡ i = same_value (slice_get (instances text) number) of.i i of.is is.placed.is in
    let firsts = here.table.now.firsts.items in
    let at : slice_get firsts declared ≡ Some first = slice_get_read firsts (length firsts) declared first refl (slice_get_within firsts declared last.x last.is) read in
    let here_first : last.x ≡ first = same_value (slice_get firsts declared) last.x first last.is at in
    let at_of : slice_get (firsts_of ds) declared ≡ Some first = ap (λ ns. slice_get ns declared) (sym is.table.firsts) ∙ at in
    let d = begins 0 ds declared first at_of in
    let place = point - here.placed.first in
    let within : place < 0 + bits_of ds = omega (arith, of.begins, of.ends, is.placed.first, ap (λ (j : Instance). bits_of (declarations j.here)) same) in
    let next : (n : ℕ) → slice_get (firsts_of ds) (suc declared) ≡ Some n → place < n =
    λ n there. last.last (suc declared) n (omega arith) (ap (λ ns. slice_get ns (suc declared)) is.table.firsts ∙ there) in
    let ends : place < first + width d.d.shape = d.ends place within next in
    let starts : first ≤ place = omega (arith, here_first, last.at_most) in
    let once = named_once text is.sound i.path i.here (instances_stand text is.sound number i is.placed.is).0 in
    let found = found_declared 0 ds once declared d.d first d.is at_of in
    record {
      i = i;
      is = is.placed.is;
      d = d.d;
      declares = d.is;
      less = omega (arith, ends, starts);
      point_is =
          ap (slice_get (points text)) (omega (arith, of.begins, is.placed.first, starts))
          ∙ names_have_points text number i is.placed.is d.d.name (record { first = first; shape = d.d.shape; role = d.d.role }) found (place - first) (omega (arith, ends, starts));
    }
