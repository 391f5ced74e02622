-- How the instances of a text are placed: first each with its parent, and then with its first point.
use Rattle.std.proofs.Common.{◌≡◌, ◌⊎◌, ◌≢◌, ℕ, zero, suc, ◌+◌, ◌<◌, ◌≤◌, List, [], ◌∷◌, ◌++◌, length, reverse, take, replicate, set, get_or, slice_get, Some, None, refl, sym, ap, ◌∙◌, inl, inr, arith}
use Rattle.std.specs.List.{sum_by}
use Rattle.std.specs.Str.{bytes_eq}
use Rattle.std.proofs.lemmas.Bool.{cases_Bool, cases_lt, cases_eq}
use Rattle.std.proofs.lemmas.List.{reverse-append, reverse-reverse}
use Rattle.std.proofs.lemmas.List.Sums.{sum_by-cons, sum_by_more, sum_by_more_le}
use Rattle.std.proofs.lemmas.Option.{slice_get_within, slice_get_read, get_or_from_slice_get}
use Rattle.fab_syntax.specs.Declarations.{module_named}
use Rattle.fab_syntax.specs.Plain.{PlainModule}
use Rattle.fab_syntax.specs.Sound.{IsSound}
use Rattle.fab_values.specs.fab_meaning.proofs.Dependence.{same_name}
use Rattle.fab_values.specs.Declarations.{bits_of}
use Rattle.fab_equations.specs.inner.Placed.{noted, IsNoted, bits_in, bits_together}
use Rattle.fab_equations.specs.declared.placed.PlacedInstance.{PlacedInstance}
use Rattle.fab_equations.specs.declared.tables.ChildTable.{ChildTable}
use Rattle.fab_equations.specs.declared.tables.Table.{Table}
use Rattle.fab_equations.proofs.Behind.{IsFit, sound_fit, found_either_way}
use Rattle.fab_equations.proofs.Numbering.{same_value, some_there}

-- ---- places on lists

pub get_set_same : {X : Type 0} (xs : List X) (i : ℕ) (x y : X) → slice_get (set xs i x) i ≡ Some y → y ≡ x
get_set_same [] i x y e = cc
get_set_same (first ∷ xs) zero x y e = cc
get_set_same (first ∷ xs) (suc i) x y e = get_set_same xs i x y e

get_set_there : {X : Type 0} (xs : List X) (i : ℕ) (x : X) → i < length xs → slice_get (set xs i x) i ≡ Some x
get_set_there [] i x l = absurd (omega arith)
get_set_there (first ∷ xs) zero x l = refl
get_set_there (first ∷ xs) (suc i) x l = get_set_there xs i x (omega arith)

pub get_set_other : {X : Type 0} (xs : List X) (i j : ℕ) (x : X) → j ≢ i → slice_get (set xs i x) j ≡ slice_get xs j
get_set_other [] i j x apart = refl
get_set_other (first ∷ xs) zero zero x apart = absurd (apart refl)
get_set_other (first ∷ xs) zero (suc j) x apart = refl
get_set_other (first ∷ xs) (suc i) zero x apart = refl
get_set_other (first ∷ xs) (suc i) (suc j) x apart = get_set_other xs i j x (λ same. apart (ap suc same))

pub get_replicate : {X : Type 0} (n i : ℕ) (x y : X) → slice_get (replicate n x) i ≡ Some y → (i < n) × (y ≡ x)
get_replicate zero i x y e = cc
get_replicate (suc n) zero x y e = (omega arith, cc)
get_replicate (suc n) (suc i) x y e = let rest = get_replicate n i x y e in (omega (arith, rest.0), rest.1)

pub same_sums : {X Y : Type 0} (f : X → ℕ) (g : Y → ℕ) (xs : List X) (ys : List Y) → length xs ≡ length ys →
    ((k : ℕ) (x : X) (y : Y) → slice_get xs k ≡ Some x → slice_get ys k ≡ Some y → f x ≡ g y) → (n : ℕ) → sum_by f (take n xs) ≡ sum_by g (take n ys)
same_sums f g xs ys long same zero = refl
same_sums f g [] [] long same (suc n) = refl
same_sums f g [] (y ∷ ys) long same (suc n) = absurd (omega (arith, long))
same_sums f g (x ∷ xs) [] long same (suc n) = absurd (omega (arith, long))
same_sums f g (x ∷ xs) (y ∷ ys) long same (suc n) =
    omega (
      arith,
      sum_by-cons f x (take n xs),
      sum_by-cons g y (take n ys),
      same 0 x y refl refl,
      same_sums f g xs ys (omega (arith, long)) (λ k a b at there. same (suc k) a b at there) n,
    )

-- ---- the numbers of modules

stands_named : (text : List PlainModule) (number : ℕ) (m : PlainModule) → slice_get text number ≡ Some m → module_named text m.name ≡ None → ⊥
stands_named [] number m e none = cc
stands_named (first ∷ text) zero m e none =
    let same : first ≡ m = cc in
    let found : module_named (first ∷ text) first.name ≡ Some first = rw (same_name first.name) refl in
    let lost : module_named (first ∷ text) first.name ≡ None = ap (λ (n : PlainModule). module_named (first ∷ text) n.name) same ∙ none in
    cc
stands_named (first ∷ text) (suc number) m e none =
    elim (cases_Bool (bytes_eq first.name m.name)) [
      | inl t ↦ (let found : module_named (first ∷ text) m.name ≡ Some first = rw t refl in cc)
      | inr f ↦ (let passed : module_named (first ∷ text) m.name ≡ module_named text m.name = rw f refl in stands_named text number m e (sym passed ∙ none))
    ]

last_or_earlier : {X : Type 0} (xs : List X) (x y : X) (k : ℕ) → slice_get (xs ++ x ∷ []) k ≡ Some y → (slice_get xs k ≡ Some y) ⊎ ((k ≡ length xs) × (y ≡ x))
last_or_earlier [] x y zero e = inr (refl, cc)
last_or_earlier [] x y (suc k) e = cc
last_or_earlier (first ∷ xs) x y zero e = inl e
last_or_earlier (first ∷ xs) x y (suc k) e = elim (last_or_earlier xs x y k e) [ inl earlier ↦ inl earlier | inr here ↦ inr (ap suc here.0, here.1) ]

-- with names that differ a module stands at one place
modules_apart : (before : List PlainModule) → IsFit before → (number other : ℕ) (m : PlainModule) →
    slice_get (reverse before) number ≡ Some m → slice_get (reverse before) other ≡ Some m → number ≡ other
modules_apart [] fit number other m e f = cc
modules_apart (last ∷ before) fit number other m e f =
    let parted : reverse (last ∷ before) ≡ reverse before ++ last ∷ [] = reverse-append (last ∷ []) before in
    let at = last_or_earlier (reverse before) last m number (ap (λ (ms : List PlainModule). slice_get ms number) (sym parted) ∙ e) in
    let also = last_or_earlier (reverse before) last m other (ap (λ (ms : List PlainModule). slice_get ms other) (sym parted) ∙ f) in
    elim at [
      | inl a ↦ elim also [
        | inl b ↦ modules_apart before fit.2 number other m a b
        | inr b ↦ absurd (not_earlier number a b.1)
      ]
      | inr a ↦ elim also [
        | inl b ↦ absurd (not_earlier other b a.1)
        | inr b ↦ a.0 ∙ sym b.0
      ]
    ]
  where
    not_earlier : (k : ℕ) → slice_get (reverse before) k ≡ Some m → m ≡ last → ⊥
    not_earlier k there same =
        stands_named (reverse before) k last (there ∙ ap Some same) (found_either_way before fit.2 last.name ∙ fit.0)

pub one_module : (text : List PlainModule) → IsSound text → (number other : ℕ) (m : PlainModule) → slice_get text number ≡ Some m → slice_get text other ≡ Some m → number ≡ other
one_module text sound number other m e f =
    let whole = reverse-reverse text in
    modules_apart (reverse text) (sound_fit text sound) number other m (ap (λ (ms : List PlainModule). slice_get ms number) whole ∙ e) (ap (λ (ms : List PlainModule). slice_get ms other) whole ∙ f)

-- ---- children are noted

abbrev pub Kept : (old now : List PlacedInstance) (children_of : List ChildTable) (parent : ℕ) → Type 0
Kept old now children_of parent = (number : ℕ) (p : PlacedInstance) → slice_get now number ≡ Some p → (slice_get old number ≡ Some p) ⊎ IsNoted children_of parent number p

abbrev pub AreNoted : (now : List PlacedInstance) (children_of : List ChildTable) (parent count : ℕ) → Type 0
AreNoted now children_of parent count =
    (number : ℕ) (child : ChildTable) → number < count → slice_get children_of number ≡ Some child → (p : PlacedInstance) →
    slice_get now (parent + child.offset) ≡ Some p → IsNoted children_of parent (parent + child.offset) p

module _ (now : List PlacedInstance) (children_of : List ChildTable) (parent count : ℕ) (child : ChildTable) (is : slice_get children_of count ≡ Some child) where
  wrote : (number : ℕ) (p : PlacedInstance) → number ≡ parent + child.offset → slice_get (set now (parent + child.offset) (noted parent count child)) number ≡ Some p →
      IsNoted children_of parent number p
  wrote number p here e = record {
    child_number = count;
    child = child;
    is = is;
    follows = here;
    placed_is = get_set_same now (parent + child.offset) (noted parent count child) p (ap (slice_get (set now (parent + child.offset) (noted parent count child))) (sym here) ∙ e);
  }

  pub still_kept : (old : List PlacedInstance) → Kept old now children_of parent → Kept old (set now (parent + child.offset) (noted parent count child)) children_of parent
  still_kept old kept number p e =
      elim (cases_eq number (parent + child.offset)) [
        | inl here ↦ inr (wrote number p here e)
        | inr apart ↦ kept number p (sym (get_set_other now (parent + child.offset) number (noted parent count child) apart) ∙ e)
      ]

  pub one_more : AreNoted now children_of parent count → AreNoted (set now (parent + child.offset) (noted parent count child)) children_of parent (count + 1)
  one_more are number other l other_is p e =
      elim (cases_eq (parent + other.offset) (parent + child.offset)) [
        | inl here ↦ wrote (parent + other.offset) p here e
        | inr apart ↦ are number other
            (elim (cases_lt number count) [
              | inl less ↦ less
              | inr more ↦ (let at : number ≡ count = omega arith in
                  let same : other ≡ child = same_value (slice_get children_of count) other child (ap (slice_get children_of) (sym at) ∙ other_is) is in
                  absurd (apart (ap (λ (c : ChildTable). parent + c.offset) same)))
            ])
            other_is p (sym (get_set_other now (parent + child.offset) (parent + other.offset) (noted parent count child) apart) ∙ e)
      ]

-- ---- points are placed

-- the first points are known of those below a number
pub record ArePointed (tables : List Table) (old now : List PlacedInstance) (count first : ℕ) : Type 0 where
  pub first_is : first ≡ bits_together tables (take count old)
  pub done : (number : ℕ) (p : PlacedInstance) → number < count → slice_get old number ≡ Some p →
      slice_get now number ≡ Some (record p { first = bits_together tables (take number old) })
  pub left : (number : ℕ) → count ≤ number → slice_get now number ≡ slice_get old number

module _ (tables : List Table) (old now : List PlacedInstance) (i first : ℕ) (pointed : ArePointed tables old now i first) (less : i < length old)
    (modules : (number : ℕ) (p : PlacedInstance) → slice_get old number ≡ Some p → p.«module» < length tables)
    (other : PlacedInstance) (table : Table) (is : table ≡ get_or tables (get_or now i other).«module» table) where
  here : (p : PlacedInstance) × (slice_get old i ≡ Some p)
  here = some_there old i less

  here_now : get_or now i other ≡ here.0
  here_now = get_or_from_slice_get now i here.0 other (pointed.left i (omega arith) ∙ here.1)

  bits_here : bits_in (slice_get tables (get_or old i other).«module») ≡ bits_of table.names
  bits_here =
      let there : slice_get tables here.0.«module» ≡ Some table =
      slice_get_read tables (length tables) here.0.«module» table refl (modules i here.0 here.1) (is ∙ ap (λ (p : PlacedInstance). get_or tables p.«module» table) here_now) in
      ap (λ (p : PlacedInstance). bits_in (slice_get tables p.«module»)) (get_or_from_slice_get old i here.0 other here.1) ∙ ap bits_in there

  pub bits_within : first + bits_of table.names ≤ bits_together tables old
  bits_within = omega (arith, pointed.first_is, bits_here, sum_by_more_le (λ (p : PlacedInstance). bits_in (slice_get tables p.«module»)) old i other less)

  pub one_pointed : ArePointed tables old (set now i (record (get_or now i other) { first = first })) (i + 1) (first + bits_of table.names)
  one_pointed =
      let new : PlacedInstance = record (get_or now i other) { first = first } in
      record {
        first_is = omega (arith, pointed.first_is, bits_here, sum_by_more (λ (p : PlacedInstance). bits_in (slice_get tables p.«module»)) old i other less);
        done = λ number p l e. elim (cases_eq number i) [
          | inl at ↦ (let same : p ≡ here.0 = same_value (slice_get old number) p here.0 e (ap (slice_get old) at ∙ here.1) in
              let long : i < length now = slice_get_within now i here.0 (pointed.left i (omega arith) ∙ here.1) in
              ap (slice_get (set now i new)) at ∙ get_set_there now i new long
              ∙ ap (λ (q : PlacedInstance). Some (record q { first = first })) (here_now ∙ sym same)
              ∙ ap (λ n. Some (record p { first = n })) (pointed.first_is ∙ ap (λ n. bits_together tables (take n old)) (sym at)))
          | inr apart ↦ get_set_other now i number new apart ∙ pointed.done number p (omega (arith, apart, l)) e
        ];
        left = λ number l. get_set_other now i number new (λ (at : number ≡ i). absurd (omega (arith, at, l))) ∙ pointed.left number (omega (arith, l));
      }
