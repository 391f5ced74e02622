-- Lists that are filtered, counted or joined, and pairs of their items.
use Rattle.std.proofs.Common.{◌≡◌, ℕ, zero, suc, ◌<◌, ◌≤◌, Bool, true, false, if◌then◌else◌, List, [], ◌∷◌, ◌++◌, filter, AllPairs, Contains, count_by, Option, Some, None, nat_eq, option_map, option_to_list, refl, sym, ap, ◌∙◌, subst, inl, inr, arith, eqb-true}
use Rattle.std.specs.List.{flat_map, list_any}
use Rattle.std.proofs.lemmas.Bool.{cases_Bool, false≢true}
use Rattle.std.proofs.lemmas.Bool.Decides.{Decides-eqb}
use Rattle.std.proofs.lemmas.Option.{same_Some}
use Rattle.std.proofs.lemmas.List.Kept.{AllPairs-cons}
use Rattle.std.proofs.lemmas.List.Sums.{sum_by-cons}
use Rattle.fab_select.specs.Selection.{firsts}
use Rattle.fab_select.proofs.Firsts.{firsts_all, firsts_hold}
use Rattle.fab_legal.specs.fab_model.specs.Tiles.{counted}
use Rattle.fab_legal.specs.fab_netlist.specs.Plain.{IsAt}
use Rattle.fab_legal.specs.fab_netlist.proofs.Members.{in_none, first_or_later, first_in, later_in, any_gives}
use Rattle.fab_legal.specs.fab_netlist.proofs.Stepping.{all_of}
use Rattle.fab_legal.proofs.Members.{in_either}

-- ---- values that may be missing

pub none_some : {X : Type 0} (x : X) → None ≡ Some x → ⊥
none_some x e = cc

pub in_option : {X : Type 0} (o : Option X) (x : X) → Contains (option_to_list o) x → o ≡ Some x
in_option None x inside = absurd (in_none x inside)
in_option {X} (Some y) x inside = elim (first_or_later y [] x inside) [ inl same ↦ ap (λ (z : X). Some z) same | inr none ↦ absurd (in_none x none) ]

pub mapped_some : {X Y : Type 0} (f : X → Y) (o : Option X) (y : Y) → option_map f o ≡ Some y → (x : X) × (o ≡ Some x) × (f x ≡ y)
mapped_some f None y e = absurd (none_some y e)
mapped_some f (Some x) y e = (x, refl, same_Some (f x) y e)

-- ---- filtered lists

pub into_filter : {X : Type 0} (p : X → Bool) (xs : List X) (x : X) → Contains xs x → p x ≡ true → Contains (filter p xs) x
into_filter p [] x here passes = absurd (in_none x here)
into_filter {X} p (y ∷ ys) x here passes = elim (cases_Bool (p y)) [
  | inl yes_y ↦ rw yes_y (elim (first_or_later y ys x here) [
    | inl same ↦ first_in y (filter p ys) x same
    | inr later ↦ later_in y (filter p ys) x (into_filter p ys x later passes)
  ])
  | inr no_y ↦ rw no_y (elim (first_or_later y ys x here) [
    | inl same ↦ absurd (false≢true (sym no_y ∙ ap p same ∙ passes))
    | inr later ↦ into_filter p ys x later passes
  ])
]

pub from_filter : {X : Type 0} (p : X → Bool) (xs : List X) (x : X) → Contains (filter p xs) x → Contains xs x × (p x ≡ true)
from_filter p [] x here = absurd (in_none x here)
from_filter {X} p (y ∷ ys) x here = elim (cases_Bool (p y)) [
  | inl yes_y ↦ (
      let there : Contains (y ∷ filter p ys) x = rw yes_y at here in
      elim (first_or_later y (filter p ys) x there) [
        | inl same ↦ (first_in y ys x same, ap p (sym same) ∙ yes_y)
        | inr later ↦ (let found = from_filter p ys x later in (later_in y ys x found.0, found.1))
      ])
  | inr no_y ↦ (
      let there : Contains (filter p ys) x = rw no_y at here in
      let found = from_filter p ys x there in (later_in y ys x found.0, found.1))
]

-- ---- first places

-- the items of a list are those at its first places
pub from_firsts : (xs : List ℕ) (x : ℕ) → Contains (firsts nat_eq xs) x → Contains xs x
from_firsts xs x here =
    let all = firsts_all (λ y. Contains xs y) nat_eq xs (all_of (λ y. Contains xs y) xs (λ y there. there)) in
    subst (λ (y : ℕ). Contains xs y) here.2 (all here.0 x here.1)

pub into_firsts : (xs : List ℕ) (x : ℕ) → Contains xs x → Contains (firsts nat_eq xs) x
into_firsts xs x here =
    let all = firsts_hold nat_eq Decides-eqb xs in
    let any : list_any (nat_eq x) (firsts nat_eq xs) ≡ true = subst (λ (y : ℕ). list_any (nat_eq y) (firsts nat_eq xs) ≡ true) here.2 (all here.0 x here.1) in
    let found = any_gives (nat_eq x) (firsts nat_eq xs) any in
    subst (λ (y : ℕ). Contains (firsts nat_eq xs) y) (sym (eqb-true x found.0 found.2)) found.1

-- ---- counted lists

pub in_counted : {X : Type 0} (n : ℕ) (f : ℕ → X) (k : ℕ) → k < n → Contains (counted n f) (f k)
unfolding counted
in_counted zero f k low = absurd (omega (arith, low))
in_counted (suc n) f zero low = first_in (f 0) (counted n (λ i. f (suc i))) (f 0) refl
in_counted (suc n) f (suc k) low = later_in (f 0) (counted n (λ i. f (suc i))) (f (suc k)) (in_counted n (λ i. f (suc i)) k (omega (arith, low)))

pub from_counted : {X : Type 0} (n : ℕ) (f : ℕ → X) (x : X) → Contains (counted n f) x → (k : ℕ) × (k < n) × (f k ≡ x)
unfolding counted
from_counted zero f x here = absurd (in_none x here)
from_counted (suc n) f x here = elim (first_or_later (f 0) (counted n (λ i. f (suc i))) x here) [
  | inl same ↦ (0, omega arith, same)
  | inr later ↦ (let found = from_counted n (λ i. f (suc i)) x later in (suc found.0, omega (arith, found.1), found.2))
]

-- only one item of a counted list gives something
pub none_flat : {X : Type 0} (n : ℕ) (g : ℕ → ℕ) (f : ℕ → List X) → ((j : ℕ) → j < n → f (g j) ≡ []) → flat_map f (counted n g) ≡ []
unfolding counted
none_flat zero g f none = refl
none_flat (suc n) g f none =
    ap (λ front. front ++ flat_map f (counted n (λ i. g (suc i)))) (none 0 (omega arith)) ∙ none_flat n (λ i. g (suc i)) f (λ j low. none (suc j) (omega (arith, low)))

append_none : {X : Type 0} (xs : List X) → xs ++ [] ≡ xs
append_none [] = refl
append_none (x ∷ xs) = ap (λ ys. x ∷ ys) (append_none xs)

pub one_flat : {X : Type 0} (n : ℕ) (g : ℕ → ℕ) (f : ℕ → List X) (k : ℕ) → k < n → ((j : ℕ) → j < n → (j ≡ k → ⊥) → f (g j) ≡ []) → flat_map f (counted n g) ≡ f (g k)
unfolding counted
one_flat zero g f k low none = absurd (omega (arith, low))
one_flat (suc n) g f zero low none =
    ap (λ behind. f (g 0) ++ behind) (none_flat n (λ i. g (suc i)) f (λ j less. none (suc j) (omega (arith, less)) (λ e. omega (arith, e)))) ∙ append_none (f (g 0))
one_flat (suc n) g f (suc k) low none =
    ap (λ front. front ++ flat_map f (counted n (λ i. g (suc i)))) (none 0 (omega arith) (λ e. omega (arith, e)))
    ∙ one_flat n (λ i. g (suc i)) f k (omega (arith, low)) (λ j less other. none (suc j) (omega (arith, less)) (λ e. other (omega (arith, e))))

-- ---- pairs of items

module _ {X : Type 0} (R : X → X → Type 0) where
  pub counted_apart : (n : ℕ) (f : ℕ → X) → ((j k : ℕ) → j < k → k < n → R (f j) (f k)) → AllPairs R (counted n f)
  unfolding counted
  counted_apart zero f apart = λ i j d less inside. absurd (omega (arith, inside))
  counted_apart (suc n) f apart =
      AllPairs-cons R (f 0) (counted n (λ i. f (suc i)))
      (all_of (R (f 0)) (counted n (λ i. f (suc i))) (λ x here.
      let found = from_counted n (λ i. f (suc i)) x here in
      subst (λ (y : X). R (f 0) y) found.2 (apart 0 (suc found.0) (omega arith) (omega (arith, found.1)))))
      (counted_apart n (λ i. f (suc i)) (λ j k less inside. apart (suc j) (suc k) (omega (arith, less)) (omega (arith, inside))))

  pub pairs_head : (x : X) (xs : List X) → AllPairs R (x ∷ xs) → (y : X) → Contains xs y → R x y
  pairs_head x xs apart y here = subst (λ (z : X). R x z) here.2 (apart 0 (suc here.0) y (omega arith) (omega (arith, here.1)))

  pub pairs_tail : (x : X) (xs : List X) → AllPairs R (x ∷ xs) → AllPairs R xs
  pairs_tail x xs apart = λ i j d less inside. apart (suc i) (suc j) d (omega (arith, less)) (omega (arith, inside))

  pub pairs_joined : (xs ys : List X) → AllPairs R xs → AllPairs R ys → ((x y : X) → Contains xs x → Contains ys y → R x y) → AllPairs R (xs ++ ys)
  pairs_joined [] ys left right across = right
  pairs_joined (x ∷ xs) ys left right across =
      AllPairs-cons R x (xs ++ ys)
      (all_of (R x) (xs ++ ys) (λ z here. elim (in_either xs ys z here) [
        | inl before ↦ pairs_head x xs left z before
        | inr behind ↦ across x z (first_in x xs x refl) behind
      ]))
      (pairs_joined xs ys (pairs_tail x xs left) right (λ a b first second. across a b (later_in x xs a first) second))

-- ---- items that pass a test

at_least : (b : Bool) → b ≡ true → 1 ≤ (if b then 1 else 0)
at_least true e = omega arith
at_least false e = absurd (false≢true e)

pub one_user : {X : Type 0} (p : X → Bool) (xs : List X) (place : ℕ) (x : X) → IsAt xs place x → p x ≡ true → 1 ≤ count_by p xs
one_user p [] place x at passes = absurd (omega (arith, at.0))
one_user p (y ∷ ys) zero x at passes =
    let sum = sum_by-cons (λ z. if p z then 1 else 0) y ys in
    let here : p y ≡ true = ap p at.1 ∙ passes in
    omega (arith, sum, at_least (p y) here)
one_user p (y ∷ ys) (suc place) x at passes =
    omega (arith, sum_by-cons (λ z. if p z then 1 else 0) y ys, one_user p ys place x (omega (arith, at.0), at.1) passes)

pub two_users : {X : Type 0} (p : X → Bool) (xs : List X) (j k : ℕ) (x y : X) → j < k → IsAt xs j x → IsAt xs k y → p x ≡ true → p y ≡ true → 2 ≤ count_by p xs
two_users p [] j k x y less first second left right = absurd (omega (arith, first.0))
two_users p (z ∷ zs) zero zero x y less first second left right = absurd (omega (arith, less))
two_users p (z ∷ zs) zero (suc k) x y less first second left right =
    let sum = sum_by-cons (λ w. if p w then 1 else 0) z zs in
    let here : p z ≡ true = ap p first.1 ∙ left in
    omega (arith, sum, at_least (p z) here, one_user p zs k y (omega (arith, second.0), second.1) right)
two_users p (z ∷ zs) (suc j) zero x y less first second left right = absurd (omega (arith, less))
two_users p (z ∷ zs) (suc j) (suc k) x y less first second left right =
    omega (arith, sum_by-cons (λ w. if p w then 1 else 0) z zs, two_users p zs j k x y (omega (arith, less)) (omega (arith, first.0), first.1) (omega (arith, second.0), second.1) left right)
