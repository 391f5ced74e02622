-- Members of lists of nodes, and the test of them.
use Rattle.std.proofs.Common.{◌≡◌, ℕ, zero, suc, ◌+◌, ◌<◌, Bool, true, false, ◌||◌, List, [], ◌∷◌, ◌++◌, length, take, get_or, Result, Ok, Err, is_ok, Contains, nat_eq, refl, sym, ap, ◌∙◌, inl, inr, arith, eq-eqb, eqb-true}
use Rattle.std.proofs.lemmas.Bool.{false≢true, or_cases, or_left, or_right}
use Rattle.std.proofs.lemmas.List.{take_more}
use Rattle.std.proofs.lemmas.Map.Lookups.{exact_unsigned}
use Rattle.std.specs.Result.{IfOk}
use Rattle.std.specs.Ordering.{nat_cmp}
use Rattle.std.specs.declared.cmp.Ordering.TheVariants.{Equal}
use Rattle.std.specs.List.{HoldsAt}
use Rattle.std.specs.List.Sorted.{IsSearchInRange}
use Rattle.fab_astar.specs.Walks.{has}

pub contains_has : (nodes : List ℕ) (node : ℕ) → Contains nodes node → has nodes node ≡ true
contains_has [] node (place, within, same) = absurd (omega (arith, within))
contains_has (x ∷ xs) node (zero, within, same) = or_left (nat_eq x node) (has xs node) (eq-eqb x node same)
contains_has (x ∷ xs) node (suc place, within, same) = or_right (nat_eq x node) (has xs node) (contains_has xs node (place, omega (arith, within), same))

pub has_contains : (nodes : List ℕ) (node : ℕ) → has nodes node ≡ true → Contains nodes node
has_contains [] node h = absurd (false≢true h)
has_contains (x ∷ xs) node h = elim (or_cases (nat_eq x node) (has xs node) h) [
  | inl e ↦ (0, omega arith, eqb-true x node e)
  | inr t ↦ let c = has_contains xs node t in (suc c.0, omega (arith, c.1), c.2)
]

-- a node that the test does not find is no member
pub not_among : (nodes : List ℕ) (node : ℕ) → has nodes node ≡ false → Contains nodes node → ⊥
not_among nodes node h c = false≢true (sym h ∙ contains_has nodes node c)

pub or_or : (x y z : Bool) → ((x || y) || z) ≡ (x || (y || z))
or_or true y z = refl
or_or false y z = refl

pub has-append : (xs ys : List ℕ) (w : ℕ) → has (xs ++ ys) w ≡ (has xs w || has ys w)
has-append [] ys w = refl
has-append (x ∷ xs) ys w = ap (λ b. nat_eq x w || b) (has-append xs ys w) ∙ sym (or_or (nat_eq x w) (has xs w) (has ys w))

pub or_false : (x y : Bool) → y ≡ false → (x || y) ≡ x
or_false true y h = refl
or_false false y h = h

-- the first some nodes, and one more
pub has_more : (nodes : List ℕ) (i w : ℕ) → i < length nodes → has (take (i + 1) nodes) w ≡ (has (take i nodes) w || nat_eq (get_or nodes i 0) w)
has_more nodes i w l =
    ap (λ xs. has xs w) (take_more nodes i 0 l) ∙ has-append (take i nodes) (get_or nodes i 0 ∷ []) w ∙ ap (λ b. has (take i nodes) w || b) (or_false (nat_eq (get_or nodes i 0) w) false refl)

-- a node that a search by halves finds is a member
pub found_in : (nodes : List ℕ) (node : ℕ) (r : Result ℕ ℕ) → is_ok r ≡ true → IsSearchInRange r (length nodes) → IfOk r (HoldsAt (λ y. nat_cmp y node ≡ Equal) nodes) → Contains nodes node
found_in nodes node (Ok place) ok range holds = (place, range, exact_unsigned (get_or nodes place node) node (holds node))
found_in nodes node (Err place) ok range holds = absurd (false≢true ok)
