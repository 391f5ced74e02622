-- Sums of the first values of a function.
use Rattle.std.proofs.Common.{◌≡◌, ℕ, zero, suc, ◌+◌, ◌-◌, ◌<◌, ◌≤◌, refl, ap, ap₂, ◌∙◌, arith, inl, inr}
use Rattle.std.proofs.lemmas.Bool.{cases_lt}
use Rattle.fab_fabric.specs.Sums.{sum_to}

pub no_sum : (f : ℕ → ℕ) → sum_to 0 f ≡ 0
unfolding sum_to
no_sum f = refl

pub sum_more : (n : ℕ) (f : ℕ → ℕ) → sum_to (n + 1) f ≡ sum_to n f + f n
unfolding sum_to
sum_more n f = let next : n + 1 ≡ suc n = omega arith in ap (λ m. sum_to m f) next

-- more summands give no less
sum_le : (f : ℕ → ℕ) (n more : ℕ) → sum_to n f ≤ sum_to (n + more) f
sum_le f n zero = let same : n ≡ n + 0 = omega arith in omega (arith, ap (λ m. sum_to m f) same)
sum_le f n (suc more) =
    let same : n + more + 1 ≡ n + suc more = omega arith in
    omega (arith, sum_le f n more, sum_more (n + more) f, ap (λ m. sum_to m f) same)

pub sum_at_most : (f : ℕ → ℕ) (n m : ℕ) → n ≤ m → sum_to n f ≤ sum_to m f
sum_at_most f n m few = let same : n + (m - n) ≡ m = omega (arith, few) in omega (arith, sum_le f n (m - n), ap (λ k. sum_to k f) same)

-- a summand stands within the sum
pub sum_below : (f : ℕ → ℕ) (n m : ℕ) → n < m → sum_to n f + f n ≤ sum_to m f
sum_below f n m few = omega (arith, sum_more n f, sum_at_most f (n + 1) m (omega (arith, few)))

pub sum_same : (n : ℕ) (f g : ℕ → ℕ) → ((i : ℕ) → i < n → f i ≡ g i) → sum_to n f ≡ sum_to n g
unfolding sum_to
sum_same zero f g h = refl
sum_same (suc n) f g h = ap₂ (λ a b. a + b) (sum_same n f g (λ i l. h i (omega (arith, l)))) (h n (omega arith))

pub sum_split : (a b : ℕ) (f : ℕ → ℕ) → sum_to (a + b) f ≡ sum_to a f + sum_to b (λ i. f (a + i))
sum_split a zero f = let same : a + 0 ≡ a = omega arith in omega (arith, ap (λ m. sum_to m f) same, no_sum (λ i. f (a + i)))
sum_split a (suc b) f =
    let same : a + suc b ≡ a + b + 1 = omega arith in
    let next : suc b ≡ b + 1 = omega arith in
    omega (arith, ap (λ m. sum_to m f) same, sum_more (a + b) f, sum_split a b f, ap (λ m. sum_to m (λ i. f (a + i))) next, sum_more b (λ i. f (a + i)))

-- a number below a sum stands at one place of one summand
pub one_summand : (f : ℕ → ℕ) (x y a b : ℕ) → a < f x → b < f y → sum_to x f + a ≡ sum_to y f + b → (x ≡ y) × (a ≡ b)
one_summand f x y a b in_x in_y same =
    elim (cases_lt x y) [
      | inl less ↦ absurd (omega (arith, in_x, same, sum_below f x y less))
      | inr no_less ↦ elim (cases_lt y x) [
        | inl less ↦ absurd (omega (arith, in_y, same, sum_below f y x less))
        | inr no_more ↦ (
            let is : x ≡ y = omega (arith, no_less, no_more) in
            (is, omega (arith, same, ap (λ m. sum_to m f) is)))
      ]
    ]

pub some_summand : (f : ℕ → ℕ) (n index : ℕ) → index < sum_to n f → (x : ℕ) × (a : ℕ) × (x < n) × (a < f x) × (index ≡ sum_to x f + a)
some_summand f zero index few = absurd (omega (arith, few, no_sum f))
some_summand f (suc n) index few =
    let next : suc n ≡ n + 1 = omega arith in
    let whole : sum_to (suc n) f ≡ sum_to n f + f n = ap (λ m. sum_to m f) next ∙ sum_more n f in
    elim (cases_lt index (sum_to n f)) [
      | inl less ↦ (let g = some_summand f n index less in (g.0, g.1, omega (arith, g.2), g.3, g.4))
      | inr past ↦ (n, index - sum_to n f, omega arith, omega (arith, few, whole, past), omega (arith, past))
    ]
