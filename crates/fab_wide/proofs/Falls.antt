-- Levels of nets that fall from the output of each cover to its inputs, when a table is split.
use Rattle.std.proofs.Common.{◌≡◌, ℕ, zero, suc, ◌+◌, ◌<◌, ◌≤◌, List, [], ◌∷◌, ◌++◌, take, length, get_or, Contains, nat_eq, nat_lt, if◌then◌else◌, refl, ◌∙◌, subst, inl, inr, arith}
use Rattle.std.proofs.lemmas.Bool.{cases_Bool, ne_eqb, eq-eqb}
use Rattle.std.proofs.lemmas.List.{get_or_default}
use Rattle.fab_netlist.specs.Plain.{PlainCover}
use Rattle.fab_netlist.proofs.Members.{in_none, first_or_later, first_in, later_in}
use Rattle.fab_wide.specs.Split.{low_half, high_half, chooser, cover_with, taken, narrow}

-- levels fall from the output of each of these covers to its inputs
abbrev pub FallsAt : (ℕ → ℕ) → PlainCover → Type 0
FallsAt level cover = (net : ℕ) → Contains cover.inputs net → level net < level cover.output

abbrev pub Falls : (ℕ → ℕ) → List PlainCover → Type 0
Falls level covers = (cover : PlainCover) → Contains covers cover → FallsAt level cover

-- that hangs on the levels of its nets alone
pub falls_alike : (a b : ℕ → ℕ) (bound : ℕ) (cover : PlainCover) → ((net : ℕ) → net < bound → b net ≡ a net) →
    (cover.output < bound) × ((net : ℕ) → Contains cover.inputs net → net < bound) → FallsAt a cover → FallsAt b cover
falls_alike a b bound cover same (output, inputs) falls net here = omega (arith, falls net here, same net (inputs net here), same cover.output output)

-- levels in which one net has another
abbrev with_level : (net new : ℕ) → (ℕ → ℕ) → ℕ → ℕ
with_level net new level = λ n. if nat_eq n net then new else level n

here_level : (net new : ℕ) (level : ℕ → ℕ) → with_level net new level net ≡ new
here_level net new level = rw (eq-eqb net net refl) refl

other_level : (net new : ℕ) (level : ℕ → ℕ) (n : ℕ) → n < net → with_level net new level n ≡ level n
other_level net new level n less = rw (ne_eqb n net (λ e. omega (arith, less, e))) refl

-- Levels that are as before on the first nets, and fall at these covers.
pub record LevelsFrom (fresh : ℕ) (level : ℕ → ℕ) (covers : List PlainCover) : Type 0 where
  pub all : ℕ → ℕ
  pub old : (net : ℕ) → net < fresh → all net ≡ level net
  pub falls : Falls all covers

-- members of what is taken of a list
pub in_taken : {X : Type 0} (k : ℕ) (xs : List X) (x : X) → Contains (take k xs) x → Contains xs x
in_taken zero xs x here = absurd (in_none x here)
in_taken (suc k) [] x here = absurd (in_none x here)
in_taken (suc k) (y ∷ xs) x here = elim (first_or_later y (take k xs) x here) [
  | inl same ↦ (0, omega arith, same)
  | inr later ↦ (let (place, few, is) = in_taken k xs x later in (suc place, omega (arith, few), is))
]

-- what holds of the covers of two lists
pub both_hold : {X : Type 0} (P : X → Type 0) (xs ys : List X) → ((x : X) → Contains xs x → P x) → ((x : X) → Contains ys x → P x) → (x : X) →
    Contains (xs ++ ys) x → P x
both_hold P [] ys first second x here = second x here
both_hold P (y ∷ xs) ys first second x here = elim (first_or_later y (xs ++ ys) x here) [
  | inl same ↦ first x (first_in y xs x same)
  | inr later ↦ both_hold P xs ys (λ c among. first c (later_in y xs c among)) second x later
]

-- what holds of one cover
pub one_holds : {X : Type 0} (P : X → Type 0) (y : X) → P y → (x : X) → Contains (y ∷ []) x → P x
one_holds P y holds x here = elim (first_or_later y [] x here) [
  | inl same ↦ subst P same holds
  | inr later ↦ absurd (in_none x later)
]

-- all nets of a cover are below a number
abbrev pub IsBelow : ℕ → PlainCover → Type 0
IsBelow bound cover = (cover.output < bound) × ((net : ℕ) → Contains cover.inputs net → net < bound)

pub below_more : (few many : ℕ) (cover : PlainCover) → few ≤ many → IsBelow few cover → IsBelow many cover
below_more few many cover less (output, inputs) = (omega (arith, less, output), λ net here. omega (arith, less, inputs net here))

pub three_small : (P : ℕ → Type 0) (a b c : ℕ) → P a → P b → P c → (net : ℕ) → Contains (a ∷ b ∷ c ∷ []) net → P net
three_small P a b c pa pb pc = both_hold P (a ∷ []) (b ∷ c ∷ []) (one_holds P a pa) (both_hold P (b ∷ []) (c ∷ []) (one_holds P b pb) (one_holds P c pc))

pub place_in : (xs : List ℕ) (n : ℕ) → n < length xs → Contains xs (get_or xs n 0)
place_in xs n few = (n, few, get_or_default xs n (get_or xs n 0) 0 few)

module _ (line : ℕ) (inputs : List ℕ) where
  -- the covers that stand for a table name old nets, and the new ones that it takes
  pub narrow_below : (n table output fresh : ℕ) → n ≤ length inputs → output < fresh → ((net : ℕ) → Contains inputs net → net < fresh) →
      (cover : PlainCover) → Contains (narrow line inputs n table output fresh) cover → IsBelow (taken n table + fresh) cover
  narrow_below zero table output fresh few old low = one_holds (IsBelow (0 + fresh)) (cover_with line [] output table)
      (omega (arith, old), λ net here. absurd (in_none net here))
  narrow_below (suc n) table output fresh few old low =
      let low_table : ℕ = low_half n table in
      let high_table : ℕ = high_half n table in
      elim (cases_Bool (nat_lt n 4)) [
        | inl small ↦ rw small (one_holds (IsBelow (0 + fresh)) (cover_with line (take (suc n) inputs) output table)
            (omega (arith, old), λ net here. omega (arith, low net (in_taken (suc n) inputs net here))))
        | inr large ↦ elim (cases_Bool (nat_eq low_table high_table)) [
          | inl same ↦ rw (large, same) (narrow_below n low_table output fresh (omega (arith, few)) old low)
          | inr other ↦ rw (large, other) (
              let later = taken n low_table + (2 + fresh) in
              let bound = 2 + (taken n low_table + taken n high_table) + fresh in
              let first = narrow line inputs n low_table fresh (2 + fresh) in
              let second = narrow line inputs n high_table (1 + fresh) later in
              let choose = cover_with line (fresh ∷ (1 + fresh) ∷ get_or inputs n 0 ∷ []) output chooser in
              let a = narrow_below n low_table fresh (2 + fresh) (omega (arith, few)) (omega arith) (λ net here. omega (arith, low net here)) in
              let b = narrow_below n high_table (1 + fresh) later (omega (arith, few)) (omega arith) (λ net here. omega (arith, low net here)) in
              both_hold (IsBelow bound) first (second ++ choose ∷ []) (λ c here. below_more later bound c (omega arith) (a c here))
              (both_hold (IsBelow bound) second (choose ∷ []) (λ c here. below_more (taken n high_table + later) bound c (omega arith) (b c here))
              (one_holds (IsBelow bound) choose (
                omega (arith, old),
                three_small (λ net. net < bound) fresh (1 + fresh) (get_or inputs n 0) (omega arith) (omega arith)
                    (omega (arith, low (get_or inputs n 0) (place_in inputs n (omega (arith, few))))),
              ))))
        ]
      ]

module _ (line : ℕ) (inputs : List ℕ) (base : ℕ) where
  -- the inputs are old nets of low level
  abbrev AreLow : ℕ → (ℕ → ℕ) → Type 0
  AreLow fresh level = (net : ℕ) → Contains inputs net → (net < fresh) × (level net ≤ base)

  low_again : (fresh more : ℕ) (level next : ℕ → ℕ) → fresh ≤ more → AreLow fresh level → ((net : ℕ) → net < fresh → next net ≡ level net) → AreLow more next
  low_again fresh more level next few low same net here =
      let (small, less) = low net here in
      (omega (arith, few, small), omega (arith, less, same net small))

  -- an output that stands high enough above the inputs has room for the new nets below it
  pub narrow_levels : (n table output fresh : ℕ) (level : ℕ → ℕ) → n ≤ length inputs → output < fresh → base + n < level output → AreLow fresh level →
      LevelsFrom fresh level (narrow line inputs n table output fresh)
  narrow_levels zero table output fresh level few old above low = record {
    all = level;
    old = λ net small. refl;
    falls = one_holds (FallsAt level) (cover_with line [] output table) (λ net here. absurd (in_none net here));
  }
  narrow_levels (suc n) table output fresh level few old above low =
      let low_table : ℕ = low_half n table in
      let high_table : ℕ = high_half n table in
      elim (cases_Bool (nat_lt n 4)) [
        | inl small ↦ rw small (record {
          all = level;
          old = λ net s. refl;
          falls = one_holds (FallsAt level) (cover_with line (take (suc n) inputs) output table)
              (λ net here. omega (arith, above, (low net (in_taken (suc n) inputs net here)).1));
        })
        | inr large ↦ elim (cases_Bool (nat_eq low_table high_table)) [
          | inl same ↦ rw (large, same) (narrow_levels n low_table output fresh level (omega (arith, few)) old (omega (arith, above)) low)
          | inr other ↦ rw (large, other) (
              let a = fresh in
              let b = 1 + fresh in
              let top = base + suc n in
              let one : ℕ → ℕ = with_level b top (with_level a top level) in
              let one_old : (net : ℕ) → net < fresh → one net ≡ level net =
              λ net small. other_level b top (with_level a top level) net (omega (arith, small)) ∙ other_level a top level net small in
              let a_is : one a ≡ top = other_level b top (with_level a top level) a (omega arith) ∙ here_level a top level in
              let b_is : one b ≡ top = here_level b top (with_level a top level) in
              let first = narrow_levels n low_table a (2 + fresh) one (omega (arith, few)) (omega arith) (omega (arith, a_is))
              (low_again fresh (2 + fresh) level one (omega arith) low one_old) in
              let first_old : (net : ℕ) → net < fresh → first.all net ≡ level net = λ net small. first.old net (omega (arith, small)) ∙ one_old net small in
              let later = taken n low_table + (2 + fresh) in
              let second = narrow_levels n high_table b later first.all (omega (arith, few)) (omega arith) (omega (arith, first.old b (omega arith), b_is))
              (low_again fresh later level first.all (omega arith) low first_old) in
              let choose = cover_with line (a ∷ b ∷ get_or inputs n 0 ∷ []) output chooser in
              let second_old : (net : ℕ) → net < fresh → second.all net ≡ level net = λ net small. second.old net (omega (arith, small)) ∙ first_old net
              small in
              let last = get_or inputs n 0 in
              let last_low = low last (place_in inputs n (omega (arith, few))) in
              let a_at : second.all a ≡ top = second.old a (omega arith) ∙ first.old a (omega arith) ∙ a_is in
              let b_at : second.all b ≡ top = second.old b (omega arith) ∙ first.old b (omega arith) ∙ b_is in
              let low_nets : (net : ℕ) → Contains inputs net → net < 2 + fresh = λ net here. omega (arith, (low net here).0) in
              let below = narrow_below line inputs n low_table a (2 + fresh) (omega (arith, few)) (omega arith) low_nets in
              record {
                all = second.all;
                old = second_old;
                falls =
                    both_hold (FallsAt second.all) (narrow line inputs n low_table a (2 + fresh)) (narrow line inputs n high_table b later ++ choose ∷ [])
                    (λ c here. falls_alike first.all second.all later c second.old (below c here) (first.falls c here))
                    (both_hold (FallsAt second.all) (narrow line inputs n high_table b later) (choose ∷ []) second.falls
                    (one_holds (FallsAt second.all) choose (three_small (λ net. second.all net < second.all output) a b last
                    (omega (arith, a_at, above, second_old output old)) (omega (arith, b_at, above, second_old output old))
                    (omega (arith, second_old last last_low.0, last_low.1, above, second_old output old)))));
              })
        ]
      ]
