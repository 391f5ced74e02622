-- The users of nodes as trees are given up and taken up, and prices of a round.
use Rattle.std.proofs.Common.{◌≡◌, ◌≢◌, ℕ, ◌+◌, ◌*◌, ◌^◌, ◌<◌, ◌≤◌, Bool, true, false, ◌||◌, nat_eq, List, length, take, get_or, refl, sym, ◌∙◌, ap, inl, inr, arith}
use Rattle.std.proofs.lemmas.Bool.{cases_eq, eq-eqb, ne_eqb}
use Rattle.std.proofs.Math.Nat.{mul-le-mul_right}
use Rattle.fab_astar.specs.declared.tables.Tables.{Tables}
use Rattle.fab_astar.specs.Walks.{has}
use Rattle.fab_astar.specs.Scene.{ArePrices}
use Rattle.fab_astar.specs.Tables.{count_of, price_of, users_of, prices, counts, is_held, IsCharged, IsHeldToo}
use Rattle.fab_astar.proofs.Members.{has_more, or_false}
use Rattle.fab_pathfinder.specs.Rounds.{users}
use Rattle.fab_pathfinder.specs.inner.Prices.{bit, ArePriced, IsPast}

pub price_low : (p r u : ℕ) → p ≤ 2064447 → u ≤ 32770 → r < 64 → (1 ≤ (1 + p) * (1 + r * u)) × ((1 + p) * (1 + r * u) < 2 ^ 42)
price_low p r u lp lu lr =
    let a : r * u ≤ 63 * u = (let l : r ≤ 63 = omega arith in mul-le-mul_right u l) in
    let b : (1 + p) * (1 + r * u) ≤ 2064448 * (1 + r * u) = (let l : 1 + p ≤ 2064448 = omega arith in mul-le-mul_right (1 + r * u) l) in
    let c : 1 * (1 + r * u) ≤ (1 + p) * (1 + r * u) = (let l : 1 ≤ 1 + p = omega arith in mul-le-mul_right (1 + r * u) l) in
    (omega arith, omega arith)

pub priced_low : (past : List ℕ) (round : ℕ) (t : Tables) → IsPast past round t → ((w : ℕ) → users_of t w ≤ 32770) → ArePriced past round t → ArePrices (count_of t) (price_of t)
priced_low past round t h few priced = record {
  some = λ w l. let b = price_low (get_or past w 0) round (users_of t w) (h.low w) (few w) h.early in omega (arith, priced w l, b.0);
  cheap = λ w l. let b = price_low (get_or past w 0) round (users_of t w) (h.low w) (few w) h.early in omega (arith, priced w l, b.1);
}

-- a node has other users: the prices stay those of the round
pub charged_priced : (past : List ℕ) (round : ℕ) (old new : Tables) (node users : ℕ) → IsCharged old new node users ((1 + get_or past node 0) * (1 + round * users)) → ArePriced past round old → ArePriced past round new
charged_priced past round old new node users charged priced w l = elim (cases_eq node w) [
  | inl e ↦
      let t = eq-eqb node w e in
      let p = rw t at (charged.price_is w) in
      let u = rw t at (charged.users_is w) in
      p ∙ ap (λ v. (1 + get_or past v 0) * (1 + round * users)) e ∙ ap (λ n. (1 + get_or past w 0) * (1 + round * n)) (sym u)
  | inr n ↦
      let t = ne_eqb node w n in
      let p = rw t at (charged.price_is w) in
      let u = rw t at (charged.users_is w) in
      p ∙ priced w (omega (arith, charged.count)) ∙ ap (λ n. (1 + get_or past w 0) * (1 + round * n)) (sym u)
]

-- the past is one of these tables too
pub past_on : (past : List ℕ) (round : ℕ) (s t : Tables) → count_of t ≡ count_of s → IsPast past round s → IsPast past round t
past_on past round s t same h = record { long = omega (arith, h.long, same); low = h.low; early = h.early }

or_true : (x y : Bool) → x ≡ true → (x || y) ≡ x
or_true true y h = refl
or_true false y h = absurd (let e = h in cc)

-- a node that stood among the first some already
pub has_again : (nodes : List ℕ) (i w : ℕ) → i < length nodes → has (take i nodes) (get_or nodes i 0) ≡ true → has (take (i + 1) nodes) w ≡ has (take i nodes) w
has_again nodes i w l h = elim (cases_eq (get_or nodes i 0) w) [
  | inl e ↦ has_more nodes i w l ∙ or_true (has (take i nodes) w) (nat_eq (get_or nodes i 0) w) (rw e at h)
  | inr n ↦ has_more nodes i w l ∙ or_false (has (take i nodes) w) (nat_eq (get_or nodes i 0) w) (ne_eqb (get_or nodes i 0) w n)
]

-- ---- one more node of a tree is counted

module _ (nodes : List ℕ) (i node : ℕ) (s t u : Tables) (now price : ℕ) (at : node ≡ get_or nodes i 0) (more : i < length nodes) (held : (w : ℕ) → is_held s w ≡ has (take i nodes) w) (free : is_held s node ≡ false) (hold : IsHeldToo s t node) (charge : IsCharged t u node now price) where
  pub held_more : (w : ℕ) → is_held u w ≡ has (take (i + 1) nodes) w
  held_more w =
      charge.held w ∙ hold.held w ∙ ap (λ b. b || nat_eq node w) (held w)
      ∙ ap (λ v. has (take i nodes) w || nat_eq v w) at ∙ sym (has_more nodes i w more)

  users_here : users_of u node ≡ now
  users_here = let h = charge.users_is node in rw (eq-eqb node node refl) at h

  users_there : (w : ℕ) → node ≢ w → users_of u w ≡ users_of s w
  users_there w n =
      let h = charge.users_is w in
      let k : users_of u w ≡ users_of t w = rw (ne_eqb node w n) at h in
      k ∙ ap (λ xs. get_or xs w 0) hold.users

  not_yet : has (take i nodes) node ≡ false
  not_yet = sym (held node) ∙ free

  now_has : has (take (i + 1) nodes) node ≡ true
  now_has = has_more nodes i node more ∙ ap (λ b. b || nat_eq (get_or nodes i 0) node) not_yet ∙ eq-eqb (get_or nodes i 0) node (sym at)

  same_there : (w : ℕ) → node ≢ w → has (take (i + 1) nodes) w ≡ has (take i nodes) w
  same_there w n = has_more nodes i w more ∙ or_false (has (take i nodes) w) (nat_eq (get_or nodes i 0) w) (ne_eqb (get_or nodes i 0) w (λ e. n (at ∙ e)))

  pub given : (first : ℕ → ℕ) → ((w : ℕ) → users_of s w + bit (has (take i nodes) w) ≡ first w) → now + 1 ≡ users_of s node → (w : ℕ) → users_of u w + bit (has (take (i + 1) nodes) w) ≡ first w
  given first before less w = elim (cases_eq node w) [
    | inl e ↦ rw (← e, now_has) (let b = rw not_yet at (before node) in omega (arith, b, less, users_here))
    | inr n ↦ rw (same_there w n) (omega (arith, before w, users_there w n))
  ]

  pub taken : (first : ℕ → ℕ) → ((w : ℕ) → users_of s w ≡ first w + bit (has (take i nodes) w)) → now ≡ users_of s node + 1 → (w : ℕ) → users_of u w ≡ first w + bit (has (take (i + 1) nodes) w)
  taken first before more_users w = elim (cases_eq node w) [
    | inl e ↦ rw (← e, now_has) (let b = rw not_yet at (before node) in omega (arith, b, more_users, users_here))
    | inr n ↦ rw (same_there w n) (omega (arith, before w, users_there w n))
  ]

pub priced_same : (past : List ℕ) (round : ℕ) (s t : Tables) → count_of t ≡ count_of s → prices t ≡ prices s → counts t ≡ counts s → ArePriced past round s → ArePriced past round t
priced_same past round s t count price users h w l =
    ap (λ xs. get_or xs w 0) price ∙ h w (omega (arith, count)) ∙ ap (λ n. (1 + get_or past w 0) * (1 + round * n)) (ap (λ xs. get_or xs w 0) (sym users))
