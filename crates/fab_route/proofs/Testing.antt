-- Tables that pass a test, hop by hop.
use Rattle.std.proofs.Common.{◌≡◌, ℕ, ◌+◌, ◌-◌, ◌*◌, ◌<◌, ◌≤◌, List, Vec, get_or, Contains, sym, ap, ◌∙◌, subst, inl, inr, arith}
use Rattle.std.specs.List.{All}
use Rattle.std.proofs.lemmas.List.Elements.{All-contains}
use Rattle.fab_legal.proofs.Lists.{cases_below}
use Rattle.fab_route.specs.declared.hops.Hop.{Hop}
use Rattle.fab_route.specs.declared.window.Window.{Window}
use Rattle.fab_route.specs.inner.Guided.{IsAcross, IsLineTested, IsHopTested, hops_to, AreTested}

-- ---- one line

-- the first entries of a line are tested
abbrev pub LineTestedTo : (entries : List ℕ) → (rows from_line to_line down end : ℕ) → Type 0
LineTestedTo entries rows from_line to_line down end =
    (here there : ℕ) → 33 - rows ≤ here → here < 32 + rows → 33 - rows ≤ there → there < 32 + rows → there + down ≡ here + 32 → here < end →
    get_or entries (from_line + here) 0 ≤ 2 + get_or entries (to_line + there) 0

pub line_more : (entries : List ℕ) (rows from_line to_line down end next a b : ℕ) → LineTestedTo entries rows from_line to_line down end → next ≡ end + 32 - down → down ≤ end + 32 → a ≡ get_or entries (from_line + end) 0 →
    b ≡ get_or entries (to_line + next) 0 → a ≤ b + 2 → LineTestedTo entries rows from_line to_line down (end + 1)
line_more entries rows from_line to_line down end next a b so_far next_is some a_is b_is low here there l1 h1 l2 h2 shift few = elim (cases_below here end few) [
  | inl less ↦ so_far here there l1 h1 l2 h2 shift less
  | inr same ↦ (
      let too : there ≡ next = omega (arith, shift, same, next_is, some) in
      omega (arith, low, a_is ∙ ap (λ k. get_or entries (from_line + k) 0) (sym same), b_is ∙ ap (λ k. get_or entries (to_line + k) 0) (sym too)))
]

pub line_none : (entries : List ℕ) (rows from_line to_line down low high : ℕ) →
    ((here there : ℕ) → 33 - rows ≤ here → here < 32 + rows → 33 - rows ≤ there → there < 32 + rows → there + down ≡ here + 32 → (low ≤ here) × (here < high)) → LineTestedTo entries rows from_line to_line down low
line_none entries rows from_line to_line down low high all here there l1 h1 l2 h2 shift few = absurd (omega (arith, few, (all here there l1 h1 l2 h2 shift).0))

pub line_all : (entries : List ℕ) (rows from_line to_line down low high end : ℕ) →
    ((here there : ℕ) → 33 - rows ≤ here → here < 32 + rows → 33 - rows ≤ there → there < 32 + rows → there + down ≡ here + 32 → (low ≤ here) × (here < high)) → high ≤ end → LineTestedTo entries rows from_line to_line down end →
    IsLineTested entries rows from_line to_line down
line_all entries rows from_line to_line down low high end all past so_far here there l1 h1 l2 h2 shift = so_far here there l1 h1 l2 h2 shift (omega (arith, past, (all here there l1 h1 l2 h2 shift).1))

-- ---- one hop

-- the lines of the first columns are tested
abbrev pub LinesTested : (entries : List ℕ) → Window → (start to : ℕ) → Hop → (end : ℕ) → Type 0
LinesTested entries window start to hop end =
    (across across2 : ℕ) → IsAcross window across → IsAcross window across2 → across2 + hop.across ≡ across + 32 → across < end →
    IsLineTested entries window.rows (start + hop.from * 4096 + across * 64) (start + to * 4096 + across2 * 64) hop.down

pub lines_more : (entries : List ℕ) (window : Window) (start to : ℕ) (hop : Hop) (end from_line to_line : ℕ) → LinesTested entries window start to hop end → hop.across ≤ end + 32 → from_line ≡ start + hop.from * 4096 + end * 64 →
    to_line ≡ start + to * 4096 + (end + 32 - hop.across) * 64 → IsLineTested entries window.rows from_line to_line hop.down → LinesTested entries window start to hop (end + 1)
lines_more entries window start to hop end from_line to_line so_far some from_is to_is tested across across2 in1 in2 shift few = elim (cases_below across end few) [
  | inl less ↦ so_far across across2 in1 in2 shift less
  | inr same ↦ (
      let first : from_line ≡ start + hop.from * 4096 + across * 64 = from_is ∙ ap (λ k. start + hop.from * 4096 + k * 64) (sym same) in
      let second : to_line ≡ start + to * 4096 + across2 * 64 = to_is ∙ ap (λ k. start + to * 4096 + k * 64) (omega (arith, shift, same, some)) in
      subst (λ (f : ℕ). IsLineTested entries window.rows f (start + to * 4096 + across2 * 64) hop.down) first (subst (λ (t : ℕ). IsLineTested entries window.rows from_line t hop.down) second tested))
]

pub lines_none : (entries : List ℕ) (window : Window) (start to : ℕ) (hop : Hop) (low high : ℕ) →
    ((here there : ℕ) → 33 - window.columns ≤ here → here < 32 + window.columns → 33 - window.columns ≤ there → there < 32 + window.columns → there + hop.across ≡ here + 32 → (low ≤ here) × (here < high)) →
    LinesTested entries window start to hop low
lines_none entries window start to hop low high all across across2 in1 in2 shift few = absurd (omega (arith, few, (all across across2 in1.0 in1.1 in2.0 in2.1 shift).0))

pub lines_all : (entries : List ℕ) (window : Window) (start to : ℕ) (hop : Hop) (low high end : ℕ) →
    ((here there : ℕ) → 33 - window.columns ≤ here → here < 32 + window.columns → 33 - window.columns ≤ there → there < 32 + window.columns → there + hop.across ≡ here + 32 → (low ≤ here) × (here < high)) → high ≤ end →
    LinesTested entries window start to hop end → IsHopTested entries window start to hop
lines_all entries window start to hop low high end all past so_far across down across2 down2 a d a2 d2 shift shift_down =
    so_far across across2 a a2 shift (omega (arith, past, (all across across2 a.0 a.1 a2.0 a2.1 shift).1)) down down2 d.0 d.1 d2.0 d2.1 shift_down

-- ---- all hops

pub tested_more : {A : Type 0} (entries : List ℕ) (window : Window) (hops : List (Vec Hop A)) (start to : ℕ) (group : List Hop) → group ≡ hops_to hops to → All (IsHopTested entries window start to) group →
    AreTested entries window hops start to → AreTested entries window hops start (to + 1)
tested_more {A} entries window hops start to group group_is tested so_far class hop few here = elim (cases_below class to few) [
  | inl less ↦ so_far class hop less here
  | inr same ↦ subst (λ (k : ℕ). IsHopTested entries window start k hop) (sym same)
      (All-contains (IsHopTested entries window start to) group hop tested
      (subst (λ (hs : List Hop). Contains hs hop) (sym group_is) (subst (λ (k : ℕ). Contains (hops_to hops k) hop) same here)))
]
