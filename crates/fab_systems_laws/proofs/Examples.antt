-- The laws at work: a ring that inverts itself, its inverse, and a point that shows whether either of them is true.
use Rattle.std.proofs.Common.{◌≡◌, ℕ, zero, suc, ◌<◌, ◌⊎◌, Bool, true, false, not, ◌||◌, List, [], ◌∷◌, if◌then◌else◌, refl, sym, ap, ◌∙◌, subst, inl, inr, arith}
use Rattle.std.specs.List.{All}
use Rattle.std.proofs.lemmas.Bool.{false≢true}
use Rattle.fab_systems_laws.specs.System.{IsRanked, ReadsOnly, IsSettledOn, IsSettledFrom, AreListed, AgreeOn}
use Rattle.fab_systems_laws.specs.Steps.{Move, IsMove, AreMoves, IsBlock, last, blocks_then}
use Rattle.fab_systems_laws.specs.Ternary.{Tern, no, yes, unknown, known, IsBelow, IsMonotone, IsExact, IsLeast}
use Rattle.fab_systems_laws.proofs.Rounds.{rounds}
use Rattle.fab_systems_laws.proofs.Solutions.{settled_by_rounds, settled_agree}
use Rattle.fab_systems_laws.proofs.Moves.{moves_settle}
use Rattle.fab_systems_laws.proofs.Order.{below_both}
use Rattle.fab_systems_laws.proofs.Least.{round, rounds_least, least_approximates, exact_approximates}

data Spot : Type 0 where
  ring : Spot
  inverse : Spot
  either : Spot

abbrev next : Spot → (Spot → Bool) → Bool
next ring a = not (a ring)
next inverse a = not (a ring)
next either a = a ring || a inverse

abbrev reads : Spot → Spot → Bool
reads ring ring = true
reads inverse ring = true
reads either ring = true
reads either inverse = true
reads p q = false

-- the set leaves out the ring, which is given
abbrev has : Spot → Bool
has ring = false
has inverse = true
has either = true

abbrev given : Spot → Bool
given p = not (has p)

abbrev rank : Spot → ℕ
rank ring = 0
rank inverse = 0
rank either = 1

lower : (p q : Spot) → has p ≡ true → reads p q ≡ true → (given q ≡ true) ⊎ ((has q ≡ true) × (rank q < rank p))
lower ring q h r = absurd (false≢true h)
lower inverse ring h r = inl refl
lower inverse inverse h r = absurd (false≢true r)
lower inverse either h r = absurd (false≢true r)
lower either ring h r = inl refl
lower either inverse h r = inr (refl, omega arith)
lower either either h r = absurd (false≢true r)

bound : (p : Spot) → has p ≡ true → rank p < 2
bound ring h = omega arith
bound inverse h = omega arith
bound either h = omega arith

apart : (p : Spot) → given p ≡ true → has p ≡ false
apart ring g = refl
apart inverse g = absurd (false≢true g)
apart either g = absurd (false≢true g)

ranked : IsRanked has given reads rank 2
ranked = record { bound = bound; apart = apart; lower = lower }

only : ReadsOnly has reads next
only ring a b h agree = absurd (false≢true h)
only inverse a b h agree = ap not (agree ring refl)
only either a b h agree = ap (λ x. x || a inverse) (agree ring refl) ∙ ap (λ x. b ring || x) (agree inverse refl)

abbrev value : (r i e : Bool) → Spot → Bool
value r i e ring = r
value r i e inverse = i
value r i e either = e

-- two rounds settle the set, and the ring stays
settled_here : (p : Spot) → rounds has next (value true true false) 2 p ≡ value true false true p
unfolding rounds
settled_here ring = refl
settled_here inverse = refl
settled_here either = refl

-- a true ring makes its inverse false in every settled assignment
inverse_false : (a : Spot → Bool) → IsSettledOn has next a → a ring ≡ true → a inverse ≡ false
inverse_false a is true_ring =
    let old = value true true false in
    settled_agree has given reads rank 2 next ranked only a (rounds has next old 2) is (settled_by_rounds has given reads rank 2 next ranked only old).settled
    (elim [ ring ↦ λ g. true_ring ∙ sym (settled_here ring) | inverse ↦ λ g. absurd (false≢true g) | either ↦ λ g. absurd (false≢true g) ])
    inverse refl
    ∙ settled_here inverse

abbrev just_inverse : Spot → Bool
just_inverse ring = false
just_inverse inverse = true
just_inverse either = false

abbrev just_either : Spot → Bool
just_either ring = false
just_either inverse = false
just_either either = true

abbrev move : (Spot → Bool) → (Spot → Bool) → Move Spot
move activated after = record { activated = activated; after = after }

-- `either` comes first, and so is late: the second block sets it right
abbrev first : List (Move Spot)
first = move just_either (value false false false) ∷ move just_inverse (value false true false) ∷ []

abbrev second : List (Move Spot)
second = move just_either (value false true true) ∷ move just_inverse (value false true true) ∷ []

abbrev more : List (Move Spot)
more = move just_inverse (value false true true) ∷ []

abbrev start : Spot → Bool
start = value false false true

-- a move that takes what the two points show
is_move : (activated : Spot → Bool) (r i e j d : Bool) →
    j ≡ (if activated inverse then next inverse (value r i e) else i) → d ≡ (if activated either then next either (value r i e) else e) →
    IsMove has given next (value r i e) (move activated (value r j d))
is_move activated r i e j d inverse_is either_is = record {
  takes = elim [ ring ↦ λ h t. absurd (false≢true h) | inverse ↦ λ h t. inverse_is ∙ rw t refl | either ↦ λ h t. either_is ∙ rw t refl ];
  keeps = elim [ ring ↦ λ h f. absurd (false≢true h) | inverse ↦ λ h f. inverse_is ∙ rw f refl | either ↦ λ h f. either_is ∙ rw f refl ];
  stay = elim [ ring ↦ λ g. refl | inverse ↦ λ g. absurd (false≢true g) | either ↦ λ g. absurd (false≢true g) ];
}

are_moves : AreMoves has given next start (blocks_then (first ∷ second ∷ []) more)
are_moves = (
  is_move just_either false false true false false refl refl,
  (
    is_move just_inverse false false false true false refl refl,
    (
      is_move just_either false true false true true refl refl,
      (
        is_move just_inverse false true true true true refl refl,
        (
          is_move just_inverse false true true true true refl refl,
          tt,
        ),
      ),
    ),
  ),
)

first_is_block : IsBlock (λ (m : Move Spot). m.activated) has first
first_is_block ring h = absurd (false≢true h)
first_is_block inverse h = refl
first_is_block either h = refl

second_is_block : IsBlock (λ (m : Move Spot). m.activated) has second
second_is_block ring h = absurd (false≢true h)
second_is_block inverse h = refl
second_is_block either h = refl

are_blocks : All (IsBlock (λ (m : Move Spot). m.activated) has) (first ∷ second ∷ [])
are_blocks zero d l = first_is_block
are_blocks (suc zero) d l = second_is_block
are_blocks (suc (suc k)) d l = absurd (omega arith)

settled_value : IsSettledOn has next (value false true true)
settled_value ring h = absurd (false≢true h)
settled_value inverse h = refl
settled_value either h = refl

-- one block was not enough
late : last start first either ≡ false
late = refl

-- two are, by the law, and the moves computed one by one say the same
both_settle : AgreeOn has (last start (blocks_then (first ∷ second ∷ []) more)) (value false true true)
both_settle =
    moves_settle has given next reads rank 2 ranked only start (value false true true) settled_value
    (elim [ ring ↦ λ g. refl | inverse ↦ λ g. absurd (false≢true g) | either ↦ λ g. absurd (false≢true g) ])
    (first ∷ second ∷ []) more are_blocks (omega arith) are_moves

computed : (p : Spot) → last start (blocks_then (first ∷ second ∷ []) more) p ≡ value false true true p
computed p = refl

abbrev opposite : Tern → Tern
opposite no = yes
opposite yes = no
opposite unknown = unknown

abbrev or : Tern → Tern → Tern
or no u = u
or yes u = yes
or unknown no = unknown
or unknown yes = yes
or unknown unknown = unknown

abbrev show : Spot → (Spot → Tern) → Tern
show ring t = opposite (t ring)
show inverse t = opposite (t ring)
show either t = or (t ring) (t inverse)

opposite_monotone : (t u : Tern) → IsBelow t u → IsBelow (opposite t) (opposite u)
opposite_monotone no u b = ap opposite b
opposite_monotone yes u b = ap opposite b
opposite_monotone unknown u b = tt

or_yes : (t : Tern) → yes ≡ or t yes
or_yes no = refl
or_yes yes = refl
or_yes unknown = refl

or_monotone : (t u v w : Tern) → IsBelow t u → IsBelow v w → IsBelow (or t v) (or u w)
or_monotone no u v w b c = subst (λ (x : Tern). IsBelow v (or x w)) b c
or_monotone yes u v w b c = ap (λ x. or x w) b
or_monotone unknown u no w b c = tt
or_monotone unknown u yes w b c = or_yes u ∙ ap (or u) c
or_monotone unknown u unknown w b c = tt

abbrev all : Spot → Bool
all p = true

-- the premises hold even with the ring in the set
monotone : IsMonotone all show
monotone ring t u h b = opposite_monotone (t ring) (u ring) (b ring)
monotone inverse t u h b = opposite_monotone (t ring) (u ring) (b ring)
monotone either t u h b = or_monotone (t ring) (u ring) (t inverse) (u inverse) (b ring) (b inverse)

opposite_exact : (x : Bool) → opposite (known x) ≡ known (not x)
opposite_exact true = refl
opposite_exact false = refl

or_exact : (x y : Bool) → or (known x) (known y) ≡ known (x || y)
or_exact true y = refl
or_exact false y = refl

exact : IsExact all show next
exact ring a h = opposite_exact (a ring)
exact inverse a h = opposite_exact (a ring)
exact either a h = or_exact (a ring) (a inverse)

abbrev points : List Spot
points = ring ∷ inverse ∷ either ∷ []

listed : AreListed all points
listed ring h = (0, omega arith, refl)
listed inverse h = (1, omega arith, refl)
listed either h = (2, omega arith, refl)

unknown_solves : (old : Spot → Tern) → IsSettledFrom all show old (λ q. unknown)
unknown_solves old = record {
  settled = elim [ ring ↦ λ h. refl | inverse ↦ λ h. refl | either ↦ λ h. refl ];
  others = λ p f. absurd (false≢true (sym f));
}

-- nothing is known of a ring that has no settled assignment
ring_unknown : (old t : Spot → Tern) → IsLeast all show old t → (p : Spot) → t p ≡ unknown
ring_unknown old t is p = below_both (t p) unknown (is.least (λ q. unknown) (unknown_solves old) p) tt

-- with a ring known to be true the least solution knows the rest
rest_known : (p : Spot) → round has show (λ q. yes) 3 p ≡ known (value true false true p)
unfolding rounds
rest_known ring = refl
rest_known inverse = refl
rest_known either = refl

rest_least : IsLeast has show (λ q. yes) (round has show (λ q. yes) 3)
rest_least = rounds_least has show (λ q. yes) (λ p t u h b. monotone p t u refl b) points (λ p h. listed p refl)

is_true : (x : Bool) → yes ≡ known x → x ≡ true
is_true true e = refl
is_true false e = cc

-- so by the law it holds in every settled assignment of a true ring
either_true : (a : Spot → Bool) → IsSettledOn has next a → a ring ≡ true → a either ≡ true
either_true a is true_ring =
    let holds = least_approximates has show (λ q. yes) (λ p t u h b. monotone p t u refl b) points (λ p h. listed p refl) next
    (exact_approximates has show next (λ p t u h b. monotone p t u refl b) (λ p b h. exact p b refl)) (round has show (λ q. yes) 3) rest_least a is
    (elim [ ring ↦ λ f. ap known (sym true_ring) | inverse ↦ λ f. absurd (false≢true (sym f)) | either ↦ λ f. absurd (false≢true (sym f)) ]) in
    let below : IsBelow yes (known (a either)) = subst (λ (t : Tern). IsBelow t (known (a either))) (rest_known either) (holds either) in
    is_true (a either) below
