-- Moves from assignment to assignment, in which points take what they show.
use Rattle.std.specs.Prelude.{◌≡◌, ℕ, ◌≤◌, Bool, true, false, List, [], ◌∷◌, ◌++◌, length}
use Rattle.std.specs.List.{All, flat_map, list_any}
use Rattle.fab_systems_laws.specs.System.{AgreeOn, ReadsOnly, IsSettledOn, IsRanked, AreListed}

-- which points are activated, all at once, and the assignment that is left
pub record Move (P : Type 0) : Type 0 where
  pub activated : P → Bool
  pub after : P → Bool

-- the activated points of the set take what they show and its other points keep their value; of the points outside only given ones must stay
pub record IsMove {P : Type 0} (has given : P → Bool) (next : P → (P → Bool) → Bool) (before : P → Bool) (move : Move P) : Type 0 where
  pub takes : (p : P) → has p ≡ true → move.activated p ≡ true → move.after p ≡ next p before
  pub keeps : (p : P) → has p ≡ true → move.activated p ≡ false → move.after p ≡ before p
  pub stay : AgreeOn given move.after before

-- each is a move from what the one before it left
abbrev pub AreMoves : {P : Type 0} → (has given : P → Bool) → (next : P → (P → Bool) → Bool) → (start : P → Bool) → List (Move P) → Type 0
AreMoves has given next start [] = Unit {0}
AreMoves has given next start (move ∷ moves) = IsMove has given next start move × AreMoves has given next move.after moves

abbrev pub last : {P : Type 0} → (start : P → Bool) → List (Move P) → P → Bool
last start [] = start
last start (move ∷ moves) = last move.after moves

-- among the events of a block, each point of the set is activated at least once
abbrev pub IsBlock : {E P : Type 0} → (activates : E → P → Bool) → (P → Bool) → List E → Type 0
IsBlock {E} {P} activates has events = (p : P) → has p ≡ true → list_any (λ e. activates e p) events ≡ true

-- blocks one after another, and then anything
abbrev pub blocks_then : {E : Type 0} → (blocks : List (List E)) (more : List E) → List E
blocks_then blocks more = flat_map (λ block. block) blocks ++ more

-- After as many blocks as this number, and whatever follows them, the set stands as in the settled assignment
-- that agrees with the start on the given points.
abbrev pub SettlesAfter : {P : Type 0} → (has given : P → Bool) → (next : P → (P → Bool) → Bool) → ℕ → Type 0
SettlesAfter {P} has given next n =
    (start settled : P → Bool) → IsSettledOn has next settled → AgreeOn given start settled →
    (blocks : List (List (Move P))) (more : List (Move P)) → All (IsBlock (λ move. move.activated) has) blocks → n ≤ length blocks →
    AreMoves has given next start (blocks_then blocks more) →
    AgreeOn has (last start (blocks_then blocks more)) settled

-- A ranked set settles after as many blocks as there are ranks.
abbrev pub BlocksSettle : Type 0 → Type 0
BlocksSettle P =
    (has given : P → Bool) (reads : P → P → Bool) (rank : P → ℕ) (ranks : ℕ) (next : P → (P → Bool) → Bool) →
    IsRanked has given reads rank ranks → ReadsOnly has reads next →
    SettlesAfter has given next ranks

-- A ranked set settles after as many blocks as its list of points is long.
abbrev pub CountedBlocksSettle : Type 0 → Type 0
CountedBlocksSettle P =
    (has given : P → Bool) (reads : P → P → Bool) (rank : P → ℕ) (ranks : ℕ) (next : P → (P → Bool) → Bool) (points : List P) →
    IsRanked has given reads rank ranks → ReadsOnly has reads next → AreListed has points →
    SettlesAfter has given next (length points)
