-- The names that expressions read, by their places among the points of an instance, which are the same for all instances of a module.
use Rattle.std.specs.Prelude.{◌≡◌, ◌<◌, ◌≤◌, ℕ, ◌+◌, ◌⊎◌, Bool, true, List, Contains, Some, length, slice_get}
use Rattle.fab_syntax.specs.Plain.{PlainExpr, PlainModule}
use Rattle.fab_meaning.specs.Points.{point}
use Rattle.fab_meaning.specs.Reads.{is_declared, mentions}
use Rattle.fab_equations.specs.Instances.{Instance, expressions}
use Rattle.fab_equations.specs.Numbering.{IsInstanceOfNumber, points_before}
use Rattle.fab_equations.specs.Tables.{IsExpression}
use Rattle.fab_equations.specs.Equations.{IsPoint}
use Rattle.fab_load_points.specs.declared.known.Known.{Known}
use Rattle.fab_load_points.specs.declared.known.KnownReads.{KnownReads}

-- In each instance of a module a name begins at this place.
abbrev pub IsPlaceOf : List PlainModule → (module_number : ℕ) → (name : List ℕ) → (place : ℕ) → Type 0
IsPlaceOf text module_number name place =
    (number : ℕ) (i : Instance) → IsInstanceOfNumber text number i → i.number ≡ module_number → IsPoint text (points_before text number + place) (point i.path name 0)

-- From one index up to another a list has the places of these names of a module, and of none but them. Names without bits have none.
pub record ArePlaces (text : List PlainModule) (module_number : ℕ) (has : List ℕ → Bool) (places : List ℕ) (from end : ℕ) : Type 0 where
  pub rises : from ≤ end
  pub within : end ≤ length places
  pub sound : (k place : ℕ) → from ≤ k → k < end → slice_get places k ≡ Some place → (name : List ℕ) × (has name ≡ true) × IsPlaceOf text module_number name place
  pub all : (name : List ℕ) → has name ≡ true → (number : ℕ) (i : Instance) → IsInstanceOfNumber text number i → i.number ≡ module_number →
      is_declared text (point i.path name 0) ≡ true →
      (k : ℕ) × (place : ℕ) × (from ≤ k) × (k < end) × (slice_get places k ≡ Some place) × IsPlaceOf text module_number name place

-- what is known of an expression
abbrev pub IsKnown : List PlainModule → (places : List ℕ) → (expr : ℕ) → Known → Type 0
IsKnown text places expr known =
    (e : PlainExpr) → IsExpression text expr e → ArePlaces text known.of_module (mentions e) places known.from known.end

pub record AreKnown (text : List PlainModule) (made : KnownReads) : Type 0 where
  pub long : length made.known.items ≡ length (expressions text)
  pub known : (expr : ℕ) (k : Known) → slice_get made.known.items expr ≡ Some (Some k) → IsKnown text made.places.items expr k

-- Places from one index up to another stand on a list as points, behind those that stood there, where an instance begins at this point.
pub record AddsPlaces (first : ℕ) (places : List ℕ) (from end : ℕ) (old new : List ℕ) : Type 0 where
  pub kept : (number : ℕ) → Contains old number → Contains new number
  pub added : (number : ℕ) → Contains new number →
      Contains old number ⊎ ((k : ℕ) × (place : ℕ) × (from ≤ k) × (k < end) × (slice_get places k ≡ Some place) × (number ≡ first + place))
  pub all : (k place : ℕ) → from ≤ k → k < end → slice_get places k ≡ Some place → Contains new (first + place)
