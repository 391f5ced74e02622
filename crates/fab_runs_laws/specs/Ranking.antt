-- The order in which the points of a design rest on one another.
use Rattle.std.specs.Prelude.{◌≡◌, ◌⊎◌, ◌<◌, ℕ, suc, Bool, true, false, List, [], ◌∷◌, map, length, if◌then◌else◌, All, Contains}
use Rattle.std.specs.List.{list_any}
use Rattle.fab_systems_laws.specs.System.{IsRanked}
use Rattle.fab_meaning.specs.Points.{Point}
use Rattle.fab_meaning.specs.Reads.{same_point}
use Rattle.fab_model.specs.Grid.{PlainFabric}
use Rattle.fab_fabric.specs.Fabric.{AreTiles}
use Rattle.fab_netlist.specs.Plain.{PlainNetlist}
use Rattle.fab_netlist.specs.WellMade.{IsWellMade}
use Rattle.fab_netlist.specs.Cycles.{HasNoCycle}
use Rattle.fab_netlist.specs.Packed.{PlainPacked}
use Rattle.fab_netlist.specs.Packing.{packed}
use Rattle.fab_implementation.specs.Plain.{Pad, PlainImplementation}
use Rattle.fab_points_laws.specs.fab_legal_Legal.{IsLegal}
use Rattle.fab_points_laws.specs.fab_use_defs_Design.{IsSourced}
use Rattle.fab_points_laws.specs.fab_use_defs_Sources.{Source, top_input, source_reads, HasSource}

-- a point, and a source of it
abbrev pub Rule : Type 0
Rule = Point × Source

abbrev pub ruled : List Rule → List Point
ruled rules = map (λ (rule : Rule). rule.0) rules

-- The source of each rule reads points that come before it; some points come before all.
abbrev pub StandBehind : PlainFabric → PlainPacked → PlainImplementation → (first : List Point) → List Rule → Type 0
StandBehind fabric packed implementation first [] = Unit {0}
StandBehind fabric packed implementation first (rule ∷ rules) =
    HasSource fabric packed implementation rule.0 rule.1 × ((q : Point) → Contains (source_reads rule.1) q → Contains first q) × StandBehind fabric packed implementation (rule.0 ∷ first) rules

-- Route, cell and pad points have rules in an order.
abbrev pub DesignHasOrder : Type 0
DesignHasOrder =
    (fabric : PlainFabric) (netlist : PlainNetlist) (fixed : List Pad) (implementation : PlainImplementation) (ps : List Point) →
    AreTiles fabric → IsWellMade netlist → HasNoCycle netlist → IsLegal fabric (packed netlist) fixed implementation →
    All (IsSourced fabric (packed netlist) implementation) ps →
    (rules : List Rule) × StandBehind fabric (packed netlist) implementation [] rules × ((p : Point) → Contains ps p → Contains (ruled rules) p)

-- the source that the first rule of a point gives it, and the place of that rule
abbrev pub source_at : List Rule → Point → Source
source_at [] p = top_input
source_at (rule ∷ rules) p = if same_point rule.0 p then rule.1 else source_at rules p

abbrev pub place_at : List Rule → Point → ℕ
place_at [] p = 0
place_at (rule ∷ rules) p = if same_point rule.0 p then 0 else suc (place_at rules p)

abbrev pub reads_by : List Rule → Point → Point → Bool
reads_by rules p q = list_any (λ r. same_point r q) (source_reads (source_at rules p))

-- Rules in an order rank the points of a set: the rank of a point is the place of its first rule.
abbrev pub RulesRank : Type 0
RulesRank =
    (fabric : PlainFabric) (packed : PlainPacked) (implementation : PlainImplementation) (rules : List Rule) (has given : Point → Bool) →
    StandBehind fabric packed implementation [] rules → ((p : Point) → has p ≡ true → Contains (ruled rules) p) →
    ((p : Point) → given p ≡ true → has p ≡ false) →
    ((p q : Point) → has p ≡ true → Contains (source_reads (source_at rules p)) q → (given q ≡ true) ⊎ (has q ≡ true)) →
    IsRanked has given (reads_by rules) (place_at rules) (length rules)
    × ((p : Point) → has p ≡ true → HasSource fabric packed implementation p (source_at rules p))

-- Route, cell and pad points have ranks, each above those of the points that a source of it reads.
abbrev pub DesignRanks : Type 0
DesignRanks =
    (fabric : PlainFabric) (netlist : PlainNetlist) (fixed : List Pad) (implementation : PlainImplementation) (ps : List Point) →
    AreTiles fabric → IsWellMade netlist → HasNoCycle netlist → IsLegal fabric (packed netlist) fixed implementation →
    All (IsSourced fabric (packed netlist) implementation) ps →
    (rank : Point → ℕ) × (ranks : ℕ) × ((p : Point) → rank p < ranks)
    × ((p : Point) → Contains ps p → (s : Source) × HasSource fabric (packed netlist) implementation p s × All (λ q. rank q < rank p) (source_reads s))
