-- What points have and what is held, by the numbers of the points.
use Rattle.std.specs.Prelude.{◌≡◌, ℕ, ◌<◌, ◌≤◌, ◌^◌, Bool, true, List, length, slice_get, slice_index, Some}
use Rattle.fab_systems_laws.specs.Ternary.{unknown}
use Rattle.fab_systems_laws.specs.Ternary.{Tern as PlainTern}
use Rattle.fab_compiled.specs.Leading.{PointTerns}
use Rattle.fab_compiled.specs.Terns.{seen}
use Rattle.fab_ternary.specs.declared.Tern.{Tern}
use Rattle.fab_ternary.specs.Terns.{is_known}
use Rattle.fab_network.specs.declared.network.Clock.{Clock}
use Rattle.fab_network.specs.declared.network.Clock.TheVariants.{User}
use Rattle.fab_network.specs.declared.network.Drive.{Drive}
use Rattle.fab_network.specs.declared.network.Drive.TheVariants.{Given, Flop, Same, Value, Hold}
use Rattle.fab_network.specs.declared.network.Network.{Network}
use Rattle.fab_network.specs.declared.network.Source.{Source}
use Rattle.fab_network.specs.Passes.{kept_tern}
use Rattle.fab_wiring.specs.Given.{given_tern, left_by}
use Rattle.fab_stepping.specs.declared.board.Board.{Board}

-- each point leads to itself
pub record LeadToThemselves (count : ℕ) (leads : List ℕ) : Type 0 where
  pub long : length leads ≡ count
  pub own : (point : ℕ) → point < count → slice_index leads point ≡ point

-- a board of the points of a network
pub record IsBoardOf (network : Network) (board : Board) : Type 0 where
  pub few : length network.drives.items ≤ 2 ^ 32
  pub terns : length board.terns.items ≡ length network.drives.items
  pub held : length board.held.items ≡ length network.drives.items
  pub leads : LeadToThemselves (length network.drives.items) board.leads.items

-- what inputs have and what flip-flops hold is known
pub record AreKnown (network : Network) (board : Board) : Type 0 where
  pub inputs : (point : ℕ) → slice_get network.drives.items point ≡ Some Given → is_known (kept_tern board.terns.items point) ≡ true
  pub flops : (point : ℕ) (clock : Clock) (next : Source) → slice_get network.drives.items point ≡ Some (Flop clock next) →
      is_known (kept_tern board.held.items point) ≡ true

-- what points have
abbrev pub shown_on : Board → PointTerns
shown_on board = seen board.terns.items board.leads.items

-- what is given to inputs, which have it, and to flip-flops and latches, which hold it
abbrev pub given_on : Network → Board → PointTerns
given_on network board = given_tern network.drives.items (shown_on board) (kept_tern board.held.items)

-- what a tick of UserCLK leaves with a point
abbrev pub left_on : Network → Board → (point : ℕ) → PlainTern
left_on network board point = left_by network.trees.items User (kept_tern board.held.items point) (shown_on board) point (slice_get network.drives.items point)

-- Flip-flops and latches hold what the tick leaves, and no point moves.
pub record IsTicked (network : Network) (before after : Board) : Type 0 where
  pub terns : after.terns ≡ before.terns
  pub leads : after.leads ≡ before.leads
  pub long : length after.held.items ≡ length before.held.items
  pub left : (point : ℕ) → point < length network.drives.items → kept_tern after.held.items point ≡ left_on network before point

-- where points are marked so, one list has what the other has, and elsewhere what it had
pub record IsTakenOver (marks : List Bool) (mark : Bool) (from old new : List Tern) : Type 0 where
  pub long : length new ≡ length old
  pub taken : (point : ℕ) → slice_get marks point ≡ Some mark → kept_tern new point ≡ kept_tern from point
  pub others : (point : ℕ) → (slice_get marks point ≡ Some mark → ⊥) → kept_tern new point ≡ kept_tern old point

-- what a point is known to have at first
abbrev pub begun_by : Drive → (shown held : PlainTern) → PlainTern
begun_by Given shown held = shown
begun_by (Flop clock next) shown held = held
begun_by (Same other) shown held = unknown
begun_by (Value source) shown held = unknown
begun_by (Hold gate latched) shown held = unknown

-- Inputs and flip-flops have what is given to them, and of all other points nothing is known.
pub record IsBegun (network : Network) (board : Board) (solution : List Tern) : Type 0 where
  pub long : length solution ≡ length network.drives.items
  pub begun : (point : ℕ) (drive : Drive) → slice_get network.drives.items point ≡ Some drive →
      kept_tern solution point ≡ begun_by drive (kept_tern board.terns.items point) (kept_tern board.held.items point)
