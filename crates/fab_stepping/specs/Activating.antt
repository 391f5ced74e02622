-- Activations of points, by their numbers.
use Rattle.std.specs.Prelude.{◌≡◌, ◌≢◌, ℕ, ◌<◌, true, List, [], ◌∷◌, Option, None, Some, length, slice_get, slice_index}
use Rattle.fab_systems_laws.specs.Ternary.{Tern as PlainTern}
use Rattle.fab_ternary.specs.declared.Tern.{Tern}
use Rattle.fab_ternary.specs.Terns.{is_known, plain_tern}
use Rattle.fab_network.specs.declared.network.Drive.{Drive}
use Rattle.fab_network.specs.declared.network.Drive.TheVariants.{Given, Flop, Same, Value, Hold}
use Rattle.fab_network.specs.declared.network.Network.{Network}
use Rattle.fab_network.specs.Passes.{kept_tern}
use Rattle.fab_network.specs.Solved.{asked_tern}
use Rattle.fab_stepping.specs.declared.board.Board.{Board}
use Rattle.fab_stepping.specs.Boards.{given_on, shown_on}

-- what is held where a point has been activated: a latch holds what its point has
abbrev pub held_by : Option Drive → (held shown : PlainTern) → PlainTern
held_by (Some (Hold gate latched)) held shown = shown
held_by (Some Given) held shown = held
held_by (Some (Flop clock next)) held shown = held
held_by (Some (Same other)) held shown = held
held_by (Some (Value source)) held shown = held
held_by None held shown = held

-- a point has what it had and holds what it held
pub record IsSameAt (point : ℕ) (before after : Board) : Type 0 where
  pub shown : kept_tern after.terns.items point ≡ kept_tern before.terns.items point
  pub held : kept_tern after.held.items point ≡ kept_tern before.held.items point

-- what lists of held values are before and after that
pub record IsHeldAt (drive : Option Drive) (point : ℕ) (found : Tern) (old new : List Tern) : Type 0 where
  pub long : length new ≡ length old
  pub here : kept_tern new point ≡ held_by drive (kept_tern old point) (plain_tern found)
  pub others : (other : ℕ) → other ≢ point → kept_tern new other ≡ kept_tern old other

-- An activated point takes what its drive asks of it, where all points stand before.
pub record IsActivated (network : Network) (point : ℕ) (before after : Board) : Type 0 where
  pub leads : after.leads ≡ before.leads
  pub terns_long : length after.terns.items ≡ length before.terns.items
  pub held_long : length after.held.items ≡ length before.held.items
  pub takes : kept_tern after.terns.items point ≡ asked_tern network.trees.items network.drives.items (given_on network before) (shown_on before) point
  pub holds : kept_tern after.held.items point ≡ held_by (slice_get network.drives.items point) (kept_tern before.held.items point) (kept_tern after.terns.items point)
  pub others : (other : ℕ) → other ≢ point → IsSameAt other before after

-- points activated one after another
abbrev pub AreActivated : Network → (order : List ℕ) → (before after : Board) → Type 0
AreActivated network [] before after = before ≡ after
AreActivated network (point ∷ order) before after = (between : Board) × IsActivated network point before between × AreActivated network order between after

-- no point stands twice in an order
abbrev pub AreApart : List ℕ → Type 0
AreApart order = (place later : ℕ) → place < later → later < length order → slice_index order place ≢ slice_index order later

-- a point that a solution knows has changed
pub record HasChanged (solution : List Tern) (before after : Board) : Type 0 where
  pub point : ℕ
  pub is_known : is_known (kept_tern solution point) ≡ true
  pub changed : kept_tern after.terns.items point ≢ kept_tern before.terns.items point
