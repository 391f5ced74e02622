-- What has been asked for, and what is known of it.
use Rattle.std.specs.Prelude.{◌≡◌, ℕ, ◌≤◌, ◌^◌, ◌++◌, Bool, List, length}
use Rattle.fab_ternary.specs.declared.Tern.{Tern}
use Rattle.fab_compiled.specs.Terns.{IsView}
use Rattle.fab_compiled.specs.Leading.{PointTerns, AreAbove, AgreeOnMarked, FollowLeads, IsMarked}
use Rattle.fab_compiled.specs.declared.tree.Tree.{Tree}
use Rattle.fab_network.specs.declared.network.Source.{Source}
use Rattle.fab_network.specs.Network.{source_tern}
use Rattle.fab_network.specs.Passes.{kept_tern, AreOwn, IsListed}

-- By the numbers of points: what is kept for each, the point to which it is led, and whether it has been asked for. Then the points that stand for
-- themselves, in their order.
pub record Asked : Type 0 where
  pub terns : List Tern
  pub leads : List ℕ
  pub marks : List Bool
  pub own : List ℕ

-- The lists are as long as there are points, and each number in them is one of a point.
pub record IsWhole (asked : Asked) : Type 0 where
  pub terns : length asked.terns ≡ length asked.leads
  pub marks : length asked.marks ≡ length asked.leads
  pub few : length asked.leads ≤ 2 ^ 32
  pub view : IsView asked.terns asked.leads
  pub own : AreOwn asked.own asked.leads

-- an assignment that all that is known leaves possible
pub record IsPossible (asked : Asked) (t : PointTerns) : Type 0 where
  pub above : AreAbove asked.terns asked.leads t
  pub follows : FollowLeads asked.leads asked.marks t

-- What a source has depends on points alone that have been asked for.
abbrev pub IsSourceAsked : List Tree → Asked → Source → Type 0
IsSourceAsked trees asked source =
    (t u : PointTerns) → IsPossible asked t → IsPossible asked u → AgreeOnMarked asked.marks t u → source_tern trees t source ≡ source_tern trees u source

-- What has been asked for stays asked for, and what is known of it stays known; points that come to stand for themselves follow those that did.
pub record AsksMore (old new : Asked) : Type 0 where
  pub long : length new.leads ≡ length old.leads
  pub marks : (point : ℕ) → IsMarked old.marks point → IsMarked new.marks point
  pub more : List ℕ
  pub own : new.own ≡ old.own ++ more
  pub possible : (t : PointTerns) → IsPossible new t → IsPossible old t

-- All is the same but what is kept for points that stand for themselves.
pub record DiffersInOwn (old new : Asked) : Type 0 where
  pub leads : new.leads ≡ old.leads
  pub marks : new.marks ≡ old.marks
  pub own : new.own ≡ old.own
  pub others : (point : ℕ) → (IsListed old.own point → ⊥) → kept_tern new.terns point ≡ kept_tern old.terns point
