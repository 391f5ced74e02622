-- What is given from cycle to cycle.
use Rattle.std.proofs.Common.{◌≡◌, ◌≢◌, ℕ, List, Option, None, Some, refl, ap, ◌∙◌, slice_get}
use Rattle.fab_systems_laws.specs.Ternary.{no, IsBelow}
use Rattle.fab_systems_laws.specs.Ternary.{Tern as PlainTern}
use Rattle.fab_systems_laws.proofs.Order.{below_self}
use Rattle.fab_ternary.specs.declared.Tern.{Tern}
use Rattle.fab_ternary_laws.specs.Shown.{through}
use Rattle.fab_compiled.specs.Leading.{PointTerns}
use Rattle.fab_network.specs.declared.network.Clock.{Clock}
use Rattle.fab_network.specs.declared.network.Drive.{Drive}
use Rattle.fab_network.specs.declared.network.Drive.TheVariants.{Given, Flop, Same, Value, Hold}
use Rattle.fab_network.specs.declared.network.Network.{Network}
use Rattle.fab_network.specs.declared.network.Source.{Source}
use Rattle.fab_network.specs.Network.{source_tern}
use Rattle.fab_network.specs.Solved.{asked_by, Solves}
use Rattle.fab_demand.specs.Asked.{Asked, IsPossible}
use Rattle.fab_demand.specs.Demand.{IsAsked, IsKept, IsKeptBy}
use Rattle.fab_demand.proofs.Lists.{get_within}

module _ (network : Network) (clock : Clock) (given : PointTerns) (terns : List Tern) (leads : List ℕ) where
  kept_itself : (x : PlainTern) (drive : Option Drive) → IsKeptBy network.trees.items clock terns leads x x drive
  kept_itself x None = tt
  kept_itself x (Some Given) = below_self x
  kept_itself x (Some (Flop own next)) = λ apart. refl
  kept_itself x (Some (Same other)) = tt
  kept_itself x (Some (Value source)) = tt
  kept_itself x (Some (Hold gate latched)) = λ closed. refl

  pub given_kept : IsKept network clock given terns leads given
  given_kept point = kept_itself (given point) (slice_get network.drives.items point)

module _ (network : Network) (clock : Clock) (given : PointTerns) (asked : Asked) (looked : IsAsked network clock given asked) (later t next : PointTerns)
    (kept : IsKept network clock given asked.terns asked.leads later) (solves : Solves network.trees.items network.drives.items later t)
    (inputs : (point : ℕ) → slice_get network.drives.items point ≡ Some Given → IsBelow (given point) (next point))
    (flops : (point : ℕ) (own : Clock) (source : Source) → slice_get network.drives.items point ≡ Some (Flop own source) → own ≢ clock →
    next point ≡ later point)
    (latches : (point : ℕ) (gate latched : Source) → slice_get network.drives.items point ≡ Some (Hold gate latched) → next point ≡ t point) where
  possible : IsPossible asked t
  possible = looked.sound later t kept solves

  -- a latch whose gate is 0 has what it holds
  closed_latch : (point : ℕ) (gate latched : Source) → slice_get network.drives.items point ≡ Some (Hold gate latched) →
      source_tern network.trees.items t gate ≡ no → t point ≡ later point
  closed_latch point gate latched is closed =
      solves point (get_within network.drives.items point (Hold gate latched) is)
      ∙ ap (asked_by network.trees.items (later point) t) is
      ∙ ap (λ (x : PlainTern). through x (source_tern network.trees.items t latched) (later point)) closed

  again_by : (point : ℕ) (drive : Option Drive) → slice_get network.drives.items point ≡ drive →
      IsKeptBy network.trees.items clock asked.terns asked.leads (given point) (later point) drive →
      IsKeptBy network.trees.items clock asked.terns asked.leads (given point) (next point) drive
  again_by point None is h = tt
  again_by point (Some Given) is h = inputs point is
  again_by point (Some (Flop own source)) is h = λ apart. flops point own source is apart ∙ h apart
  again_by point (Some (Same other)) is h = tt
  again_by point (Some (Value source)) is h = tt
  again_by point (Some (Hold gate latched)) is h =
      λ closed. latches point gate latched is ∙ closed_latch point gate latched is (closed t possible.above) ∙ h closed

  pub kept_again : IsKept network clock given asked.terns asked.leads next
  kept_again point = again_by point (slice_get network.drives.items point) refl (kept point)
