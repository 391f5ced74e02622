-- How points that stand for themselves are found by tables.
use Rattle.std.specs.Prelude.{◌≡◌, ℕ, Bool, List, Some, slice_get, slice_index}
use Rattle.fab_ternary.specs.declared.Tern.{Tern}
use Rattle.fab_compiled.specs.declared.tree.Tree.{Tree}
use Rattle.fab_network.specs.declared.forms.Form.{Form}
use Rattle.fab_network.specs.declared.forms.Form.TheVariants.{Shows, Takes, Driven}
use Rattle.fab_network.specs.declared.network.Clock.TheVariants.{User}
use Rattle.fab_network.specs.declared.network.Drive.{Drive}
use Rattle.fab_network.specs.declared.network.Drive.TheVariants.{Flop, Value}
use Rattle.fab_network.specs.declared.network.Source.{Source}
use Rattle.fab_network.specs.Passes.{IsListed}
use Rattle.fab_network.specs.Tables.{IsFixed, IsTable, StayFixed}

-- a form of a point with this drive, where these points vary
abbrev pub IsFormBy : List Tree → List ℕ → (marks : List Bool) → (base : List Tern) → Drive → Form → Type 0
IsFormBy trees leads marks base drive (Shows table) = (source : Source) × (drive ≡ Value source) × IsTable trees leads marks base source table
IsFormBy trees leads marks base drive (Takes table) = (next : Source) × (drive ≡ Flop User next) × IsTable trees leads marks base next table
IsFormBy trees leads marks base drive Driven = Unit {0}

-- a form of a point
abbrev pub IsForm : List Tree → List Drive → List ℕ → (marks : List Bool) → (base : List Tern) → (point : ℕ) → Form → Type 0
IsForm trees drives leads marks base point form = (drive : Drive) → slice_get drives point ≡ Some drive → IsFormBy trees leads marks base drive form

-- forms of points in their order, of the first of them at least
abbrev pub AreForms : List Tree → List Drive → List ℕ → (marks : List Bool) → (base : List Tern) → (order : List ℕ) → List Form → Type 0
AreForms trees drives leads marks base order forms =
    (place : ℕ) (form : Form) → slice_get forms place ≡ Some form → IsForm trees drives leads marks base (slice_index order place) form

-- a form that is right of what is kept now
pub record HasForm (trees : List Tree) (drives : List Drive) (leads : List ℕ) (terns : List Tern) (point : ℕ) (form : Form) : Type 0 where
  pub marks : List Bool
  pub base : List Tern
  pub stays : StayFixed marks base terns
  pub is : IsForm trees drives leads marks base point form

-- forms that are right of what is kept now, whatever the points of the order have
pub record HasForms (trees : List Tree) (drives : List Drive) (order leads : List ℕ) (terns : List Tern) (forms : List Form) : Type 0 where
  pub marks : List Bool
  pub base : List Tern
  pub varies : (point : ℕ) → IsListed order point → IsFixed marks base point → ⊥
  pub stays : StayFixed marks base terns
  pub are : AreForms trees drives leads marks base order forms
