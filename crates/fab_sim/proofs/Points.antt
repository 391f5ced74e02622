-- Points of a text and their drives, by number.
use Rattle.std.proofs.Common.{◌≡◌, ◌⊎◌, ℕ, ◌<◌, List, [], Option, None, Some, refl, sym, ap, subst, ◌∙◌, inl, inr, arith, true}
use Rattle.std.specs.List.{slice_get}
use Rattle.std.proofs.lemmas.Bool.{ltb-true}
use Rattle.std.proofs.lemmas.Option.{slice_get_within}
use Rattle.fab_syntax.specs.Declarations.{is_input_of, width, width_in}
use Rattle.fab_syntax.specs.Plain.{PlainExpr, PlainModule}
use Rattle.fab_syntax.specs.Sound.{IsSound}
use Rattle.fab_syntax.specs.declared.tree.Shape.{Shape}
use Rattle.fab_meaning.specs.Points.{Path, Point, point, Driver, outside, copy, bit_of, flop, hold, module_at, Drives, IsStored}
use Rattle.fab_meaning.specs.Reads.{is_declared}
use Rattle.fab_meaning.specs.Runs.{clock_of}
use Rattle.fab_values.specs.Declarations.{declared_at, found_in}
use Rattle.fab_values.specs.declared.names.Local.{Local}
use Rattle.fab_values.specs.declared.names.Role.TheVariants as roles
use Rattle.fab_equations.specs.Instances.{points}
use Rattle.fab_equations.specs.Equations.{IsPoint}
use Rattle.fab_equations.proofs.Numbering.{same_value, some_there}
use Rattle.fab_equations.proofs.Points.{found_width, points_are_declared}
use Rattle.fab_equations.proofs.Roles.{input_role, is_input_role}
use Rattle.fab_compiled.specs.declared.tree.Tree.{Tree}
use Rattle.fab_network.specs.declared.network.Clock.{Clock}
use Rattle.fab_network.specs.declared.network.Source.{Source}
use Rattle.fab_network.specs.declared.network.Drive.{Drive}
use Rattle.fab_network.specs.declared.network.Drive.TheVariants.{Given, Flop, Same, Value, Hold}
use Rattle.fab_network.specs.declared.network.Network.{Network}
use Rattle.fab_wiring.specs.Wiring.{clock_called, IsDriveOf}
use Rattle.fab_wiring.proofs.Solved.{point_there}
use Rattle.fab_state_points.specs.Finding.{IsDeclared}
use Rattle.fab_sim.specs.Making.{IsNetworkOf}

pub one_point : (text : List PlainModule) (number : ℕ) (p q : Point) → IsPoint text number p → IsPoint text number q → p ≡ q
one_point text number p q a b = same_value (slice_get (points text) number) p q a b

pub number_declared : (text : List PlainModule) → IsSound text → (number : ℕ) (p : Point) → IsPoint text number p → is_declared text p ≡ true
number_declared text sound number p is = points_are_declared text sound p (point_there text number p is)

pub holds_or_not : (d : Driver) → IsStored d ⊎ (IsStored d → ⊥)
holds_or_not outside = inr (λ h. h)
holds_or_not (copy other) = inr (λ h. h)
holds_or_not (bit_of path e bit) = inr (λ h. h)
holds_or_not (flop path clock next bit) = inl tt
holds_or_not (hold path gate e bit) = inl tt

-- ---- drives and drivers

module _ (text : List PlainModule) (trees : List Tree) where
  outside_given : (drive : Drive) → IsDriveOf text trees outside drive → drive ≡ Given
  outside_given Given of = refl
  outside_given (Flop clock next) of = absurd of
  outside_given (Same other) of = absurd of
  outside_given (Value source) of = absurd of
  outside_given (Hold gate latched) of = absurd of

  given_outside : (d : Driver) → IsDriveOf text trees d Given → d ≡ outside
  given_outside outside of = refl
  given_outside (copy other) of = absurd of
  given_outside (bit_of path e bit) of = absurd of
  given_outside (flop path clock next bit) of = absurd of
  given_outside (hold path gate e bit) of = absurd of

  pub record IsFlopOf (path : Path) (clock : List ℕ) (drive : Drive) : Type 0 where
    pub kind : Clock
    pub source : Source
    pub is : drive ≡ Flop kind source
    pub clocked : kind ≡ clock_called (clock_of text path clock)

  pub flop_drive : (path : Path) (clock : List ℕ) (next : PlainExpr) (bit : ℕ) (drive : Drive) → IsDriveOf text trees (flop path clock next bit) drive →
      IsFlopOf path clock drive
  flop_drive path clock next bit Given of = absurd of
  flop_drive path clock next bit (Flop kind source) of = record { kind = kind; source = source; is = refl; clocked = of.0 }
  flop_drive path clock next bit (Same other) of = absurd of
  flop_drive path clock next bit (Value source) of = absurd of
  flop_drive path clock next bit (Hold gate latched) of = absurd of

  pub hold_drive : (path : Path) (gate e : PlainExpr) (bit : ℕ) (drive : Drive) → IsDriveOf text trees (hold path gate e bit) drive →
      (opens : Source) × (latched : Source) × (drive ≡ Hold opens latched)
  hold_drive path gate e bit Given of = absurd of
  hold_drive path gate e bit (Flop kind source) of = absurd of
  hold_drive path gate e bit (Same other) of = absurd of
  hold_drive path gate e bit (Value source) of = absurd of
  hold_drive path gate e bit (Hold opens latched) of = (opens, latched, refl)

module _ (text : List PlainModule) (network : Network) (of : IsNetworkOf text network) where
  pub outside_drive : (number : ℕ) (p : Point) → IsPoint text number p → Drives text p outside → slice_get network.drives.items number ≡ Some Given
  outside_drive number p is driven =
      let w = of.drives number p outside is driven in
      w.is ∙ ap Some (outside_given text network.trees.items w.drive w.of)

  pub given_driver : (number : ℕ) (p : Point) (d : Driver) → IsPoint text number p → Drives text p d → slice_get network.drives.items number ≡ Some Given →
      d ≡ outside
  given_driver number p d is driven given =
      let w = of.drives number p d is driven in
      let same : w.drive ≡ Given = same_value (slice_get network.drives.items number) w.drive Given w.is given in
      given_outside text network.trees.items d (subst (λ (x : Drive). IsDriveOf text network.trees.items d x) same w.of)

  pub held_not_given : (number : ℕ) (p : Point) (d : Driver) → IsPoint text number p → Drives text p d → IsStored d →
      slice_get network.drives.items number ≡ Some Given → ⊥
  held_not_given number p d is driven holds given = subst IsStored (given_driver number p d is driven given) holds

  -- the point of an input
  pub point_of : (number : ℕ) (drive : Drive) → slice_get network.drives.items number ≡ Some drive → (p : Point) × IsPoint text number p
  point_of number drive is =
      let long = of.long in
      let within = slice_get_within network.drives.items number drive is in
      some_there (points text) number (omega (arith, long, within))

-- ---- inputs of the top

pub input_of : (m : Option PlainModule) (name : List ℕ) (local : Local) → found_in (declared_at m) name ≡ Some local → local.role ≡ roles.Input →
    is_input_of m name ≡ true
input_of None name local is role = cc
input_of (Some m) name local is role = input_role 0 m.ports m.items name local is ∙ ap is_input_role role

pub input_drives : (text : List PlainModule) (name : List ℕ) (shape : Shape) (bit : ℕ) → IsDeclared text [] name shape roles.Input →
    Drives text (point [] name bit) outside
input_drives text name shape bit declared =
    inl (record { top = refl; input = input_of (module_at text []) name declared.local declared.is declared.role_is; is = refl })

wide : (m : Option PlainModule) (name : List ℕ) (local : Local) → found_in (declared_at m) name ≡ Some local → width_in m name ≡ width local.shape
wide None name local is = cc
wide (Some m) name local is = found_width m name local is

pub input_width : (text : List PlainModule) (name : List ℕ) (shape : Shape) → IsDeclared text [] name shape roles.Input →
    width_in (module_at text []) name ≡ width shape
input_width text name shape declared = wide (module_at text []) name declared.local declared.is ∙ ap width declared.shape_is

-- a bit of an input that stands at a point of its name
pub input_bit : (text : List PlainModule) (name : List ℕ) (shape : Shape) → IsDeclared text [] name shape roles.Input → (p : Point) → p.path ≡ [] →
    p.name ≡ name →
    is_declared text p ≡ true → (point [] name p.bit ≡ p) × (p.bit < width shape)
input_bit text name shape declared p top named there =
    let less = ltb-true p.bit (width_in (module_at text p.path) p.name) there in
    let here : width_in (module_at text p.path) p.name ≡ width_in (module_at text []) name = (λ k. width_in (module_at text (top k)) (named k)) in
    let is : width_in (module_at text []) name ≡ width shape = input_width text name shape declared in
    let same : p ≡ point [] name p.bit = (λ k. point (top k) (named k) p.bit) in
    (sym same, omega (arith, less, here, is))
