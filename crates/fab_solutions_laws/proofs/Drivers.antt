-- Drivers under more and more values, and least solutions.
use Rattle.std.proofs.Common.{◌≡◌, ℕ, Bool, true, false, List, [], ◌∷◌, length, Contains, Option, Some, None, refl, sym, ap, ◌∙◌, subst, inl, inr}
use Rattle.fab_syntax.specs.Plain.{PlainExpr, PlainJoin, PlainItem, variable, wire, reg, assign, latch, clocked, instance, PlainModule}
use Rattle.fab_syntax.specs.Declarations.{module_named, is_input_of, width_in}
use Rattle.fab_syntax.specs.Sound.{IsSound, item_expressions, joined_expressions}
use Rattle.fab_load_runs_laws.specs.fab_sound_Narrow.{AreNarrow}
use Rattle.fab_load_runs_laws.specs.fab_meaning_Points.{Path, Point, point, Driver, outside, copy, bit_of, flop, hold, Drives, JoinDrives, ItemDrives, module_at}
use Rattle.fab_load_runs_laws.specs.fab_meaning_Settled.{Assignment}
use Rattle.fab_load_runs_laws.specs.fab_meaning_Reads.{is_declared}
use Rattle.fab_load_runs_laws.proofs.fab_meaning_SoundTexts.{contains_first, contains_later}
use Rattle.fab_load_runs_laws.specs.fab_values_Declarations.{Declaration, declarations, found_in}
use Rattle.fab_load_runs_laws.specs.fab_values_Evaluation.{local_width, IsFit}
use Rattle.fab_systems_laws.specs.System.{AreListed}
use Rattle.fab_systems_laws.specs.Ternary.{Tern, unknown, known, IsBelow, AreBelow, IsMonotone}
use Rattle.fab_systems_laws.proofs.Order.{below_self, below_equal, below_trans, below_both}
use Rattle.fab_systems_laws.proofs.Least.{round, rounds_below, rounds_least}
use Rattle.fab_ternary_laws.specs.Operators.{tern_at}
use Rattle.fab_ternary_laws.specs.Values.{tern_value}
use Rattle.fab_ternary_laws.specs.Shown.{Terns, first_terns, tern_names, through, tern_shown}
use Rattle.fab_equations.specs.Instances.{points}
use Rattle.fab_equations.proofs.Points.{declared_are_points}
use Rattle.fab_equations.proofs.Fitting.{in_flat, same_width, item_expression_fits}
use Rattle.fab_load_runs_laws.proofs.Drivers.{drivers}
use Rattle.fab_solutions_laws.specs.Solutions.{tern_given, Solves, IsLeastSolution}
use Rattle.fab_solutions_laws.specs.Laws.{AreUnder, AreWide, IsFitAt, HasFit, GivenIsShown, DriversGrow, DriversFit, LeastSolutionsExist, LeastSolutionsAgree}
use Rattle.fab_solutions_laws.proofs.Orders.{length_first, under_at, under_first, through_grows}
use Rattle.fab_solutions_laws.proofs.Growing.{value_grows}

pub given_shown : GivenIsShown
given_shown text inputs held t p outside = refl
given_shown text inputs held t p (copy other) = refl
given_shown text inputs held t p (bit_of path e bit) = refl
given_shown text inputs held t p (flop path clock next bit) = refl
given_shown text inputs held t p (hold path gate e bit) = refl

-- ---- growing

wide_names : (text : List PlainModule) (t : Terns) (path : Path) (m : PlainModule) → module_at text path ≡ Some m → AreWide (declarations m) (tern_names text t path)
wide_names text t path m stands name =
    length_first (width_in (module_at text path) name) (λ bit. t (point path name bit))
    ∙ ap (λ (o : Option PlainModule). width_in o name) stands ∙ sym (same_width m (variable name))

expression_grows : (text : List PlainModule) (t u : Terns) → AreBelow t u → (path : Path) (e : PlainExpr) → IsFitAt text path e →
    AreUnder (tern_value (tern_names text t path) e) (tern_value (tern_names text u path) e)
expression_grows text t u below path e (m, stands, fit) =
    value_grows (declarations m) (tern_names text t path) (wide_names text t path m stands) (tern_names text u path)
    (λ name. under_first (width_in (module_at text path) name) (λ bit. t (point path name bit)) (λ bit. u (point path name bit)) (λ bit l. below (point path name bit))) e fit

bit_grows : (text : List PlainModule) (t u : Terns) → AreBelow t u → (path : Path) (e : PlainExpr) → IsFitAt text path e → (bit : ℕ) →
    IsBelow (tern_at (tern_value (tern_names text t path) e) bit) (tern_at (tern_value (tern_names text u path) e) bit)
bit_grows text t u below path e fit bit = under_at (tern_value (tern_names text t path) e) (tern_value (tern_names text u path) e) (expression_grows text t u below path e fit) bit

pub drivers_grow : DriversGrow
drivers_grow text inputs later held kept t u i h below p outside fit = i p
drivers_grow text inputs later held kept t u i h below p (copy other) fit = below other
drivers_grow text inputs later held kept t u i h below p (bit_of path e bit) fit = bit_grows text t u below path e fit bit
drivers_grow text inputs later held kept t u i h below p (flop path clock next bit) fit = h p
drivers_grow text inputs later held kept t u i h below p (hold path gate e bit) fit =
    through_grows
    (tern_at (tern_value (tern_names text t path) gate) 0) (tern_at (tern_value (tern_names text t path) e) bit) (held p)
    (tern_at (tern_value (tern_names text u path) gate) 0) (tern_at (tern_value (tern_names text u path) e) bit) (kept p)
    (bit_grows text t u below path gate fit.0 0) (bit_grows text t u below path e fit.1 bit) (h p)

-- ---- the drivers of a sound text

module _ (text : List PlainModule) (sound : IsSound text) (narrow : AreNarrow text) (path : Path) (m : PlainModule) (stands : module_at text path ≡ Some m) where
  fit_of : (item : PlainItem) → Contains m.items item → (e : PlainExpr) → Contains (item_expressions item) e → IsFitAt text path e
  fit_of item holds e there = (m, stands, item_expression_fits text sound path m stands item holds narrow e there)

  join_fit : (module_name i : List ℕ) (joins : List PlainJoin) → Contains m.items (instance module_name i joins) → (join : PlainJoin) → Contains joins join →
      (input : Bool) (to : Option PlainExpr) → join.to ≡ to → (p : Point) (d : Driver) → JoinDrives path i input join.port to p d → HasFit text d
  join_fit module_name i joins holds join among input None is p d drives = absurd drives
  join_fit module_name i joins holds join among true (Some e) is p d drives =
      subst (HasFit text) (sym drives.1)
      (fit_of (instance module_name i joins) holds e
      (in_flat (λ (j : PlainJoin). joined_expressions j.to) joins join e among (subst (λ (o : Option PlainExpr). Contains (joined_expressions o) e) (sym is) (contains_first e e [] refl))))
  join_fit module_name i joins holds join among false (Some e) is p d drives = subst (HasFit text) (sym drives.3) tt

  item_fit : (item : PlainItem) → Contains m.items item → (p : Point) (d : Driver) → ItemDrives text path item p d → HasFit text d
  item_fit (wire shape name) holds p d drives = absurd drives
  item_fit (reg shape name) holds p d drives = absurd drives
  item_fit (assign target e) holds p d drives = subst (HasFit text) (sym drives.1) (fit_of (assign target e) holds e (contains_first e e [] refl))
  item_fit (latch target gate e) holds p d drives =
      subst (HasFit text) (sym drives.1) (
        fit_of (latch target gate e) holds gate (contains_first gate gate (e ∷ []) refl),
        fit_of (latch target gate e) holds e (contains_later gate e (e ∷ []) (contains_first e e [] refl)),
      )
  item_fit (clocked clock target e) holds p d drives = subst (HasFit text) (sym drives.1) (fit_of (clocked clock target e) holds e (contains_first e e [] refl))
  item_fit (instance module_name i joins) holds p d drives =
      join_fit module_name i joins holds drives.0 drives.1 (is_input_of (module_named text module_name) drives.0.port) drives.0.to refl p d drives.2

pub drivers_fit : DriversFit
drivers_fit text sound narrow p d (inl o) = subst (HasFit text) (sym o.is) tt
drivers_fit text sound narrow p d (inr by) = item_fit text sound narrow by.path by.module_here by.stands by.item by.holds p d by.drives

-- ---- least solutions

module _ (text : List PlainModule) (sound : IsSound text) (narrow : AreNarrow text) (inputs held : Terns) where
  abbrev driver : Point → Driver
  driver = (drivers text sound).0

  abbrev show : Point → Terns → Tern
  show p t = tern_given text inputs held t p (driver p)

  monotone : IsMonotone (is_declared text) show
  monotone p t u declared below =
      drivers_grow text inputs inputs held held t u (λ q. below_self (inputs q)) (λ q. below_self (held q)) below p (driver p)
      (drivers_fit text sound narrow p (driver p) ((drivers text sound).1.each p declared))

  abbrev none_known : Terns
  none_known p = unknown

  abbrev last : Terns
  last = round (is_declared text) show none_known (length (points text))

  listed : AreListed (is_declared text) (points text)
  listed = declared_are_points text sound

  last_solves : Solves text inputs held last
  last_solves p d declared drives =
      (rounds_least (is_declared text) show none_known monotone (points text) listed).solves.settled p declared
      ∙ ap (tern_given text inputs held last p) (sym ((drivers text sound).1.only p d declared drives))

  last_least : (u : Terns) → Solves text inputs held u → (p : Point) → is_declared text p ≡ true → IsBelow (last p) (u p)
  last_least u solves p declared =
      rounds_below (is_declared text) show none_known u (λ q f. tt)
      (λ q t h below. subst (λ (x : Tern). IsBelow (show q t) x) (sym (solves q (driver q) h ((drivers text sound).1.each q h))) (monotone q t u h below))
      (length (points text)) p

  pub least_exists : (t : Terns) × IsLeastSolution text inputs held t
  least_exists = (last, record { solves = last_solves; least = last_least })

pub least_solutions_exist : LeastSolutionsExist
least_solutions_exist text sound narrow inputs held = least_exists text sound narrow inputs held

pub least_solutions_agree : LeastSolutionsAgree
least_solutions_agree text inputs held t u a b p declared = below_both (t p) (u p) (a.least u b.solves p declared) (b.least t a.solves p declared)
