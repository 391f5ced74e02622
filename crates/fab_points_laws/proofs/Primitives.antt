-- The points of the modules of LUTs and pads.
use Rattle.std.proofs.Common.{◌≡◌, ℕ, zero, suc, ◌^◌, ◌%◌, ◌<◌, ◌≤◌, List, [], ◌∷◌, codes, length, map, take, get_or, refl, ap, ◌∙◌, inr, arith, Some}
use Rattle.fab_kinds.specs.declared.kind.Kind.TheVariants as kinds
use Rattle.fab_systems_laws.specs.Ternary.{Tern, no, yes, known}
use Rattle.fab_syntax.specs.Plain.{PlainExpr, PlainModule, variable, complement, assign}
use Rattle.fab_syntax.specs.Declarations.{declared_width}
use Rattle.fab_meaning.specs.Points.{Path, Point, point, flop, module_at}
use Rattle.fab_meaning.specs.Settled.{Assignment}
use Rattle.fab_meaning.specs.Runs.{user_clock_name}
use Rattle.fab_netlist.specs.WellMade.{table_bit}
use Rattle.fab_meaning.specs.Ports.{config_name}
use Rattle.fab_prim.specs.Ports.{top_name}
use Rattle.fab_prim.specs.Modules as modules
use Rattle.fab_prim.specs.Modules.{flip_flop_name, flip_flop, module_of_kind}
use Rattle.fab_ternary_laws.specs.Operators as operators
use Rattle.fab_ternary_laws.specs.Operators.{tern_at, entry}
use Rattle.fab_ternary_laws.specs.Values.{tern_value}
use Rattle.fab_use_defs.specs.Sources as sources
use Rattle.fab_use_defs.specs.Sources.{Source, shows, inverts, looks_up}
use Rattle.fab_ternary_laws.specs.Shown.{Terns, first_terns, tern_names}
use Rattle.fab_points_laws.specs.Shown.{tern_source, table_terns, Shown}
use Rattle.fab_ternary_laws.proofs.Drivers.{first_terns_known}
use Rattle.fab_points_laws.proofs.Shown.{terns_of_name, shown_assigned}
use Rattle.fab_points_laws.proofs.Entries.{index_drops}

take_map : (t : Terns) (n : ℕ) (ps : List Point) → take n (map t ps) ≡ map t (take n ps)
take_map t zero ps = refl
take_map t (suc n) [] = refl
take_map t (suc n) (p ∷ ps) = ap (λ ts. t p ∷ ts) (take_map t n ps)

-- the ternary bits of the names of an instance, by the declarations of its module
abbrev seen : PlainModule → Path → Terns → List ℕ → List Tern
seen m path t name = first_terns (declared_width m.ports m.items name) (λ bit. t (point path name bit))

module _ (m : PlainModule) (text : List PlainModule) (path : Path) (inputs held : Assignment) (t : Terns) (stands : module_at text path ≡ Some m) where
  same_names : tern_names text t path ≡ seen m path t
  same_names = λ j name. terns_of_name text t path m stands name j

  by_item : (name : List ℕ) (e : PlainExpr) (place : ℕ) (s : Source) → place < length m.items → get_or m.items place (assign name e) ≡ assign name e →
      tern_at (tern_value (seen m path t) e) 0 ≡ tern_source inputs held t (point path name 0) s → Shown text inputs held t (point path name 0) s
  by_item name e place s within there is =
      shown_assigned text inputs held t path m stands name e 0 s (place, within, there) (ap (λ names. tern_at (tern_value names e) 0) same_names ∙ is)

  by_flop : (next : PlainExpr) (place : ℕ) → place < length m.items → get_or m.items place (flip_flop next) ≡ flip_flop next →
      Shown text inputs held t (point path flip_flop_name 0) sources.flip_flop
  by_flop next place within there = record {
    driver = flop path user_clock_name next 0;
    drives = inr (record { path = path; module_here = m; item = flip_flop next; stands = stands; holds = (place, within, there); drives = (refl, refl) });
    is = refl;
  }

-- ---- LUTs

module _ (text : List PlainModule) (path : Path) (inputs held : Assignment) (t : Terns) (stands : module_at text path ≡ Some (module_of_kind kinds.Lut4c)) where
  abbrev lut : PlainModule
  lut = module_of_kind kinds.Lut4c

  abbrev at : List ℕ → Point
  at name = point path name 0

  -- without carry, the first bit of the index is the first pin
  pub x_shown : t (point path config_name 17) ≡ no → Shown text inputs held t (at (codes "x")) (shows (at (codes "I0")))
  x_shown plain =
      by_item lut text path inputs held t stands (codes "x") (modules.one_of (modules.config_bit 17) (codes "Ci") (codes "I0")) 5 (shows (at (codes "I0"))) (omega arith) refl
      (ap (λ test. tern_at (operators.one_of test (t (at (codes "Ci")) ∷ []) (t (at (codes "I0")) ∷ [])) 0) plain)

  abbrev index : List Point
  index = at (codes "x") ∷ at (codes "I1") ∷ at (codes "I2") ∷ at (codes "I3") ∷ []

  -- a table of so many inputs
  pub t_shown : (bits n : ℕ) → n ≤ 4 → ((place : ℕ) → place < 16 → table_bit bits place ≡ table_bit bits (place % 2 ^ n)) →
      ((place : ℕ) → place < 16 → t (point path (codes "init") place) ≡ known (table_bit bits place)) →
      Shown text inputs held t (at (codes "t")) (looks_up bits (take n index))
  t_shown bits n few repeats knows =
      by_item lut text path inputs held t stands (codes "t") modules.lut_value 6 (looks_up bits (take n index)) (omega arith) refl
      (ap (λ ts. entry ts (map t index)) (first_terns_known 16 (λ place. t (point path (codes "init") place)) (table_bit bits) knows)
      ∙ index_drops (table_bit bits) n (t (at (codes "x"))) (t (at (codes "I1"))) (t (at (codes "I2"))) (t (at (codes "I3"))) few repeats
      ∙ ap (entry (table_terns bits)) (take_map t n index))

  pub q_shown : Shown text inputs held t (at flip_flop_name) sources.flip_flop
  q_shown = by_flop lut text path inputs held t stands modules.lut_next 7 (omega arith) refl

  pub o_held : t (point path config_name 16) ≡ yes → Shown text inputs held t (at (codes "O")) (shows (at flip_flop_name))
  o_held latched =
      by_item lut text path inputs held t stands (codes "O") (modules.one_of (modules.config_bit 16) flip_flop_name (codes "t")) 8 (shows (at flip_flop_name)) (omega arith) refl
      (ap (λ test. tern_at (operators.one_of test (t (at flip_flop_name) ∷ []) (t (at (codes "t")) ∷ [])) 0) latched)

  pub o_table : t (point path config_name 16) ≡ no → Shown text inputs held t (at (codes "O")) (shows (at (codes "t")))
  o_table plain =
      by_item lut text path inputs held t stands (codes "O") (modules.one_of (modules.config_bit 16) flip_flop_name (codes "t")) 8 (shows (at (codes "t"))) (omega arith) refl
      (ap (λ test. tern_at (operators.one_of test (t (at flip_flop_name) ∷ []) (t (at (codes "t")) ∷ [])) 0) plain)

-- ---- pads

module _ (text : List PlainModule) (path : Path) (inputs held : Assignment) (t : Terns) (stands : module_at text path ≡ Some (module_of_kind kinds.Io)) where
  abbrev pad : PlainModule
  pad = module_of_kind kinds.Io

  pub pad_o_shown : Shown text inputs held t (point path (codes "O") 0) (shows (point path top_name 0))
  pad_o_shown = by_item pad text path inputs held t stands (codes "O") (variable top_name) 2 (shows (point path top_name 0)) (omega arith) refl refl

  pub i_top_shown : Shown text inputs held t (point path (codes "I_top") 0) (shows (point path (codes "I") 0))
  i_top_shown = by_item pad text path inputs held t stands (codes "I_top") (variable (codes "I")) 4 (shows (point path (codes "I") 0)) (omega arith) refl refl

  pub t_top_shown : Shown text inputs held t (point path (codes "T_top") 0) (inverts (point path (codes "T") 0))
  t_top_shown = by_item pad text path inputs held t stands (codes "T_top") (complement (variable (codes "T"))) 5 (inverts (point path (codes "T") 0)) (omega arith) refl refl
