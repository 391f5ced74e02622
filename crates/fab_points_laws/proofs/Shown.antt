-- What is shown through an item of a module, by the ternary values of its names.
use Rattle.std.proofs.Common.{◌≡◌, ℕ, ◌<◌, true, false, List, ◌∷◌, refl, ap, ◌∙◌, Some, Contains}
use Rattle.fab_syntax.specs.Plain.{PlainExpr, variable, PlainJoin, assign, instance, PlainModule}
use Rattle.fab_syntax.specs.Declarations.{module_named, width_in, is_input}
use Rattle.fab_meaning.specs.Points.{Path, point, bit_of, copy, module_at}
use Rattle.fab_meaning.specs.Settled.{Assignment}
use Rattle.fab_use_defs.specs.fab_gen_tile_Names.{port_join}
use Rattle.fab_use_defs.proofs.fab_tile_drives_laws_Driven.{width_of}
use Rattle.fab_use_defs.proofs.fab_text_loads_laws_Drivers.{assigned_by, joined_to, joined_from}
use Rattle.fab_ternary_laws.specs.Operators.{tern_at}
use Rattle.fab_ternary_laws.specs.Values.{tern_value}
use Rattle.fab_use_defs.specs.Sources.{Source, shows}
use Rattle.fab_ternary_laws.specs.Shown.{Terns, first_terns, tern_names}
use Rattle.fab_points_laws.specs.Shown.{tern_source, Shown}
use Rattle.fab_ternary_laws.proofs.Drivers.{get_first_terns}

module _ (text : List PlainModule) (t : Terns) (path : Path) (m : PlainModule) (stands : module_at text path ≡ Some m) where
  pub terns_of_name : (name : List ℕ) → tern_names text t path name ≡ first_terns (width_of m name) (λ bit. t (point path name bit))
  terns_of_name name = ap (λ found. first_terns (width_in found name) (λ bit. t (point path name bit))) stands

  pub variable_tern : (name : List ℕ) (bit : ℕ) → bit < width_of m name → tern_at (tern_value (tern_names text t path) (variable name)) bit ≡ t (point path name bit)
  variable_tern name bit few =
      ap (λ ts. tern_at ts bit) (terns_of_name name) ∙ get_first_terns (width_of m name) (λ bit. t (point path name bit)) bit few

module _ (text : List PlainModule) (inputs held : Assignment) (t : Terns) (path : Path) (m : PlainModule) (stands : module_at text path ≡ Some m) where
  -- an assigned name
  pub shown_assigned : (name : List ℕ) (e : PlainExpr) (bit : ℕ) (s : Source) → Contains m.items (assign name e) →
      tern_at (tern_value (tern_names text t path) e) bit ≡ tern_source inputs held t (point path name bit) s → Shown text inputs held t (point path name bit) s
  shown_assigned name e bit s there is = record { driver = bit_of path e bit; drives = assigned_by text path m stands name e bit there; is = is }

  -- to another name
  pub shown_same : (name other : List ℕ) → Contains m.items (assign name (variable other)) → 0 < width_of m other →
      Shown text inputs held t (point path name 0) (shows (point path other 0))
  shown_same name other there wide =
      shown_assigned name (variable other) 0 (shows (point path other 0)) there (variable_tern text t path m stands other 0 wide)

  module _ (inner : PlainModule) (module_name i : List ℕ) (joins : List PlainJoin) (named : module_named text module_name ≡ Some inner)
      (there : Contains m.items (instance module_name i joins)) where
    -- an input port, from the name that is joined to it
    pub shown_in : (port name : List ℕ) → Contains joins (port_join port (variable name)) → is_input inner.ports port ≡ true → 0 < width_of m name →
        Shown text inputs held t (point (i ∷ path) port 0) (shows (point path name 0))
    shown_in port name among input wide = record {
      driver = bit_of path (variable name) 0;
      drives = joined_to text path m stands inner module_name i joins named there port (variable name) 0 among input;
      is = variable_tern text t path m stands name 0 wide;
    }

    -- a name, from the output port to which it is joined
    pub shown_out : (port name : List ℕ) → Contains joins (port_join port (variable name)) → is_input inner.ports port ≡ false →
        Shown text inputs held t (point path name 0) (shows (point (i ∷ path) port 0))
    shown_out port name among output = record {
      driver = copy (point (i ∷ path) port 0);
      drives = joined_from text path m stands inner module_name i joins named there port name 0 among output;
      is = refl;
    }
