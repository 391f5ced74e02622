-- What drives a point, by the item that stands in a module.
use Rattle.std.proofs.Common.{◌≡◌, ℕ, true, false, List, ◌∷◌, refl, sym, ap, ◌∙◌, subst, inr, Some, Contains}
use Rattle.fab_syntax.specs.Plain.{PlainExpr, variable, PlainJoin, assign, latch, clocked, instance, PlainModule}
use Rattle.fab_syntax.specs.Declarations.{module_named, is_input, is_input_of}
use Rattle.fab_meaning.specs.Points.{Path, point, bit_of, hold, flop, copy, JoinDrives, Drives, module_at}
use Rattle.fab_drives_laws.specs.fab_gen_tile_Names.{port_join}

module _ (text : List PlainModule) (path : Path) (m : PlainModule) (stands : module_at text path ≡ Some m) where
  pub assigned_by : (name : List ℕ) (e : PlainExpr) (bit : ℕ) → Contains m.items (assign name e) → Drives text (point path name bit) (bit_of path e bit)
  assigned_by name e bit there = inr (record { path = path; module_here = m; item = assign name e; stands = stands; holds = there; drives = (refl, refl) })

  pub latched_by : (name : List ℕ) (gate e : PlainExpr) (bit : ℕ) → Contains m.items (latch name gate e) → Drives text (point path name bit) (hold path gate e bit)
  latched_by name gate e bit there =
      inr (record { path = path; module_here = m; item = latch name gate e; stands = stands; holds = there; drives = (refl, refl) })

  pub clocked_by : (clock name : List ℕ) (next : PlainExpr) (bit : ℕ) → Contains m.items (clocked clock name next) →
      Drives text (point path name bit) (flop path clock next bit)
  clocked_by clock name next bit there =
      inr (record { path = path; module_here = m; item = clocked clock name next; stands = stands; holds = there; drives = (refl, refl) })

  module _ (inner : PlainModule) (module_name i : List ℕ) (joins : List PlainJoin) (named : module_named text module_name ≡ Some inner)
      (there : Contains m.items (instance module_name i joins)) where
    -- an expression drives an input port
    pub joined_to : (port : List ℕ) (e : PlainExpr) (bit : ℕ) → Contains joins (port_join port e) → is_input inner.ports port ≡ true →
        Drives text (point (i ∷ path) port bit) (bit_of path e bit)
    joined_to port e bit among input =
        let p = point (i ∷ path) port bit in
        let is : is_input_of (module_named text module_name) port ≡ true = ap (λ found. is_input_of found port) named ∙ input in
        inr (record {
          path = path;
          module_here = m;
          item = instance module_name i joins;
          stands = stands;
          holds = there;
          drives = (port_join port e, among, subst (λ b. JoinDrives path i b port (Some e) p (bit_of path e bit)) (sym is) (refl, refl));
        })

    -- an output port drives a name
    pub joined_from : (port name : List ℕ) (bit : ℕ) → Contains joins (port_join port (variable name)) → is_input inner.ports port ≡ false →
        Drives text (point path name bit) (copy (point (i ∷ path) port bit))
    joined_from port name bit among output =
        let p = point path name bit in
        let from = copy (point (i ∷ path) port bit) in
        let is : is_input_of (module_named text module_name) port ≡ false = ap (λ found. is_input_of found port) named ∙ output in
        inr (record {
          path = path;
          module_here = m;
          item = instance module_name i joins;
          stands = stands;
          holds = there;
          drives = (port_join port (variable name), among, subst (λ b. JoinDrives path i b port (Some (variable name)) p from) (sym is) (name, refl, refl, refl));
        })
