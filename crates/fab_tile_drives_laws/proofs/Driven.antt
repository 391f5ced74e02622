-- What drives declared points, by the items of modules.
use Rattle.std.proofs.Common.{◌≡◌, ℕ, suc, ◌+◌, ◌-◌, ◌<◌, ◌≤◌, true, false, List, ◌∷◌, refl, sym, ap, ◌∙◌, subst, inr, arith, Some, Contains, nat_lt, slice_range}
use Rattle.std.proofs.lemmas.Bool.{lt-ltb}
use Rattle.fab_bits.specs.Bits.{first_bits}
use Rattle.fab_bits.proofs.Numbers.{get_first_bits, range_first_bits}
use Rattle.fab_gen_tile.specs.fab_syntax.specs.Plain.{PlainExpr, variable, part, PlainJoin, assign, instance, PlainModule}
use Rattle.fab_gen_tile.specs.fab_syntax.specs.Declarations.{module_named, declared_width, width_in, is_input, is_input_of}
use Rattle.fab_gen_tile.specs.fab_meaning.specs.Value.{value, bit_at}
use Rattle.fab_gen_tile.specs.fab_meaning.specs.Points.{Path, Point, point, bit_of, copy, JoinDrives, module_at}
use Rattle.fab_gen_tile.specs.fab_meaning.specs.Settled.{Assignment, names_at}
use Rattle.fab_gen_tile.specs.fab_meaning.specs.Reads.{is_declared}
use Rattle.fab_gen_tile.specs.fab_meaning.proofs.Declared.{bits_of_name}
use Rattle.fab_gen_tile.specs.Names.{port_join}
use Rattle.fab_tile_drives_laws.specs.Stands.{IsSettledOnDeclared}

abbrev pub width_of : PlainModule → List ℕ → ℕ
width_of m name = declared_width m.ports m.items name

pub declared_at : (text : List PlainModule) (path : Path) (m : PlainModule) (name : List ℕ) (bit : ℕ) → module_at text path ≡ Some m → bit < width_of m name →
    is_declared text (point path name bit) ≡ true
declared_at text path m name bit stands few = ap (λ found. nat_lt bit (width_in found name)) stands ∙ lt-ltb bit (width_of m name) few

-- ---- values of names

module _ (text : List PlainModule) (now : Assignment) (path : Path) (m : PlainModule) (stands : module_at text path ≡ Some m) where
  pub variable_bit : (name : List ℕ) (bit : ℕ) → bit < width_of m name → bit_at (value (names_at text now path) (variable name)) bit ≡ now (point path name bit)
  variable_bit name bit few =
      ap (λ bits. bit_at bits bit) (bits_of_name text now path m name (width_of m name) stands refl)
      ∙ get_first_bits (width_of m name) (λ bit. now (point path name bit)) bit false few

  -- a bit of some bits of a name
  pub part_bit : (name : List ℕ) (low last bit : ℕ) → low + last < width_of m name → bit ≤ last →
      bit_at (value (names_at text now path) (part name (low + last) low)) bit ≡ now (point path name (low + bit))
  part_bit name low last bit within few =
      let high : low + last + 1 ≡ low + suc last - 1 + 1 = omega arith in
      ap (λ bits. bit_at (slice_range bits low (low + last + 1)) bit) (bits_of_name text now path m name (width_of m name) stands refl)
      ∙ ap (λ end. bit_at (slice_range (first_bits (width_of m name) (λ bit. now (point path name bit))) low end) bit) high
      ∙ ap (λ bits. bit_at bits bit) (range_first_bits (width_of m name) low (suc last) (λ bit. now (point path name bit)) (omega arith) (omega arith))
      ∙ get_first_bits (suc last) (λ bit. now (point path name (low + bit))) bit false (omega arith)

-- ---- settled points

module _ (Has : Point → Type 0) (text : List PlainModule) (inputs held now : Assignment) (settled : IsSettledOnDeclared Has text inputs held now) where
  pub assigned : (path : Path) (m : PlainModule) (name : List ℕ) (e : PlainExpr) (bit : ℕ) → module_at text path ≡ Some m → Contains m.items (assign name e) →
      bit < width_of m name → Has (point path name bit) → now (point path name bit) ≡ bit_at (value (names_at text now path) e) bit
  assigned path m name e bit stands there few has =
      settled (point path name bit) (bit_of path e bit) (has, declared_at text path m name bit stands few)
      (inr (record { path = path; module_here = m; item = assign name e; stands = stands; holds = there; drives = (refl, refl) }))

  module _ (path : Path) (m inner : PlainModule) (module_name name_of_instance : List ℕ) (joins : List PlainJoin) (stands : module_at text path ≡ Some m)
      (named : module_named text module_name ≡ Some inner) (there : Contains m.items (instance module_name name_of_instance joins)) where
    -- an input port has the value of what is joined to it
    pub joined_in : (port : List ℕ) (e : PlainExpr) (bit : ℕ) → Contains joins (port_join port e) → module_at text (name_of_instance ∷ path) ≡ Some inner →
        is_input inner.ports port ≡ true → bit < width_of inner port → Has (point (name_of_instance ∷ path) port bit) →
        now (point (name_of_instance ∷ path) port bit) ≡ bit_at (value (names_at text now path) e) bit
    joined_in port e bit among inside input few has =
        let p = point (name_of_instance ∷ path) port bit in
        let is : is_input_of (module_named text module_name) port ≡ true = ap (λ found. is_input_of found port) named ∙ input in
        settled p (bit_of path e bit) (has, declared_at text (name_of_instance ∷ path) inner port bit inside few)
        (inr (record {
          path = path;
          module_here = m;
          item = instance module_name name_of_instance joins;
          stands = stands;
          holds = there;
          drives = (port_join port e, among, subst (λ b. JoinDrives path name_of_instance b port (Some e) p (bit_of path e bit)) (sym is) (refl, refl));
        }))

    -- a name has the value of the output port to which it is joined
    pub joined_out : (port name : List ℕ) (bit : ℕ) → Contains joins (port_join port (variable name)) →
        is_input inner.ports port ≡ false → bit < width_of m name → Has (point path name bit) →
        now (point path name bit) ≡ now (point (name_of_instance ∷ path) port bit)
    joined_out port name bit among output few has =
        let p = point path name bit in
        let from = copy (point (name_of_instance ∷ path) port bit) in
        let is : is_input_of (module_named text module_name) port ≡ false = ap (λ found. is_input_of found port) named ∙ output in
        settled p from (has, declared_at text path m name bit stands few)
        (inr (record {
          path = path;
          module_here = m;
          item = instance module_name name_of_instance joins;
          stands = stands;
          holds = there;
          drives = (port_join port (variable name), among, subst (λ b. JoinDrives path name_of_instance b port (Some (variable name)) p from) (sym is) (name, refl, refl, refl));
        }))
