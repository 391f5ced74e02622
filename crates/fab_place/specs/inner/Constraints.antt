-- The pads that constraints give to ports, by number.
use Rattle.std.specs.Prelude.{◌≡◌, ◌↔◌, ℕ, ◌<◌, Bool, ◌&&◌, List, [], Option, Some, None, Vec, Contains, length, get_or, nat_eq}
use Rattle.std.specs.Global.{Global}
use Rattle.std.specs.Option.{option_and_then}
use Rattle.std.specs.Str.{bytes_eq}
use Rattle.indexmap.specs.IndexMap.{IndexMap, get_by}
use Rattle.fab_fabric.specs.declared.wire.Site.{Site}
use Rattle.fab_netlist.specs.Plain.{IsAt}
use Rattle.fab_implementation.specs.Plain.{Pad}
use Rattle.fab_ways_laws.specs.fab_legal_inner_Kept.{site_key}

-- ---- what constraints give

-- a constraint gives a port the pad of this number
pub record IsPadOf (fixed : List Pad) (pads : List Site) (port : List ℕ) (number : ℕ) : Type 0 where
  pub site : Site
  pub constrained : Contains fixed (port, site)
  pub is_at : IsAt pads number site

-- for each port the number of the pad that a constraint gives it, if one does
pub record AreConstrained (fixed : List Pad) (pads : List Site) (ports : List (List ℕ)) (constrained : List (Option ℕ)) : Type 0 where
  pub count : length constrained ≡ length ports
  pub each : (place number : ℕ) → place < length ports → (get_or constrained place None ≡ Some number) ↔ IsPadOf fixed pads (get_or ports place []) number

-- ---- maps

-- the site of these numbers
abbrev pub site_by : ℕ × ℕ × ℕ → Site
site_by key = record { x = key.0; y = key.1; bel = key.2 }

abbrev pub same_key : (a b : ℕ × ℕ × ℕ) → Bool
same_key a b = (nat_eq a.0 b.0 && nat_eq a.1 b.1) && nat_eq a.2 b.2

-- a map from sites to their numbers
abbrev pub HasNumbers : {S : Type 0} → (pads : List Site) → IndexMap (ℕ × ℕ × ℕ) ℕ S → Type 0
HasNumbers pads numbers = (key : ℕ × ℕ × ℕ) (number : ℕ) → (get_by (same_key key) numbers ≡ Some number) ↔ IsAt pads number (site_by key)

-- a map from ports to the sites that constraints give them
abbrev pub HasConstraints : {S : Type 0} → (fixed : List Pad) → IndexMap (Vec ℕ Global) Site S → Type 0
HasConstraints fixed constraints = (port : List ℕ) (site : Site) → (get_by (λ key. bytes_eq port key.items) constraints ≡ Some site) ↔ Contains fixed (port, site)

-- what two such maps give a port
abbrev pub pad_in : {S T : Type 0} → IndexMap (Vec ℕ Global) Site S → IndexMap (ℕ × ℕ × ℕ) ℕ T → (port : List ℕ) → Option ℕ
pad_in constraints numbers port = option_and_then (λ site. get_by (same_key (site_key site)) numbers) (get_by (λ key. bytes_eq port key.items) constraints)
