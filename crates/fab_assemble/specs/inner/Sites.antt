-- Tables of the sites that lines give to cells and ports.
use Rattle.std.specs.Prelude.{◌≡◌, ℕ, ◌<◌, List, Vec, length, get_or, nat_eq, bytes_eq, Option, Some, None}
use Rattle.std.specs.Map.{lookup}
use Rattle.fab_fabric.specs.declared.wire.Site.{Site}
use Rattle.fab_implementation.specs.Plain.{Pad}
use Rattle.fab_legal.specs.Sinks.{site_of}

-- the sites of so many cells by number
pub record HoldSites (lines : List (ℕ × Site)) (count : ℕ) (sites : List Site) : Type 0 where
  pub as_many : length sites ≡ count
  pub each : (cell_number : ℕ) (d : Site) → cell_number < count → get_or sites cell_number d ≡ site_of nat_eq lines cell_number

-- the site that a search finds, or the first of all places where it finds none
abbrev pub found_or_first : Option Site → Site
found_or_first None = record { x = 0; y = 0; bel = 0 }
found_or_first (Some site) = site

-- the site of a port in a table by names
abbrev pub site_at_key : {A : Type 0} → List (Vec ℕ A × Site) → (port : List ℕ) → Site
site_at_key entries port = found_or_first (lookup (λ key. bytes_eq port key.items) entries)

-- the table has the site of each port
abbrev pub HoldPads : {A : Type 0} → List Pad → List (Vec ℕ A × Site) → Type 0
HoldPads lines entries = (port : List ℕ) → site_at_key entries port ≡ site_of bytes_eq lines port
