-- The ports of a model, and the words by which an instance joins nets to them.
use Rattle.std.specs.Prelude.{◌≡◌, ℕ, zero, suc, ◌<◌, Bool, true, false, not, ◌&&◌, ◌+◌, List, [], ◌∷◌, map, take, drop, length, get_or, position, flat_map, nat_eq, nat_lt, Option, Some, None, option_map}
use Rattle.std.specs.List.{list_any}
use Rattle.std.specs.Str.{bytes_eq}
use Rattle.fab_blif_models.specs.Plain.{PlainBody, inputs, outputs, clock, PlainModel, PlainStatement}
use Rattle.fab_instances.specs.Places.{statements_of}

abbrev pub ports_by : PlainBody → List (List ℕ)
ports_by (inputs names) = names
ports_by (outputs names) = names
ports_by (clock name) = name ∷ []
ports_by _ = []

-- the ports that the lines of a model declare
abbrev pub port_names : List PlainStatement → List (List ℕ)
port_names statements = flat_map (λ statement. ports_by statement.body) statements

-- the two sides of a word `formal=actual`, which is cut at its first `=`
abbrev pub sides : List ℕ → Option (List ℕ × List ℕ)
sides word = option_map (λ place. (take place word, drop (place + 1) word)) (position (λ byte. nat_eq byte 61) word)

-- what stands in front of the first `=` of a word; nothing where there is none
abbrev pub left_of : Option (List ℕ × List ℕ) → List ℕ
left_of None = []
left_of (Some pair) = pair.0

abbrev pub formal_of : (word : List ℕ) → List ℕ
formal_of word = left_of (sides word)

-- whether something stands on each side of the first `=`
abbrev pub has_both : Option (List ℕ × List ℕ) → Bool
has_both None = false
has_both (Some pair) = nat_lt 0 (length pair.0) && nat_lt 0 (length pair.1)

-- whether a word joins a net to a port that none of the formals before it names
abbrev pub joins_new : (ports before : List (List ℕ)) → (word : List ℕ) → Bool
joins_new ports before word = has_both (sides word) && (list_any (bytes_eq (formal_of word)) ports && not (list_any (bytes_eq (formal_of word)) before))

-- whether the word at a place does so
abbrev pub joins_at : (ports words : List (List ℕ)) → (place : ℕ) → Bool
joins_at ports words place = joins_new ports (map formal_of (take place words)) (get_or words place [])

-- A word breaks the rules: it has no `=`, or nothing on one side of its first `=`, or its formal is no port, or is that of a word before it.
abbrev pub BreaksPorts : (ports words : List (List ℕ)) → Type 0
BreaksPorts ports words = (place : ℕ) × (place < length words) × (joins_at ports words place ≡ false)

-- whether the words before a place break no rule
abbrev pub fits_before : (ports words : List (List ℕ)) → (place : ℕ) → Bool
fits_before ports words zero = true
fits_before ports words (suc place) = fits_before ports words place && joins_at ports words place

abbrev pub fits_ports : (ports words : List (List ℕ)) → Bool
fits_ports ports words = fits_before ports words (length words)

-- two lists hold the same names
abbrev pub SameNames : (names others : List (List ℕ)) → Type 0
SameNames names others = (name : List ℕ) → list_any (bytes_eq name) names ≡ list_any (bytes_eq name) others

-- lists of names, one for each model in turn, hold the names of its ports
abbrev pub HasPorts : List PlainModel → (ports : List (List (List ℕ))) → Type 0
HasPorts models ports = (place : ℕ) → SameNames (get_or ports place []) (port_names (statements_of models place))
