-- What desks and sinks hold, and what they answer.
use Rattle.std.specs.Prelude.{◌≡◌, ℕ, List, ◌++◌, take, length, nat_lt, Option, Some, None, option_map, Result, Ok, Err, if◌then◌else◌}
use Rattle.std.specs.Global.{Vec}
use Rattle.std.specs.Option.{MatchOption}
use Rattle.std.specs.Str.{bytes_eq}
use Rattle.fab_base.specs.declared.TheConstants.{MAX_FILE_BYTES}
use Rattle.fab_desk.specs.declared.outside.DeskFault.{DeskFault}
use Rattle.fab_desk.specs.declared.outside.DeskFault.TheVariants as faults

-- the bytes under each name
abbrev pub Map : Type 0
Map = List ℕ → Option (List ℕ)

-- the map with these bytes under the name, and all else as before
abbrev pub with_file : List ℕ → List ℕ → Map → Map
with_file name bytes map = λ other. if bytes_eq name other then Some bytes else map other

-- what a fetch has to answer for what stands under the name
abbrev pub fetched : Option (List ℕ) → Result (Option (List ℕ)) DeskFault
fetched None = Ok None
fetched (Some bytes) = if nat_lt MAX_FILE_BYTES (length bytes) then Err faults.Long else Ok (Some bytes)

-- it was answered, unless the device failed or memory was refused
abbrev pub Fetches : Option (List ℕ) → Result (Option (Vec ℕ)) DeskFault → Type 0
Fetches file (Ok found) = fetched file ≡ Ok (option_map (λ v. v.items) found)
Fetches file (Err faults.Long) = fetched file ≡ Err faults.Long
Fetches file (Err faults.Failed) = Unit {0}
Fetches file (Err faults.Memory) = Unit {0}

-- a front of the piece was appended
abbrev pub PutsPart : (old new : Option (List ℕ)) (piece : List ℕ) → Type 0
PutsPart old new piece = MatchOption old (new ≡ None) (λ bytes. (n : ℕ) × (new ≡ Some (bytes ++ take n piece)))
