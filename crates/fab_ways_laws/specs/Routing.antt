-- Walks of wires, the trees that nets grow from them, and negotiated runs. Wires stand here as numbers.
use Rattle.std.specs.Prelude.{◌≡◌, ◌⊎◌, ℕ, ◌+◌, ◌-◌, ◌*◌, ◌<◌, ◌≤◌, Bool, false, List, [], ◌∷◌, ◌++◌, map, filter, length, take, drop, sum_by, count_by, Contains, nat_eq, if◌then◌else◌}
use Rattle.std.specs.List.{flat_map, list_any}
use Rattle.fab_legal.specs.fab_model.specs.Tiles.{counted}
use Rattle.fab_legal.specs.fab_model.specs.Grid.{PlainFabric}
use Rattle.fab_legal.specs.fab_fabric.specs.Wires.{numbered_wire}
use Rattle.fab_legal.specs.fab_netlist.specs.declared.net_id.NetId.{NetId}
use Rattle.fab_legal.specs.fab_netlist.specs.declared.net_id.NetId.TheVariants as ids
use Rattle.fab_legal.specs.fab_netlist.specs.Plain.{IsAt}
use Rattle.fab_legal.specs.fab_netlist.specs.Packed.{PlainPacked}
use Rattle.fab_legal.specs.fab_implementation.specs.Plain.{PlainImplementation}
use Rattle.fab_legal.specs.Steps.{IsStep}
use Rattle.fab_legal.specs.Nets.{Net, IsRoot}
use Rattle.fab_legal.specs.Sinks.{sinks, packed_net}
use Rattle.fab_ways_laws.specs.Placing.{same_net}

-- ---- walks

-- the wires of a walk, the last one first
abbrev pub Path : Type 0
Path = List ℕ

abbrev pub has : (wires : List ℕ) → (wire : ℕ) → Bool
has wires wire = list_any (λ other. nat_eq other wire) wires

-- A walk to a wire. It begins at a start, and goes by edges of the fabric to wires that the tree lacks.
pub data Walk (fabric : PlainFabric) (tree : List ℕ) (IsStart : ℕ → Type 0) : ℕ → Path → Type 0 where
  begins : {wire : ℕ} → IsStart wire → Walk fabric tree IsStart wire (wire ∷ [])
  goes : {wire next : ℕ} {path : Path} → Walk fabric tree IsStart wire path → IsStep fabric (numbered_wire wire) (numbered_wire next) → has tree next ≡ false
      → Walk fabric tree IsStart next (next ∷ path)

-- what a walk pays for a wire: nothing where the tree has it
abbrev pub toll : (tree : List ℕ) → (price : ℕ → ℕ) → ℕ → ℕ
toll tree price wire = if has tree wire then 0 else price wire

abbrev pub total : (tree : List ℕ) → (price : ℕ → ℕ) → Path → ℕ
total tree price path = sum_by (toll tree price) path

-- a walk to a wire, and no walk there pays less
abbrev pub IsLeastWalk : PlainFabric → (tree : List ℕ) → (IsStart : ℕ → Type 0) → (price : ℕ → ℕ) → (sink : ℕ) → Path → Type 0
IsLeastWalk fabric tree IsStart price sink path =
    Walk fabric tree IsStart sink path × ((other : Path) → Walk fabric tree IsStart sink other → total tree price path ≤ total tree price other)

-- ---- trees

-- the walks by which the tree of a net grows, one for each sink
abbrev pub Paths : Type 0
Paths = List Path

abbrev pub wires_of : Paths → List ℕ
wires_of paths = flat_map (λ path. path) paths

-- a walk begins at a wire of the tree so far, or at a root that the net is allowed
abbrev pub MayBegin : PlainFabric → PlainImplementation → Net → (tree : List ℕ) → ℕ → Type 0
MayBegin fabric placement net tree wire = Contains tree wire ⊎ IsRoot fabric placement net (numbered_wire wire)

-- sink by sink the tree grows by a walk of least price
abbrev pub AreGrown : PlainFabric → PlainImplementation → Net → (price : ℕ → ℕ) → (tree : List ℕ) → (sinks_left : List ℕ) → Paths → Type 0
AreGrown fabric placement net price tree [] [] = Unit {0}
AreGrown fabric placement net price tree [] (path ∷ paths) = ⊥
AreGrown fabric placement net price tree (sink ∷ more) [] = ⊥
AreGrown fabric placement net price tree (sink ∷ more) (path ∷ paths) =
    IsLeastWalk fabric tree (MayBegin fabric placement net tree) price sink path × AreGrown fabric placement net price (tree ++ path) more paths

-- ---- rounds

-- the nets in their order
abbrev pub nets : PlainPacked → List NetId
nets packed = ids.Zero ∷ ids.One ∷ (counted (length packed.inputs) ids.In ++ counted (length packed.cells) ids.Cell)

-- the pins that a net has to reach, in their order
abbrev pub sinks_of : PlainFabric → PlainPacked → PlainImplementation → NetId → List ℕ
sinks_of fabric packed placement net = map (λ sink. sink.1.0) (filter (λ sink. same_net sink.0 net) (sinks fabric packed placement))

-- how many trees have a wire
abbrev pub users : List Paths → ℕ → ℕ
users trees wire = count_by (λ paths. has (wires_of paths) wire) trees

-- how many nets beside net k have a wire as its tree grows: those before it have their new trees, and those behind it their old ones
abbrev pub others : (old new : List Paths) → (k : ℕ) → ℕ → ℕ
others old new k wire = users (take k new) wire + users (drop (k + 1) old) wire

-- the price of a wire in a round, the first of which is round 0
abbrev pub negotiated : (past : ℕ → ℕ) → (round : ℕ) → (others_with : ℕ → ℕ) → ℕ → ℕ
negotiated past round others_with wire = (1 + past wire) * (1 + round * others_with wire)

-- each net in order gives up its tree and grows a new one
pub record IsRound (fabric : PlainFabric) (packed : PlainPacked) (placement : PlainImplementation) (past : ℕ → ℕ) (round : ℕ) (old new : List Paths) : Type 0 where
  pub all : length new ≡ length (nets packed)
  pub each : (k : ℕ) (net : NetId) (paths : Paths) → IsAt (nets packed) k net → IsAt new k paths →
      AreGrown fabric placement (packed_net packed net) (negotiated past round (others old new k)) [] (sinks_of fabric packed placement net) paths

-- a wire stands in two trees
abbrev pub LeavesShared : List Paths → Type 0
LeavesShared trees = (wire : ℕ) × (2 ≤ users trees wire)

-- after a round a wire of many users is the dearer by their number less 1
abbrev pub past_of : (rounds : List (List Paths)) → ℕ → ℕ
past_of rounds wire = sum_by (λ trees. users trees wire - 1) rounds

-- A negotiated run: the trees after each of its rounds, and the last ones. It goes on only where a wire is shared.
pub data Run (fabric : PlainFabric) (packed : PlainPacked) (placement : PlainImplementation) : List (List Paths) → List Paths → Type 0 where
  begins : Run fabric packed placement [] (map (λ net. []) (nets packed))
  goes : {rounds : List (List Paths)} {old : List Paths} (new : List Paths) → Run fabric packed placement rounds old → (0 < length rounds → LeavesShared old)
      → IsRound fabric packed placement (past_of rounds) (length rounds) old new → Run fabric packed placement (rounds ++ new ∷ []) new
