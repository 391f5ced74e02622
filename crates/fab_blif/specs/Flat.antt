-- The flattened text of a list of models: the covers, latches and ports of the first one, where each instance of a model is
-- replaced by a copy of that model's covers and latches.
use Rattle.std.specs.Prelude.{ℕ, zero, suc, Bool, List, [], ◌∷◌, ◌++◌, map, length, find, flat_map, filter_map, decimal, nat_eq, ◌&&◌, Option, Some, None, option_map}
use Rattle.std.specs.Str.{bytes_eq}
use Rattle.indexmap.specs.IndexMap.{insert_all}
use Rattle.fab_netlist.specs.declared.wide.Cube.{Cube}
use Rattle.fab_blif_models.specs.Plain.{PlainBody, PlainStatement, PlainModel, inputs, outputs, clock, cover, latch, instance}
use Rattle.fab_instances.specs.Formals.{sides}
use Rattle.fab_instances.specs.Places.{place_of_model, statements_of}

-- A net of the flattened text: in how many instances it lies, and its whole name. That name is the line of each of these
-- instances, the outermost first, with `/` behind it, and then the name that the model's lines use. Names alone do not tell
-- nets apart, since a line of the top may name a net `3/a` too; a line in decimal has no `/`, so with the depth they do.
pub record PlainNet : Type 0 where
  pub depth : ℕ
  pub name : List ℕ

abbrev pub net_eq : PlainNet → PlainNet → Bool
net_eq a b = nat_eq a.depth b.depth && bytes_eq a.name b.name

-- A copy of a model: in how many instances it lies, what stands in front of the names of its inner nets, and the nets to
-- which its ports are joined.
pub record PlainCopy : Type 0 where
  pub depth : ℕ
  pub prefix : List ℕ
  pub joins : List (List ℕ × PlainNet)

-- the first model, which is no copy
abbrev pub top_copy : PlainCopy
top_copy = record { depth = 0; prefix = []; joins = [] }

abbrev pub joined_or : Option (List ℕ × PlainNet) → PlainNet → PlainNet
joined_or None net = net
joined_or (Some join) net = join.1

-- the net of a name in a copy: the one that the instance joins to it, or else an inner net of the copy
abbrev pub net_in : PlainCopy → List ℕ → PlainNet
net_in copy name = joined_or (find (λ join. bytes_eq name join.0) copy.joins) (record { depth = copy.depth; name = copy.prefix ++ name })

-- what a word of an instance in a copy joins
abbrev pub join_in : PlainCopy → List ℕ → Option (List ℕ × PlainNet)
join_in copy word = option_map (λ pair. (pair.0, net_in copy pair.1)) (sides word)

-- what the words of an instance in a copy join
abbrev pub joins_in : PlainCopy → List (List ℕ) → List (List ℕ × PlainNet)
joins_in copy words = insert_all bytes_eq [] (filter_map (join_in copy) words)

-- a line and `/`
abbrev pub line_prefix : ℕ → List ℕ
line_prefix line = decimal line ++ 47 ∷ []

-- the copy that an instance on a line of a copy makes
abbrev pub copy_in : PlainCopy → (line : ℕ) → (words : List (List ℕ)) → PlainCopy
copy_in copy line words = record { depth = suc copy.depth; prefix = copy.prefix ++ line_prefix line; joins = joins_in copy words }

-- ---- lines

-- A line of the flattened text. A clock that a model names that is not the first is kept apart: it declares no port.
pub data Placed : Type 0 where
  placed_inputs : (line : ℕ) → List PlainNet → Placed
  placed_outputs : (line : ℕ) → List PlainNet → Placed
  placed_clock : (line : ℕ) → PlainNet → Placed
  copied_clock : (line : ℕ) → PlainNet → Placed
  placed_cover : (line : ℕ) → List PlainNet → PlainNet → (on : Bool) → (rows : List Cube) → Placed
  placed_latch : (line : ℕ) → (input output : PlainNet) → (control : Option PlainNet) → (initial : ℕ) → Placed

-- the port lines of the first model are lines of the flattened text, those of copies are not
abbrev pub if_top : ℕ → Placed → List Placed
if_top zero placed = placed ∷ []
if_top (suc depth) placed = []

abbrev pub clock_at : ℕ → (line : ℕ) → PlainNet → Placed
clock_at zero line net = placed_clock line net
clock_at (suc depth) line net = copied_clock line net

abbrev pub of_model : (ℕ → List Placed) → Option ℕ → List Placed
of_model inner None = []
of_model inner (Some place) = inner place

-- the lines that a line of a copy stands for, where `inner` gives those of a copy of a model
abbrev pub lines_by : List PlainModel → (inner : PlainCopy → ℕ → List Placed) → PlainCopy → (line : ℕ) → PlainBody → List Placed
lines_by models inner copy line (inputs names) = if_top copy.depth (placed_inputs line (map (net_in copy) names))
lines_by models inner copy line (outputs names) = if_top copy.depth (placed_outputs line (map (net_in copy) names))
lines_by models inner copy line (clock name) = clock_at copy.depth line (net_in copy name) ∷ []
lines_by models inner copy line (cover names output on rows) = placed_cover line (map (net_in copy) names) (net_in copy output) on rows ∷ []
lines_by models inner copy line (latch input output control initial) = placed_latch line (net_in copy input) (net_in copy output) (option_map (net_in copy) control) initial ∷ []
lines_by models inner copy line (instance model_name words) = of_model (inner (copy_in copy line words)) (place_of_model models model_name)

abbrev pub lines_at : List PlainModel → (inner : PlainCopy → ℕ → List Placed) → PlainCopy → PlainStatement → List Placed
lines_at models inner copy statement = lines_by models inner copy statement.line statement.body

-- The lines of a copy of a model, with instances in one another down to a depth.
unfoldable pub lines_of : List PlainModel → (deep : ℕ) → PlainCopy → (place : ℕ) → List Placed
lines_of models zero copy place = []
lines_of models (suc deep) copy place = flat_map (lines_at models (lines_of models deep) copy) (statements_of models place)

-- The flattened text. Where no model is recursive, instances stand in one another no deeper than there are models.
unfoldable pub flat_lines : List PlainModel → List Placed
flat_lines models = lines_of models (length models) top_copy 0
