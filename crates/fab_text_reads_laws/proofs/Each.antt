-- Parts of a text that are printable one by one.
use Rattle.std.proofs.Common.{List, [], ◌∷◌, All}
use Rattle.std.proofs.lemmas.List.Elements.{All-nil, All-cons, All-head, All-tail}
use Rattle.fab_syntax.specs.declared.tree.Port.{Port}
use Rattle.fab_syntax.specs.Plain.{PlainJoin, PlainItem, PlainModule}
use Rattle.fab_tokens.specs.Tokens.{IsIdentifier}
use Rattle.fab_grammar_defs.specs.Printable.{IsShape, IsJoined, IsItem, IsModule, ArePorts, AreJoins, AreItems, AreModules}

abbrev pub IsPort : Port → Type 0
IsPort port = IsShape port.shape × IsIdentifier port.name

abbrev pub IsJoin : PlainJoin → Type 0
IsJoin join = IsIdentifier join.port × IsJoined join.to

pub ports_of : (ports : List Port) → All IsPort ports → ArePorts ports
ports_of [] all = tt
ports_of (port ∷ ports) all = (All-head IsPort port ports all, ports_of ports (All-tail IsPort port ports all))

pub joins_of : (joins : List PlainJoin) → All IsJoin joins → AreJoins joins
joins_of [] all = tt
joins_of (join ∷ joins) all = (All-head IsJoin join joins all, joins_of joins (All-tail IsJoin join joins all))

pub items_of : (items : List PlainItem) → All IsItem items → AreItems items
items_of [] all = tt
items_of (item ∷ items) all = (All-head IsItem item items all, items_of items (All-tail IsItem item items all))

pub modules_of : (modules : List PlainModule) → All IsModule modules → AreModules modules
modules_of [] all = tt
modules_of (m ∷ ms) all = (All-head IsModule m ms all, modules_of ms (All-tail IsModule m ms all))

-- ---- and back

pub all_ports : (ports : List Port) → ArePorts ports → All IsPort ports
all_ports [] are = All-nil IsPort
all_ports (port ∷ ports) are = All-cons IsPort port ports are.0 (all_ports ports are.1)

pub all_joins : (joins : List PlainJoin) → AreJoins joins → All IsJoin joins
all_joins [] are = All-nil IsJoin
all_joins (join ∷ joins) are = All-cons IsJoin join joins are.0 (all_joins joins are.1)

pub all_items : (items : List PlainItem) → AreItems items → All IsItem items
all_items [] are = All-nil IsItem
all_items (item ∷ items) are = All-cons IsItem item items are.0 (all_items items are.1)
