-- How long printed lists are: as their parts are together.
use Rattle.std.proofs.Common.{◌≡◌, ℕ, ◌+◌, ◌≤◌, Bool, true, false, List, [], ◌∷◌, ◌++◌, codes, length, refl, arith}
use Rattle.std.specs.List.{sum_by}
use Rattle.std.proofs.lemmas.List.{length-append}
use Rattle.std.proofs.lemmas.List.Sums.{sum_by-cons}
use Rattle.fab_syntax.specs.declared.tree.Port.{Port}
use Rattle.fab_syntax.specs.Plain.{PlainJoin, PlainItem, PlainModule}
use Rattle.fab_syntax.specs.Spelling.{comma, port_text, port_end, ports_text, join_text, joins_text, item_text, items_text, module_text, text_bytes}

-- ---- ports

-- with the blanks before it, and a comma and the end of the line behind it
abbrev pub port_bytes : Port → ℕ
port_bytes port = length (port_text port) + 4

end_bytes : (ports : List Port) → length (port_end ports) ≤ 2
end_bytes [] = omega arith
end_bytes (port ∷ ports) = omega arith

pub ports_bytes : (ports : List Port) → length (ports_text ports) ≤ sum_by port_bytes ports
ports_bytes [] = omega arith
ports_bytes (port ∷ ports) =
    let line = length-append (port_text port) (port_end ports ++ ports_text ports) in
    let end = length-append (port_end ports) (ports_text ports) in
    omega (arith, line, end, end_bytes ports, ports_bytes ports, sum_by-cons port_bytes port ports)

-- ---- joins

-- with a comma and a blank
abbrev pub join_bytes : PlainJoin → ℕ
join_bytes join = length (join_text join) + 2

comma_bytes : (first : Bool) → length (comma first) ≤ 2
comma_bytes true = omega arith
comma_bytes false = omega arith

pub joins_bytes : (first : Bool) (joins : List PlainJoin) → length (joins_text first joins) ≤ sum_by join_bytes joins
joins_bytes first [] = omega arith
joins_bytes first (join ∷ joins) =
    let front = length-append (comma first) (join_text join ++ joins_text false joins) in
    let here = length-append (join_text join) (joins_text false joins) in
    omega (arith, front, here, comma_bytes first, joins_bytes false joins, sum_by-cons join_bytes join joins)

-- ---- items and modules

-- with the blanks before it and the end of the line
abbrev pub item_bytes : PlainItem → ℕ
item_bytes item = length (item_text item) + 3

items_bytes : (items : List PlainItem) → length (items_text items) ≡ sum_by item_bytes items
items_bytes [] = refl
items_bytes (item ∷ items) =
    omega (arith, length-append (item_text item) (codes "\n" ++ items_text items), items_bytes items, sum_by-cons item_bytes item items)

abbrev pub module_bytes : PlainModule → ℕ
module_bytes m = length (module_text m)

pub module_within : (m : PlainModule) → module_bytes m ≤ 23 + length m.name + sum_by port_bytes m.ports + sum_by item_bytes m.items
module_within m =
    let name = length-append m.name (codes " (\n" ++ (ports_text m.ports ++ (codes ");\n" ++ (items_text m.items ++ codes "endmodule\n")))) in
    let ports = length-append (ports_text m.ports) (codes ");\n" ++ (items_text m.items ++ codes "endmodule\n")) in
    let items = length-append (items_text m.items) (codes "endmodule\n") in
    omega (arith, name, ports, items, ports_bytes m.ports, items_bytes m.items)

pub bytes_sum : (ms : List PlainModule) → length (text_bytes ms) ≡ sum_by module_bytes ms
bytes_sum [] = refl
bytes_sum (m ∷ ms) = omega (arith, length-append (module_text m) (text_bytes ms), bytes_sum ms, sum_by-cons module_bytes m ms)
