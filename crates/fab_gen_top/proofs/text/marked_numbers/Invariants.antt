use Rattle.std.proofs.Common.{◌≡◌, ◌<◌, All, length, map, filter, take}
use Rattle.std.specs.List.{enumerate_from}
use Rattle.fab_text_loads_laws.specs.fab_fabric_text_defs_Text.{stands}
use Rattle.fab_gen_top.specs.inner.Standing.{type_of}
use Rattle.fab_gen_top.proofs.text.marked_numbers.Given as goal

-- those of the types so far
abbrev pub invariant-loop-number : goal.invariant-loop-number
invariant-loop-number l = record {
  types : map (type_of l.fabric) l.numbers.items ≡ map (λ numbered. numbered.1) (filter (λ numbered. stands l.fabric numbered.0) (enumerate_from 0 (take l.number l.fabric.types)));
  within : All (λ number. number < length l.fabric.types) l.numbers.items;
}
