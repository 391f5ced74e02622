use Rattle.std.proofs.Common.{◌≡◌, map, take, false}
use Rattle.std.specs.List.{list_any}
use Rattle.fab_fabric.specs.Sites.{same_kind}
use Rattle.fab_gen_top.specs.inner.Standing.{type_of}
use Rattle.fab_gen_top.proofs.text.is_used.Given as goal

-- none so far has one
abbrev pub invariant-loop-number : goal.invariant-loop-number
invariant-loop-number l = list_any (λ tile. list_any (λ bel. same_kind bel.kind l.kind) tile.bels) (map (type_of l.fabric) (take l.number-index l.numbers)) ≡ false
