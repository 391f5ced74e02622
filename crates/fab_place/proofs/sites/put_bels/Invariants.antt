use Rattle.std.proofs.Common.{◌≡◌, ◌++◌, take}
use Rattle.fab_model.specs.declared.tiles.Bel.{Bel}
use Rattle.fab_fabric.specs.Sites.{same_kind}
use Rattle.fab_place.proofs.Listed.{kept_from}
use Rattle.fab_place.proofs.sites.put_bels.Given as goal

abbrev pub invariant-loop-number : goal.invariant-loop-number
invariant-loop-number l = l.sites.items ≡ l.fn.sites.items ++ kept_from (λ (bel : Bel). same_kind bel.kind l.kind) (λ number. record { x = l.x; y = l.y; bel = number }) 0 (take l.number l.bels)
