use Rattle.std.proofs.Common.{◌+◌, ℕ, List, Option, sym, subst}
use Rattle.fab_legal.specs.inner.Tables.{key_lists, IsLeast}
use Rattle.fab_legal.proofs.SharedWires.{SharedBelow, Owns, owns_more, shared_more, shared_all, keys_read, as_many_lists}
use Rattle.fab_legal.proofs.shared.shared.Goals as goal

pub loop-set-preserved : goal.loop-set-preserved
loop-set-preserved c =
    let lists = key_lists c.args.sets.now in
    let count = c.loop-set.set-index in
    let owned = c.loop-set.owned.keys in
    let wires = c.as_slice-wires.result.now in
    let is = keys_read c.args.sets.now count c.set-item.result wires c.loop-set-test.true c.set-item.is c.as_slice-wires.ensures.keys in
    record {
      owns = subst (λ (keys : List ℕ). Owns lists (count + 1) keys) (sym c.in_ok-put_all.ensures) (owns_more lists count owned wires c.loop-set.least c.loop-set.invariant.owns is);
      least = subst (λ (least : Option ℕ). IsLeast (SharedBelow lists (count + 1)) least) (sym c.least_owned-least.ensures)
          (shared_more lists count owned wires c.loop-set.least c.loop-set.invariant.owns is c.loop-set.invariant.least);
    }

pub returns : goal.returns
returns c = shared_all (key_lists c.args.sets.now) c.loop-set.set-index c.loop-set.least (as_many_lists c.args.sets.now c.loop-set.set-index c.loop-set-test.false) c.loop-set.invariant.least
