use Rattle.std.proofs.Common.{ℕ, Option, List, sym, ap, ◌∙◌, subst}
use Rattle.fab_kinds.specs.declared.kind.Kind.{Kind}
use Rattle.fab_blocks.specs.Blocks.{IsBlock, with_bel}
use Rattle.fab_blocks.specs.Rows.{bel_problem_of}
use Rattle.fab_blocks.proofs.Fine.{block_with_bel}
use Rattle.fab_blocks.proofs.block.Block.take_bel.Goals as goal

pub push_bel-requires : goal.push_bel-requires
push_bel-requires c =
    let block = c.args.self.now in
    let kind = c.in-Some-kind.kind in
    let holder = c.args.holder.now in
    let file = c.args.file.now in
    let prefix = c.args.prefix.now in
    let fine = sym (ap (λ (k : Option Kind). bel_problem_of block k holder file prefix) c.in-Some-kind.is) ∙ sym c.in_ok-problem.ensures ∙ c.in_default.is in
    subst (λ (p : List ℕ). IsBlock (with_bel block (record { kind = kind; prefix = p }))) (sym c.in_ok-prefix.ensures)
    (block_with_bel block kind holder file prefix (subst IsBlock c.self.view_is c.self.invariant.is_block) fine)
