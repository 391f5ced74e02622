use Rattle.std.proofs.Common.{◌∙◌, length, sym, ap, arith}
use Rattle.fab_blif.specs.inner.Frames.{PlainStack}
use Rattle.fab_blif.proofs.Prefixes.{grow_whole}
use Rattle.fab_blif.proofs.walk.Stack.push.Goals as goal

pub invariant_of-self-2 : goal.invariant_of-self-2
invariant_of-self-2 c =
    let to = length c.self.inside.path.items in
    let whole = c.requires ∙ ap (λ (stack : PlainStack). length stack.path) (sym c.self.view_is) in
    rw c.in_ok-push.ensures.items (grow_whole c.self.inside.frames.items c.args.frame to to c.self.invariant (omega arith) whole)
