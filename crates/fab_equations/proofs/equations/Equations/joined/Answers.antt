use Rattle.std.proofs.Common.{◌≡◌, ◌<◌, get_or, subst, arith}
use Rattle.fab_syntax.specs.Plain.{plain_text}
use Rattle.fab_equations.proofs.Joined.{above_within, child_within, told, joined_above, not_none}
use Rattle.fab_equations.proofs.equations.Equations.joined.Goals as goal

pub here-above-requires : goal.here-above-requires
here-above-requires c =
    let behind : 0 < c.args.instance = omega arith in
    above_within (plain_text c.args.self.now) c.args.instance c.args.declared c.requires behind c.here.result c.here.ensures

pub index-requires : goal.index-requires
index-requires c =
    let behind : 0 < c.args.instance = omega arith in
    let within = child_within (plain_text c.args.self.now) c.args.instance c.args.declared c.requires behind c.here.result c.here.ensures c.here-above.result c.here-above.ensures in
    omega (arith, within, c.here-above.result.table.now.children.ok)

pub index-requires-2 : goal.index-requires-2
index-requires-2 c =
    let behind : 0 < c.args.instance = omega arith in
    let t = told (plain_text c.args.self.now) c.args.instance c.args.declared c.requires behind c.here.result c.here.ensures c.here-above.result c.here-above.ensures
    c.index.result.now c.index.ensures in
    omega (arith, t.within, c.index.result.now.inputs.ok)

pub returns-in_err-expr : goal.returns-in_err-expr
returns-in_err-expr c =
    let behind : 0 < c.args.instance = omega arith in
    absurd (not_none (plain_text c.args.self.now) c.args.instance c.args.declared c.requires behind c.here.result c.here.ensures c.here-above.result c.here-above.ensures
    c.index.result.now c.index.ensures c.index-2.result.now c.index-2.ensures c.in_err-expr.was)

pub returns : goal.returns
returns c =
    let behind : 0 < c.args.instance = omega arith in
    joined_above (plain_text c.args.self.now) c.args.instance c.args.declared c.requires behind c.here.result c.here.ensures c.here-above.result c.here-above.ensures
    c.index.result.now c.index.ensures c.in_ok-expr.expr
    (subst (λ to. to ≡ get_or c.index.result.now.inputs.items c.args.declared to) c.in_ok-expr.was c.index-2.ensures)
