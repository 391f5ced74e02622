use Rattle.std.proofs.Common.{refl, ◌∙◌, arith}
use Rattle.std.proofs.lemmas.Bool.{false≢true}
use Rattle.fab_annealing.proofs.Falling.{kept_cost, falls_refl, barred_tried, try_falls, try_tried}
use Rattle.fab_annealing.proofs.descent.try_site.Goals as goal

pub returns-then-cost-eq0-clause-falls : goal.returns-then-cost-eq0-clause-falls
returns-then-cost-eq0-clause-falls c = falls_refl c.args.board.now c.args.placement.now.sites.items

pub returns-then-cost-eq0-clause-tried : goal.returns-then-cost-eq0-clause-tried
returns-then-cost-eq0-clause-tried c = λ e may. omega (arith, kept_cost c.args.board.now c.args.placement.now c.requires.board c.requires.kept, c.cost-cost.ensures, c.if-cost-eq0.true)

pub returns-then-not-is_loose-clause-falls : goal.returns-then-not-is_loose-clause-falls
returns-then-not-is_loose-clause-falls c = falls_refl c.args.board.now c.args.placement.now.sites.items

pub returns-then-not-is_loose-clause-tried : goal.returns-then-not-is_loose-clause-tried
returns-then-not-is_loose-clause-tried c = λ e. barred_tried c.args.board.now c.args.placement.now.sites.items c.args.item c.args.site (λ loose. false≢true (c.if-not-is_loose.ensures.1 loose))

pub returns-then-not-may_fall-clause-falls : goal.returns-then-not-may_fall-clause-falls
returns-then-not-may_fall-clause-falls c = falls_refl c.args.board.now c.args.placement.now.sites.items

pub returns-then-not-may_fall-clause-tried : goal.returns-then-not-may_fall-clause-tried
returns-then-not-may_fall-clause-tried c = λ e may. c.if-not-may_fall.ensures refl

pub returns-clause-falls : goal.returns-clause-falls
returns-clause-falls c =
    let old = c.args.placement.now in
    let costs = c.cost-cost.ensures ∙ kept_cost c.args.board.now old c.requires.board c.requires.kept in
    try_falls c.args.board.now old.sites.items c.exchange_below.new.self.sites.items old.items.items c.args.item c.args.site c.cost-cost.result c.in_ok-_lower._lower c.requires.kept.standing c.requires.item c.requires.same_kind
    (c.if-not-is_loose.ensures.0 refl) costs (omega (arith, c.if-cost-eq0.false)) c.in_ok-_lower.ensures.taken c.in_ok-_lower.ensures.left

pub returns-clause-tried : goal.returns-clause-tried
returns-clause-tried c =
    let old = c.args.placement.now in
    let costs = c.cost-cost.ensures ∙ kept_cost c.args.board.now old c.requires.board c.requires.kept in
    try_tried c.args.board.now old.sites.items c.exchange_below.new.self.sites.items old.items.items c.args.item c.args.site c.cost-cost.result c.in_ok-_lower._lower c.requires.kept.standing c.requires.item c.requires.same_kind
    (c.if-not-is_loose.ensures.0 refl) costs (omega (arith, c.if-cost-eq0.false)) c.in_ok-_lower.ensures.taken c.in_ok-_lower.ensures.left
