use Rattle.std.proofs.Common.{ℕ, List, length, get_or, set, Some, None, sym, ◌∙◌, ap, arith, length-set}
use Rattle.std.proofs.lemmas.List.{get_or_default}
use Rattle.std.proofs.lemmas.Grind.{get_or_default_zero}
use Rattle.fab_annealing.specs.Boards.{cost}
use Rattle.fab_annealing.specs.inner.Standing.{set_at}
use Rattle.fab_annealing.proofs.Exchanging.{exchanged_by}
use Rattle.fab_annealing.proofs.Laying.{taken_kept, back_kept, laid_cost, other_inside, set_at_length}
use Rattle.fab_annealing.proofs.placement.Placement.exchange_below.Goals as goal

pub shift_other-requires-clause-other : goal.shift_other-requires-clause-other
shift_other-requires-clause-other c =
    let old = c.args.self.now in
    let is = c.index-other.ensures ∙ get_or_default old.items.items c.args.site c.index-other.result.now None (omega (arith, c.requires.site, c.requires.kept.standing.count)) in
    other_inside c.args.board.now old.sites.items old.items.items c.args.site c.index-other.result.now (length c.shift.new.self.sites.items) c.requires.kept.standing is
    (sym (ap length c.shift.ensures.sites ∙ length-set old.sites.items c.args.item c.args.site))

pub shift_other-requires-clause-site : goal.shift_other-requires-clause-site
shift_other-requires-clause-site c =
    let old = c.args.self.now in
    let from_is = c.index-from.ensures ∙ get_or_default_zero old.sites.items c.args.item c.index-from.result.now c.requires.item in
    omega (arith, from_is, c.requires.kept.laid.inside c.args.item 0 c.requires.item)

pub accept-requires-clause-from : goal.accept-requires-clause-from
accept-requires-clause-from c =
    let old = c.args.self.now in
    let from_is = c.index-from.ensures ∙ get_or_default_zero old.sites.items c.args.item c.index-from.result.now c.requires.item in
    omega (arith, from_is, c.requires.kept.laid.inside c.args.item 0 c.requires.item, c.requires.kept.standing.count, ap length (c.shift_other.ensures.items ∙ c.shift.ensures.items))

pub accept-requires-clause-site : goal.accept-requires-clause-site
accept-requires-clause-site c = omega (arith, c.requires.site, c.requires.kept.standing.count, ap length (c.shift_other.ensures.items ∙ c.shift.ensures.items))

pub take_back-requires-clause-item : goal.take_back-requires-clause-item
take_back-requires-clause-item c =
    let old = c.args.self.now in
    omega (arith, c.requires.item, ap length c.shift_other.ensures.sites, set_at_length c.index-other.result.now c.index-from.result.now c.shift.new.self.sites.items, ap length c.shift.ensures.sites, length-set old.sites.items c.args.item c.args.site)

pub take_back-requires-clause-from : goal.take_back-requires-clause-from
take_back-requires-clause-from c =
    let old = c.args.self.now in
    let from_is = c.index-from.ensures ∙ get_or_default_zero old.sites.items c.args.item c.index-from.result.now c.requires.item in
    omega (arith, from_is, c.requires.kept.laid.inside c.args.item 0 c.requires.item)

pub take_back-requires-clause-other : goal.take_back-requires-clause-other
take_back-requires-clause-other c =
    let old = c.args.self.now in
    let is = c.index-other.ensures ∙ get_or_default old.items.items c.args.site c.index-other.result.now None (omega (arith, c.requires.site, c.requires.kept.standing.count)) in
    other_inside c.args.board.now old.sites.items old.items.items c.args.site c.index-other.result.now (length c.shift_other.new.self.sites.items) c.requires.kept.standing is
    (sym (ap length c.shift_other.ensures.sites ∙ set_at_length c.index-other.result.now c.index-from.result.now c.shift.new.self.sites.items ∙ ap length c.shift.ensures.sites ∙ length-set old.sites.items c.args.item c.args.site))

pub returns-then-cost-most-clause-kept : goal.returns-then-cost-most-clause-kept
returns-then-cost-most-clause-kept c =
    let board = c.args.board.now in
    let old = c.args.self.now in
    let two = c.shift_other.new.self in
    let item = c.args.item in
    let site = c.args.site in
    let other = c.index-other.result.now in
    let from_is = c.index-from.ensures ∙ get_or_default_zero old.sites.items item c.index-from.result.now c.requires.item in
    let is = c.index-other.ensures ∙ get_or_default old.items.items site other None (omega (arith, c.requires.site, c.requires.kept.standing.count)) in
    let sites = c.shift_other.ensures.sites ∙ ap (λ (ss : List ℕ). set_at other c.index-from.result.now ss) c.shift.ensures.sites ∙ ap (λ f. set_at other f (set old.sites.items item site)) from_is in
    let items = c.shift_other.ensures.items ∙ c.shift.ensures.items in
    let kept = taken_kept board old two c.accept.new.self item site other c.requires.kept c.requires.item c.requires.site is c.in_ok-shift_other.ensures.laid sites items
    c.accept.ensures.sites (c.accept.ensures.items ∙ ap (λ f. set (set two.items.items f other) site (Some item)) from_is)
    c.accept.ensures.columns c.accept.ensures.across_spans c.accept.ensures.across_total c.accept.ensures.across_changed
    c.accept.ensures.rows c.accept.ensures.down_spans c.accept.ensures.down_total c.accept.ensures.down_changed in
    kept.0

pub returns-then-cost-most-clause-taken : goal.returns-then-cost-most-clause-taken
returns-then-cost-most-clause-taken c = λ _.
    let board = c.args.board.now in
    let old = c.args.self.now in
    let two = c.shift_other.new.self in
    let item = c.args.item in
    let site = c.args.site in
    let other = c.index-other.result.now in
    let from_is = c.index-from.ensures ∙ get_or_default_zero old.sites.items item c.index-from.result.now c.requires.item in
    let is = c.index-other.ensures ∙ get_or_default old.items.items site other None (omega (arith, c.requires.site, c.requires.kept.standing.count)) in
    let sites = c.shift_other.ensures.sites ∙ ap (λ (ss : List ℕ). set_at other c.index-from.result.now ss) c.shift.ensures.sites ∙ ap (λ f. set_at other f (set old.sites.items item site)) from_is in
    let items = c.shift_other.ensures.items ∙ c.shift.ensures.items in
    let kept = taken_kept board old two c.accept.new.self item site other c.requires.kept c.requires.item c.requires.site is c.in_ok-shift_other.ensures.laid sites items
    c.accept.ensures.sites (c.accept.ensures.items ∙ ap (λ f. set (set two.items.items f other) site (Some item)) from_is)
    c.accept.ensures.columns c.accept.ensures.across_spans c.accept.ensures.across_total c.accept.ensures.across_changed
    c.accept.ensures.rows c.accept.ensures.down_spans c.accept.ensures.down_total c.accept.ensures.down_changed in
    (kept.1, omega (arith, c.cost.ensures, c.if-cost-most.true, laid_cost board two c.requires.board c.in_ok-shift_other.ensures.laid, ap (cost board) c.accept.ensures.sites))

pub returns-clause-kept : goal.returns-clause-kept
returns-clause-kept c =
    let board = c.args.board.now in
    let old = c.args.self.now in
    let two = c.shift_other.new.self in
    let item = c.args.item in
    let site = c.args.site in
    let other = c.index-other.result.now in
    let from_is = c.index-from.ensures ∙ get_or_default_zero old.sites.items item c.index-from.result.now c.requires.item in
    let is = c.index-other.ensures ∙ get_or_default old.items.items site other None (omega (arith, c.requires.site, c.requires.kept.standing.count)) in
    let sites = c.shift_other.ensures.sites ∙ ap (λ (ss : List ℕ). set_at other c.index-from.result.now ss) c.shift.ensures.sites ∙ ap (λ f. set_at other f (set old.sites.items item site)) from_is in
    let items = c.shift_other.ensures.items ∙ c.shift.ensures.items in
    let kept = back_kept board old two c.take_back.new.self item site other c.requires.kept c.requires.item is c.in_ok-shift_other.ensures.laid sites items
    (c.in_ok-shift_other.ensures.across ∙ c.in_ok-shift.ensures.across) (c.in_ok-shift_other.ensures.down ∙ c.in_ok-shift.ensures.down)
    (c.take_back.ensures.sites ∙ ap (λ f. set_at other site (set two.sites.items item f)) from_is) c.take_back.ensures.items
    (c.take_back.ensures.columns ∙ ap (λ f. set_at other (get_or board.columns.items site 0) (set two.across.places.items item (get_or board.columns.items f 0))) from_is)
    c.take_back.ensures.across_spans (c.take_back.ensures.across_total ∙ c.total-across.ensures) c.take_back.ensures.across_changed
    (c.take_back.ensures.rows ∙ ap (λ f. set_at other (get_or board.rows.items site 0) (set two.down.places.items item (get_or board.rows.items f 0))) from_is)
    c.take_back.ensures.down_spans (c.take_back.ensures.down_total ∙ c.total-down.ensures) c.take_back.ensures.down_changed in
    kept.0

pub returns-clause-left : goal.returns-clause-left
returns-clause-left c = λ _.
    let board = c.args.board.now in
    let old = c.args.self.now in
    let two = c.shift_other.new.self in
    let item = c.args.item in
    let site = c.args.site in
    let other = c.index-other.result.now in
    let from_is = c.index-from.ensures ∙ get_or_default_zero old.sites.items item c.index-from.result.now c.requires.item in
    let is = c.index-other.ensures ∙ get_or_default old.items.items site other None (omega (arith, c.requires.site, c.requires.kept.standing.count)) in
    let sites = c.shift_other.ensures.sites ∙ ap (λ (ss : List ℕ). set_at other c.index-from.result.now ss) c.shift.ensures.sites ∙ ap (λ f. set_at other f (set old.sites.items item site)) from_is in
    let items = c.shift_other.ensures.items ∙ c.shift.ensures.items in
    let kept = back_kept board old two c.take_back.new.self item site other c.requires.kept c.requires.item is c.in_ok-shift_other.ensures.laid sites items
    (c.in_ok-shift_other.ensures.across ∙ c.in_ok-shift.ensures.across) (c.in_ok-shift_other.ensures.down ∙ c.in_ok-shift.ensures.down)
    (c.take_back.ensures.sites ∙ ap (λ f. set_at other site (set two.sites.items item f)) from_is) c.take_back.ensures.items
    (c.take_back.ensures.columns ∙ ap (λ f. set_at other (get_or board.columns.items site 0) (set two.across.places.items item (get_or board.columns.items f 0))) from_is)
    c.take_back.ensures.across_spans (c.take_back.ensures.across_total ∙ c.total-across.ensures) c.take_back.ensures.across_changed
    (c.take_back.ensures.rows ∙ ap (λ f. set_at other (get_or board.rows.items site 0) (set two.down.places.items item (get_or board.rows.items f 0))) from_is)
    c.take_back.ensures.down_spans (c.take_back.ensures.down_total ∙ c.total-down.ensures) c.take_back.ensures.down_changed in (
      kept.1,
      omega (
        arith,
        c.cost.ensures,
        c.if-cost-most.false,
        laid_cost board two c.requires.board c.in_ok-shift_other.ensures.laid,
        ap (cost board) (sites ∙ exchanged_by board old.sites.items old.items.items c.requires.kept.standing item site other c.requires.item is),
      ),
    )
