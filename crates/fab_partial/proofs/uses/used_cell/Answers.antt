use Rattle.std.proofs.Common.{◌≡◌, ◌∙◌, ℕ, Bool, true, false, take, refl, sym, arith}
use Rattle.std.proofs.lemmas.Bool.{false≢true}
use Rattle.std.proofs.lemmas.List.Elements.{All-nil, All-weaker}
use Rattle.fab_implementation.specs.fab_fabric.specs.declared.wire.Site.{Site}
use Rattle.fab_partial.specs.Columns.{lies_within}
use Rattle.fab_partial.proofs.Firsts.{all_done, all_more, first_at}
use Rattle.fab_partial.proofs.uses.used_cell.Goals as goal

abbrev no_cell : ℕ × Site
no_cell = (0, record { x = 0; y = 0; bel = 0 })

pub loop-line-init : goal.loop-line-init
loop-line-init c = All-nil (λ (line : ℕ × Site). lies_within c.args.first c.args.last line.1.x ≡ false)

pub returns-then-is_within : goal.returns-then-is_within
returns-then-is_within c =
    let there : ℕ → Bool = lies_within c.args.first c.args.last in
    let none = All-weaker (λ (line : ℕ × Site). there line.1.x ≡ false) (λ (line : ℕ × Site). there line.1.x ≡ true → ⊥) (λ line no yes. false≢true (sym no ∙ yes))
    (take c.loop-line.line-index c.args.cells.now) c.loop-line.invariant in
    let first = first_at (λ (line : ℕ × Site). there line.1.x ≡ true) c.args.cells.now c.loop-line.line-index no_cell c.loop-line-test.true none (sym c.is_within.ensures ∙ c.if-is_within.true) in
    record { line = _; site_is = refl; first = first }

pub loop-line-preserved : goal.loop-line-preserved
loop-line-preserved c =
    all_more (λ (line : ℕ × Site). lies_within c.args.first c.args.last line.1.x ≡ false) c.args.cells.now c.loop-line.line-index no_cell c.loop-line-test.true c.loop-line.invariant
    (sym c.is_within.ensures ∙ c.if-is_within.false)

pub returns : goal.returns
returns c =
    all_done (λ (line : ℕ × Site). lies_within c.args.first c.args.last line.1.x ≡ false) c.args.cells.now c.loop-line.line-index (omega (arith, c.loop-line-test.false)) c.loop-line.invariant
