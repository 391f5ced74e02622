use Rattle.std.proofs.Common.{◌≡◌, ◌<◌, true, ℕ, List, length, get_or, sym, ◌∙◌, ap, subst, inl, inr, arith}
use Rattle.std.proofs.lemmas.Bool.{cases_eq, cases_lt}
use Rattle.std.proofs.lemmas.List.{get_or_default}
use Rattle.fab_annealing.specs.Boards.{is_second, column, row}
use Rattle.fab_annealing.specs.inner.Standing.{IsTried}
use Rattle.fab_annealing.proofs.Falling.{falls_refl, falls_trans, still_both, locked_tried, far_tried}
use Rattle.fab_annealing.proofs.descent.try_item.Goals as goal

pub returns-then-index-clause-falls : goal.returns-then-index-clause-falls
returns-then-index-clause-falls c = falls_refl c.args.board.now c.args.placement.now.sites.items

pub returns-then-index-clause-tried : goal.returns-then-index-clause-tried
returns-then-index-clause-tried c = λ e site inside.
    let locked = c.args.board.now.locked.items in
    let low : c.args.item < length locked = omega (arith, c.requires.item, c.requires.kept.laid.items, c.requires.board.locks) in
    locked_tried c.args.board.now c.args.placement.now.sites.items c.args.item site c.requires.item (get_or_default locked c.args.item true c.index.result.now low ∙ sym c.index.ensures ∙ c.if-index.true)

pub loop-at-init : goal.loop-at-init
loop-at-init c = record {
  kept = c.requires.kept;
  falls = falls_refl c.args.board.now c.args.placement.now.sites.items;
  tried = λ e site inside before.
      far_tried c.args.board.now c.args.placement.now.sites.items c.args.item site c.column-x.result (c.column-x.ensures.value ∙ ap (column c.args.board.now) c.site_of-site.ensures) (inl (omega (arith, before, c.saturating_sub-first.ensures)));
}

pub loop-at-preserved : goal.loop-at-preserved
loop-at-preserved c =
    let board = c.args.board.now in
    let a = c.args.placement.now.sites.items in
    let b = c.loop-at.placement.sites.items in
    let d = c.try_column.new.placement.sites.items in
    let inv = c.loop-at.invariant in
    let step = c.in_ok-try_column.ensures in
    let falls = falls_trans board a b d inv.falls step.falls in
    record {
      kept = step.kept;
      falls = falls;
      tried = λ e site inside before.
          let still = still_both board a b d inv.falls step.falls e in
          let same = falls.still e in
          let x_is : column board (get_or d c.args.item 0) ≡ c.column-x.result = ap (λ (s : List ℕ). column board (get_or s c.args.item 0)) same ∙ sym (c.column-x.ensures.value ∙ ap (column board) c.site_of-site.ensures) in
          let y_is : row board (get_or d c.args.item 0) ≡ c.row-y.result = ap (λ (s : List ℕ). row board (get_or s c.args.item 0)) same ∙ sym (c.row-y.ensures.value ∙ ap (row board) c.site_of-site.ensures) in
          let kind_is : is_second board (get_or d c.args.item 0) ≡ c.is_second-second.result = ap (λ (s : List ℕ). is_second board (get_or s c.args.item 0)) same ∙ sym (c.is_second-second.ensures ∙ ap (is_second board) c.site_of-site.ensures) in
          elim (cases_eq (column board site) c.loop-at.at) [
            | inl f ↦ λ may.
                step.tried still.1 site inside (may.same_kind ∙ kind_is) f
                (omega (arith, may.near, x_is, y_is, f, c.abs_diff-off.ensures, c.saturating_sub-low.ensures))
                (omega (arith, may.near, x_is, y_is, f, c.abs_diff-off.ensures, c.min-high.ensures, c.requires.board.near_rows site 0 (omega (arith, inside, c.requires.board.rows_count)))) may
            | inr n ↦ subst (λ (s : List ℕ). IsTried board s c.args.item site) (sym still.2) (inv.tried still.0 site inside (omega arith))
          ];
    }

pub returns-clause-tried : goal.returns-clause-tried
returns-clause-tried c = λ e site inside.
    let board = c.args.board.now in
    let now = c.loop-at.placement.sites.items in
    let same = c.loop-at.invariant.falls.still e in
    elim (cases_lt (column board site) c.loop-at.at) [
      | inl before ↦ c.loop-at.invariant.tried e site inside before
      | inr after ↦ far_tried board now c.args.item site c.column-x.result
          (c.column-x.ensures.value ∙ ap (column board) c.site_of-site.ensures ∙ ap (λ (s : List ℕ). column board (get_or s c.args.item 0)) (sym same))
          (inr (omega (arith, after, c.loop-at-test.false, c.min-last.ensures, c.requires.board.near_columns site 0 inside)))
    ]
