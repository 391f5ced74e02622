use Rattle.std.proofs.Common.{◌≡◌, ◌<◌, true, false, ℕ, List, sym, ◌∙◌, subst, inl, inr, arith}
use Rattle.std.proofs.lemmas.Bool.{cases_eq}
use Rattle.std.specs.List.{All, Contains, slice_get}
use Rattle.fab_annealing.specs.Measured.{numbers_of}
use Rattle.fab_annealing.specs.Boards.{site_count, is_second, row}
use Rattle.fab_annealing.specs.inner.Standing.{IsTried, lot_number, lots_of_kind}
use Rattle.fab_annealing.proofs.Falling.{falls_refl, falls_trans, still_both}
use Rattle.fab_annealing.proofs.descent.try_column.Goals as goal

pub at-lot-requires-clause-first : goal.at-lot-requires-clause-first
at-lot-requires-clause-first c = (c.requires.lots false).count

pub at-lot-requires-clause-second : goal.at-lot-requires-clause-second
at-lot-requires-clause-second c = (c.requires.lots true).count

pub try_sites-requires-clause-item : goal.try_sites-requires-clause-item
try_sites-requires-clause-item c = omega (arith, c.loop-row.invariant.falls.keeps.count, c.requires.item)

pub try_sites-requires-clause-kind : goal.try_sites-requires-clause-kind
try_sites-requires-clause-kind c = c.loop-row.invariant.falls.keeps.kinds c.args.item c.requires.item ∙ c.requires.kind

pub try_sites-requires-clause-sites : goal.try_sites-requires-clause-sites
try_sites-requires-clause-sites c =
    subst (λ (ss : List ℕ). All (λ site. (site < site_count c.args.board.now) × (is_second c.args.board.now site ≡ c.args.second)) ss) (sym c.at-lot.ensures)
    ((c.requires.lots c.args.second).sound (lot_number c.args.at c.loop-row.row))

pub loop-row-init : goal.loop-row-init
loop-row-init c = record { kept = c.requires.kept; falls = falls_refl c.args.board.now c.args.placement.now.sites.items; tried = λ e site inside kind at low high. absurd (omega (arith, low, high)) }

pub loop-row-preserved : goal.loop-row-preserved
loop-row-preserved c =
    let board = c.args.board.now in
    let a = c.args.placement.now.sites.items in
    let b = c.loop-row.placement.sites.items in
    let d = c.try_sites.new.placement.sites.items in
    let inv = c.loop-row.invariant in
    let step = c.in_ok-try_sites.ensures in
    record {
      kept = step.kept;
      falls = falls_trans board a b d inv.falls step.falls;
      tried = λ e site inside kind at low high.
          let still = still_both board a b d inv.falls step.falls e in
          elim (cases_eq (row board site) c.loop-row.row) [
            | inl f ↦ step.tried still.1 site
                (subst (λ (ss : List ℕ). Contains ss site) (sym c.at-lot.ensures)
                (subst (λ r. Contains (numbers_of (slice_get (lots_of_kind c.args.lots.now c.args.second) (lot_number c.args.at r))) site) f
                (subst (λ k. Contains (numbers_of (slice_get (lots_of_kind c.args.lots.now c.args.second) (lot_number k (row board site)))) site) at
                ((c.requires.lots c.args.second).whole site inside kind))))
            | inr n ↦ subst (λ (s : List ℕ). IsTried board s c.args.item site) (sym still.2) (inv.tried still.0 site inside kind at low (omega arith))
          ];
    }
