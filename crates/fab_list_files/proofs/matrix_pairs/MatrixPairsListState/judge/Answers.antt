use Rattle.std.proofs.Common.{◌≡◌, ◌∙◌, ◌||◌, true, false, refl, sym, subst}
use Rattle.std.specs.List.{list_any}
use Rattle.fab_list_files.specs.Keys.{crosses_sides, HasSides}
use Rattle.fab_list_files.specs.Sides.{crosses}
use Rattle.fab_list_files.proofs.Names.{any_crosses, any_either, or_true}
use Rattle.fab_list_files.proofs.matrix_pairs.MatrixPairsListState.judge.Goals as goal
use Rattle.fab_list_files.proofs.matrix_pairs.MatrixPairsListState.judge.Goals.{then-any_crosses-via-then-any_crosses, then-any_crosses-via-else-any_crosses+in_ok-cross_one_another+then-branch}

pub returns-then-any_crosses : goal.returns-then-any_crosses
returns-then-any_crosses c =
    let pairs = c.args.self.now in
    let new = c.args.new.now in
    let sides = c.self.inside.sides in
    let before : list_any (crosses_sides sides) new ≡ list_any (crosses pairs) new = any_crosses sides pairs new (subst (HasSides sides) c.self.view_is c.self.invariant) in
    let either : list_any (λ pair. crosses pairs pair || crosses new pair) new ≡ (list_any (crosses pairs) new || list_any (crosses new) new) = any_either (crosses pairs) (crosses new) new in
    let test : (list_any (crosses pairs) new || list_any (crosses new) new) ≡ true = elim c.then-any_crosses.branch [
      | then-any_crosses-via-then-any_crosses w ↦ (
          let some : list_any (crosses pairs) new ≡ true = sym before ∙ sym c.any_crosses.ensures ∙ w.if-any_crosses.true in
          rw some refl)
      | then-any_crosses-via-else-any_crosses+in_ok-cross_one_another+then-branch w ↦ (
          let some : list_any (crosses new) new ≡ true = sym w.in_ok-cross_one_another.ensures ∙ w.if-branch.true in
          rw some (or_true (list_any (crosses pairs) new)))
    ] in
    let all = either ∙ test in
    rw all refl

pub returns : goal.returns
returns c =
    let pairs = c.args.self.now in
    let new = c.args.new.now in
    let sides = c.self.inside.sides in
    let before : list_any (crosses_sides sides) new ≡ list_any (crosses pairs) new = any_crosses sides pairs new (subst (HasSides sides) c.self.view_is c.self.invariant) in
    let none : list_any (crosses pairs) new ≡ false = sym before ∙ sym c.any_crosses.ensures ∙ c.if-any_crosses.false in
    let fresh : list_any (crosses new) new ≡ false = sym c.in_ok-cross_one_another.ensures ∙ c.if-branch.false in
    let all : list_any (λ pair. crosses pairs pair || crosses new pair) new ≡ false = any_either (crosses pairs) (crosses new) new ∙ rw (none, fresh) refl in
    rw all refl
