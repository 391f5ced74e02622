use Rattle.std.proofs.Common.{◌≡◌, ℕ, ◌+◌, ◌<◌, take, List, Option, Some, None, Vec, Global, get_or, set, length, ap, ◌∙◌, sym, subst, arith}
use Rattle.fab_netlist.specs.Plain.{IsAt}
use Rattle.fab_legal.proofs.Lists.{at_default}
use Rattle.fab_features.specs.inner.Listing.{Keyed, HoldsFirsts}
use Rattle.fab_features.proofs.Tables.{first_more, first_kept, read_is, no_value, some_value}
use Rattle.fab_features.proofs.features.first_values.Goals as goal
use Rattle.fab_features.proofs.features.first_values.Goals.{then-is_none, else-is_none}

pub loop-pair-preserved : goal.loop-pair-preserved
loop-pair-preserved c =
    let l = c.loop-pair in
    let pairs = c.args.pairs.now in
    let none : Keyed = (0, 0) in
    let pair : Keyed = get_or pairs l.pair-index none in
    let at : IsAt pairs l.pair-index pair = at_default pairs l.pair-index none c.loop-pair-test.true in
    let within : pair.0 < c.args.size = c.requires l.pair-index none c.loop-pair-test.true in
    let inside : pair.0 < length l.table.items = omega (arith, within, l.invariant.as_many) in
    elim c.if-is_none.branch [
      | then-is_none w ↦ (
          let items : c.if-is_none.table.items ≡ set l.table.items pair.0 (Some pair.1) = ap (λ (v : Vec (Option ℕ) Global). v.items) w.table-is in
          let free : get_or l.table.items pair.0 None ≡ None = read_is l.table.items pair.0 c.index.result.now None inside c.index.ensures ∙ no_value c.index.result.now c.is_none.result c.is_none.ensures w.if-is_none.true in
          subst (λ (t : List (Option ℕ)). HoldsFirsts c.args.size (take (l.pair-index + 1) pairs) t) (sym items) (first_more c.args.size pairs l.pair-index pair l.table.items at within free l.invariant))
      | else-is_none w ↦ (
          let items : c.if-is_none.table.items ≡ l.table.items = ap (λ (v : Vec (Option ℕ) Global). v.items) w.table-is in
          let taken : get_or l.table.items pair.0 None ≡ None → ⊥ =
          λ e. some_value c.index.result.now c.is_none.result c.is_none.ensures w.if-is_none.false (sym (read_is l.table.items pair.0 c.index.result.now None inside c.index.ensures) ∙ e) in
          subst (λ (t : List (Option ℕ)). HoldsFirsts c.args.size (take (l.pair-index + 1) pairs) t) (sym items) (first_kept c.args.size pairs l.pair-index pair l.table.items at taken l.invariant))
    ]
