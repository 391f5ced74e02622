use Rattle.std.proofs.Common.{◌∙◌, ◌<◌, ℕ, List, All, length, map, ap, sym, subst, arith}
use Rattle.std.proofs.lemmas.List.Elements.{All-push}
use Rattle.fab_gen_top.specs.inner.Standing.{type_of}
use Rattle.fab_gen_top.proofs.Grid.{one_stands, none_stands}
use Rattle.fab_gen_top.proofs.text.marked_numbers.Goals as goal
use Rattle.fab_gen_top.proofs.text.marked_numbers.Goals.{then-stands+in_ok-push, else-stands}

pub loop-number-preserved : goal.loop-number-preserved
loop-number-preserved c =
    let fabric = c.args.fabric.now in
    let i = c.loop-number.number in
    let within : i < length fabric.types = omega (arith, c.loop-number-test.true, c.requires.as_many) in
    let P : ℕ → Type 0 = λ number. number < length fabric.types in
    elim c.if-stands.branch [
      | then-stands+in_ok-push w ↦
          let items = ap (λ v. v.items) w.numbers-is ∙ w.in_ok-push.ensures.items in
          record {
            types = ap (map (type_of fabric)) items ∙ one_stands fabric i c.loop-number.numbers.items within (sym (c.requires.each i within) ∙ w.if-stands.true) c.loop-number.invariant.types;
            within = subst (λ (ns : List ℕ). All P ns) (sym items) (All-push P c.loop-number.numbers.items i c.loop-number.invariant.within within);
          }
      | else-stands w ↦
          let items = ap (λ v. v.items) w.numbers-is in
          record {
            types = ap (map (type_of fabric)) items ∙ none_stands fabric i c.loop-number.numbers.items within (sym (c.requires.each i within) ∙ w.if-stands.false) c.loop-number.invariant.types;
            within = subst (λ (ns : List ℕ). All P ns) (sym items) c.loop-number.invariant.within;
          }
    ]
