use Rattle.std.proofs.Common.{◌≡◌, ◌<◌, ◌*◌, ◌/◌, ◌%◌, sym, ap, ◌∙◌, length, arith}
use Rattle.fab_fabric.specs.Fabric.{fabric_of, wires_at}
use Rattle.fab_fabric.specs.inner.Index.{place_wires}
use Rattle.fab_fabric.proofs.Summed.{no_sum}
use Rattle.fab_fabric.proofs.Numbered.{all_places}
use Rattle.fab_fabric.proofs.Firsts.{few_so_far, next_first, each_more}
use Rattle.fab_fabric.specs.Sums.{sum_to}
use Rattle.fab_fabric.proofs.fabric.firsts_of.Goals as goal

pub loop-place-init : goal.loop-place-init
loop-place-init c = record {
  first = sym (no_sum (place_wires (fabric_of c.args.types.now c.args.columns c.args.grid.now)));
  as_many = ap length c.new-firsts.ensures.items;
  each = λ place few. absurd (omega (arith, few));
}

pub overflow_add-first : goal.overflow_add-first
overflow_add-first c =
    let fabric = fabric_of c.args.types.now c.args.columns c.args.grid.now in
    let wires : c.wires_in-first.result ≡ place_wires fabric c.loop-place.place =
    c.wires_in-first.ensures ∙ ap (λ rows. wires_at fabric (c.loop-place.place / rows) (c.loop-place.place % rows)) c.requires.rows in
    let all : c.args.columns * c.args.rows ≡ fabric.columns * fabric.rows = ap (λ n. c.args.columns * n) c.requires.rows in
    let few : c.loop-place.place < fabric.columns * fabric.rows = omega (arith, c.loop-place-test.true, all) in
    omega (arith, few_so_far fabric c.loop-place.place c.loop-place.first c.wires_in-first.result c.requires.is_fabric few c.loop-place.invariant.first wires)

pub loop-place-preserved : goal.loop-place-preserved
loop-place-preserved c =
    let fabric = fabric_of c.args.types.now c.args.columns c.args.grid.now in
    let wires : c.wires_in-first.result ≡ place_wires fabric c.loop-place.place =
    c.wires_in-first.ensures ∙ ap (λ rows. wires_at fabric (c.loop-place.place / rows) (c.loop-place.place % rows)) c.requires.rows in
    record {
      first = next_first (place_wires fabric) c.loop-place.place c.loop-place.first c.wires_in-first.result c.loop-place.invariant.first wires;
      as_many = omega (arith, c.in_ok-push.ensures.len, c.loop-place.invariant.as_many);
      each =
          each_more (place_wires fabric) c.loop-place.firsts.items c.push.new.self.items c.loop-place.place c.loop-place.first c.loop-place.invariant.as_many
          c.loop-place.invariant.first c.in_ok-push.ensures.items c.loop-place.invariant.each;
    }

pub returns-clause-wires : goal.returns-clause-wires
returns-clause-wires c =
    let fabric = fabric_of c.args.types.now c.args.columns c.args.grid.now in
    let all : c.args.columns * c.args.rows ≡ fabric.columns * fabric.rows = ap (λ n. c.args.columns * n) c.requires.rows in
    let last : c.loop-place.place ≡ fabric.columns * fabric.rows = omega (arith, c.loop-place-test.false, c.loop-place.auto.place-end, all) in
    c.loop-place.invariant.first ∙ ap (λ n. sum_to n (place_wires fabric)) last ∙ all_places fabric

pub returns-clause-firsts : goal.returns-clause-firsts
returns-clause-firsts c =
    let fabric = fabric_of c.args.types.now c.args.columns c.args.grid.now in
    let all : c.args.columns * c.args.rows ≡ fabric.columns * fabric.rows = ap (λ n. c.args.columns * n) c.requires.rows in
    let last : c.loop-place.place ≡ fabric.columns * fabric.rows = omega (arith, c.loop-place-test.false, c.loop-place.auto.place-end, all) in
    record {
      as_many = c.loop-place.invariant.as_many ∙ last;
      each = λ place few. c.loop-place.invariant.each place (omega (arith, few, last));
    }
