use Rattle.std.proofs.Common.{rules, ◌≡◌, List, length, take, set, slice_index_or, sym, ◌∙◌, subst, arith, vec_len}
use Rattle.std.proofs.lemmas.List.{length-set, take_more}
use Rattle.fab_syntax.specs.Plain.{plain_text}
use Rattle.fab_equations.specs.Instances.{points}
use Rattle.fab_load_points.specs.inner.Flops.{AreBegun}
use Rattle.fab_load_points.specs.declared.flops.Flop.{Flop}
use Rattle.fab_load_points.specs.declared.search.Status.TheVariants.{Inside}
use Rattle.fab_load_points.proofs.Rounds.{flop_at, name_within, begun_more}
use Rattle.fab_load_points.proofs.flops.begin.Goals as goal

-- in place of a flip-flop behind the last
abbrev no_flop : Flop
no_flop = record { name = 0; next = record { instance = 0; expr = 0; bit = 0 } }

pub index_mut-requires : goal.index_mut-requires
index_mut-requires c =
    let flops = c.args.flops.now in
    let k = c.loop-flop.flop-index in
    let f = slice_index_or flops k no_flop in
    let within = name_within (plain_text c.args.equations.now) f (c.requires f (flop_at flops k no_flop c.loop-flop-test.true)) in
    let long : vec_len c.loop-flop.statuses ≡ length c.loop-flop.statuses.items = search rules in
    let first : vec_len c.in_ok-statuses.statuses ≡ length c.in_ok-statuses.statuses.items = search rules in
    let all : length c.in_ok-statuses.statuses.items ≡ length (points (plain_text c.args.equations.now)) =
    omega (arith, first, c.in_ok-statuses.ensures.len, c.points.ensures) in
    omega (arith, within, long, c.loop-flop.invariant.long, all)

pub loop-flop-preserved : goal.loop-flop-preserved
loop-flop-preserved c =
    let flops = c.args.flops.now in
    let k = c.loop-flop.flop-index in
    let f = slice_index_or flops k no_flop in
    let statuses = c.loop-flop.statuses.items in
    let within = name_within (plain_text c.args.equations.now) f (c.requires f (flop_at flops k no_flop c.loop-flop-test.true)) in
    let first : vec_len c.in_ok-statuses.statuses ≡ length c.in_ok-statuses.statuses.items = search rules in
    let all : length c.in_ok-statuses.statuses.items ≡ length (points (plain_text c.args.equations.now)) =
    omega (arith, first, c.in_ok-statuses.ensures.len, c.points.ensures) in
    record {
      long = length-set statuses f.name Inside ∙ c.loop-flop.invariant.long;
      begun = subst (λ (xs : List Flop). AreBegun xs (set statuses f.name Inside)) (sym (take_more flops k no_flop c.loop-flop-test.true))
          (begun_more (take k flops) statuses f (omega (arith, within, c.loop-flop.invariant.long, all)) c.loop-flop.invariant.begun);
    }
