use Rattle.std.proofs.Common.{◌≡◌, ◌∙◌, ℕ, List, [], Bool, true, ◌&&◌, drop, map, get_or, sym, ap, arith, rules}
use Rattle.std.proofs.Math.Path.{fun_ext}
use Rattle.std.specs.List.{list_all}
use Rattle.std.proofs.lemmas.List.{drop_all}
use Rattle.fab_syntax.specs.declared.tree.Join.{Join}
use Rattle.fab_syntax.specs.Plain.{plain_join}
use Rattle.fab_syntax.specs.Declarations.{times_joined}
use Rattle.fab_sound.specs.inner.Checks.{count_at, known_module}
use Rattle.fab_sound.specs.inner.Rules.{join_passes, is_joined_once}
use Rattle.fab_sound.proofs.Driven.{fails_at, passes_at}
use Rattle.fab_sound.proofs.Joining.{join_counts}
use Rattle.fab_sound.proofs.instances.instance_fits.Goals as goal

pub returns-then-not-branch : goal.returns-then-not-branch
returns-then-not-branch c =
    let test = join_passes (known_module c.args.known.now) (known_module c.args.below.now) in
    let item : c.join-item.result ≡ get_or c.args.joins.now c.loop-join.join-index c.join-item.result = search rules in
    let fails = fails_at test plain_join c.args.joins.now c.loop-join.join-index c.join-item.result c.loop-join-test.true item (sym c.in_ok-join_fits.ensures ∙ c.if-not-branch.true) in
    sym (ap (λ b. b && list_all (is_joined_once (times_joined (map plain_join c.args.joins.now))) (known_module c.args.below.now).ports) (sym c.loop-join.invariant.fit ∙ fails))

pub loop-join-preserved : goal.loop-join-preserved
loop-join-preserved c =
    let test = join_passes (known_module c.args.known.now) (known_module c.args.below.now) in
    let item : c.join-item.result ≡ get_or c.args.joins.now c.loop-join.join-index c.join-item.result = search rules in
    let passes = passes_at test plain_join c.args.joins.now c.loop-join.join-index c.join-item.result c.loop-join-test.true item (sym c.in_ok-join_fits.ensures ∙ c.if-not-branch.false) in
    record {
      fit = sym passes ∙ c.loop-join.invariant.fit;
      counted = λ other. omega (
        arith,
        join_counts c.args.joins.now c.loop-join.join-index c.join-item.result c.loop-join-test.true item other,
        c.in_ok-count_up.ensures other,
        c.loop-join.invariant.counted other,
      );
    }

pub returns : goal.returns
returns c =
    let test = join_passes (known_module c.args.known.now) (known_module c.args.below.now) in
    let joins = map plain_join c.args.joins.now in
    let ports = (known_module c.args.below.now).ports in
    let none : drop c.loop-join.join-index c.args.joins.now ≡ [] = drop_all c.loop-join.join-index c.args.joins.now c.loop-join-test.false in
    let all : list_all test joins ≡ true = sym c.loop-join.invariant.fit ∙ ap (λ (js : List Join). list_all test (map plain_join js)) none in
    let same : count_at c.loop-join.counts ≡ times_joined joins =
    fun_ext (λ name. let rest = ap (λ (js : List Join). times_joined (map plain_join js) name) none in omega (arith, rest, c.loop-join.invariant.counted name)) in
    c.ports_are_joined.ensures
    ∙ ap (list_all (is_joined_once (count_at c.loop-join.counts))) c.deref.ensures.value
    ∙ ap (λ (counts : List ℕ → ℕ). list_all (is_joined_once counts) ports) same
    ∙ ap (λ (b : Bool). b && list_all (is_joined_once (times_joined joins)) ports) (sym all)
