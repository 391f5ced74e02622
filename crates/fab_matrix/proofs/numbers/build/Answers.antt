use Rattle.std.proofs.Common.{◌≡◌, ◌<◌, ◌≤◌, ◌∙◌, ◌++◌, ℕ, All, ap, sym, subst, map, length, nat_eq, arith, true, false, sum_by}
use Rattle.std.proofs.lemmas.List.{take_all, get_or_read}
use Rattle.std.proofs.lemmas.List.Elements.{All-map, All-same}
use Rattle.fab_select.specs.declared.pair.Pair.{Pair}
use Rattle.fab_select.specs.Selection.{firsts, select_bits}
use Rattle.fab_matrix.specs.Names.{Name}
use Rattle.fab_meaning.specs.Ports.{scalar, config_port}
use Rattle.fab_matrix.specs.Matrix.{named, numbered_outputs}
use Rattle.fab_bits.specs.Keys.{group_at}
use Rattle.fab_matrix.specs.inner.Grouped.{numbers_of, width_at, item_of}
use Rattle.fab_select.proofs.Firsts.{firsts_all}
use Rattle.fab_matrix.proofs.Groups.{groups_within, names_of_numbered, bits_named, items_named}
use Rattle.fab_matrix.proofs.numbers.build.Goals as goal

pub lows_of-requires : goal.lows_of-requires
lows_of-requires c =
    let pairs = c.args.pairs.now in
    let outputs = length c.args.outputs.now in
    let numbers = map (λ (pair : Pair). pair.output) pairs in
    let all : All (λ output. output < outputs) (firsts nat_eq numbers) =
    firsts_all (λ output. output < outputs) nat_eq numbers (All-map (λ output. output < outputs) (λ (pair : Pair). pair.output) pairs c.requires.outputs) in
    let long : outputs ≡ length c.deref.result.now = sym (ap length c.deref.ensures.value ∙ c.in_ok-groups.ensures.len) in
    subst (λ (n : ℕ). All (λ output. output < n) c.as_slice.result.now) long
    (All-same (λ output. output < outputs) c.as_slice.result.now (firsts nat_eq numbers) (c.as_slice.ensures.keys ∙ c.in_ok-order.ensures) all)

pub items_of-requires-clause-within : goal.items_of-requires-clause-within
items_of-requires-clause-within c = λ output.
    let inputs = length c.args.inputs.now in
    All-same (λ input. input < inputs) (group_at c.deref-2.result.now output) (numbers_of c.args.pairs.now output)
    (ap (λ groups. group_at groups output) c.deref-2.ensures.value ∙ c.in_ok-groups.ensures.groups output)
    (groups_within inputs c.args.pairs.now output c.requires.inputs)

pub returns : goal.returns
returns c =
    let inputs = c.args.inputs.now in
    let outputs = c.args.outputs.now in
    let pairs = c.args.pairs.now in
    let order = c.in_ok-order.order.keys in
    let groups = c.in_ok-groups.groups.items in
    let keys = c.as_slice.result.now in
    let lows = c.in_ok-lows.lows.items in
    let n = c.len.result in
    let bits = c.index.result.now in
    let same_len : n ≡ length keys = c.len.ensures.len ∙ sym (ap length c.as_slice.ensures.keys) in
    let within : n < length lows = omega (arith, c.in_ok-lows.ensures.len) in
    let last : n ≤ length keys = omega arith in
    let total : bits ≡ select_bits nat_eq (named inputs pairs) =
    get_or_read lows n bits within c.index.ensures 0
    ∙ c.in_ok-lows.ensures.lows n last
    ∙ ap (sum_by (width_at c.deref.result.now)) (take_all n keys (omega arith) ∙ c.as_slice.ensures.keys)
    ∙ ap (λ gs. sum_by (width_at gs) order) c.deref.ensures.value
    ∙ bits_named groups order inputs pairs c.in_ok-groups.ensures.groups c.in_ok-order.ensures in
    let ports =
    c.in_ok-ports.ensures
    ∙ ap (λ b. map (scalar true) inputs ++ (config_port b ++ map (scalar false) outputs)) total
    ∙ ap (λ rest. map (scalar true) inputs ++ (config_port (select_bits nat_eq (named inputs pairs)) ++ rest)) (sym (names_of_numbered (scalar false) 0 outputs)) in
    let items =
    c.in_ok-items.ensures
    ∙ ap (λ gs. map (λ (output : ℕ × Name). item_of inputs gs order output.0 output.1) (numbered_outputs outputs)) c.deref-2.ensures.value
    ∙ items_named groups order inputs pairs c.in_ok-groups.ensures.groups c.in_ok-order.ensures outputs in
    λ j. record { name = c.in_ok-name.ensures j; ports = ports j; items = items j }
