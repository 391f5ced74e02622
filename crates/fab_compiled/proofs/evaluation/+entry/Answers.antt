use Rattle.std.proofs.Common.{length, sym, ap₂, ◌∙◌, arith}
use Rattle.fab_solutions_laws.specs.fab_ternary_laws_Operators.{agreed}
use Rattle.fab_ternary.specs.Terns.{plain_tern}
use Rattle.fab_compiled.specs.Terns.{seen}
use Rattle.fab_compiled.proofs.Entries.{room_left, no_entry, yes_entry, open_entry, open_half, open_is}
use Rattle.fab_compiled.proofs.Written.{tells_open}
use Rattle.fab_compiled.proofs.evaluation.+entry.Goals as goal

pub overflow_mul-stride : goal.overflow_mul-stride
overflow_mul-stride t c =
    let room = room_left _ _ _ c.in-Some.ensures.cases.0 c.args.first c.args.stride (length c.args.view.now.leads.now) c.requires.within in
    omega (arith, room, c.requires.small)

pub overflow_add-first : goal.overflow_add-first
overflow_add-first t c =
    let room = room_left _ _ _ c.in-Some.ensures.cases.0 c.args.first c.args.stride (length c.args.view.now.leads.now) c.requires.within in
    omega (arith, room, c.requires.small)

pub overflow_mul-stride-in-Yes : goal.overflow_mul-stride-in-Yes
overflow_mul-stride-in-Yes t c =
    let room = room_left _ _ _ c.in-Some.ensures.cases.0 c.args.first c.args.stride (length c.args.view.now.leads.now) c.requires.within in
    omega (arith, room, c.requires.small)

pub overflow_mul-stride-in-Open : goal.overflow_mul-stride-in-Open
overflow_mul-stride-in-Open t c =
    let room = room_left _ _ _ c.in-Some.ensures.cases.0 c.args.first c.args.stride (length c.args.view.now.leads.now) c.requires.within in
    omega (arith, room, c.requires.small)

pub overflow_add-first-in-Open : goal.overflow_add-first-in-Open
overflow_add-first-in-Open t c =
    let room = room_left _ _ _ c.in-Some.ensures.cases.0 c.args.first c.args.stride (length c.args.view.now.leads.now) c.requires.within in
    omega (arith, room, c.requires.small)

pub overflow_mul-stride-in-Open-2 : goal.overflow_mul-stride-in-Open-2
overflow_mul-stride-in-Open-2 t c =
    let room = room_left _ _ _ c.in-Some.ensures.cases.0 c.args.first c.args.stride (length c.args.view.now.leads.now) c.requires.within in
    omega (arith, room, c.requires.small)

pub returns-in-No : goal.returns-in-No
returns-in-No t c =
    c.entry.ensures ∙ no_entry _ _ _ c.in-Some.ensures.cases.0 (seen c.args.view.now.terns.now c.args.view.now.leads.now) c.args.first c.args.stride c.in-No.is

pub returns-in-Yes : goal.returns-in-Yes
returns-in-Yes t c =
    c.entry-in-Yes.ensures ∙ yes_entry _ _ _ c.in-Some.ensures.cases.0 (seen c.args.view.now.terns.now c.args.view.now.leads.now) c.args.first c.args.stride c.in-Yes.is

pub returns-then-is_open : goal.returns-then-is_open
returns-then-is_open t c =
    open_half _ _ _ c.in-Some.ensures.cases.0 (seen c.args.view.now.terns.now c.args.view.now.leads.now) c.args.first c.args.stride c.in-Open.is
    (sym c.entry-even.ensures ∙ open_is (plain_tern c.entry-even.result) (tells_open (plain_tern c.entry-even.result) c.is_open.result c.is_open.ensures c.if-is_open.true))

pub returns-else-is_open : goal.returns-else-is_open
returns-else-is_open t c =
    c.agreed.ensures ∙ ap₂ agreed c.entry-even.ensures c.entry-in-Open.ensures
    ∙ open_entry _ _ _ c.in-Some.ensures.cases.0 (seen c.args.view.now.terns.now c.args.view.now.leads.now) c.args.first c.args.stride c.in-Open.is
