use Rattle.std.proofs.Common.{◌≡◌, ◌+◌, ◌^◌, ◌<◌, ℕ, sym, ◌∙◌, subst, arith, rules}
use Rattle.fab_compiled.specs.Terns.{seen}
use Rattle.fab_compiled.specs.Evaluation.{value_seen}
use Rattle.fab_compiled.proofs.Evaluated.{wide_at}
use Rattle.fab_compiled.proofs.Numbered.{whole_small}
use Rattle.fab_compiled.proofs.Picking.{followed_pick, marked_picked, own_pick}
use Rattle.fab_compiled.proofs.leads.pick_lead.Goals as goal

pub overflow_add-first-in-Some : goal.overflow_add-first-in-Some
overflow_add-first-in-Some c =
    let long = wide_at c.args.view.now.terns.now c.args.view.now.leads.now c.args.first c.args.index.now c.requires.made ∙ c.requires.width in
    omega (
      arith,
      whole_small (seen c.args.view.now.terns.now c.args.view.now.leads.now) (value_seen c.args.view.now.terns.now c.args.view.now.leads.now c.args.first c.args.index.now)
          c.args.width c.args.first c.in-Some.number long c.in-Some.ensures,
      c.requires.table,
      c.requires.few,
    )

pub lead_of_point-requires-clause-within : goal.lead_of_point-requires-clause-within
lead_of_point-requires-clause-within c =
    let long = wide_at c.args.view.now.terns.now c.args.view.now.leads.now c.args.first c.args.index.now c.requires.made ∙ c.requires.width in
    omega (
      arith,
      whole_small (seen c.args.view.now.terns.now c.args.view.now.leads.now) (value_seen c.args.view.now.terns.now c.args.view.now.leads.now c.args.first c.args.index.now)
          c.args.width c.args.first c.in-Some.number long c.in-Some.ensures,
      c.requires.table,
      c.requires.marks,
    )

pub returns-in-Some : goal.returns-in-Some
returns-in-Some c =
    followed_pick c.args.view.now.terns.now c.args.view.now.leads.now c.args.marks.now c.args.first c.args.place c.args.width c.args.index.now c.in-Some.number
    c.requires.made c.requires.begins c.requires.inside c.requires.width c.in-Some.ensures c.lead_of_point.result c.lead_of_point.ensures

pub returns-then-is_marked : goal.returns-then-is_marked
returns-then-is_marked c =
    let pow : c.pow.result ≡ 2 ^ c.args.width = first_of (search rules, cc, grind arith) in
    own_pick c.args.view.now.terns.now c.args.view.now.leads.now c.args.marks.now c.args.first c.args.place c.args.width c.args.index.now
    (λ k l. c.in_default-unmarked_of.ensures k (subst (λ (n : ℕ). k < n) (sym pow) l))
    (marked_picked c.args.view.now.terns.now c.args.view.now.leads.now c.args.marks.now
    (record { first = c.args.first + c.args.place; stride = 1; size = c.args.width }) c.args.first c.args.index.now 0 c.requires.made
    (omega (arith, c.requires.width)) (c.is_marked.ensures c.if-is_marked.true))

pub returns-in-None : goal.returns-in-None
returns-in-None c =
    let pow : c.pow.result ≡ 2 ^ c.args.width = first_of (search rules, cc, grind arith) in
    own_pick c.args.view.now.terns.now c.args.view.now.leads.now c.args.marks.now c.args.first c.args.place c.args.width c.args.index.now
    (λ k l. c.in_default-unmarked_of.ensures k (subst (λ (n : ℕ). k < n) (sym pow) l)) (c.in-None.ensures)
