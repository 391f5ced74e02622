use Rattle.std.proofs.Common.{◌≡◌, ◌-◌, ◌<◌, length, sym, ap, ◌∙◌, subst}
use Rattle.fab_solutions_laws.specs.fab_ternary_laws_Operators.{tern_at}
use Rattle.fab_compiled.specs.declared.tree.Tree.{Tree}
use Rattle.fab_compiled.specs.Trees.{tree_value, tree_width, IsMade}
use Rattle.fab_compiled.specs.Evaluation.{value_seen, IsWithin}
use Rattle.fab_compiled.specs.Leading.{TellsBit}
use Rattle.fab_compiled.proofs.Leading.{own_leads, point_leads, low_leads, high_leads, yes_branch, no_branch}
use Rattle.fab_compiled.specs.inner.Picks.{PickLeads}
use Rattle.fab_compiled.proofs.Picking.{pick_leads}
use Rattle.fab_compiled.proofs.leads.+lead_of.Goals as goal

pub returns-in-Bits : goal.returns-in-Bits
returns-in-Bits t c =
    let within : c.args.bit < c.in-Bits.field-1 = subst (λ (x : Tree). c.args.bit < tree_width x) c.in-Bits.is c.requires.within in
    point_leads c.args.view.now.terns.now c.args.view.now.leads.now c.args.marks.now c.args.first c.args.tree.now c.in-Bits.place c.in-Bits.field-1 c.args.bit c.in-Bits.is within
    c.lead_of_point.result c.lead_of_point.ensures

pub returns-then-bit-width : goal.returns-then-bit-width
returns-then-bit-width t c =
    let low = c.in-Cat.low.value in
    let high = c.in-Cat.high.value in
    let made : (tree_width low ≡ c.in-Cat.width) × IsMade low × IsMade high = subst IsMade c.in-Cat.is c.requires.made in
    low_leads c.args.view.now.terns.now c.args.view.now.leads.now c.args.marks.now c.args.first c.args.tree.now low high c.args.bit c.in-Cat.width
    (λ at. ap (tree_value at) c.in-Cat.is) made.0 made.1 c.if-bit-width.true c.lead_of.result
    (subst (λ (x : Tree). TellsBit c.args.view.now.terns.now c.args.view.now.leads.now c.args.marks.now c.args.first x c.args.bit c.lead_of.result) c.deref.ensures c.lead_of.ensures)

pub returns-else-bit-width : goal.returns-else-bit-width
returns-else-bit-width t c =
    let low = c.in-Cat.low.value in
    let high = c.in-Cat.high.value in
    let made : (tree_width low ≡ c.in-Cat.width) × IsMade low × IsMade high = subst IsMade c.in-Cat.is c.requires.made in
    high_leads c.args.view.now.terns.now c.args.view.now.leads.now c.args.marks.now c.args.first c.args.tree.now low high c.args.bit c.in-Cat.width
    (λ at. ap (tree_value at) c.in-Cat.is) made.0 made.1 c.if-bit-width.false c.lead_of-else-bit-width.result
    (subst (λ (x : Tree). TellsBit c.args.view.now.terns.now c.args.view.now.leads.now c.args.marks.now c.args.first x (c.args.bit - c.in-Cat.width) c.lead_of-else-bit-width.result)
    c.deref-else-bit-width.ensures c.lead_of-else-bit-width.ensures)

pub returns-in-Yes : goal.returns-in-Yes
returns-in-Yes t c =
    let test = c.in-Cond.test.value in
    let a = c.in-Cond.yes.value in
    let b = c.in-Cond.no.value in
    let made : (tree_width test ≡ 1) × (tree_width a ≡ tree_width b) × IsMade test × IsMade a × IsMade b = subst IsMade c.in-Cond.is c.requires.made in
    let inside = subst (λ (x : Tree). IsWithin x c.args.first (length c.args.view.now.leads.now)) c.in-Cond.is c.requires.inside in
    yes_branch c.args.view.now.terns.now c.args.view.now.leads.now c.args.marks.now c.args.first c.args.tree.now test a b c.args.bit
    (λ at. ap (tree_value at) c.in-Cond.is) made.2 c.requires.begins inside.0
    (sym (c.in-Yes.ensures ∙ ap (λ (x : Tree). tern_at (value_seen c.args.view.now.terns.now c.args.view.now.leads.now c.args.first x) 0) c.deref-in-Cond.ensures))
    c.lead_of-in-Yes.result
    (subst (λ (x : Tree). TellsBit c.args.view.now.terns.now c.args.view.now.leads.now c.args.marks.now c.args.first x c.args.bit c.lead_of-in-Yes.result)
    c.deref-in-Yes.ensures c.lead_of-in-Yes.ensures)

pub returns-in-No : goal.returns-in-No
returns-in-No t c =
    let test = c.in-Cond.test.value in
    let a = c.in-Cond.yes.value in
    let b = c.in-Cond.no.value in
    let made : (tree_width test ≡ 1) × (tree_width a ≡ tree_width b) × IsMade test × IsMade a × IsMade b = subst IsMade c.in-Cond.is c.requires.made in
    let inside = subst (λ (x : Tree). IsWithin x c.args.first (length c.args.view.now.leads.now)) c.in-Cond.is c.requires.inside in
    no_branch c.args.view.now.terns.now c.args.view.now.leads.now c.args.marks.now c.args.first c.args.tree.now test a b c.args.bit
    (λ at. ap (tree_value at) c.in-Cond.is) made.2 c.requires.begins inside.0
    (sym (c.in-No.ensures ∙ ap (λ (x : Tree). tern_at (value_seen c.args.view.now.terns.now c.args.view.now.leads.now c.args.first x) 0) c.deref-in-Cond.ensures))
    c.lead_of-in-No.result
    (subst (λ (x : Tree). TellsBit c.args.view.now.terns.now c.args.view.now.leads.now c.args.marks.now c.args.first x c.args.bit c.lead_of-in-No.result)
    c.deref-in-No.ensures c.lead_of-in-No.ensures)

pub returns-in-Pick : goal.returns-in-Pick
returns-in-Pick t c =
    let within : c.args.bit < 1 = subst (λ (x : Tree). c.args.bit < tree_width x) c.in-Pick.is c.requires.within in
    pick_leads c.args.view.now.terns.now c.args.view.now.leads.now c.args.marks.now c.args.first c.in-Pick.place c.in-Pick.width c.args.bit c.args.tree.now c.in-Pick.index.value
    (λ at. ap (tree_value at) c.in-Pick.is) within c.pick_lead.result
    (subst (λ (x : Tree). PickLeads c.args.view.now.terns.now c.args.view.now.leads.now c.args.marks.now c.args.first c.in-Pick.place c.in-Pick.width x c.pick_lead.result)
    c.deref-in-Pick.ensures c.pick_lead.ensures)

pub returns-in-Open : goal.returns-in-Open
returns-in-Open t c =
    own_leads c.args.view.now.terns.now c.args.view.now.leads.now c.args.marks.now c.args.first c.args.tree.now c.args.bit c.own_lead.result c.own_lead.ensures

pub returns-in-Equal : goal.returns-in-Equal
returns-in-Equal t c =
    own_leads c.args.view.now.terns.now c.args.view.now.leads.now c.args.marks.now c.args.first c.args.tree.now c.args.bit c.own_lead-in-Equal.result c.own_lead-in-Equal.ensures

pub returns-in-And : goal.returns-in-And
returns-in-And t c =
    own_leads c.args.view.now.terns.now c.args.view.now.leads.now c.args.marks.now c.args.first c.args.tree.now c.args.bit c.own_lead-in-And.result c.own_lead-in-And.ensures

pub returns-in-Const : goal.returns-in-Const
returns-in-Const t c =
    own_leads c.args.view.now.terns.now c.args.view.now.leads.now c.args.marks.now c.args.first c.args.tree.now c.args.bit c.own_lead-in-Const.result c.own_lead-in-Const.ensures
