use Rattle.std.proofs.Common.{◌≡◌, refl, length, sym, ap, ◌∙◌}
use Rattle.std.proofs.lemmas.List.{with_items_is}
use Rattle.fab_demand.specs.Asked.{Asked}
use Rattle.fab_demand.specs.Search.{asked_of}
use Rattle.fab_demand.proofs.Rooms.{keeps_on}
use Rattle.fab_demand.proofs.Formed.{formed_on, forms_same, settled_differs}
use Rattle.fab_demand.proofs.Settling.{cycle_shows, settled_of}
use Rattle.fab_demand.proofs.demand.Demand.settle_by.Goals as goal

pub settle_anew-requires-clause-forms : goal.settle_anew-requires-clause-forms
settle_anew-requires-clause-forms c =
    let search = c.self.inside.search in
    let old : Asked = c.args.self.now in
    let same : asked_of search ≡ old = c.self.view_is in
    forms_same c.args.network.now.trees.items c.args.network.now.drives.items old.own c.deref.result.now old.leads c.deref-2.result.now old.terns
    c.deref_mut.result.now c.args.forms.now (sym (c.deref.ensures.value ∙ ap (λ (a : Asked). a.own) same))
    (sym (c.deref-2.ensures.value ∙ ap (λ (a : Asked). a.leads) same)) (sym (c.deref_mut.ensures.value ∙ ap (λ (a : Asked). a.terns) same)) c.requires.forms

pub returns-clause-stays : goal.returns-clause-stays
returns-clause-stays c =
    let search = c.self.inside.search in
    let old : Asked = c.args.self.now in
    let same : asked_of search ≡ old = c.self.view_is in
    let leads : search.leads.items ≡ old.leads = ap (λ (a : Asked). a.leads) same in
    let marks : search.marks.items ≡ old.marks = ap (λ (a : Asked). a.marks) same in
    let own : search.own.items ≡ old.own = ap (λ (a : Asked). a.own) same in
    let terns : search.terns.items ≡ old.terns = ap (λ (a : Asked). a.terns) same in
    let long : length c.settle_anew.new.terns ≡ search.terns.len = c.settle_anew.auto.terns ∙ c.deref_mut.ensures.len in
    let kept = with_items_is search.terns c.settle_anew.new.terns long in
    settled_differs c.args.network.now c.args.given.now old _ leads marks own
    (settled_of c.args.network.now c.args.given.now c.deref.result.now old.own c.deref-2.result.now old.leads c.deref_mut.result.now old.terns
    c.settle_anew.new.terns _
    (c.deref.ensures.value ∙ own) (c.deref-2.ensures.value ∙ leads) (c.deref_mut.ensures.value ∙ terns) (sym kept) c.settle_anew.ensures)

pub returns-clause-shows : goal.returns-clause-shows
returns-clause-shows c =
    let search = c.self.inside.search in
    let old : Asked = c.args.self.now in
    let same : asked_of search ≡ old = c.self.view_is in
    let leads : search.leads.items ≡ old.leads = ap (λ (a : Asked). a.leads) same in
    let marks : search.marks.items ≡ old.marks = ap (λ (a : Asked). a.marks) same in
    let own : search.own.items ≡ old.own = ap (λ (a : Asked). a.own) same in
    let terns : search.terns.items ≡ old.terns = ap (λ (a : Asked). a.terns) same in
    let long : length c.settle_anew.new.terns ≡ search.terns.len = c.settle_anew.auto.terns ∙ c.deref_mut.ensures.len in
    let kept = with_items_is search.terns c.settle_anew.new.terns long in
    cycle_shows c.args.network.now c.args.given.now old _ c.requires.fit c.requires.points leads marks own
    (settled_of c.args.network.now c.args.given.now c.deref.result.now old.own c.deref-2.result.now old.leads c.deref_mut.result.now old.terns
    c.settle_anew.new.terns _
    (c.deref.ensures.value ∙ own) (c.deref-2.ensures.value ∙ leads) (c.deref_mut.ensures.value ∙ terns) (sym kept) c.settle_anew.ensures)

pub returns-clause-forms : goal.returns-clause-forms
returns-clause-forms c =
    let search = c.self.inside.search in
    let old : Asked = c.args.self.now in
    let same : asked_of search ≡ old = c.self.view_is in
    let leads : search.leads.items ≡ old.leads = ap (λ (a : Asked). a.leads) same in
    let own : search.own.items ≡ old.own = ap (λ (a : Asked). a.own) same in
    let terns : search.terns.items ≡ old.terns = ap (λ (a : Asked). a.terns) same in
    let long : length c.settle_anew.new.terns ≡ search.terns.len = c.settle_anew.auto.terns ∙ c.deref_mut.ensures.len in
    let kept = with_items_is search.terns c.settle_anew.new.terns long in
    formed_on c.args.network.now c.args.given.now old search.own.items search.leads.items _ c.args.forms.now own leads
    (settled_of c.args.network.now c.args.given.now c.deref.result.now old.own c.deref-2.result.now old.leads c.deref_mut.result.now old.terns
    c.settle_anew.new.terns _
    (c.deref.ensures.value ∙ own) (c.deref-2.ensures.value ∙ leads) (c.deref_mut.ensures.value ∙ terns) (sym kept) c.settle_anew.ensures)
    c.requires.forms

pub invariant_of-self : goal.invariant_of-self
invariant_of-self c =
    let search = c.self.inside.search in
    let kept = with_items_is search.terns c.settle_anew.new.terns (c.settle_anew.auto.terns ∙ c.deref_mut.ensures.len) in
    keeps_on search _ c.self.invariant (ap length kept ∙ c.settle_anew.auto.terns ∙ ap length c.deref_mut.ensures.value) refl refl refl refl refl
