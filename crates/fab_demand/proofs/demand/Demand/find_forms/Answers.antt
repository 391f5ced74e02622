use Rattle.std.proofs.Common.{◌≡◌, refl, List, length, ap, ◌∙◌}
use Rattle.std.proofs.lemmas.List.{with_items_is}
use Rattle.fab_ternary.specs.declared.Tern.{Tern}
use Rattle.fab_network.specs.Passes.{kept_tern}
use Rattle.fab_demand.specs.Asked.{Asked}
use Rattle.fab_demand.specs.Search.{asked_of}
use Rattle.fab_demand.proofs.Rooms.{keeps_on}
use Rattle.fab_demand.proofs.Formed.{formed, formed_differs, made_same}
use Rattle.fab_demand.proofs.demand.Demand.find_forms.Goals as goal

pub returns-clause-stays : goal.returns-clause-stays
returns-clause-stays c =
    let search = c.self.inside.search in
    let old : Asked = c.args.self.now in
    let same : asked_of search ≡ old = c.self.view_is in
    let terns : search.terns.items ≡ old.terns = ap (λ (a : Asked). a.terns) same in
    let long : length c.forms_of.new.terns ≡ search.terns.len = c.forms_of.auto.terns ∙ c.deref_mut.ensures.len in
    let kept = with_items_is search.terns c.forms_of.new.terns long in
    formed_differs old _ (ap (λ (a : Asked). a.leads) same) (ap (λ (a : Asked). a.marks) same) (ap (λ (a : Asked). a.own) same)
    (λ q. ap (λ (ts : List Tern). kept_tern ts q) kept ∙ c.forms_of.ensures.same q
    ∙ ap (λ (ts : List Tern). kept_tern ts q) (c.deref_mut.ensures.value ∙ terns))

pub returns-clause-forms : goal.returns-clause-forms
returns-clause-forms c =
    let search = c.self.inside.search in
    let old : Asked = c.args.self.now in
    let same : asked_of search ≡ old = c.self.view_is in
    let leads : search.leads.items ≡ old.leads = ap (λ (a : Asked). a.leads) same in
    let marks : search.marks.items ≡ old.marks = ap (λ (a : Asked). a.marks) same in
    let own : search.own.items ≡ old.own = ap (λ (a : Asked). a.own) same in
    let terns : search.terns.items ≡ old.terns = ap (λ (a : Asked). a.terns) same in
    let long : length c.forms_of.new.terns ≡ search.terns.len = c.forms_of.auto.terns ∙ c.deref_mut.ensures.len in
    let kept = with_items_is search.terns c.forms_of.new.terns long in
    formed old _ leads marks own
    (λ q. ap (λ (ts : List Tern). kept_tern ts q) kept ∙ c.forms_of.ensures.same q
    ∙ ap (λ (ts : List Tern). kept_tern ts q) (c.deref_mut.ensures.value ∙ terns))
    c.args.network.now c.forms_of.new.forms.items c.requires.fresh
    (made_same c.args.network.now.trees.items c.args.network.now.drives.items c.deref-2.result.now old.leads c.deref-3.result.now old.marks c.deref_mut.result.now
    old.terns c.deref.result.now old.own c.forms_of.new.forms.items (c.deref-2.ensures.value ∙ leads) (c.deref-3.ensures.value ∙ marks)
    (c.deref_mut.ensures.value ∙ terns) (c.deref.ensures.value ∙ own) c.forms_of.ensures.forms)

pub invariant_of-self : goal.invariant_of-self
invariant_of-self c =
    let search = c.self.inside.search in
    let kept = with_items_is search.terns c.forms_of.new.terns (c.forms_of.auto.terns ∙ c.deref_mut.ensures.len) in
    keeps_on search _ c.self.invariant (ap length kept ∙ c.forms_of.auto.terns ∙ ap length c.deref_mut.ensures.value) refl refl refl refl refl
