-- Forms of points that stand for themselves.
use Rattle.std.proofs.Common.{◌≡◌, ℕ, Bool, List, length, Some, refl, sym, ap, ◌∙◌, subst, inl, inr, arith, slice_index}
use Rattle.std.proofs.lemmas.Bool.{false≢true}
use Rattle.fab_systems_laws.specs.Ternary.{unknown}
use Rattle.fab_ternary.specs.declared.Tern.{Tern}
use Rattle.fab_ternary.specs.Terns.{is_known}
use Rattle.fab_compiled.specs.declared.tree.Tree.{Tree}
use Rattle.fab_compiled.specs.Leading.{IsMarked}
use Rattle.fab_equations.proofs.Numbering.{some_there}
use Rattle.fab_network.specs.declared.forms.Form.{Form}
use Rattle.fab_network.specs.declared.forms.Form.TheVariants.{Shows, Takes, Driven}
use Rattle.fab_network.specs.declared.network.Drive.{Drive}
use Rattle.fab_network.specs.declared.network.Network.{Network}
use Rattle.fab_network.specs.Forms.{AreForms, HasForms, IsFormBy}
use Rattle.fab_network.specs.Passes.{kept_tern, AreOwn, IsListed}
use Rattle.fab_network.specs.Tables.{IsFixed}
use Rattle.fab_network.proofs.Forming.{forms_stay}
use Rattle.fab_demand.specs.Asked.{Asked, DiffersInOwn}
use Rattle.fab_demand.specs.Demand.{AreFormsOf, AreOpen}
use Rattle.fab_demand.specs.inner.Cycles.{start_tern, AreStarts, IsSettled, IsStart}
use Rattle.fab_demand.proofs.Lists.{not_both}

-- ---- equal lists

pub forms_same : (trees : List Tree) (drives : List Drive) (own other_own leads other_leads : List ℕ) (terns other_terns : List Tern) (forms : List Form) →
    own ≡ other_own → leads ≡ other_leads → terns ≡ other_terns → HasForms trees drives own leads terns forms →
    HasForms trees drives other_own other_leads other_terns forms
forms_same trees drives own other_own leads other_leads terns other_terns forms e f g has =
    subst (λ (xs : List Tern). HasForms trees drives other_own other_leads xs forms) g
    (subst (λ (xs : List ℕ). HasForms trees drives other_own xs terns forms) f
    (subst (λ (xs : List ℕ). HasForms trees drives xs leads terns forms) e has))

pub made_same : (trees : List Tree) (drives : List Drive) (leads other_leads : List ℕ) (marks other_marks : List Bool) (base other_base : List Tern)
    (own other_own : List ℕ) (forms : List Form) → leads ≡ other_leads → marks ≡ other_marks → base ≡ other_base → own ≡ other_own →
    AreForms trees drives leads marks base own forms → AreForms trees drives other_leads other_marks other_base other_own forms
made_same trees drives leads other_leads marks other_marks base other_base own other_own forms e f g h are =
    subst (λ (xs : List ℕ). AreForms trees drives other_leads other_marks other_base xs forms) h
    (subst (λ (xs : List Tern). AreForms trees drives other_leads other_marks xs own forms) g
    (subst (λ (xs : List Bool). AreForms trees drives other_leads xs base own forms) f
    (subst (λ (xs : List ℕ). AreForms trees drives xs marks base own forms) e are)))

-- ---- forms that are found before the first cycle

varies : (marks : List Bool) (base : List Tern) (q : ℕ) → IsMarked marks q → kept_tern base q ≡ unknown → IsFixed marks base q → ⊥
varies marks base q marked none (inl known) = false≢true (sym (ap is_known none) ∙ known)
varies marks base q marked none (inr apart) = not_both marks q marked apart

module _ (old new : Asked) (leads : new.leads ≡ old.leads) (marks : new.marks ≡ old.marks) (own : new.own ≡ old.own)
    (same : (q : ℕ) → kept_tern new.terns q ≡ kept_tern old.terns q) where
  pub formed : (network : Network) (forms : List Form) → AreOpen old →
      AreForms network.trees.items network.drives.items old.leads old.marks old.terns old.own forms → AreFormsOf network new forms
  formed network forms varied are =
      forms_same network.trees.items network.drives.items old.own new.own old.leads new.leads new.terns new.terns forms (sym own) (sym leads) refl
      (record {
        marks = old.marks;
        base = old.terns;
        varies = λ q listed fixed. varies old.marks old.terns q (varied q listed).0 (varied q listed).1 fixed;
        stays = λ q fixed. same q;
        are = are;
      })

  pub formed_differs : (asked : Asked) → DiffersInOwn asked old → DiffersInOwn asked new
  formed_differs asked before = record {
    leads = leads ∙ before.leads;
    marks = marks ∙ before.marks;
    own = own ∙ before.own;
    others = λ q none. same q ∙ before.others q none;
  }

-- a cycle changes nothing but what is kept for points that stand for themselves
pub settled_differs : (network : Network) (held : List Tern) (old new : Asked) → new.leads ≡ old.leads → new.marks ≡ old.marks → new.own ≡ old.own →
    IsSettled network held old.own old.leads old.terns new.terns → (asked : Asked) → DiffersInOwn asked old → DiffersInOwn asked new
settled_differs network held old new leads marks own settled asked before = record {
  leads = leads ∙ before.leads;
  marks = marks ∙ before.marks;
  own = own ∙ before.own;
  others = λ q none.
      let apart : IsListed old.own q → ⊥ = λ listed. none (subst (λ (xs : List ℕ). IsListed xs q) before.own listed) in
      settled.kept_then q apart ∙ settled.kept_first q apart ∙ before.others q none;
}

-- forms stay right from cycle to cycle
pub formed_on : (network : Network) (held : List Tern) (old : Asked) (own leads : List ℕ) (terns : List Tern) (forms : List Form) →
    own ≡ old.own → leads ≡ old.leads → IsSettled network held old.own old.leads old.terns terns → AreFormsOf network old forms →
    HasForms network.trees.items network.drives.items own leads terns forms
formed_on network held old own leads terns forms same_own same_leads settled has =
    forms_same network.trees.items network.drives.items old.own own old.leads leads terns terns forms (sym same_own) (sym same_leads) refl
    (forms_stay network.trees.items network.drives.items old.own old.leads old.terns terns forms
    (λ q none. settled.kept_then q none ∙ settled.kept_first q none) has)

-- ---- what points start with

start_by_form : (trees : List Tree) (leads : List ℕ) (marks : List Bool) (base : List Tern) (drive : Drive) (form : Form) →
    IsFormBy trees leads marks base drive form → IsStart form (Some drive)
start_by_form trees leads marks base drive (Shows table) (source, is, table_is) = λ given. ap (λ (d : Drive). start_tern given (Some d)) is
start_by_form trees leads marks base drive (Takes table) (next, is, table_is) = λ given. ap (λ (d : Drive). start_tern given (Some d)) is
start_by_form trees leads marks base drive Driven is = tt

pub starts_of : (network : Network) (own leads : List ℕ) (terns : List Tern) (forms : List Form) →
    length network.drives.items ≡ length leads → AreOwn own leads → HasForms network.trees.items network.drives.items own leads terns forms → AreStarts network own forms
starts_of network own leads terns forms points are has place room form at =
    let point = slice_index own place in
    let there = some_there network.drives.items point (omega (arith, points, (are place room).0)) in
    subst (IsStart form) (sym there.1)
    (start_by_form network.trees.items leads has.marks has.base there.0 form (has.are place form at there.0 there.1))
