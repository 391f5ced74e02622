-- What a look at a drive finds.
use Rattle.std.proofs.Common.{◌≡◌, ℕ, Bool, false, List, Option, Some, sym, ap, ◌∙◌, subst}
use Rattle.fab_systems_laws.specs.Ternary.{no, yes, unknown, Tern as PlainTern}
use Rattle.fab_ternary.specs.declared.Tern.{Tern}
use Rattle.fab_ternary_laws.specs.Shown.{through}
use Rattle.fab_compiled.specs.declared.leads.Lead.{Lead}
use Rattle.fab_compiled.specs.declared.tree.Tree.{Tree}
use Rattle.fab_compiled.specs.Leading.{PointTerns}
use Rattle.fab_network.specs.declared.network.Clock.{Clock}
use Rattle.fab_network.specs.declared.network.Drive.{Drive}
use Rattle.fab_network.specs.declared.network.Drive.TheVariants.{Hold}
use Rattle.fab_network.specs.declared.network.Source.{Source}
use Rattle.fab_network.specs.Network.{source_tern}
use Rattle.fab_demand.specs.Demand.{IsClosed}
use Rattle.fab_demand.specs.declared.gates.Gate.TheVariants.{Known}
use Rattle.fab_demand.specs.Gates.{IsGate}
use Rattle.fab_demand.specs.inner.Looking.{lead_given, Finds}

-- the same of equal lists
pub finds_of : (trees : List Tree) (clock : Clock) (given : PlainTern) (drive : Option Drive) (lead : Lead) (terns other_terns : List Tern)
    (leads other_leads : List ℕ)
    (marks other_marks : List Bool) → terns ≡ other_terns → leads ≡ other_leads → marks ≡ other_marks → Finds trees clock given terns leads marks drive lead →
    Finds trees clock given other_terns other_leads other_marks drive lead
finds_of trees clock given drive lead terns other_terns leads other_leads marks other_marks e f g h =
    subst (λ (xs : List Bool). Finds trees clock given other_terns other_leads xs drive lead) g
    (subst (λ (xs : List ℕ). Finds trees clock given other_terns xs marks drive lead) f
    (subst (λ (xs : List Tern). Finds trees clock given xs leads marks drive lead) e h))

-- a latch whose gate is 0
module _ (trees : List Tree) (clock : Clock) (given : PlainTern) (terns : List Tern) (leads : List ℕ) (marks : List Bool) (gate latched : Source) where
  abbrev data_of : PointTerns → PlainTern
  data_of t = source_tern trees t latched

  closed_by : IsClosed trees terns leads gate → (g : PlainTern) → Finds trees clock g terns leads marks (Some (Hold gate latched)) (lead_given g)
  closed_by closed no = λ later t kept above. ap (λ (x : PlainTern). through x (data_of t) later) (closed t above) ∙ kept closed
  closed_by closed yes = λ later t kept above. ap (λ (x : PlainTern). through x (data_of t) later) (closed t above) ∙ kept closed
  closed_by closed unknown = λ later t u kept at_t follow_t at_u follow_u agree.
      ap (λ (x : PlainTern). through x (data_of t) later) (closed t at_t) ∙ sym (ap (λ (x : PlainTern). through x (data_of u) later) (closed u at_u))

  pub closed_finds : IsGate trees terns leads marks gate (Known false) → (lead : Lead) → lead ≡ lead_given given →
      Finds trees clock given terns leads marks (Some (Hold gate latched)) lead
  closed_finds closed lead is = subst (λ (l : Lead). Finds trees clock given terns leads marks (Some (Hold gate latched)) l) (sym is) (closed_by closed given)
