-- One rule is broken first.
use Rattle.std.proofs.Common.{◌≡◌, ◌⊎◌, ℕ, List, refl, sym, ◌∙◌, inl, inr}
use Rattle.fab_model.specs.Grid.{PlainFabric}
use Rattle.fab_netlist.specs.Packed.{PlainPacked}
use Rattle.fab_implementation.specs.Plain.{Pad, PlainImplementation}
use Rattle.fab_legal.specs.Lines.{CellsHaveSites, SitesDiffer, PortsHavePads, ConstraintsHold}
use Rattle.fab_legal.specs.Nets.{IsRightStep, IsRightEntry}
use Rattle.fab_legal.specs.Legal.{HasRightSteps, HasRightEntries, EdgesAreSteps, WiresAreReached, NetsBeginRight, SinksStand, ArePlaced}
use Rattle.fab_legal.specs.Broken.{IsCellItem, IsSiteItem, IsPortItem, IsConstraintItem, IsStepItem, IsEntryItem, IsNetItem, IsSinkItem, IsSharedItem, IsFirstBroken, rule_1, rule_2, rule_3, rule_4, rule_5, rule_6, rule_7, rule_8, rule_9}
use Rattle.fab_legal.proofs.Lists.{wrong_not_right}
use Rattle.fab_refusals_laws.specs.Broken.{BrokenOnce}
use Rattle.fab_refusals_laws.proofs.Items.{one_cell, no_cell, one_site, no_site, one_port, no_port, one_constraint, no_constraint, one_edge, one_net, no_net, one_sink, no_sink, one_shared}

-- what is broken, by rule and item
abbrev Breaks : Type 1
Breaks = (rule : ℕ) (item : List ℕ) → Type 0

-- it is one rule and one item
abbrev Once : Breaks → Type 0
Once breaks = (rule other : ℕ) (item text : List ℕ) → breaks rule item → breaks other text → (rule ≡ other) × (item ≡ text)

-- a rule is broken, or it holds and others may be broken
abbrev From : (number : ℕ) (breaks : List ℕ → Type 0) (holds : Type 0) → Breaks → Breaks
From number breaks holds rest rule item = ((rule ≡ number) × breaks item) ⊎ (holds × rest rule item)

from_once : (number : ℕ) (breaks : List ℕ → Type 0) (holds : Type 0) (rest : Breaks) → ((item text : List ℕ) → breaks item → breaks text → item ≡ text) → ((item : List ℕ) → breaks item → holds → ⊥)
    → Once rest → Once (From number breaks holds rest)
from_once number breaks holds rest one none later rule other item text (inl first) (inl second) = (first.0 ∙ sym second.0, one item text first.1 second.1)
from_once number breaks holds rest one none later rule other item text (inl first) (inr second) = absurd (none item first.1 second.0)
from_once number breaks holds rest one none later rule other item text (inr first) (inl second) = absurd (none text second.1 first.0)
from_once number breaks holds rest one none later rule other item text (inr first) (inr second) = later rule other item text first.1 second.1

module _ (fabric : PlainFabric) (packed : PlainPacked) (fixed : List Pad) (i : PlainImplementation) where
  abbrev placed_sink : List ℕ → Type 0
  placed_sink item = ArePlaced fabric packed i × IsSinkItem fabric packed i item

  abbrev ninth : Breaks
  ninth rule item = (rule ≡ 9) × IsSharedItem fabric i item

  abbrev eighth : Breaks
  eighth = From 8 placed_sink (SinksStand fabric packed i) ninth

  abbrev seventh : Breaks
  seventh = From 7 (IsNetItem fabric packed i) (NetsBeginRight fabric packed i) eighth

  abbrev sixth : Breaks
  sixth = From 6 (IsEntryItem fabric i) (WiresAreReached i) seventh

  abbrev fifth : Breaks
  fifth = From 5 (IsStepItem fabric i) (EdgesAreSteps fabric i) sixth

  abbrev fourth : Breaks
  fourth = From 4 (IsConstraintItem fixed i) (ConstraintsHold fixed i) fifth

  abbrev third : Breaks
  third = From 3 (IsPortItem fabric packed i) (PortsHavePads fabric packed i) fourth

  abbrev second : Breaks
  second = From 2 (IsSiteItem i) (SitesDiffer i) third

  abbrev first : Breaks
  first = From 1 (IsCellItem fabric packed i) (CellsHaveSites fabric packed i) second

  ninth_once : Once ninth
  ninth_once rule other item text a b = (a.0 ∙ sym b.0, one_shared fabric packed i item text a.1 b.1)

  eighth_once : Once eighth
  eighth_once = from_once 8 placed_sink (SinksStand fabric packed i) ninth (λ item text a b. one_sink fabric packed i item text a.1 b.1) (λ item a stand. no_sink fabric packed i item a.0 a.1 stand) ninth_once

  seventh_once : Once seventh
  seventh_once = from_once 7 (IsNetItem fabric packed i) (NetsBeginRight fabric packed i) eighth (one_net fabric packed i) (no_net fabric packed i) eighth_once

  sixth_once : Once sixth
  sixth_once = from_once 6 (IsEntryItem fabric i) (WiresAreReached i) seventh (λ item text a b. one_edge fabric packed i HasRightEntries (λ tree. IsRightEntry tree.edges) item text a b)
      (λ item a reached. wrong_not_right HasRightEntries i.trees a.tree a.first_tree reached) seventh_once

  fifth_once : Once fifth
  fifth_once = from_once 5 (IsStepItem fabric i) (EdgesAreSteps fabric i) sixth (λ item text a b. one_edge fabric packed i (HasRightSteps fabric) (λ tree. IsRightStep fabric) item text a b)
      (λ item a steps. wrong_not_right (HasRightSteps fabric) i.trees a.tree a.first_tree steps) sixth_once

  fourth_once : Once fourth
  fourth_once = from_once 4 (IsConstraintItem fixed i) (ConstraintsHold fixed i) fifth (one_constraint fabric packed i fixed) (no_constraint fabric packed i fixed) fifth_once

  third_once : Once third
  third_once = from_once 3 (IsPortItem fabric packed i) (PortsHavePads fabric packed i) fourth (one_port fabric packed i) (no_port fabric packed i) fourth_once

  second_once : Once second
  second_once = from_once 2 (IsSiteItem i) (SitesDiffer i) third (one_site fabric packed i) (no_site fabric packed i) third_once

  first_once : Once first
  first_once = from_once 1 (IsCellItem fabric packed i) (CellsHaveSites fabric packed i) second (one_cell fabric packed i) (no_cell fabric packed i) second_once

  -- behind the sites
  behind : (rule : ℕ) (item : List ℕ) → ArePlaced fabric packed i → fourth rule item → first rule item
  behind rule item placed more = inr (placed.cells, inr (placed.sites, inr (placed.ports, more)))

  in_turn : (rule : ℕ) (item : List ℕ) → IsFirstBroken fabric packed fixed i rule item → first rule item
  in_turn rule item (rule_1 breaks) = inl (refl, breaks)
  in_turn rule item (rule_2 cells breaks) = inr (cells, inl (refl, breaks))
  in_turn rule item (rule_3 cells sites breaks) = inr (cells, inr (sites, inl (refl, breaks)))
  in_turn rule item (rule_4 placed breaks) = behind 4 item placed (inl (refl, breaks))
  in_turn rule item (rule_5 placed hold breaks) = behind 5 item placed (inr (hold, inl (refl, breaks)))
  in_turn rule item (rule_6 placed hold steps breaks) = behind 6 item placed (inr (hold, inr (steps, inl (refl, breaks))))
  in_turn rule item (rule_7 placed hold steps reached breaks) = behind 7 item placed (inr (hold, inr (steps, inr (reached, inl (refl, breaks)))))
  in_turn rule item (rule_8 placed hold steps reached nets breaks) = behind 8 item placed (inr (hold, inr (steps, inr (reached, inr (nets, inl (refl, (placed, breaks)))))))
  in_turn rule item (rule_9 placed hold steps reached nets stand breaks) = behind 9 item placed (inr (hold, inr (steps, inr (reached, inr (nets, inr (stand, (refl, breaks)))))))

pub broken_once : BrokenOnce
broken_once fabric packed fixed i rule other item text one two = first_once fabric packed fixed i rule other item text (in_turn fabric packed fixed i rule item one) (in_turn fabric packed fixed i other text two)
