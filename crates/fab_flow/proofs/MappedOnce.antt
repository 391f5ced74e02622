-- The first refusals of the command `map` have one status number, or it is ready.
use Rattle.std.proofs.Common.{◌≡◌, refl, sym, ap, ◌∙◌}
use Rattle.fab_base.specs.declared.fault.Fault.{Fault}
use Rattle.fab_base.specs.Report.{number_of}
use Rattle.fab_desk.specs.Files.{Map}
use Rattle.fab_files.specs.Files.{refuses}
use Rattle.fab_files.specs.Stages.{MeetsLast, IsJudged}
use Rattle.fab_files.proofs.Stages.{turn_is_judged}
use Rattle.fab_designs.specs.Designs.{PlainDesign, SpellsDesign, MeetsDesign}
use Rattle.fab_designs.proofs.Judged.{SameNumber, design_is_judged}
use Rattle.fab_flow.specs.Assembling.{Fits}
use Rattle.fab_flow.specs.Mapping.{MappingFiles, IsReadyToMap, MeetsMapping, RefusesMapping}

refuses_is : {a b : Fault} → refuses a ≡ refuses b → a ≡ b
refuses_is same = cc

-- the fabric has sites enough
abbrev HasSites : PlainDesign → Unit {0} → Type 0
HasSites design _ = Fits design.fabric design.netlist

same_refusal : (design : PlainDesign) (a b : Fault) → RefusesMapping design a → RefusesMapping design b → a ≡ b
same_refusal design a b is also = let same = sym is ∙ also in cc

mapping_is_judged : (design : PlainDesign) → IsJudged SameNumber (HasSites design) (MeetsLast (RefusesMapping design))
mapping_is_judged design = record {
  once = λ first second x y. refl;
  refused_once = λ first second x y. ap number_of (refuses_is x.1 ∙ same_refusal design x.0 y.0 x.2 y.2 ∙ sym (refuses_is y.1));
  apart = λ value fault fits x. let differ = sym x.2 ∙ fits in cc;
}

module _ (files : Map) (names : MappingFiles) where
  all_is_judged : IsJudged SameNumber (λ (value : PlainDesign × Unit {0}). SpellsDesign files names.design value.0 × HasSites value.0 value.1) (MeetsMapping files names)
  all_is_judged =
      turn_is_judged SameNumber (SpellsDesign files names.design) (MeetsDesign files names.design) (λ design. MeetsLast (RefusesMapping design))
      (design_is_judged files names.design) HasSites (λ design spelled. mapping_is_judged design)

  -- what the command comes upon has one status number
  pub one_number : (a b : Fault) → MeetsMapping files names (refuses a) → MeetsMapping files names (refuses b) → number_of a ≡ number_of b
  one_number a b = all_is_judged.refused_once a b

  -- what is ready is not refused
  pub not_both : (fault : Fault) → IsReadyToMap files names → MeetsMapping files names (refuses fault) → ⊥
  not_both fault ready = all_is_judged.apart (ready.design, tt) fault (ready.spelled, ready.fits)
