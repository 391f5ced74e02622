-- The first refusals of the command `flow` have one status number, or it is ready.
use Rattle.std.proofs.Common.{◌≡◌, ◌≤◌, ℕ, List, Option, refl, sym, ap, ◌∙◌, arith}
use Rattle.fab_base.specs.declared.fault.Fault.{Fault}
use Rattle.fab_base.specs.Report.{number_of}
use Rattle.fab_desk.specs.Files.{Map}
use Rattle.fab_files.specs.Files.{refuses}
use Rattle.fab_files.specs.Stages.{MeetsLast, IsJudged}
use Rattle.fab_files.proofs.Stages.{turn_is_judged}
use Rattle.fab_designs.specs.Designs.{PlainDesign, SpellsDesign, MeetsDesign}
use Rattle.fab_designs.proofs.Judged.{SameNumber, design_is_judged}
use Rattle.fab_flow.specs.Generating.{text_length, most_text_bytes}
use Rattle.fab_netlist.specs.Resets.{netlist_with}
use Rattle.fab_flow.specs.Resetting.{HasReset}
use Rattle.fab_flow.specs.Assembling.{Fits}
use Rattle.fab_flow.specs.Flowing.{FlowFiles, IsReadyToFlow, MeetsFlow, RefusesFlow, long, no_input, short}
use Rattle.fab_flow.proofs.AssembledOnce.{refuses_is}
use Rattle.fab_flow.proofs.ResetPorts.{has_apart, lacks_once}

-- the text of the fabric is not too long, the reset port is a data input, and the fabric has sites enough
abbrev IsTaken : (reset : Option (List ℕ)) → PlainDesign → Unit {0} → Type 0
IsTaken reset design _ = (text_length design.fabric ≤ most_text_bytes) × HasReset reset design.netlist × Fits design.fabric (netlist_with reset design.netlist)

module _ (name : List ℕ) (reset : Option (List ℕ)) (design : PlainDesign) where
  refused_number : (a b : Fault) → RefusesFlow name reset design a → RefusesFlow name reset design b → number_of a ≡ number_of b
  refused_number a b (long is) (long also) = ap number_of (is.is ∙ sym also.is)
  refused_number a b (long is) (no_input few lacks) = absurd (let over = is.long in omega (arith, over, few))
  refused_number a b (long is) (short few has also) = absurd (let over = is.long in omega (arith, over, few))
  refused_number a b (no_input few lacks) (long also) = absurd (let over = also.long in omega (arith, over, few))
  refused_number a b (no_input few lacks) (no_input more also) = ap number_of (lacks_once reset design.netlist a b lacks also)
  refused_number a b (no_input few lacks) (short more has is) = absurd (has_apart reset design.netlist a has lacks)
  refused_number a b (short few has is) (long also) = absurd (let over = also.long in omega (arith, over, few))
  refused_number a b (short few has is) (no_input more lacks) = absurd (has_apart reset design.netlist b has lacks)
  refused_number a b (short few has is) (short more here also) = ap number_of (let same = sym is ∙ also in cc)

  taken_apart : (fault : Fault) → IsTaken reset design tt → RefusesFlow name reset design fault → ⊥
  taken_apart fault taken (long is) = let over = is.long in let few = taken.0 in omega (arith, over, few)
  taken_apart fault taken (no_input few lacks) = has_apart reset design.netlist fault taken.1 lacks
  taken_apart fault taken (short few has is) = let differ = sym is ∙ taken.2 in cc

  flowing_is_judged : IsJudged SameNumber (IsTaken reset design) (MeetsLast (RefusesFlow name reset design))
  flowing_is_judged = record {
    once = λ first second x y. refl;
    refused_once = λ first second x y. ap number_of (refuses_is x.1) ∙ refused_number x.0 y.0 x.2 y.2 ∙ sym (ap number_of (refuses_is y.1));
    apart = λ value fault taken x. taken_apart x.0 taken x.2;
  }

module _ (files : Map) (names : FlowFiles) where
  flow_is_judged : IsJudged SameNumber (λ (value : PlainDesign × Unit {0}). SpellsDesign files names.design value.0 × IsTaken names.reset value.0 value.1) (MeetsFlow files names)
  flow_is_judged =
      turn_is_judged SameNumber (SpellsDesign files names.design) (MeetsDesign files names.design) (λ design. MeetsLast (RefusesFlow names.design.fabric names.reset design))
      (design_is_judged files names.design) (IsTaken names.reset) (λ design spelled. flowing_is_judged names.design.fabric names.reset design)

  -- what the command comes upon has one status number
  pub one_flow_number : (a b : Fault) → MeetsFlow files names (refuses a) → MeetsFlow files names (refuses b) → number_of a ≡ number_of b
  one_flow_number a b = flow_is_judged.refused_once a b

  -- what is ready is not refused
  pub flow_not_both : (fault : Fault) → IsReadyToFlow files names → MeetsFlow files names (refuses fault) → ⊥
  flow_not_both fault ready = flow_is_judged.apart (ready.design, tt) fault (ready.spelled, (ready.short, ready.resets, ready.fits))
