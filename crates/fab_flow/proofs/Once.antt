-- The command `generate` has one first refusal, or is ready.
use Rattle.std.proofs.Common.{◌≡◌, ◌≤◌, ℕ, List, refl, sym, ◌∙◌, arith}
use Rattle.fab_base.specs.declared.fault.Fault.{Fault}
use Rattle.fab_desk.specs.Files.{Map}
use Rattle.fab_files.specs.Files.{refuses}
use Rattle.fab_files.specs.Stages.{MeetsLast, IsJudged}
use Rattle.fab_files.proofs.Stages.{turn_is_judged}
use Rattle.fab_model.specs.Grid.{PlainFabric}
use Rattle.fab_read.specs.Fabrics.{SpellsFabric, MeetsFabric}
use Rattle.fab_read.proofs.FabricsOnce.{one_fabric, refused_once, not_refused}
use Rattle.fab_flow.specs.Generating.{text_length, most_text_bytes, IsTooLong, MeetsGenerate, IsReadyToGenerate}

pub fabric_is_judged : (files : Map) (name : List ℕ) → IsJudged (λ a b. a ≡ b) (SpellsFabric files name) (MeetsFabric files name)
fabric_is_judged files name = record { once = one_fabric files name; refused_once = refused_once files name; apart = not_refused files name }

pub refuses_is : {a b : Fault} → refuses a ≡ refuses b → a ≡ b
refuses_is same = cc

-- the fabric's text is short enough
abbrev pub IsShort : PlainFabric → Unit {0} → Type 0
IsShort fabric _ = text_length fabric ≤ most_text_bytes

length_is_judged : (name : List ℕ) (fabric : PlainFabric) → IsJudged (λ a b. a ≡ b) (IsShort fabric) (MeetsLast (IsTooLong name fabric))
length_is_judged name fabric = record {
  once = λ first second x y. refl;
  refused_once = λ first second x y. refuses_is x.1 ∙ x.2.is ∙ sym y.2.is ∙ sym (refuses_is y.1);
  apart = λ value fault short x. omega (arith, short, x.2.long);
}

pub generate_is_judged : (files : Map) (name : List ℕ) → IsJudged (λ a b. a ≡ b) (λ (value : PlainFabric × Unit {0}). SpellsFabric files name value.0 × IsShort value.0 value.1) (MeetsGenerate files name)
generate_is_judged files name =
    turn_is_judged (λ a b. a ≡ b) (SpellsFabric files name) (MeetsFabric files name) (λ fabric. MeetsLast (IsTooLong name fabric)) (fabric_is_judged files name)
    IsShort (λ fabric spelled. length_is_judged name fabric)

pub one_refusal : (files : Map) (name : List ℕ) (a b : Fault) → MeetsGenerate files name (refuses a) → MeetsGenerate files name (refuses b) → a ≡ b
one_refusal files name a b = (generate_is_judged files name).refused_once a b

pub not_both : (files : Map) (name : List ℕ) (fault : Fault) → IsReadyToGenerate files name → MeetsGenerate files name (refuses fault) → ⊥
not_both files name fault ready = (generate_is_judged files name).apart (ready.fabric, tt) fault (ready.spelled, ready.short)
