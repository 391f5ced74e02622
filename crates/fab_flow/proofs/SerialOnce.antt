-- The command `serial` has one first refusal, or is ready.
use Rattle.std.proofs.Common.{◌≡◌, ◌≤◌, ℕ, List, refl, sym, ◌∙◌, arith}
use Rattle.fab_base.specs.declared.fault.Fault.{Fault}
use Rattle.fab_desk.specs.Files.{Map}
use Rattle.fab_files.specs.Files.{refuses}
use Rattle.fab_files.specs.Stages.{MeetsLast, IsJudged}
use Rattle.fab_files.proofs.Stages.{turn_is_judged}
use Rattle.fab_model.specs.Grid.{PlainFabric}
use Rattle.fab_model.specs.declared.mode.Mode.TheVariants as modes
use Rattle.fab_read.specs.Fabrics.{SpellsFabric, MeetsFabric}
use Rattle.fab_flow.specs.Generating.{most_text_bytes}
use Rattle.fab_flow.specs.Serial.{serial_length, RefusesSerial, MeetsSerial, IsReadyForSerial, chain, long}
use Rattle.fab_flow.proofs.Once.{fabric_is_judged, refuses_is}

-- the fabric is taken
pub record IsTaken (fabric : PlainFabric) (value : Unit {0}) : Type 0 where
  pub frames : fabric.mode ≡ modes.Frames
  pub short : serial_length fabric ≤ most_text_bytes

apart_modes : (fabric : PlainFabric) → fabric.mode ≡ modes.Chain → fabric.mode ≡ modes.Frames → ⊥
apart_modes fabric is frames = cc

one_cause : (name : List ℕ) (fabric : PlainFabric) (a b : Fault) → RefusesSerial name fabric a → RefusesSerial name fabric b → a ≡ b
one_cause name fabric _ _ (chain is) (chain also) = refl
one_cause name fabric _ _ (chain is) (long frames above) = absurd (apart_modes fabric is frames)
one_cause name fabric _ _ (long frames above) (chain is) = absurd (apart_modes fabric is frames)
one_cause name fabric _ _ (long frames above) (long _ _) = refl

taken_or_refused : (name : List ℕ) (fabric : PlainFabric) (value : Unit {0}) (fault : Fault) → IsTaken fabric value → RefusesSerial name fabric fault → ⊥
taken_or_refused name fabric value _ taken (chain is) = apart_modes fabric is taken.frames
taken_or_refused name fabric value _ taken (long frames above) = let short = taken.short in omega (arith, short, above)

port_is_judged : (name : List ℕ) (fabric : PlainFabric) → IsJudged (λ a b. a ≡ b) (IsTaken fabric) (MeetsLast (RefusesSerial name fabric))
port_is_judged name fabric = record {
  once = λ first second x y. refl;
  refused_once = λ first second x y. refuses_is x.1 ∙ one_cause name fabric x.0 y.0 x.2 y.2 ∙ sym (refuses_is y.1);
  apart = λ value fault taken x. taken_or_refused name fabric value x.0 taken x.2;
}

pub serial_is_judged : (files : Map) (name : List ℕ)
    → IsJudged (λ a b. a ≡ b) (λ (value : PlainFabric × Unit {0}). SpellsFabric files name value.0 × IsTaken value.0 value.1) (MeetsSerial files name)
serial_is_judged files name =
    turn_is_judged (λ a b. a ≡ b) (SpellsFabric files name) (MeetsFabric files name) (λ fabric. MeetsLast (RefusesSerial name fabric))
    (fabric_is_judged files name) IsTaken (λ fabric spelled. port_is_judged name fabric)

pub one_refusal : (files : Map) (name : List ℕ) (a b : Fault) → MeetsSerial files name (refuses a) → MeetsSerial files name (refuses b) → a ≡ b
one_refusal files name a b = (serial_is_judged files name).refused_once a b

pub not_both : (files : Map) (name : List ℕ) (fault : Fault) → IsReadyForSerial files name → MeetsSerial files name (refuses fault) → ⊥
not_both files name fault ready =
    (serial_is_judged files name).apart (ready.fabric, tt) fault (ready.spelled, record { frames = ready.frames; short = ready.short })
