-- The command `bits` has one first refusal, or is ready.
use Rattle.std.proofs.Common.{◌≡◌, ◌<◌, ℕ, List, take, inl, inr, refl, sym, ap, ◌∙◌, subst, arith}
use Rattle.std.specs.Str.Lines.{lines}
use Rattle.std.proofs.lemmas.Bool.{cases_lt}
use Rattle.fab_base.specs.declared.fault.Fault.{Fault}
use Rattle.fab_base.specs.declared.fault.Fault.TheVariants as faults
use Rattle.fab_desk.specs.Files.{Map}
use Rattle.fab_files.specs.Files.{refuses}
use Rattle.fab_files.specs.Stages.{MeetsLast, IsJudged, AreJudged}
use Rattle.fab_files.proofs.Stages.{file_is_judged, turn_is_judged}
use Rattle.fab_lines.proofs.Judging.{fault_once, fine_not_refused}
use Rattle.fab_model.specs.Grid.{PlainFabric}
use Rattle.fab_netlist.specs.Plain.{IsAt}
use Rattle.fab_legal.proofs.Lists.{same_at}
use Rattle.fab_legal.specs.Turns.{AreRight}
use Rattle.fab_fasm.specs.declared.feature.Feature.{Feature}
use Rattle.fab_fasm.specs.Spelled.{SpellsFasm}
use Rattle.fab_fasm.proofs.PartsLaw.{spelled_fine, spelled_is}
use Rattle.fab_read.specs.Fabrics.{SpellsFabric, MeetsFabric}
use Rattle.fab_assemble.specs.fab_features_Said.{choice}
use Rattle.fab_assemble.specs.fab_features_Wrong.{BreaksBehind, BreaksFirst, IsRightFeature, unknown, contrary, output_name}
use Rattle.fab_assemble.specs.fab_features_said_Choice.{Choice}
use Rattle.fab_assemble.proofs.fab_features_Chosen.{wrong_not_right}
use Rattle.fab_assemble.proofs.fab_features_Saids.{one_choice}
use Rattle.fab_flow.specs.Bits.{BitsFiles, IsReadyForBits, MeetsBits, MeetsBitsBehind, MeetsFeatures, ReadsFeatures, RefusesBits, RefusesFeatures, illegal}
use Rattle.fab_flow.proofs.Once.{fabric_is_judged}

refuses_is : {a b : Fault} → refuses a ≡ refuses b → a ≡ b
refuses_is same = cc

-- ---- a list of features

-- a line that breaks a rule is not right
not_right : (fabric : PlainFabric) (before : List Feature) (feature : Feature) {rule : ℕ} {item : List ℕ} → BreaksBehind fabric before feature rule item → IsRightFeature fabric before feature → ⊥
not_right fabric before feature (unknown never) right = never right.known
not_right fabric before feature (contrary {x = x} {y = y} {output = output} input other earlier is chooses there chose differs) right =
    differs (right.agrees x y output input other earlier chooses there chose)

-- a line breaks one rule, and one item is told
breaks_once : (fabric : PlainFabric) (before : List Feature) (feature : Feature) {rule other : ℕ} {item text : List ℕ} → BreaksBehind fabric before feature rule item
    → BreaksBehind fabric before feature other text → faults.Illegal rule item ≡ faults.Illegal other text
breaks_once fabric before feature (unknown never) (unknown also) = refl
breaks_once fabric before feature (unknown never) (contrary input other earlier is chooses there chose differs) = absurd (never is)
breaks_once fabric before feature (contrary input other earlier is chooses there chose differs) (unknown never) = absurd (never is)
breaks_once fabric before feature (contrary {x = x} {y = y} {output = output} input _ _ _ chooses _ _ _) (contrary {x = x2} {y = y2} {output = output2} input2 _ _ _ chooses2 _ _ _) =
    let same : choice x y output input ≡ choice x2 y2 output2 input2 = one_choice fabric feature.name _ _ chooses.said_is chooses2.said_is in
    ap (λ (c : Choice). faults.Illegal 11 (output_name fabric c.x c.y c.output)) same

-- of two first wrong lines the one that stands before the other would be right
no_earlier : (fabric : PlainFabric) (features : List Feature) {rule other : ℕ} {item text : List ℕ} (first : BreaksFirst fabric features rule item) (second : BreaksFirst fabric features other text)
    → first.place < second.place → ⊥
no_earlier fabric features first second less =
    not_right fabric (take first.place features) first.feature first.breaks (second.before first.place first.feature less first.is_at)

breaks_at : (fabric : PlainFabric) (features : List Feature) {rule other : ℕ} {item text : List ℕ} (first : BreaksFirst fabric features rule item) (second : BreaksFirst fabric features other text)
    → first.place ≡ second.place → faults.Illegal rule item ≡ faults.Illegal other text
breaks_at fabric features {rule} {other} {item} {text} first second same =
    let there : IsAt features second.place first.feature = subst (λ place. IsAt features place first.feature) same first.is_at in
    let alike : first.feature ≡ second.feature = same_at features second.place first.feature second.feature there second.is_at in
    let moved : BreaksBehind fabric (take second.place features) first.feature rule item = subst (λ place. BreaksBehind fabric (take place features) first.feature rule item) same first.breaks in
    breaks_once fabric (take second.place features) second.feature (subst (λ (f : Feature). BreaksBehind fabric (take second.place features) f rule item) alike moved) second.breaks

first_once : (fabric : PlainFabric) (features : List Feature) {rule other : ℕ} {item text : List ℕ} → BreaksFirst fabric features rule item → BreaksFirst fabric features other text
    → faults.Illegal rule item ≡ faults.Illegal other text
first_once fabric features first second = elim (cases_lt first.place second.place) [
  | inl less ↦ absurd (no_earlier fabric features first second less)
  | inr other ↦ elim (cases_lt second.place first.place) [
    | inl less ↦ absurd (no_earlier fabric features second first less)
    | inr more ↦ breaks_at fabric features first second (omega (arith, other, more))
  ]
]

pub wrong_once : (fabric : PlainFabric) (features : List Feature) (a b : Fault) → RefusesBits fabric features a → RefusesBits fabric features b → a ≡ b
wrong_once fabric features a b (illegal first) (illegal second) = first_once fabric features first second

pub wrong_apart : (fabric : PlainFabric) (features : List Feature) (fault : Fault) → AreRight (IsRightFeature fabric) features → RefusesBits fabric features fault → ⊥
wrong_apart fabric features fault right (illegal {rule = rule} {item = item} first) = wrong_not_right fabric features rule item first right

-- no line is wrong
abbrev AreTaken : PlainFabric → List Feature → Unit {0} → Type 0
AreTaken fabric features _ = AreRight (IsRightFeature fabric) features

features_are_judged : (fabric : PlainFabric) (features : List Feature) → IsJudged (λ a b. a ≡ b) (AreTaken fabric features) (MeetsLast (RefusesBits fabric features))
features_are_judged fabric features = record {
  once = λ first second x y. refl;
  refused_once = λ first second x y. refuses_is x.1 ∙ wrong_once fabric features x.0 y.0 x.2 y.2 ∙ sym (refuses_is y.1);
  apart = λ value fault right x. wrong_apart fabric features x.0 right x.2;
}

-- ---- a FASM file

fasm_text_is_judged : (file : List ℕ) → AreJudged (λ a b. a ≡ b) (λ bytes. SpellsFasm (lines bytes)) (RefusesFeatures file)
fasm_text_is_judged file = record {
  once = λ bytes a b x y. spelled_is (lines bytes) a x ∙ sym (spelled_is (lines bytes) b y);
  refused_once = λ bytes a b x y. fault_once x y;
  apart = λ bytes features fault x y. fine_not_refused (spelled_fine (lines bytes) features x) y.first;
}

-- a file spells one list of features, or is refused for one fault
pub fasm_is_judged : (files : Map) (file : List ℕ) → IsJudged (λ a b. a ≡ b) (ReadsFeatures files file) (MeetsFeatures files file)
fasm_is_judged files file = file_is_judged (λ a b. a ≡ b) (λ fault. refl) files (λ bytes. SpellsFasm (lines bytes)) (RefusesFeatures file) (fasm_text_is_judged file) file

-- ---- the command

-- features are read, and none is wrong
abbrev AreReady : (files : Map) → (fasm : List ℕ) → PlainFabric → List Feature × Unit {0} → Type 0
AreReady files fasm fabric value = ReadsFeatures files fasm value.0 × AreTaken fabric value.0 value.1

module _ (files : Map) (names : BitsFiles) where
  behind_is_judged : (fabric : PlainFabric) → SpellsFabric files names.fabric fabric → IsJudged (λ a b. a ≡ b) (AreReady files names.fasm fabric) (MeetsBitsBehind files names.fasm fabric)
  behind_is_judged fabric spelled =
      turn_is_judged (λ a b. a ≡ b) (ReadsFeatures files names.fasm) (MeetsFeatures files names.fasm) (λ features. MeetsLast (RefusesBits fabric features))
      (fasm_is_judged files names.fasm) (AreTaken fabric) (λ features read. features_are_judged fabric features)

  bits_are_judged : IsJudged (λ a b. a ≡ b) (λ (value : PlainFabric × (List Feature × Unit {0})). SpellsFabric files names.fabric value.0 × AreReady files names.fasm value.0 value.1) (MeetsBits files names)
  bits_are_judged =
      turn_is_judged (λ a b. a ≡ b) (SpellsFabric files names.fabric) (MeetsFabric files names.fabric) (MeetsBitsBehind files names.fasm)
      (fabric_is_judged files names.fabric) (AreReady files names.fasm) behind_is_judged

  -- what the command comes upon is one refusal
  pub one_refusal : (a b : Fault) → MeetsBits files names (refuses a) → MeetsBits files names (refuses b) → a ≡ b
  one_refusal a b = bits_are_judged.refused_once a b

  -- what is ready is not refused
  pub not_both : (fault : Fault) → IsReadyForBits files names → MeetsBits files names (refuses fault) → ⊥
  not_both fault ready = bits_are_judged.apart (ready.fabric, (ready.features, tt)) fault (ready.spelled, (ready.read, ready.right))
