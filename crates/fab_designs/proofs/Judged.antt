-- Files spell one design or are refused with one status number, and a file spells one implementation or is refused for one fault.
use Rattle.std.proofs.Common.{◌≡◌, ℕ, List, [], Option, inl, inr, refl, sym, ap, ◌∙◌, arith}
use Rattle.fab_base.specs.Report.{number_of}
use Rattle.fab_base.specs.declared.fault.Fault.{Fault}
use Rattle.fab_desk.specs.Files.{Map}
use Rattle.fab_files.specs.Files.{refuses}
use Rattle.fab_files.specs.Stages.{ReadsFrom, ReadsIfNamed, IsJudged, AreJudged}
use Rattle.fab_files.proofs.Stages.{file_is_judged, named_file_is_judged, turn_is_judged}
use Rattle.fab_lines.proofs.Wholes.{text_fault_once, whole_not_refused}
use Rattle.fab_model.specs.Grid.{PlainFabric}
use Rattle.fab_netlist.specs.Plain.{PlainNetlist}
use Rattle.fab_fabric.specs.Fabric.{IsFabric, AreTiles}
use Rattle.fab_implementation.specs.Plain.{Pad, PlainImplementation}
use Rattle.fab_texts.specs.Rows.{rows_of}
use Rattle.fab_read.specs.Fabrics.{SpellsFabric, MeetsFabric}
use Rattle.fab_read.proofs.FabricsOnce.{one_fabric, refused_once, not_refused}
use Rattle.fab_blif.proofs.Once.{numbered_once}
use Rattle.fab_blif.proofs.Excluded as blif
use Rattle.fab_state.specs.Constraints.{data_ports}
use Rattle.fab_state.proofs.FixingsBack.{spelled_fixings}
use Rattle.fab_impl.specs.Spelled.{Spells}
use Rattle.fab_impl.proofs.ReadBack.{spelled_is_read}
use Rattle.fab_designs.specs.Designs.{DesignFiles, PlainDesign, SpellsNetlist, SpellsConstraints, SpellsDesign, RefusesNetlist, RefusesConstraints, MeetsNetlist, MeetsConstraints, MeetsBehindFabric, MeetsDesign}
use Rattle.fab_designs.specs.Implementations.{SpellsImplementation, ReadsImplementation, RefusesImplementation, MeetsImplementation}

abbrev pub SameNumber : Fault → Fault → Type 0
SameNumber a b = number_of a ≡ number_of b

-- ---- each file of a design

fabric_is_judged : (files : Map) (name : List ℕ) → IsJudged SameNumber (SpellsFabric files name) (MeetsFabric files name)
fabric_is_judged files name = record {
  once = one_fabric files name;
  refused_once = λ a b x y. ap number_of (refused_once files name a b x y);
  apart = not_refused files name;
}

-- A file is refused for its text, or its netlist for too many nets behind the splitting.
netlist_numbered : (file bytes : List ℕ) (a b : Fault) → RefusesNetlist file bytes a → RefusesNetlist file bytes b → SameNumber a b
netlist_numbered file bytes a b (inl x) (inl y) = numbered_once 16 file bytes a b x y
netlist_numbered file bytes a b (inl x) (inr y) = absurd (blif.not_refused 16 file bytes a y.0 x)
netlist_numbered file bytes a b (inr x) (inl y) = absurd (blif.not_refused 16 file bytes b x.0 y)
netlist_numbered file bytes a b (inr x) (inr y) = ap number_of (x.1.1 ∙ sym y.1.1)

netlist_apart : (file bytes : List ℕ) (netlist : PlainNetlist) (fault : Fault) → SpellsNetlist bytes netlist → RefusesNetlist file bytes fault → ⊥
netlist_apart file bytes netlist fault spells (inl x) = blif.not_refused 16 file bytes fault spells.is_blif x
netlist_apart file bytes netlist fault spells (inr x) =
    omega (arith, spells.few, x.1.0)

netlist_is_judged : (file : List ℕ) → AreJudged SameNumber SpellsNetlist (RefusesNetlist file)
netlist_is_judged file = record {
  once = λ bytes a b x y. x.is ∙ sym y.is;
  refused_once = λ bytes a b x y. netlist_numbered file bytes a b x y;
  apart = λ bytes netlist fault x y. netlist_apart file bytes netlist fault x y;
}

constraints_are_judged : (fabric : PlainFabric) (netlist : PlainNetlist) (file : List ℕ) → AreJudged SameNumber (SpellsConstraints fabric netlist) (RefusesConstraints fabric netlist file)
constraints_are_judged fabric netlist file = record {
  once = λ bytes a b x y. (spelled_fixings fabric (data_ports netlist) (rows_of bytes) a x).1 ∙ sym (spelled_fixings fabric (data_ports netlist) (rows_of bytes) b y).1;
  refused_once = λ bytes a b x y. ap number_of (text_fault_once x y);
  apart = λ bytes pads fault x y. whole_not_refused (spelled_fixings fabric (data_ports netlist) (rows_of bytes) pads x).0 y.refusal;
}

-- ---- the files of a design, one behind the other

module _ (files : Map) where
  pcf_is_judged : (pcf : Option (List ℕ)) (fabric : PlainFabric) (netlist : PlainNetlist)
      → IsJudged SameNumber (ReadsIfNamed files pcf (SpellsConstraints fabric netlist) []) (MeetsConstraints files pcf fabric netlist)
  pcf_is_judged pcf fabric netlist =
      named_file_is_judged SameNumber (λ fault. refl) files (SpellsConstraints fabric netlist) (RefusesConstraints fabric netlist) (constraints_are_judged fabric netlist) [] pcf

  module _ (names : DesignFiles) where
    -- a netlist and constraints of its ports
    abbrev Behind : PlainFabric → PlainNetlist × List Pad → Type 0
    Behind fabric value = ReadsFrom files names.blif SpellsNetlist value.0 × ReadsIfNamed files names.pcf (SpellsConstraints fabric value.0) [] value.1

    behind_is_judged : (fabric : PlainFabric) → IsJudged SameNumber (Behind fabric) (MeetsBehindFabric files names fabric)
    behind_is_judged fabric =
        turn_is_judged SameNumber (ReadsFrom files names.blif SpellsNetlist) (MeetsNetlist files names.blif) (λ netlist. MeetsConstraints files names.pcf fabric netlist)
        (file_is_judged SameNumber (λ fault. refl) files SpellsNetlist (RefusesNetlist names.blif) (netlist_is_judged names.blif) names.blif)
        (λ netlist fixed. ReadsIfNamed files names.pcf (SpellsConstraints fabric netlist) [] fixed) (λ netlist reads. pcf_is_judged names.pcf fabric netlist)

    parts_are_judged : IsJudged SameNumber (λ (value : PlainFabric × (PlainNetlist × List Pad)). SpellsFabric files names.fabric value.0 × Behind value.0 value.1) (MeetsDesign files names)
    parts_are_judged =
        turn_is_judged SameNumber (SpellsFabric files names.fabric) (MeetsFabric files names.fabric) (λ fabric. MeetsBehindFabric files names fabric) (fabric_is_judged files names.fabric)
        Behind (λ fabric spells. behind_is_judged fabric)

    abbrev design_of : PlainFabric × (PlainNetlist × List Pad) → PlainDesign
    design_of value = record { fabric = value.0; netlist = value.1.0; fixed = value.1.1 }

    abbrev parts_of : PlainDesign → PlainFabric × (PlainNetlist × List Pad)
    parts_of design = (design.fabric, (design.netlist, design.fixed))

    spells_parts : (design : PlainDesign) → SpellsDesign files names design → SpellsFabric files names.fabric design.fabric × Behind design.fabric (design.netlist, design.fixed)
    spells_parts design x = (x.fabric, (x.netlist, x.fixed))

    -- files spell one design, or are refused with one status number
    pub design_is_judged : IsJudged SameNumber (SpellsDesign files names) (MeetsDesign files names)
    design_is_judged = record {
      once = λ a b x y. ap design_of (parts_are_judged.once (parts_of a) (parts_of b) (spells_parts a x) (spells_parts b y));
      refused_once = parts_are_judged.refused_once;
      apart = λ design fault x y. parts_are_judged.apart (parts_of design) fault (spells_parts design x) y;
    }

-- ---- an implementation

implementation_text_is_judged : (fabric : PlainFabric) (file : List ℕ) → AreJudged (λ a b. a ≡ b) (SpellsImplementation fabric) (RefusesImplementation fabric file)
implementation_text_is_judged fabric file = record {
  once = λ bytes a b x y. x.says.1 ∙ sym y.says.1;
  refused_once = λ bytes a b x y. text_fault_once x y;
  apart = λ bytes implementation fault x y. whole_not_refused x.says.0 y.refusal;
}

-- a file spells one implementation, or is refused for one fault
pub implementation_is_judged : (files : Map) (file : List ℕ) (fabric : PlainFabric) → IsJudged (λ a b. a ≡ b) (ReadsImplementation files file fabric) (MeetsImplementation files file fabric)
implementation_is_judged files file fabric =
    file_is_judged (λ a b. a ≡ b) (λ fault. refl) files (SpellsImplementation fabric) (RefusesImplementation fabric file) (implementation_text_is_judged fabric file) file

-- the same where faults are told apart by their status numbers alone
pub implementation_is_numbered : (files : Map) (file : List ℕ) (fabric : PlainFabric) → IsJudged SameNumber (ReadsImplementation files file fabric) (MeetsImplementation files file fabric)
implementation_is_numbered files file fabric =
    let judged = implementation_is_judged files file fabric in
    record { once = judged.once; refused_once = λ a b x y. ap number_of (judged.refused_once a b x y); apart = judged.apart }

-- on a fabric that is one, lines alone spell an implementation
pub spelled_not_refused : (files : Map) (file : List ℕ) (fabric : PlainFabric) (it : PlainImplementation) (fault : Fault) → IsFabric fabric → AreTiles fabric
    → ReadsFrom files file (λ bytes. Spells fabric (rows_of bytes)) it → MeetsImplementation files file fabric (refuses fault) → ⊥
spelled_not_refused files file fabric it fault is tiles reads refused =
    let spells : SpellsImplementation fabric reads.bytes it = record { lines = reads.spelled; says = spelled_is_read fabric is tiles (rows_of reads.bytes) it reads.spelled } in
    (implementation_is_judged files file fabric).apart it fault (record { bytes = reads.bytes; found = reads.found; spelled = spells }) refused
