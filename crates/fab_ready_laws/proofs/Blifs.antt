-- A BLIF file spells a netlist, or it has a first refusal.
use Rattle.std.proofs.Common.{◌≡◌, ◌≢◌, ◌<◌, ◌⊎◌, ℕ, Bool, true, false, ◌&&◌, not, List, ◌++◌, map, length, Option, Some, None, if◌then◌else◌, refl, sym, ap, ◌∙◌, inl, inr}
use Rattle.std.specs.Prelude.{codes}
use Rattle.std.specs.Str.{bytes_eq}
use Rattle.std.proofs.lemmas.Bool.{cases_lt}
use Rattle.fab_base.specs.Reading.{fault_at}
use Rattle.fab_base.specs.declared.fault.Fault.{Fault}
use Rattle.fab_base.specs.declared.fault.Fault.TheVariants as faults
use Rattle.fab_base.specs.declared.problem.Problem.{Problem}
use Rattle.fab_base.specs.declared.problem.Problem.TheVariants as problems
use Rattle.fab_base.specs.declared.words.Quantity.{Quantity}
use Rattle.fab_base.specs.declared.words.Quantity.TheVariants as quantities
use Rattle.fab_base.specs.declared.words.Reason.{Reason}
use Rattle.fab_base.specs.declared.words.Reason.TheVariants as reasons
use Rattle.fab_desk.specs.Files.{Map}
use Rattle.fab_lines.specs.Counts.{last_line}
use Rattle.fab_lines.specs.Items.{word_at}
use Rattle.fab_lines.specs.Joined.{joined_lines}
use Rattle.fab_lines.specs.Order.{IsFine, IsFirstFault}
use Rattle.fab_blif_models.specs.declared.words.Kind.{Kind}
use Rattle.fab_blif_models.specs.declared.words.Kind.TheVariants as kinds
use Rattle.fab_blif_models.specs.Context.{Context, context_of}
use Rattle.fab_blif_models.specs.Judge.{judge, construct_problem, has_type, is_wide, malformed_by, on_both_sides, port_problem, problem_of}
use Rattle.fab_blif_models.specs.Plain.{PlainModel}
use Rattle.fab_blif_models.specs.Words.{Word, kind_of, words}
use Rattle.fab_netlist.specs.WellMade.{most_nets}
use Rattle.fab_instances.specs.Counting.{in_64_bits, instances, most_instances}
use Rattle.fab_instances.specs.Order.{NamesDiffer, RefusesNames, construct, model_at}
use Rattle.fab_instances.specs.Refusals.{AreFineModels, RefusesModels}
use Rattle.fab_blif.specs.declared.clocks.WrongClock.{WrongClock}
use Rattle.fab_blif.specs.declared.clocks.WrongClock.TheVariants as wrongs
use Rattle.fab_blif.specs.Blif.{IsBlif, RefusesBlif, design_in, models_in, netlist_in}
use Rattle.fab_blif.specs.Design.{PlainDesign}
use Rattle.fab_blif.specs.Refusals.{IsFineDesign, RefusesDesign, clock_problem}
use Rattle.fab_wide.specs.Split.{split_nets, split_of}
use Rattle.fab_designs.specs.Designs.{SpellsNetlist, RefusesNetlist}
use Rattle.fab_judged_laws.specs.Judged.{IsSpelledOrRefused}
use Rattle.fab_judged_laws.proofs.Stages.{file_judged}
use Rattle.fab_judged_laws.proofs.Texts.{lines_judged}
use Rattle.fab_ready_laws.specs.Netlists.{NetlistsAreJudged}
use Rattle.fab_ready_laws.proofs.Cycles.{cycles_judged}
use Rattle.fab_ready_laws.proofs.Drivers.{design_judged}
use Rattle.fab_ready_laws.proofs.Models.{models_judged, names_judged}

-- ---- no refusal is want of memory

abbrev IsOfContent : Problem → Type 0
IsOfContent problem = problem ≢ problems.Memory

told : (file : List ℕ) (line : ℕ) (problem : Problem) → IsOfContent problem → fault_at file line problem ≢ faults.Memory
told file line (problems.Malformed reason) content memory = cc
told file line (problems.Unsupported construct) content memory = cc
told file line (problems.Limit quantity value bound) content memory = cc
told file line problems.Memory content memory = absurd (content refl)

-- a line is refused for what stands in it
abbrev TellsContent : Option Problem → Type 0
TellsContent found = (problem : Problem) → found ≡ Some problem → IsOfContent problem

none_told : TellsContent None
none_told problem is memory = cc

unsupported_told : (word : Word) → TellsContent (Some (problems.Unsupported word))
unsupported_told word problem is memory =
    let wrong : Some (problems.Unsupported word) ≡ Some problems.Memory = is ∙ ap (λ (p : Problem). Some p) memory in
    cc

test_told : (test : Bool) (word : Word) → TellsContent (if test then Some (problems.Unsupported word) else None)
test_told true word = unsupported_told word
test_told false word = none_told

port_told : (port : Option Word) → TellsContent (port_problem port)
port_told None = none_told
port_told (Some port) = unsupported_told (codes "input and output " ++ port)

construct_told : (most : ℕ) (context : Context) (kind : Kind) (line : List Word) → TellsContent (construct_problem most context kind line)
construct_told most context kinds.Blank line = port_told (on_both_sides context kinds.Blank line)
construct_told most context kinds.Row line = port_told (on_both_sides context kinds.Row line)
construct_told most context kinds.Model line = port_told (on_both_sides context kinds.Model line)
construct_told most context kinds.End line = port_told (on_both_sides context kinds.End line)
construct_told most context kinds.Inputs line = port_told (on_both_sides context kinds.Inputs line)
construct_told most context kinds.Outputs line = port_told (on_both_sides context kinds.Outputs line)
construct_told most context kinds.Clock line = port_told (on_both_sides context kinds.Clock line)
construct_told most context kinds.Names line = test_told (is_wide most (length line)) (codes "wide cover")
construct_told most context kinds.Latch line =
    test_told (has_type (length line) && not (bytes_eq (word_at line 3) (codes "re"))) (codes "latch type " ++ word_at line 3)
construct_told most context kinds.Instance line = port_told (on_both_sides context kinds.Instance line)
construct_told most context kinds.Buffer line = port_told (on_both_sides context kinds.Buffer line)
construct_told most context kinds.Passed line = port_told (on_both_sides context kinds.Passed line)
construct_told most context kinds.Other line = unsupported_told (word_at line 0)

malformed_told : (reason : Reason) → TellsContent (Some (problems.Malformed reason))
malformed_told reason problem is memory =
    let wrong : Some (problems.Malformed reason) ≡ Some problems.Memory = is ∙ ap (λ (p : Problem). Some p) memory in
    cc

problem_told : (reason : Option Reason) (found : Option Problem) → TellsContent found → TellsContent (problem_of reason found)
problem_told None found tells = tells
problem_told (Some reason) found tells = malformed_told reason

judge_told : (most : ℕ) (before : List (List ℕ)) (line : List ℕ) → TellsContent (judge most before line)
judge_told most before line =
    let context = context_of (map words before) in
    problem_told (malformed_by context line (kind_of (words line)) (words line)) (construct_problem most context (kind_of (words line)) (words line))
    (construct_told most context (kind_of (words line)) (words line))

-- a refusal of lines, models or a design is told at a line, and is none of memory
abbrev IsTold : Fault → Type 0
IsTold fault = fault ≢ faults.Memory

by_line : (file : List ℕ) (line : ℕ) (problem : Problem) (fault : Fault) → fault ≡ fault_at file line problem → IsOfContent problem → IsTold fault
by_line file line problem fault is content memory = told file line problem content (sym is ∙ memory)

malformed : (reason : Reason) → IsOfContent (problems.Malformed reason)
malformed reason memory = cc

unsupported : (word : Word) → IsOfContent (problems.Unsupported word)
unsupported word memory = cc

limit : (quantity : Quantity) (value bound : ℕ) → IsOfContent (problems.Limit quantity value bound)
limit quantity value bound memory = cc

clock_content : (wrong : WrongClock) → IsOfContent (clock_problem wrong)
clock_content wrongs.Undriven = malformed reasons.Undriven
clock_content wrongs.Data = unsupported (codes "clock as data")
clock_content wrongs.Second = unsupported (codes "second clock")

names_told : (file : List ℕ) (last : ℕ) (models : List PlainModel) (fault : Fault) → RefusesNames file last models fault → IsTold fault
names_told file last models fault (inl none) = by_line file last (problems.Malformed reasons.NoModel) fault none.1 (malformed reasons.NoModel)
names_told file last models fault (inr twice) =
    by_line file (model_at models twice.0).line (problems.Malformed reasons.NameTwice) fault twice.2 (malformed reasons.NameTwice)

models_told : (file : List ℕ) (last : ℕ) (models : List PlainModel) (fault : Fault) → RefusesModels file last models fault → IsTold fault
models_told file last models fault (inl x) =
    by_line file x.0 (problems.Unsupported (construct (codes "model") x.1)) fault x.3 (unsupported (construct (codes "model") x.1))
models_told file last models fault (inr (inl x)) =
    by_line file x.1.0 (problems.Unsupported (construct (codes "recursive model") x.1.1)) fault x.1.3 (unsupported (construct (codes "recursive model") x.1.1))
models_told file last models fault (inr (inr (inl x))) = by_line file x.2.0 (problems.Malformed reasons.Formal) fault x.2.3 (malformed reasons.Formal)
models_told file last models fault (inr (inr (inr x))) =
    by_line file last (problems.Limit quantities.Instances (in_64_bits (instances models)) most_instances) fault x.3.1
    (limit quantities.Instances (in_64_bits (instances models)) most_instances)

design_told : (file : List ℕ) (last : ℕ) (design : PlainDesign) (fault : Fault) → RefusesDesign file last design fault → IsTold fault
design_told file last design fault (inl x) = by_line file x.0 (problems.Malformed reasons.Drivers) fault x.2 (malformed reasons.Drivers)
design_told file last design fault (inr (inl x)) = by_line file x.1.0 (problems.Malformed reasons.Undriven) fault x.1.2 (malformed reasons.Undriven)
design_told file last design fault (inr (inr (inl x))) =
    by_line file last (problems.Limit quantities.Nets (length design.nets) most_nets) fault x.2.1 (limit quantities.Nets (length design.nets) most_nets)
design_told file last design fault (inr (inr (inr x))) = by_line file x.3.0.line (clock_problem x.3.0.wrong) fault x.3.2 (clock_content x.3.0.wrong)

-- ---- the file

module _ (most : ℕ) (file bytes : List ℕ) where
  abbrev IsJudged : Type 0
  IsJudged = IsBlif most bytes ⊎ ((fault : Fault) × RefusesBlif most file bytes fault)

  module _ (fine : IsFine (judge most) (joined_lines bytes)) (some : 0 < length (models_in bytes)) (named : NamesDiffer (models_in bytes)) where
    by_cycles : AreFineModels (models_in bytes) → IsFineDesign (design_in bytes) → IsJudged
    by_cycles models design = elim (cycles_judged (netlist_in bytes) file) [
      | inl acyclic ↦ inl (record { fine = fine; some = some; named = named; models = models; design = design; acyclic = acyclic })
      | inr cycle ↦ inr (cycle.0, ((λ memory. let wrong = sym cycle.1.3 ∙ memory in cc), inr (inr (fine, some, named, models, design, cycle.1))))
    ]

    by_design : AreFineModels (models_in bytes) → IsJudged
    by_design models = elim (design_judged (design_in bytes) file (last_line bytes)) [
      | inl design ↦ by_cycles models design
      | inr refused ↦
          inr (refused.0, (design_told file (last_line bytes) (design_in bytes) refused.0 refused.1, inr (inl (fine, inr (inr (some, named, models, refused.1))))))
    ]

    by_models : IsJudged
    by_models = elim (models_judged (models_in bytes) some file (last_line bytes)) [
      | inl models ↦ by_design models
      | inr refused ↦ inr (refused.0, (models_told file (last_line bytes) (models_in bytes) refused.0 refused.1, inr (inl (fine, inr (inl (some, named, refused.1))))))
    ]

  by_names : IsFine (judge most) (joined_lines bytes) → IsJudged
  by_names fine = elim (names_judged file (last_line bytes) (models_in bytes)) [
    | inl named ↦ by_models fine named.0 named.1
    | inr refused ↦ inr (refused.0, (names_told file (last_line bytes) (models_in bytes) refused.0 refused.1, inr (inl (fine, inl refused.1))))
  ]

  lines_told : (fault : Fault) → IsFirstFault (judge most) file (joined_lines bytes) fault → IsTold fault
  lines_told fault first = by_line file first.number first.problem fault first.is (judge_told most first.first.before first.first.line first.problem first.first.refused)

  pub blif_judged : IsJudged
  blif_judged = elim (lines_judged (judge most) file (joined_lines bytes)) [
    | inl fine ↦ by_names fine
    | inr refused ↦ inr (refused.0, (lines_told refused.0 refused.1, inl refused.1))
  ]

-- ---- what is split

split_judged : (file bytes : List ℕ) → IsBlif 16 bytes → IsSpelledOrRefused (SpellsNetlist bytes) (RefusesNetlist file bytes)
split_judged file bytes is = elim (cases_lt most_nets (split_nets (netlist_in bytes))) [
  | inr few ↦ inl (split_of (netlist_in bytes), record { is_blif = is; few = few; is = refl })
  | inl many ↦ inr (fault_at file (last_line bytes) (problems.Limit quantities.Nets (split_nets (netlist_in bytes)) most_nets), inr (is, (many, refl)))
]

pub netlist_judged : (file bytes : List ℕ) → IsSpelledOrRefused (SpellsNetlist bytes) (RefusesNetlist file bytes)
netlist_judged file bytes = elim (blif_judged 16 file bytes) [
  | inl is ↦ split_judged file bytes is
  | inr refused ↦ inr (refused.0, inl refused.1)
]

pub netlists_judged : (files : Map) → NetlistsAreJudged files
netlists_judged files blif = file_judged files blif SpellsNetlist (RefusesNetlist blif) (λ bytes found. netlist_judged blif bytes)
