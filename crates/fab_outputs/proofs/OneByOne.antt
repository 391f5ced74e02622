-- One output stored behind others, and the store that fails.
use Rattle.std.proofs.Common.{◌≡◌, ◌<◌, ℕ, ◌+◌, suc, List, [], ◌∷◌, ◌++◌, length, map, take, drop, get_or, Option, Some, None, option_map, refl, sym, ap, ◌∙◌}
use Rattle.std.proofs.lemmas.List.{take_more, map-append}
use Rattle.std.proofs.Math.Seq.{split_at}
use Rattle.fab_base.specs.declared.fault.Fault.{Fault}
use Rattle.fab_base.specs.declared.fault.Fault.TheVariants as faults
use Rattle.fab_desk.specs.Files.{Map, with_file}
use Rattle.fab_outputs.specs.declared.storing.Output.{Output}
use Rattle.fab_outputs.specs.Storing.{PlainOutput, plain_output, with_outputs, IsStoreFault, IsStopped}

with_one_more : (outputs : List PlainOutput) (last : PlainOutput) (files : Map) → with_outputs (outputs ++ last ∷ []) files ≡ with_file last.name last.bytes (with_outputs outputs files)
with_one_more [] last files = refl
with_one_more (output ∷ outputs) last files = with_one_more outputs last (with_file output.name output.bytes files)

told_one_more : (told : Option Map) (outputs : List PlainOutput) (last : PlainOutput)
    → option_map (with_file last.name last.bytes) (option_map (with_outputs outputs) told) ≡ option_map (with_outputs (outputs ++ last ∷ [])) told
told_one_more None outputs last = refl
told_one_more (Some files) outputs last = ap (λ (f : Map). Some f) (sym (with_one_more outputs last files))

-- the output at a place is stored behind those before it
pub stored_so_far : (told now after : Option Map) (outputs : List Output) (i : ℕ) (output : Output) (bytes : List ℕ) → i < length outputs → output ≡ get_or outputs i output → bytes ≡ output.bytes.items
    → now ≡ option_map (with_outputs (map plain_output (take i outputs))) told → after ≡ option_map (with_file output.name bytes) now
    → after ≡ option_map (with_outputs (map plain_output (take (i + 1) outputs))) told
stored_so_far told now after outputs i output bytes inside is bytes_are so_far stored =
    let one : map plain_output (take (i + 1) outputs) ≡ map plain_output (take i outputs) ++ plain_output output ∷ [] =
    ap (map plain_output) (take_more outputs i output inside ∙ ap (λ (o : Output). take i outputs ++ o ∷ []) (sym is)) ∙ map-append plain_output (take i outputs) (output ∷ []) in
    stored
    ∙ ap (λ (b : List ℕ). option_map (with_file output.name b) now) bytes_are
    ∙ ap (option_map (with_file output.name output.bytes.items)) so_far
    ∙ told_one_more told (map plain_output (take i outputs)) (plain_output output)
    ∙ ap (λ (list : List PlainOutput). option_map (with_outputs list) told) (sym one)

-- the output at a place is not stored, and those before it are
pub stopped_at : (told now after : Option Map) (rose : Type 0) (fault : Fault) (outputs : List Output) (i : ℕ) (output : Output) → i < length outputs → output ≡ get_or outputs i output
    → now ≡ option_map (with_outputs (map plain_output (take i outputs))) told → after ≡ now → IsStoreFault output.name rose fault
    → IsStopped (map plain_output outputs) told after rose fault
stopped_at told now after rose fault outputs i output inside is so_far kept cause = record {
  stored = map plain_output (take i outputs);
  next = plain_output output;
  left = map plain_output (drop (suc i) outputs);
  are =
      ap (map plain_output) (split_at outputs i output inside ∙ ap (λ (o : Output). take i outputs ++ o ∷ drop (suc i) outputs) (sym is))
      ∙ map-append plain_output (take i outputs) (output ∷ drop (suc i) outputs);
  after_is = kept ∙ so_far;
  fault_is = cause;
}

-- where a store's count of faults rose, so did that of all
pub higher_fault : (file : List ℕ) (first all : Type 0) (fault : Fault) → (first → all) → IsStoreFault file first fault → IsStoreFault file all fault
higher_fault file first all faults.Memory higher cause = tt
higher_fault file first all (faults.WriteFault other) higher cause = (higher cause.0, cause.1)
higher_fault file first all fault higher cause = absurd cause
