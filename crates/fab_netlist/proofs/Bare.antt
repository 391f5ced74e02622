-- Netlists whose covers have the same wires have the same cycles, whatever their tables.
use Rattle.std.proofs.Common.{◌≡◌, ◌⊎◌, ℕ, zero, suc, ◌<◌, ◌≤◌, List, [], ◌∷◌, ◌++◌, map, length, get_or, Contains, codes, refl, sym, ap, ◌∙◌, subst, arith}
use Rattle.std.specs.List.{flat_map}
use Rattle.std.proofs.lemmas.List.{length-map}
use Rattle.fab_base.specs.declared.fault.Fault.{Fault}
use Rattle.fab_base.specs.declared.fault.Fault.TheVariants as faults
use Rattle.fab_base.specs.Report.{spaced}
use Rattle.fab_netlist.specs.Plain.{PlainCover, PlainNetlist, no_cover, cover_at, name_of}
use Rattle.fab_netlist.specs.WellMade.{IsWired, times, cover_outputs, latch_outputs, latch_inputs, driven, read}
use Rattle.fab_netlist.specs.Cycles.{Reads, ReadsOn, IsCycle, HasNoCycle, ComesFirst, IsNamed, NamesCycle, cycle_words}
use Rattle.fab_netlist.specs.Wide.{PlainWide, PlainWideCover, tabled_cover, tabled}
use Rattle.fab_netlist.specs.inner.Skeleton.{bare_cover, bare}

-- Covers at a place read and drive the same nets and begin on the same line.
pub record HasWires (a b : PlainNetlist) : Type 0 where
  pub nets : a.nets ≡ b.nets
  pub count : length a.covers ≡ length b.covers
  pub lines : (place : ℕ) → (cover_at a place).line ≡ (cover_at b place).line
  pub inputs : (place : ℕ) → (cover_at a place).inputs ≡ (cover_at b place).inputs
  pub outputs : (place : ℕ) → (cover_at a place).output ≡ (cover_at b place).output

pub turned : {a b : PlainNetlist} → HasWires a b → HasWires b a
turned wires = record {
  nets = sym wires.nets;
  count = sym wires.count;
  lines = λ place. sym (wires.lines place);
  inputs = λ place. sym (wires.inputs place);
  outputs = λ place. sym (wires.outputs place);
}

module _ {a b : PlainNetlist} (wires : HasWires a b) where
  reads_same : (reader source : ℕ) → Reads a reader source → Reads b reader source
  reads_same reader source (in_reader, in_source, reads) = (
    omega (arith, in_reader, wires.count),
    omega (arith, in_source, wires.count),
    subst (λ (nets : List ℕ). Contains nets (cover_at b source).output) (wires.inputs reader) (subst (λ (net : ℕ). Contains (cover_at a reader).inputs net) (wires.outputs source) reads),
  )

  reads_on_same : (first : ℕ) (rest : List ℕ) (end : ℕ) → ReadsOn a first rest end → ReadsOn b first rest end
  reads_on_same first [] end reads = reads_same first end reads
  reads_on_same first (second ∷ rest) end reads = (reads_same first second reads.0, reads_on_same second rest end reads.1)

  cycle_same : (places : List ℕ) → IsCycle a places → IsCycle b places
  cycle_same [] cycle = cycle
  cycle_same (first ∷ rest) cycle = reads_on_same first rest first cycle

  comes_first_same : (j k : ℕ) → ComesFirst a j k → ComesFirst b j k
  comes_first_same j k first = subst (λ (line : ℕ). ((cover_at b j).line < line) ⊎ (((cover_at b j).line ≡ line) × (j ≤ k))) (wires.lines k)
      (subst (λ (line : ℕ). (line < (cover_at a k).line) ⊎ ((line ≡ (cover_at a k).line) × (j ≤ k))) (wires.lines j) first)

  words_same : (places : List ℕ) → cycle_words a places ≡ cycle_words b places
  words_same places = λ i. codes "cycle" ++ flat_map (λ place. spaced (get_or (wires.nets i) (wires.outputs place i) [])) places

  pub names_same : (file : List ℕ) (fault : Fault) → NamesCycle file a fault → NamesCycle file b fault
  names_same file fault (first, rest, named, is) =
      let line = wires.lines first in
      let words = words_same (first ∷ rest) in (
        first,
        rest,
        record {
          cycle = cycle_same (first ∷ rest) named.cycle;
          once = named.once;
          starts = λ place here. comes_first_same first place (named.starts place here);
        },
        is ∙ (λ i. faults.Unsupported (record { file = file; line = line i }) (words i)),
      )

pub no_cycle_same : {a b : PlainNetlist} → HasWires a b → HasNoCycle a → HasNoCycle b
no_cycle_same wires none places cycle = none places (cycle_same (turned wires) places cycle)

-- ---- wide netlists

module _ (wide : PlainWide) where
  same_at : {X : Type 0} (part : PlainCover → X) → ((cover : PlainWideCover) → part (bare_cover cover) ≡ part (tabled_cover cover)) → (covers : List PlainWideCover) (place : ℕ) →
      part (get_or (map bare_cover covers) place no_cover) ≡ part (get_or (map tabled_cover covers) place no_cover)
  same_at part same [] place = refl
  same_at part same (cover ∷ covers) zero = same cover
  same_at part same (cover ∷ covers) (suc place) = same_at part same covers place

  pub has_wires : HasWires (bare wide) (tabled wide)
  has_wires = record {
    nets = refl;
    count = length-map wide.covers bare_cover ∙ sym (length-map wide.covers tabled_cover);
    lines = same_at (λ (cover : PlainCover). cover.line) (λ cover. refl) wide.covers;
    inputs = same_at (λ (cover : PlainCover). cover.inputs) (λ cover. refl) wide.covers;
    outputs = same_at (λ (cover : PlainCover). cover.output) (λ cover. refl) wide.covers;
  }

  outputs_same : (covers : List PlainWideCover) → cover_outputs (map tabled_cover covers) ≡ cover_outputs (map bare_cover covers)
  outputs_same [] = refl
  outputs_same (cover ∷ covers) = ap (λ (nets : List ℕ). cover.output ∷ nets) (outputs_same covers)

  inputs_same : (covers : List PlainWideCover) → flat_map (λ (cover : PlainCover). cover.inputs) (map tabled_cover covers) ≡ flat_map (λ (cover : PlainCover). cover.inputs) (map bare_cover covers)
  inputs_same [] = refl
  inputs_same (cover ∷ covers) = ap (λ (nets : List ℕ). cover.inputs ++ nets) (inputs_same covers)

  driven_same : driven (tabled wide) ≡ driven (bare wide)
  driven_same = ap (λ (nets : List ℕ). nets ++ (latch_outputs (bare wide) ++ wide.inputs)) (outputs_same wide.covers)

  read_same : read (tabled wide) ≡ read (bare wide)
  read_same = ap (λ (nets : List ℕ). nets ++ (latch_inputs (bare wide) ++ wide.outputs)) (inputs_same wide.covers)

  pub bare_wired : IsWired (tabled wide) → IsWired (bare wide)
  bare_wired wiring = record {
    small = wiring.small;
    driven_below = λ net here. wiring.driven_below net (subst (λ (nets : List ℕ). Contains nets net) (sym driven_same) here);
    read_below = λ net here. wiring.read_below net (subst (λ (nets : List ℕ). Contains nets net) (sym read_same) here);
    initials = wiring.initials;
    driven_once = λ net. subst (λ (nets : List ℕ). times net nets ≤ 1) driven_same (wiring.driven_once net);
    read_driven = λ net here. subst (λ (nets : List ℕ). Contains nets net) driven_same (wiring.read_driven net (subst (λ (nets : List ℕ). Contains nets net) (sym read_same) here));
    reset_below = wiring.reset_below;
    ports_differ = wiring.ports_differ;
  }
