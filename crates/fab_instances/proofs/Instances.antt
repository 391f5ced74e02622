-- Counts of instances.
use Rattle.std.proofs.Common.{◌≡◌, ℕ, zero, suc, ◌+◌, ◌<◌, ◌≤◌, Bool, List, [], ◌∷◌, map, length, get_or, replicate, Contains, Option, Some, None, refl, sym, ap, ◌∙◌, inl, arith}
use Rattle.std.specs.List.{sum_by}
use Rattle.std.proofs.lemmas.List.Sums.{sum_by-cons}
use Rattle.fab_blif_models.specs.Plain.{PlainStatement, PlainModel}
use Rattle.fab_instances.proofs.Members.{first_in, later_in}
use Rattle.fab_instances.specs.Counting.{in_64_bits, instance_and, instances, instances_at, instances_in}
use Rattle.fab_instances.specs.Places.{model_names, no_model, statements_of}
use Rattle.fab_instances.specs.Uses.{inner_of, IsMarked, IsUsed, MarksUsed, UsesAt}
use Rattle.fab_instances.specs.Order.{NoLine}
use Rattle.fab_instances.specs.inner.Ranks.{IsLevel}
use Rattle.fab_instances.proofs.Levels.{higher_at}
use Rattle.fab_instances.proofs.Recursions.{used_inner}

-- what a sum told in 64 bits adds
sum_told : (a b c d : ℕ) → in_64_bits a ≡ in_64_bits c → in_64_bits b ≡ in_64_bits d → in_64_bits (a + b) ≡ in_64_bits (c + d)
sum_told a b c d first second = omega (arith, first, second)

module _ (names : List (List ℕ)) (told inside : ℕ → ℕ) where
  line_told : (inner : Option ℕ) → ((place : ℕ) → inner ≡ Some place → told place ≡ in_64_bits (inside place)) → in_64_bits (instance_and told inner) ≡ in_64_bits (instance_and inside inner)
  line_told None same = refl
  line_told (Some place) same = omega (arith, same place refl)

  -- a sum of what is told of models is that of what stands in them
  pub lines_told : (lines : List PlainStatement) →
      ((line : PlainStatement) (place : ℕ) → Contains lines line → inner_of names line.body ≡ Some place → told place ≡ in_64_bits (inside place)) →
      in_64_bits (sum_by (instances_at names told) lines) ≡ in_64_bits (sum_by (instances_at names inside) lines)
  lines_told [] same = refl
  lines_told (line ∷ lines) same =
      let first : in_64_bits (instances_at names told line) ≡ in_64_bits (instances_at names inside line) = line_told (inner_of names line.body) (λ place is. same line place (first_in line lines line refl) is) in
      let rest : in_64_bits (sum_by (instances_at names told) lines) ≡ in_64_bits (sum_by (instances_at names inside) lines) = lines_told lines (λ other place among is. same other place (later_in line lines other among) is) in
      ap in_64_bits (sum_by-cons (instances_at names told) line lines)
      ∙ sum_told (instances_at names told line) (sum_by (instances_at names told) lines) (instances_at names inside line) (sum_by (instances_at names inside) lines) first rest
      ∙ ap in_64_bits (sym (sum_by-cons (instances_at names inside) line lines))

module _ (models : List PlainModel) where
  -- the counts of all models, where instances stand in one another down to a depth
  abbrev pub AreCounts : (deep : ℕ) → (counts : List ℕ) → Type 0
  AreCounts deep counts = (place : ℕ) → get_or counts place 0 ≡ in_64_bits (instances_in models deep place)

  pub none_counted : (count : ℕ) (counts : List ℕ) → counts ≡ replicate count 0 → AreCounts 0 counts
  unfolding instances_in
  none_counted count counts is place = ap (λ (all : List ℕ). get_or all place 0) is ∙ zero_at count place
    where
      zero_at : (count place : ℕ) → get_or {A = ℕ} (replicate count 0) place 0 ≡ 0
      zero_at zero place = refl
      zero_at (suc count) zero = refl
      zero_at (suc count) (suc place) = zero_at count place

  -- one level more is counted
  pub more_counted : (names : List (List ℕ)) (deep : ℕ) (counts deeper : List ℕ) → names ≡ model_names models →
      deeper ≡ map (λ (model : PlainModel). in_64_bits (sum_by (instances_at names (λ inner. get_or counts inner 0)) model.statements)) models → AreCounts deep counts → AreCounts (suc deep) deeper
  unfolding instances_in
  more_counted names deep counts deeper same is so_far place =
      let told : ℕ → ℕ = λ inner. get_or counts inner 0 in
      ap (λ (all : List ℕ). get_or all place 0) is
      ∙ mapped_at (λ (model : PlainModel). in_64_bits (sum_by (instances_at names told) model.statements)) models place refl
      ∙ lines_told names told (instances_in models deep) (statements_of models place) (λ line inner among here. so_far inner)
      ∙ ap (λ (n : List (List ℕ)). in_64_bits (sum_by (instances_at n (instances_in models deep)) (statements_of models place))) same
    where
      mapped_at : (f : PlainModel → ℕ) (all : List PlainModel) (at : ℕ) → f no_model ≡ 0 → get_or (map f all) at 0 ≡ f (get_or all at no_model)
      mapped_at f [] at none = sym none
      mapped_at f (model ∷ all) zero none = refl
      mapped_at f (model ∷ all) (suc at) none = mapped_at f all at none

  pub levels_counted : (deep : ℕ) (counts : List ℕ) → deep ≡ length models → AreCounts deep counts → get_or counts 0 0 ≡ in_64_bits (instances models)
  unfolding instances
  levels_counted deep counts all so_far = so_far 0 ∙ ap (λ (d : ℕ). in_64_bits (instances_in models d 0)) all

  -- ---- models in an order

  module _ (used : List Bool) (ranks : List ℕ) (marked : MarksUsed models used) (ordered : NoLine (IsLevel models ranks)) (within : (place : ℕ) → get_or ranks place 0 < length models)
      (counts : List ℕ) (counted : (place : ℕ) → IsMarked used place →
      get_or counts place 0 ≡ in_64_bits (sum_by (instances_at (model_names models) (λ inner. get_or counts inner 0)) (statements_of models place))) where
    -- what is counted of a model holds, where instances may stand in one another as deep as its rank leaves room for
    counted_at : (deep place : ℕ) → IsUsed models place → length models ≤ deep + get_or ranks place 0 → get_or counts place 0 ≡ in_64_bits (instances_in models deep place)
    unfolding instances_in
    counted_at zero place is_used enough = absurd (omega (arith, enough, within place))
    counted_at (suc deep) place is_used enough =
        counted place ((marked place).1 is_used)
        ∙ lines_told (model_names models) (λ inner. get_or counts inner 0) (instances_in models deep) (statements_of models place)
        (λ line inner among is.
        let uses : UsesAt models place inner = (line, among, is) in
        counted_at deep inner (used_inner models place inner is_used uses)
        (omega (arith, enough, higher_at models ranks ordered place inner is_used uses)))

    pub counted_all : get_or counts 0 0 ≡ in_64_bits (instances models)
    unfolding instances
    counted_all = counted_at (length models) 0 (inl refl) (omega arith)
