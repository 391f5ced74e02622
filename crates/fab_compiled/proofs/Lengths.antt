-- The value of a compiled expression has as many bits as the expression.
use Rattle.std.proofs.Common.{◌≡◌, ℕ, zero, suc, ◌+◌, Bool, true, false, List, [], ◌∷◌, length, map, Option, Some, None, option_map, refl, sym, ap, ◌∙◌, subst, arith, inl, inr}
use Rattle.std.proofs.lemmas.Bool.{cases_Bool, false≢true}
use Rattle.std.proofs.lemmas.List.{length-map, length-append}
use Rattle.fab_solutions_laws.specs.fab_meaning_Value.{operated}
use Rattle.fab_syntax.specs.declared.tree.Op.TheVariants as ops
use Rattle.fab_values.proofs.Widths.{length_digits}
use Rattle.fab_systems_laws.specs.Ternary.{Tern, no, yes, unknown, known}
use Rattle.fab_solutions_laws.specs.fab_ternary_laws_Operators.{tern_at, inverse, both, either, differs, agreed, each_tern, bools, minus_of, one_of}
use Rattle.fab_solutions_laws.specs.fab_ternary_laws_Shown.{first_terns}
use Rattle.fab_compiled.specs.declared.tree.Tree.{Tree, Const, Bits, Pick', Cat', Not', And', Or', Xor', Equal', Minus', Cond'}
use Rattle.fab_compiled.specs.Trees.{tree_width, tree_value, IsMade}
use Rattle.fab_ternary.specs.Terns.{is_one}
use Rattle.fab_compiled.specs.Evaluation.{all_known, known_bits}

pub length_first : (n : ℕ) (f : ℕ → Tern) → length (first_terns n f) ≡ n
length_first zero f = refl
length_first (suc n) f = ap suc (length_first n (λ k. f (suc k)))

pub length_each : (f : Tern → Tern → Tern) (ts us : List Tern) → length ts ≡ length us → length (each_tern f ts us) ≡ length ts
length_each f [] us e = refl
length_each f (t ∷ ts) [] e = absurd (omega (arith, e))
length_each f (t ∷ ts) (u ∷ us) e = ap suc (length_each f ts us (omega (arith, e)))

-- ---- bits of which all are known

pub bools_known : (ts : List Tern) → all_known ts ≡ true → bools ts ≡ Some (known_bits ts)
bools_known [] h = refl
bools_known (no ∷ ts) h = ap (option_map (λ bits. false ∷ bits)) (bools_known ts h)
bools_known (yes ∷ ts) h = ap (option_map (λ bits. true ∷ bits)) (bools_known ts h)
bools_known (unknown ∷ ts) h = absurd (false≢true h)

pub bools_open : (ts : List Tern) → all_known ts ≡ false → bools ts ≡ None
bools_open [] h = absurd (false≢true (sym h))
bools_open (no ∷ ts) h = ap (option_map (λ bits. false ∷ bits)) (bools_open ts h)
bools_open (yes ∷ ts) h = ap (option_map (λ bits. true ∷ bits)) (bools_open ts h)
bools_open (unknown ∷ ts) h = refl

length_known : (ts : List Tern) (xs ys : List Bool) → length xs ≡ length ts → length (map known (operated ops.Minus xs ys)) ≡ length ts
length_known ts xs ys e = length-map (operated ops.Minus xs ys) known ∙ length_digits (length xs) _ ∙ e

pub length_minus : (ts us : List Tern) → length (minus_of ts (bools ts) (bools us)) ≡ length ts
length_minus ts us =
    elim (cases_Bool (all_known ts)) [
      | inl k ↦ subst (λ (o : Option (List Bool)). length (minus_of ts o (bools us)) ≡ length ts) (sym (bools_known ts k))
          (elim (cases_Bool (all_known us)) [
            | inl l ↦ subst (λ (o : Option (List Bool)). length (minus_of ts (Some (known_bits ts)) o) ≡ length ts) (sym (bools_known us l))
                (length_known ts (known_bits ts) (known_bits us) (length-map ts is_one))
            | inr f ↦ subst (λ (o : Option (List Bool)). length (minus_of ts (Some (known_bits ts)) o) ≡ length ts) (sym (bools_open us f)) (length-map ts (λ t. unknown))
          ])
      | inr f ↦ subst (λ (o : Option (List Bool)). length (minus_of ts o (bools us)) ≡ length ts) (sym (bools_open ts f)) (length-map ts (λ t. unknown))
    ]

pub length_one : (test : Tern) (ts us : List Tern) → length ts ≡ length us → length (one_of test ts us) ≡ length ts
length_one yes ts us e = refl
length_one no ts us e = sym e
length_one unknown ts us e = length_each agreed ts us e

module _ (at : ℕ → Tern) where
  pub value_length : (tree : Tree) → IsMade tree → length (tree_value at tree) ≡ tree_width tree
  value_length (Const bits) made = length-map bits.items known
  value_length (Bits first count) made = length_first count (λ k. at (first + k))
  value_length (Pick' first width p index) made = refl
  value_length (Cat' p low width q high) made =
      length-append (tree_value at low) (tree_value at high) ∙ omega (arith, value_length low made.1, value_length high made.2, made.0)
  value_length (Not' p e) made = length-map (tree_value at e) inverse ∙ value_length e made
  value_length (And' p a q b) made = length_each both (tree_value at a) (tree_value at b) (value_length a made.1 ∙ made.0 ∙ sym (value_length b made.2)) ∙ value_length a made.1
  value_length (Or' p a q b) made = length_each either (tree_value at a) (tree_value at b) (value_length a made.1 ∙ made.0 ∙ sym (value_length b made.2)) ∙ value_length a made.1
  value_length (Xor' p a q b) made = length_each differs (tree_value at a) (tree_value at b) (value_length a made.1 ∙ made.0 ∙ sym (value_length b made.2)) ∙ value_length a made.1
  value_length (Equal' width p a q b) made = refl
  value_length (Minus' width p a q b) made = length_minus (tree_value at a) (tree_value at b) ∙ value_length a made.2 ∙ made.0
  value_length (Cond' p c q a r b) made =
      length_one (tern_at (tree_value at c) 0) (tree_value at a) (tree_value at b) (value_length a made.3 ∙ made.1 ∙ sym (value_length b made.4)) ∙ value_length a made.3
