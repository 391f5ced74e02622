-- Over known points the value of an expression is known.
use Rattle.std.proofs.Common.{◌≡◌, ℕ, zero, suc, ◌+◌, ◌^◌, ◌<◌, ◌≤◌, Bool, true, false, ◌&&◌, List, [], ◌∷◌, ◌++◌, map, refl, sym, ap, ap₂, ◌∙◌, arith}
use Rattle.std.proofs.lemmas.Bool.{false≢true}
use Rattle.fab_syntax.specs.declared.tree.Op.TheVariants as ops
use Rattle.fab_meaning.specs.Value.{operated}
use Rattle.fab_systems_laws.specs.Ternary.{Tern, no, yes, unknown, known}
use Rattle.fab_ternary.specs.Terns.{is_known, is_one}
use Rattle.fab_ternary_laws.specs.Operators.{tern_at, inverse, both, either, differs, each_tern, same_terns, minus_of, tern_operated, one_of, entry}
use Rattle.fab_ternary_laws.specs.Shown.{first_terns}
use Rattle.fab_ternary_laws.proofs.Known.{known_entry, known_same}
use Rattle.fab_compiled.specs.declared.tree.Tree.{Tree, Const, Bits, Pick', Cat', Not', And', Or', Xor', Equal', Minus', Cond'}
use Rattle.fab_compiled.specs.Trees.{tree_value, IsBelowPlace}
use Rattle.fab_compiled.specs.Evaluation.{all_known, known_bits}
use Rattle.fab_compiled.proofs.Lengths.{bools_known}

-- ---- bits

pub one_is_known : (b : Bool) → is_known (known b) ≡ true
one_is_known true = refl
one_is_known false = refl

pub known_is : (t : Tern) → is_known t ≡ true → known (is_one t) ≡ t
known_is no k = refl
known_is yes k = refl
known_is unknown k = absurd (false≢true k)

inverse_known : (t : Tern) → is_known t ≡ true → is_known (inverse t) ≡ true
inverse_known no k = refl
inverse_known yes k = refl
inverse_known unknown k = absurd (false≢true k)

both_known : (t u : Tern) → is_known t ≡ true → is_known u ≡ true → is_known (both t u) ≡ true
both_known no u k l = refl
both_known yes u k l = l
both_known unknown u k l = absurd (false≢true k)

either_known : (t u : Tern) → is_known t ≡ true → is_known u ≡ true → is_known (either t u) ≡ true
either_known no u k l = l
either_known yes u k l = refl
either_known unknown u k l = absurd (false≢true k)

differs_known : (t u : Tern) → is_known t ≡ true → is_known u ≡ true → is_known (differs t u) ≡ true
differs_known no u k l = l
differs_known yes u k l = inverse_known u l
differs_known unknown u k l = absurd (false≢true k)

-- ---- lists of bits

two : (a b : Bool) → a ≡ true → b ≡ true → (a && b) ≡ true
two a b h k = (λ j. h j && k j)

pub all_of_known : (bits : List Bool) → all_known (map known bits) ≡ true
all_of_known [] = refl
all_of_known (true ∷ bits) = all_of_known bits
all_of_known (false ∷ bits) = all_of_known bits

pub list_is : (ts : List Tern) → all_known ts ≡ true → map known (known_bits ts) ≡ ts
list_is [] k = refl
list_is (no ∷ ts) k = ap (λ us. no ∷ us) (list_is ts k)
list_is (yes ∷ ts) k = ap (λ us. yes ∷ us) (list_is ts k)
list_is (unknown ∷ ts) k = absurd (false≢true k)

-- past the end a bit is 0
pub at_known : (ts : List Tern) (place : ℕ) → all_known ts ≡ true → is_known (tern_at ts place) ≡ true
at_known [] place k = refl
at_known (no ∷ ts) zero k = refl
at_known (yes ∷ ts) zero k = refl
at_known (no ∷ ts) (suc place) k = at_known ts place k
at_known (yes ∷ ts) (suc place) k = at_known ts place k
at_known (unknown ∷ ts) place k = absurd (false≢true k)

first_known : (n : ℕ) (f : ℕ → Tern) → ((k : ℕ) → k < n → is_known (f k) ≡ true) → all_known (first_terns n f) ≡ true
first_known zero f h = refl
first_known (suc n) f h = two (is_known (f 0)) (all_known (first_terns n (λ k. f (suc k)))) (h 0 (omega arith)) (first_known n (λ k. f (suc k)) (λ k l. h (suc k) (omega arith)))

append_known : (ts us : List Tern) → all_known ts ≡ true → all_known us ≡ true → all_known (ts ++ us) ≡ true
append_known [] us k l = l
append_known (no ∷ ts) us k l = append_known ts us k l
append_known (yes ∷ ts) us k l = append_known ts us k l
append_known (unknown ∷ ts) us k l = absurd (false≢true k)

map_known : (f : Tern → Tern) → ((t : Tern) → is_known t ≡ true → is_known (f t) ≡ true) → (ts : List Tern) → all_known ts ≡ true → all_known (map f ts) ≡ true
map_known f h [] k = refl
map_known f h (no ∷ ts) k = two (is_known (f no)) (all_known (map f ts)) (h no refl) (map_known f h ts k)
map_known f h (yes ∷ ts) k = two (is_known (f yes)) (all_known (map f ts)) (h yes refl) (map_known f h ts k)
map_known f h (unknown ∷ ts) k = absurd (false≢true k)

each_known : (f : Tern → Tern → Tern) → ((t u : Tern) → is_known t ≡ true → is_known u ≡ true → is_known (f t u) ≡ true) → (ts us : List Tern) →
    all_known ts ≡ true → all_known us ≡ true → all_known (each_tern f ts us) ≡ true
each_known f h [] us k l = refl
each_known f h (no ∷ ts) [] k l = refl
each_known f h (yes ∷ ts) [] k l = refl
each_known f h (no ∷ ts) (no ∷ us) k l = two (is_known (f no no)) (all_known (each_tern f ts us)) (h no no refl refl) (each_known f h ts us k l)
each_known f h (no ∷ ts) (yes ∷ us) k l = two (is_known (f no yes)) (all_known (each_tern f ts us)) (h no yes refl refl) (each_known f h ts us k l)
each_known f h (yes ∷ ts) (no ∷ us) k l = two (is_known (f yes no)) (all_known (each_tern f ts us)) (h yes no refl refl) (each_known f h ts us k l)
each_known f h (yes ∷ ts) (yes ∷ us) k l = two (is_known (f yes yes)) (all_known (each_tern f ts us)) (h yes yes refl refl) (each_known f h ts us k l)
each_known f h (unknown ∷ ts) us k l = absurd (false≢true k)
each_known f h (t ∷ ts) (unknown ∷ us) k l = absurd (false≢true l)

pub minus_is : (ts us : List Tern) → all_known ts ≡ true → all_known us ≡ true → tern_operated ops.Minus ts us ≡ map known (operated ops.Minus (known_bits ts) (known_bits us))
minus_is ts us k l = (λ j. minus_of ts (bools_known ts k j) (bools_known us l j))

pub same_is : (ts us : List Tern) → all_known ts ≡ true → all_known us ≡ true → same_terns ts us ≡ same_terns (map known (known_bits ts)) (map known (known_bits us))
same_is ts us k l = sym (ap₂ same_terns (list_is ts k) (list_is us l))

same_known : (ts us : List Tern) → all_known ts ≡ true → all_known us ≡ true → is_known (same_terns ts us) ≡ true
same_known ts us k l = ap is_known (same_is ts us k l ∙ known_same (known_bits ts) (known_bits us)) ∙ one_is_known _

entry_known : (ts index : List Tern) → all_known ts ≡ true → all_known index ≡ true → is_known (entry ts index) ≡ true
entry_known ts index k l = ap is_known (sym (ap₂ entry (list_is ts k) (list_is index l)) ∙ known_entry (known_bits ts) (known_bits index)) ∙ one_is_known _

one_known : (test : Tern) (ts us : List Tern) → is_known test ≡ true → all_known ts ≡ true → all_known us ≡ true → all_known (one_of test ts us) ≡ true
one_known no ts us h k l = l
one_known yes ts us h k l = k
one_known unknown ts us h k l = absurd (false≢true h)

-- ---- expressions

module _ (at : ℕ → Tern) (bound : ℕ) (each : (place : ℕ) → place < bound → is_known (at place) ≡ true) where
  range_known : (first count : ℕ) → first + count ≤ bound → all_known (first_terns count (λ k. at (first + k))) ≡ true
  range_known first count below = first_known count (λ k. at (first + k)) (λ k l. each (first + k) (omega (arith, below, l)))

  pub tree_known : (tree : Tree) → IsBelowPlace bound tree → all_known (tree_value at tree) ≡ true
  tree_known (Const bits) below = all_of_known bits.items
  tree_known (Bits first count) below = range_known first count below
  tree_known (Pick' first width p index) below =
      two (is_known (entry (first_terns (2 ^ width) (λ k. at (first + k))) (tree_value at index))) true
      (entry_known (first_terns (2 ^ width) (λ k. at (first + k))) (tree_value at index) (range_known first (2 ^ width) below.0) (tree_known index below.1)) refl
  tree_known (Cat' p low width q high) below = append_known (tree_value at low) (tree_value at high) (tree_known low below.0) (tree_known high below.1)
  tree_known (Not' p e) below = map_known inverse inverse_known (tree_value at e) (tree_known e below)
  tree_known (And' p a q b) below = each_known both both_known (tree_value at a) (tree_value at b) (tree_known a below.0) (tree_known b below.1)
  tree_known (Or' p a q b) below = each_known either either_known (tree_value at a) (tree_value at b) (tree_known a below.0) (tree_known b below.1)
  tree_known (Xor' p a q b) below = each_known differs differs_known (tree_value at a) (tree_value at b) (tree_known a below.0) (tree_known b below.1)
  tree_known (Equal' width p a q b) below =
      two (is_known (same_terns (tree_value at a) (tree_value at b))) true (same_known (tree_value at a) (tree_value at b) (tree_known a below.0) (tree_known b below.1)) refl
  tree_known (Minus' width p a q b) below =
      ap all_known (minus_is (tree_value at a) (tree_value at b) (tree_known a below.0) (tree_known b below.1))
      ∙ all_of_known (operated ops.Minus (known_bits (tree_value at a)) (known_bits (tree_value at b)))
  tree_known (Cond' p c q a r b) below =
      one_known (tern_at (tree_value at c) 0) (tree_value at a) (tree_value at b) (at_known (tree_value at c) 0 (tree_known c below.0)) (tree_known a below.1) (tree_known b below.2)
