-- Bits of the value of a tree, from its parts.
use Rattle.std.proofs.Common.{◌≡◌, ℕ, ◌+◌, ◌-◌, ◌*◌, ◌^◌, ◌<◌, ◌≤◌, Bool, true, false, List, [], ◌∷◌, ◌++◌, length, map, drop, set, get_or, Option, Some, None, refl, sym, ap, ap₂, ◌∙◌, arith, inl, inr}
use Rattle.std.proofs.lemmas.Bool.{cases_eq}
use Rattle.std.proofs.lemmas.List.{length-map, get_or-set_same, get_or-set_other}
use Rattle.std.proofs.Math.ListN.{drop_of_length-le}
use Rattle.fab_bits.specs.Bits.{number, digits, other_bit}
use Rattle.fab_solutions_laws.specs.fab_meaning_Value.{operated, bit_at}
use Rattle.fab_syntax.specs.declared.tree.Op.TheVariants as ops
use Rattle.fab_values.proofs.Evaluated.{borrow_at, bit_difference}
use Rattle.fab_systems_laws.specs.Ternary.{Tern, yes, unknown, known}
use Rattle.fab_solutions_laws.specs.fab_ternary_laws_Operators.{tern_at, inverse, both, differs, agreed, each_tern, same_terns, bools, minus_of, tern_operated, one_of}
use Rattle.fab_solutions_laws.specs.fab_ternary_laws_Shown.{first_terns}
use Rattle.fab_solutions_laws.proofs.fab_ternary_laws_Known.{known_at}
use Rattle.fab_ternary.specs.declared.Tern.{Tern as Kept}
use Rattle.fab_ternary.specs.declared.Tern.TheVariants.{No}
use Rattle.fab_compiled.specs.declared.tree.Tree.{Tree}
use Rattle.fab_compiled.specs.Terns.{seen}
use Rattle.fab_compiled.specs.Trees.{tree_width, IsMade}
use Rattle.fab_compiled.specs.Evaluation.{all_known, known_bits, value_seen}
use Rattle.fab_ternary.specs.Terns.{plain_tern, is_one}
use Rattle.fab_compiled.proofs.Lengths.{bools_known, bools_open, value_length}
use Rattle.fab_compiled.proofs.Bits.{each_at, inverse_at, low_at, high_at, same_more, open_at}

-- ---- bit by bit

pub not_at : (ts us : List Tern) (bit : ℕ) → us ≡ map inverse ts → bit < length us → inverse (tern_at ts bit) ≡ tern_at us bit
not_at ts us bit is l = sym (ap (λ (xs : List Tern). tern_at xs bit) is ∙ inverse_at ts bit (omega (arith, l, ap length is, length-map ts inverse)))

pub each_of : (f : Tern → Tern → Tern) (ts us vs : List Tern) (bit : ℕ) → vs ≡ each_tern f ts us → bit < length ts → length ts ≡ length us → f (tern_at ts bit) (tern_at us bit) ≡ tern_at vs bit
each_of f ts us vs bit is l e = sym (ap (λ (xs : List Tern). tern_at xs bit) is ∙ each_at f ts us bit l e)

pub low_of : (ts us vs : List Tern) (bit : ℕ) → vs ≡ ts ++ us → bit < length ts → tern_at ts bit ≡ tern_at vs bit
low_of ts us vs bit is l = sym (ap (λ (xs : List Tern). tern_at xs bit) is ∙ low_at ts us bit l)

pub high_of : (ts us vs : List Tern) (bit width : ℕ) → vs ≡ ts ++ us → length ts ≡ width → width ≤ bit → tern_at us (bit - width) ≡ tern_at vs bit
high_of ts us vs bit width is long past =
    let e : length ts + (bit - width) ≡ bit = omega (arith, long, past) in
    sym (ap (λ (xs : List Tern). tern_at xs bit) is ∙ ap (tern_at (ts ++ us)) (sym e) ∙ high_at ts us (bit - width))

pub one_of_at : (test : Tern) (ts us vs : List Tern) (bit : ℕ) → vs ≡ one_of test ts us → test ≡ unknown → bit < length ts → length ts ≡ length us →
    agreed (tern_at ts bit) (tern_at us bit) ≡ tern_at vs bit
one_of_at test ts us vs bit is none l e =
    sym (ap (λ (xs : List Tern). tern_at xs bit) is ∙ ap (λ (t : Tern). tern_at (one_of t ts us) bit) none ∙ each_at agreed ts us bit l e)

pub single_at : (t : Tern) (ts : List Tern) (bit : ℕ) → ts ≡ t ∷ [] → bit < 1 → t ≡ tern_at ts bit
single_at t ts bit is l = let e : bit ≡ 0 = omega arith in sym (ap (λ (xs : List Tern). tern_at xs bit) is ∙ ap (tern_at (t ∷ [])) e)

-- ---- tables

-- places one behind the other, counted in two ways
pub table_is : (at : ℕ → Tern) (n first place : ℕ) → first_terns n (λ k. at (first + place + 1 * k)) ≡ first_terns n (λ k. at (first + (place + k)))
table_is at n first place = let g : (k : ℕ) → at (first + place + 1 * k) ≡ at (first + (place + k)) = λ k. ap at (omega arith) in (λ j. first_terns n (λ k. g k j))

-- ---- differences

pub minus_unknown : (ts us : List Tern) (bit : ℕ) → bit < length ts → (all_known ts ≡ false) → unknown ≡ tern_at (tern_operated ops.Minus ts us) bit
minus_unknown ts us bit l f = sym (ap (λ (o : Option (List Bool)). tern_at (minus_of ts o (bools us)) bit) (bools_open ts f) ∙ open_at ts bit l)

nothing_known : (ts : List Tern) (o : Option (List Bool)) → minus_of ts o None ≡ map (λ t. unknown) ts
nothing_known ts None = refl
nothing_known ts (Some xs) = refl

pub minus_by_unknown : (ts us : List Tern) (bit : ℕ) → bit < length ts → (all_known us ≡ false) → unknown ≡ tern_at (tern_operated ops.Minus ts us) bit
minus_by_unknown ts us bit l f =
    sym (ap (λ (o : Option (List Bool)). tern_at (minus_of ts (bools ts) o) bit) (bools_open us f) ∙ ap (λ (xs : List Tern). tern_at xs bit) (nothing_known ts (bools ts)) ∙ open_at ts bit l)

pub minus_known : (ts us : List Tern) (bit : ℕ) → bit < length ts → length ts ≡ length us → all_known ts ≡ true → all_known us ≡ true →
    known (other_bit (other_bit (bit_at (known_bits ts) bit) (bit_at (known_bits us) bit)) (borrow_at false (known_bits ts) (known_bits us) bit)) ≡ tern_at (tern_operated ops.Minus ts us) bit
minus_known ts us bit l e k m =
    let xs = known_bits ts in
    let ys = known_bits us in
    let long : length xs ≡ length ts = length-map ts is_one in
    let same : length xs ≡ length ys = long ∙ e ∙ sym (length-map us is_one) in
    let zero_borrow : number xs + 2 ^ length xs - number ys - 0 ≡ number xs + 2 ^ length xs - number ys = omega arith in
    let value : tern_operated ops.Minus ts us ≡ map known (operated ops.Minus xs ys) = (λ j. minus_of ts (bools_known ts k j) (bools_known us m j)) in
    sym (ap (λ (vs : List Tern). tern_at vs bit) value ∙ known_at (operated ops.Minus xs ys) bit
    ∙ ap known (sym (bit_difference false xs ys bit (omega (arith, l, long)) same ∙ ap (λ n. bit_at (digits (length xs) n) bit) zero_borrow)))

-- ---- lengths of what is seen

module _ (terns : List Kept) (leads : List ℕ) (first : ℕ) where
  pub wide_at : (tree : Tree) → IsMade tree → length (value_seen terns leads first tree) ≡ tree_width tree
  wide_at tree made = value_length (λ place. seen terns leads (first + place)) tree made

  pub long_at : (tree : Tree) (bit : ℕ) → IsMade tree → bit < tree_width tree → bit < length (value_seen terns leads first tree)
  long_at tree bit made within = omega (arith, within, wide_at tree made)

  pub operands_long : (left right : Tree) (bit : ℕ) → tree_width left ≡ tree_width right → IsMade left → IsMade right → bit < tree_width left →
      (bit < length (value_seen terns leads first left)) × (length (value_seen terns leads first left) ≡ length (value_seen terns leads first right))
  operands_long left right bit same made_left made_right within = (long_at left bit made_left within, wide_at left made_left ∙ same ∙ sym (wide_at right made_right))

  -- operands as they are lent
  pub lent_long : (lent tree : Tree) (width : ℕ) → lent ≡ tree → tree_width tree ≡ width → IsMade tree → length (value_seen terns leads first lent) ≡ width
  lent_long lent tree width is wide made = ap (λ (x : Tree). length (value_seen terns leads first x)) is ∙ wide_at tree made ∙ wide

-- ---- bits that are gathered

pub set_bits : (kept : List Kept) (place : ℕ) (b : Kept) (ts : List Tern) → place < length kept → ((k : ℕ) → k < place → plain_tern (get_or kept k No) ≡ tern_at ts k) →
    plain_tern b ≡ tern_at ts place → (k : ℕ) → k < place + 1 → plain_tern (get_or (set kept place b) k No) ≡ tern_at ts k
set_bits kept place b ts room before at k l =
    elim (cases_eq k place) [
      | inl e ↦ ap plain_tern (ap (λ (n : ℕ). get_or (set kept place b) n No) e ∙ get_or-set_same kept place b No room) ∙ at ∙ ap (tern_at ts) (sym e)
      | inr n ↦ ap plain_tern (get_or-set_other kept place k b No n) ∙ before k (omega (arith, l, n))
    ]

-- ---- equality, from its last bit on

pub same_none : (ts us : List Tern) (n : ℕ) → length ts ≡ n → length us ≡ n → yes ≡ same_terns (drop n ts) (drop n us)
same_none ts us n e f = sym (ap₂ same_terns (drop_of_length-le ts {i = n} (omega (arith, e))) (drop_of_length-le us {i = n} (omega (arith, f))))

pub same_step : (ts us : List Tern) (place : ℕ) → 0 < place → place ≤ length ts → length ts ≡ length us → (t u all : Tern) →
    t ≡ tern_at ts (place - 1) → u ≡ tern_at us (place - 1) → all ≡ same_terns (drop place ts) (drop place us) →
    both (inverse (differs t u)) all ≡ same_terns (drop (place - 1) ts) (drop (place - 1) us)
same_step ts us place some low e t u all at_t at_u so_far =
    let back : place - 1 + 1 ≡ place = omega arith in
    (λ j. both (inverse (differs (at_t j) (at_u j))) (so_far j))
    ∙ ap (λ (n : ℕ). both (inverse (differs (tern_at ts (place - 1)) (tern_at us (place - 1)))) (same_terns (drop n ts) (drop n us))) (sym back)
    ∙ sym (same_more ts us (place - 1) (omega arith) e)
