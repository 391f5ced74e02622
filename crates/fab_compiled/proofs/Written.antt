-- Lists of bits that are written place by place.
use Rattle.std.proofs.Common.{◌≡◌, ℕ, zero, suc, ◌+◌, ◌<◌, ◌≤◌, List, [], ◌∷◌, length, map, refl, sym, ap, ap₂, ◌∙◌, inl, inr, arith, set, get_or, slice_get, Bool, true, false, not, ◌&&◌, Option, Some, None}
use Rattle.std.proofs.lemmas.Bool.{cases_eq}
use Rattle.std.proofs.lemmas.Bool.{cases_Bool, false≢true}
use Rattle.std.proofs.lemmas.List.{length-map}
use Rattle.std.proofs.lemmas.Option.{slice_get_within}
use Rattle.fab_syntax.specs.declared.tree.Op.TheVariants as ops
use Rattle.fab_systems_laws.specs.Ternary.{Tern, no, yes, unknown}
use Rattle.fab_solutions_laws.specs.fab_ternary_laws_Operators.{tern_at, bools, minus_of, tern_operated}
use Rattle.fab_ternary.specs.declared.Tern.{Tern as Kept}
use Rattle.fab_ternary.specs.declared.Tern.TheVariants.{No}
use Rattle.fab_ternary.specs.Terns.{plain_tern, is_known}
use Rattle.fab_compiled.specs.declared.tree.Tree.{Tree}
use Rattle.fab_compiled.specs.Terns.{seen}
use Rattle.fab_compiled.specs.Trees.{tree_width, IsMade}
use Rattle.fab_compiled.specs.Evaluation.{all_known, value_seen}
use Rattle.fab_compiled.proofs.Lengths.{bools_open, value_length}

-- the bits of a list that is kept
abbrev pub plain : List Kept → List Tern
plain bits = map plain_tern bits

pub set_here : (bits : List Kept) (place : ℕ) (bit : Kept) → place < length bits → tern_at (plain (set bits place bit)) place ≡ plain_tern bit
set_here [] place bit l = absurd (omega arith)
set_here (b ∷ bits) zero bit l = refl
set_here (b ∷ bits) (suc place) bit l = set_here bits place bit (omega arith)

pub set_elsewhere : (bits : List Kept) (place : ℕ) (bit : Kept) (k : ℕ) → (k ≡ place → ⊥) → tern_at (plain (set bits place bit)) k ≡ tern_at (plain bits) k
set_elsewhere [] place bit k apart = refl
set_elsewhere (b ∷ bits) zero bit zero apart = absurd (apart refl)
set_elsewhere (b ∷ bits) zero bit (suc k) apart = refl
set_elsewhere (b ∷ bits) (suc place) bit zero apart = refl
set_elsewhere (b ∷ bits) (suc place) bit (suc k) apart = set_elsewhere bits place bit k (λ e. apart (ap suc e))

pub set_long : (bits : List Kept) (place : ℕ) (bit : Kept) → length (plain (set bits place bit)) ≡ length (plain bits)
set_long [] place bit = refl
set_long (b ∷ bits) zero bit = refl
set_long (b ∷ bits) (suc place) bit = ap suc (set_long bits place bit)

pub read : (bits : List Kept) (place : ℕ) → plain_tern (get_or bits place No) ≡ tern_at (plain bits) place
read [] place = refl
read (b ∷ bits) zero = refl
read (b ∷ bits) (suc place) = read bits place

-- lists are the same where their bits are
pub bits_same : (ts us : List Tern) → length ts ≡ length us → ((k : ℕ) → k < length us → tern_at ts k ≡ tern_at us k) → ts ≡ us
bits_same [] [] e same = refl
bits_same [] (u ∷ us) e same = absurd (omega (arith, e))
bits_same (t ∷ ts) [] e same = absurd (omega (arith, e))
bits_same (t ∷ ts) (u ∷ us) e same = ap₂ (λ x xs. x ∷ xs) (same 0 (omega arith)) (bits_same ts us (omega (arith, e)) (λ k l. same (suc k) (omega arith)))

-- Before a place stand the bits of one list, and from it on those of another.
pub record IsPartly (place : ℕ) (done old now : List Tern) : Type 0 where
  pub long : length now ≡ length old
  pub before : (k : ℕ) → k < place → tern_at now k ≡ tern_at done k
  pub after : (k : ℕ) → place ≤ k → tern_at now k ≡ tern_at old k

pub none_done : (done old : List Tern) → IsPartly 0 done old old
none_done done old = record { long = refl; before = λ k l. absurd (omega arith); after = λ k l. refl }

pub one_done : (place : ℕ) (done old : List Tern) (bits : List Kept) (bit : Kept) → IsPartly place done old (plain bits) → place < length bits →
    plain_tern bit ≡ tern_at done place → IsPartly (place + 1) done old (plain (set bits place bit))
one_done place done old bits bit part within is = record {
  long = set_long bits place bit ∙ part.long;
  before = λ k l.
      elim (cases_eq k place) [
        | inl e ↦ ap (tern_at (plain (set bits place bit))) e ∙ set_here bits place bit within ∙ is ∙ ap (tern_at done) (sym e)
        | inr n ↦ set_elsewhere bits place bit k n ∙ part.before k (omega (arith, l, n))
      ];
  after = λ k l. set_elsewhere bits place bit k (omega (arith, l)) ∙ part.after k (omega (arith, l));
}

pub all_done : (place : ℕ) (done old now : List Tern) → IsPartly place done old now → length old ≤ place → length done ≡ length old → now ≡ done
all_done place done old now part past same = bits_same now done (part.long ∙ sym same) (λ k l. part.before k (omega (arith, l, past, same)))

-- ---- what is known

pub tells_known : (t : Tern) (b : Bool) → b ≡ not (is_known t) → b ≡ false → is_known t ≡ true
tells_known no b is f = refl
tells_known yes b is f = refl
tells_known unknown b is f = absurd (false≢true (sym f ∙ is))

pub tells_open : (t : Tern) (b : Bool) → b ≡ not (is_known t) → b ≡ true → is_known t ≡ false
tells_open no b is f = absurd (false≢true (sym is ∙ f))
tells_open yes b is f = absurd (false≢true (sym is ∙ f))
tells_open unknown b is f = refl

pub left_of : (a b : Bool) → (a && b) ≡ true → a ≡ true
left_of true b h = refl
left_of false b h = absurd (false≢true h)

pub right_of : (a b : Bool) → (a && b) ≡ true → b ≡ true
right_of true b h = h
right_of false b h = absurd (false≢true h)

-- a difference of which nothing is known
none_left : (ts : List Tern) (o : Option (List Bool)) → minus_of ts o None ≡ map (λ t. unknown) ts
none_left ts None = refl
none_left ts (Some xs) = refl

pub open_difference : (ts us : List Tern) → (all_known ts && all_known us) ≡ false → map (λ t. unknown) ts ≡ tern_operated ops.Minus ts us
open_difference ts us h =
    elim (cases_Bool (all_known ts)) [
      | inl k ↦ sym (ap (λ (o : Option (List Bool)). minus_of ts (bools ts) o) (bools_open us (ap (λ (b : Bool). b && all_known us) (sym k) ∙ h)) ∙ none_left ts (bools ts))
      | inr f ↦ sym (ap (λ (o : Option (List Bool)). minus_of ts o (bools us)) (bools_open ts f))
    ]

-- ---- bits of a whole value

bit_kept : (bits : List Kept) (bit : ℕ) (kept : Kept) → slice_get bits bit ≡ Some kept → plain_tern kept ≡ tern_at (plain bits) bit
bit_kept [] bit kept is = cc
bit_kept (b ∷ bits) zero kept is = cc
bit_kept (b ∷ bits) (suc bit) kept is = bit_kept bits bit kept is

pub whole_bit : (terns : List Kept) (leads : List ℕ) (first : ℕ) (tree : Tree) (bits : List Kept) → IsMade tree → plain bits ≡ value_seen terns leads first tree →
    (bit : ℕ) (kept : Kept) → slice_get bits bit ≡ Some kept → (bit < tree_width tree) × (plain_tern kept ≡ tern_at (value_seen terns leads first tree) bit)
whole_bit terns leads first tree bits made is bit kept at =
    let long : length bits ≡ tree_width tree = sym (length-map bits plain_tern) ∙ ap length is ∙ value_length (λ place. seen terns leads (first + place)) tree made in
    (omega (arith, long, slice_get_within bits bit kept at), bit_kept bits bit kept at ∙ ap (λ (ts : List Tern). tern_at ts bit) is)
