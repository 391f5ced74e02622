-- Entries of tables whose entries are at places one stride from the next.
use Rattle.std.proofs.Common.{◌≡◌, ℕ, zero, suc, ◌+◌, ◌*◌, ◌^◌, ◌<◌, ◌≤◌, false, List, ◌∷◌, length, map, refl, sym, ap, ap₂, ◌∙◌, subst, arith, pow-suc}
use Rattle.std.proofs.Math.Nat.{mul-le-mul_left}
use Rattle.std.proofs.lemmas.Bool.{false≢true}
use Rattle.std.proofs.lemmas.Nat.{pow_pos}
use Rattle.fab_systems_laws.specs.Ternary.{Tern, no, yes, unknown}
use Rattle.fab_ternary.specs.declared.Tern.{Tern as Kept}
use Rattle.fab_ternary.specs.declared.Tern.TheVariants.{No, Yes, Open}
use Rattle.fab_ternary.specs.Terns.{plain_tern, is_known}
use Rattle.fab_solutions_laws.specs.fab_ternary_laws_Operators.{agreed, evens, odds, entry}
use Rattle.fab_solutions_laws.specs.fab_ternary_laws_Shown.{first_terns}

evens_first : (n : ℕ) (f : ℕ → Tern) → evens (first_terns (2 * n) f) ≡ first_terns n (λ k. f (2 * k))
evens_first zero f = refl
evens_first (suc n) f =
    let e : 2 * suc n ≡ suc (suc (2 * n)) = omega arith in
    let g : (k : ℕ) → f (suc (suc (2 * k))) ≡ f (2 * suc k) = λ k. ap f (omega arith) in
    ap (λ m. evens (first_terns m f)) e ∙ ap (λ ts. f 0 ∷ ts) (evens_first n (λ k. f (suc (suc k))) ∙ (λ j. first_terns n (λ k. g k j)))

odds_first : (n : ℕ) (f : ℕ → Tern) → odds (first_terns (2 * n) f) ≡ first_terns n (λ k. f (2 * k + 1))
odds_first zero f = refl
odds_first (suc n) f =
    let e : 2 * suc n ≡ suc (suc (2 * n)) = omega arith in
    let g : (k : ℕ) → f (suc (suc (2 * k + 1))) ≡ f (2 * suc k + 1) = λ k. ap f (omega arith) in
    ap (λ m. odds (first_terns m f)) e ∙ ap (λ ts. f 1 ∷ ts) (odds_first n (λ k. f (suc (suc k))) ∙ (λ j. first_terns n (λ k. g k j)))

module _ (at : ℕ → Tern) where
  -- a table of so many entries, from a place on
  abbrev pub table : (size first stride : ℕ) → List Tern
  table size first stride = first_terns (2 ^ size) (λ k. at (first + stride * k))

  pub even_entries : (size first stride : ℕ) → evens (table (suc size) first stride) ≡ table size first (2 * stride)
  even_entries size first stride =
      let g : (k : ℕ) → at (first + stride * (2 * k)) ≡ at (first + 2 * stride * k) = λ k. ap at (omega arith) in
      let double : 2 ^ suc size ≡ 2 * 2 ^ size = omega (arith, pow-suc 2 size) in
      ap (λ m. evens (first_terns m (λ k. at (first + stride * k)))) double
      ∙ evens_first (2 ^ size) (λ k. at (first + stride * k)) ∙ (λ j. first_terns (2 ^ size) (λ k. g k j))

  pub odd_entries : (size first stride : ℕ) → odds (table (suc size) first stride) ≡ table size (first + stride) (2 * stride)
  odd_entries size first stride =
      let g : (k : ℕ) → at (first + stride * (2 * k + 1)) ≡ at (first + stride + 2 * stride * k) = λ k. ap at (omega arith) in
      let double : 2 ^ suc size ≡ 2 * 2 ^ size = omega (arith, pow-suc 2 size) in
      ap (λ m. odds (first_terns m (λ k. at (first + stride * k)))) double
      ∙ odds_first (2 ^ size) (λ k. at (first + stride * k)) ∙ (λ j. first_terns (2 ^ size) (λ k. g k j))

  pub entry_no : (size first stride : ℕ) (index : List Tern) → entry (table (suc size) first stride) (no ∷ index) ≡ entry (table size first (2 * stride)) index
  entry_no size first stride index = ap (λ ts. entry ts index) (even_entries size first stride)

  pub entry_yes : (size first stride : ℕ) (index : List Tern) → entry (table (suc size) first stride) (yes ∷ index) ≡ entry (table size (first + stride) (2 * stride)) index
  entry_yes size first stride index = ap (λ ts. entry ts index) (odd_entries size first stride)

  pub entry_open : (size first stride : ℕ) (index : List Tern) → entry (table (suc size) first stride) (unknown ∷ index)
      ≡ agreed (entry (table size first (2 * stride)) index) (entry (table size (first + stride) (2 * stride)) index)
  entry_open size first stride index = ap₂ agreed (entry_no size first stride index) (entry_yes size first stride index)

-- where the entries of a table lie
pub entries_even : (size first stride count : ℕ) → first + stride * 2 ^ suc size < count + stride → first + 2 * stride * 2 ^ size < count + 2 * stride
entries_even size first stride count h = let e : stride * 2 ^ suc size ≡ 2 * stride * 2 ^ size = ap (λ n. stride * n) (pow-suc 2 size) ∙ omega arith in omega (arith, h, e)

pub entries_odd : (size first stride count : ℕ) → first + stride * 2 ^ suc size < count + stride → first + stride + 2 * stride * 2 ^ size < count + 2 * stride
entries_odd size first stride count h = let e : stride * 2 ^ suc size ≡ 2 * stride * 2 ^ size = ap (λ n. stride * n) (pow-suc 2 size) ∙ omega arith in omega (arith, h, e)

-- ---- an index bit by bit, as it is kept

pub open_is : (t : Tern) → is_known t ≡ false → t ≡ unknown
open_is no e = absurd (false≢true (sym e))
open_is yes e = absurd (false≢true (sym e))
open_is unknown e = refl

agreed_open : (t : Tern) → agreed unknown t ≡ unknown
agreed_open no = refl
agreed_open yes = refl
agreed_open unknown = refl

pub entries_room : (size first stride count : ℕ) → first + stride * 2 ^ suc size < count + stride → first + stride < count
entries_room size first stride count h =
    let one : 1 ≤ 2 ^ size = omega (arith, pow_pos size) in
    let more : stride * 1 ≤ stride * 2 ^ size = mul-le-mul_left stride one in
    let e : stride * 2 ^ suc size ≡ stride * 2 ^ size + stride * 2 ^ size = ap (λ n. stride * n) (pow-suc 2 size) ∙ omega arith in
    omega (arith, h, e, more)

module _ (index : List Kept) (bit : Kept) (rest : List Kept) (is : index ≡ bit ∷ rest) where
  pub room_left : (first stride count : ℕ) → first + stride * 2 ^ length index < count + stride → first + stride < count
  room_left first stride count h = entries_room (length rest) first stride count (subst (λ (n : ℕ). first + stride * 2 ^ n < count + stride) (ap length is) h)

  module _ (at : ℕ → Tern) (first stride : ℕ) where
    split_entry : entry (table at (length index) first stride) (map plain_tern index) ≡ entry (table at (suc (length rest)) first stride) (plain_tern bit ∷ map plain_tern rest)
    split_entry = ap (λ (xs : List Kept). entry (table at (length xs) first stride) (map plain_tern xs)) is

    pub no_entry : bit ≡ No → entry (table at (length rest) first (2 * stride)) (map plain_tern rest) ≡ entry (table at (length index) first stride) (map plain_tern index)
    no_entry e =
        sym (split_entry ∙ ap (λ (b : Kept). entry (table at (suc (length rest)) first stride) (plain_tern b ∷ map plain_tern rest)) e
        ∙ entry_no at (length rest) first stride (map plain_tern rest))

    pub yes_entry : bit ≡ Yes → entry (table at (length rest) (first + stride) (2 * stride)) (map plain_tern rest) ≡ entry (table at (length index) first stride) (map plain_tern index)
    yes_entry e =
        sym (split_entry ∙ ap (λ (b : Kept). entry (table at (suc (length rest)) first stride) (plain_tern b ∷ map plain_tern rest)) e
        ∙ entry_yes at (length rest) first stride (map plain_tern rest))

    pub open_entry : bit ≡ Open →
        agreed (entry (table at (length rest) first (2 * stride)) (map plain_tern rest)) (entry (table at (length rest) (first + stride) (2 * stride)) (map plain_tern rest))
        ≡ entry (table at (length index) first stride) (map plain_tern index)
    open_entry e =
        sym (split_entry ∙ ap (λ (b : Kept). entry (table at (suc (length rest)) first stride) (plain_tern b ∷ map plain_tern rest)) e
        ∙ entry_open at (length rest) first stride (map plain_tern rest))

    pub open_half : bit ≡ Open → entry (table at (length rest) first (2 * stride)) (map plain_tern rest) ≡ unknown →
        unknown ≡ entry (table at (length index) first stride) (map plain_tern index)
    open_half e none =
        let odd = entry (table at (length rest) (first + stride) (2 * stride)) (map plain_tern rest) in
        sym (agreed_open odd) ∙ ap (λ (t : Tern). agreed t odd) (sym none) ∙ open_entry e
