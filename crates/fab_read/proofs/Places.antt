-- Default places are places of their own, and places are told one by one.
use Rattle.std.proofs.Common.{◌≡◌, ◌<◌, ◌≤◌, ◌-◌, ◌/◌, ◌%◌, ℕ, List, length, get_or, sym, ap, ◌∙◌, subst, arith, Result, Ok, Err}
use Rattle.std.proofs.lemmas.List.{ext_get_or, get_or_default}
use Rattle.std.specs.Prelude.{IfOk}
use Rattle.fab_model.specs.Tables.{HasTable}
use Rattle.fab_model.specs.Tiles.{PlainTile, tile_bits, with_table}
use Rattle.fab_tables.specs.Frames.{default_place}
use Rattle.fab_read.specs.Tiles.{HasDefaultPlaces}

-- there is one list of default places
pub default_once : (bits : ℕ) (first second : List (ℕ × ℕ)) → HasDefaultPlaces bits first → HasDefaultPlaces bits second → first ≡ second
default_once bits first second a b =
    ext_get_or (0, 0) first second (a.as_many ∙ sym b.as_many) (λ i below. a.each i (omega (arith, below, a.as_many)) ∙ sym (b.each i (omega (arith, below, a.as_many))))

-- a place is that of one bit
one_bit : (a b : ℕ) → a / 32 ≡ b / 32 → 31 - a % 32 ≡ 31 - b % 32 → a ≡ b
one_bit a b frame bit = omega arith

frame_below : (bits bit : ℕ) → bits ≤ 640 → bit < bits → (bits - 1 - bit) / 32 < 20
frame_below bits bit few below = omega arith

place_below : (a : ℕ) → 31 - a % 32 < 32
place_below a = omega arith

pub default_table : (tile : PlainTile) (table : List (ℕ × ℕ)) → tile_bits tile ≤ 640 → HasDefaultPlaces (tile_bits tile) table → HasTable (with_table tile table)
default_table tile table few has =
    let bits = tile_bits tile in
    let at : (k : ℕ) (d : ℕ × ℕ) → k < length table → get_or table k d ≡ default_place bits k = λ k d below. get_or_default table k d (0, 0) below ∙ has.each k (omega (arith, below, has.as_many)) in
    record {
      as_many = has.as_many;
      in_frames = λ k d below. subst (λ (place : ℕ × ℕ). (place.0 < 20) × (place.1 < 32)) (sym (at k d below)) (frame_below bits k few (omega (arith, below, has.as_many)), place_below (bits - 1 - k));
      apart = λ i j d less below same.
          let equal : default_place bits i ≡ default_place bits j = sym (at i d (omega (arith, less, below))) ∙ same ∙ at j d below in
          let number : bits - 1 - i ≡ bits - 1 - j = one_bit (bits - 1 - i) (bits - 1 - j) (ap (λ (p : ℕ × ℕ). p.0) equal) (ap (λ (p : ℕ × ℕ). p.1) equal) in
          absurd (omega (arith, number, less, below, has.as_many));
    }

-- the default places of a tile's bits are a table
pub default_fits : {E : Type 0} (tile : PlainTile) (bits : ℕ) (made : Result (List (ℕ × ℕ)) E) → bits ≡ tile_bits tile → tile_bits tile ≤ 640 → IfOk made (λ table. length table ≡ bits)
    → IfOk made (λ table. (bit : ℕ) → bit < bits → get_or table bit (0, 0) ≡ default_place bits bit) → IfOk made (λ table. HasTable (with_table tile table))
default_fits tile bits (Ok table) is few many each =
    default_table tile table few (record { as_many = many ∙ is; each = subst (λ (n : ℕ). (bit : ℕ) → bit < n → get_or table bit (0, 0) ≡ default_place n bit) is each })
default_fits tile bits (Err e) is few many each = tt
