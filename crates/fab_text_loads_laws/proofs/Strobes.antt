-- The value of a column's strobe: whether the loader's strobe is 1 and the address names the column and has the frame's bit.
use Rattle.std.proofs.Common.{◌≡◌, ℕ, zero, suc, ◌+◌, ◌^◌, ◌<◌, Bool, true, false, ◌&&◌, List, [], ◌∷◌, length, cond, slice_range, nat_eq, refl, sym, ap, ◌∙◌, subst, arith}
use Rattle.fab_bits.specs.Bits.{number, digits, first_bits, same_bits}
use Rattle.fab_bits.proofs.Numbers.{same_bits_digits, length_first_bits, range_first_bits, get_first_bits}
use Rattle.fab_syntax.specs.declared.tree.Op.TheVariants.{And}
use Rattle.fab_syntax.specs.Plain.{PlainExpr, variable, part, constant, operation, conditional}
use Rattle.fab_meaning.specs.Value.{value, bit_at}
use Rattle.fab_drives_laws.specs.fab_gen_loader_Loader.{address_port, strobe_port}
use Rattle.fab_drives_laws.specs.fab_fabric_text_defs_Top.{names_column}

abbrev pub strobe_expression : (x : ℕ) → PlainExpr
strobe_expression x = conditional (operation And (variable strobe_port) (names_column x)) (part address_port 19 0) (constant (digits 20 0))

-- bits are those of a number at their width
same_at : (bits : List Bool) (width n : ℕ) → length bits ≡ width → n < 2 ^ width → same_bits bits (digits width n) ≡ nat_eq (number bits) n
same_at bits width n long small =
    subst (λ w. n < 2 ^ w → same_bits bits (digits w n) ≡ nat_eq (number bits) n) long (same_bits_digits bits n) small

-- all bits of 0 are 0
no_bits : (width bit : ℕ) → bit_at (digits width 0) bit ≡ false
no_bits zero bit = refl
no_bits (suc width) zero = refl
no_bits (suc width) (suc bit) = no_bits width bit

module _ (f : ℕ → Bool) where
  abbrev word : List Bool
  word = first_bits 32 f

  high_bits : slice_range word 27 32 ≡ first_bits 5 (λ bit. f (27 + bit))
  high_bits = range_first_bits 32 27 5 f (omega arith) (omega arith)

  low_bits : slice_range word 0 20 ≡ first_bits 20 (λ bit. f (0 + bit))
  low_bits = range_first_bits 32 0 20 f (omega arith) (omega arith)

  low_bit : (frame : ℕ) → frame < 20 → bit_at (slice_range word 0 20) frame ≡ bit_at word frame
  low_bit frame few =
      let same : 0 + frame ≡ frame = omega arith in
      ap (λ bits. bit_at bits frame) low_bits ∙ get_first_bits 20 (λ bit. f (0 + bit)) frame false few ∙ ap f same ∙ sym (get_first_bits 32 f frame false (omega (arith, few)))

  chosen : (strobe same : Bool) (frame : ℕ) → frame < 20 →
      bit_at (cond (strobe && same) (slice_range word 0 20) (digits 20 0)) frame ≡ (strobe && (same && bit_at word frame))
  chosen true true frame few = low_bit frame few
  chosen true false frame few = no_bits 20 frame
  chosen false same frame few = no_bits 20 frame

  named : (x : ℕ) → x < 32 → same_bits (slice_range word 27 32) (digits 5 x) ≡ nat_eq (number (slice_range word 27 32)) x
  named x few = same_at (slice_range word 27 32) 5 x (ap length high_bits ∙ length_first_bits 5 (λ bit. f (27 + bit))) (omega arith)

  pub strobe_value : (names : List ℕ → List Bool) (strobe : Bool) (x frame : ℕ) → names strobe_port ≡ strobe ∷ [] → names address_port ≡ word → x < 32 → frame < 20 →
      bit_at (value names (strobe_expression x)) frame ≡ (strobe && (nat_eq (number (slice_range word 27 32)) x && bit_at word frame))
  strobe_value names strobe x frame strobe_is address_is few_x few =
      rw (strobe_is, address_is)
      (chosen strobe (same_bits (slice_range word 27 32) (digits 5 x)) frame few
      ∙ ap (λ same. strobe && (same && bit_at word frame)) (named x few_x))
