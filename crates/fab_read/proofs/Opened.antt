-- The files that rows open.
use Rattle.std.proofs.Common.{◌≡◌, ℕ, ◌-◌, Bool, false, not, List, Some, sym, ap, ◌∙◌}
use Rattle.fab_blocks.specs.Reading.{PlainReading, PlainHolder}
use Rattle.fab_blocks.specs.declared.standing.Said.TheVariants as said
use Rattle.fab_read.specs.Rows.{is_open, opened_by}

-- a holder with these fields is the file that the row includes
pub opened_included : (holder : PlainHolder) (next : PlainReading) (file : List ℕ) (kind open_there : Bool) (left : ℕ) → kind ≡ holder.is_fabric → open_there ≡ is_open next kind → left ≡ holder.left
    → opened_by holder next (said.Includes file) ≡ Some (record { file = file; is_fabric = kind; is_own = not open_there; left = left - 1 })
opened_included holder next file kind open_there left kind_is open_is left_is =
    let own : is_open next holder.is_fabric ≡ open_there = ap (is_open next) (sym kind_is) ∙ sym open_is in
    λ j. Some (record { file = file; is_fabric = sym kind_is j; is_own = not (own j); left = sym left_is j - 1 })

-- and with these the file of tiles that it names
pub opened_named : (holder : PlainHolder) (next : PlainReading) (file : List ℕ) (open_there : Bool) (left : ℕ) → open_there ≡ is_open next false → left ≡ holder.left
    → opened_by holder next (said.NamesTiles file) ≡ Some (record { file = file; is_fabric = false; is_own = not open_there; left = left })
opened_named holder next file open_there left open_is left_is = λ j. Some (record { file = file; is_fabric = false; is_own = not (sym open_is j); left = sym left_is j })
