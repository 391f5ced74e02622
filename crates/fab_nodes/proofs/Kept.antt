-- Bits that are kept, and what is known of them.
use Rattle.std.proofs.Common.{◌≡◌, ℕ, zero, suc, ◌<◌, List, [], ◌∷◌, length, map, take, slice_index_or, slice_set, refl, sym, ◌∙◌, subst, arith}
use Rattle.std.proofs.lemmas.List.{length-map}
use Rattle.fab_systems_laws.specs.Ternary.{Tern as PlainTern}
use Rattle.fab_solutions_laws.specs.Laws.{AreUnder}
use Rattle.fab_solutions_laws.specs.fab_ternary_laws_Operators.{tern_at}
use Rattle.fab_solutions_laws.proofs.Orders.{under_length, under_self}
use Rattle.fab_ternary.specs.declared.Tern.{Tern}
use Rattle.fab_ternary.specs.Terns.{plain_tern}
use Rattle.fab_compiled.specs.declared.tree.Tree.{Tree}
use Rattle.fab_compiled.specs.Trees.{tree_value, tree_width, IsMade}
use Rattle.fab_compiled.proofs.Lengths.{value_length}

-- a bit of the first ones
pub kept_at : (bits : List Tern) (width bit : ℕ) (other : Tern) → bit < width → bit < length bits →
    tern_at (take width (map plain_tern bits)) bit ≡ plain_tern (slice_index_or bits bit other)
kept_at [] width bit other within long = absurd (omega (arith, long))
kept_at (b ∷ bits) zero bit other within long = absurd (omega (arith, within))
kept_at (b ∷ bits) (suc width) zero other within long = refl
kept_at (b ∷ bits) (suc width) (suc bit) other within long = kept_at bits width bit other (omega (arith, within)) (omega (arith, long))

-- a list of one bit that is written
pub set_alone : (own : List Tern) (bit : Tern) → length own ≡ 1 → map plain_tern (slice_set own 0 bit) ≡ plain_tern bit ∷ []
set_alone [] bit alone = absurd (omega (arith, alone))
set_alone (b ∷ []) bit alone = refl
set_alone (b ∷ c ∷ own) bit alone = absurd (omega (arith, alone))

pub under_equal : (ts us : List PlainTern) → ts ≡ us → AreUnder ts us
under_equal ts us e = subst (AreUnder ts) e (under_self ts)

-- bits of which the value of an expression knows no less are as many as it has
pub under_wide : (at : ℕ → PlainTern) (tree : Tree) (bits : List Tern) → IsMade tree → AreUnder (map plain_tern bits) (tree_value at tree) → length bits ≡ tree_width tree
under_wide at tree bits made h = sym (length-map bits plain_tern) ∙ under_length (map plain_tern bits) (tree_value at tree) h ∙ value_length at tree made
