-- The value of an expression that is kept for its bits.
use Rattle.std.proofs.Common.{◌≡◌, ℕ, ◌<◌, Bool, true, false, List, length, map, slice_get, get_or, zero, suc, [], ◌∷◌, Option, Some, sym, ap, ◌∙◌, subst, inl, inr}
use Rattle.std.proofs.lemmas.Bool.{cases_Bool, false≢true}
use Rattle.fab_systems_laws.specs.Ternary.{IsBelow}
use Rattle.fab_systems_laws.proofs.Order.{below_equal, below_trans}
use Rattle.fab_ternary.specs.declared.Tern.{Tern}
use Rattle.fab_ternary.specs.Terns.{plain_tern, is_known}
use Rattle.fab_compiled.proofs.fab_equations_Numbering.{same_value}
use Rattle.fab_compiled.specs.declared.tree.Tree.{Tree}
use Rattle.fab_compiled.specs.Terns.{seen}
use Rattle.fab_compiled.specs.Trees.{IsMade}
use Rattle.fab_compiled.specs.Evaluation.{value_seen, IsWithin}
use Rattle.fab_compiled.specs.Leading.{PointTerns}
use Rattle.fab_compiled.proofs.Written.{whole_bit}
use Rattle.fab_network.specs.declared.network.Source.{Source}
use Rattle.fab_network.specs.declared.sharing.Shared.{Shared}
use Rattle.fab_network.specs.Network.{tern_in, source_tern, IsFitSource}
use Rattle.fab_network.specs.Sharing.{IsKeptBit, IsShared}
use Rattle.fab_network.proofs.Kept.{known_below}
use Rattle.fab_network.proofs.Sources.{source_grows}

-- what is kept stays right where more is known
pub still_shared : (trees : List Tree) (count : ℕ) (t u : PointTerns) → ((point : ℕ) → point < count → IsBelow (t point) (u point)) → (exact : Bool) (source : Source) (kept : Tern) →
    IsKeptBit trees count t exact source kept → IsKeptBit trees count u false source kept
still_shared trees count t u grow exact source kept is = record {
  fit = is.fit;
  below = below_trans (plain_tern kept) (source_tern trees t source) (source_tern trees u source) is.below (source_grows trees count t u grow source is.fit);
  same = λ e. absurd (false≢true e);
}

-- a bit that is kept and right is what its source has
pub kept_right : (trees : List Tree) (count : ℕ) (t : PointTerns) (shared : Shared) (source : Source) (kept : Tern) → shared.tree ≡ source.tree → shared.first ≡ source.first →
    IsShared trees count t shared → slice_get shared.bits.items source.bit ≡ Some kept → (shared.exact ≡ false → is_known (plain_tern kept) ≡ true) →
    plain_tern kept ≡ source_tern trees t source
kept_right trees count t shared source kept same_tree same_first is there known =
    let at = is source.bit kept there in
    let this : Source = record { tree = shared.tree; first = shared.first; bit = source.bit } in
    let same : this ≡ source = (λ j. record { tree = same_tree j; first = same_first j; bit = source.bit }) in
    elim (cases_Bool shared.exact) [
      | inl e ↦ at.same e ∙ ap (source_tern trees t) same
      | inr f ↦ known_below (plain_tern kept) (source_tern trees t this) (known f) at.below ∙ ap (source_tern trees t) same
    ]

-- all bits of an expression, as they are found
pub found_bits : (trees : List Tree) (terns : List Tern) (leads : List ℕ) (source : Source) (tree : Tree) (bits : List Tern) →
    IsFitSource trees (length leads) source → slice_get trees source.tree ≡ Some tree → map plain_tern bits ≡ value_seen terns leads source.first tree →
    (bit : ℕ) (kept : Tern) → slice_get bits bit ≡ Some kept →
    IsKeptBit trees (length leads) (seen terns leads) true (record { tree = source.tree; first = source.first; bit = bit }) kept
found_bits trees terns leads source tree bits fit there is bit kept at =
    let one : fit.tree ≡ tree = same_value (slice_get trees source.tree) fit.tree tree fit.is there in
    let made = subst IsMade one fit.made in
    let here = whole_bit terns leads source.first tree bits made is bit kept at in
    let this : Source = record { tree = source.tree; first = source.first; bit = bit } in
    let value : plain_tern kept ≡ source_tern trees (seen terns leads) this =
    here.1 ∙ sym (ap (λ (o : Option Tree). tern_in o (seen terns leads) source.first bit) there) in
    record {
      fit = record {
        tree = tree;
        is = there;
        made = made;
        within = here.0;
        begins = fit.begins;
        inside = subst (λ (x : Tree). IsWithin x source.first (length leads)) one fit.inside;
      };
      below = below_equal (plain_tern kept) (source_tern trees (seen terns leads) this) value;
      same = λ e. value;
    }

-- what an index reads
pub read_there : {X : Type 0} (xs : List X) (k : ℕ) (x y : X) → slice_get xs k ≡ Some x → y ≡ get_or xs k y → slice_get xs k ≡ Some y
read_there [] k x y is read = cc
read_there (z ∷ xs) zero x y is read = ap Some (sym read)
read_there (z ∷ xs) (suc k) x y is read = read_there xs k x y is read

-- bits that have just been found, under the numbers that are kept
pub found_shared : (trees : List Tree) (terns : List Tern) (leads : List ℕ) (source : Source) (tree : Tree) (number first : ℕ) (bits : List Tern) →
    IsFitSource trees (length leads) source → slice_get trees source.tree ≡ Some tree → map plain_tern bits ≡ value_seen terns leads source.first tree →
    number ≡ source.tree → first ≡ source.first → (bit : ℕ) (kept : Tern) → slice_get bits bit ≡ Some kept →
    IsKeptBit trees (length leads) (seen terns leads) true (record { tree = number; first = first; bit = bit }) kept
found_shared trees terns leads source tree number first bits fit there value same_tree same_first bit kept at =
    let here : Source = record { tree = source.tree; first = source.first; bit = bit } in
    let this : Source = record { tree = number; first = first; bit = bit } in
    let same : here ≡ this = (λ j. record { tree = sym same_tree j; first = sym same_first j; bit = bit }) in
    subst (λ (s : Source). IsKeptBit trees (length leads) (seen terns leads) true s kept) same
    (found_bits trees terns leads source tree bits fit there value bit kept at)
