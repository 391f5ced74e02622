-- What a group reads has what it had, and so the group is still right.
use Rattle.std.proofs.Common.{◌≡◌, ℕ, ◌+◌, List, Option, Some, length, sym, ap, ◌∙◌, subst, get_or, slice_get, slice_index}
use Rattle.fab_systems_laws.specs.Ternary.{no}
use Rattle.fab_systems_laws.specs.Ternary.{Tern as PlainTern}
use Rattle.fab_compiled.specs.declared.tree.Tree.{Tree}
use Rattle.fab_compiled.specs.Leading.{PointTerns}
use Rattle.fab_compiled.specs.Terns.{seen}
use Rattle.fab_compiled.specs.Trees.{EachPlace}
use Rattle.fab_compiled.proofs.TreesGrow.{tree_same}
use Rattle.fab_network.specs.declared.network.Drive.{Drive}
use Rattle.fab_network.specs.declared.network.Drive.TheVariants.{Value}
use Rattle.fab_network.specs.declared.network.Network.{Network}
use Rattle.fab_network.specs.declared.network.Source.{Source}
use Rattle.fab_network.specs.Network.{source_tern, tern_in, AreFit, IsFitSource}
use Rattle.fab_network.specs.Passes.{kept_tern}
use Rattle.fab_demand.specs.Asked.{Asked}
use Rattle.fab_changes.specs.declared.groups.Group.{Group}
use Rattle.fab_changes.specs.Changes.{drive_at, IsGroup, IsInGroup, IsRightGroup}
use Rattle.fab_changes.specs.Fanout.{HasReader, IsWatched, Lists}
use Rattle.fab_changes.specs.inner.Looking.{AreSamePoints}

-- A source has the same where all that it reads has the same.
pub source_kept : (trees : List Tree) (Has : ℕ → Type 0) (t u : PointTerns) (source : Source) (tree : Tree) →
    slice_get trees source.tree ≡ Some tree → EachPlace Has tree →
    ((place : ℕ) → Has place → t (source.first + place) ≡ u (source.first + place)) → source_tern trees t source ≡ source_tern trees u source
source_kept trees Has t u source tree there reads same =
    ap (λ (o : Option Tree). tern_in o t source.first source.bit) there
    ∙ ap (λ (ts : List PlainTern). get_or ts source.bit no)
    (tree_same Has (λ place. t (source.first + place)) (λ place. u (source.first + place)) same tree reads)
    ∙ sym (ap (λ (o : Option Tree). tern_in o u source.first source.bit) there)

-- a drive that is a value
pub same_source : (drive : Option Drive) (one other : Source) → drive ≡ Some (Value one) → drive ≡ Some (Value other) → one ≡ other
same_source drive one other e f = let both : Some (Value one) ≡ Some (Value other) = sym e ∙ f in cc

module _ (network : Network) (old new : Asked) (lists : Lists) (number : ℕ) (group : Group) (fit : AreFit network.trees.items network.drives.items)
    (is : IsGroup network old.own old.leads lists number group) (points : AreSamePoints old new) where
  -- all that a group reads has what it had
  abbrev pub StaysRead : Type 0
  StaysRead = (point : ℕ) → HasReader old.own lists number point → kept_tern new.terns point ≡ kept_tern old.terns point

  pub drive_before : (place : ℕ) (source : Source) → drive_at network new.own place ≡ Some (Value source) → drive_at network old.own place ≡ Some (Value source)
  drive_before place source drive = ap (λ (own : List ℕ). drive_at network own place) (sym points.own) ∙ drive

  -- a bit of the expression has what it had
  pub source_stays : (place : ℕ) → IsInGroup group place → (source : Source) → drive_at network old.own place ≡ Some (Value source) → StaysRead →
      source_tern network.trees.items (seen old.terns old.leads) source ≡ source_tern network.trees.items (seen new.terns old.leads) source
  source_stays place inside source drive stays =
      let bit = is.bits place inside in
      let same : source ≡ bit.source = same_source (drive_at network old.own place) source bit.source drive bit.drive in
      let fits : IsFitSource network.trees.items (length network.drives.items) source = fit (slice_index old.own place) (Value source) drive in
      let tree : source.tree ≡ group.source.tree = ap (λ (s : Source). s.tree) same ∙ bit.tree in
      let first : group.source.first ≡ source.first = sym (ap (λ (s : Source). s.first) same ∙ bit.first) in
      let there : slice_get network.trees.items group.source.tree ≡ Some fits.tree = ap (slice_get network.trees.items) (sym tree) ∙ fits.is in
      source_kept network.trees.items (λ k. IsWatched old.own old.leads lists number (source.first + k)) (seen old.terns old.leads)
      (seen new.terns old.leads) source fits.tree fits.is
      (subst (λ (n : ℕ). EachPlace (λ k. IsWatched old.own old.leads lists number (n + k)) fits.tree) first (is.watched fits.tree there))
      (λ k reads. sym (stays (slice_index old.leads (source.first + k)) reads))

  -- a bit that has what its expression had has what its expression has
  pub right_at : (place : ℕ) → IsInGroup group place → (source : Source) → drive_at network new.own place ≡ Some (Value source) → StaysRead →
      kept_tern new.terns (slice_index old.own place) ≡ source_tern network.trees.items (seen old.terns old.leads) source →
      kept_tern new.terns (slice_index new.own place) ≡ source_tern network.trees.items (seen new.terns new.leads) source
  right_at place inside source drive stays has =
      ap (λ (own : List ℕ). kept_tern new.terns (slice_index own place)) points.own ∙ has
      ∙ source_stays place inside source (drive_before place source drive) stays
      ∙ ap (λ (leads : List ℕ). source_tern network.trees.items (seen new.terns leads) source) (sym points.leads)

  -- a group that was right is right
  pub right_stays : IsRightGroup network old group → ((place : ℕ) → IsInGroup group place → StaysRead) →
      ((place : ℕ) → IsInGroup group place → kept_tern new.terns (slice_index old.own place) ≡ kept_tern old.terns (slice_index old.own place)) →
      IsRightGroup network new group
  right_stays right stays same place inside source drive =
      right_at place inside source drive (stays place inside) (same place inside ∙ right place inside source (drive_before place source drive))
