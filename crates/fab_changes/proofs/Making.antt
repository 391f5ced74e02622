-- Places, groups and their readers, as they are made.
use Rattle.std.proofs.Common.{◌≡◌, ℕ, ◌+◌, ◌<◌, ◌≤◌, List, Some, Vec, Global, length, refl, sym, ap, ◌∙◌, subst, inl, inr, arith, slice_get}
use Rattle.std.proofs.Common.{slice_index, slice_set}
use Rattle.std.proofs.lemmas.Bool.{cases_eq}
use Rattle.fab_compiled.specs.declared.tree.Tree.{Tree}
use Rattle.fab_compiled.specs.Evaluation.{IsWithin}
use Rattle.fab_compiled.specs.Trees.{IsMade}
use Rattle.fab_network.specs.declared.network.Drive.TheVariants.{Value}
use Rattle.fab_network.specs.declared.network.Network.{Network}
use Rattle.fab_network.specs.Network.{AreFit}
use Rattle.fab_network.specs.Passes.{AreOwn, IsListed}
use Rattle.fab_demand.specs.Asked.{Asked}
use Rattle.fab_demand.proofs.Lists.{get_other, get_same, get_within}
use Rattle.fab_changes.specs.declared.changes.Changes.{Changes}
use Rattle.fab_changes.specs.declared.groups.Group.{Group}
use Rattle.fab_changes.specs.Changes.{AreChangesOf, AreWaiting}
use Rattle.fab_changes.specs.Fanout.{IsOnce, Lists, ReadsMore, WatchesTree}
use Rattle.fab_changes.specs.inner.Grouping.{AreBitGroups, ArePlacedBy, AreTaken, AreWatched, BeginBehind, IsFanoutOf, IsOrderedAt}
use Rattle.fab_changes.specs.inner.Looking.{HasRoom}
use Rattle.fab_changes.proofs.Right.{groups_by}
use Rattle.fab_changes.proofs.Noted.{waiting_made}
use Rattle.fab_changes.proofs.Noting.{tree_more}

-- ---- places

-- the place of one more point
pub found_more : (own places : List ℕ) (place : ℕ) → IsOnce own → place < length own → slice_index own place < length places →
    ((k : ℕ) → k < place → slice_get places (slice_index own k) ≡ Some k) → (k : ℕ) → k < place + 1 →
    slice_get (slice_set places (slice_index own place) place) (slice_index own k) ≡ Some k
found_more own places place once l inside before k m =
    elim (cases_eq k place) [
      | inl e ↦ subst (λ (n : ℕ). slice_get (slice_set places (slice_index own place) place) (slice_index own n) ≡ Some n) (sym e)
          (get_same places (slice_index own place) place inside)
      | inr n ↦ (let early : k < place = omega (arith, m, n) in
          get_other places (slice_index own place) place (slice_index own k) (once k place early l) ∙ before k early)
    ]

-- ---- readers begin behind the places that they read

pub behind_all : (place : ℕ) (readers : List ℕ) (groups : List Group) →
    ((k : ℕ) (group : Group) → k < length readers → slice_get groups (slice_index readers k) ≡ Some group → place < group.begin) →
    BeginBehind place readers groups
behind_all place readers groups each number group (k, l, is) there =
    each k group l (subst (λ (n : ℕ). slice_get groups n ≡ Some group) (sym is) there)

pub ordered_by : (network : Network) (own : List ℕ) (lists : Lists) (groups : List Group) (place : ℕ) (readers : Vec ℕ Global) →
    slice_get lists place ≡ Some readers → BeginBehind place readers.items groups → IsOrderedAt network own lists groups place
ordered_by network own lists groups place readers there behind number group is_there reads =
    let both : Some reads.readers ≡ Some readers = sym reads.there ∙ there in
    let same : reads.readers ≡ readers = cc in
    inr (behind number group (subst (λ (v : Vec ℕ Global). IsListed v.items number) same reads.listed) is_there)

-- ---- groups watch what they read

pub watched_one : (network : Network) (own leads : List ℕ) (old new : Lists) (count : ℕ) (groups : List Group) (group : Group) (tree : Tree) →
    slice_get groups count ≡ Some group →
    slice_get network.trees.items group.source.tree ≡ Some tree → ReadsMore old new → WatchesTree own leads new count group.source.first tree →
    AreWatched network own leads old count groups → AreWatched network own leads new (count + 1) groups
watched_one network own leads old new count groups group tree there is more watched before number other its l also tree_is =
    elim (cases_eq number count) [
      | inl e ↦ (let both : Some other ≡ Some group = sym also ∙ ap (slice_get groups) e ∙ there in
          let same : other ≡ group = cc in
          let trees : Some its ≡ Some tree = sym tree_is ∙ ap (λ (g : Group). slice_get network.trees.items g.source.tree) same ∙ is in
          let one : its ≡ tree = cc in
          subst (λ (n : ℕ). WatchesTree own leads new n other.source.first its) (sym e)
          (subst (λ (g : Group). WatchesTree own leads new count g.source.first its) (sym same)
          (subst (WatchesTree own leads new count group.source.first) (sym one) watched)))
      | inr n ↦ tree_more own leads old new number other.source.first its more (before number other its (omega (arith, l, n)) also tree_is)
    ]

-- the tree of a group and its first point are those of its first bit
pub record FitsGroup (network : Network) (group : Group) (tree : Tree) : Type 0 where
  pub made : IsMade tree
  pub begins : group.source.first ≤ length network.drives.items
  pub inside : IsWithin tree group.source.first (length network.drives.items)

pub group_fits : (network : Network) (own : List ℕ) (count : ℕ) (groups : List Group) → AreFit network.trees.items network.drives.items →
    AreBitGroups network own count groups → (number : ℕ) (group : Group) → slice_get groups number ≡ Some group →
    (tree : Tree) → slice_get network.trees.items group.source.tree ≡ Some tree → FitsGroup network group tree
group_fits network own count groups fit are number group there tree is =
    let filled : group.begin < group.end = are.filled number group there in
    let bit = are.bits number group there group.begin (record { low = omega arith; below = filled }) in
    let fits = fit (slice_index own group.begin) (Value bit.source) bit.drive in
    let both : Some fits.tree ≡ Some tree = sym fits.is ∙ ap (slice_get network.trees.items) bit.tree ∙ is in
    let same : fits.tree ≡ tree = cc in
    record {
      made = subst IsMade same fits.made;
      begins = omega (arith, fits.begins, bit.first);
      inside = subst (λ (t : Tree). IsWithin t group.source.first (length network.drives.items)) same
          (subst (λ (n : ℕ). IsWithin fits.tree n (length network.drives.items)) bit.first fits.inside);
    }

-- ---- all together

pub changes_made : (network : Network) (own leads : List ℕ) (changes : Changes) → AreOwn own leads → IsOnce own →
    AreTaken network own (length own) changes.taken.items → AreBitGroups network own (length own) changes.groups.items →
    ArePlacedBy own changes.taken.items (length changes.taken.items) changes.places.items → length changes.waiting.items ≡ 0 →
    IsFanoutOf network own leads changes.groups.items changes.fanout → HasRoom changes.groups.items changes.found.items →
    ((place : ℕ) → place < length own → IsOrderedAt network own changes.fanout.readers.items changes.groups.items place) →
    (asked : Asked) → asked.own ≡ own → asked.leads ≡ leads → AreChangesOf network asked changes
changes_made network own leads changes are_own once taken bits placed none fanout room ordered asked same_own same_leads = record {
  groups = groups_by network own asked.own leads asked.leads changes.fanout.readers.items changes.fanout.readers.items changes.taken.items changes.taken.items
      changes.groups.items changes.groups.items same_own same_leads refl refl refl
      (record {
        unled = are_own;
        once = once;
        takes = taken.takes;
        all = λ place l. elim (bits.all place l) [ inl takes ↦ inl (taken.all place l takes) | inr grouped ↦ inr grouped ];
        each = λ number group there. record {
          ends = bits.ends number group there;
          bits = bits.bits number group there;
          watched = λ tree is. fanout.watched number group tree (get_within changes.groups.items number group there) there is;
        };
        rises = bits.rises;
        ordered = λ number group there place l reads. ordered place l number group there reads;
      });
  waiting = subst (λ (xs : List ℕ). AreWaiting xs changes) (sym same_own) (waiting_made own changes placed none);
  long = fanout.long;
  room = room;
  right = λ number group there fresh. absurd (fanout.stale number fresh);
}
