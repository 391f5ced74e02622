-- Readers that are noted, and readers that come to be stale.
use Rattle.std.proofs.Common.{◌≡◌, ℕ, ◌+◌, ◌<◌, Bool, true, false, List, ◌++◌, Some, Vec, Global, length, sym, ap, ◌∙◌, subst, inl, inr, arith}
use Rattle.std.proofs.Common.{zero, suc, replicate, slice_get, slice_index, slice_set}
use Rattle.std.proofs.lemmas.Bool.{cases_eq}
use Rattle.std.proofs.lemmas.List.{length-set}
use Rattle.fab_compiled.specs.declared.tree.Tree.{Tree, Const, Bits, Pick', Cat', Not', And', Or', Xor', Equal', Minus', Cond'}
use Rattle.fab_compiled.specs.Trees.{EachPlace}
use Rattle.fab_network.specs.Passes.{IsListed}
use Rattle.fab_demand.proofs.Lists.{get_other, get_same, get_within, index_is, listed_left}
use Rattle.fab_changes.specs.declared.places.Places.{Places}
use Rattle.fab_changes.specs.Fanout.{ArePlaces, IsFresh, IsReader, IsWatched, Lists, ReadsMore, WatchesTree}

-- ---- readers

pub reads_same : (lists : Lists) → ReadsMore lists lists
reads_same lists place reader is = is

pub reads_then : (old mid new : Lists) → ReadsMore old mid → ReadsMore mid new → ReadsMore old new
reads_then old mid new one two place reader is = two place reader (one place reader is)

-- a list that holds a reader stands at a place
pub put_reads : (lists : Lists) (place : ℕ) (readers : Vec ℕ Global) (reader : ℕ) → place < length lists → IsListed readers.items reader →
    IsReader (slice_set lists place readers) place reader
put_reads lists place readers reader l listed = record { readers = readers; there = get_same lists place readers l; listed = listed }

-- a list that holds one more reader stands at a place
pub put_more : (lists : Lists) (place : ℕ) (old readers : Vec ℕ Global) (more : List ℕ) → slice_get lists place ≡ Some old → readers.items ≡ old.items ++ more →
    ReadsMore lists (slice_set lists place readers)
put_more lists place old readers more there longer other reader is =
    elim (cases_eq other place) [
      | inl e ↦ (let both : Some is.readers ≡ Some old = sym is.there ∙ ap (slice_get lists) e ∙ there in
          let same : is.readers ≡ old = cc in
          subst (λ (n : ℕ). IsReader (slice_set lists place readers) n reader) (sym e)
          (put_reads lists place readers reader (get_within lists place old there)
          (subst (λ (xs : List ℕ). IsListed xs reader) (sym longer)
          (listed_left old.items more reader (subst (λ (v : Vec ℕ Global). IsListed v.items reader) same is.listed)))))
      | inr n ↦ record { readers = is.readers; there = get_other lists place readers other n ∙ is.there; listed = is.listed }
    ]

-- ---- places

-- the place that is found for a point that stands for itself
pub place_found : (places : Places) → ArePlaces places → (place point : ℕ) → place < length places.own.now → slice_index places.own.now place ≡ point →
    slice_index places.places.items point ≡ place
place_found places are place point l is =
    subst (λ (n : ℕ). slice_index places.places.items n ≡ place) is
    (index_is places.places.items (slice_index places.own.now place) place (are.found place l))

-- it is the only one
pub one_place : (places : Places) → ArePlaces places → (place other point : ℕ) → place < length places.own.now → other < length places.own.now →
    slice_index places.own.now place ≡ point → slice_index places.own.now other ≡ point → place ≡ other
one_place places are place other point l m is also = sym (place_found places are place point l is) ∙ place_found places are other point m also

-- the point to which a point is led is read at its place
pub watched_at : (places : Places) → ArePlaces places → (lists : Lists) (reader point place : ℕ) → place < length places.own.now →
    slice_index places.own.now place ≡ slice_index places.leads.now point → IsReader lists place reader →
    IsWatched places.own.now places.leads.now lists reader point
watched_at places are lists reader point place l is reads other m also =
    subst (λ (n : ℕ). IsReader lists n reader) (one_place places are place other (slice_index places.leads.now point) l m is also) reads

-- ---- expressions

pub watched_more : (own leads : List ℕ) (old new : Lists) (reader point : ℕ) → ReadsMore old new → IsWatched own leads old reader point →
    IsWatched own leads new reader point
watched_more own leads old new reader point more watched place l is = more place reader (watched place l is)

module _ (One Other : ℕ → Type 0) (turn : (k : ℕ) → One k → Other k) where
  pub each_turned : (tree : Tree) → EachPlace One tree → EachPlace Other tree
  each_turned (Const bits) each = tt
  each_turned (Bits first count) each = λ k l. turn (first + k) (each k l)
  each_turned (Pick' first width p index) each = (λ k l. turn (first + k) (each.0 k l), each_turned index each.1)
  each_turned (Cat' p low width q high) each = (each_turned low each.0, each_turned high each.1)
  each_turned (Not' p e) each = each_turned e each
  each_turned (And' p a q b) each = (each_turned a each.0, each_turned b each.1)
  each_turned (Or' p a q b) each = (each_turned a each.0, each_turned b each.1)
  each_turned (Xor' p a q b) each = (each_turned a each.0, each_turned b each.1)
  each_turned (Equal' width p a q b) each = (each_turned a each.0, each_turned b each.1)
  each_turned (Minus' width p a q b) each = (each_turned a each.0, each_turned b each.1)
  each_turned (Cond' p c q a r b) each = (each_turned c each.0, each_turned a each.1, each_turned b each.2)

pub tree_more : (own leads : List ℕ) (old new : Lists) (reader first : ℕ) (tree : Tree) → ReadsMore old new → WatchesTree own leads old reader first tree →
    WatchesTree own leads new reader first tree
tree_more own leads old new reader first tree more watched =
    each_turned (λ k. IsWatched own leads old reader (first + k)) (λ k. IsWatched own leads new reader (first + k))
    (λ k is. watched_more own leads old new reader (first + k) more is) tree watched

-- ---- stale readers

pub stale_here : (stale : List Bool) (reader : ℕ) → IsFresh (slice_set stale reader true) reader → ⊥
stale_here stale reader fresh =
    let l : reader < length stale = omega (arith, get_within (slice_set stale reader true) reader false fresh, length-set stale reader true) in
    let both : Some true ≡ Some false = sym (get_same stale reader true l) ∙ fresh in
    cc

pub fresh_before : (stale : List Bool) (reader other : ℕ) → IsFresh (slice_set stale reader true) other → IsFresh stale other
fresh_before stale reader other fresh =
    elim (cases_eq other reader) [
      | inl e ↦ absurd (stale_here stale reader (subst (IsFresh (slice_set stale reader true)) e fresh))
      | inr n ↦ sym (get_other stale reader true other n) ∙ fresh
    ]

pub none_fresh : (count reader : ℕ) → IsFresh (replicate count true) reader → ⊥
none_fresh zero reader fresh = cc
none_fresh (suc count) zero fresh = cc
none_fresh (suc count) (suc reader) fresh = none_fresh count reader fresh
