-- What enables are while points change that they read, or while one of them is found to be 0.
use Rattle.std.proofs.Common.{◌≡◌, ℕ, zero, suc, ◌+◌, ◌<◌, false, List, [], ◌∷◌, length, Option, None, Some, refl, sym, ap, ◌∙◌, subst, inl, inr, slice_set}
use Rattle.std.specs.List.{slice_get}
use Rattle.std.specs.Prelude.{Bool, true, replicate}
use Rattle.std.proofs.lemmas.Bool.{cases_eq}
use Rattle.fab_systems_laws.specs.Ternary.{no, yes, Tern as PlainTern}
use Rattle.fab_ternary_laws.specs.Operators.{tern_at}
use Rattle.fab_compiled.specs.declared.tree.Tree.{Tree, Const, Bits, Pick', Cat', Not', And', Or', Xor', Equal', Minus', Cond'}
use Rattle.fab_compiled.specs.Leading.{PointTerns}
use Rattle.fab_compiled.specs.Terns.{seen}
use Rattle.fab_compiled.specs.Trees.{tree_value, EachPlace}
use Rattle.fab_compiled.proofs.TreesGrow.{tree_same}
use Rattle.fab_network.specs.declared.network.Network.{Network}
use Rattle.fab_network.specs.Network.{tern_in}
use Rattle.fab_demand.specs.Asked.{Asked, DiffersInOwn}
use Rattle.fab_changes.specs.declared.fanout.Fanout.{Fanout}
use Rattle.fab_changes.specs.Changes.{HasKept}
use Rattle.fab_changes.specs.Fanout.{IsFresh, IsWatched, Lists, ReadsMore, WatchesTree}
use Rattle.fab_phases.specs.Lists.{Each}
use Rattle.fab_phases.specs.inner.Enables.{enable_tern, test_tern, AreEnables, AreNewlyWatched, AreWatched, IsFitEnable, Watches, WatchesTest, WatchesWhole}
use Rattle.fab_phases.specs.declared.enables.Enable.{Enable}
use Rattle.fab_phases.specs.declared.enables.Enable.TheVariants.{Always, Gate, Test}
use Rattle.fab_phases.proofs.Gathered.{below}

pub yes≢no : yes ≡ no → ⊥
yes≢no e = cc

abbrev pub no_enable : Enable
no_enable = Always

-- ---- what is watched stays watched

each_place : (P Q : ℕ → Type 0) → ((k : ℕ) → P k → Q k) → (tree : Tree) → EachPlace P tree → EachPlace Q tree
each_place P Q more (Const bits) each = tt
each_place P Q more (Bits first count) each = λ k less. more (first + k) (each k less)
each_place P Q more (Pick' first width p index) each = (λ k less. more (first + k) (each.0 k less), each_place P Q more index each.1)
each_place P Q more (Cat' p low width q high) each = (each_place P Q more low each.0, each_place P Q more high each.1)
each_place P Q more (Not' p e) each = each_place P Q more e each
each_place P Q more (And' p a q b) each = (each_place P Q more a each.0, each_place P Q more b each.1)
each_place P Q more (Or' p a q b) each = (each_place P Q more a each.0, each_place P Q more b each.1)
each_place P Q more (Xor' p a q b) each = (each_place P Q more a each.0, each_place P Q more b each.1)
each_place P Q more (Equal' width p a q b) each = (each_place P Q more a each.0, each_place P Q more b each.1)
each_place P Q more (Minus' width p a q b) each = (each_place P Q more a each.0, each_place P Q more b each.1)
each_place P Q more (Cond' p c q a r b) each = (each_place P Q more c each.0, each_place P Q more a each.1, each_place P Q more b each.2)

module _ (own leads : List ℕ) (old new : Lists) (more : ReadsMore old new) (number : ℕ) where
  tree_more : (first : ℕ) (tree : Tree) → WatchesTree own leads old number first tree → WatchesTree own leads new number first tree
  tree_more first tree each =
      each_place (λ place. IsWatched own leads old number (first + place)) (λ place. IsWatched own leads new number (first + place))
      (λ k watched place less led. more place number (watched place less led)) tree each

  test_more : (first : ℕ) (tree : Option Tree) → WatchesTest own leads old number first tree → WatchesTest own leads new number first tree
  test_more first None each = tt
  test_more first (Some (Cond' p c q a r b)) each = tree_more first c each
  test_more first (Some tree) each = tt

  whole_more : (first : ℕ) (tree : Option Tree) → WatchesWhole own leads old number first tree → WatchesWhole own leads new number first tree
  whole_more first None each = tt
  whole_more first (Some tree) each = tree_more first tree each

  pub watches_more : (network : Network) (enable : Enable) → Watches network own leads old number enable → Watches network own leads new number enable
  watches_more network Always each = tt
  watches_more network (Test source) each = test_more source.first (slice_get network.trees.items source.tree) each
  watches_more network (Gate source) each = whole_more source.first (slice_get network.trees.items source.tree) each

-- one enable more
pub watched_more : (network : Network) (own leads : List ℕ) (enables : List Enable) (old new : Lists) (count : ℕ) (here : Enable) → slice_get enables count ≡ Some here →
    ReadsMore old new → Watches network own leads new count here →
    ((number : ℕ) (enable : Enable) → number < count → slice_get enables number ≡ Some enable → Watches network own leads old number enable) →
    (number : ℕ) (enable : Enable) → number < count + 1 → slice_get enables number ≡ Some enable → Watches network own leads new number enable
watched_more network own leads enables old new count here at more watched before number enable less e =
    elim (below count number less) [
      | inl l ↦ watches_more own leads old new more number network enable (before number enable l e)
      | inr same ↦
          let both : Some here ≡ Some enable = sym at ∙ ap (slice_get enables) (sym same) ∙ e in
          let is : here ≡ enable = cc in
          subst (Watches network own leads new number) is (subst (λ (n : ℕ). Watches network own leads new n here) (sym same) watched)
    ]

-- ---- what is the same where all that is watched is

module _ (own leads : List ℕ) (lists : Lists) (number : ℕ) (t u : PointTerns) (same : (point : ℕ) → IsWatched own leads lists number point → t point ≡ u point) where
  tree_kept : (first : ℕ) (tree : Tree) → WatchesTree own leads lists number first tree →
      tree_value (λ place. t (first + place)) tree ≡ tree_value (λ place. u (first + place)) tree
  tree_kept first tree each =
      tree_same (λ place. IsWatched own leads lists number (first + place)) (λ place. t (first + place)) (λ place. u (first + place))
      (λ k watched. same (first + k) watched) tree each

  test_kept : (first : ℕ) (tree : Option Tree) → WatchesTest own leads lists number first tree → test_tern tree t first ≡ test_tern tree u first
  test_kept first None each = refl
  test_kept first (Some (Cond' p c q a r b)) each = ap (λ (ts : List PlainTern). tern_at ts 0) (tree_kept first c each)
  test_kept first (Some tree) each = refl

  whole_kept : (first bit : ℕ) (tree : Option Tree) → WatchesWhole own leads lists number first tree → tern_in tree t first bit ≡ tern_in tree u first bit
  whole_kept first bit None each = refl
  whole_kept first bit (Some tree) each = ap (λ (ts : List PlainTern). tern_at ts bit) (tree_kept first tree each)

  pub enable_kept : (network : Network) (enable : Enable) → Watches network own leads lists number enable →
      enable_tern network.trees.items t enable ≡ enable_tern network.trees.items u enable
  enable_kept network Always each = refl
  enable_kept network (Test source) each = test_kept source.first (slice_get network.trees.items source.tree) each
  enable_kept network (Gate source) each = whole_kept source.first source.bit (slice_get network.trees.items source.tree) each

-- ---- enables of which points have changed

pub enables_settled : (network : Network) (old new : Asked) (enables : List Enable) (before after : Fanout) → DiffersInOwn old new →
    after.readers.items ≡ before.readers.items → length after.stale ≡ length before.stale →
    ((reader : ℕ) → IsFresh after.stale reader → HasKept old new before reader) → AreEnables network old enables before → AreEnables network new enables after
enables_settled network old new enables before after differs same long kept are = record {
  fit = are.fit;
  long = long ∙ are.long;
  watched = λ number enable at.
      subst (λ (lists : Lists). Watches network new.own new.leads lists number enable) (sym same)
      (subst (λ (own : List ℕ). Watches network own new.leads before.readers.items number enable) (sym differs.own)
      (subst (λ (leads : List ℕ). Watches network old.own leads before.readers.items number enable) (sym differs.leads) (are.watched number enable at)));
  closed = λ number enable at fresh.
      let has = kept number fresh in
      enable_kept old.own old.leads before.readers.items number (seen new.terns new.leads) (seen old.terns old.leads) has.same network enable (are.watched number enable at)
      ∙ are.closed number enable at has.fresh;
}

-- ---- an enable that is found to be 0

other_get : {X : Type 0} (xs : List X) (place : ℕ) (x : X) (other : ℕ) → (other ≡ place → ⊥) → slice_get (slice_set xs place x) other ≡ slice_get xs other
other_get [] place x other apart = refl
other_get (y ∷ xs) zero x zero apart = absurd (apart refl)
other_get (y ∷ xs) zero x (suc other) apart = refl
other_get (y ∷ xs) (suc place) x zero apart = refl
other_get (y ∷ xs) (suc place) x (suc other) apart = other_get xs place x other (λ e. apart (ap suc e))

set_long : {X : Type 0} (xs : List X) (place : ℕ) (x : X) → length (slice_set xs place x) ≡ length xs
set_long [] place x = refl
set_long (y ∷ xs) zero x = refl
set_long (y ∷ xs) (suc place) x = ap suc (set_long xs place x)

pub enables_fresh : (network : Network) (demand : Asked) (enables : List Enable) (before after : Fanout) (number : ℕ) (enable : Enable) →
    slice_get enables number ≡ Some enable → enable_tern network.trees.items (seen demand.terns demand.leads) enable ≡ no →
    after.readers.items ≡ before.readers.items → after.stale ≡ slice_set before.stale number false →
    AreEnables network demand enables before → AreEnables network demand enables after
enables_fresh network demand enables before after number enable at zero_now same stale are = record {
  fit = are.fit;
  long = ap length stale ∙ set_long before.stale number false ∙ are.long;
  watched = subst (AreWatched network demand.own demand.leads enables) (sym same) are.watched;
  closed = λ k other there fresh.
      elim (cases_eq k number) [
        | inl e ↦
            let both : Some enable ≡ Some other = sym at ∙ ap (slice_get enables) (sym e) ∙ there in
            let is : enable ≡ other = cc in
            subst (λ (found : Enable). enable_tern network.trees.items (seen demand.terns demand.leads) found ≡ no) is zero_now
        | inr apart ↦
            are.closed k other there
            (sym (other_get before.stale number false k apart) ∙ ap (λ (stales : List Bool). slice_get stales k) (sym stale) ∙ fresh)
      ];
}

-- ---- at first

all_stale : (count k : ℕ) → slice_get (replicate count true) k ≡ Some false → ⊥
all_stale zero k e = cc
all_stale (suc count) zero e = cc
all_stale (suc count) (suc k) e = all_stale count k e

pub newly_stale : (watches : Fanout) (count : ℕ) → watches.stale ≡ replicate count true → (number : ℕ) → IsFresh watches.stale number → ⊥
newly_stale watches count stale number fresh = all_stale count number (ap (λ (stales : List Bool). slice_get stales number) (sym stale) ∙ fresh)

pub enables_new : (network : Network) (demand : Asked) (enables : List Enable) (watches : Fanout) (own leads : List ℕ) → own ≡ demand.own → leads ≡ demand.leads →
    Each enables (IsFitEnable network) → AreNewlyWatched network own leads enables watches → AreEnables network demand enables watches
enables_new network demand enables watches own leads same_own same_leads fit new = record {
  fit = fit;
  long = new.long;
  watched = subst (λ (os : List ℕ). AreWatched network os demand.leads enables watches.readers.items) same_own
      (subst (λ (ls : List ℕ). AreWatched network own ls enables watches.readers.items) same_leads new.watched);
  closed = λ number enable at fresh. absurd (new.stale number fresh);
}
