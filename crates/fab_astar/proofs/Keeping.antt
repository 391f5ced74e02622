-- What a search leaves as it was, and what that means for what is read of the tables.
use Rattle.std.proofs.Common.{◌≡◌, ℕ, nat_eq, if◌then◌else◌, List, get_or, Option, Some, None, refl, ◌∙◌, ap, arith}
use Rattle.std.specs.Option.{IfSome, IfNone}
use Rattle.fab_astar.specs.declared.tables.Tables.{Tables}
use Rattle.fab_astar.specs.declared.queue.Queue.{Queue}
use Rattle.fab_astar.specs.Queue.{IsQueue}
use Rattle.fab_astar.specs.Walks.{Graph, has}
use Rattle.fab_astar.specs.Scene.{toll, scene_of}
use Rattle.fab_astar.specs.State.{IsShaped}
use Rattle.fab_astar.specs.Tables.{state_of, count_of, price_of, prices, trees, is_held, AreTables, IsKept}

pub kept_same : (t : Tables) → IsKept t t
kept_same t = record { count = refl; price = refl; users = refl; tree = refl; mark = refl }

pub kept_on : (s t u : Tables) → IsKept s t → IsKept t u → IsKept s u
kept_on s t u g h = record { count = h.count ∙ g.count; price = h.price ∙ g.price; users = h.users ∙ g.users; tree = h.tree ∙ g.tree; mark = h.mark ∙ g.mark }

-- what waits is none of it
pub kept_requeued : (s t : Tables) (q : Queue) → IsKept s t → IsKept s (record t { queue = q })
kept_requeued s t q h = record { count = h.count; price = h.price; users = h.users; tree = h.tree; mark = h.mark }

pub held_kept : (old new : Tables) → IsKept old new → (w : ℕ) → is_held new w ≡ is_held old w
held_kept old new h w = ap (λ ts. nat_eq (get_or ts w 0) new.tree_mark) h.tree ∙ ap (λ m. nat_eq (get_or (trees old) w 0) m) h.mark

pub price_kept : (old new : Tables) → IsKept old new → (w : ℕ) → price_of new w ≡ price_of old w
price_kept old new h w = ap (λ ps. get_or ps w 0) h.price

-- the tables are in order again
pub tables_again : (old new : Tables) → IsKept old new → AreTables old → IsShaped (count_of old) (state_of new) → IsQueue new.queue → AreTables new
tables_again old new h t shape queue = record {
  shape = rw h.count shape;
  queue = queue;
  held_marked = omega (arith, h.mark, t.held_marked);
  held_small = omega (arith, h.mark, t.held_small);
  held_latest = λ w. omega (arith, t.held_latest w, h.mark, ap (λ ts. get_or ts w 0) h.tree);
}

-- what a walk pays to begin, as the tables tell it
pub toll_is : (graph : Graph) (rest : ℕ → ℕ → ℕ) (guide : Option ℕ) (tree : List ℕ) (old new : Tables) (w price : ℕ) → IsKept old new → ((node : ℕ) → is_held old node ≡ has tree node) → price ≡ (if is_held new w then 0 else price_of new w) → price ≡ toll (scene_of graph rest guide tree (prices old)) w
toll_is graph rest guide tree old new w price kept held e =
    e ∙ ap (λ b. if b then 0 else price_of new w) (held_kept old new kept w ∙ held w) ∙ ap (λ p. if has tree w then 0 else p) (price_kept old new kept w)

pub if_some : (o : Option ℕ) (P : ℕ → Type 0) → ((x : ℕ) → o ≡ Some x → P x) → IfSome o P
if_some None P h = tt
if_some (Some x) P h = h x refl

pub if_none : (o : Option ℕ) (P : Type 0) → (o ≡ None → P) → IfNone o P
if_none None P h = h refl
if_none (Some x) P h = tt
