-- The tables once a node's entry is written.
use Rattle.std.proofs.Common.{◌≡◌, ℕ, ◌+◌, ◌<◌, ◌≤◌, Bool, true, false, ◌||◌, nat_eq, if◌then◌else◌, List, length, map, get_or, set, refl, sym, ◌∙◌, ap, inl, inr, arith, length-set, get_or-set_same, get_or-set_other}
use Rattle.std.proofs.lemmas.Bool.{cases_eq, eq-eqb, ne_eqb, or_right}
use Rattle.std.proofs.lemmas.List.{length-map}
use Rattle.fab_astar.specs.declared.tables.Node.{Node}
use Rattle.fab_astar.specs.declared.tables.Tables.{Tables}
use Rattle.fab_astar.specs.State.{State, taken, settled}
use Rattle.fab_astar.specs.Tables.{count_of, state_of, trees, is_held, AreTables, IsKept, IsCharged, IsHeldToo}
use Rattle.fab_astar.proofs.Reading.{same_part, part_written}

abbrev pub state : ℕ → List ℕ → List ℕ → List ℕ → State
state m stamps costs befores = record { mark = m; stamps = stamps; costs = costs; befores = befores }

same_state : (m m' : ℕ) (a a' b b' c c' : List ℕ) → m ≡ m' → a ≡ a' → b ≡ b' → c ≡ c' → state m a b c ≡ state m' a' b' c'
same_state m m' a a' b b' c c' p q r s = λ i. state (p i) (q i) (r i) (s i)

set_read : (xs : List ℕ) (w v x : ℕ) → w < length xs → get_or (set xs w x) v 0 ≡ (if nat_eq w v then x else get_or xs v 0)
set_read xs w v x inside = elim (cases_eq v w) [
  | inl e ↦ rw (e, eq-eqb w w refl) (get_or-set_same xs w x 0 inside)
  | inr n ↦ rw (ne_eqb w v (λ e. n (sym e))) (get_or-set_other xs w v x 0 n)
]

or_false : (x y : Bool) → y ≡ false → (x || y) ≡ x
or_false true y h = refl
or_false false y h = h

module _ (old new : Tables) (w : ℕ) (was now : Node) (at : was ≡ get_or old.nodes.items w was) (is : new.nodes.items ≡ set old.nodes.items w now) where
  pub count_same : count_of new ≡ count_of old
  count_same = ap length is ∙ length-set old.nodes.items w now

  kept_part : (f : Node → ℕ) → f now ≡ f was → map f new.nodes.items ≡ map f old.nodes.items
  kept_part f same = ap (map f) is ∙ same_part f old.nodes.items w was now at same

  new_part : (f : Node → ℕ) → map f new.nodes.items ≡ set (map f old.nodes.items) w (f now)
  new_part f = ap (map f) is ∙ part_written f old.nodes.items w now

  read_part : (f : Node → ℕ) (v : ℕ) → w < count_of old → get_or (map f new.nodes.items) v 0 ≡ (if nat_eq w v then f now else get_or (map f old.nodes.items) v 0)
  read_part f v inside = ap (λ xs. get_or xs v 0) (new_part f) ∙ set_read (map f old.nodes.items) w v (f now) (omega (arith, inside, length-map old.nodes.items f))

  pub written_kept : new.tree_mark ≡ old.tree_mark → now.price ≡ was.price → now.users ≡ was.users → now.tree ≡ was.tree → IsKept old new
  written_kept mark price users tree = record {
    count = count_same;
    price = kept_part (λ (n : Node). n.price) price;
    users = kept_part (λ (n : Node). n.users) users;
    tree = kept_part (λ (n : Node). n.tree) tree;
    mark = mark;
  }

  pub charged : w < count_of old → new.tree_mark ≡ old.tree_mark → now.tree ≡ was.tree → IsCharged old new w now.users now.price
  charged inside mark tree = record {
    count = count_same;
    price_is = λ v. read_part (λ (n : Node). n.price) v inside;
    users_is = λ v. read_part (λ (n : Node). n.users) v inside;
    held = λ v. ap (λ ts. nat_eq (get_or ts v 0) new.tree_mark) (kept_part (λ (n : Node). n.tree) tree) ∙ ap (λ m. nat_eq (get_or (trees old) v 0) m) mark;
  }

  pub held_too : w < count_of old → new.tree_mark ≡ old.tree_mark → now.tree ≡ old.tree_mark → now.price ≡ was.price → now.users ≡ was.users → IsHeldToo old new w
  held_too inside mark tree price users = record {
    count = count_same;
    price = kept_part (λ (n : Node). n.price) price;
    users = kept_part (λ (n : Node). n.users) users;
    held = λ v.
        let here : nat_eq (if nat_eq w v then now.tree else get_or (trees old) v 0) old.tree_mark ≡ (is_held old v || nat_eq w v) = elim (cases_eq v w) [
          | inl e ↦ rw (e, eq-eqb w w refl) (ap (λ t. nat_eq t old.tree_mark) tree ∙ eq-eqb old.tree_mark old.tree_mark refl ∙ sym (or_right (is_held old w) true refl))
          | inr n ↦ rw (ne_eqb w v (λ e. n (sym e))) (sym (or_false (is_held old v) false refl))
        ] in
        ap (λ m. nat_eq (get_or (trees new) v 0) m) mark ∙ ap (λ t. nat_eq t old.tree_mark) (read_part (λ (n : Node). n.tree) v inside) ∙ here;
  }

  pub tables_written : AreTables old → w < count_of old → new.mark ≡ old.mark → new.tree_mark ≡ old.tree_mark → new.queue ≡ old.queue → now.stamp ≡ was.stamp → now.tree ≤ old.tree_mark → AreTables new
  tables_written t inside mark tree_mark queue stamps tree = record {
    shape = record {
      stamps = length-map new.nodes.items (λ (n : Node). n.stamp);
      costs = length-map new.nodes.items (λ (n : Node). n.cost);
      befores = length-map new.nodes.items (λ (n : Node). n.before);
      marked = omega (arith, mark, t.shape.marked);
      small = omega (arith, mark, t.shape.small);
      latest = λ v. omega (arith, mark, t.shape.latest v, ap (λ xs. get_or xs v 0) (kept_part (λ (n : Node). n.stamp) stamps));
    };
    queue = rw queue t.queue;
    held_marked = omega (arith, tree_mark, t.held_marked);
    held_small = omega (arith, tree_mark, t.held_small);
    held_latest = λ v. elim (cases_eq v w) [
      | inl e ↦
          let h = read_part (λ (n : Node). n.tree) w inside in
          let m = rw (eq-eqb w w refl) at h in
          rw e (omega (arith, m, tree, tree_mark))
      | inr n ↦
          let h = read_part (λ (n : Node). n.tree) v inside in
          let m = rw (ne_eqb w v (λ e. n (sym e))) at h in
          omega (arith, m, t.held_latest v, tree_mark)
    ];
  }

  pub taken_state : new.mark ≡ old.mark → now.stamp ≡ old.mark → state_of new ≡ taken (state_of old) w now.cost now.before
  taken_state mark stamps =
      same_state new.mark old.mark _ _ _ _ _ _ mark
      (new_part (λ (n : Node). n.stamp) ∙ ap (λ x. set (map (λ (n : Node). n.stamp) old.nodes.items) w x) stamps)
      (new_part (λ (n : Node). n.cost))
      (new_part (λ (n : Node). n.before))

  pub settled_state : new.mark ≡ old.mark → now.stamp ≡ old.mark + 1 → now.cost ≡ was.cost → now.before ≡ was.before → state_of new ≡ settled (state_of old) w
  settled_state mark stamps cost before =
      same_state new.mark old.mark _ _ _ _ _ _ mark
      (new_part (λ (n : Node). n.stamp) ∙ ap (λ x. set (map (λ (n : Node). n.stamp) old.nodes.items) w x) stamps)
      (kept_part (λ (n : Node). n.cost) cost)
      (kept_part (λ (n : Node). n.before) before)
