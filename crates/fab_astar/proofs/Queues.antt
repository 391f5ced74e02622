-- An entry is added to a queue, and one taken out.
use Rattle.std.proofs.Common.{◌≡◌, ℕ, ◌+◌, ◌/◌, ◌<◌, ◌≤◌, List, [], ◌∷◌, length, get_or, min, max, sum_by, refl, sym, ◌∙◌, ap, inl, inr, arith}
use Rattle.std.proofs.lemmas.Bool.{cases_lt, cases_eq}
use Rattle.std.specs.BTreeSet.{insert_key}
use Rattle.std.specs.BTreeMap.Range.{IsLtBy}
use Rattle.std.specs.List.{All}
use Rattle.fab_astar.specs.declared.queue.Queue.{Queue}
use Rattle.fab_astar.specs.Queue.{near, IsNear, Waits, size, IsQueue, IsEmpty, IsPushed, IsPopped}
use Rattle.fab_astar.proofs.Far.{pair_cmp, IsFar-kept, IsFar-here, IsFar-cases, above_all}
use Rattle.fab_astar.proofs.Near.{elsewhere, near_here, near_kept, near_cases, longer, as_many, none_there, IsLonger}

-- ---- an entry of a greater key

pub far_queue : (old new : Queue) (key node : ℕ) → IsQueue old → 8192 ≤ key → near new ≡ near old → new.now ≡ old.now → new.top ≡ old.top → new.far.keys ≡ insert_key pair_cmp old.far.keys (key, node) → IsQueue new
far_queue old new key node q far n now top keys = record {
  many = ap length n ∙ q.many;
  below = λ k l. ap (λ zs. get_or zs k []) n ∙ q.below k (omega arith);
  above = λ k l. ap (λ zs. get_or zs k []) n ∙ q.above k (omega arith);
  top_in = omega (arith, q.top_in);
  apart = λ k v h. elim (IsFar-cases old.far.keys (key, node) k v (rw keys at h)) [ inl e ↦ omega (arith, e.0) | inr o ↦ q.apart k v o ];
}

pub far_pushed : (old new : Queue) (key node : ℕ) → near new ≡ near old → new.far.keys ≡ insert_key pair_cmp old.far.keys (key, node) → IsPushed old new key node
far_pushed old new key node n keys = record {
  here = inr (rw keys (IsFar-here old.far.keys (key, node)));
  kept = λ k v w. elim w [ inl a ↦ inl (rw n a) | inr b ↦ inr (rw keys (IsFar-kept old.far.keys (key, node) k v b)) ];
  cases = λ k v w. elim w [
    | inl a ↦ inr (inl (rw n at a))
    | inr b ↦ elim (IsFar-cases old.far.keys (key, node) k v (rw keys at b)) [ inl e ↦ inl e | inr o ↦ inr (inr o) ]
  ];
}

-- ---- an entry of a bucket

pub near_queue : (old new : Queue) (at node : ℕ) → IsQueue old → IsLonger (near old) (near new) at node → new.now ≡ min old.now at → new.top ≡ max old.top (at + 1) → new.far.keys ≡ old.far.keys → IsQueue new
near_queue old new at node q more now top keys = record {
  many = as_many (near old) (near new) at node more.inside more.is ∙ q.many;
  below = λ k l. elsewhere (near old) (near new) at node more.inside more.is k (omega arith) ∙ q.below k (omega arith);
  above = λ k l. elsewhere (near old) (near new) at node more.inside more.is k (omega arith) ∙ q.above k (omega arith);
  top_in = omega (arith, q.top_in, more.inside, q.many);
  apart = λ k v h. q.apart k v (rw keys at h);
}

pub near_pushed : (old new : Queue) (at key node : ℕ) → IsLonger (near old) (near new) at node → key ≡ at / 8 → new.far.keys ≡ old.far.keys → IsPushed old new key node
near_pushed old new at key node more is keys = record {
  here = rw is (inl (near_here (near old) (near new) at node more.inside more.is));
  kept = λ k v w. elim w [ inl a ↦ inl (near_kept (near old) (near new) at node more.inside more.is k v a) | inr b ↦ inr (rw keys b) ];
  cases = λ k v w. elim w [
    | inl a ↦ elim (near_cases (near old) (near new) at node more.inside more.is k v a) [ inl e ↦ inl (e.0 ∙ sym is, e.1) | inr o ↦ inr (inl o) ]
    | inr b ↦ inr (inr (rw keys at b))
  ];
}

-- ---- an entry is taken out

pub near_popped : (old new : Queue) (at node : ℕ) → IsQueue old → old.now ≡ at → at < old.top → IsLonger (near new) (near old) at node → new.far.keys ≡ old.far.keys → IsPopped old new (at / 8) node
near_popped old new at node q now more less keys =
    let l : at < 65536 = omega (arith, q.top_in) in
    record {
      first = inl (near_here (near new) (near old) at node less.inside less.is);
      least = λ k v w. elim w [
        | inl a ↦ elim (cases_lt a.0 at) [
          | inl lower ↦ absurd (none_there (near old) a.0 v (q.below a.0 (omega arith)) a.2)
          | inr higher ↦ omega (arith, a.1)
        ]
        | inr b ↦ omega (arith, q.apart k v b)
      ];
      kept = λ k v w. elim w [
        | inl a ↦ elim (near_cases (near new) (near old) at node less.inside less.is k v a) [ inl e ↦ inl e | inr o ↦ inr (inl o) ]
        | inr b ↦ inr (inr (rw keys b))
      ];
      among = λ k v w. elim w [ inl a ↦ inl (near_kept (near new) (near old) at node less.inside less.is k v a) | inr b ↦ inr (rw keys at b) ];
    }

pub shorter_queue : (old new : Queue) (at node : ℕ) → IsQueue old → old.now ≡ at → at < old.top → IsLonger (near new) (near old) at node → new.now ≡ old.now → new.top ≡ old.top → new.far.keys ≡ old.far.keys → IsQueue new
shorter_queue old new at node q now more less same_now same_top keys = record {
  many = sym (as_many (near new) (near old) at node less.inside less.is) ∙ q.many;
  below = λ k l. sym (elsewhere (near new) (near old) at node less.inside less.is k (omega arith)) ∙ q.below k (omega arith);
  above = λ k l. sym (elsewhere (near new) (near old) at node less.inside less.is k (omega arith)) ∙ q.above k (omega arith);
  top_in = omega (arith, q.top_in);
  apart = λ k v h. q.apart k v (rw keys at h);
}

-- where no bucket has a node, the first of the others is of the least key
pub none_near : (queue : Queue) → IsQueue queue → queue.top ≤ queue.now → (k v : ℕ) → IsNear (near queue) k v → ⊥
none_near queue q all k v a = elim (cases_lt a.0 queue.now) [
  | inl l ↦ none_there (near queue) a.0 v (q.below a.0 l) a.2
  | inr l ↦ none_there (near queue) a.0 v (q.above a.0 (omega arith)) a.2
]

pub far_popped : (old new : Queue) (key node : ℕ) → IsQueue old → old.top ≤ old.now → near new ≡ near old → old.far.keys ≡ (key, node) ∷ new.far.keys → All (IsLtBy pair_cmp (key, node)) new.far.keys → IsPopped old new key node
far_popped old new key node q all n keys above = record {
  first = inr (rw keys (inl (refl, refl)));
  least = λ k v w. elim w [
    | inl a ↦ absurd (none_near old q all k v a)
    | inr b ↦ elim (rw keys at b) [ inl e ↦ omega (arith, e.0) | inr o ↦ above_all key node new.far.keys above k v o ]
  ];
  kept = λ k v w. elim w [
    | inl a ↦ inr (inl (rw n a))
    | inr b ↦ elim (rw keys at b) [ inl e ↦ inl (sym e.0, sym e.1) | inr o ↦ inr (inr o) ]
  ];
  among = λ k v w. elim w [ inl a ↦ inl (rw n at a) | inr b ↦ inr (rw keys (inr b)) ];
}

pub far_less : (old new : Queue) (key node : ℕ) → IsQueue old → near new ≡ near old → new.now ≡ old.now → new.top ≡ old.top → old.far.keys ≡ (key, node) ∷ new.far.keys → IsQueue new
far_less old new key node q n now top keys = record {
  many = ap length n ∙ q.many;
  below = λ k l. ap (λ zs. get_or zs k []) n ∙ q.below k (omega arith);
  above = λ k l. ap (λ zs. get_or zs k []) n ∙ q.above k (omega arith);
  top_in = omega (arith, q.top_in);
  apart = λ k v h. q.apart k v (rw keys (inr h));
}

-- ---- empty buckets are passed over

pub advanced : (queue : Queue) → IsQueue queue → get_or (near queue) queue.now [] ≡ [] → IsQueue (record queue { now = queue.now + 1 })
advanced queue q e = record {
  many = q.many;
  below = λ k l. elim (cases_eq k queue.now) [ inl same ↦ rw same e | inr n ↦ q.below k (omega arith) ];
  above = q.above;
  top_in = q.top_in;
  apart = q.apart;
}

-- what is taken out afterwards is taken out of the queue that was
pub popped_after : (old mid new : Queue) (key node : ℕ) → near mid ≡ near old → mid.far.keys ≡ old.far.keys → IsPopped mid new key node → IsPopped old new key node
popped_after old mid new key node n keys h = record {
  first = there key node h.first;
  least = λ k v w. h.least k v (back k v w);
  kept = λ k v w. h.kept k v (back k v w);
  among = λ k v w. there k v (h.among k v w);
}
  where
    there : (k v : ℕ) → Waits mid k v → Waits old k v
    there k v (inl a) = inl (rw n at a)
    there k v (inr b) = inr (rw keys at b)

    back : (k v : ℕ) → Waits old k v → Waits mid k v
    back k v (inl a) = inl (rw n a)
    back k v (inr b) = inr (rw keys b)

pub all_empty : (queue : Queue) (at : ℕ) → ((k : ℕ) → k < at → get_or (near queue) k [] ≡ []) → ((k : ℕ) → queue.top ≤ k → get_or (near queue) k [] ≡ []) → queue.top ≤ at → (k : ℕ) → get_or (near queue) k [] ≡ []
all_empty queue at below above over k = elim (cases_lt k at) [ inl l ↦ below k l | inr l ↦ above k (omega arith) ]

pub nothing_waits : (queue : Queue) → ((k : ℕ) → get_or (near queue) k [] ≡ []) → queue.far.keys ≡ [] → IsEmpty queue
nothing_waits queue none keys = λ k v w. elim w [ inl a ↦ none_there (near queue) a.0 v (none a.0) a.2 | inr b ↦ absurd (rw keys at b) ]

pub emptied_queue : (queue : Queue) → length (near queue) ≡ 65536 → ((k : ℕ) → get_or (near queue) k [] ≡ []) → queue.far.keys ≡ [] → queue.top ≡ 0 → IsQueue queue
emptied_queue queue many none keys top = record {
  many = many;
  below = λ k l. none k;
  above = λ k l. none k;
  top_in = omega arith;
  apart = λ k v h. absurd (rw keys at h);
}

-- ---- how many entries there are

pub near_size : (old new : Queue) (at node : ℕ) → IsLonger (near old) (near new) at node → length new.far.keys ≡ length old.far.keys → size new ≡ size old + 1
near_size old new at node more same = omega (arith, longer (near old) (near new) at node more.inside more.is)

pub near_grows : (old new : Queue) (at node : ℕ) → IsLonger (near old) (near new) at node → length new.far.keys ≡ length old.far.keys → size new ≤ size old + 1
near_grows old new at node more same = omega (arith, near_size old new at node more same)

pub shrinks : (old mid new : Queue) (at node : ℕ) → near mid ≡ near old → mid.far.keys ≡ old.far.keys → IsLonger (near new) (near mid) at node → length new.far.keys ≡ length mid.far.keys → size new + 1 ≡ size old
shrinks old mid new at node n keys less same =
    let e = near_size new mid at node less (sym same) in
    let f : size mid ≡ size old = ap (λ xs. sum_by (λ (nodes : List ℕ). length nodes) xs + length mid.far.keys) n ∙ ap (λ es. sum_by (λ (nodes : List ℕ). length nodes) (near old) + length es) keys in
    omega (arith, e, f)
