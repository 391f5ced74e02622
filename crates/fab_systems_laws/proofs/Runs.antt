-- What blocks of events lead to, whatever states are made of and whatever else an event does to them.
use Rattle.std.proofs.Common.{◌≡◌, ◌⊎◌, ℕ, suc, ◌+◌, ◌<◌, ◌≤◌, Bool, true, false, List, [], ◌∷◌, ◌++◌, length, refl, sym, ap, ◌∙◌, subst, inl, inr, arith}
use Rattle.std.specs.List.{All, flat_map, list_any}
use Rattle.std.proofs.lemmas.Bool.{cases_Bool, false≢true, or_cases}
use Rattle.fab_systems_laws.specs.Steps.{IsBlock, blocks_then}

-- from s the events can lead to t, where each may leave any state that its relation allows
abbrev pub Run : {S E : Type 0} → (E → S → S → Type 0) → List E → S → S → Type 0
Run step [] s t = s ≡ t
Run {S} step (e ∷ es) s t = (u : S) × step e s u × Run step es u t

-- a run over two lists stops in between
pub run_split : {S E : Type 0} (step : E → S → S → Type 0) (xs ys : List E) (s t : S) → Run step (xs ++ ys) s t → (u : S) × Run step xs s u × Run step ys u t
run_split step [] ys s t r = (s, refl, r)
run_split step (x ∷ xs) ys s t r = let h = run_split step xs ys r.0 t r.2 in (h.0, (r.0, r.1, h.1), h.2)

-- `at` reads a point in a state, `Inv` holds of all states on the way, and `goal` is what the set is to have.
-- An activated point gets its goal where all lower points of the set have theirs; one that is not activated keeps its value.
module _ {S P E : Type 0} (at : S → P → Bool) (step : E → S → S → Type 0) (activates : E → P → Bool) (Inv : S → Type 0)
    (has : P → Bool) (rank : P → ℕ) (goal : P → Bool)
    (inv : (e : E) (s t : S) → Inv s → step e s t → Inv t)
    (keeps : (e : E) (s t : S) (p : P) → Inv s → step e s t → has p ≡ true → activates e p ≡ false → at t p ≡ at s p)
    (gives : (e : E) (s t : S) (p : P) → Inv s → step e s t → has p ≡ true → activates e p ≡ true →
    ((q : P) → has q ≡ true → rank q < rank p → at s q ≡ goal q) → at t p ≡ goal p) where
  -- the points of rank below k have their goals
  abbrev pub StandsBelow : ℕ → S → Type 0
  StandsBelow k s = (p : P) → has p ≡ true → rank p < k → at s p ≡ goal p

  -- no event spoils a goal that is reached, once all lower ones are
  point_stays : (k : ℕ) (e : E) (s t : S) → Inv s → step e s t → StandsBelow k s →
      (p : P) → has p ≡ true → rank p ≤ k → at s p ≡ goal p → at t p ≡ goal p
  point_stays k e s t i d below p h r right =
      elim (cases_Bool (activates e p)) [
        | inl a ↦ gives e s t p i d h a (λ q hq rq. below q hq (omega arith))
        | inr f ↦ keeps e s t p i d h f ∙ right
      ]

  step_stays : (k : ℕ) (e : E) (s t : S) → Inv s → step e s t → StandsBelow k s → StandsBelow k t
  step_stays k e s t i d below p h r = point_stays k e s t i d below p h (omega arith) (below p h r)

  pub run_stays : (k : ℕ) (es : List E) (s t : S) → Run step es s t → Inv s → StandsBelow k s → Inv t × StandsBelow k t
  run_stays k [] s t r i below = subst (λ (u : S). Inv u × StandsBelow k u) r (i, below)
  run_stays k (e ∷ es) s t r i below = run_stays k es r.0 t r.2 (inv e s r.0 i r.1) (step_stays k e s r.0 i r.1 below)

  -- one activation on the way is enough, once all lower goals are reached
  point_arrives : (k : ℕ) (es : List E) (s t : S) → Run step es s t → Inv s → StandsBelow k s →
      (p : P) → has p ≡ true → rank p ≤ k → (at s p ≡ goal p) ⊎ (list_any (λ e. activates e p) es ≡ true) → at t p ≡ goal p
  point_arrives k [] s t r i below p h q (inl right) = ap (λ u. at u p) (sym r) ∙ right
  point_arrives k [] s t r i below p h q (inr f) = absurd (false≢true f)
  point_arrives k (e ∷ es) s t r i below p h q (inl right) =
      point_arrives k es r.0 t r.2 (inv e s r.0 i r.1) (step_stays k e s r.0 i r.1 below) p h q (inl (point_stays k e s r.0 i r.1 below p h q right))
  point_arrives k (e ∷ es) s t r i below p h q (inr f) =
      point_arrives k es r.0 t r.2 (inv e s r.0 i r.1) (step_stays k e s r.0 i r.1 below) p h q
      (elim (or_cases (activates e p) (list_any (λ d. activates d p) es) f) [
        | inl a ↦ inl (gives e s r.0 p i r.1 h a (λ y hy ry. below y hy (omega arith)))
        | inr g ↦ inr g
      ])

  -- each block settles one more rank
  blocks_arrive : (k : ℕ) (blocks : List (List E)) (s t : S) → Run step (flat_map (λ block. block) blocks) s t → Inv s → StandsBelow k s →
      All (IsBlock activates has) blocks → Inv t × StandsBelow (k + length blocks) t
  blocks_arrive k [] s t r i below all = subst (λ (u : S). Inv u × StandsBelow (k + 0) u) r (i, λ p h q. below p h (omega arith))
  blocks_arrive k (es ∷ blocks) s t r i below all =
      let h = run_split step es (flat_map (λ block. block) blocks) s t r in
      let more : StandsBelow (suc k) h.0 = λ p hp q. point_arrives k es s h.0 h.1 i below p hp (omega arith) (inr (all 0 es (omega arith) p hp)) in
      let held : Inv h.0 = (run_stays k es s h.0 h.1 i below).0 in
      let rest = blocks_arrive (suc k) blocks h.0 t h.2 held more (λ n d l. all (suc n) d (omega arith)) in
      (rest.0, λ p hp q. rest.1 p hp (omega arith))

  -- after as many blocks as this, and whatever follows, the points of lower rank have their goals
  pub run_settles : (blocks : List (List E)) (more : List E) (s t : S) → Run step (blocks_then blocks more) s t → Inv s →
      All (IsBlock activates has) blocks → (p : P) → has p ≡ true → rank p < length blocks → at t p ≡ goal p
  run_settles blocks more s t r i all p h q =
      let d = run_split step (flat_map (λ block. block) blocks) more s t r in
      let done = blocks_arrive 0 blocks s d.0 d.1 i (λ y hy ry. absurd (omega arith)) all in
      (run_stays (0 + length blocks) more d.0 t d.2 done.0 done.1).1 p h (omega arith)
