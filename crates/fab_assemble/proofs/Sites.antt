-- Tables of sites, line by line from the last.
use Rattle.std.proofs.Common.{◌≡◌, ℕ, ◌<◌, ◌≤◌, false, cond, List, [], ◌∷◌, ◌++◌, Vec, map, reverse, length, get_or, set, replicate, Some, nat_eq, refl, sym, ap, ◌∙◌, inl, inr, arith}
use Rattle.std.proofs.lemmas.List.{length-set, get_or-set_same, get_or-set_other, get_or-replicate, length-replicate, map-append, reverse-append}
use Rattle.std.proofs.lemmas.Bool.{cases_Bool, false≢true}
use Rattle.std.proofs.lemmas.Bool.Decides.{Decides-eqb}
use Rattle.std.proofs.lemmas.Slice.Eq.{bytes_eq-Decides}
use Rattle.std.specs.Map.{lookup}
use Rattle.std.specs.Str.{bytes_eq}
use Rattle.indexmap.specs.IndexMap.{insert_entry}
use Rattle.fab_fabric.specs.declared.wire.Site.{Site}
use Rattle.fab_implementation.specs.Plain.{Pad}
use Rattle.fab_assemble.specs.inner.Sites.{HoldSites, HoldPads, found_or_first}

-- ---- cells by number

-- no line
pub hold_none : (count : ℕ) → HoldSites [] count (replicate count (record { x = 0; y = 0; bel = 0 }))
hold_none count = record {
  as_many = length-replicate count (record { x = 0; y = 0; bel = 0 });
  each = λ n d below. get_or-replicate count n (record { x = 0; y = 0; bel = 0 }) d below;
}

other_number : (a b : ℕ) → nat_eq a b ≡ false → b ≡ a → ⊥
other_number a b differ same = false≢true (sym differ ∙ (Decides-eqb a b).1 (sym same))

-- one more line in front
pub hold_more : (lines : List (ℕ × Site)) (line : ℕ × Site) (count : ℕ) (sites : List Site) → HoldSites lines count sites → line.0 < length sites →
    HoldSites (line ∷ lines) count (set sites line.0 line.1)
hold_more lines line count sites before inside = record {
  as_many = length-set sites line.0 line.1 ∙ before.as_many;
  each = λ n d below.
      elim (cases_Bool (nat_eq line.0 n)) [
        | inl t ↦ rw t (ap (λ (m : ℕ). get_or (set sites line.0 line.1) m d) (sym ((Decides-eqb line.0 n).0 t)) ∙ get_or-set_same sites line.0 line.1 d inside)
        | inr f ↦ rw f (get_or-set_other sites line.0 n line.1 d (other_number line.0 n f) ∙ before.each n d below)
      ];
}

-- one of a number that is none of the cells'
pub hold_other : (lines : List (ℕ × Site)) (line : ℕ × Site) (count : ℕ) (sites : List Site) → HoldSites lines count sites → length sites ≤ line.0 →
    HoldSites (line ∷ lines) count sites
hold_other lines line count sites before outside = record {
  as_many = before.as_many;
  each = λ n d below.
      elim (cases_Bool (nat_eq line.0 n)) [
        | inl t ↦ absurd (omega (arith, (Decides-eqb line.0 n).0 t, below, outside, before.as_many))
        | inr f ↦ rw f (before.each n d below)
      ];
}

-- what is last comes first in the reversed list
pub last_first : {X Y : Type 0} (f : X → Y) (xs : List X) (x : X) → reverse (map f (xs ++ x ∷ [])) ≡ f x ∷ reverse (map f xs)
last_first f xs x = ap reverse (map-append f xs (x ∷ [])) ∙ reverse-append (map f xs) (f x ∷ [])

-- ---- ports by name

lookup_inserted : {A X : Type 0} (name : List ℕ) (key : Vec ℕ A) (value : X) (es : List (Vec ℕ A × X)) →
    lookup (λ k. bytes_eq name k.items) (insert_entry (λ a b. bytes_eq a.items b.items) es key value)
    ≡ cond (bytes_eq name key.items) (Some value) (lookup (λ k. bytes_eq name k.items) es)
lookup_inserted name key value [] = refl
lookup_inserted name key value (e ∷ es) =
    elim (cases_Bool (bytes_eq key.items e.0.items)) [
      | inl t ↦ let same : bytes_eq name key.items ≡ bytes_eq name e.0.items = ap (bytes_eq name) ((bytes_eq-Decides key.items e.0.items).0 t) in
          rw (t, same) (elim (cases_Bool (bytes_eq name e.0.items)) [ inl u ↦ rw u refl | inr g ↦ rw g refl ])
      | inr f ↦ rw (f, lookup_inserted name key value es) (elim (cases_Bool (bytes_eq name key.items)) [
        | inl u ↦ elim (cases_Bool (bytes_eq name e.0.items)) [
          | inl w ↦ absurd (false≢true (sym f ∙ ap (λ n. bytes_eq n e.0.items) (sym ((bytes_eq-Decides name key.items).0 u)) ∙ w))
          | inr g ↦ rw (u, g) refl
        ]
        | inr g ↦ rw g refl
      ])
    ]

same_names : (a b : List ℕ) → bytes_eq a b ≡ bytes_eq b a
same_names a b =
    elim (cases_Bool (bytes_eq a b)) [
      | inl t ↦ t ∙ sym ((bytes_eq-Decides b a).1 (sym ((bytes_eq-Decides a b).0 t)))
      | inr f ↦ elim (cases_Bool (bytes_eq b a)) [
        | inl t ↦ absurd (false≢true (sym f ∙ (bytes_eq-Decides a b).1 (sym ((bytes_eq-Decides b a).0 t))))
        | inr g ↦ f ∙ sym g
      ]
    ]

-- one more line in front
pub pads_more : {A : Type 0} (lines : List Pad) (line : Pad) (old new : List (Vec ℕ A × Site)) (key : Vec ℕ A) → key.items ≡ line.0 → HoldPads lines old →
    new ≡ insert_entry (λ a b. bytes_eq a.items b.items) old key line.1 → HoldPads (line ∷ lines) new
pads_more lines line old new key named before inserts port =
    ap (λ es. found_or_first (lookup (λ k. bytes_eq port k.items) es)) inserts
    ∙ ap found_or_first (lookup_inserted port key line.1 old)
    ∙ ap (λ n. found_or_first (cond (bytes_eq port n) (Some line.1) (lookup (λ k. bytes_eq port k.items) old))) named
    ∙ ap (λ b. found_or_first (cond b (Some line.1) (lookup (λ k. bytes_eq port k.items) old))) (same_names port line.0)
    ∙ elim (cases_Bool (bytes_eq line.0 port)) [ inl t ↦ rw t refl | inr f ↦ rw f (before port) ]
