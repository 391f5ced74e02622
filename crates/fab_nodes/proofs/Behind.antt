-- Bits of operands that stand one behind the other.
use Rattle.std.proofs.Common.{◌≡◌, ℕ, ◌++◌, List, length, map, take, drop, sym, ap, ap₂, ◌∙◌, subst}
use Rattle.std.proofs.Math.Seq.{take-append_seam, drop-append_seam}
use Rattle.std.proofs.lemmas.List.{length-map, map-append, take-map, drop-map}
use Rattle.fab_systems_laws.specs.Ternary.{Tern as PlainTern}
use Rattle.fab_ternary.specs.declared.Tern.{Tern}
use Rattle.fab_ternary.specs.Terns.{plain_tern}
use Rattle.fab_compiled.specs.declared.tree.Tree.{Tree}
use Rattle.fab_nodes.specs.Nodes.{room, AreNodes}
use Rattle.fab_nodes.proofs.Parts.{AreThree}

module _ (room : ℕ) (xs ys : List Tern) (long : length xs ≡ room) where
  plain_long : room ≡ length (map plain_tern xs)
  plain_long = sym long ∙ sym (length-map xs plain_tern)

  pub front_plain : map plain_tern xs ≡ take room (map plain_tern (xs ++ ys))
  front_plain = sym (ap₂ take plain_long (map-append plain_tern xs ys) ∙ take-append_seam (map plain_tern xs) (map plain_tern ys))

  pub behind_plain : map plain_tern ys ≡ drop room (map plain_tern (xs ++ ys))
  behind_plain = sym (ap₂ drop plain_long (map-append plain_tern xs ys) ∙ drop-append_seam (map plain_tern xs) (map plain_tern ys))

module _ (at : ℕ → PlainTern) where
  pub two_behind : (a b : Tree) (xs ys : List Tern) → length xs ≡ room a → AreNodes at a (map plain_tern xs) → AreNodes at b (map plain_tern ys) →
      AreNodes at a (take (room a) (map plain_tern (xs ++ ys))) × AreNodes at b (drop (room a) (map plain_tern (xs ++ ys)))
  two_behind a b xs ys long h k =
      (subst (AreNodes at a) (front_plain (room a) xs ys long) h, subst (AreNodes at b) (behind_plain (room a) xs ys long) k)

  pub three_behind : (c a b : Tree) (xs ys zs : List Tern) → length xs ≡ room c → length ys ≡ room a → AreNodes at c (map plain_tern xs) →
      AreNodes at a (map plain_tern ys) → AreNodes at b (map plain_tern zs) → AreThree at c a b (map plain_tern (xs ++ (ys ++ zs)))
  three_behind c a b xs ys zs long other h k l =
      let rest = behind_plain (room c) xs (ys ++ zs) long in (
        subst (AreNodes at c) (front_plain (room c) xs (ys ++ zs) long) h,
        subst (AreNodes at a) (front_plain (room a) ys zs other ∙ ap (take (room a)) rest) k,
        subst (AreNodes at b) (behind_plain (room a) ys zs other ∙ ap (drop (room a)) rest) l,
      )

  -- the same of parts of a list
  pub two_split : (a b : Tree) (bits : List Tern) (room_left : ℕ) → room_left ≡ room a →
      AreNodes at a (take (room a) (map plain_tern bits)) × AreNodes at b (drop (room a) (map plain_tern bits)) →
      AreNodes at a (map plain_tern (take room_left bits)) × AreNodes at b (map plain_tern (drop room_left bits))
  two_split a b bits room_left e h = (
    subst (AreNodes at a) (ap (λ (n : ℕ). take n (map plain_tern bits)) (sym e) ∙ take-map plain_tern room_left bits) h.0,
    subst (AreNodes at b) (ap (λ (n : ℕ). drop n (map plain_tern bits)) (sym e) ∙ drop-map plain_tern room_left bits) h.1,
  )

  pub three_split : (c a b : Tree) (bits : List Tern) (room_test room_left : ℕ) → room_test ≡ room c → room_left ≡ room a → AreThree at c a b (map plain_tern bits) →
      AreNodes at c (map plain_tern (take room_test bits)) × AreNodes at a (map plain_tern (take room_left (drop room_test bits)))
      × AreNodes at b (map plain_tern (drop room_left (drop room_test bits)))
  three_split c a b bits room_test room_left e f h =
      let rest : drop (room c) (map plain_tern bits) ≡ map plain_tern (drop room_test bits) =
      ap (λ (n : ℕ). drop n (map plain_tern bits)) (sym e) ∙ drop-map plain_tern room_test bits in
      let both = two_split a b (drop room_test bits) room_left f
      (subst (λ (ts : List PlainTern). AreNodes at a (take (room a) ts)) rest h.1, subst (λ (ts : List PlainTern). AreNodes at b (drop (room a) ts)) rest h.2) in
      (subst (AreNodes at c) (ap (λ (n : ℕ). take n (map plain_tern bits)) (sym e) ∙ take-map plain_tern room_test bits) h.0, both.0, both.1)
