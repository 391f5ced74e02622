-- Ternary bits: 0, 1 and unknown. An operator gives what it gives for every choice of the unknown bits, as far as each bit alone tells.
use Rattle.std.specs.Prelude.{ℕ, Bool, true, false, List, [], ◌∷◌, map, slice_index_or, Option, Some, None, option_map}
use Rattle.fab_matrix.specs.fab_syntax.specs.declared.tree.Op.{Op}
use Rattle.fab_matrix.specs.fab_syntax.specs.declared.tree.Op.TheVariants.{And, Or, Xor, Equal, Minus}
use Rattle.fab_matrix.specs.fab_meaning.specs.Value.{operated}
use Rattle.fab_systems_laws.specs.Ternary.{Tern, no, yes, unknown, known}

-- the bit at a place, and 0 past the end
abbrev pub tern_at : List Tern → ℕ → Tern
tern_at ts place = slice_index_or ts place no

-- ---- bits

abbrev pub inverse : Tern → Tern
inverse no = yes
inverse yes = no
inverse unknown = unknown

-- 0 where one is 0
abbrev pub both : Tern → Tern → Tern
both no u = no
both yes u = u
both unknown no = no
both unknown yes = unknown
both unknown unknown = unknown

-- 1 where one is 1
abbrev pub either : Tern → Tern → Tern
either yes u = yes
either no u = u
either unknown yes = yes
either unknown no = unknown
either unknown unknown = unknown

-- 1 where one is 1 and the other 0
abbrev pub differs : Tern → Tern → Tern
differs no u = u
differs yes u = inverse u
differs unknown u = unknown

-- known where both are and agree
abbrev pub agreed : Tern → Tern → Tern
agreed no no = no
agreed yes yes = yes
agreed _ _ = unknown

-- ---- lists of bits, with the least significant one first

abbrev pub each_tern : (Tern → Tern → Tern) → List Tern → List Tern → List Tern
each_tern f [] us = []
each_tern f (t ∷ ts) [] = []
each_tern f (t ∷ ts) (u ∷ us) = f t u ∷ each_tern f ts us

-- 0 where two known bits differ, 1 where all are known and agree
abbrev pub same_terns : List Tern → List Tern → Tern
same_terns [] [] = yes
same_terns [] (u ∷ us) = no
same_terns (t ∷ ts) [] = no
same_terns (t ∷ ts) (u ∷ us) = both (inverse (differs t u)) (same_terns ts us)

-- the bits, where all are known
abbrev pub bools : List Tern → Option (List Bool)
bools [] = Some []
bools (no ∷ ts) = option_map (λ bits. false ∷ bits) (bools ts)
bools (yes ∷ ts) = option_map (λ bits. true ∷ bits) (bools ts)
bools (unknown ∷ ts) = None

-- a difference, where both sides are known; else as many unknown bits
abbrev pub minus_of : (width : List Tern) → Option (List Bool) → Option (List Bool) → List Tern
minus_of width None other = map (λ t. unknown) width
minus_of width (Some xs) None = map (λ t. unknown) width
minus_of width (Some xs) (Some ys) = map known (operated Minus xs ys)

abbrev pub tern_operated : Op → List Tern → List Tern → List Tern
tern_operated And ts us = each_tern both ts us
tern_operated Or ts us = each_tern either ts us
tern_operated Xor ts us = each_tern differs ts us
tern_operated Equal ts us = same_terns ts us ∷ []
tern_operated Minus ts us = minus_of ts (bools ts) (bools us)

-- one of two by a test; where the test is unknown, what they agree on
abbrev pub one_of : (test : Tern) → List Tern → List Tern → List Tern
one_of yes ts us = ts
one_of no ts us = us
one_of unknown ts us = each_tern agreed ts us

-- ---- tables

-- every other entry, from the first and from the second on
abbrev pub evens : {X : Type 0} → List X → List X
evens [] = []
evens (x ∷ []) = x ∷ []
evens (x ∷ y ∷ rest) = x ∷ evens rest

abbrev pub odds : {X : Type 0} → List X → List X
odds [] = []
odds (x ∷ []) = []
odds (x ∷ y ∷ rest) = y ∷ odds rest

-- the entry at an index, whose least significant bit comes first; at an unknown bit, what both choices agree on
abbrev pub entry : (entries index : List Tern) → Tern
entry entries [] = tern_at entries 0
entry entries (no ∷ index) = entry (evens entries) index
entry entries (yes ∷ index) = entry (odds entries) index
entry entries (unknown ∷ index) = agreed (entry (evens entries) index) (entry (odds entries) index)
