-- The multiplexer tree shows its table.
use Rattle.std.proofs.Common.{◌≡◌, Bool, true, false, [], ◌∷◌, refl}
use Rattle.fab_kinds.specs.Mux.{MuxPins, chosen, mux_selects, mux_tree, tree_outputs, selected, mux_table}

-- a multiplexer of two inputs
of_two : (a b s : Bool) → chosen a b s ≡ selected (a ∷ b ∷ []) (s ∷ [])
of_two a b true = refl
of_two a b false = refl

-- three of them make one of four
of_four : (a b c d s t : Bool) → chosen (chosen a b s) (chosen c d s) t ≡ selected (a ∷ b ∷ c ∷ d ∷ []) (s ∷ t ∷ [])
of_four a b c d true true = refl
of_four a b c d true false = refl
of_four a b c d false true = refl
of_four a b c d false false = refl

-- three of them, the last and the middle one with the same select bit, leave one input out
three_of_four : (a b c d s t : Bool) → chosen (chosen a b s) (chosen c d t) t ≡ selected (a ∷ b ∷ d ∷ d ∷ []) (s ∷ t ∷ [])
three_of_four a b c d true true = refl
three_of_four a b c d true false = refl
three_of_four a b c d false true = refl
three_of_four a b c d false false = refl

-- two of four make one of eight
of_eight : (a b c d e f g h s t u : Bool) →
    chosen (selected (a ∷ b ∷ c ∷ d ∷ []) (s ∷ t ∷ [])) (selected (e ∷ f ∷ g ∷ h ∷ []) (s ∷ t ∷ [])) u
    ≡ selected (a ∷ b ∷ c ∷ d ∷ e ∷ f ∷ g ∷ h ∷ []) (s ∷ t ∷ u ∷ [])
of_eight a b c d e f g h true true true = refl
of_eight a b c d e f g h true true false = refl
of_eight a b c d e f g h true false true = refl
of_eight a b c d e f g h true false false = refl
of_eight a b c d e f g h false true true = refl
of_eight a b c d e f g h false true false = refl
of_eight a b c d e f g h false false true = refl
of_eight a b c d e f g h false false false = refl

-- the tree shows the table of its settings
pub tree_shows : (c1 c0 : Bool) (p : MuxPins) → tree_outputs c0 c1 (mux_tree (mux_selects c0 c1 p) p) ≡ mux_table c1 c0 p
tree_shows false false p =
    rw (← of_two p.a p.b p.s0, ← of_two p.c p.d p.s1, ← of_two p.g p.h p.s3, ← of_two p.e p.f p.s2) refl
tree_shows false true p =
    rw (← of_two p.a p.b p.s0, ← of_two p.e p.f p.s2)
    (rw (← of_four p.a p.b p.c p.d p.s0 p.s1, ← of_four p.e p.f p.g p.h p.s2 p.s3) refl)
tree_shows true true p =
    rw (← of_two p.a p.b p.s0, ← of_two p.e p.f p.s0, ← of_eight p.a p.b p.c p.d p.e p.f p.g p.h p.s0 p.s1 p.s3)
    (rw (← of_four p.a p.b p.c p.d p.s0 p.s1, ← of_four p.e p.f p.g p.h p.s0 p.s1) refl)
tree_shows true false p =
    rw (← of_two p.a p.b p.s0, ← of_two p.c p.d p.s1, ← of_two p.e p.f p.s0)
    (rw (← of_eight p.a p.b p.d p.d p.e p.f p.h p.h p.s0 p.s1 p.s3)
    (rw (← three_of_four p.a p.b p.c p.d p.s0 p.s1, ← three_of_four p.e p.f p.g p.h p.s0 p.s1) refl))
