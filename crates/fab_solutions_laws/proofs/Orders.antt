-- What is known of the values of operators stays known where more is known of their operands.
use Rattle.std.proofs.Common.{◌≡◌, ℕ, zero, suc, ◌+◌, ◌-◌, ◌<◌, Bool, true, false, List, [], ◌∷◌, ◌++◌, length, map, take, drop, slice_range, Option, Some, None, option_map, refl, sym, ap, ◌∙◌, subst, inl, inr, arith, ◌⊎◌}
use Rattle.std.proofs.lemmas.List.{length-map}
use Rattle.fab_bits.specs.Bits.{number, digits}
use Rattle.fab_load_runs_laws.specs.fab_meaning_Value.{operated}
use Rattle.fab_syntax.specs.declared.tree.Op.{Op}
use Rattle.fab_syntax.specs.declared.tree.Op.TheVariants.{And, Or, Xor, Equal, Minus}
use Rattle.fab_load_runs_laws.proofs.fab_values_Widths.{length_digits}
use Rattle.fab_systems_laws.specs.Ternary.{Tern, no, yes, unknown, known, IsBelow}
use Rattle.fab_systems_laws.proofs.Order.{below_self, below_equal, below_trans}
use Rattle.fab_ternary_laws.specs.Operators.{tern_at, inverse, both, either, differs, agreed, each_tern, same_terns, bools, minus_of, tern_operated, one_of, evens, odds, entry}
use Rattle.fab_ternary_laws.specs.Shown.{first_terns, through}
use Rattle.fab_solutions_laws.specs.Laws.{AreUnder}

-- ---- bits

-- an operator of two bits
abbrev pub Grows : (Tern → Tern → Tern) → Type 0
Grows f = (t u v w : Tern) → IsBelow t v → IsBelow u w → IsBelow (f t u) (f v w)

pub inverse_grows : (t v : Tern) → IsBelow t v → IsBelow (inverse t) (inverse v)
inverse_grows no v h = below_equal yes (inverse v) (ap inverse h)
inverse_grows yes v h = below_equal no (inverse v) (ap inverse h)
inverse_grows unknown v h = tt

-- a known operand stays as it is
from_left : (f : Tern → Tern → Tern) (t u v w : Tern) → t ≡ v → IsBelow (f t u) (f t w) → IsBelow (f t u) (f v w)
from_left f t u v w e h = subst (λ (x : Tern). IsBelow (f t u) (f x w)) e h

pub both_grows : Grows both
both_grows no u v w h k = from_left both no u v w h refl
both_grows yes u v w h k = from_left both yes u v w h k
both_grows unknown no v w h k = subst (λ (x : Tern). IsBelow no (both v x)) k (below_equal no (both v no) (never v))
  where
    never : (v : Tern) → no ≡ both v no
    never no = refl
    never yes = refl
    never unknown = refl
both_grows unknown yes v w h k = tt
both_grows unknown unknown v w h k = tt

pub either_grows : Grows either
either_grows yes u v w h k = from_left either yes u v w h refl
either_grows no u v w h k = from_left either no u v w h k
either_grows unknown yes v w h k = subst (λ (x : Tern). IsBelow yes (either v x)) k (below_equal yes (either v yes) (always v))
  where
    always : (v : Tern) → yes ≡ either v yes
    always no = refl
    always yes = refl
    always unknown = refl
either_grows unknown no v w h k = tt
either_grows unknown unknown v w h k = tt

pub differs_grows : Grows differs
differs_grows no u v w h k = from_left differs no u v w h k
differs_grows yes u v w h k = from_left differs yes u v w h (inverse_grows u w k)
differs_grows unknown u v w h k = tt

pub agreed_grows : Grows agreed
agreed_grows no no v w h k = subst (λ (x : Tern). IsBelow no (agreed x w)) h (subst (λ (x : Tern). IsBelow no (agreed no x)) k refl)
agreed_grows no yes v w h k = tt
agreed_grows no unknown v w h k = tt
agreed_grows yes yes v w h k = subst (λ (x : Tern). IsBelow yes (agreed x w)) h (subst (λ (x : Tern). IsBelow yes (agreed yes x)) k refl)
agreed_grows yes no v w h k = tt
agreed_grows yes unknown v w h k = tt
agreed_grows unknown no v w h k = tt
agreed_grows unknown yes v w h k = tt
agreed_grows unknown unknown v w h k = tt

-- what two agree on is below each
pub agreed_left : (t u v : Tern) → IsBelow t v → IsBelow (agreed t u) v
agreed_left no no v h = h
agreed_left no yes v h = tt
agreed_left no unknown v h = tt
agreed_left yes no v h = tt
agreed_left yes yes v h = h
agreed_left yes unknown v h = tt
agreed_left unknown no v h = tt
agreed_left unknown yes v h = tt
agreed_left unknown unknown v h = tt

pub agreed_right : (t u v : Tern) → IsBelow u v → IsBelow (agreed t u) v
agreed_right no no v h = h
agreed_right no yes v h = tt
agreed_right no unknown v h = tt
agreed_right yes no v h = tt
agreed_right yes yes v h = h
agreed_right yes unknown v h = tt
agreed_right unknown no v h = tt
agreed_right unknown yes v h = tt
agreed_right unknown unknown v h = tt

-- a bit chosen by a test
pub through_grows : (s t u v w x : Tern) → IsBelow s v → IsBelow t w → IsBelow u x → IsBelow (through s t u) (through v w x)
through_grows yes t u v w x h k l = subst (λ (y : Tern). IsBelow t (through y w x)) h k
through_grows no t u v w x h k l = subst (λ (y : Tern). IsBelow u (through y w x)) h l
through_grows unknown t u yes w x h k l = agreed_left t u w k
through_grows unknown t u no w x h k l = agreed_right t u x l
through_grows unknown t u unknown w x h k l = agreed_grows t u w x k l

-- ---- lists

pub under_length : (ts us : List Tern) → AreUnder ts us → length ts ≡ length us
under_length [] [] h = refl
under_length [] (u ∷ us) h = absurd h
under_length (t ∷ ts) [] h = absurd h
under_length (t ∷ ts) (u ∷ us) h = ap suc (under_length ts us h.1)

pub under_self : (ts : List Tern) → AreUnder ts ts
under_self [] = tt
under_self (t ∷ ts) = (below_self t, under_self ts)

pub under_at : (ts us : List Tern) → AreUnder ts us → (place : ℕ) → IsBelow (tern_at ts place) (tern_at us place)
under_at [] [] h place = refl
under_at [] (u ∷ us) h place = absurd h
under_at (t ∷ ts) [] h place = absurd h
under_at (t ∷ ts) (u ∷ us) h zero = h.0
under_at (t ∷ ts) (u ∷ us) h (suc place) = under_at ts us h.1 place

pub under_each : (f : Tern → Tern → Tern) → Grows f → (ts us vs ws : List Tern) → AreUnder ts vs → AreUnder us ws → AreUnder (each_tern f ts us) (each_tern f vs ws)
under_each f grows [] us [] ws h k = tt
under_each f grows [] us (v ∷ vs) ws h k = absurd h
under_each f grows (t ∷ ts) us [] ws h k = absurd h
under_each f grows (t ∷ ts) [] (v ∷ vs) [] h k = tt
under_each f grows (t ∷ ts) [] (v ∷ vs) (w ∷ ws) h k = absurd k
under_each f grows (t ∷ ts) (u ∷ us) (v ∷ vs) [] h k = absurd k
under_each f grows (t ∷ ts) (u ∷ us) (v ∷ vs) (w ∷ ws) h k = (grows t u v w h.0 k.0, under_each f grows ts us vs ws h.1 k.1)

pub under_inverse : (ts us : List Tern) → AreUnder ts us → AreUnder (map inverse ts) (map inverse us)
under_inverse [] [] h = tt
under_inverse [] (u ∷ us) h = absurd h
under_inverse (t ∷ ts) [] h = absurd h
under_inverse (t ∷ ts) (u ∷ us) h = (inverse_grows t u h.0, under_inverse ts us h.1)

pub under_append : (ts us vs ws : List Tern) → AreUnder ts vs → AreUnder us ws → AreUnder (ts ++ us) (vs ++ ws)
under_append [] us [] ws h k = k
under_append [] us (v ∷ vs) ws h k = absurd h
under_append (t ∷ ts) us [] ws h k = absurd h
under_append (t ∷ ts) us (v ∷ vs) ws h k = (h.0, under_append ts us vs ws h.1 k)

pub under_take : (n : ℕ) (ts us : List Tern) → AreUnder ts us → AreUnder (take n ts) (take n us)
under_take zero ts us h = tt
under_take (suc n) [] [] h = tt
under_take (suc n) [] (u ∷ us) h = absurd h
under_take (suc n) (t ∷ ts) [] h = absurd h
under_take (suc n) (t ∷ ts) (u ∷ us) h = (h.0, under_take n ts us h.1)

pub under_drop : (n : ℕ) (ts us : List Tern) → AreUnder ts us → AreUnder (drop n ts) (drop n us)
under_drop zero ts us h = h
under_drop (suc n) [] [] h = tt
under_drop (suc n) [] (u ∷ us) h = absurd h
under_drop (suc n) (t ∷ ts) [] h = absurd h
under_drop (suc n) (t ∷ ts) (u ∷ us) h = under_drop n ts us h.1

pub under_range : (ts us : List Tern) (low end : ℕ) → AreUnder ts us → AreUnder (slice_range ts low end) (slice_range us low end)
under_range ts us low end h = under_take (end - low) (drop low ts) (drop low us) (under_drop low ts us h)

pub length_first : (n : ℕ) (f : ℕ → Tern) → length (first_terns n f) ≡ n
length_first zero f = refl
length_first (suc n) f = ap suc (length_first n (λ k. f (suc k)))

pub under_first : (n : ℕ) (f g : ℕ → Tern) → ((k : ℕ) → k < n → IsBelow (f k) (g k)) → AreUnder (first_terns n f) (first_terns n g)
under_first zero f g h = tt
under_first (suc n) f g h = (h 0 (omega arith), under_first n (λ k. f (suc k)) (λ k. g (suc k)) (λ k l. h (suc k) (omega arith)))

pub length_each : (f : Tern → Tern → Tern) (ts us : List Tern) → length ts ≡ length us → length (each_tern f ts us) ≡ length ts
length_each f [] us e = refl
length_each f (t ∷ ts) [] e = absurd (omega (arith, e))
length_each f (t ∷ ts) (u ∷ us) e = ap suc (length_each f ts us (omega (arith, e)))

pub length_one : (test : Tern) (ts us : List Tern) → length ts ≡ length us → length (one_of test ts us) ≡ length ts
length_one yes ts us e = refl
length_one no ts us e = sym e
length_one unknown ts us e = length_each agreed ts us e

-- ---- operators

same_grows : (ts us vs ws : List Tern) → AreUnder ts vs → AreUnder us ws → IsBelow (same_terns ts us) (same_terns vs ws)
same_grows [] [] [] [] h k = refl
same_grows [] [] [] (w ∷ ws) h k = absurd k
same_grows [] (u ∷ us) [] [] h k = absurd k
same_grows [] (u ∷ us) [] (w ∷ ws) h k = refl
same_grows [] us (v ∷ vs) ws h k = absurd h
same_grows (t ∷ ts) us [] ws h k = absurd h
same_grows (t ∷ ts) [] (v ∷ vs) [] h k = refl
same_grows (t ∷ ts) [] (v ∷ vs) (w ∷ ws) h k = absurd k
same_grows (t ∷ ts) (u ∷ us) (v ∷ vs) [] h k = absurd k
same_grows (t ∷ ts) (u ∷ us) (v ∷ vs) (w ∷ ws) h k =
    both_grows (inverse (differs t u)) (same_terns ts us) (inverse (differs v w)) (same_terns vs ws)
    (inverse_grows (differs t u) (differs v w) (differs_grows t u v w h.0 k.0)) (same_grows ts us vs ws h.1 k.1)

-- where all bits are known, none changes
known_stays : (ts us : List Tern) → AreUnder ts us → (bools ts ≡ None) ⊎ (ts ≡ us)
known_stays [] [] h = inr refl
known_stays [] (u ∷ us) h = absurd h
known_stays (t ∷ ts) [] h = absurd h
known_stays (unknown ∷ ts) (u ∷ us) h = inl refl
known_stays (no ∷ ts) (u ∷ us) h =
    elim (known_stays ts us h.1) [ inl n ↦ inl (ap (option_map (λ bits. false ∷ bits)) n) | inr e ↦ inr (λ j. h.0 j ∷ e j) ]
known_stays (yes ∷ ts) (u ∷ us) h =
    elim (known_stays ts us h.1) [ inl n ↦ inl (ap (option_map (λ bits. true ∷ bits)) n) | inr e ↦ inr (λ j. h.0 j ∷ e j) ]

unknown_under : (ts us : List Tern) → length ts ≡ length us → AreUnder (map (λ t. unknown) ts) us
unknown_under [] [] e = tt
unknown_under [] (u ∷ us) e = absurd (omega (arith, e))
unknown_under (t ∷ ts) [] e = absurd (omega (arith, e))
unknown_under (t ∷ ts) (u ∷ us) e = (tt, unknown_under ts us (omega (arith, e)))

length_in : (b : Bool) (ts : List Tern) (xs : List Bool) (o : Option (List Bool)) → ((ys : List Bool) → o ≡ Some ys → length ys ≡ length ts) →
    option_map (λ bits. b ∷ bits) o ≡ Some xs → length xs ≡ suc (length ts)
length_in b ts xs None rest e = cc
length_in b ts xs (Some ys) rest e = let same : b ∷ ys ≡ xs = cc in ap length (sym same) ∙ ap suc (rest ys refl)

length_some : (ts : List Tern) (xs : List Bool) → bools ts ≡ Some xs → length xs ≡ length ts
length_some [] xs e = let same : [] ≡ xs = cc in ap length (sym same)
length_some (no ∷ ts) xs e = length_in false ts xs (bools ts) (length_some ts) e
length_some (yes ∷ ts) xs e = length_in true ts xs (bools ts) (length_some ts) e
length_some (unknown ∷ ts) xs e = cc

length_minus_of : (ts : List Tern) (o p : Option (List Bool)) → ((xs : List Bool) → o ≡ Some xs → length xs ≡ length ts) → length (minus_of ts o p) ≡ length ts
length_minus_of ts None p long = length-map ts (λ t. unknown)
length_minus_of ts (Some xs) None long = length-map ts (λ t. unknown)
length_minus_of ts (Some xs) (Some ys) long = length-map (operated Minus xs ys) known ∙ length_digits (length xs) _ ∙ long xs refl

pub length_minus : (ts us : List Tern) → length (minus_of ts (bools ts) (bools us)) ≡ length ts
length_minus ts us = length_minus_of ts (bools ts) (bools us) (length_some ts)

nothing_known : (ts : List Tern) (o : Option (List Bool)) → minus_of ts o None ≡ map (λ t. unknown) ts
nothing_known ts None = refl
nothing_known ts (Some xs) = refl

minus_grows : (ts us vs ws : List Tern) → AreUnder ts vs → AreUnder us ws → AreUnder (minus_of ts (bools ts) (bools us)) (minus_of vs (bools vs) (bools ws))
minus_grows ts us vs ws h k =
    let open_under : AreUnder (map (λ t. unknown) ts) (minus_of vs (bools vs) (bools ws)) =
    unknown_under ts (minus_of vs (bools vs) (bools ws)) (under_length ts vs h ∙ sym (length_minus vs ws)) in
    elim (known_stays ts vs h) [
      | inl n ↦ subst (λ (o : Option (List Bool)). AreUnder (minus_of ts o (bools us)) (minus_of vs (bools vs) (bools ws))) (sym n) open_under
      | inr e ↦ elim (known_stays us ws k) [
        | inl n ↦ subst (λ (o : Option (List Bool)). AreUnder (minus_of ts (bools ts) o) (minus_of vs (bools vs) (bools ws))) (sym n)
            (subst (λ (xs : List Tern). AreUnder xs (minus_of vs (bools vs) (bools ws))) (sym (nothing_known ts (bools ts))) open_under)
        | inr f ↦ subst (λ (xs : List Tern). AreUnder (minus_of ts (bools ts) (bools us)) (minus_of xs (bools xs) (bools ws))) e
            (subst (λ (xs : List Tern). AreUnder (minus_of ts (bools ts) (bools us)) (minus_of ts (bools ts) (bools xs))) f (under_self (minus_of ts (bools ts) (bools us))))
      ]
    ]

pub operated_grows : (op : Op) (ts us vs ws : List Tern) → AreUnder ts vs → AreUnder us ws → AreUnder (tern_operated op ts us) (tern_operated op vs ws)
operated_grows And ts us vs ws h k = under_each both both_grows ts us vs ws h k
operated_grows Or ts us vs ws h k = under_each either either_grows ts us vs ws h k
operated_grows Xor ts us vs ws h k = under_each differs differs_grows ts us vs ws h k
operated_grows Equal ts us vs ws h k = (same_grows ts us vs ws h k, tt)
operated_grows Minus ts us vs ws h k = minus_grows ts us vs ws h k

agreed_under_left : (ts us vs : List Tern) → length ts ≡ length us → AreUnder ts vs → AreUnder (each_tern agreed ts us) vs
agreed_under_left [] us [] e h = tt
agreed_under_left [] us (v ∷ vs) e h = absurd h
agreed_under_left (t ∷ ts) us [] e h = absurd h
agreed_under_left (t ∷ ts) [] (v ∷ vs) e h = absurd (omega (arith, e))
agreed_under_left (t ∷ ts) (u ∷ us) (v ∷ vs) e h = (agreed_left t u v h.0, agreed_under_left ts us vs (omega (arith, e)) h.1)

agreed_under_right : (ts us vs : List Tern) → length ts ≡ length us → AreUnder us vs → AreUnder (each_tern agreed ts us) vs
agreed_under_right [] [] [] e h = tt
agreed_under_right [] (u ∷ us) vs e h = absurd (omega (arith, e))
agreed_under_right [] [] (v ∷ vs) e h = absurd h
agreed_under_right (t ∷ ts) [] vs e h = absurd (omega (arith, e))
agreed_under_right (t ∷ ts) (u ∷ us) [] e h = absurd h
agreed_under_right (t ∷ ts) (u ∷ us) (v ∷ vs) e h = (agreed_right t u v h.0, agreed_under_right ts us vs (omega (arith, e)) h.1)

pub one_grows : (s s' : Tern) (ts us vs ws : List Tern) → length ts ≡ length us → IsBelow s s' → AreUnder ts vs → AreUnder us ws → AreUnder (one_of s ts us) (one_of s' vs ws)
one_grows yes s' ts us vs ws e l h k = subst (λ (x : Tern). AreUnder ts (one_of x vs ws)) l h
one_grows no s' ts us vs ws e l h k = subst (λ (x : Tern). AreUnder us (one_of x vs ws)) l k
one_grows unknown yes ts us vs ws e l h k = agreed_under_left ts us vs e h
one_grows unknown no ts us vs ws e l h k = agreed_under_right ts us ws e k
one_grows unknown unknown ts us vs ws e l h k = under_each agreed agreed_grows ts us vs ws h k

-- ---- tables

under_evens : (ts us : List Tern) → AreUnder ts us → AreUnder (evens ts) (evens us)
under_evens [] [] h = tt
under_evens [] (u ∷ us) h = absurd h
under_evens (t ∷ ts) [] h = absurd h
under_evens (t ∷ []) (u ∷ []) h = h
under_evens (t ∷ []) (u ∷ v ∷ us) h = absurd h.1
under_evens (t ∷ s ∷ ts) (u ∷ []) h = absurd h.1
under_evens (t ∷ s ∷ ts) (u ∷ v ∷ us) h = (h.0, under_evens ts us h.1.1)

under_odds : (ts us : List Tern) → AreUnder ts us → AreUnder (odds ts) (odds us)
under_odds [] [] h = tt
under_odds [] (u ∷ us) h = absurd h
under_odds (t ∷ ts) [] h = absurd h
under_odds (t ∷ []) (u ∷ []) h = tt
under_odds (t ∷ []) (u ∷ v ∷ us) h = absurd h.1
under_odds (t ∷ s ∷ ts) (u ∷ []) h = absurd h.1
under_odds (t ∷ s ∷ ts) (u ∷ v ∷ us) h = (h.1.0, under_odds ts us h.1.1)

pub entry_grows : (ts us index later : List Tern) → AreUnder ts us → AreUnder index later → IsBelow (entry ts index) (entry us later)
entry_grows ts us [] [] h k = under_at ts us h 0
entry_grows ts us [] (j ∷ later) h k = absurd k
entry_grows ts us (i ∷ index) [] h k = absurd k
entry_grows ts us (no ∷ index) (j ∷ later) h k =
    subst (λ (x : Tern). IsBelow (entry (evens ts) index) (entry us (x ∷ later))) k.0 (entry_grows (evens ts) (evens us) index later (under_evens ts us h) k.1)
entry_grows ts us (yes ∷ index) (j ∷ later) h k =
    subst (λ (x : Tern). IsBelow (entry (odds ts) index) (entry us (x ∷ later))) k.0 (entry_grows (odds ts) (odds us) index later (under_odds ts us h) k.1)
entry_grows ts us (unknown ∷ index) (no ∷ later) h k =
    agreed_left (entry (evens ts) index) (entry (odds ts) index) (entry (evens us) later) (entry_grows (evens ts) (evens us) index later (under_evens ts us h) k.1)
entry_grows ts us (unknown ∷ index) (yes ∷ later) h k =
    agreed_right (entry (evens ts) index) (entry (odds ts) index) (entry (odds us) later) (entry_grows (odds ts) (odds us) index later (under_odds ts us h) k.1)
entry_grows ts us (unknown ∷ index) (unknown ∷ later) h k =
    agreed_grows (entry (evens ts) index) (entry (odds ts) index) (entry (evens us) later) (entry (odds us) later)
    (entry_grows (evens ts) (evens us) index later (under_evens ts us h) k.1) (entry_grows (odds ts) (odds us) index later (under_odds ts us h) k.1)
