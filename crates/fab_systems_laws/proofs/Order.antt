-- The order of ternary values.
use Rattle.std.proofs.Common.{◌≡◌, refl, subst, sym}
use Rattle.fab_systems_laws.specs.Ternary.{Tern, no, yes, unknown, IsBelow}

pub below_self : (t : Tern) → IsBelow t t
below_self no = refl
below_self yes = refl
below_self unknown = tt

pub below_equal : (t u : Tern) → t ≡ u → IsBelow t u
below_equal t u e = subst (λ (v : Tern). IsBelow t v) e (below_self t)

pub below_trans : (t u v : Tern) → IsBelow t u → IsBelow u v → IsBelow t v
below_trans no u v h k = subst (λ (w : Tern). IsBelow w v) (sym h) k
below_trans yes u v h k = subst (λ (w : Tern). IsBelow w v) (sym h) k
below_trans unknown u v h k = tt

pub below_both : (t u : Tern) → IsBelow t u → IsBelow u t → t ≡ u
below_both no u h k = h
below_both yes u h k = h
below_both unknown no h k = sym k
below_both unknown yes h k = sym k
below_both unknown unknown h k = refl
