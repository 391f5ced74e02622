-- Numbers of any size, as limbs of 32 bits.
use Rattle.std.specs.Prelude.{ℕ, ◌+◌, ◌*◌, ◌^◌, ◌<◌, ◌≤◌, List, [], ◌∷◌}

-- the number of these limbs, of which the first is the least significant
unfoldable pub limbs_number : (limbs : List ℕ) → ℕ
limbs_number [] = 0
limbs_number (limb ∷ limbs) = limb + 2 ^ 32 * limbs_number limbs

-- the number of limbs with digits behind them that wait, where `scale` is the base to the power of how many these are
abbrev pub waiting_number : (limbs : List ℕ) (scale waiting : ℕ) → ℕ
waiting_number limbs scale waiting = limbs_number limbs * scale + waiting

-- what the digits that wait write is below the scale, which is at most this
pub record IsWaiting (most scale waiting : ℕ) : Type 0 where
  pub below : waiting < scale
  pub few : scale ≤ most
