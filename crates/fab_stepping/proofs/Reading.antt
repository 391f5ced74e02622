-- What stands on a board.
use Rattle.std.proofs.Common.{◌≡◌, ◌≢◌, ℕ, ◌<◌, List, length, refl, sym, ap, ◌∙◌, subst, arith, slice_set, get_or}
use Rattle.std.proofs.lemmas.Option.{slice_get-get_or, slice_get_read}
use Rattle.fab_ternary.specs.declared.Tern.{Tern}
use Rattle.fab_ternary.specs.declared.Tern.TheVariants.{No, Yes, Open}
use Rattle.fab_ternary.specs.Terns.{plain_tern}
use Rattle.fab_compiled.specs.Terns.{seen, tern_or_unknown, IsView}
use Rattle.fab_network.specs.declared.network.Network.{Network}
use Rattle.fab_network.specs.Passes.{kept_tern}
use Rattle.fab_network.proofs.Kept.{kept_same, kept_other}
use Rattle.fab_stepping.specs.declared.board.Board.{Board}
use Rattle.fab_stepping.specs.Boards.{LeadToThemselves, IsBoardOf, shown_on}

pub kept_get : (terns : List Tern) (point : ℕ) (d : Tern) → point < length terns → plain_tern (get_or terns point d) ≡ kept_tern terns point
kept_get terns point d less = sym (ap tern_or_unknown (slice_get-get_or terns point d less))

-- what is read at a point is kept there
pub kept_read : (terns : List Tern) (point : ℕ) (t : Tern) → point < length terns → t ≡ get_or terns point t → plain_tern t ≡ kept_tern terns point
kept_read terns point t less read = sym (ap tern_or_unknown (slice_get_read terns (length terns) point t refl less read))

pub one_tern : (t u : Tern) → plain_tern t ≡ plain_tern u → t ≡ u
one_tern No No e = refl
one_tern No Yes e = cc
one_tern No Open e = cc
one_tern Yes No e = cc
one_tern Yes Yes e = refl
one_tern Yes Open e = cc
one_tern Open No e = cc
one_tern Open Yes e = cc
one_tern Open Open e = refl

-- one value is written
pub written : (old new : List Tern) (point : ℕ) (t : Tern) → new ≡ slice_set old point t → point < length old → kept_tern new point ≡ plain_tern t
written old new point t is less = ap (λ (ts : List Tern). kept_tern ts point) is ∙ kept_same old point t less

pub not_written : (old new : List Tern) (point : ℕ) (t : Tern) → new ≡ slice_set old point t → (other : ℕ) → other ≢ point → kept_tern new other ≡ kept_tern old other
not_written old new point t is other apart = ap (λ (ts : List Tern). kept_tern ts other) is ∙ kept_other old point t other apart

pub leads_view : (count : ℕ) (leads : List ℕ) (terns : List Tern) → LeadToThemselves count leads → length terns ≡ count → IsView terns leads
leads_view count leads terns to long point l = omega (arith, to.own point (omega (arith, to.long)), long, to.long)

pub leads_seen : (count : ℕ) (leads : List ℕ) (terns : List Tern) → LeadToThemselves count leads → (point : ℕ) → point < count → seen terns leads point ≡ kept_tern terns point
leads_seen count leads terns to point l = ap (kept_tern terns) (to.own point l)

pub board_view : (network : Network) (board : Board) → IsBoardOf network board → IsView board.terns.items board.leads.items
board_view network board is = leads_view (length network.drives.items) board.leads.items board.terns.items is.leads is.terns

pub board_shown : (network : Network) (board : Board) → IsBoardOf network board → (point : ℕ) → point < length network.drives.items →
    shown_on board point ≡ kept_tern board.terns.items point
board_shown network board is = leads_seen (length network.drives.items) board.leads.items board.terns.items is.leads

-- what holds of three lists holds of the same ones
pub moved_three : (P : List ℕ → List Tern → List ℕ → Type 0) (a x : List ℕ) (b y : List Tern) (c z : List ℕ) → a ≡ x → b ≡ y → c ≡ z → P a b c → P x y z
moved_three P a x b y c z same_a same_b same_c h =
    subst (λ (n : List ℕ). P x y n) same_c (subst (λ (ts : List Tern). P x ts c) same_b (subst (λ (n : List ℕ). P n b c) same_a h))
