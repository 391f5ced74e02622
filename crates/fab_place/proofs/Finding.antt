-- Sites by number and by name.
use Rattle.std.proofs.Common.{◌≡◌, ℕ, ◌<◌, Bool, true, false, ◌&&◌, List, [], ◌∷◌, map, length, get_or, nat_eq, Decides, refl, sym, ◌∙◌, ap, subst, inl, inr, arith}
use Rattle.std.specs.List.{Contains}
use Rattle.std.proofs.lemmas.Bool.{cases_Bool, cases_eq, false≢true}
use Rattle.std.proofs.lemmas.Bool.Decides.{Decides-eqb}
use Rattle.std.proofs.lemmas.List.{get_or-map, length-map, get_or_default}
use Rattle.fab_fabric.specs.declared.wire.Site.{Site}
use Rattle.fab_netlist.proofs.Members.{first_or_later, mapped_in, parts_true, both_true}
use Rattle.fab_annealing.specs.Boards.{site_after as number_after}
use Rattle.fab_ways_laws.specs.fab_legal_Lines.{named, sited}
use Rattle.fab_ways_laws.specs.fab_legal_Sinks.{site_of}
use Rattle.fab_ways_laws.specs.Sites.{same_site}
use Rattle.fab_ways_laws.specs.Placing.{no_site, site_after}
use Rattle.fab_place.specs.Standing.{site_at}
use Rattle.fab_place.proofs.Maps.{differs}
use Rattle.fab_place.proofs.Once.{Once, once_at}

-- ---- equal sites

site_is : (a b : Site) → a.x ≡ b.x → a.y ≡ b.y → a.bel ≡ b.bel → a ≡ b
site_is a b x_is y_is bel_is =
    let first : a ≡ record { x = b.x; y = a.y; bel = a.bel } = ap (λ (n : ℕ). record { x = n; y = a.y; bel = a.bel }) x_is in
    let second : ◌≡◌ {A = Site} (record { x = b.x; y = a.y; bel = a.bel }) (record { x = b.x; y = b.y; bel = a.bel }) = ap (λ (n : ℕ). record { x = b.x; y = n; bel = a.bel }) y_is in
    let third : ◌≡◌ {A = Site} (record { x = b.x; y = b.y; bel = a.bel }) b = ap (λ (n : ℕ). record { x = b.x; y = b.y; bel = n }) bel_is in
    first ∙ second ∙ third

pub site_tells : (a b : Site) → Decides (same_site a b) (a ≡ b)
site_tells a b = (
  λ t.
      let both = parts_true (nat_eq a.x b.x) (nat_eq a.y b.y && nat_eq a.bel b.bel) t in
      let two = parts_true (nat_eq a.y b.y) (nat_eq a.bel b.bel) both.1 in
      site_is a b ((Decides-eqb a.x b.x).0 both.0) ((Decides-eqb a.y b.y).0 two.0) ((Decides-eqb a.bel b.bel).0 two.1),
  λ e.
      both_true (nat_eq a.x b.x) (nat_eq a.y b.y && nat_eq a.bel b.bel) ((Decides-eqb a.x b.x).1 (ap (λ (s : Site). s.x) e))
      (both_true (nat_eq a.y b.y) (nat_eq a.bel b.bel) ((Decides-eqb a.y b.y).1 (ap (λ (s : Site). s.y) e)) ((Decides-eqb a.bel b.bel).1 (ap (λ (s : Site). s.bel) e))),
)

-- ---- the line of a thing

pub site_found : {X : Type 0} (same : X → X → Bool) (tells : (a b : X) → Decides (same a b) (a ≡ b)) (lines : List (X × Site)) (thing : X) (site : Site) → Once (named lines) → Contains lines (thing, site) → site_of same lines thing ≡ site
site_found same tells [] thing site once h = absurd (omega (arith, h.1))
site_found {X} same tells (line ∷ lines) thing site once h = elim (cases_Bool (same line.0 thing)) [
  | inl t ↦ rw t (elim (first_or_later line lines (thing, site) h) [
    | inl e ↦ ap (λ (l : X × Site). l.1) e
    | inr later ↦ absurd (once.0 (subst (λ (x : X). Contains (named lines) x) (sym ((tells line.0 thing).0 t)) (mapped_in (λ (l : X × Site). l.0) lines (thing, site) later)))
  ])
  | inr f ↦ rw f (elim (first_or_later line lines (thing, site) h) [
    | inl e ↦ absurd (false≢true (sym f ∙ (tells line.0 thing).1 (ap (λ (l : X × Site). l.0) e)))
    | inr later ↦ site_found same tells lines thing site once.1 later
  ])
]

-- two lines with one site are one
pub one_line : {X : Type 0} (lines : List (X × Site)) (a b : X × Site) → Once (sited lines) → Contains lines a → Contains lines b → a.1 ≡ b.1 → a ≡ b
one_line {X} lines a b once ha hb e =
    let f = λ (l : X × Site). l.1 in
    let read_a : get_or (sited lines) ha.0 a.1 ≡ a.1 = get_or-map f lines ha.0 a a.1 ha.1 ∙ ap f ha.2 in
    let read_b : get_or (sited lines) hb.0 a.1 ≡ b.1 = get_or-map f lines hb.0 b a.1 hb.1 ∙ ap f hb.2 in
    let place = once_at (sited lines) ha.0 hb.0 a.1 once (omega (arith, ha.1, length-map lines f)) (omega (arith, hb.1, length-map lines f)) (read_a ∙ e ∙ sym read_b) in
    sym ha.2 ∙ ap (λ n. get_or lines n a) place ∙ get_or_default lines hb.0 a b hb.1 ∙ hb.2

-- ---- exchanges

-- the exchange of two sites is that of their numbers
module _ (all : List Site) (i j : ℕ) (a b : Site) (once : Once all) (i_low : i < length all) (j_low : j < length all) (i_is : get_or all i no_site ≡ a) (j_is : get_or all j no_site ≡ b) where
  pub after_number : (n : ℕ) → n < length all → site_after a b (get_or all n no_site) ≡ get_or all (number_after i j n) no_site
  after_number n low = elim (cases_eq n i) [
    | inl e ↦ (
        let here : same_site (get_or all n no_site) a ≡ true = (site_tells (get_or all n no_site) a).1 (ap (λ m. get_or all m no_site) e ∙ i_is) in
        let there : nat_eq n i ≡ true = (Decides-eqb n i).1 e in
        rw (here, there) (sym j_is))
    | inr f ↦ (
        let here : same_site (get_or all n no_site) a ≡ false = differs same_site site_tells (get_or all n no_site) a (λ e. f (once_at all n i no_site once low i_low (e ∙ sym i_is))) in
        let there : nat_eq n i ≡ false = differs nat_eq Decides-eqb n i f in
        rw (here, there) (elim (cases_eq n j) [
          | inl e ↦ (
              let here2 : same_site (get_or all n no_site) b ≡ true = (site_tells (get_or all n no_site) b).1 (ap (λ m. get_or all m no_site) e ∙ j_is) in
              let there2 : nat_eq n j ≡ true = (Decides-eqb n j).1 e in
              rw (here2, there2) (sym i_is))
          | inr g ↦ (
              let here2 : same_site (get_or all n no_site) b ≡ false = differs same_site site_tells (get_or all n no_site) b (λ e. g (once_at all n j no_site once low j_low (e ∙ sym j_is))) in
              let there2 : nat_eq n j ≡ false = differs nat_eq Decides-eqb n j g in
              rw (here2, there2) refl)
        ]))
  ]

  pub after_item : (numbers : List ℕ) (k : ℕ) → k < length numbers → get_or numbers k 0 < length all → site_after a b (site_at all numbers k) ≡ site_at all (map (number_after i j) numbers) k
  after_item numbers k low inside =
      after_number (get_or numbers k 0) inside ∙ ap (λ n. get_or all n no_site) (sym (get_or-map (number_after i j) numbers k 0 0 low))
