-- Rounds over flip-flops of CLK: those that read beyond the set leave, and no closed set had them.
use Rattle.std.proofs.Common.{◌≡◌, ℕ, zero, suc, ◌+◌, ◌<◌, ◌≤◌, Bool, true, false, not, ◌&&◌, List, [], ◌∷◌, ◌++◌, length, reverse, drop, set, get_or, slice_get, Contains, Some, refl, sym, ap, ◌∙◌, subst, inl, inr, arith, append_assoc, length-append}
use Rattle.std.specs.List.{list_any}
use Rattle.std.specs.Str.{bytes_eq}
use Rattle.std.specs.Cmp.Lexicographic.{pointwise_decides}
use Rattle.std.proofs.lemmas.Bool.{cases_Bool, cases_eq, false≢true, and_parts, and_from, or_cases, or_left, or_right, not-true, not_from_false}
use Rattle.std.proofs.lemmas.List.{append-nil, drop_all, at_drop_more, reverse-reverse}
use Rattle.std.proofs.lemmas.List.Sorted.{Contains-permutation, IsPermutation-reverse}
use Rattle.std.proofs.lemmas.List.Elements.{Contains-append_left, Contains-append_right, Contains-append_cases, Contains-push, Contains-push_cases}
use Rattle.std.proofs.lemmas.Option.{slice_get_within, slice_get-get_or, get_or_from_slice_get}
use Rattle.std.proofs.lemmas.Slice.Eq.{bytes_eq-Decides}
use Rattle.fab_syntax.specs.Plain.{PlainExpr, PlainModule}
use Rattle.fab_syntax.specs.Sound.{IsSound}
use Rattle.fab_meaning.specs.Points.{Path, Point, point, Driver, flop, Drives}
use Rattle.fab_meaning.specs.Reads.{is_declared, same_path, expression_reads, next_reads}
use Rattle.fab_meaning.specs.Loading.{IsStream, Within, by_flop, by_stream, by_reads}
use Rattle.fab_meaning.proofs.Loaded.{within_more}
use Rattle.fab_equations.specs.Instances.{points}
use Rattle.fab_equations.specs.Equations.{IsPoint, IsSource}
use Rattle.fab_equations.proofs.Numbering.{same_value}
use Rattle.fab_equations.proofs.Placing.{get_set_other}
use Rattle.fab_load_points.specs.inner.Causes.{StandsFor, AreReads}
use Rattle.fab_load_points.specs.inner.Search.{Scene, IsSearch}
use Rattle.fab_load_points.specs.inner.Flops.{is_bit_beside, is_bit_of, among, IsLoaderFlop, AreLoaderFlops, IsLoaderPoint, HoldsClosed, AreBegun, ReadsWithin, ReadsBeyond, IsClosedSearch}
use Rattle.fab_load_points.specs.declared.flops.Flop.{Flop}
use Rattle.fab_load_points.specs.declared.search.Status.{Status}
use Rattle.fab_load_points.specs.declared.search.Status.TheVariants.{Waiting, Inside, Outside}
use Rattle.fab_load_points.proofs.Names.{point_declared, one_number, stands_at, first_declared}
use Rattle.fab_load_points.proofs.Bits.{bit_driven, same_driver, all_bits}
use Rattle.fab_load_points.proofs.Statuses.{set_cases, set_there}
use Rattle.fab_load_points.proofs.Steps.{flop_outside, expression_declared}

-- ---- tests of lists

any_found : {X : Type 0} (test : X → Bool) (xs : List X) → list_any test xs ≡ true → (x : X) × Contains xs x × (test x ≡ true)
any_found test [] h = absurd (false≢true h)
any_found test (x ∷ xs) h =
    elim (or_cases (test x) (list_any test xs) h) [
      | inl here ↦ (x, (0, omega arith, refl), here)
      | inr there ↦ (let found = any_found test xs there in (found.0, (suc found.1.0, omega (arith, found.1.1), found.1.2), found.2))
    ]

any_from : {X : Type 0} (test : X → Bool) (xs : List X) (x : X) → Contains xs x → test x ≡ true → list_any test xs ≡ true
any_from test [] x c h = absurd (omega (arith, c.1))
any_from test (y ∷ xs) x (zero, b, e) h = or_left (test y) (list_any test xs) (ap test e ∙ h)
any_from test (y ∷ xs) x (suc k, b, e) h = or_right (test y) (list_any test xs) (any_from test xs x (k, omega (arith, b), e) h)

contained_later : {X : Type 0} (x y : X) (xs : List X) → Contains (x ∷ xs) y → (x ≡ y → ⊥) → Contains xs y
contained_later x y xs (zero, b, e) apart = absurd (apart e)
contained_later x y xs (suc k, b, e) apart = (k, omega (arith, b), e)

-- ---- fewer flip-flops lead to less

pub within_declared : (text : List PlainModule) (some all : Point → Bool) → ((p : Point) → is_declared text p ≡ true → some p ≡ true → all p ≡ true) →
    (p : Point) → Within text some p → Within text all p
within_declared text some all part p (by_flop declared f) = by_flop declared (part p declared f)
within_declared text some all part p (by_stream is) = by_stream is
within_declared text some all part p (by_reads d declared drives derived inside) = by_reads d declared drives derived (λ q r. within_declared text some all part q (inside q r))

-- a round over flip-flops of CLK, after looks at this many of them
pub record IsRound (text : List PlainModule) (flops : List Flop) (count : ℕ) (kept : List Flop) (statuses : List Status) : Type 0 where
  pub scene : Scene text
  pub search : IsSearch text scene statuses []
  pub all : (p : Point) → scene.all p ≡ true → among text flops p ≡ true
  pub part : (p : Point) → scene.left p ≡ true → scene.all p ≡ true
  pub holds : HoldsClosed text scene.left
  pub left : (p : Point) → scene.left p ≡ true → among text (kept ++ drop count flops) p ≡ true
  pub same : length kept ≡ count → (p : Point) → scene.all p ≡ true → scene.left p ≡ true
  pub stay : length kept ≡ count → (k : ℕ) (f : Flop) → k < count → slice_get flops k ≡ Some f → ReadsWithin text scene.all f
  pub fewer : length kept ≤ count
  pub loaders : AreLoaderFlops text kept

-- the first names of a list are inside
abbrev pub AllInside : List PlainModule → (all : Point → Bool) → (numbers : List ℕ) → (count : ℕ) → Type 0
AllInside text all numbers count = (k n : ℕ) → k < count → slice_get numbers k ≡ Some n → (p : Point) → StandsFor text n p → Within text all p

pub inside_more : (text : List PlainModule) (all : Point → Bool) (numbers : List ℕ) (k n : ℕ) → AllInside text all numbers k → slice_get numbers k ≡ Some n →
    ((p : Point) → StandsFor text n p → Within text all p) → AllInside text all numbers (k + 1)
inside_more text all numbers k n inside at here j m below there p stands =
    elim (cases_eq j k) [
      | inl last ↦ (let same : n ≡ m = same_value (slice_get numbers k) n m at (subst (λ i. slice_get numbers i ≡ Some m) last there) in
          here p (subst (λ x. StandsFor text x p) (sym same) stands))
      | inr earlier ↦ inside j m (omega (arith, below, earlier)) there p stands
    ]

-- ---- flip-flops on a list

pub flop_at : (flops : List Flop) (k : ℕ) (d : Flop) → k < length flops → Contains flops (get_or flops k d)
flop_at flops k d l = (k, l, get_or_from_slice_get flops k (get_or flops k d) (get_or flops k d) (slice_get-get_or flops k d l))

pub name_within : (text : List PlainModule) (f : Flop) → IsLoaderFlop text f → f.name < length (points text)
name_within text f l = slice_get_within (points text) f.name l.at l.stands.is

pub split_at : (flops : List Flop) (k : ℕ) (d : Flop) → k < length flops → drop k flops ≡ get_or flops k d ∷ drop (k + 1) flops
split_at flops k d l = at_drop_more (λ (xs : List Flop). xs) flops k d l

pub more_flops : (text : List PlainModule) (flops : List Flop) (f : Flop) → AreLoaderFlops text flops → IsLoaderFlop text f → AreLoaderFlops text (flops ++ f ∷ [])
more_flops text flops f are l g c = elim (Contains-push_cases flops f g c) [ inl earlier ↦ are g earlier | inr last ↦ subst (IsLoaderFlop text) last l ]

-- the other way round
contains_reversed : (flops : List Flop) (f : Flop) → Contains (reverse flops) f → Contains flops f
contains_reversed flops f c =
    subst (λ xs. Contains xs f) (reverse-reverse flops) (Contains-permutation (reverse flops) (reverse (reverse flops)) f (IsPermutation-reverse (reverse flops)) c)

pub loaders_reversed : (text : List PlainModule) (flops : List Flop) → AreLoaderFlops text flops → AreLoaderFlops text (reverse flops)
loaders_reversed text flops are f c = are f (contains_reversed flops f c)

pub holds_reversed : (text : List PlainModule) (flops : List Flop) → HoldsClosed text (among text flops) → HoldsClosed text (among text (reverse flops))
holds_reversed text flops holds some closed p declared h =
    let found = any_found (λ (f : Flop). is_bit_of text f.name p) flops (holds some closed p declared h) in
    any_from (λ (f : Flop). is_bit_of text f.name p) (reverse flops) found.0 (Contains-permutation flops (reverse flops) found.0 (IsPermutation-reverse flops) found.1) found.2

-- ---- the begin of a round

pub begun_more : (flops : List Flop) (statuses : List Status) (f : Flop) → f.name < length statuses → AreBegun flops statuses →
    AreBegun (flops ++ f ∷ []) (set statuses f.name Inside)
begun_more flops statuses f within begun = record {
  inside = λ g c.
      elim (cases_eq g.name f.name) [
        | inl same ↦ subst (λ n. slice_get (set statuses f.name Inside) n ≡ Some Inside) (sym same) (set_there statuses f.name Inside within)
        | inr apart ↦ get_set_other statuses f.name g.name Inside apart
            ∙ begun.inside g (elim (Contains-push_cases flops f g c) [ inl earlier ↦ earlier | inr last ↦ absurd (apart (ap (λ (x : Flop). x.name) (sym last))) ])
      ];
  others = λ name status e.
      elim (set_cases statuses f.name name Inside status e) [
        | inl same ↦ inr (same.1, f, Contains-push flops f, sym same.0)
        | inr apart ↦ elim (begun.others name status apart.1) [
          | inl new ↦ inl new
          | inr known ↦ inr (known.0, known.1, Contains-append_left flops (f ∷ []) known.1 known.2, known.3)
        ]
      ];
}

module _ (text : List PlainModule) (sound : IsSound text) where
  -- ---- the bits of a name

  pub bit_is : (name : ℕ) (at p : Point) → StandsFor text name at → is_bit_of text name p ≡ true → (at.path ≡ p.path) × (at.name ≡ p.name)
  bit_is name at p stands h =
      let there : is_bit_beside (Some at) p ≡ true = sym (ap (λ o. is_bit_beside o p) stands.is) ∙ h in
      let both = and_parts (same_path at.path p.path) (bytes_eq at.name p.name) there in
      ((pointwise_decides bytes_eq-Decides at.path p.path).0 both.0, (bytes_eq-Decides at.name p.name).0 both.1)

  pub bit_from : (name : ℕ) (at p : Point) → StandsFor text name at → at.path ≡ p.path → at.name ≡ p.name → is_bit_of text name p ≡ true
  bit_from name at p stands paths names =
      ap (λ o. is_bit_beside o p) stands.is
      ∙ and_from (same_path at.path p.path) (bytes_eq at.name p.name) ((pointwise_decides bytes_eq-Decides at.path p.path).1 paths) ((bytes_eq-Decides at.name p.name).1 names)

  -- what a flip-flop drives beside its first point
  flop_drives : (f : Flop) (l : IsLoaderFlop text f) (p : Point) → is_bit_of text f.name p ≡ true → Drives text p (flop l.path l.clock l.next p.bit)
  flop_drives f l p h =
      let same = bit_is f.name l.at p l.stands h in
      let moved : point l.at.path l.at.name p.bit ≡ p = (λ k. point (same.0 k) (same.1 k) p.bit) in
      subst (λ q. Drives text q (flop l.path l.clock l.next p.bit)) moved (bit_driven text l.at (flop l.path l.clock l.next 0) p.bit l.drives)

  abbrev found_flop : (flops : List Flop) (p : Point) → among text flops p ≡ true → (f : Flop) × Contains flops f × (is_bit_of text f.name p ≡ true)
  found_flop flops p h = any_found (λ (f : Flop). is_bit_of text f.name p) flops h

  among_from : (flops : List Flop) (f : Flop) (p : Point) → Contains flops f → is_bit_of text f.name p ≡ true → among text flops p ≡ true
  among_from flops f p c h = any_from (λ (g : Flop). is_bit_of text g.name p) flops f c h

  among_alike : (flops : List Flop) → AreLoaderFlops text flops → (p q : Point) → among text flops p ≡ true → p.path ≡ q.path → p.name ≡ q.name → among text flops q ≡ true
  among_alike flops are p q h paths names =
      let found = found_flop flops p h in
      let l = are found.0 found.1 in
      let same = bit_is found.0.name l.at p l.stands found.2 in
      among_from flops found.0 q found.1 (bit_from found.0.name l.at q l.stands (same.0 ∙ paths) (same.1 ∙ names))

  pub among_more : (flops : List Flop) (f : Flop) (p : Point) → among text flops p ≡ true → among text (flops ++ f ∷ []) p ≡ true
  among_more flops f p h =
      let found = found_flop flops p h in
      among_from (flops ++ f ∷ []) found.0 p (Contains-append_left flops (f ∷ []) found.0 found.1) found.2

  pub among_last : (flops : List Flop) (f : Flop) (at : Point) → StandsFor text f.name at → among text (flops ++ f ∷ []) at ≡ true
  among_last flops f at stands = among_from (flops ++ f ∷ []) f at (Contains-push flops f) (bit_from f.name at at stands refl refl)

  -- ---- all flip-flops of CLK

  pub all_among : (flops : List Flop) → AreLoaderFlops text flops →
      ((number : ℕ) (at : Point) → StandsFor text number at → IsLoaderPoint text at → among text flops at ≡ true) → (p : Point) → IsLoaderPoint text p → among text flops p ≡ true
  all_among flops are first p l =
      let at = point p.path p.name 0 in
      let there = stands_at text sound p l.declared in
      let here : IsLoaderPoint text at = record {
        path = l.path;
        clock = l.clock;
        next = l.next;
        bit = 0;
        declared = first_declared text sound p l.declared;
        drives = bit_driven text p (flop l.path l.clock l.next l.bit) 0 l.drives;
        clocked = l.clocked;
      } in
      among_alike flops are at p (first there.0 at there.1 here) refl refl

  pub loader_holds : (flops : Point → Bool) → ((p : Point) → IsLoaderPoint text p → flops p ≡ true) → HoldsClosed text flops
  loader_holds flops all some closed p declared f =
      let c = closed p f in
      all p (record { path = c.path; clock = c.clock; next = c.next; bit = c.bit; declared = declared; drives = c.drives; clocked = c.clocked })

  -- ---- the begin of a round

  abbrev begun_scene : (flops : List Flop) → AreLoaderFlops text flops → Scene text
  begun_scene flops are = record {
    all = among text flops;
    left = among text flops;
    sound = sound;
    flops = λ p h. let found = found_flop flops p h in
        let l = are found.0 found.1 in
        (flop l.path l.clock l.next p.bit, flop_drives found.0 l p found.2, tt);
    alike = among_alike flops are;
  }

  begun_search : (flops : List Flop) (are : AreLoaderFlops text flops) (statuses : List Status) → AreBegun flops statuses → IsSearch text (begun_scene flops are) statuses []
  begun_search flops are statuses begun = record {
    inside = λ name p stands e.
        elim (begun.others name Inside e) [
          | inl apart ↦ cc
          | inr known ↦ by_flop (point_declared text sound name p stands.is)
              (among_from flops known.1 p known.2 (bit_from known.1.name p p (subst (λ k. StandsFor text k p) (sym known.3) stands) refl refl))
        ];
    outside = λ name p stands e.
        elim (begun.others name Outside e) [
          | inl apart ↦ cc
          | inr known ↦ (let apart = known.0 in cc)
        ];
    flops = λ name p stands h.
        let found = found_flop flops p h in
        let l = are found.0 found.1 in
        let same = bit_is found.0.name l.at p l.stands found.2 in
        let here : l.at ≡ p = (λ k. point (same.0 k) (same.1 k) ((l.stands.first ∙ sym stands.first) k)) in
        let names : found.0.name ≡ name = one_number text sound found.0.name name p (subst (IsPoint text found.0.name) here l.stands.is) stands.is in
        ap (slice_get statuses) (sym names) ∙ begun.inside found.0 found.1;
    waiting = λ name e.
        elim (begun.others name Waiting e) [
          | inl apart ↦ cc
          | inr known ↦ (let apart = known.0 in cc)
        ];
    path = tt;
    follow = tt;
  }

  -- ---- a round, after some looks

  pub round_begins : (flops : List Flop) → AreLoaderFlops text flops → (statuses : List Status) → AreBegun flops statuses → HoldsClosed text (among text flops) →
      IsRound text flops 0 [] statuses
  round_begins flops are statuses begun holds = record {
    scene = begun_scene flops are;
    search = begun_search flops are statuses begun;
    all = λ p h. h;
    part = λ p h. h;
    holds = holds;
    left = λ p h. h;
    same = λ e p h. h;
    stay = λ e k f l. absurd (omega (arith, l));
    fewer = omega arith;
    loaders = λ f c. absurd (omega (arith, c.1));
  }

  module _ (flops : List Flop) (are : AreLoaderFlops text flops) (count : ℕ) (kept : List Flop) (old : List Status) (round : IsRound text flops count kept old)
      (f : Flop) (is : slice_get flops count ≡ Some f) (split : drop count flops ≡ f ∷ drop (count + 1) flops) where
    there : Contains flops f
    there = (count, slice_get_within flops count f is, get_or_from_slice_get flops count f f is)

    l : IsLoaderFlop text f
    l = are f there

    -- it stays
    pub round_keeps : (new : List Status) → IsSearch text round.scene new [] → ReadsWithin text round.scene.all f → IsRound text flops (count + 1) (kept ++ f ∷ []) new
    round_keeps new search within = record {
      scene = round.scene;
      search = search;
      all = round.all;
      part = round.part;
      holds = round.holds;
      left = λ p h.
          subst (λ xs. among text xs p ≡ true) (ap (λ xs. kept ++ xs) split ∙ sym (append_assoc kept (f ∷ []) (drop (count + 1) flops))) (round.left p h);
      same = λ e p h. round.same (omega (arith, e, length-append kept (f ∷ []))) p h;
      stay = λ e k g below at.
          elim (cases_eq k count) [
            | inl last ↦ subst (ReadsWithin text round.scene.all)
                (same_value (slice_get flops count) f g is (subst (λ n. slice_get flops n ≡ Some g) last at)) within
            | inr earlier ↦ round.stay (omega (arith, e, length-append kept (f ∷ []))) k g (omega (arith, below, earlier)) at
          ];
      fewer = omega (arith, round.fewer, length-append kept (f ∷ []));
      loaders = λ g c.
          elim (Contains-push_cases kept f g c) [
            | inl earlier ↦ round.loaders g earlier
            | inr last ↦ subst (IsLoaderFlop text) last l
          ];
    }

    -- it leaves
    module _ (middle : List Status) (search : IsSearch text round.scene middle []) (beyond : ReadsBeyond text round.scene.left f) where
      abbrev left_now : Point → Bool
      left_now p = round.scene.left p && not (is_bit_of text f.name p)

      left_parts : (p : Point) → left_now p ≡ true → (round.scene.left p ≡ true) × (is_bit_of text f.name p ≡ false)
      left_parts p h =
          let both = and_parts (round.scene.left p) (not (is_bit_of text f.name p)) h in (both.0, not-true (is_bit_of text f.name p) both.1)

      abbrev scene_now : Scene text
      scene_now = record {
        all = round.scene.all;
        left = left_now;
        sound = sound;
        flops = λ p h. round.scene.flops p (left_parts p h).0;
        alike = round.scene.alike;
      }

      search_now : f.name < length middle → IsSearch text scene_now (set middle f.name Outside) []
      search_now within = record {
        inside = λ name p stands e.
            elim (set_cases middle f.name name Outside Inside e) [
              | inl same ↦ (let apart = same.1 in cc)
              | inr apart ↦ search.inside name p stands apart.1
            ];
        outside = λ name p stands e.
            elim (set_cases middle f.name name Outside Outside e) [
              | inl same ↦ (let bit = bit_from f.name p p (subst (λ k. StandsFor text k p) same.0 stands) refl refl in
                  let gone : left_now p ≡ false = left_false p bit in
                  flop_outside text scene_now p (flop l.path l.clock l.next p.bit) (flop_drives f l p bit) tt gone)
              | inr apart ↦ (λ inside. search.outside name p stands apart.1 (within_more text (IsStream text) left_now round.scene.left (λ q h. (left_parts q h).0) p inside))
            ];
        flops = λ name p stands h.
            let parts = left_parts p h in
            elim (cases_eq name f.name) [
              | inl same ↦ absurd (false≢true (sym parts.1 ∙ bit_from f.name p p (subst (λ k. StandsFor text k p) same stands) refl refl))
              | inr apart ↦ get_set_other middle f.name name Outside apart ∙ search.flops name p stands parts.0
            ];
        waiting = λ name e.
            elim (set_cases middle f.name name Outside Waiting e) [
              | inl same ↦ (let apart = same.1 in cc)
              | inr apart ↦ search.waiting name apart.1
            ];
        path = tt;
        follow = tt;
      }
        where
          left_false : (p : Point) → is_bit_of text f.name p ≡ true → left_now p ≡ false
          left_false p bit =
              elim (cases_Bool (left_now p)) [
                | inl t ↦ absurd (false≢true (sym (left_parts p t).1 ∙ bit))
                | inr n ↦ n
              ]

      -- no closed set has it
      holds_now : HoldsClosed text left_now
      holds_now some closed p declared h =
          and_from (round.scene.left p) (not (is_bit_of text f.name p)) (round.holds some closed p declared h)
          (elim (cases_Bool (is_bit_of text f.name p)) [
            | inl bit ↦ absurd (refuted bit)
            | inr n ↦ not_from_false (is_bit_of text f.name p) n
          ])
        where
          refuted : is_bit_of text f.name p ≡ true → ⊥
          refuted bit =
              let c = closed p h in
              let q = beyond l.path l.next l.source in
              let one : flop l.path l.clock l.next p.bit ≡ flop c.path c.clock c.next c.bit = same_driver text sound p _ _ (flop_drives f l p bit) c.drives in
              let read : next_reads text (flop c.path c.clock c.next c.bit) q.0 ≡ true = subst (λ (d : Driver). next_reads text d q.0 ≡ true) one q.1 in
              q.2 (within_declared text some round.scene.left (λ r there g. round.holds some closed r there g) q.0 (c.inside q.0 read))

      pub round_drops : f.name < length middle → IsRound text flops (count + 1) kept (set middle f.name Outside)
      round_drops within = record {
        scene = scene_now;
        search = search_now within;
        all = round.all;
        part = λ p h. round.part p (left_parts p h).0;
        holds = holds_now;
        left = λ p h. others p h;
        same = λ e p h. absurd (omega (arith, e, round.fewer));
        stay = λ e k g below at. absurd (omega (arith, e, round.fewer));
        fewer = omega (arith, round.fewer);
        loaders = round.loaders;
      }
        where
          others : (p : Point) → left_now p ≡ true → among text (kept ++ drop (count + 1) flops) p ≡ true
          others p h =
              let parts = left_parts p h in
              let rest = drop (count + 1) flops in
              let found = found_flop (kept ++ f ∷ rest) p (subst (λ xs. among text (kept ++ xs) p ≡ true) split (round.left p parts.0)) in
              let apart : f ≡ found.0 → ⊥ = λ e. false≢true (sym parts.1 ∙ ap (λ (g : Flop). is_bit_of text g.name p) e ∙ found.2) in
              elim (Contains-append_cases kept (f ∷ rest) found.0 found.1) [
                | inl c ↦ among_from (kept ++ rest) found.0 p (Contains-append_left kept rest found.0 c) found.2
                | inr c ↦ among_from (kept ++ rest) found.0 p (Contains-append_right kept rest found.0 (contained_later f found.0 rest c apart)) found.2
              ]

  -- ---- a look at what a flip-flop reads

  pub read_there : (read : Point → Bool) (numbers : List ℕ) → AreReads text read numbers → (k n : ℕ) → slice_get numbers k ≡ Some n →
      (r : Point) × StandsFor text n r × (read r ≡ true)
  read_there read numbers all k n at = all.sound n (k, slice_get_within numbers k n at, get_or_from_slice_get numbers k n n at)

  module _ (scene : Scene text) (statuses : List Status) (search : IsSearch text scene statuses []) (f : Flop) (numbers : List ℕ)
      (all : (path : Path) (e : PlainExpr) → IsSource text f.next path e → AreReads text (expression_reads text path e) numbers) where
    pub read_within : AllInside text scene.all numbers (length numbers) → ReadsWithin text scene.all f
    read_within inside path e source p h =
        let declared = expression_declared text path e p h in
        let there = (all path e source).all p h declared in
        let at : slice_get numbers there.1.0 ≡ Some there.0 = slice_get-get_or numbers there.1.0 there.0 there.1.1 ∙ ap (λ (n : ℕ). Some n) there.1.2 in
        all_bits text sound scene.all scene.alike (point p.path p.name 0) p.bit declared
        (inside there.1.0 there.0 there.1.1 at (point p.path p.name 0) (record { is = there.2; first = refl }))

    pub read_beyond : (k n : ℕ) → slice_get numbers k ≡ Some n → slice_get statuses n ≡ Some Outside → ReadsBeyond text scene.left f
    read_beyond k n at gone path e source =
        let c : Contains numbers n = (k, slice_get_within numbers k n at, get_or_from_slice_get numbers k n n at) in
        let found = (all path e source).sound n c in
        (found.0, found.2, search.outside n found.0 found.1 gone)

  -- ---- the end of a round

  pub round_holds : (flops : List Flop) (count : ℕ) (kept : List Flop) (statuses : List Status) → IsRound text flops count kept statuses → length flops ≤ count →
      HoldsClosed text (among text kept)
  round_holds flops count kept statuses round end some closed p declared f =
      subst (λ xs. among text xs p ≡ true) (ap (λ xs. kept ++ xs) (drop_all count flops end) ∙ append-nil kept) (round.left p (round.holds some closed p declared f))

  pub round_closed : (flops : List Flop) → AreLoaderFlops text flops → (count : ℕ) (kept : List Flop) (statuses : List Status) → IsRound text flops count kept statuses →
      count ≡ length flops → length kept ≡ length flops → IsClosedSearch text statuses
  round_closed flops are count kept statuses round end long =
      let none : length kept ≡ count = omega (arith, end, long) in
      record {
        scene = round.scene;
        search = round.search;
        same = round.same none;
        closed = λ p h.
            let found = found_flop flops p (round.all p h) in
            let l = are found.0 found.1 in
            let at : slice_get flops found.1.0 ≡ Some found.0 = slice_get-get_or flops found.1.0 found.0 found.1.1 ∙ ap (λ (g : Flop). Some g) found.1.2 in
            record {
              path = l.path;
              clock = l.clock;
              next = l.next;
              bit = p.bit;
              drives = flop_drives found.0 l p found.2;
              clocked = l.clocked;
              inside = λ q r. round.stay none found.1.0 found.0 (omega (arith, found.1.1, end)) at l.path l.next l.source q r;
            };
        greatest = λ some closed p declared f. round.part p (round.holds some closed p declared f);
      }
