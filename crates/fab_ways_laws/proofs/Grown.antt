-- A tree that grows by walks of least price: its edges are steps, no wire is entered twice, and each wire is reached.
use Rattle.std.proofs.Common.{◌≡◌, ◌⊎◌, ℕ, ◌+◌, ◌≤◌, true, false, if◌then◌else◌, List, [], ◌∷◌, ◌++◌, map, Contains, nat_eq, refl, sym, ap, ◌∙◌, subst, inl, inr, arith, eq-eqb, eqb-true, append_assoc, append-nil}
use Rattle.std.proofs.lemmas.Bool.{cases_Bool, cases_lt}
use Rattle.std.proofs.lemmas.List.{map-append}
use Rattle.fab_legal.specs.fab_model.specs.Grid.{PlainFabric}
use Rattle.fab_legal.specs.fab_fabric.specs.Wires.{numbered_wire}
use Rattle.fab_legal.specs.fab_fabric.specs.declared.wire.Wire.{Wire}
use Rattle.fab_legal.specs.fab_implementation.specs.Plain.{Edge, PlainImplementation}
use Rattle.fab_legal.specs.fab_netlist.specs.WellMade.{times}
use Rattle.fab_legal.specs.fab_netlist.proofs.Members.{in_none, first_or_later, first_in, later_in, in_left, in_right, mapped_in}
use Rattle.fab_legal.specs.fab_netlist.proofs.Counts.{times_joined, member_counts}
use Rattle.fab_legal.specs.Steps.{IsStep}
use Rattle.fab_legal.specs.Nets.{Net, IsRoot, entered_wires, Reached, root, step}
use Rattle.fab_legal.specs.inner.Tables.{entered_number, left_number}
use Rattle.fab_legal.proofs.Members.{in_either, from_mapped}
use Rattle.fab_ways_laws.specs.Routing.{Path, Paths, has, Walk, IsLeastWalk, MayBegin, AreGrown, wires_of}
use Rattle.fab_ways_laws.specs.Trees.{edge_into, edges_along, edges_of}
use Rattle.fab_ways_laws.specs.Routing.Walk.{begins, goes}
use Rattle.fab_ways_laws.proofs.Walks.{in_has, lacking, counted_in, once}

-- ---- the edges of a walk

module _ (fabric : PlainFabric) (tree : List ℕ) (IsStart : ℕ → Type 0) where
  abbrev pub start_of : {wire : ℕ} {path : Path} → Walk fabric tree IsStart wire path → ℕ
  start_of {wire} {path} (begins start) = wire
  start_of {wire} {path} (goes earlier taken free) = start_of earlier

  pub starts : {wire : ℕ} {path : Path} → (walk : Walk fabric tree IsStart wire path) → IsStart (start_of walk)
  starts {wire} {path} (begins start) = start
  starts {wire} {path} (goes earlier taken free) = starts earlier

  edge_is : {wire : ℕ} {path : Path} → Walk fabric tree IsStart wire path → (next : ℕ) → edge_into next path ≡ (numbered_wire wire, numbered_wire next) ∷ []
  edge_is {wire} {path} (begins start) next = refl
  edge_is {wire} {path} (goes earlier taken free) next = refl

  along : {wire : ℕ} {path : Path} → Walk fabric tree IsStart wire path → (next : ℕ) → edges_along (next ∷ path) ≡ edges_along path ++ (numbered_wire wire, numbered_wire next) ∷ []
  along {wire} {path} walk next = ap (λ (es : List Edge). edges_along path ++ es) (edge_is walk next)

  ends_in : {wire : ℕ} {path : Path} → Walk fabric tree IsStart wire path → Contains path wire
  ends_in {wire} {path} (begins start) = first_in wire [] wire refl
  ends_in {wire} {path} (goes {path = front} earlier taken free) = first_in wire front wire refl

  -- an edge of a walk is a step of the fabric to a wire that the tree lacks
  pub record IsAlong (path : Path) (edge : Edge) : Type 0 where
    pub is_step : IsStep fabric edge.0 edge.1
    pub free : has tree edge.1.0 ≡ false
    pub left_in : Contains path edge.0.0
    pub entered_in : Contains path edge.1.0

  pub each : {wire : ℕ} {path : Path} → Walk fabric tree IsStart wire path → (edge : Edge) → Contains (edges_along path) edge → IsAlong path edge
  each {wire} {path} (begins start) edge here = absurd (in_none edge here)
  each {wire} {path} (goes {wire = from} {path = front} earlier taken free) edge here =
      let last : Edge = (numbered_wire from, numbered_wire wire) in
      elim (in_either (edges_along front) (last ∷ []) edge (subst (λ (es : List Edge). Contains es edge) (along earlier wire) here)) [
        | inl before ↦ (
            let known = each earlier edge before in
            record { is_step = known.is_step; free = known.free; left_in = later_in wire front edge.0.0 known.left_in; entered_in = later_in wire front edge.1.0 known.entered_in })
        | inr now ↦ elim (first_or_later last [] edge now) [
          | inl same ↦ subst (λ (e : Edge). IsAlong (wire ∷ front) e) same
              (record { is_step = taken; free = free; left_in = later_in wire front from (ends_in earlier); entered_in = first_in wire front wire refl })
          | inr none ↦ absurd (in_none edge none)
        ]
      ]

  -- each wire but the first is entered
  pub start_times : {wire : ℕ} {path : Path} → (walk : Walk fabric tree IsStart wire path) → (w : ℕ) →
      times w (map entered_number (edges_along path)) + (if nat_eq (start_of walk) w then 1 else 0) ≡ times w path
  start_times {wire} {path} (begins start) w = omega arith
  start_times {wire} {path} (goes {wire = from} {path = front} earlier taken free) w =
      let last : Edge = (numbered_wire from, numbered_wire wire) in
      let split : times w (map entered_number (edges_along (wire ∷ front))) ≡ times w (map entered_number (edges_along front)) + times w (wire ∷ []) =
      ap (λ (es : List Edge). times w (map entered_number es)) (along earlier wire) ∙ ap (times w) (map-append entered_number (edges_along front) (last ∷ []))
      ∙ times_joined w (map entered_number (edges_along front)) (wire ∷ []) in
      omega (arith, split, start_times earlier w)

  -- the first wire is the last, or an edge leads from it
  pub leaves : {wire : ℕ} {path : Path} → (walk : Walk fabric tree IsStart wire path) → (start_of walk ≡ wire) ⊎ Contains (map left_number (edges_along path)) (start_of walk)
  leaves {wire} {path} (begins start) = inl refl
  leaves {wire} {path} (goes {wire = from} {path = front} earlier taken free) =
      let last : Edge = (numbered_wire from, numbered_wire wire) in
      let split : map left_number (edges_along (wire ∷ front)) ≡ map left_number (edges_along front) ++ from ∷ [] =
      ap (map left_number) (along earlier wire) ∙ map-append left_number (edges_along front) (last ∷ []) in
      inr (subst (λ (l : List ℕ). Contains l (start_of earlier)) (sym split)
      (elim (leaves earlier) [
        | inl same ↦ in_right (map left_number (edges_along front)) (from ∷ []) (start_of earlier) (first_in from [] (start_of earlier) (sym same))
        | inr before ↦ in_left (map left_number (edges_along front)) (from ∷ []) (start_of earlier) before
      ]))

  -- what reaches the first wire reaches all
  pub reach_walk : (edges : List Edge) {wire : ℕ} {path : Path} → (walk : Walk fabric tree IsStart wire path) → Reached edges (numbered_wire (start_of walk)) →
      ((e : Edge) → Contains (edges_along path) e → Contains edges e) → (w : ℕ) → Contains path w → Reached edges (numbered_wire w)
  reach_walk edges {wire} {path} (begins start) first all w here = elim (first_or_later wire [] w here) [
    | inl same ↦ subst (λ (v : ℕ). Reached edges (numbered_wire v)) same first
    | inr none ↦ absurd (in_none w none)
  ]
  reach_walk edges {wire} {path} (goes {wire = from} {path = front} earlier taken free) first all w here =
      let last : Edge = (numbered_wire from, numbered_wire wire) in
      let fewer : (e : Edge) → Contains (edges_along front) e → Contains edges e =
      λ e before. all e (subst (λ (es : List Edge). Contains es e) (sym (along earlier wire)) (in_left (edges_along front) (last ∷ []) e before)) in
      elim (first_or_later wire front w here) [
        | inl same ↦ subst (λ (v : ℕ). Reached edges (numbered_wire v)) same
            (step (numbered_wire from)
            (all last (subst (λ (es : List Edge). Contains es last) (sym (along earlier wire)) (in_right (edges_along front) (last ∷ []) last (first_in last [] last refl))))
            (reach_walk edges earlier first fewer from (ends_in earlier)))
        | inr later ↦ reach_walk edges earlier first fewer w later
      ]

-- ---- trees

pub record IsTree (fabric : PlainFabric) (i : PlainImplementation) (net : Net) (tree : List ℕ) (edges : List Edge) : Type 0 where
  pub steps : (e : Edge) → Contains edges e → IsStep fabric e.0 e.1
  pub left_in : (e : Edge) → Contains edges e → Contains tree e.0.0
  pub entered_in : (e : Edge) → Contains edges e → Contains tree e.1.0
  pub once : (w : ℕ) → times w (map entered_number edges) ≤ 1
  pub begun : (w : ℕ) → Contains tree w → Contains (map entered_number edges) w ⊎ IsRoot fabric i net (numbered_wire w)
  pub reached : (more : List Edge) → ((e : Edge) → Contains more e → Contains tree e.1.0 → ⊥) → (w : ℕ) → Contains tree w → Reached (edges ++ more) (numbered_wire w)
  pub stands : (w : ℕ) → Contains tree w → Contains (map left_number edges) w ⊎ Contains (map entered_number edges) w

module _ (fabric : PlainFabric) (i : PlainImplementation) (net : Net) where
  pub no_tree : IsTree fabric i net [] []
  no_tree = record {
    steps = λ e here. absurd (in_none e here);
    left_in = λ e here. absurd (in_none e here);
    entered_in = λ e here. absurd (in_none e here);
    once = λ w. omega arith;
    begun = λ w here. absurd (in_none w here);
    reached = λ more free w here. absurd (in_none w here);
    stands = λ w here. absurd (in_none w here);
  }

  module _ (price : ℕ → ℕ) (paid : (w : ℕ) → 1 ≤ price w) (tree : List ℕ) (edges : List Edge) (old : IsTree fabric i net tree edges) (sink : ℕ) (path : Path)
      (least : IsLeastWalk fabric tree (MayBegin fabric i net tree) price sink path) (unrooted : IsRoot fabric i net (numbered_wire sink) → ⊥) where
    abbrev From : ℕ → Type 0
    From w = MayBegin fabric i net tree w

    abbrev start : ℕ
    start = start_of fabric tree From least.0

    abbrev new : List Edge
    new = edges_along path

    entered_split : map entered_number (edges ++ new) ≡ map entered_number edges ++ map entered_number new
    entered_split = map-append entered_number edges new

    left_split : map left_number (edges ++ new) ≡ map left_number edges ++ map left_number new
    left_split = map-append left_number edges new

    entered_before : (w : ℕ) → Contains (map entered_number edges) w → Contains (map entered_number (edges ++ new)) w
    entered_before w here = subst (λ (l : List ℕ). Contains l w) (sym entered_split) (in_left (map entered_number edges) (map entered_number new) w here)

    entered_now : (w : ℕ) → Contains (map entered_number new) w → Contains (map entered_number (edges ++ new)) w
    entered_now w here = subst (λ (l : List ℕ). Contains l w) (sym entered_split) (in_right (map entered_number edges) (map entered_number new) w here)

    left_before : (w : ℕ) → Contains (map left_number edges) w → Contains (map left_number (edges ++ new)) w
    left_before w here = subst (λ (l : List ℕ). Contains l w) (sym left_split) (in_left (map left_number edges) (map left_number new) w here)

    left_now : (w : ℕ) → Contains (map left_number new) w → Contains (map left_number (edges ++ new)) w
    left_now w here = subst (λ (l : List ℕ). Contains l w) (sym left_split) (in_right (map left_number edges) (map left_number new) w here)

    twice : (w : ℕ) → times w path ≤ 1
    twice w = once fabric tree From price paid sink path least w

    new_free : (w : ℕ) → Contains (map entered_number new) w → has tree w ≡ false
    new_free w here =
        let from = from_mapped entered_number new w here in
        subst (λ (v : ℕ). has tree v ≡ false) from.2 (each fabric tree From least.0 from.0 from.1).free

    old_in : (w : ℕ) → Contains (map entered_number edges) w → Contains tree w
    old_in w here = let from = from_mapped entered_number edges w here in subst (λ (v : ℕ). Contains tree v) from.2 (old.entered_in from.0 from.1)

    entered_once : (w : ℕ) → times w (map entered_number (edges ++ new)) ≤ 1
    entered_once w =
        let sum : times w (map entered_number (edges ++ new)) ≡ times w (map entered_number edges) + times w (map entered_number new) =
        ap (times w) entered_split ∙ times_joined w (map entered_number edges) (map entered_number new) in
        let few : times w (map entered_number new) ≤ 1 = omega (arith, start_times fabric tree From least.0 w, twice w) in
        elim (cases_lt 0 (times w (map entered_number new))) [
          | inl some ↦ elim (cases_lt 0 (times w (map entered_number edges))) [
            | inl both ↦ absurd (lacking tree w (new_free w (counted_in w (map entered_number new) some)) (old_in w (counted_in w (map entered_number edges) both)))
            | inr none ↦ omega (arith, sum, few, none)
          ]
          | inr none ↦ omega (arith, sum, none, old.once w)
        ]

    start_or_entered : (w : ℕ) → Contains path w → (start ≡ w) ⊎ Contains (map entered_number new) w
    start_or_entered w here = elim (cases_Bool (nat_eq start w)) [
      | inl equal ↦ inl (eqb-true start w equal)
      | inr other ↦ (
          let t : times w (map entered_number new) + 0 ≡ times w path = rw other at (start_times fabric tree From least.0 w) in
          inr (counted_in w (map entered_number new) (omega (arith, t, member_counts w path here))))
    ]

    begun_on : (w : ℕ) → Contains (tree ++ path) w → Contains (map entered_number (edges ++ new)) w ⊎ IsRoot fabric i net (numbered_wire w)
    begun_on w here = elim (in_either tree path w here) [
      | inl before ↦ begun_old w before
      | inr now ↦ elim (start_or_entered w now) [
        | inl same ↦ subst (λ (v : ℕ). Contains (map entered_number (edges ++ new)) v ⊎ IsRoot fabric i net (numbered_wire v)) same
            (elim (starts fabric tree From least.0) [ inl in_tree ↦ begun_old start in_tree | inr is_root ↦ inr is_root ])
        | inr entered ↦ inl (entered_now w entered)
      ]
    ]
      where
        begun_old : (v : ℕ) → Contains tree v → Contains (map entered_number (edges ++ new)) v ⊎ IsRoot fabric i net (numbered_wire v)
        begun_old v there = elim (old.begun v there) [ inl entered ↦ inl (entered_before v entered) | inr is_root ↦ inr is_root ]

    stands_on : (w : ℕ) → Contains (tree ++ path) w → Contains (map left_number (edges ++ new)) w ⊎ Contains (map entered_number (edges ++ new)) w
    stands_on w here = elim (in_either tree path w here) [
      | inl before ↦ stands_old w before
      | inr now ↦ elim (start_or_entered w now) [
        | inl same ↦ subst (λ (v : ℕ). Contains (map left_number (edges ++ new)) v ⊎ Contains (map entered_number (edges ++ new)) v) same
            (elim (starts fabric tree From least.0) [
              | inl in_tree ↦ stands_old start in_tree
              | inr is_root ↦ elim (leaves fabric tree From least.0) [
                | inl ends ↦ absurd (unrooted (subst (λ (v : ℕ). IsRoot fabric i net (numbered_wire v)) ends is_root))
                | inr left ↦ inl (left_now start left)
              ]
            ])
        | inr entered ↦ inr (entered_now w entered)
      ]
    ]
      where
        stands_old : (v : ℕ) → Contains tree v → Contains (map left_number (edges ++ new)) v ⊎ Contains (map entered_number (edges ++ new)) v
        stands_old v there = elim (old.stands v there) [ inl left ↦ inl (left_before v left) | inr entered ↦ inr (entered_before v entered) ]

    module _ (more : List Edge) (apart : (e : Edge) → Contains more e → Contains (tree ++ path) e.1.0 → ⊥) where
      abbrev whole : List Edge
      whole = (edges ++ new) ++ more

      reached_old : (v : ℕ) → Contains tree v → Reached whole (numbered_wire v)
      reached_old v there =
          subst (λ (es : List Edge). Reached es (numbered_wire v)) (sym (append_assoc edges new more))
          (old.reached (new ++ more) (λ e here in_tree. elim (in_either new more e here) [
            | inl now ↦ lacking tree e.1.0 (each fabric tree From least.0 e now).free in_tree
            | inr later ↦ apart e later (in_left tree path e.1.0 in_tree)
          ]) v there)

      start_in : Contains path start
      start_in = counted_in start path (
          let t = start_times fabric tree From least.0 start in
          let equal : nat_eq start start ≡ true = eq-eqb start start refl in
          let u : times start (map entered_number new) + 1 ≡ times start path = rw equal at t in
          omega (arith, u))

      start_new : Contains (map entered_number new) start → ⊥
      start_new here =
          let t = start_times fabric tree From least.0 start in
          let equal : nat_eq start start ≡ true = eq-eqb start start refl in
          let u : times start (map entered_number new) + 1 ≡ times start path = rw equal at t in
          omega (arith, u, twice start, member_counts start (map entered_number new) here)

      unentered : has tree start ≡ false → Contains (entered_wires whole) (numbered_wire start) → ⊥
      unentered free here =
          let from = from_mapped (λ (e : Edge). e.1) whole (numbered_wire start) here in
          let same : from.0.1.0 ≡ start = ap (λ (w : Wire). w.0) from.2 in
          elim (in_either (edges ++ new) more from.0 from.1) [
            | inl grown ↦ elim (in_either edges new from.0 grown) [
              | inl before ↦ lacking tree start free (subst (λ (v : ℕ). Contains tree v) same (old.entered_in from.0 before))
              | inr now ↦ start_new (subst (λ (v : ℕ). Contains (map entered_number new) v) same (mapped_in entered_number new from.0 now))
            ]
            | inr later ↦ apart from.0 later (subst (λ (v : ℕ). Contains (tree ++ path) v) (sym same) (in_right tree path start start_in))
          ]

      reached_start : Reached whole (numbered_wire start)
      reached_start = elim (cases_Bool (has tree start)) [
        | inl in_tree ↦ reached_old start (in_has tree start in_tree)
        | inr free ↦ root (unentered free)
      ]

      reached_on : (w : ℕ) → Contains (tree ++ path) w → Reached whole (numbered_wire w)
      reached_on w here = elim (in_either tree path w here) [
        | inl before ↦ reached_old w before
        | inr now ↦ reach_walk fabric tree From whole least.0 reached_start (λ e on. in_left (edges ++ new) more e (in_right edges new e on)) w now
      ]

    pub grown_more : IsTree fabric i net (tree ++ path) (edges ++ new)
    grown_more = record {
      steps = λ e here. elim (in_either edges new e here) [ inl before ↦ old.steps e before | inr now ↦ (each fabric tree From least.0 e now).is_step ];
      left_in = λ e here. elim (in_either edges new e here) [
        | inl before ↦ in_left tree path e.0.0 (old.left_in e before)
        | inr now ↦ in_right tree path e.0.0 (each fabric tree From least.0 e now).left_in
      ];
      entered_in = λ e here. elim (in_either edges new e here) [
        | inl before ↦ in_left tree path e.1.0 (old.entered_in e before)
        | inr now ↦ in_right tree path e.1.0 (each fabric tree From least.0 e now).entered_in
      ];
      once = entered_once;
      begun = begun_on;
      reached = reached_on;
      stands = stands_on;
    }

  -- all walks of a net
  module _ (price : ℕ → ℕ) (paid : (w : ℕ) → 1 ≤ price w) where
    pub grown_tree : (tree : List ℕ) (edges : List Edge) (sinks : List ℕ) (paths : Paths) → IsTree fabric i net tree edges → AreGrown fabric i net price tree sinks paths →
        ((s : ℕ) → Contains sinks s → IsRoot fabric i net (numbered_wire s) → ⊥) → IsTree fabric i net (tree ++ wires_of paths) (edges ++ edges_of paths)
    grown_tree tree edges [] [] old grown unrooted =
        subst (λ (t : List ℕ). IsTree fabric i net t (edges ++ [])) (sym (append-nil tree)) (subst (λ (es : List Edge). IsTree fabric i net tree es) (sym (append-nil edges)) old)
    grown_tree tree edges [] (path ∷ paths) old grown unrooted = absurd grown
    grown_tree tree edges (sink ∷ sinks) [] old grown unrooted = absurd grown
    grown_tree tree edges (sink ∷ sinks) (path ∷ paths) old grown unrooted =
        let now = grown_more price paid tree edges old sink path grown.0 (unrooted sink (first_in sink sinks sink refl)) in
        let all = grown_tree (tree ++ path) (edges ++ edges_along path) sinks paths now grown.1 (λ s here. unrooted s (later_in sink sinks s here)) in
        subst (λ (t : List ℕ). IsTree fabric i net t (edges ++ edges_of (path ∷ paths))) (append_assoc tree path (wires_of paths))
        (subst (λ (es : List Edge). IsTree fabric i net ((tree ++ path) ++ wires_of paths) es) (append_assoc edges (edges_along path) (edges_of paths)) all)

    -- each sink has its walk
    pub sink_in : (tree : List ℕ) (sinks : List ℕ) (paths : Paths) → AreGrown fabric i net price tree sinks paths → (s : ℕ) → Contains sinks s → Contains (wires_of paths) s
    sink_in tree [] paths grown s here = absurd (in_none s here)
    sink_in tree (sink ∷ sinks) [] grown s here = absurd grown
    sink_in tree (sink ∷ sinks) (path ∷ paths) grown s here = elim (first_or_later sink sinks s here) [
      | inl same ↦ in_left path (wires_of paths) s (subst (λ (v : ℕ). Contains path v) same (ends_in fabric tree (MayBegin fabric i net tree) grown.0.0))
      | inr later ↦ in_right path (wires_of paths) s (sink_in (tree ++ path) sinks paths grown.1 s later)
    ]
