-- The search of the wires that are reached.
use Rattle.std.proofs.Common.{◌≡◌, ◌⊎◌, ◌↔◌, ℕ, ◌+◌, ◌<◌, Bool, true, false, List, [], ◌∷◌, ◌++◌, All, length, get_or, set, take, replicate, Contains, Some, slice_get, sym, ap, ◌∙◌, subst, inl, inr, arith}
use Rattle.std.proofs.lemmas.Bool.{cases_Bool, cases_eq, cases_lt, false≢true}
use Rattle.std.proofs.lemmas.List.{length-set, length-replicate, get_or-replicate, get_or-set_same, get_or-set_other, get_or_past}
use Rattle.std.proofs.lemmas.List.Elements.{All-contains}
use Rattle.std.proofs.lemmas.Option.{get_or_from_slice_get, slice_get_within}
use Rattle.fab_model.specs.Grid.{PlainFabric}
use Rattle.fab_fabric.specs.Fabric.{AreTiles, wire_count}
use Rattle.fab_fabric.specs.Wires.{numbered_wire}
use Rattle.fab_fabric.specs.declared.wire.Wire.{Wire}
use Rattle.fab_netlist.proofs.Members.{in_none, in_left, in_right}
use Rattle.fab_netlist.proofs.Stepping.{all_of}
use Rattle.fab_legal.proofs.Members.{in_either, in_pushed, last_in, still_in, in_taken}
use Rattle.fab_legal.specs.Steps.{IsStep}
use Rattle.fab_ways_laws.specs.Edges.{ends}
use Rattle.fab_ways_laws.proofs.Ends.{ends_are_steps}
use Rattle.fab_graph.specs.Reach.{IsReached, starts, goes, is_marked}
use Rattle.fab_graph.specs.inner.Search.{IsSearch, waiting_with}

same_wire : (a b : Wire) → a.0 ≡ b.0 → a ≡ b
same_wire a b same = ap numbered_wire same

-- ---- marks

pub marked_inside : (marks : List Bool) (wire : Wire) → is_marked marks wire ≡ true → wire.0 < length marks
marked_inside marks wire is = elim (cases_lt wire.0 (length marks)) [
  | inl inside ↦ inside
  | inr past ↦ absurd (false≢true (sym (get_or_past marks wire.0 false past) ∙ is))
]

pub marked_now : (marks : List Bool) (wire : Wire) → wire.0 < length marks → is_marked (set marks wire.0 true) wire ≡ true
marked_now marks wire inside = get_or-set_same marks wire.0 true false inside

pub stays_marked : (marks : List Bool) (wire other : Wire) → wire.0 < length marks → is_marked marks other ≡ true → is_marked (set marks wire.0 true) other ≡ true
stays_marked marks wire other inside is = elim (cases_eq other.0 wire.0) [
  | inl same ↦ subst (λ (n : ℕ). get_or (set marks wire.0 true) n false ≡ true) (sym same) (get_or-set_same marks wire.0 true false inside)
  | inr apart ↦ get_or-set_other marks wire.0 other.0 true false apart ∙ is
]

marked_before : (marks : List Bool) (wire other : Wire) → is_marked (set marks wire.0 true) other ≡ true → (is_marked marks other ≡ true) ⊎ (other ≡ wire)
marked_before marks wire other is = elim (cases_eq other.0 wire.0) [
  | inl same ↦ inr (same_wire other wire same)
  | inr apart ↦ inl (sym (get_or-set_other marks wire.0 other.0 true false apart) ∙ is)
]

-- ---- a search

module _ (fabric : PlainFabric) (from : List Wire) where
  abbrev AreMarked : List Bool → List Wire → Type 0
  AreMarked marks wires = All (λ wire. is_marked marks wire ≡ true) wires

  -- one more wire is marked
  marked_more : (marks : List Bool) (open_wires new : List Wire) (to : Wire) → IsSearch fabric from marks open_wires → to.0 < length marks → IsReached fabric from to →
      ((w : Wire) → Contains open_wires w → Contains new w) → ((w : Wire) → Contains new w → Contains open_wires w ⊎ (w ≡ to)) → (is_marked marks to ≡ false → Contains new to) →
      IsSearch fabric from (set marks to.0 true) new
  marked_more marks open_wires new to old inside reached more fewer waits_now = record {
    shape = length-set marks to.0 true ∙ old.shape;
    sound = λ w is. elim (marked_before marks to w is) [
      | inl before ↦ old.sound w before
      | inr same ↦ subst (λ (v : Wire). IsReached fabric from v) (sym same) reached
    ];
    waits = λ w here. elim (fewer w here) [
      | inl before ↦ stays_marked marks to w inside (old.waits w before)
      | inr same ↦ subst (λ (v : Wire). is_marked (set marks to.0 true) v ≡ true) (sym same) (marked_now marks to inside)
    ];
    closed = λ w is. elim (marked_before marks to w is) [
      | inl before ↦ closed_old w before
      | inr same ↦ elim (cases_Bool (is_marked marks to)) [
        | inl before ↦ subst (λ (v : Wire). Contains new v ⊎ ((end : Wire) → Contains (ends fabric v.0) end → is_marked (set marks to.0 true) end ≡ true)) (sym same) (closed_old to before)
        | inr fresh ↦ inl (subst (λ (v : Wire). Contains new v) (sym same) (waits_now fresh))
      ]
    ];
  }
    where
      closed_old : (w : Wire) → is_marked marks w ≡ true → Contains new w ⊎ ((end : Wire) → Contains (ends fabric w.0) end → is_marked (set marks to.0 true) end ≡ true)
      closed_old w before = elim (old.closed w before) [
        | inl waiting ↦ inl (more w waiting)
        | inr all ↦ inr (λ end here. stays_marked marks to end inside (all end here))
      ]

  in_waiting : (marks : List Bool) (waiting : List Wire) (to w : Wire) → Contains waiting w → Contains (waiting_with marks waiting to) w
  in_waiting marks waiting to w here = elim (cases_Bool (is_marked marks to)) [
    | inl t ↦ rw t here
    | inr f ↦ rw f (still_in waiting to w here)
  ]

  from_waiting : (marks : List Bool) (waiting : List Wire) (to w : Wire) → Contains (waiting_with marks waiting to) w → Contains waiting w ⊎ (w ≡ to)
  from_waiting marks waiting to w here = elim (cases_Bool (is_marked marks to)) [
    | inl t ↦ (let there : Contains waiting w = rw t at here in inl there)
    | inr f ↦ (
        let there : Contains (waiting ++ to ∷ []) w = rw f at here in
        elim (in_pushed waiting to w there) [ inl before ↦ inl before | inr same ↦ inr (sym same) ])
  ]

  new_waits : (marks : List Bool) (waiting : List Wire) (to : Wire) → is_marked marks to ≡ false → Contains (waiting_with marks waiting to) to
  new_waits marks waiting to f = rw f (last_in waiting to)

  -- a start is marked
  pub start_marked : (marks : List Bool) (waiting : List Wire) (to : Wire) → IsSearch fabric from marks waiting → to.0 < length marks → Contains from to →
      IsSearch fabric from (set marks to.0 true) (waiting_with marks waiting to)
  start_marked marks waiting to old inside here =
      marked_more marks waiting (waiting_with marks waiting to) to old inside (starts here) (in_waiting marks waiting to) (from_waiting marks waiting to) (new_waits marks waiting to)

  -- the end of an edge of a wire is marked
  pub end_marked : (marks : List Bool) (waiting : List Wire) (wire to : Wire) → AreTiles fabric → IsSearch fabric from marks (waiting ++ wire ∷ []) → to.0 < length marks → Contains (ends fabric wire.0) to →
      IsSearch fabric from (set marks to.0 true) (waiting_with marks waiting to ++ wire ∷ [])
  end_marked marks waiting wire to tiles old inside edge =
      let is : is_marked marks wire ≡ true = old.waits wire (last_in waiting wire) in
      let few : wire.0 < wire_count fabric = omega (arith, marked_inside marks wire is, old.shape) in
      let step : IsStep fabric wire to = (ends_are_steps fabric wire.0 to tiles few).0 edge in
      let new = waiting_with marks waiting to in
      marked_more marks (waiting ++ wire ∷ []) (new ++ wire ∷ []) to old inside (goes (old.sound wire is) step)
      (λ w here. elim (in_either waiting (wire ∷ []) w here) [
        | inl before ↦ in_left new (wire ∷ []) w (in_waiting marks waiting to w before)
        | inr last ↦ in_right new (wire ∷ []) w last
      ])
      (λ w here. elim (in_either new (wire ∷ []) w here) [
        | inl before ↦ elim (from_waiting marks waiting to w before) [ inl old_one ↦ inl (in_left waiting (wire ∷ []) w old_one) | inr same ↦ inr same ]
        | inr last ↦ inl (in_right waiting (wire ∷ []) w last)
      ])
      (λ f. in_left new (wire ∷ []) to (new_waits marks waiting to f))

  -- all ends of a wire are marked
  pub wire_done : (marks : List Bool) (waiting : List Wire) (wire : Wire) → IsSearch fabric from marks (waiting ++ wire ∷ []) → AreMarked marks (ends fabric wire.0) → IsSearch fabric from marks waiting
  wire_done marks waiting wire old all = record {
    shape = old.shape;
    sound = old.sound;
    waits = λ w here. old.waits w (still_in waiting wire w here);
    closed = λ w is. elim (old.closed w is) [
      | inl open_wire ↦ elim (in_pushed waiting wire w open_wire) [
        | inl here ↦ inl here
        | inr same ↦ inr (λ end here. All-contains (λ v. is_marked marks v ≡ true) (ends fabric wire.0) end all (subst (λ (v : Wire). Contains (ends fabric v.0) end) (sym same) here))
      ]
      | inr closed ↦ inr closed
    ];
  }

  -- nothing is marked yet
  pub no_marks : (n : ℕ) → n ≡ wire_count fabric → IsSearch fabric from (replicate n false) []
  no_marks n count = record {
    shape = length-replicate n false ∙ count;
    sound = λ w is. absurd (never w is);
    waits = λ w here. absurd (in_none w here);
    closed = λ w is. absurd (never w is);
  }
    where
      never : (w : Wire) → is_marked (replicate n false) w ≡ true → ⊥
      never w is =
          let inside = marked_inside (replicate n false) w is in
          false≢true (sym (get_or-replicate n w.0 false false (omega (arith, inside, length-replicate n false))) ∙ is)

  -- the marks at the end
  pub marks_are : AreTiles fabric → (marks : List Bool) → IsSearch fabric from marks [] → AreMarked marks from → (wire : Wire) → (is_marked marks wire ≡ true) ↔ IsReached fabric from wire
  marks_are tiles marks search begun wire = (search.sound wire, reached_marked wire)
    where
      reached_marked : (w : Wire) → IsReached fabric from w → is_marked marks w ≡ true
      reached_marked w (starts here) = All-contains (λ v. is_marked marks v ≡ true) from w begun here
      reached_marked w (goes {wire = v} earlier step) =
          let is = reached_marked v earlier in
          let few : v.0 < wire_count fabric = omega (arith, marked_inside marks v is, search.shape) in
          elim (search.closed v is) [
            | inl waiting ↦ absurd (in_none v waiting)
            | inr all ↦ all w ((ends_are_steps fabric v.0 w tiles few).1 step)
          ]

  -- one more end is marked
  pub more_marked : (marks : List Bool) (wires : List Wire) (n : ℕ) (to : Wire) → to.0 < length marks → slice_get wires n ≡ Some to → AreMarked marks (take n wires) → AreMarked (set marks to.0 true) (take (n + 1) wires)
  more_marked marks wires n to inside at before =
      all_of (λ w. is_marked (set marks to.0 true) w ≡ true) (take (n + 1) wires) (λ w here.
      elim (in_taken wires n to w (slice_get_within wires n to at, get_or_from_slice_get wires n to to at) here) [
        | inl earlier ↦ stays_marked marks to w inside (All-contains (λ v. is_marked marks v ≡ true) (take n wires) w before earlier)
        | inr same ↦ subst (λ (v : Wire). is_marked (set marks to.0 true) v ≡ true) same (marked_now marks to inside)
      ])

  -- ---- the turns

  pub end_inside : (marks : List Bool) (waiting wires : List Wire) (wire to : Wire) (n : ℕ) → IsSearch fabric from marks (waiting ++ wire ∷ []) → All (λ w. w.0 < wire_count fabric) (ends fabric wire.0) →
      wires ≡ ends fabric wire.0 → slice_get wires n ≡ Some to → to.0 < length marks
  end_inside marks waiting wires wire to n search within are at =
      let inside = slice_get_within wires n to at in
      let is : get_or wires n to ≡ to = get_or_from_slice_get wires n to to at in
      let low : to.0 < wire_count fabric = All-contains (λ w. w.0 < wire_count fabric) (ends fabric wire.0) to within (subst (λ (ws : List Wire). Contains ws to) are (n, inside, is)) in
      omega (arith, low, search.shape)

  pub wire_inside : (marks : List Bool) (waiting : List Wire) (wire : Wire) → IsSearch fabric from marks (waiting ++ wire ∷ []) → wire.0 < wire_count fabric
  wire_inside marks waiting wire search = omega (arith, marked_inside marks wire (search.waits wire (last_in waiting wire)), search.shape)

  pub end_turn : (marks new : List Bool) (waiting left : List Wire) (wires : List Wire) (wire to : Wire) (n : ℕ) → AreTiles fabric → IsSearch fabric from marks (waiting ++ wire ∷ []) → to.0 < length marks →
      wires ≡ ends fabric wire.0 → slice_get wires n ≡ Some to → new ≡ set marks to.0 true → left ≡ waiting_with marks waiting to → IsSearch fabric from new (left ++ wire ∷ [])
  end_turn marks new waiting left wires wire to n tiles search inside are at new_is left_is =
      let edge : Contains (ends fabric wire.0) to = subst (λ (ws : List Wire). Contains ws to) are (n, slice_get_within wires n to at, get_or_from_slice_get wires n to to at) in
      subst (λ (m : List Bool). IsSearch fabric from m (left ++ wire ∷ [])) (sym new_is)
      (subst (λ (l : List Wire). IsSearch fabric from (set marks to.0 true) (l ++ wire ∷ [])) (sym left_is) (end_marked marks waiting wire to tiles search inside edge))

  pub more_turn : (marks new : List Bool) (wires : List Wire) (n : ℕ) (to : Wire) → to.0 < length marks → slice_get wires n ≡ Some to → new ≡ set marks to.0 true → AreMarked marks (take n wires) →
      AreMarked new (take (n + 1) wires)
  more_turn marks new wires n to inside at new_is before =
      subst (λ (m : List Bool). AreMarked m (take (n + 1) wires)) (sym new_is) (more_marked marks wires n to inside at before)

  pub kept_turn : (marks new : List Bool) (to other : Wire) → to.0 < length marks → new ≡ set marks to.0 true → is_marked marks other ≡ true → is_marked new other ≡ true
  kept_turn marks new to other inside new_is is = subst (λ (m : List Bool). is_marked m other ≡ true) (sym new_is) (stays_marked marks to other inside is)

  pub start_turn : (marks new : List Bool) (waiting left : List Wire) (to : Wire) (n : ℕ) → IsSearch fabric from marks waiting → to.0 < length marks → n < length from → get_or from n to ≡ to → new ≡ set marks to.0 true →
      left ≡ waiting_with marks waiting to → IsSearch fabric from new left
  start_turn marks new waiting left to n search inside low at new_is left_is =
      subst (λ (m : List Bool). IsSearch fabric from m left) (sym new_is)
      (subst (λ (l : List Wire). IsSearch fabric from (set marks to.0 true) l) (sym left_is) (start_marked marks waiting to search inside (n, low, at)))

  pub more_start : (marks new : List Bool) (wires : List Wire) (n : ℕ) (to : Wire) → to.0 < length marks → n < length wires → get_or wires n to ≡ to → new ≡ set marks to.0 true → AreMarked marks (take n wires) →
      AreMarked new (take (n + 1) wires)
  more_start marks new wires n to inside low at new_is before =
      subst (λ (m : List Bool). AreMarked m (take (n + 1) wires)) (sym new_is)
      (all_of (λ w. is_marked (set marks to.0 true) w ≡ true) (take (n + 1) wires) (λ w here.
      elim (in_taken wires n to w (low, at) here) [
        | inl earlier ↦ stays_marked marks to w inside (All-contains (λ v. is_marked marks v ≡ true) (take n wires) w before earlier)
        | inr same ↦ subst (λ (v : Wire). is_marked (set marks to.0 true) v ≡ true) same (marked_now marks to inside)
      ]))
