-- The design that lines lead to one after another, with the numbers that nets have in the end.
use Rattle.std.proofs.Common.{◌≡◌, ℕ, ◌+◌, Bool, true, false, ◌||◌, List, [], ◌∷◌, ◌++◌, map, flat_map, option_to_list, refl, sym, ap, ◌∙◌, inl, inr, arith, append_assoc, append-nil}
use Rattle.std.specs.List.{list_any, position_or_len}
use Rattle.std.proofs.lemmas.Bool.{cases_Bool, false≢true}
use Rattle.std.proofs.lemmas.Grind.{common_steps}
use Rattle.std.proofs.lemmas.List.Sums.{fold-append}
use Rattle.std.proofs.lemmas.Slice.Eq.{bytes_eq-Decides}
use Rattle.indexmap.specs.IndexSet.{insert_key, insert_all}
use Rattle.fab_blif.specs.declared.design.Use.{Use}
use Rattle.fab_blif.specs.Flat.{PlainNet, net_eq, Placed, placed_inputs, placed_outputs, placed_clock, copied_clock, placed_cover, placed_latch}
use Rattle.fab_blif.specs.Design.{PlainDesign, named, number_in, uses, inputs_by, outputs_by, clock_ports_by, covers_by, latches_by, latch_lines, clocks_by, design_of}
use Rattle.fab_blif.specs.inner.Walk.{net_numbers, used_at, clocked, after, after_all, nothing}

-- ---- places in lists that grow

stays_first : {X : Type 0} (p : X → Bool) (xs ys : List X) → list_any p xs ≡ true → position_or_len p (xs ++ ys) ≡ position_or_len p xs
stays_first p [] ys there = absurd (false≢true there)
stays_first p (x ∷ xs) ys there =
    elim (cases_Bool (p x)) [
      | inl t ↦ rw t refl
      | inr f ↦ (let rest : list_any p xs ≡ true = rw f at there in rw f (ap (λ n. 1 + n) (stays_first p xs ys rest)))
    ]

first_last : {X : Type 0} (p : X → Bool) (xs : List X) (x : X) → list_any p xs ≡ false → p x ≡ true → position_or_len p (xs ++ x ∷ []) ≡ position_or_len p xs
first_last p [] x none here = rw here refl
first_last p (y ∷ ys) x none here =
    elim (cases_Bool (p y)) [
      | inl t ↦ absurd (false≢true (sym none ∙ ap (λ b. b || list_any p ys) t))
      | inr f ↦ (let rest : list_any p ys ≡ false = rw f at none in rw f (ap (λ n. 1 + n) (first_last p ys x rest here)))
    ]

any_last : {X : Type 0} (p : X → Bool) (xs : List X) (x : X) → p x ≡ true → list_any p (xs ++ x ∷ []) ≡ true
any_last p [] x here = rw here refl
any_last p (y ∷ ys) x here =
    elim (cases_Bool (p y)) [
      | inl t ↦ rw t refl
      | inr f ↦ rw f (any_last p ys x here)
    ]

any_stays : {X : Type 0} (p : X → Bool) (xs ys : List X) → list_any p xs ≡ true → list_any p (xs ++ ys) ≡ true
any_stays p [] ys there = absurd (false≢true there)
any_stays p (x ∷ xs) ys there =
    elim (cases_Bool (p x)) [
      | inl t ↦ rw t refl
      | inr f ↦ (let rest : list_any p xs ≡ true = rw f at there in rw f (any_stays p xs ys rest))
    ]

pub net_eq_same : (net : PlainNet) → net_eq net net ≡ true
net_eq_same net = grind (arith, common_steps, bytes_eq-Decides)

-- ---- numbers

pub insert_keeps : (nets : List PlainNet) (net other : PlainNet) → list_any (net_eq net) nets ≡ true →
    (list_any (net_eq net) (insert_key net_eq nets other) ≡ true) × (number_in (insert_key net_eq nets other) net ≡ number_in nets net)
insert_keeps nets net other there =
    elim (cases_Bool (list_any (net_eq other) nets)) [
      | inl t ↦ rw t (there, refl)
      | inr f ↦ rw f (any_stays (net_eq net) nets (other ∷ []) there, stays_first (net_eq net) nets (other ∷ []) there)
    ]

all_keep : (nets more : List PlainNet) (net : PlainNet) → list_any (net_eq net) nets ≡ true → number_in (insert_all net_eq nets more) net ≡ number_in nets net
all_keep nets [] net there = refl
all_keep nets (other ∷ more) net there =
    let kept = insert_keeps nets net other there in
    all_keep (insert_key net_eq nets other) more net kept.0 ∙ kept.1

pub inserted : (nets : List PlainNet) (net : PlainNet) → (list_any (net_eq net) (insert_key net_eq nets net) ≡ true) × (number_in (insert_key net_eq nets net) net ≡ number_in nets net)
inserted nets net =
    elim (cases_Bool (list_any (net_eq net) nets)) [
      | inl t ↦ rw t (t, refl)
      | inr f ↦ rw f (any_last (net_eq net) nets net (net_eq_same net), first_last (net_eq net) nets net f (net_eq_same net))
    ]

-- the number that a net gets is its number in the end
number_last : (nets : List PlainNet) (net : PlainNet) (more : List PlainNet) → number_in nets net ≡ number_in (insert_all net_eq (insert_key net_eq nets net) more) net
number_last nets net more =
    let here = inserted nets net in
    sym (all_keep (insert_key net_eq nets net) more net here.0 ∙ here.1)

numbers_last : (nets names more : List PlainNet) → net_numbers nets names ≡ map (number_in (insert_all net_eq (insert_all net_eq nets names) more)) names
numbers_last nets [] more = refl
numbers_last nets (net ∷ names) more =
    let next = insert_key net_eq nets net in
    let final = insert_all net_eq (insert_all net_eq next names) more in
    let first : number_in nets net ≡ number_in final net = number_last nets net (names ++ more) ∙ ap (λ (all : List PlainNet). number_in all net) (fold-append (insert_key net_eq) next names more) in
    let rest : net_numbers next names ≡ map (number_in final) names = numbers_last next names more in
    λ j. first j ∷ rest j

uses_last : (line : ℕ) (nets names : List PlainNet) → used_at line (map (number_in nets) names) ≡ uses nets line names
uses_last line nets [] = refl
uses_last line nets (net ∷ names) = ap (λ (rest : List Use). record { line = line; net = number_in nets net } ∷ rest) (uses_last line nets names)

used_last : (line : ℕ) (nets names more : List PlainNet) → used_at line (net_numbers nets names) ≡ uses (insert_all net_eq (insert_all net_eq nets names) more) line names
used_last line nets names more = ap (used_at line) (numbers_last nets names more) ∙ uses_last line (insert_all net_eq (insert_all net_eq nets names) more) names

-- ---- a line

nets_after : (design : PlainDesign) (placed : Placed) → (after design placed).nets ≡ insert_all net_eq design.nets (named placed)
nets_after design (placed_inputs line names) = refl
nets_after design (placed_outputs line names) = refl
nets_after design (placed_clock line net) = refl
nets_after design (copied_clock line net) = refl
nets_after design (placed_cover line names output on rows) = sym (fold-append (insert_key net_eq) design.nets names (output ∷ []))
nets_after design (placed_latch line input output control initial) = refl

-- what a line adds, where nets have their numbers in the end
pub record Adds (design next : PlainDesign) (nets : List PlainNet) (placed : Placed) : Type 0 where
  pub inputs : next.inputs ≡ design.inputs ++ inputs_by nets placed
  pub outputs : next.outputs ≡ design.outputs ++ outputs_by nets placed
  pub clock_ports : next.clock_ports ≡ design.clock_ports ++ clock_ports_by nets placed
  pub covers : next.covers ≡ design.covers ++ covers_by nets placed
  pub latches : next.latches ≡ design.latches ++ latches_by nets placed
  pub latch_lines : next.latch_lines ≡ design.latch_lines ++ latch_lines placed
  pub clocks : next.clocks ≡ design.clocks ++ clocks_by nets placed

none_more : {X : Type 0} (xs : List X) → xs ≡ xs ++ []
none_more xs = sym (append-nil xs)

adds : (design : PlainDesign) (placed : Placed) (more : List PlainNet) → Adds design (after design placed) (insert_all net_eq (after design placed).nets more) placed
adds d (placed_inputs line names) more = record {
  inputs = ap (λ (us : List Use). d.inputs ++ us) (used_last line d.nets names more);
  outputs = none_more d.outputs;
  clock_ports = none_more d.clock_ports;
  covers = none_more d.covers;
  latches = none_more d.latches;
  latch_lines = none_more d.latch_lines;
  clocks = none_more d.clocks;
}
adds d (placed_outputs line names) more = record {
  inputs = none_more d.inputs;
  outputs = ap (λ (us : List Use). d.outputs ++ us) (used_last line d.nets names more);
  clock_ports = none_more d.clock_ports;
  covers = none_more d.covers;
  latches = none_more d.latches;
  latch_lines = none_more d.latch_lines;
  clocks = none_more d.clocks;
}
adds d (placed_clock line net) more = record {
  inputs = none_more d.inputs;
  outputs = none_more d.outputs;
  clock_ports = ap (λ (n : ℕ). d.clock_ports ++ record { line = line; net = n } ∷ []) (number_last d.nets net more);
  covers = none_more d.covers;
  latches = none_more d.latches;
  latch_lines = none_more d.latch_lines;
  clocks = refl;
}
adds d (copied_clock line net) more = record {
  inputs = none_more d.inputs;
  outputs = none_more d.outputs;
  clock_ports = none_more d.clock_ports;
  covers = none_more d.covers;
  latches = none_more d.latches;
  latch_lines = none_more d.latch_lines;
  clocks = refl;
}
adds d (placed_cover line names output on rows) more =
    let before = insert_all net_eq d.nets names in
    let ins : net_numbers d.nets names ≡ map (number_in (insert_all net_eq (insert_key net_eq before output) more)) names = numbers_last d.nets names (output ∷ more) in
    let out : number_in before output ≡ number_in (insert_all net_eq (insert_key net_eq before output) more) output = number_last before output more in
    record {
      inputs = none_more d.inputs;
      outputs = none_more d.outputs;
      clock_ports = none_more d.clock_ports;
      covers = λ j. d.covers ++ record { line = line; inputs = ins j; output = out j; on = on; rows = rows } ∷ [];
      latches = none_more d.latches;
      latch_lines = none_more d.latch_lines;
      clocks = none_more d.clocks;
    }
adds d (placed_latch line input output control initial) more =
    let first = insert_key net_eq d.nets input in
    let second = insert_key net_eq first output in
    let controls = option_to_list control in
    let final = insert_all net_eq (insert_all net_eq second controls) more in
    let same : insert_all net_eq second (controls ++ more) ≡ final = fold-append (insert_key net_eq) second controls more in
    let in_ : number_in d.nets input ≡ number_in final input = number_last d.nets input (output ∷ controls ++ more) ∙ ap (λ (all : List PlainNet). number_in all input) same in
    let out : number_in first output ≡ number_in final output = number_last first output (controls ++ more) ∙ ap (λ (all : List PlainNet). number_in all output) same in
    record {
      inputs = none_more d.inputs;
      outputs = none_more d.outputs;
      clock_ports = none_more d.clock_ports;
      covers = none_more d.covers;
      latches = λ j. d.latches ++ record { input = in_ j; output = out j; init = initial } ∷ [];
      latch_lines = refl;
      clocks = λ j. d.clocks ++ clocked line (record { input = in_ j; output = out j; init = initial }) controls;
    }

-- ---- a text

abbrev grown : PlainDesign → List Placed → PlainDesign
grown design text =
    let nets = insert_all net_eq design.nets (flat_map named text) in
    record {
      nets = nets;
      inputs = design.inputs ++ flat_map (inputs_by nets) text;
      outputs = design.outputs ++ flat_map (outputs_by nets) text;
      clock_ports = design.clock_ports ++ flat_map (clock_ports_by nets) text;
      covers = design.covers ++ flat_map (covers_by nets) text;
      latches = design.latches ++ flat_map (latches_by nets) text;
      latch_lines = design.latch_lines ++ flat_map latch_lines text;
      clocks = design.clocks ++ flat_map (clocks_by nets) text;
    }

one_more : {X : Type 0} (now next here : List X) (rest : List X) → next ≡ now ++ here → next ++ rest ≡ now ++ (here ++ rest)
one_more now next here rest added = ap (λ (xs : List _). xs ++ rest) added ∙ append_assoc now here rest

grown_more : (design : PlainDesign) (placed : Placed) (text : List Placed) → grown (after design placed) text ≡ grown design (placed ∷ text)
grown_more design placed text =
    let next = after design placed in
    let nets = insert_all net_eq next.nets (flat_map named text) in
    let final = insert_all net_eq design.nets (named placed ++ flat_map named text) in
    let a = adds design placed (flat_map named text) in
    let same : nets ≡ final =
    ap (λ (all : List PlainNet). insert_all net_eq all (flat_map named text)) (nets_after design placed) ∙ sym (fold-append (insert_key net_eq) design.nets (named placed) (flat_map named text)) in
    let by : List PlainNet → PlainDesign = λ ns. record {
      nets = ns;
      inputs = design.inputs ++ (inputs_by ns placed ++ flat_map (inputs_by ns) text);
      outputs = design.outputs ++ (outputs_by ns placed ++ flat_map (outputs_by ns) text);
      clock_ports = design.clock_ports ++ (clock_ports_by ns placed ++ flat_map (clock_ports_by ns) text);
      covers = design.covers ++ (covers_by ns placed ++ flat_map (covers_by ns) text);
      latches = design.latches ++ (latches_by ns placed ++ flat_map (latches_by ns) text);
      latch_lines = design.latch_lines ++ (latch_lines placed ++ flat_map latch_lines text);
      clocks = design.clocks ++ (clocks_by ns placed ++ flat_map (clocks_by ns) text);
    } in
    let here : grown next text ≡ by nets = λ j. record {
      nets = nets;
      inputs = one_more design.inputs next.inputs (inputs_by nets placed) (flat_map (inputs_by nets) text) a.inputs j;
      outputs = one_more design.outputs next.outputs (outputs_by nets placed) (flat_map (outputs_by nets) text) a.outputs j;
      clock_ports = one_more design.clock_ports next.clock_ports (clock_ports_by nets placed) (flat_map (clock_ports_by nets) text) a.clock_ports j;
      covers = one_more design.covers next.covers (covers_by nets placed) (flat_map (covers_by nets) text) a.covers j;
      latches = one_more design.latches next.latches (latches_by nets placed) (flat_map (latches_by nets) text) a.latches j;
      latch_lines = one_more design.latch_lines next.latch_lines (latch_lines placed) (flat_map latch_lines text) a.latch_lines j;
      clocks = one_more design.clocks next.clocks (clocks_by nets placed) (flat_map (clocks_by nets) text) a.clocks j;
    } in
    here ∙ ap by same

grown_all : (text : List Placed) (design : PlainDesign) → after_all design text ≡ grown design text
grown_all [] d = λ j. record {
  nets = d.nets;
  inputs = none_more d.inputs j;
  outputs = none_more d.outputs j;
  clock_ports = none_more d.clock_ports j;
  covers = none_more d.covers j;
  latches = none_more d.latches j;
  latch_lines = none_more d.latch_lines j;
  clocks = none_more d.clocks j;
}
grown_all (placed ∷ text) design = grown_all text (after design placed) ∙ grown_more design placed text

-- the design of a text
pub designed : (text : List Placed) → after_all nothing text ≡ design_of text
designed text = grown_all text nothing
