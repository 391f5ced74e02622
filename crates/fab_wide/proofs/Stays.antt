-- A netlist without wide covers stays as it is.
use Rattle.std.proofs.Common.{◌≡◌, ℕ, zero, suc, ◌+◌, ◌≤◌, List, [], ◌∷◌, ◌++◌, replicate, length, Contains, refl, sym, ap, ◌∙◌, arith}
use Rattle.std.proofs.lemmas.Bool.{lt-ltb}
use Rattle.std.proofs.lemmas.List.{append-nil, nil_from_length, take_all}
use Rattle.fab_netlist.specs.Plain.{PlainCover}
use Rattle.fab_netlist.proofs.Members.{first_in, later_in}
use Rattle.fab_wide.specs.Split.{cover_with, taken, narrow, taken_by, parts, all_taken, all_parts}
use Rattle.fab_wide.specs.Laws.{SplitKeepsNarrow}

pub taken_none : (n table : ℕ) → n ≤ 4 → taken n table ≡ 0
taken_none zero table few = refl
taken_none (suc n) table few = rw (lt-ltb n 4 (omega (arith, few))) refl

pub narrow_one : (line : ℕ) (inputs : List ℕ) (n table output fresh : ℕ) → length inputs ≡ n → n ≤ 4 →
    narrow line inputs n table output fresh ≡ cover_with line inputs output table ∷ []
narrow_one line inputs zero table output fresh many few = ap (λ (nets : List ℕ). cover_with line nets output table ∷ []) (sym (nil_from_length inputs many))
narrow_one line inputs (suc n) table output fresh many few =
    rw (lt-ltb n 4 (omega (arith, few))) (ap (λ (nets : List ℕ). cover_with line nets output table ∷ []) (take_all (suc n) inputs (omega (arith, many))))

abbrev AllNarrow : List PlainCover → Type 0
AllNarrow covers = (cover : PlainCover) → Contains covers cover → length cover.inputs ≤ 4

none_taken : (covers : List PlainCover) → AllNarrow covers → all_taken covers ≡ 0
none_taken [] narrow_all = refl
none_taken (cover ∷ covers) narrow_all =
    omega (
      arith,
      taken_none (length cover.inputs) cover.table (narrow_all cover (first_in cover covers cover refl)),
      none_taken covers (λ c here. narrow_all c (later_in cover covers c here)),
    )

same_covers : (covers : List PlainCover) (fresh : ℕ) → AllNarrow covers → all_parts covers fresh ≡ covers
same_covers [] fresh narrow_all = refl
same_covers (cover ∷ covers) fresh narrow_all =
    let one : parts cover fresh ≡ cover ∷ [] =
    narrow_one cover.line cover.inputs (length cover.inputs) cover.table cover.output fresh refl (narrow_all cover (first_in cover covers cover refl)) in
    let rest = same_covers covers (taken_by cover + fresh) (λ c here. narrow_all c (later_in cover covers c here)) in
    λ j. one j ++ rest j

pub split_keeps_narrow : SplitKeepsNarrow
split_keeps_narrow netlist narrow_all =
    let nets : netlist.nets ++ replicate (all_taken netlist.covers) [] ≡ netlist.nets = ap (λ k. netlist.nets ++ replicate k [])
    (none_taken netlist.covers narrow_all) ∙ append-nil netlist.nets in
    let covers = same_covers netlist.covers (length netlist.nets) narrow_all in
    λ j. record { nets = nets j; inputs = netlist.inputs; outputs = netlist.outputs; covers = covers j; latches = netlist.latches; reset = netlist.reset }
