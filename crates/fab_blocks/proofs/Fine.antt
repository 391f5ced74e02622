-- What holds of rows that are not refused, and of a block with one of them more.
use Rattle.std.proofs.Common.{◌≡◌, ℕ, ◌+◌, ◌*◌, ◌<◌, ◌≤◌, ◌==◌, ◌&&◌, ◌||◌, Bool, true, false, Option, Some, None, List, [], ◌∷◌, ◌++◌, map, length, refl, sym, ap, ◌∙◌, subst, arith, append-nil, append_assoc, length-append, take, get_or}
use Rattle.std.specs.Prelude.{not, nat_le, is_some, slice_get, if◌then◌else◌}
use Rattle.std.specs.Bool.{MatchBool}
use Rattle.std.specs.List.{flat_map, IsDistinct}
use Rattle.std.specs.Str.{bytes_eq}
use Rattle.std.proofs.lemmas.Bool.Decides.{nat_tests}
use Rattle.std.proofs.lemmas.List.Elements.{All-push}
use Rattle.std.proofs.lemmas.List.{take_more, map_push}
use Rattle.std.proofs.lemmas.Option.{get_or_from_slice_get}
use Rattle.fab_kinds.specs.declared.kind.Kind.{Kind}
use Rattle.fab_lines.specs.Numbers.{capped, is_number, number_of}
use Rattle.fab_paths.specs.Paths.{is_path}
use Rattle.fab_model.specs.declared.tiles.Bel.{Bel}
use Rattle.fab_model.specs.declared.tiles.Dir.{Dir}
use Rattle.fab_model.specs.declared.tiles.Dir.TheVariants as dirs
use Rattle.fab_model.specs.declared.tiles.WireRow.{WireRow}
use Rattle.fab_model.specs.Rows.{IsWireRow, is_jump, is_named, side_bits}
use Rattle.fab_names.specs.Names.{PlainFamily, PlainNames, numbered_names, names_of, all_names, with_sides, with_pins, side_families, come_twice}
use Rattle.fab_names.proofs.Families.{both_first, both_second}
use Rattle.fab_names.proofs.Twice.{distinct_sides, distinct_pins, names_of_append, length_sides, length_pins, length_numbered}
use Rattle.fab_blocks.specs.Cells.{is_negative, magnitude, is_zero, is_positive, is_signed, long_of, first_problem}
use Rattle.fab_blocks.specs.Blocks.{PlainBlock, IsBlock, names, row_names, bel_names, plain_names, row_families, source_of, dest_of, side_of, with_row, with_bel, with_matrix, new_block, IsKept}
use Rattle.fab_blocks.specs.Rows.{WireCells, span, has_numbers, has_sides, points, has_ends, is_constant, row_of, wire_reason, wire_problem, is_prefix, pins_of, bel_reason, kind_problem, bel_problem_of}
use Rattle.fab_blocks.proofs.Readings.{passed, failed, no_problem}

pub record IsFineWire (block : PlainBlock) (cells : WireCells) : Type 0 where
  pub numbers : has_numbers cells ≡ true
  pub fresh : come_twice (names block) (row_names (row_of cells)) ≡ false
  pub leads : points cells.dir cells.dx cells.dy ≡ true
  pub ends : has_ends (row_of cells) ≡ true

fine_reason : (block : PlainBlock) (cells : WireCells) → wire_reason block cells ≡ None → IsFineWire block cells
unfolding wire_reason
fine_reason block cells fine =
    let first = passed (has_numbers cells) _ _ fine in
    let second = passed (has_sides cells) _ _ first.1 in
    let third = failed (come_twice (names block) (row_names (row_of cells))) _ _ second.1 in
    let fourth = passed (points cells.dir cells.dx cells.dy) _ _ third.1 in
    let fifth = passed (has_ends (row_of cells)) _ None fourth.1 in
    record { numbers = first.0; fresh = third.0; leads = fourth.0; ends = fifth.0 }

pub fine_wire : (block : PlainBlock) (cells : WireCells) → wire_problem block cells ≡ None → IsFineWire block cells
fine_wire block cells fine = fine_reason block cells (no_problem (wire_reason block cells) (first_problem (long_of cells.source) (long_of cells.dest)) fine).0

-- a row of wires that is not refused has good numbers
pub fine_has_numbers : (block : PlainBlock) (cells : WireCells) → wire_problem block cells ≡ None → has_numbers cells ≡ true
fine_has_numbers block cells fine = (fine_wire block cells fine).numbers

-- ---- such a row is a row of wires

not_both : (a b : Bool) → not (a && b) ≡ true → a ≡ true → b ≡ false
not_both true true h is = absurd cc
not_both true false h is = refl
not_both false b h is = absurd cc

some_of : (n : ℕ) → (n == 0) ≡ false → 1 ≤ n
some_of n h = grind (arith, nat_tests)

none_of : (n : ℕ) → (n == 0) ≡ true → n ≡ 0
none_of n h = grind (arith, nat_tests)

negative_some : (cell : List ℕ) → is_signed cell ≡ true → is_negative cell ≡ true → 1 ≤ magnitude cell
unfolding is_signed
negative_some cell signed negative = some_of (magnitude cell) (not_both (is_negative cell) (is_zero cell) (both_second _ _ signed) negative)

not_true : (b : Bool) → not b ≡ true → b ≡ false
not_true true h = absurd cc
not_true false h = refl

positive_some : (cell : List ℕ) → is_positive cell ≡ true → 1 ≤ magnitude cell
positive_some cell positive = some_of (magnitude cell) (not_true (is_zero cell) (both_second (not (is_negative cell)) (not (is_zero cell)) positive))

span_by : (dir : Dir) (dx dy : List ℕ) → is_signed dx ≡ true → is_signed dy ≡ true → points dir dx dy ≡ true → magnitude dx + magnitude dy ≤ 31
    → MatchBool (is_jump dir) (magnitude dx + magnitude dy ≡ 0) ((1 ≤ magnitude dx + magnitude dy) × (magnitude dx + magnitude dy ≤ 31))
unfolding points
span_by dirs.North dx dy sx sy h small = let some = negative_some dy sy (both_second (is_zero dx) (is_negative dy) h) in (omega arith, small)
span_by dirs.East dx dy sx sy h small = let some = positive_some dx (both_first (is_positive dx) (is_zero dy) h) in (omega arith, small)
span_by dirs.South dx dy sx sy h small = let some = positive_some dy (both_second (is_zero dx) (is_positive dy) h) in (omega arith, small)
span_by dirs.West dx dy sx sy h small = let some = negative_some dx sx (both_first (is_negative dx) (is_zero dy) h) in (omega arith, small)
span_by dirs.Jump dx dy sx sy h small =
    let first = none_of (magnitude dx) (both_first (is_zero dx) (is_zero dy) h) in
    let second = none_of (magnitude dy) (both_second (is_zero dx) (is_zero dy) h) in
    omega arith

constant_named : (dest : Option (List ℕ)) → is_constant dest ≡ true → is_named dest ≡ true
constant_named None h = absurd cc
constant_named (Some name) h = refl

jump_named : (source dest : Option (List ℕ)) → (if is_named source then is_named dest else is_constant dest) ≡ true → is_named dest ≡ true
jump_named None dest h = constant_named dest h
jump_named (Some name) dest h = h

at_most : (n : ℕ) → nat_le n 31 ≡ true → n ≤ 31
at_most n h = grind (arith, nat_tests)

ends_of : (row : WireRow) (dir : Dir) → row.dir ≡ dir → has_ends row ≡ true
    → (if is_jump dir then (if is_named row.source then is_named row.dest else is_constant row.dest) else (is_named row.source || is_named row.dest)) ≡ true
unfolding has_ends
ends_of row dir is h = sym (ap (λ (d : Dir). if is_jump d then (if is_named row.source then is_named row.dest else is_constant row.dest) else (is_named row.source || is_named row.dest)) is) ∙ h

ends_by : (dir : Dir) (row : WireRow) → row.dir ≡ dir → has_ends row ≡ true → MatchBool (is_jump dir) (is_named row.dest ≡ true) ((is_named row.source || is_named row.dest) ≡ true)
unfolding has_ends
ends_by dirs.North row is h = ends_of row dirs.North is h
ends_by dirs.East row is h = ends_of row dirs.East is h
ends_by dirs.South row is h = ends_of row dirs.South is h
ends_by dirs.West row is h = ends_of row dirs.West is h
ends_by dirs.Jump row is h = jump_named row.source row.dest (ends_of row dirs.Jump is h)

number_parts : (cells : WireCells) → has_numbers cells ≡ true → (is_signed cells.dx ≡ true) × ((is_signed cells.dy ≡ true) × ((span cells ≤ 31) × (1 ≤ number_of cells.count)))
unfolding has_numbers
number_parts cells h =
    let counted = both_second (is_signed cells.dx && is_signed cells.dy && is_number cells.count && nat_le (span cells) 31) (not (number_of cells.count == 0)) h in
    let front = both_first (is_signed cells.dx && is_signed cells.dy && is_number cells.count && nat_le (span cells) 31) _ h in
    let short : nat_le (span cells) 31 ≡ true = both_second (is_signed cells.dx && is_signed cells.dy && is_number cells.count) _ front in
    let signed = both_first (is_signed cells.dx && is_signed cells.dy) _ (both_first (is_signed cells.dx && is_signed cells.dy && is_number cells.count) _ front) in
    (both_first (is_signed cells.dx) _ signed, (both_second (is_signed cells.dx) _ signed, (at_most (span cells) short, some_of (number_of cells.count) (not_true (number_of cells.count == 0) counted))))

fine_row : (block : PlainBlock) (cells : WireCells) → IsFineWire block cells → IsWireRow (row_of cells)
fine_row block cells fine =
    let parts = number_parts cells fine.numbers in
    record {
      has_wires = parts.1.1.1;
      span_is = span_by cells.dir cells.dx cells.dy parts.0 parts.1.0 fine.leads parts.1.1.0;
      has_ends = ends_by cells.dir (row_of cells) refl fine.ends;
    }

-- ---- a block with a row more

families_push : (rows : List WireRow) (row : WireRow) → flat_map row_families (rows ++ row ∷ []) ≡ flat_map row_families rows ++ row_families row
families_push [] row = append-nil (row_families row)
families_push (first ∷ rows) row = ap (λ (l : List PlainFamily). row_families first ++ l) (families_push rows row) ∙ sym (append_assoc (row_families first) (flat_map row_families rows) (row_families row))

abbrev with_families : PlainBlock → List PlainFamily → PlainNames
with_families block families = record { families = families; pins = flat_map bel_names block.bels }

pub names_with_row : (block : PlainBlock) (row : WireRow) → plain_names (with_row block row) ≡ with_sides (plain_names block) (source_of row) (dest_of row)
names_with_row block row = ap (λ (l : List PlainFamily). with_families block l) (families_push block.rows row)

fresh_sides : (block : PlainBlock) (row : WireRow) → come_twice (names block) (row_names row) ≡ false → come_twice (all_names (plain_names block)) (names_of (row_families row)) ≡ false
unfolding names row_names
fresh_sides block row h = h

apart_with_row : (block : PlainBlock) (row : WireRow) → IsDistinct bytes_eq (names block) → come_twice (names block) (row_names row) ≡ false → IsDistinct bytes_eq (names (with_row block row))
unfolding names
apart_with_row block row apart fresh =
    subst (λ (all : PlainNames). IsDistinct bytes_eq (all_names all)) (sym (names_with_row block row))
    (distinct_sides (plain_names block) (source_of row) (dest_of row) apart (fresh_sides block row fresh))

pub block_with_row : (block : PlainBlock) (cells : WireCells) → IsBlock block → wire_problem block cells ≡ None → IsBlock (with_row block (row_of cells))
block_with_row block cells is fine =
    let facts = fine_wire block cells fine in
    record {
      rows = All-push IsWireRow block.rows (row_of cells) is.rows (fine_row block cells facts);
      apart = apart_with_row block (row_of cells) is.apart facts.fresh;
      few_bels = is.few_bels;
    }

-- ---- a block with a BEL more

fresh_pins : (block : PlainBlock) (kind : Option Kind) (holder file prefix : List ℕ) → bel_reason block kind holder file prefix ≡ None → come_twice (names block) (pins_of kind prefix) ≡ false
unfolding bel_reason
fresh_pins block kind holder file prefix fine =
    let first = passed (is_path holder file) _ _ fine in
    let second = passed (is_prefix prefix) _ _ first.1 in
    (failed (come_twice (names block) (pins_of kind prefix)) _ _ second.1).0

few_of : (n : ℕ) → nat_le 26 n ≡ false → n < 26
few_of n h = grind (arith, nat_tests)

room_for_bel : (block : PlainBlock) (kind : Option Kind) (file prefix : List ℕ) → kind_problem block kind file prefix ≡ None → length block.bels < 26
unfolding kind_problem
room_for_bel block kind file prefix fine =
    let known = passed (is_some kind) _ _ fine in
    few_of (length block.bels) (failed (nat_le 26 (length block.bels)) _ _ known.1).0

bels_push : (bels : List Bel) (bel : Bel) → flat_map bel_names (bels ++ bel ∷ []) ≡ flat_map bel_names bels ++ bel_names bel
bels_push [] bel = append-nil (bel_names bel)
bels_push (first ∷ bels) bel = ap (λ (l : List (List ℕ)). bel_names first ++ l) (bels_push bels bel) ∙ sym (append_assoc (bel_names first) (flat_map bel_names bels) (bel_names bel))

abbrev with_pin_names : PlainBlock → List (List ℕ) → PlainNames
with_pin_names block pins = record { families = flat_map row_families block.rows; pins = pins }

pub names_with_bel : (block : PlainBlock) (bel : Bel) → plain_names (with_bel block bel) ≡ with_pins (plain_names block) (bel_names bel)
names_with_bel block bel = ap (λ (l : List (List ℕ)). with_pin_names block l) (bels_push block.bels bel)

fresh_names : (block : PlainBlock) (pins : List (List ℕ)) → come_twice (names block) pins ≡ false → come_twice (all_names (plain_names block)) pins ≡ false
unfolding names
fresh_names block pins h = h

apart_with_bel : (block : PlainBlock) (bel : Bel) → IsDistinct bytes_eq (names block) → come_twice (names block) (bel_names bel) ≡ false → IsDistinct bytes_eq (names (with_bel block bel))
unfolding names
apart_with_bel block bel apart fresh =
    subst (λ (all : PlainNames). IsDistinct bytes_eq (all_names all)) (sym (names_with_bel block bel))
    (distinct_pins (plain_names block) (bel_names bel) apart (fresh_names block (bel_names bel) fresh))

pub block_with_bel : (block : PlainBlock) (kind : Kind) (holder file prefix : List ℕ) → IsBlock block → bel_problem_of block (Some kind) holder file prefix ≡ None
    → IsBlock (with_bel block (record { kind = kind; prefix = prefix }))
block_with_bel block kind holder file prefix is fine =
    let parts = no_problem (bel_reason block (Some kind) holder file prefix) (kind_problem block (Some kind) file prefix) fine in
    let few = room_for_bel block (Some kind) file prefix parts.1 in
    record {
      rows = is.rows;
      apart = apart_with_bel block (record { kind = kind; prefix = prefix }) is.apart (fresh_pins block (Some kind) holder file prefix parts.0);
      few_bels = omega (arith, few, length-append block.bels (record { kind = kind; prefix = prefix } ∷ []));
    }

-- a BEL of an unknown kind is refused
pub known_kind : (block : PlainBlock) (holder file prefix : List ℕ) → bel_problem_of block None holder file prefix ≡ None → ⊥
unfolding kind_problem
known_kind block holder file prefix fine =
    let parts = no_problem (bel_reason block None holder file prefix) (kind_problem block None file prefix) fine in
    let refused = parts.1 in
    cc

-- ---- how many names

pub capped_more : (a b : ℕ) → capped (capped a + capped b) ≡ capped (a + b)
capped_more a b = omega arith

pub length_of_side : (family : PlainFamily) → length (names_of (side_families (Some family))) ≡ family.bits
length_of_side family = omega (arith, length_numbered family, length-append (numbered_names family) [])

regroup : (a b c : ℕ) → a + (b + c) ≡ a + b + c
regroup a b c = omega arith

pub count_with_row : (block : PlainBlock) (row : WireRow) (count : ℕ) → count ≡ capped (length (names block) + length (names_of (side_families (source_of row))) + length (names_of (side_families (dest_of row))))
    → count ≡ capped (length (names (with_row block row)))
unfolding names
count_with_row block row count is =
    let sides = names_of_append (side_families (source_of row)) (side_families (dest_of row)) in
    let long = length-append (names_of (side_families (source_of row))) (names_of (side_families (dest_of row))) in
    is ∙ ap capped (sym (ap (λ (all : PlainNames). length (all_names all)) (names_with_row block row) ∙ length_sides (plain_names block) (source_of row) (dest_of row)
    ∙ ap (λ (n : ℕ). length (all_names (plain_names block)) + n) (ap length sides ∙ long) ∙ regroup _ _ _))

pub count_with_bel : (block : PlainBlock) (bel : Bel) (count : ℕ) → count ≡ capped (length (names block) + length (bel_names bel)) → count ≡ capped (length (names (with_bel block bel)))
unfolding names
count_with_bel block bel count is =
    is ∙ ap capped (sym (ap (λ (all : PlainNames). length (all_names all)) (names_with_bel block bel) ∙ length_pins (plain_names block) (bel_names bel)))

-- ---- pins

pub pins_more : (names : List (List ℕ)) (prefix : List ℕ) (pin : ℕ) (name : List ℕ) → pin < length names → slice_get names pin ≡ Some name
    → map (λ (p : List ℕ). prefix ++ p) (take pin names) ++ (prefix ++ name) ∷ [] ≡ map (λ (p : List ℕ). prefix ++ p) (take (pin + 1) names)
pins_more names prefix pin name within is =
    ap (λ (n : List ℕ). map (λ (p : List ℕ). prefix ++ p) (take pin names) ++ (prefix ++ n) ∷ []) (sym (get_or_from_slice_get names pin name [] is))
    ∙ sym (ap (map (λ (p : List ℕ). prefix ++ p)) (take_more names pin [] within) ∙ map_push (λ (p : List ℕ). prefix ++ p) (take pin names) (get_or names pin []))

-- ---- a side of a row

abbrev some_family : (base : List ℕ) (bits : ℕ) → Option PlainFamily
some_family base bits = Some (record { base = base; bits = bits })

pub family_is : (row : WireRow) (side_now other : Option (List ℕ)) (name base : List ℕ) (factor count : ℕ) (family : PlainFamily) → side_now ≡ Some name → base ≡ name → count ≡ row.count
    → factor * row.count ≡ side_bits row (Some name) other → family ≡ record { base = base; bits = factor * count } → Some family ≡ side_of side_now (side_bits row side_now other)
family_is row side_now other name base factor count family named same counted bits is =
    ap (λ (f : PlainFamily). Some f) is
    ∙ ap (λ (b : List ℕ). some_family b (factor * count)) same
    ∙ ap (λ (n : ℕ). some_family name n) (ap (λ (n : ℕ). factor * n) counted ∙ bits)
    ∙ sym (ap (λ (s : Option (List ℕ)). side_of s (side_bits row s other)) named)

-- ---- what a block keeps

nothing_twice : IsDistinct bytes_eq []
unfolding IsDistinct
nothing_twice = tt

new_names : (name : List ℕ) → names (new_block name) ≡ []
unfolding names all_names
new_names name = refl

kept_none : (name : List ℕ) (kept : PlainNames) → kept ≡ record { families = []; pins = [] } → IsKept (new_block name) kept true 0
kept_none name kept is = record {
  is_block = record { rows = λ k d within. absurd (omega arith); apart = subst (IsDistinct bytes_eq) (sym (new_names name)) nothing_twice; few_bels = omega arith };
  same = λ h. is;
  counted = ap (λ (l : List (List ℕ)). capped (length l)) (sym (new_names name));
}

pub kept_new : (name : List ℕ) (rows : List WireRow) (bels : List Bel) (kept : PlainNames) → rows ≡ [] → bels ≡ [] → kept ≡ record { families = []; pins = [] }
    → IsKept (record { name = name; rows = rows; bels = bels; matrix = None }) kept true 0
kept_new name rows bels kept no_rows no_bels is =
    subst (λ (r : List WireRow). IsKept (record { name = name; rows = r; bels = bels; matrix = None }) kept true 0) (sym no_rows)
    (subst (λ (b : List Bel). IsKept (record { name = name; rows = []; bels = b; matrix = None }) kept true 0) (sym no_bels) (kept_none name kept is))

names_with_matrix : (block : PlainBlock) (found : List ℕ) → names (with_matrix block found) ≡ names block
unfolding names
names_with_matrix block found = refl

pub kept_matrix : (block : PlainBlock) (found : List ℕ) (kept : PlainNames) (is_whole : Bool) (count : ℕ) → IsKept block kept is_whole count → IsKept (with_matrix block found) kept is_whole count
kept_matrix block found kept is_whole count is = record {
  is_block = record { rows = is.is_block.rows; apart = subst (IsDistinct bytes_eq) (sym (names_with_matrix block found)) is.is_block.apart; few_bels = is.is_block.few_bels };
  same = is.same;
  counted = is.counted ∙ ap (λ (l : List (List ℕ)). capped (length l)) (sym (names_with_matrix block found));
}

pub kept_row : (block : PlainBlock) (row : WireRow) (rows : List WireRow) (kept : PlainNames) (is_whole : Bool) (count : ℕ) → rows ≡ block.rows ++ row ∷ [] → IsBlock (with_row block row)
    → count ≡ capped (length (names block) + length (names_of (side_families (source_of row))) + length (names_of (side_families (dest_of row))))
    → (is_whole ≡ true → kept ≡ with_sides (plain_names block) (source_of row) (dest_of row))
    → IsKept (record { name = block.name; rows = rows; bels = block.bels; matrix = block.matrix }) kept is_whole count
kept_row block row rows kept is_whole count pushed is counted same =
    subst (λ (r : List WireRow). IsKept (record { name = block.name; rows = r; bels = block.bels; matrix = block.matrix }) kept is_whole count) (sym pushed)
    (record { is_block = is; same = λ h. same h ∙ sym (names_with_row block row); counted = count_with_row block row count counted })

pub kept_bel : (block : PlainBlock) (bel : Bel) (bels : List Bel) (kept : PlainNames) (is_whole : Bool) (count : ℕ) → bels ≡ block.bels ++ bel ∷ [] → IsBlock (with_bel block bel)
    → count ≡ capped (length (names block) + length (bel_names bel))
    → (is_whole ≡ true → kept ≡ with_pins (plain_names block) (bel_names bel))
    → IsKept (record { name = block.name; rows = block.rows; bels = bels; matrix = block.matrix }) kept is_whole count
kept_bel block bel bels kept is_whole count pushed is counted same =
    subst (λ (b : List Bel). IsKept (record { name = block.name; rows = block.rows; bels = b; matrix = block.matrix }) kept is_whole count) (sym pushed)
    (record { is_block = is; same = λ h. same h ∙ sym (names_with_bel block bel); counted = count_with_bel block bel count counted })

pub capped_once : (a b : ℕ) → capped (capped a + b) ≡ capped (a + b)
capped_once a b = omega arith
