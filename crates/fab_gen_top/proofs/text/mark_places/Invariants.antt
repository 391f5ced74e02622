use Rattle.std.proofs.Common.{◌≡◌, ℕ, ◌||◌, false, length, take, get_or, nat_eq}
use Rattle.std.specs.List.{list_any}
use Rattle.std.specs.Option.{option_map_or}
use Rattle.fab_gen_top.proofs.text.mark_places.Given as goal

-- the types of the places so far are marked
abbrev pub invariant-loop-place : goal.invariant-loop-place
invariant-loop-place l = record {
  len : length l.marks.items ≡ length l.initial.marks.items;
  each : (number : ℕ) → get_or l.marks.items number false
      ≡ (get_or l.initial.marks.items number false || list_any (λ place. option_map_or (nat_eq number) place false) (take l.place-index l.grid));
}
