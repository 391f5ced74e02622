use Rattle.std.proofs.Common.{◌≡◌, Bool, true, false, List, get_or, ◌++◌, Ok, sym, ap, ◌∙◌, refl}
use Rattle.std.specs.Prelude.{nat_eq}
use Rattle.std.specs.List.{list_any}
use Rattle.fab_tables.specs.declared.entry.Entry.{Entry}
use Rattle.fab_tables.specs.Config.{entry_bits, entries_with}
use Rattle.fab_tables.proofs.Chains.{judged_for}
use Rattle.fab_tables.proofs.Entries.{entry_more, twice_later, twice_here, twice_refused, all_entered, none_twice}
use Rattle.fab_tables.proofs.config.push_entries.Goals as goal

pub loop-place-preserved : goal.loop-place-preserved
loop-place-preserved c =
    let seen : List Entry → Bool = λ entries. list_any (λ entry. nat_eq (get_or c.args.bits.now c.loop-place.place 0) entry.bit) entries in
    let fresh : seen c.loop-place.entries.items ≡ false = sym (ap seen c.deref.ensures.value) ∙ sym c.is_placed.ensures ∙ c.if-is_placed.false in
    record {
      so_far = entry_more c.args.frame c.args.bits.now c.args.ones.now c.loop-place.place _ _ c.args.entries.now.items c.loop-place.entries.items c.push.new.self.items c.loop-place-test.true c.requires refl refl c.loop-place.invariant.so_far c.in_ok-push.ensures.items;
      twice = twice_later c.args.bits.now c.loop-place.place _ _ c.loop-place.entries.items c.push.new.self.items c.loop-place-test.true refl fresh c.in_ok-push.ensures.items ∙ c.loop-place.invariant.twice;
    }

pub returns-then-is_placed : goal.returns-then-is_placed
returns-then-is_placed c =
    let seen : List Entry → Bool = λ entries. list_any (λ entry. nat_eq (get_or c.args.bits.now c.loop-place.place 0) entry.bit) entries in
    let here : seen c.loop-place.entries.items ≡ true = sym (ap seen c.deref.ensures.value) ∙ sym c.is_placed.ensures ∙ c.if-is_placed.true in
    let twice = sym c.loop-place.invariant.twice ∙ twice_here c.args.bits.now c.loop-place.place _ c.loop-place.entries.items c.loop-place-test.true refl here in
    ap (λ why. judged_for why (c.args.entries.now.items ++ entries_with c.args.frame c.args.bits.now c.args.ones.now)) (twice_refused (entry_bits c.args.entries.now.items) c.args.bits.now twice)

pub returns : goal.returns
returns c =
    let none = none_twice c.args.bits.now c.loop-place.place (entry_bits c.args.entries.now.items) (entry_bits c.loop-place.entries.items) c.loop-place-test.false c.loop-place.invariant.twice in
    let all = all_entered c.args.frame c.args.bits.now c.args.ones.now c.loop-place.place c.args.entries.now.items c.loop-place.entries.items c.loop-place-test.false c.requires c.loop-place.invariant.so_far in
    λ j. judged_for (none j) (sym all j)
