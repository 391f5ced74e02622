use Rattle.std.proofs.Common.{◌≡◌, Err, refl, sym, ap, ◌∙◌}
use Rattle.fab_lines.specs.Order.{judged}
use Rattle.fab_tables.specs.inner.FollowingConfig.{table_of}
use Rattle.fab_tables.proofs.Entries.{table_none, table_more, all_more, not_placed}
use Rattle.fab_tables.proofs.config.table_from.Goals as goal

pub loop-bit-init : goal.loop-bit-init
loop-bit-init c = record { so_far = table_none c.args.entries.now c.new-places.result.items c.new-places.ensures.items; all = refl }

pub returns-in_default : goal.returns-in_default
returns-in_default c = ap (λ why. judged why (table_of c.args.tile_bits c.args.entries.now)) (not_placed c.args.entries.now c.args.tile_bits c.loop-bit.bit c.loop-bit-test.true (sym c.place_of.ensures ∙ c.in_default.is))

pub loop-bit-preserved : goal.loop-bit-preserved
loop-bit-preserved c = record {
  so_far = table_more c.args.entries.now c.loop-bit.places.items c.push.new.self.items c.loop-bit.bit c.in-Some.place c.loop-bit.invariant.so_far (sym c.place_of.ensures ∙ c.in-Some.is) c.in_ok-push.ensures.items;
  all = all_more c.args.entries.now c.loop-bit.bit c.in-Some.place c.loop-bit.invariant.all (sym c.place_of.ensures ∙ c.in-Some.is);
}
