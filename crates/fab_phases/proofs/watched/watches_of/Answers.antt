use Rattle.std.proofs.Common.{length, ap, ◌∙◌, arith, get_or}
use Rattle.std.proofs.lemmas.List.{length-replicate}
use Rattle.std.proofs.lemmas.Option.{slice_get-get_or, slice_get_within}
use Rattle.std.specs.Prelude.{true}
use Rattle.fab_phases.proofs.Enabling.{newly_stale, no_enable, watched_more}
use Rattle.fab_phases.proofs.watched.watches_of.Goals as goal

pub loop-number-preserved : goal.loop-number-preserved
loop-number-preserved c =
    let k = c.loop-number.number in
    let here = get_or c.args.enables.now k no_enable in
    record {
      stale = c.watch.ensures.stale ∙ c.loop-number.invariant.stale;
      so_far = watched_more c.args.network.now c.args.places.now.own.now c.args.places.now.leads.now c.args.enables.now c.loop-number.watches.readers.items
          c.watch.new.watches.readers.items k here (slice_get-get_or c.args.enables.now k no_enable c.loop-number-test.true) c.in_ok-watch.ensures.more
          c.in_ok-watch.ensures.watched c.loop-number.invariant.so_far;
    }

pub returns : goal.returns
returns c = record {
  long = ap length c.loop-number.invariant.stale ∙ length-replicate (length c.args.enables.now) true;
  watched = λ number enable at.
      let less = slice_get_within c.args.enables.now number enable at in c.loop-number.invariant.so_far number enable (omega arith) at;
  stale = newly_stale c.loop-number.watches (length c.args.enables.now) c.loop-number.invariant.stale;
}
