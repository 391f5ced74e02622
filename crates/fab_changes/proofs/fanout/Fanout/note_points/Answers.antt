use Rattle.std.proofs.Common.{◌+◌, ℕ, sym, ◌∙◌, subst, inl, inr, arith}
use Rattle.std.proofs.lemmas.Bool.{cases_eq}
use Rattle.fab_changes.specs.Fanout.{IsWatched}
use Rattle.fab_changes.proofs.Noting.{reads_then, watched_more}
use Rattle.fab_changes.proofs.fanout.Fanout.note_points.Goals as goal

pub loop-next-preserved : goal.loop-next-preserved
loop-next-preserved c =
    let inv = c.loop-next.invariant in
    let own = c.args.places.now.own.now in
    let leads = c.args.places.now.leads.now in
    let old = c.loop-next.self.readers.items in
    let new = c.note_point.new.self.readers.items in
    record {
      watched = λ k l. elim (cases_eq k c.loop-next.next) [
        | inl e ↦ subst (λ (n : ℕ). IsWatched own leads new c.args.reader (c.args.first + (c.args.place + n))) (sym e) c.in_ok-note_point.ensures.watched
        | inr n ↦ watched_more own leads old new c.args.reader (c.args.first + (c.args.place + k)) c.in_ok-note_point.ensures.more
            (inv.watched k (omega (arith, l, n)))
      ];
      more = reads_then c.args.self.now.readers.items old new inv.more c.in_ok-note_point.ensures.more;
      stale = c.note_point.ensures.stale ∙ inv.stale;
    }

pub returns-clause-watched : goal.returns-clause-watched
returns-clause-watched c = λ k l. c.loop-next.invariant.watched k (omega (arith, l, c.loop-next-test.false))
