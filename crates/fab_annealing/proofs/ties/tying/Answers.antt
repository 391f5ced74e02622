use Rattle.std.proofs.Common.{◌⊎◌, ℕ, ◌+◌, ◌<◌, ◌++◌, List, [], ◌∷◌, length, get_or, sym, ◌∙◌, ap, subst, inl, inr, arith}
use Rattle.std.proofs.lemmas.List.Elements.{All-push, Contains-get_or, Contains-push, Contains-append_left}
use Rattle.std.specs.List.{All, Contains}
use Rattle.fab_annealing.specs.Measured.{nets_of}
use Rattle.fab_annealing.specs.inner.Tied.{AreDistinct, HasOther, IsAlone}
use Rattle.fab_annealing.proofs.Kept.{numbers_read}
use Rattle.fab_annealing.proofs.Tying.{contained, not_contained, distinct_more, whole_more, whole_all}
use Rattle.fab_annealing.proofs.ties.tying.Goals as goal

pub has_other-requires : goal.has_other-requires
has_other-requires c =
    let is = c.deref-net-items.ensures.value ∙ numbers_read c.args.nets.now.touching.items c.args.item c.index.result.now c.requires.item c.index.ensures in
    omega (
      arith,
      c.requires.nets.touched c.args.item c.requires.item c.loop-net.net-index 0 (omega (arith, c.loop-net-test.true, ap length is)),
      ap (λ (ns : List ℕ). get_or ns c.loop-net.net-index 0) is,
    )

pub loop-net-preserved-then-contains : goal.loop-net-preserved-then-contains
loop-net-preserved-then-contains c =
    let nets = c.args.nets.now in
    let at = c.loop-net.net-index in
    let ties = c.loop-net.ties.items in
    let inv = c.loop-net.invariant in
    let is = c.deref-net-items.ensures.value ∙ numbers_read nets.touching.items c.args.item c.index.result.now c.requires.item c.index.ensures in
    let among = contained c.deref.result.now ties (get_or c.deref-net-items.result.now at 0) c.contains.result c.deref.ensures.value c.contains.ensures.cases
    c.if-contains.true in
    record {
      touching = inv.touching;
      others = inv.others;
      distinct = inv.distinct;
      whole = whole_more nets c.args.item at (nets_of nets c.args.item) ties ties (λ net h. h)
          (inl (subst (λ net. Contains ties net) (ap (λ (ns : List ℕ). get_or ns at 0) is) among)) inv.whole;
    }

pub loop-net-preserved-then-not-has_other : goal.loop-net-preserved-then-not-has_other
loop-net-preserved-then-not-has_other c =
    let nets = c.args.nets.now in
    let at = c.loop-net.net-index in
    let ties = c.loop-net.ties.items in
    let inv = c.loop-net.invariant in
    let is = c.deref-net-items.ensures.value ∙ numbers_read nets.touching.items c.args.item c.index.result.now c.requires.item c.index.ensures in
    record {
      touching = inv.touching;
      others = inv.others;
      distinct = inv.distinct;
      whole = whole_more nets c.args.item at (nets_of nets c.args.item) ties ties (λ net h. h)
          (inr (subst (λ net. IsAlone nets c.args.item net) (ap (λ (ns : List ℕ). get_or ns at 0) is) (c.has_other.ensures.alone c.if-not-has_other.true)))
          inv.whole;
    }

pub loop-net-preserved : goal.loop-net-preserved
loop-net-preserved c =
    let nets = c.args.nets.now in
    let at = c.loop-net.net-index in
    let ties = c.loop-net.ties.items in
    let inv = c.loop-net.invariant in
    let net = get_or c.deref-net-items.result.now at 0 in
    let touching = nets_of nets c.args.item in
    let is = c.deref-net-items.ensures.value ∙ numbers_read nets.touching.items c.args.item c.index.result.now c.requires.item c.index.ensures in
    let net_is = ap (λ (ns : List ℕ). get_or ns at 0) is in
    let more = c.in_ok-push.ensures.items in
    let fresh = not_contained c.deref.result.now ties net c.contains.result c.deref.ensures.value c.contains.ensures.cases c.if-contains.false in
    let touches = subst (λ n. Contains touching n) (sym net_is) (Contains-get_or touching at 0 (omega (arith, c.loop-net-test.true, ap length is))) in
    record {
      touching = subst (λ (ns : List ℕ). All (λ n. Contains touching n) ns) (sym more) (All-push (λ n. Contains touching n) ties net inv.touching touches);
      others = subst (λ (ns : List ℕ). All (λ n. HasOther nets c.args.item n) ns) (sym more)
          (All-push (λ n. HasOther nets c.args.item n) ties net inv.others (c.has_other.ensures.other c.if-not-has_other.false));
      distinct = subst (λ (ns : List ℕ). AreDistinct ns) (sym more) (distinct_more ties net inv.distinct fresh);
      whole = subst (λ (ns : List ℕ). (k : ℕ) → k < at + 1 → Contains ns (get_or touching k 0) ⊎ IsAlone nets c.args.item (get_or touching k 0)) (sym more)
          (whole_more nets c.args.item at touching ties (ties ++ net ∷ []) (λ n h. Contains-append_left ties (net ∷ []) n h)
          (inl (subst (λ n. Contains (ties ++ net ∷ []) n) net_is (Contains-push ties net))) inv.whole);
    }

pub returns : goal.returns
returns c =
    let nets = c.args.nets.now in
    let inv = c.loop-net.invariant in
    let is = c.deref-net-items.ensures.value ∙ numbers_read nets.touching.items c.args.item c.index.result.now c.requires.item c.index.ensures in
    record {
      touching = inv.touching;
      others = inv.others;
      distinct = inv.distinct;
      whole = whole_all nets c.args.item (nets_of nets c.args.item) c.loop-net.ties.items
          (λ k low. inv.whole k (omega (arith, low, c.loop-net-test.false, ap length is)));
    }
