use Rattle.std.proofs.Common.{◌≡◌, ◌*◌, ◌-◌, ◌^◌, ◌≤◌, ◌∙◌, ap, sym, arith, ℕ, ltb}
use Rattle.fab_fasm.proofs.FirstDigits.{narrow_first, wide_first}
use Rattle.fab_fasm.proofs.leading.Leading.is_narrow.Goals as goal

pub returns-then-from-behind : goal.returns-then-from-behind
returns-then-from-behind c number begins =
    let weight : c.args.self.behind * c.from.result ≡ c.args.self.behind * c.args.width = ap (λ (n : ℕ). c.args.self.behind * n) c.from.ensures in
    sym (wide_first c.args.width c.args.self.digit c.args.self.behind number c.args.bits begins (omega (arith, weight)))

pub returns : goal.returns
returns c number begins =
    let weight : c.args.self.behind * c.from.result ≡ c.args.self.behind * c.args.width = ap (λ (n : ℕ). c.args.self.behind * n) c.from.ensures in
    let within : c.args.self.behind * c.args.width ≤ c.args.bits = omega (arith, weight) in
    let room : c.args.bits - c.args.self.behind * c.from.result ≡ c.args.bits - c.args.self.behind * c.args.width = ap (λ (n : ℕ). c.args.bits - n) weight in
    c.is_narrow.ensures ∙ ap (λ (n : ℕ). ltb n (2 ^ (c.args.bits - c.args.self.behind * c.from.result))) c.from-3.ensures ∙ ap (λ (n : ℕ). ltb c.args.self.digit (2 ^ n)) room
    ∙ narrow_first c.args.width c.args.self.digit c.args.self.behind number c.args.bits begins within
