use Rattle.std.proofs.Common.{◌≡◌, ◌%◌, ◌∙◌, ap, ℕ}
use Rattle.fab_sample.specs.declared.net.Net.{Net}
use Rattle.fab_sample.specs.declared.design.Cover.{Cover}
use Rattle.fab_draws.specs.Draws.{word_at}
use Rattle.fab_sample.specs.Drawn.{net_at}
use Rattle.fab_draws.proofs.Drawing.{more_drawn, word_here}
use Rattle.fab_sample.proofs.design.draw_cover.Goals as goal

pub returns-clause-cover : goal.returns-clause-cover
returns-clause-cover c =
    let start = c.args.random.now in
    let net : ℕ → Net = λ word. net_at c.args.size (word % c.args.known) in
    let one = c.draw_net-first.ensures.rest in
    let two = more_drawn 1 1 start c.draw_net-first.new.random c.draw_net-second.new.random one c.draw_net-second.ensures.rest in
    let three = more_drawn 2 1 start c.draw_net-second.new.random c.draw_net-third.new.random two c.draw_net-third.ensures.rest in
    let second : c.draw_net-second.result ≡ net (word_at start 1) =
    c.draw_net-second.ensures.net ∙ ap net (word_here 1 start c.draw_net-first.new.random one) in
    let third : c.draw_net-third.result ≡ net (word_at start 2) =
    c.draw_net-third.ensures.net ∙ ap net (word_here 2 start c.draw_net-second.new.random two) in
    let table : c.draw_below-table.result ≡ word_at start 3 % 256 =
    c.draw_below-table.ensures.word ∙ ap (λ (word : ℕ). word % 256) (word_here 3 start c.draw_net-third.new.random three) in
    let of : Net → Net → Net → ℕ → Cover = λ a b d t. record { first = a; second = b; third = d; table = t } in
    ap (λ (a : Net). of a c.draw_net-second.result c.draw_net-third.result c.draw_below-table.result) c.draw_net-first.ensures.net
    ∙ ap (λ (b : Net). of (net (word_at start 0)) b c.draw_net-third.result c.draw_below-table.result) second
    ∙ ap (λ (d : Net). of (net (word_at start 0)) (net (word_at start 1)) d c.draw_below-table.result) third
    ∙ ap (λ (t : ℕ). of (net (word_at start 0)) (net (word_at start 1)) (net (word_at start 2)) t) table

pub returns-clause-rest : goal.returns-clause-rest
returns-clause-rest c =
    let start = c.args.random.now in
    let two = more_drawn 1 1 start c.draw_net-first.new.random c.draw_net-second.new.random c.draw_net-first.ensures.rest c.draw_net-second.ensures.rest in
    let three = more_drawn 2 1 start c.draw_net-second.new.random c.draw_net-third.new.random two c.draw_net-third.ensures.rest in
    more_drawn 3 1 start c.draw_net-third.new.random c.draw_below-table.new.random three c.draw_below-table.ensures.rest
