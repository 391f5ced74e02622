use Rattle.std.proofs.Common.{◌≡◌, length, rules}
use Rattle.fab_vread.proofs.Innermost.{popped}
use Rattle.fab_vread.proofs.levels.Levels.pop.Goals as goal

pub returns-in-None : goal.returns-in-None
returns-in-None c =
    let all : length c.args.self.now.passed.items ≡ 0 = search rules in
    let left_over : length c.pop.new.self.items ≡ 0 = search rules in
    popped _ _ _ _ c.pop_kept.result all left_over c.pop_kept.ensures.items c.pop_kept.ensures.lengths
