use Rattle.std.proofs.Common.{arith}
use Rattle.model.proofs.Walks.{passed_short}
use Rattle.declaring.proofs.dispatch.reach_of.Goals as goal

pub overflow_add-result : goal.overflow_add-result
overflow_add-result c = let l = passed_short c.args.scoping.now.scopes c.args.current.0 in let e = c.passed_count.ensures in let k = c.well_formed in omega arith
