use Rattle.std.proofs.Common.{rules}
use Rattle.list_store.proofs.Listed.{get_hit, get_missing}
use Rattle.list_store.proofs.list.methods.ListStoreStore.get.Goals as goal

pub returns : goal.returns
returns g c = let s = c.args.self.now in get_hit g.K.PartialEq.eq g.met.K.Eq.laws s.count s.entries.now c.args.key s.within c.in_ok-i.i c.in_ok-i.ensures c.index-self-i.result

pub returns-in_err-i : goal.returns-in_err-i
returns-in_err-i g c = let s = c.args.self.now in let none = get_missing g.K.PartialEq.eq g.met.K.Eq.laws s.count s.entries.now c.args.key s.within c.in_err-i.ensures in search rules
