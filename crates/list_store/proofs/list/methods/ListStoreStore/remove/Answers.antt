use Rattle.std.proofs.Common.{refl, arith}
use Rattle.list_store.proofs.Listed.{apart_removed, drop_removed, drop_missing}
use Rattle.list_store.proofs.list.methods.ListStoreStore.remove.Goals as goal

pub invariant_of-self-in-Some : goal.invariant_of-self-in-Some
invariant_of-self-in-Some g c =
    let s = c.args.self.now in
    let w = c.copy_within.ensures in
    let same = w.len in
    record { enough = omega arith; within = omega arith; different = apart_removed g.K.PartialEq.eq g.met.K.Eq.laws s.count s.entries.now c.args.key s.within c.in-Some.i c.in-Some.ensures c.copy_within.new.self w.after s.different }

pub returns-in-Some : goal.returns-in-Some
returns-in-Some g c =
    let s = c.args.self.now in
    let w = c.copy_within.ensures in
    record { after = drop_removed g.K.PartialEq.eq g.met.K.Eq.laws s.count s.entries.now c.args.key s.within c.in-Some.i c.in-Some.ensures c.copy_within.new.self w.after s.different; places = w.len }

pub returns-in_default : goal.returns-in_default
returns-in_default g c =
    let s = c.args.self.now in
    record { after = drop_missing g.K.PartialEq.eq g.met.K.Eq.laws s.count s.entries.now c.args.key s.within c.in_default.ensures; places = refl }
