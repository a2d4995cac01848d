use Rattle.std.proofs.Common.{length, sym, arith}
use Rattle.hash_store.proofs.Kept.{only_empty, taken_none, unfull_filled, settled_filled, unlike_filled, hashed_unfull}
use Rattle.hash_store.proofs.hash.HashStore.new.Goals as goal

pub invariant_of-result : goal.invariant_of-result
invariant_of-result g c =
    let xs = c.fill.new.self in
    let n = length c.args.places.lent.now in
    let filled = c.fill.ensures.after (only_empty _ (λ z. z) (λ _ _ _ z. z)) in
    let size = c.fill.ensures.len in
    let enough = c.args.places.enough in
    record { enough = omega (arith, size, enough); counted = sym (taken_none xs (λ j _. unfull_filled xs n filled j)); settled = settled_filled xs n filled; different = unlike_filled xs n filled g.K.PartialEq.eq }

pub returns-clause-empty : goal.returns-clause-empty
returns-clause-empty g c = hashed_unfull c.fill.new.self (unfull_filled c.fill.new.self (length c.args.places.lent.now) (c.fill.ensures.after (only_empty _ (λ z. z) (λ _ _ _ z. z)))) g.K.PartialEq.eq g.K.Key.hash
