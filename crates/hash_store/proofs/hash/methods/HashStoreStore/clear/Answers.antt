use Rattle.std.proofs.Common.{◌≡◌, length, sym, ap, ◌∙◌, arith}
use Rattle.hash_store.specs.Slots.{hashed}
use Rattle.hash_store.proofs.Kept.{only_empty, taken_none, unfull_taken, unfull_filled, settled_filled, unlike_filled, hashed_unfull}
use Rattle.hash_store.proofs.hash.methods.HashStoreStore.clear.Goals as goal

pub returns-then-self-eq0-clause-after : goal.returns-then-self-eq0-clause-after
returns-then-self-eq0-clause-after g c =
    let s = c.args.self.now in
    let xs = s.slots.now in
    let none : s.count ≡ 0 = omega arith in
    ap (λ n. hashed g.K.PartialEq.eq g.K.Key.hash n xs) none ∙ hashed_unfull xs (unfull_taken xs (sym s.counted ∙ none)) g.K.PartialEq.eq g.K.Key.hash

pub invariant_of-self : goal.invariant_of-self
invariant_of-self g c =
    let s = c.args.self.now in
    let xs = c.fill.new.self in
    let n = length s.slots.now in
    let filled = c.fill.ensures.after (only_empty _ (λ z. z) (λ _ _ _ z. z)) in
    let size = c.fill.ensures.len in
    record { enough = omega (arith, size, s.enough); counted = sym (taken_none xs (λ j _. unfull_filled xs n filled j)); settled = settled_filled xs n filled; different = unlike_filled xs n filled g.K.PartialEq.eq }

pub returns-clause-after : goal.returns-clause-after
returns-clause-after g c =
    let xs = c.fill.new.self in
    hashed_unfull xs (unfull_filled xs (length c.args.self.now.slots.now) (c.fill.ensures.after (only_empty _ (λ z. z) (λ _ _ _ z. z)))) g.K.PartialEq.eq g.K.Key.hash
