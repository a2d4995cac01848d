use Rattle.std.proofs.Common.{◌≡◌, true, false, not, ◌&&◌, eqb, length, get_or, is_some, Err, sym, refl, ap, ◌∙◌, arith}
use Rattle.std.specs.Option.{ok_or}
use Rattle.std.proofs.lemmas.List.{length-set}
use Rattle.std.proofs.lemmas.Option.{MatchOption-at_some, MatchOption-at_none}
use Rattle.std.proofs.lemmas.Bool.{eq-eqb, ne_eqb}
use Rattle.std.proofs.lemmas.Result.{err_from_is_err_and, IfErr-at_err}
use Rattle.tables.specs.declared.refusal.Refusal.TheVariants.{StoreFull}
use Rattle.hash_store.specs.declared.slot.Slot.TheVariants.{Empty, Full}
use Rattle.stores.specs.Pairs.{full}
use Rattle.hash_store.specs.Slots.{hashed}
use Rattle.stores.proofs.Rooms.{by_test}
use Rattle.hash_store.proofs.Slotted.{matches_full}
use Rattle.hash_store.proofs.Kept.{taken_room, taken_all, taken_more, taken_same, only, held_here, held_none, settled_again, settled_new, unlike_new, put_again, put_new}
use Rattle.hash_store.proofs.hash.methods.HashStoreStore.insert.Goals as goal

pub invariant_of-self : goal.invariant_of-self
invariant_of-self g c =
    let s = c.args.self.now in
    let xs = s.slots.now in
    let i = c.in-Some.i in
    let k = c.args.key in
    let t = c.in-Some.ensures in
    let e = g.K.PartialEq.eq in
    let hash = g.K.Key.hash in
    let m = g.met.K.Key in
    let laws = g.met.K.Eq.laws in
    let h = c.hash_number-hash in
    let y = Full k h.result c.args.number in
    let size = length-set xs i y in
    let still = taken_same xs i y t.within (matches_full e (hash k) k (get_or xs i Empty) t.place) in record { enough = omega arith; counted = omega arith; settled = settled_again e hash laws m.hashes k h.result c.args.number xs i h.ensures t.within t.place s.settled; different = unlike_new e hash laws m.hashes k h.result c.args.number xs i h.ensures t.within (only e hash laws k xs i s.different t.place) s.different }

pub overflow_add-self : goal.overflow_add-self
overflow_add-self g c =
    let s = c.args.self.now in
    let told = c.in_ok-free.ensures.ok_part in
    let t = c.room.ensures in
    let within = MatchOption-at_some _ _ c.in_ok-free.free told t.within in
    let free = MatchOption-at_some _ _ c.in_ok-free.free told t.free in
    omega (arith, taken_room s.slots.now c.in_ok-free.free within free)

pub invariant_of-self-in_default : goal.invariant_of-self-in_default
invariant_of-self-in_default g c =
    let s = c.args.self.now in
    let xs = s.slots.now in
    let i = c.in_ok-free.free in
    let k = c.args.key in
    let told = c.in_ok-free.ensures.ok_part in
    let t = c.room.ensures in
    let within = MatchOption-at_some _ _ c.in_ok-free.free told t.within in
    let free = MatchOption-at_some _ _ c.in_ok-free.free told t.free in
    let way = MatchOption-at_some _ _ c.in_ok-free.free told t.way in
    let e = g.K.PartialEq.eq in
    let hash = g.K.Key.hash in
    let m = g.met.K.Key in
    let laws = g.met.K.Eq.laws in
    let h = c.hash_number-hash in
    let y = Full k h.result c.args.number in
    let size = length-set xs i y in
    let more = taken_more xs i y within free refl in record { enough = omega arith; counted = omega arith; settled = settled_new e hash laws m.hashes k h.result c.args.number xs i within way s.settled; different = unlike_new e hash laws m.hashes k h.result c.args.number xs i h.ensures within (λ j _. c.in_default.ensures.place j) s.different }

pub returns-in-Some : goal.returns-in-Some
returns-in-Some g c =
    let s = c.args.self.now in
    let xs = s.slots.now in
    let i = c.in-Some.i in
    let k = c.args.key in
    let t = c.in-Some.ensures in
    let e = g.K.PartialEq.eq in
    let hash = g.K.Key.hash in
    let m = g.met.K.Key in
    let laws = g.met.K.Eq.laws in
    let h = c.hash_number-hash in
    let f : full (hashed e hash s.count xs) (length xs) k ≡ false = ap (λ o. not (is_some o) && eqb s.count (length xs)) (held_here e hash k xs i t.place (only e hash laws k xs i s.different t.place)) in
    let said = by_test e (hashed e hash s.count xs) k c.args.number (length xs) false f in
    record {
      answer = said.0;
      after = put_again e hash laws m.hashes k h.result c.args.number s.count xs i h.ensures t.within s.different t.place
          ∙ said.1;
      places = length-set xs i (Full k h.result c.args.number);
    }

pub returns-in_ok-free : goal.returns-in_ok-free
returns-in_ok-free g c =
    let s = c.args.self.now in
    let xs = s.slots.now in
    let i = c.in_ok-free.free in
    let k = c.args.key in
    let told = c.in_ok-free.ensures.ok_part in
    let t = c.room.ensures in
    let within = MatchOption-at_some _ _ c.in_ok-free.free told t.within in
    let free = MatchOption-at_some _ _ c.in_ok-free.free told t.free in
    let none = c.in_default.ensures.place in
    let e = g.K.PartialEq.eq in
    let hash = g.K.Key.hash in
    let m = g.met.K.Key in
    let laws = g.met.K.Eq.laws in
    let h = c.hash_number-hash in
    let room = taken_room xs i within free in
    let f : full (hashed e hash s.count xs) (length xs) k ≡ false = ap (λ o. not (is_some o) && eqb s.count (length xs)) (held_none e hash k xs none) ∙ ne_eqb s.count (length xs) (λ z. omega arith) in
    let said = by_test e (hashed e hash s.count xs) k c.args.number (length xs) false f in
    record {
      answer = said.0;
      after = put_new e hash laws m.hashes k h.result c.args.number s.count xs i h.ensures within none free
          ∙ said.1;
      places = length-set xs i (Full k h.result c.args.number);
    }

pub returns-in_err-free : goal.returns-in_err-free
returns-in_err-free g c =
    let s = c.args.self.now in
    let xs = s.slots.now in
    let k = c.args.key in
    let e = g.K.PartialEq.eq in
    let hash = g.K.Key.hash in
    let told = c.in_err-free.ensures in
    let every = taken_all xs (MatchOption-at_none _ _ told.ok_part c.room.ensures.way) in
    let f : full (hashed e hash s.count xs) (length xs) k ≡ true = ap (λ o. not (is_some o) && eqb s.count (length xs)) (held_none e hash k xs c.in_default.ensures.place) ∙ eq-eqb s.count (length xs) (omega arith) in
    let p = err_from_is_err_and c.from_residual.result c.from_residual.ensures.1 in
    let refused = IfErr-at_err (λ y. y ≡ StoreFull) (sym (told.value ∙ ap (λ o. ok_or o StoreFull) told.ok_part)) refl in
    let said = by_test e (hashed e hash s.count xs) k c.args.number (length xs) true f in
    record {
      answer = p.1 ∙ ap Err (p.2 ∙ refused) ∙ said.0;
      after = said.1;
      places = refl;
    }
