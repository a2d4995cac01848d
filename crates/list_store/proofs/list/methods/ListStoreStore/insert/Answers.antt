use Rattle.std.proofs.Common.{true, false, length, get_or, refl, ap, ◌∙◌, arith}
use Rattle.std.proofs.lemmas.List.{get_or_default, length-set}
use Rattle.std.proofs.lemmas.Bool.{eq-eqb, ne_eqb}
use Rattle.list_store.specs.declared.entry.Entry.{Entry}
use Rattle.list_store.specs.Found.{listed}
use Rattle.stores.proofs.Rooms.{by_test}
use Rattle.list_store.proofs.Listed.{apart_set, apart_push, hit_within, full_hit, full_missing, put_set, put_push}
use Rattle.list_store.proofs.list.methods.ListStoreStore.insert.Goals as goal

pub invariant_of-self : goal.invariant_of-self
invariant_of-self g c =
    let s = c.args.self.now in
    let xs = s.entries.now in
    let i = c.in-Some.i in
    let x = c.index-self-i.result in
    let l = hit_within g.K.PartialEq.eq g.met.K.Eq.laws s.count xs c.args.key s.within i c.in-Some.ensures in
    let y : Entry g.row.K.Denot = record { key = (get_or xs i x).key; number = c.args.number } in
    let size = length-set xs i y in
    record { enough = omega arith; within = omega arith; different = apart_set g.K.PartialEq.eq g.met.K.Eq.laws s.count xs c.args.key s.within i c.in-Some.ensures y (ap (λ z. z.key) (get_or_default xs i x y (omega arith))) s.different }

pub invariant_of-self-else-self : goal.invariant_of-self-else-self
invariant_of-self-else-self g c =
    let s = c.args.self.now in
    let xs = s.entries.now in
    let size = length-set xs s.count (record { key = c.args.key; number = c.args.number }) in
    record { enough = omega arith; within = omega arith; different = apart_push g.K.PartialEq.eq g.met.K.Eq.laws s.count xs c.args.key s.within c.in_default.ensures c.args.number (omega arith) s.different }

pub returns-in-Some : goal.returns-in-Some
returns-in-Some g c =
    let s = c.args.self.now in
    let xs = s.entries.now in
    let i = c.in-Some.i in
    let e = g.K.PartialEq.eq in
    let x = c.index-self-i.result in
    let y : Entry g.row.K.Denot = record { key = (get_or xs i x).key; number = c.args.number } in
    let l = hit_within e g.met.K.Eq.laws s.count xs c.args.key s.within i c.in-Some.ensures in
    let f = full_hit e g.met.K.Eq.laws s.count xs c.args.key s.within i c.in-Some.ensures (length xs) in
    let told = by_test e (listed e s.count xs) c.args.key c.args.number (length xs) false f in
    record {
      answer = told.0;
      after = put_set e g.met.K.Eq.laws s.count xs c.args.key s.within i c.in-Some.ensures y (ap (λ z. z.key) (get_or_default xs i x y (omega (arith, s.within))))
          ∙ told.1;
      places = length-set xs i y;
    }

pub returns-then-self : goal.returns-then-self
returns-then-self g c =
    let s = c.args.self.now in
    let xs = s.entries.now in
    let e = g.K.PartialEq.eq in
    let f = full_missing e g.met.K.Eq.laws s.count xs c.args.key s.within c.in_default.ensures (length xs) ∙ eq-eqb s.count (length xs) c.if-self.true in
    let told = by_test e (listed e s.count xs) c.args.key c.args.number (length xs) true f in
    record {
      answer = told.0;
      after = told.1;
      places = refl;
    }

pub returns-else-self : goal.returns-else-self
returns-else-self g c =
    let s = c.args.self.now in
    let xs = s.entries.now in
    let e = g.K.PartialEq.eq in
    let f = full_missing e g.met.K.Eq.laws s.count xs c.args.key s.within c.in_default.ensures (length xs) ∙ ne_eqb s.count (length xs) c.if-self.false in
    let told = by_test e (listed e s.count xs) c.args.key c.args.number (length xs) false f in
    record {
      answer = told.0;
      after = put_push e g.met.K.Eq.laws s.count xs c.args.key s.within c.in_default.ensures c.args.number (omega arith)
          ∙ told.1;
      places = length-set xs s.count (record { key = c.args.key; number = c.args.number });
    }
