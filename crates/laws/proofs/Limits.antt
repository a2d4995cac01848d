-- No run goes past the limits.
use Rattle.std.proofs.Common.{◌≡◌, ℕ, ◌+◌, ◌-◌, ◌<◌, ◌≤◌, true, false, cond, not, ◌||◌, eqb, ltb, leb, List, [], ◌∷◌, length, Some, None, Ok, Err, Option, sym, refl, ap, ◌∙◌, subst, arith, length-append, ⊎_elim}
use Rattle.std.proofs.lemmas.Bool.{cases_Bool, or_parts, ltb-false, leb-false, lt-ltb, le-leb, cond-true}
use Rattle.std.proofs.lemmas.Bool.Decides.{nat_tests}
use Rattle.std.specs.List.{AllByRecursion}
use Rattle.std.proofs.lemmas.Option.{none-some}
use Rattle.tables.specs.Flags.{less, all_reference_flags}
use Rattle.tables.specs.declared.refusal.Refusal.{Refusal}
use Rattle.tables.specs.declared.refusal.Refusal.TheVariants.{UnlistedBits, UnknownKind, ModifierNotOfKind, SpanReversed, NoSuchScope, DeclarationsFull, ReferencesFull, StoreFull}
use Rattle.tables.specs.declared.row.UnresolvedReference.{UnresolvedReference}
use Rattle.model.specs.declared.call.Call.{Call}
use Rattle.model.specs.declared.call.Call.TheVariants.{EnterScope, LeaveScope, Bind, DeclareReference, ResolveReferences, ResolveAllReferences}
use Rattle.model.specs.declared.call.Declaration.{Declaration}
use Rattle.model.specs.declared.call.NewReference.{NewReference}
use Rattle.model.specs.Kinds.{kind_row, last_kind}
use Rattle.model.specs.Basics.{maybe}
use Rattle.model.specs.State.{Machine, Names, Uses, fresh}
use Rattle.model.specs.Resolving.{Fate, settle, settle_all, resolve_end, resolve_here}
use Rattle.model.specs.Calls.{Test, ◌if◌, first_of, most_references, refusal, granted, after, run, told, reach, declarations_full, stores_have_room, answer, granted_answer, builder_refusal, builder_after, builder_answer}
use Rattle.laws.specs.NeverFull.{NeverFull}
use Rattle.laws.proofs.Granting.{after_keeps}
use Rattle.laws.proofs.Runs.{run_good, fresh_good}
use Rattle.laws.proofs.Growing.{hoists, declare_grown}
use Rattle.laws.proofs.Numbering.{numbered_few}
use Rattle.laws.proofs.Single.{settle_rows}
use Rattle.laws.proofs.OnceRuns.{manner_here, always_ordered, rows_counted}

pub record Limited (m : Machine) : Type 0 where
  pub symbols : length m.names.symbols ≤ 512
  pub hoisted : m.names.hoisting.size ≤ 512
  pub references : length m.uses.references ≤ 512

-- no test holds of a call that is granted
none_holds : (ts : List Test) → first_of ts ≡ None → AllByRecursion (λ t. t.holds ≡ false) ts
none_holds [] e = tt
none_holds (t ∷ ts) e = ⊎_elim (λ b. absurd (none-some t.refusal (sym e ∙ cond-true t.holds (Some t.refusal) (first_of ts) b)))
    (λ b. (b, none_holds ts (sym (ap (λ x. cond x (Some t.refusal) (first_of ts)) b) ∙ e)))
    (cases_Bool t.holds)

-- a declaration hoists no more than it reaches
hoists_few : (m : Machine) (d : Declaration) → hoists (told m d) m.scopes m.current (manner_here m d) ≤ reach m d.kind
hoists_few m d = grind (arith, nat_tests)

-- what the tests leave
declaration_room : (m : Machine) (d : Declaration) → refusal m (Bind d) ≡ None → (length m.names.symbols < 512) × (m.names.hoisting.size + reach m d.kind ≤ 512)
unfolding refusal
declaration_room m d e =
    let f : declarations_full m d.kind ≡ false
    = (none_holds (UnknownKind if (eqb d.kind 0 || ltb last_kind d.kind) ∷ ModifierNotOfKind if not (eqb (less d.modifiers (kind_row d.kind).modifiers) 0)
    ∷ SpanReversed if ltb d.end d.start ∷ DeclarationsFull if declarations_full m d.kind ∷ []) e).1.1.1.0 in
    let g = or_parts (leb 512 (length m.names.symbols) || ltb 256 (length m.names.redeclarations + 2) || ltb 256 (length m.names.conflicts + reach m d.kind)) (ltb 512 (m.names.hoisting.size + reach m d.kind)) f in
    let h = or_parts (leb 512 (length m.names.symbols) || ltb 256 (length m.names.redeclarations + 2)) (ltb 256 (length m.names.conflicts + reach m d.kind)) g.0 in
    let i = or_parts (leb 512 (length m.names.symbols)) (ltb 256 (length m.names.redeclarations + 2)) h.0 in
    (leb-false 512 (length m.names.symbols) i.0, ltb-false 512 (m.names.hoisting.size + reach m d.kind) g.1)

reference_room : (m : Machine) (r : NewReference) → refusal m (DeclareReference r) ≡ None → length m.uses.references < 512
unfolding refusal
reference_room m r e =
    leb-false 512 (length m.uses.references)
    (none_holds (UnlistedBits if ltb all_reference_flags r.flags.0 ∷ NoSuchScope if leb (length m.scopes) r.scope.0 ∷ ReferencesFull if leb most_references (length m.uses.references) ∷ []) e).1.1.0

-- resolving leaves as many reference rows
settle_all_rows : (nm : Names) (fate : Uses → UnresolvedReference → Fate) (es : List UnresolvedReference) (us : Uses) → length (settle_all nm fate us es).references ≡ length us.references
unfolding settle_all
settle_all_rows nm fate [] us = refl
settle_all_rows nm fate (e ∷ es) us = settle_all_rows nm fate es (settle nm us e (fate us e)) ∙ settle_rows nm us e (fate us e)

granted_limited : (m : Machine) (c : Call) → refusal m c ≡ None → Limited m → Limited (granted m c)
unfolding granted resolve_here resolve_end
granted_limited m (EnterScope s) e l = record { symbols = l.symbols; hoisted = l.hoisted; references = l.references }
granted_limited m LeaveScope e l = record { symbols = l.symbols; hoisted = l.hoisted; references = l.references }
granted_limited m (Bind d) e l =
    let g = declare_grown (told m d) m.scopes m.current (manner_here m d) m.names in
    let a = g.few_symbols in let b = g.few_hoists in let few = hoists_few m d in let room = declaration_room m d e in
    record { symbols = omega arith; hoisted = omega arith; references = l.references }
granted_limited m (DeclareReference r) e l =
    let room = reference_room m r e in
    record { symbols = l.symbols; hoisted = l.hoisted; references = simp length-append (omega arith) }
granted_limited m (ResolveReferences start) e l =
    record { symbols = l.symbols; hoisted = l.hoisted; references = let a = settle_all_rows m.names _ _ _ in subst (λ n. n ≤ 512) (sym a) l.references }
granted_limited m ResolveAllReferences e l =
    record { symbols = l.symbols; hoisted = l.hoisted; references = let a = settle_all_rows m.names _ _ _ in subst (λ n. n ≤ 512) (sym a) l.references }

after_limited : (m : Machine) (c : Call) → Limited m → Limited (after m c)
after_limited m c l = after_keeps m c Limited (λ e. granted_limited m c e l) l

pub run_limited : (cs : List Call) (m : Machine) → Limited m → Limited (run m cs)
run_limited [] m l = l
run_limited (c ∷ cs) m l = run_limited cs (after m c) (after_limited m c l)

fresh_limited : (s : ℕ) → Limited (fresh s)
fresh_limited s = record { symbols = omega arith; hoisted = omega arith; references = omega arith }

room_for : (m : Machine) (c : Call) → m.names.bindings.size ≤ length m.names.symbols → m.uses.roots.size + length m.uses.pending ≤ 512 → refusal m c ≡ None → stores_have_room m c ≡ true
room_for m (EnterScope s) b r e = refl
room_for m LeaveScope b r e = refl
room_for m (Bind d) b r e = let room = (declaration_room m d e).0 in lt-ltb m.names.bindings.size 512 (omega arith)
room_for m (DeclareReference x) b r e = refl
room_for m (ResolveReferences start) b r e = le-leb (m.uses.roots.size + (length m.uses.pending - start)) 512 (omega arith)
room_for m ResolveAllReferences b r e = le-leb (m.uses.roots.size + length m.uses.pending) 512 r

-- where a call that is not refused has room, a builder refuses what the machine refuses
builder_refuses : (m : Machine) (c : Call) → (refusal m c ≡ None → stores_have_room m c ≡ true) → builder_refusal m c ≡ refusal m c
unfolding builder_refusal
builder_refuses m c room = go (refusal m c) room
  where
    go : (r : Option Refusal) → (r ≡ None → stores_have_room m c ≡ true) → maybe r (cond (stores_have_room m c) None (Some StoreFull)) Some ≡ r
    go None h = cond-true (stores_have_room m c) None (Some StoreFull) (h refl)
    go (Some n) h = refl

builder_goes_on : (m : Machine) (c : Call) → builder_refusal m c ≡ refusal m c → builder_after m c ≡ after m c
unfolding builder_after after
builder_goes_on m c e = ap (λ r. maybe r (granted m c) (λ n. m)) e

builder_answers : (m : Machine) (c : Call) → builder_refusal m c ≡ refusal m c → builder_answer m c ≡ answer m c
unfolding builder_answer answer
builder_answers m c e = ap (λ r. maybe r (Ok (granted_answer m c)) Err) e

pub never_full_law : NeverFull
never_full_law setting cs =
    let m = run (fresh setting) cs in
    let l : Limited m = run_limited cs (fresh setting) (fresh_limited setting) in
    let o = always_ordered setting cs in
    let b : m.names.bindings.size ≤ length m.names.symbols = (run_good cs (fresh setting) (fresh_good setting)).sound.no_more in
    let n : m.uses.roots.size ≤ 0 + length m.uses.root = numbered_few 0 m.uses.roots.size m.uses.root o.root_numbers.in_order in
    let all : length m.uses.references ≡ length m.uses.pending + length m.uses.resolved + length m.uses.root = rows_counted _ m o in
    let r : m.uses.roots.size + length m.uses.pending ≤ length m.uses.references = omega arith in
    let r' : m.uses.roots.size + length m.uses.pending ≤ 512 = omega arith in
    record {
      one_for_each_symbol = b;
      bindings = omega arith;
      hoisted = l.hoisted;
      one_for_each_reference = r;
      roots = r';
      for_call = λ c. room_for m c b r';
      same_after = λ c. builder_goes_on m c (builder_refuses m c (room_for m c b r'));
      same_answer = λ c. builder_answers m c (builder_refuses m c (room_for m c b r'));
    }
