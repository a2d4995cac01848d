-- What resolving does to the uses, entry by entry and in whole.
use Rattle.std.proofs.Common.{◌≡◌, ℕ, ◌+◌, ◌<◌, ◌≤◌, List, ◌∷◌, length, drop, Some, None, Option, sym, refl, ap, ◌∙◌, subst, ap₂, arith}
use Rattle.std.specs.List.{slice_get}
use Rattle.std.proofs.lemmas.List.{length-set, length-take-le, drop_all, drop_more, drop-set-lt}
use Rattle.std.proofs.lemmas.Grind.{drop_more_same}
use Rattle.std.proofs.lemmas.Option.{slice_get_within, get_or_from_slice_get}
use Rattle.tables.specs.declared.id.Name.{Name}
use Rattle.tables.specs.declared.row.ScopeRow.{ScopeRow}
use Rattle.tables.specs.declared.row.UnresolvedReference.{UnresolvedReference}
use Rattle.tables.specs.Contents.{Contents}
use Rattle.stores.specs.Pairs.{Pairs, no_pairs}
use Rattle.stores.specs.declared.key.ScopeAndName.{ScopeAndName}
use Rattle.model.specs.State.{Names, Uses}
use Rattle.model.specs.Resolving.{Fate as ModelFate, resolve_to, list_at_root, stay, deferred, settle, settle_all, fate_here, fate_at_end}
use Rattle.model.specs.View.{names_of, uses_of, beside_uses}
use Rattle.model.proofs.Growth.{Grown, grown}
use Rattle.resolving.specs.Fates.{fate_meant, fate_in, kept_by, pending_by, kept_front, symbols_of, resolve_by, Settled}
use Rattle.resolving.specs.declared.fate.Fate.{Fate}
use Rattle.resolving.specs.declared.fate.Fate.TheVariants.{Resolve, ListAtRoot, Stay}
use Rattle.resolving.specs.declared.fate.EndOfScope.{EndOfScope}

-- how the pending list is overwritten

kept_small : (f : Fate) (kept : ℕ) → kept_by f kept ≤ kept + 1
kept_small (Resolve s) kept = omega arith
kept_small ListAtRoot kept = omega arith
kept_small (Stay s) kept = omega arith

pending_length : (f : Fate) (ps : List UnresolvedReference) (kept : ℕ) (e : UnresolvedReference) → length (pending_by f ps kept e) ≡ length ps
pending_length (Resolve s) ps kept e = refl
pending_length ListAtRoot ps kept e = refl
pending_length (Stay s) ps kept e = length-set ps kept (deferred e s.0)

pending_drop : (f : Fate) (ps : List UnresolvedReference) (kept : ℕ) (e : UnresolvedReference) (k : ℕ) → kept < k → drop k (pending_by f ps kept e) ≡ drop k ps
pending_drop (Resolve s) ps kept e k h = refl
pending_drop ListAtRoot ps kept e k h = refl
pending_drop (Stay s) ps kept e k h = drop-set-lt k ps kept (deferred e s.0) h

-- settling reads only the symbols of the names
settle_by_symbols : (nm mm : Names) (us : Uses) (e : UnresolvedReference) (f : ModelFate) → nm.symbols ≡ mm.symbols → settle nm us e f ≡ settle mm us e f
unfolding settle
settle_by_symbols nm mm us e (resolve_to s) q = cc
settle_by_symbols nm mm us e list_at_root q = refl
settle_by_symbols nm mm us e (stay s) q = refl

-- and a fate only the references of the uses
fate_by_references : (end : Option EndOfScope) (rows : List ScopeRow) (nm : Names) (us vs : Uses) (e : UnresolvedReference) → us.references ≡ vs.references →
    fate_in end rows nm us e ≡ fate_in end rows nm vs e
unfolding fate_here fate_at_end
fate_by_references (Some end) rows nm us vs e q = cc
fate_by_references None rows nm us vs e q = cc

module _ (end : Option EndOfScope) (bindings : Pairs ScopeAndName) (start : ℕ) (old : Contents) (roots : Pairs Name) where
  -- the machine, with any hoisted variables
  abbrev the_names : Pairs ScopeAndName → Contents → Names
  the_names h c = names_of c bindings h

  abbrev machine_fate : Pairs ScopeAndName → Uses → UnresolvedReference → ModelFate
  machine_fate h = fate_in end old.scopes (the_names h old)

  abbrev settled_from : Pairs ScopeAndName → Uses → List UnresolvedReference → Uses
  settled_from h = settle_all (the_names h old) (machine_fate h)

  -- the entries from `start` to `k` are settled, and `kept` entries stay
  pub record ResolvedTo (new : Contents) (lists : Pairs Name) (kept k : ℕ) : Type 0 where
    pub same : (h : Pairs ScopeAndName) → settled_from h (kept_front (uses_of new lists) kept) (drop k old.pending) ≡ resolve_by end old.scopes (the_names h old) start (uses_of old roots)
    pub rest : beside_uses new ≡ beside_uses old
    pub ahead : drop k new.pending ≡ drop k old.pending
    pub long : length new.pending ≡ length old.pending
    pub high : kept ≤ k
    pub total : kept + length new.resolved + length new.root ≡ k + length old.resolved + length old.root
    pub resolved : length old.resolved ≤ length new.resolved
    pub root : length old.root ≤ length new.root
    pub size : lists.size + start ≤ roots.size + k

  pub resolved_to_more : (mid new : Contents) (lists next : Pairs Name) (kept m k : ℕ) (e : UnresolvedReference) (f : Fate) → ResolvedTo mid lists kept k →
      slice_get mid.pending k ≡ Some e → ((h : Pairs ScopeAndName) → fate_meant f ≡ fate_in end mid.scopes (the_names h mid) (uses_of mid no_pairs) e) →
      Settled mid lists new next e f kept m → ResolvedTo new next m (k + 1)
  unfolding settle_all
  resolved_to_more mid new lists next kept m k e f i q a s =
      let us = kept_front (uses_of mid lists) kept in
      let fate : (h : Pairs ScopeAndName) → fate_meant f ≡ machine_fate h us e =
      λ h. a h ∙ fate_by_references end mid.scopes (the_names h mid) (uses_of mid no_pairs) us e refl ∙ ap (λ (x : Contents). fate_in end x.scopes (the_names h x) us e) i.rest in
      let step : (h : Pairs ScopeAndName) → kept_front (uses_of new next) m ≡ settle (the_names h old) us e (machine_fate h us e) =
      λ h. s.after ∙ ap (settle (symbols_of mid) us e) (fate h) ∙ settle_by_symbols (symbols_of mid) (the_names h old) us e (machine_fate h us e) (ap (λ (x : Contents). x.symbols) i.rest) in
      let g : Grown us (kept_front (uses_of new next) m) = subst (Grown us) (sym (step no_pairs)) (grown (the_names no_pairs old) us e (machine_fate no_pairs us e)) in
      let small = kept_small f kept in
      let there = slice_get_within mid.pending k e q in
      let on = drop_more_same mid.pending old.pending k i.ahead in
      let d = sym i.ahead ∙ drop_more mid.pending k e there ∙ ap₂ (λ x xs. x ∷ xs) (get_or_from_slice_get mid.pending k e e q) on in
      let count = s.count in
      let high = i.high in
      let long : length new.pending ≡ length mid.pending = ap length s.pending ∙ pending_length f mid.pending kept e in
      let before = length-take-le kept mid.pending (omega arith) in
      let after = length-take-le m new.pending (omega arith) in
      record {
        same = λ h. ap (λ (u : Uses). settled_from h u (drop (k + 1) old.pending)) (step h) ∙ sym (ap (settled_from h us) d) ∙ i.same h;
        rest = s.rest ∙ i.rest;
        ahead = ap (drop (k + 1)) s.pending ∙ pending_drop f mid.pending kept e (k + 1) (omega arith) ∙ on;
        long = long ∙ i.long;
        high = omega arith;
        total = omega (arith, g.total, i.total);
        resolved = omega (arith, g.resolved, i.resolved);
        root = omega (arith, g.root, i.root);
        size = omega (arith, g.size, i.size);
      }

  pub resolved_to_all : (new : Contents) (lists : Pairs Name) (kept k : ℕ) → ResolvedTo new lists kept k → length old.pending ≤ k →
      (h : Pairs ScopeAndName) → kept_front (uses_of new lists) kept ≡ resolve_by end old.scopes (the_names h old) start (uses_of old roots)
  unfolding settle_all
  resolved_to_all new lists kept k i l h = sym (ap (settled_from h (kept_front (uses_of new lists) kept)) (drop_all k old.pending l)) ∙ i.same h
