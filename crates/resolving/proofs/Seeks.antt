-- The search along a lookup chain, and what it says in the reference machine's words.
use Rattle.std.proofs.Common.{◌≡◌, ℕ, Bool, true, false, cond, eqb, List, [], ◌∷◌, Some, None, Option, refl, arith, rules}
use Rattle.tables.specs.declared.id.ScopeId.{ScopeId}
use Rattle.tables.specs.declared.row.ScopeRow.{ScopeRow}
use Rattle.tables.specs.declared.row.ReferenceRow.{ReferenceRow}
use Rattle.tables.specs.declared.row.UnresolvedReference.{UnresolvedReference}
use Rattle.model.specs.Basics.{maybe, until, any}
use Rattle.model.specs.State.{Names, Uses, reference_row, use_flags}
use Rattle.model.specs.Scopes.{chain, is_below}
use Rattle.model.specs.Resolving.{ends_at, search, lookup_chain, has_ended, fate_here, fate_at_end, Fate as ModelFate, resolve_to, list_at_root, stay}
use Rattle.lookup.specs.Seeking.{seek}
use Rattle.lookup.specs.declared.sought.Sought.{Sought}
use Rattle.lookup.specs.declared.sought.Sought.TheVariants.{Found, Ended, Passed}
use Rattle.resolving.specs.Fates.{fate_in}
use Rattle.resolving.specs.declared.fate.EndOfScope.{EndOfScope}

-- the fate that a search comes to
abbrev pub sought_fate : Option EndOfScope → Sought → ModelFate
sought_fate end (Found s) = resolve_to s.0
sought_fate end Ended = list_at_root
sought_fate (Some end) Passed = stay end.parent.0
sought_fate None Passed = list_at_root

-- how far the lookup chain is searched
abbrev pub search_end : Option EndOfScope → Option ScopeId
search_end (Some end) = Some end.scope
search_end None = None

module _ (rows : List ScopeRow) (nm : Names) (name flags : ℕ) where
  abbrev ends : ℕ → Bool
  ends = ends_at rows name flags

  abbrev seen : Option ScopeId → List ℕ → Sought
  seen = seek rows nm name flags

  -- up to a scope

  module _ (end : EndOfScope) where
    abbrev fate_there : List ℕ → List ℕ → ModelFate
    fate_there found passed = maybe (search nm name flags found) (cond (any ends passed) list_at_root (stay end.parent.0)) resolve_to

    sought_here : (ps : List ℕ) →
        sought_fate (Some end) (seen (Some end.scope) ps) ≡ fate_there (until (eqb end.scope.0) (until ends ps)) (until (eqb end.scope.0) ps)
    unfolding search
    sought_here [] = refl
    sought_here (p ∷ ps) = let h = sought_here ps in grind (arith, rules)

  -- to the end of the lookup chain

  sought_at_end : (ps : List ℕ) → sought_fate None (seen None ps) ≡ maybe (search nm name flags (until ends ps)) list_at_root resolve_to
  unfolding search
  sought_at_end [] = refl
  sought_at_end (p ∷ ps) = let h = sought_at_end ps in grind (arith, rules)

-- entries from elsewhere stay as they are
abbrev pub is_looked_up : Option EndOfScope → List ScopeRow → ℕ → Bool
is_looked_up (Some end) rows s = is_below rows end.scope.0 s
is_looked_up None rows s = true

-- the fate that the search gives is the reference machine's
module _ (rows : List ScopeRow) (nm : Names) (us : Uses) (e : UnresolvedReference) where
  fate_sought : (end : Option EndOfScope) → is_looked_up end rows e.scope.0 ≡ true →
      sought_fate end (seek rows nm e.name.0 (use_flags us e.reference.0) (search_end end) (chain rows e.scope.0)) ≡ fate_in end rows nm us e
  unfolding fate_here fate_at_end has_ended lookup_chain
  fate_sought (Some end) h = rw h (sought_here rows nm e.name.0 (use_flags us e.reference.0) end (chain rows e.scope.0))
  fate_sought None h = sought_at_end rows nm e.name.0 (use_flags us e.reference.0) (chain rows e.scope.0)

  -- by the row, the end of the search and the search as the code reads them
  pub fate_told : (end : Option EndOfScope) (row : ReferenceRow) (last : Option ScopeId) (s : Sought) →
      is_looked_up end rows e.scope.0 ≡ true → row ≡ reference_row us e.reference.0 → last ≡ search_end end →
      s ≡ seek rows nm e.name.0 row.flags.0 last (chain rows e.scope.0) → sought_fate end s ≡ fate_in end rows nm us e
  fate_told end row last s up r l q = rw (q, r, l) (fate_sought end up)

  pub fate_elsewhere : (end : Option EndOfScope) → is_looked_up end rows e.scope.0 ≡ false → stay e.scope.0 ≡ fate_in end rows nm us e
  unfolding fate_here has_ended lookup_chain
  fate_elsewhere (Some end) h = rw h refl
  fate_elsewhere None h = let z : ◌≡◌ {A = ℕ} 0 1 = cc in absurd (omega arith)
