use Rattle.std.proofs.Common.{◌≡◌, ℕ, ◌<◌, List, length, get_or, Some, None, Option, unwrap_or, refl, ap, arith, length-set}
use Rattle.tables.specs.EmptyRows.{no_scope}
use Rattle.tables.specs.Ids.{the_scope, scope_number}
use Rattle.tables.specs.Trees.{Tree}
use Rattle.tables.specs.declared.id.ScopeId.{ScopeId}
use Rattle.tables.specs.declared.row.ScopeRow.{ScopeRow}
use Rattle.builder.proofs.Kept.{kept_scopes}
use Rattle.builder.proofs.builder.calls.SemanticBuilderBinding.leave_scope.Goals as goal

-- a parent is there if its child is
parent_there : (rows : List ScopeRow) → Tree rows → (s : ℕ) → s < length rows → (o : Option ScopeId) → (get_or rows s no_scope).parent ≡ o → (unwrap_or o (the_scope 0)).0 < length rows
parent_there rows tree s h None e = omega arith
parent_there rows tree s h (Some p) e = let l = tree s p.0 (ap scope_number e) in omega arith

pub invariant_of-self : goal.invariant_of-self
invariant_of-self g c =
    let s = c.args.self.now in
    let t = s.names.scoping in
    let there = parent_there t.scopes c.scope_or_empty-left.ensures.tree s.current.0 s.kept.here (get_or t.scopes s.current.0 no_scope).parent refl in
    record {
      kept = rw (c.set_scope_flags.ensures.after, c.unwrap_or-parent.ensures, c.scope_or_empty-left.ensures.row) (kept_scopes s.current.0 _ t _ s.kept (simp length-set there));
    }
