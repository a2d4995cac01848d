use Rattle.builder.specs.State.{view}
use Rattle.builder.proofs.KeptUses.{kept_as, resolve_here_keeps}
use Rattle.builder.proofs.Kept.{kept_resolved}
use Rattle.builder.proofs.builder.calls.SemanticBuilderBinding.resolve_references_for_current_scope.Goals as goal

pub invariant_of-self : goal.invariant_of-self
invariant_of-self g c =
    let s = c.args.self.now in
    let m = view s in
    record {
      kept = kept_resolved s.current.0 s.names.scoping c.resolve_from.new.scoping m.uses.roots _ s.kept c.resolve_from.ensures.rest
          (kept_as m.uses _ _ (c.resolve_from.ensures.after m.names.hoisting) (resolve_here_keeps m.scopes m.current m.names c.args.start m.uses));
    }
