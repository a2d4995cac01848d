use Rattle.builder.specs.State.{view}
use Rattle.builder.proofs.KeptUses.{kept_as, resolve_end_keeps}
use Rattle.builder.proofs.Kept.{kept_resolved}
use Rattle.builder.proofs.builder.calls.SemanticBuilderBinding.resolve_all_references.Goals as goal

-- as at the end of a scope, by the other lemma
pub invariant_of-self-2 : goal.invariant_of-self-2
invariant_of-self-2 g c =
    let s = c.args.self.now in
    let m = view s in
    record {
      kept = kept_resolved s.current.0 s.names.scoping c.resolve_all.new.scoping m.uses.roots _ s.kept c.resolve_all.ensures.rest
          (kept_as m.uses _ _ (c.resolve_all.ensures.after m.names.hoisting) (resolve_end_keeps m.scopes m.names m.uses));
    }
