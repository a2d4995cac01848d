-- What every run keeps of the scopes and the names.
use Rattle.std.proofs.Common.{◌≡◌, ℕ, zero, suc, ◌+◌, ◌<◌, Bool, true, false, not, eqb, List, [], ◌∷◌, ◌++◌, length, set, Some, sym, refl, ap, ◌∙◌, arith, length-append, length-set}
use Rattle.std.proofs.lemmas.Bool.{cond_both}
use Rattle.std.proofs.lemmas.Bool.Decides.{nat_tests}
use Rattle.std.proofs.lemmas.Option.{none-some}
use Rattle.tables.specs.Flags.{meets, VarScope}
use Rattle.model.specs.declared.call.Call.{Call}
use Rattle.model.specs.declared.call.Call.TheVariants.{EnterScope, LeaveScope, Bind, DeclareReference, ResolveReferences, ResolveAllReferences}
use Rattle.model.specs.declared.manner.Manner.TheVariants.{MovedOut}
use Rattle.model.specs.Kinds.{StrictRoot, TypeScript, manner}
use Rattle.model.specs.State.{Machine, fresh, root_row}
use Rattle.model.specs.Scopes.{parent_of, flags_in, is_var, is_strict}
use Rattle.model.specs.Calls.{granted, after, run, child, handed, parent_here, told}
use Rattle.laws.specs.BindingsLaw.{Bindings}
use Rattle.laws.proofs.Basics.{maybe_both, eval_apart}
use Rattle.laws.proofs.Granting.{after_keeps}
use Rattle.laws.proofs.Tree.{Tree, tree_push, tree_set, kept_push, kept_set}
use Rattle.laws.proofs.Sound.{Sound, sound_none, kept_sound, declare_sound}

pub record Good (m : Machine) : Type 0 where
  pub tree : Tree m.scopes
  pub here : m.current < length m.scopes
  pub sound : Sound m.scopes m.names

root_tree : (s : ℕ) → Tree (root_row s ∷ [])
root_tree s =
    record {
      lower = no_parents;
      only_root = λ k l e. omega arith;
      top = cond_both (meets s StrictRoot) 1 0 (λ x. meets (2 + x) VarScope ≡ true) (λ _. refl) (λ _. refl);
      there = omega arith;
    }
  where
    no_parents : (k p : ℕ) → parent_of (root_row s ∷ []) k ≡ Some p → p < k
    no_parents zero p e = absurd (none-some p e)
    no_parents (suc k) p e = absurd (none-some p e)

pub fresh_good : (s : ℕ) → Good (fresh s)
fresh_good s = record { tree = root_tree s; here = omega arith; sound = sound_none (root_row s ∷ []) }

parent_there : (m : Machine) → Good m → parent_here m < length m.scopes
parent_there m g =
    maybe_both (parent_of m.scopes m.current) 0 (λ p. p) (λ x. x < length m.scopes)
    (λ _. g.tree.there)
    (λ p e. let l = g.tree.lower m.current p e in let h = g.here in omega arith)

-- only from a scope that is no var scope does a function move out
pub moved_out_of : (k modifiers : ℕ) (typescript strict var : Bool) → manner k modifiers typescript strict var ≡ MovedOut → var ≡ false
moved_out_of k modifiers typescript strict var e = grind (arith, nat_tests)

pub granted_good : (m : Machine) (c : Call) → Good m → Good (granted m c)
unfolding granted
granted_good m (EnterScope x) g =
    let row = child m.scopes m.current x in
    record {
      tree = tree_push m.scopes row g.tree m.current g.here refl;
      here = simp length-append (omega arith);
      sound = kept_sound m.scopes (m.scopes ++ row ∷ []) m.names g.tree (kept_push m.scopes row) g.sound;
    }
granted_good m LeaveScope g =
    let p = parent_here m in
    let x = handed m.scopes m.current p in
    let same : meets x.flags.0 VarScope ≡ is_var m.scopes p = ap (λ b. not (eqb b 0)) (eval_apart VarScope refl (flags_in m.scopes p) (flags_in m.scopes m.current)) in
    record {
      tree = tree_set m.scopes p x refl same g.tree;
      here = simp length-set (parent_there m g);
      sound = kept_sound m.scopes (set m.scopes p x) m.names g.tree (kept_set m.scopes p x refl same) g.sound;
    }
granted_good m (Bind d) g =
    record {
      tree = g.tree;
      here = g.here;
      sound = declare_sound m.scopes g.tree (told m d) m.current g.here m.names g.sound
          (manner d.kind d.modifiers (meets m.setting TypeScript) (is_strict m.scopes m.current) (is_var m.scopes m.current))
          (moved_out_of d.kind d.modifiers (meets m.setting TypeScript) (is_strict m.scopes m.current) (is_var m.scopes m.current));
    }
granted_good m (DeclareReference r) g = record { tree = g.tree; here = g.here; sound = g.sound }
granted_good m (ResolveReferences start) g = record { tree = g.tree; here = g.here; sound = g.sound }
granted_good m ResolveAllReferences g = record { tree = g.tree; here = g.here; sound = g.sound }

pub after_good : (m : Machine) (c : Call) → Good m → Good (after m c)
after_good m c g = after_keeps m c Good (λ _. granted_good m c g) g

pub run_good : (cs : List Call) (m : Machine) → Good m → Good (run m cs)
run_good [] m g = g
run_good (c ∷ cs) m g = run_good cs (after m c) (after_good m c g)

pub bindings_law : Bindings
bindings_law setting cs =
    let h = (run_good cs (fresh setting) (fresh_good setting)).sound in
    record {
      leads = h.leads;
      one = λ s n s' n' k p q. let a = h.leads s n k p in let b = h.leads s' n' k q in (sym a.its_scope ∙ b.its_scope, sym a.its_name ∙ b.its_name);
    }
