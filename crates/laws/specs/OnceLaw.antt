-- Once: each reference that was accepted is in exactly one list, once: the pending list, the resolved list of a symbol, or the root
-- unresolved list of the name that its call gave.
use Rattle.std.specs.Prelude.{◌≡◌, ℕ, zero, suc, ◌+◌, ◌<◌, ◌≤◌, Bool, true, false, cond, ◌⊎◌, List, [], ◌∷◌, ◌++◌, length, Some, None, filter, Option, Ok, is_err, ◌==◌, nat_eq, slice_index}
use Rattle.std.specs.List.{AllByRecursion}
use Rattle.tables.specs.declared.row.UnresolvedReference.{UnresolvedReference}
use Rattle.tables.specs.declared.row.ResolvedReference.{ResolvedReference}
use Rattle.tables.specs.declared.row.RootReference.{RootReference}
use Rattle.tables.specs.declared.id.Name.{Name}
use Rattle.stores.specs.Pairs.{Pairs}
use Rattle.model.specs.declared.call.Call.{Call}
use Rattle.model.specs.declared.call.Call.TheVariants.{EnterScope, LeaveScope, Bind, DeclareReference, ResolveReferences, ResolveAllReferences}
use Rattle.model.specs.declared.call.Granted.TheVariants.{Counted}
use Rattle.model.specs.declared.call.Counts.{Counts}
use Rattle.model.specs.Basics.{maybe, symbol_number, the_name}
use Rattle.model.specs.State.{Machine, Names, Uses, fresh, reference_row, symbol_row}
use Rattle.model.specs.Calls.{Answer, run, after, answer, answers}

-- the accepted references

abbrev pub is_refusal : Answer → Bool
is_refusal = is_err

abbrev pub name_given : Call → List ℕ
name_given (EnterScope s) = []
name_given LeaveScope = []
name_given (Bind d) = []
name_given (DeclareReference r) = r.name.0 ∷ []
name_given (ResolveReferences start) = []
name_given ResolveAllReferences = []

-- the names that the granted calls of declare_reference gave, in order: the reference r has the r-th
abbrev pub accepted : List Call → List Answer → List ℕ
accepted [] rest = []
accepted (c ∷ cs) [] = []
accepted (c ∷ cs) (a ∷ rest) = cond (is_refusal a) [] (name_given c) ++ accepted cs rest

-- the lists

-- the resolved list of a symbol
abbrev pub resolved_list : Uses → ℕ → List ResolvedReference
resolved_list us s = filter (λ (j : ResolvedReference). nat_eq j.symbol.0 s) us.resolved

-- the root unresolved list of a number, and that of a name
abbrev pub numbered_list : Uses → ℕ → List RootReference
numbered_list us n = filter (λ (k : RootReference). nat_eq k.list n) us.root

abbrev pub root_list : Uses → ℕ → List RootReference
root_list us name = maybe (us.roots.get (the_name name)) [] (numbered_list us)

-- the sum of f over the numbers below n
abbrev pub total : (ℕ → ℕ) → ℕ → ℕ
total f zero = 0
total f (suc n) = total f n + f n

-- how many stand in the resolved lists of all symbols, and in all root unresolved lists
abbrev pub resolved_in_all : Names → Uses → ℕ
resolved_in_all nm us = total (λ s. length (resolved_list us s)) (length nm.symbols)

abbrev pub listed_in_all : Uses → ℕ
listed_in_all us = total (λ n. length (numbered_list us n)) us.roots.size

-- the weight of the references in a list, and in all lists
abbrev pub sum_of : {X : Type 0} → (X → ℕ) → (ℕ → ℕ) → List X → ℕ
sum_of reference w [] = 0
sum_of reference w (x ∷ xs) = w (reference x) + sum_of reference w xs

abbrev pub of_pending : UnresolvedReference → ℕ
of_pending e = e.reference.0

abbrev pub of_resolved : ResolvedReference → ℕ
of_resolved j = j.reference.0

abbrev pub of_root : RootReference → ℕ
of_root k = k.reference.0

abbrev pub weight : (ℕ → ℕ) → Uses → ℕ
weight w us = sum_of of_pending w us.pending + sum_of of_resolved w us.resolved + sum_of of_root w us.root

-- the weight that counts one reference
abbrev pub one : ℕ → ℕ → ℕ
one r k = cond (k == r) 1 0

-- what a reference's row says that it was resolved to
abbrev pub resolved_to : Uses → ℕ → Option ℕ
resolved_to us r = symbol_number (reference_row us r).symbol

-- the rows' lists are numbered in order of their first rows, from n on up to the size: each row is in a list that is there, or opens the next
abbrev pub NumberedFrom : ℕ → List RootReference → ℕ → Type 0
NumberedFrom n [] size = n ≡ size
NumberedFrom n (k ∷ ks) size = ((k.list < n) × NumberedFrom n ks size) ⊎ ((k.list ≡ n) × NumberedFrom (suc n) ks size)

-- each list number below the size belongs to exactly one name
pub record NumbersRight (roots : Pairs Name) (root : List RootReference) : Type 0 where
  pub below : (name n : ℕ) → roots.get (the_name name) ≡ Some n → n < roots.size
  pub belongs : (n : ℕ) → n < roots.size → (name : ℕ) × (roots.get (the_name name) ≡ Some n)
  pub one_name : (x y n : ℕ) → roots.get (the_name x) ≡ Some n → roots.get (the_name y) ≡ Some n → x ≡ y
  pub in_order : NumberedFrom 0 root roots.size

pub record Placed (names : List ℕ) (nm : Names) (us : Uses) : Type 0 where
  -- however references are weighed, all lists together weigh as much as the accepted references
  pub weighed : (w : ℕ → ℕ) → weight w us ≡ total w (length names)
  -- so an accepted reference is in exactly one list, once, and no other is in any
  pub once : (r : ℕ) → r < length names → weight (one r) us ≡ 1
  -- if that is a root list, it is the list of the name that its call gave
  pub under_its_name : (r : ℕ) → r < length names
      → sum_of of_pending (one r) us.pending + sum_of of_resolved (one r) us.resolved + sum_of of_root (one r) (root_list us (slice_index names r)) ≡ 1
  pub no_other : (r : ℕ) → length names ≤ r → weight (one r) us ≡ 0
  -- and so many were accepted as the lists are long
  pub all : length names ≡ length us.pending + resolved_in_all nm us + listed_in_all us
  pub rows : length us.references ≡ length names
  -- a pending entry has the name that its call gave, and a root row is in the list of that name
  pub pending_names : AllByRecursion (λ (e : UnresolvedReference). e.name.0 ≡ slice_index names e.reference.0) us.pending
  pub root_names : AllByRecursion (λ (k : RootReference). us.roots.get (the_name (slice_index names k.reference.0)) ≡ Some k.list) us.root
  pub root_numbers : NumbersRight us.roots us.root
  -- a resolved reference is in the list of a symbol that is there and has its name
  pub resolved_there : AllByRecursion (λ (j : ResolvedReference). j.symbol.0 < length nm.symbols) us.resolved
  pub resolved_names : AllByRecursion (λ (j : ResolvedReference). (symbol_row nm j.symbol.0).name.0 ≡ slice_index names j.reference.0) us.resolved
  -- a row has a symbol exactly if it is in that symbol's resolved list, and the others have none
  pub resolved_rows : AllByRecursion (λ (j : ResolvedReference). resolved_to us j.reference.0 ≡ Some j.symbol.0) us.resolved
  pub symbol_rows : (r s : ℕ) → resolved_to us r ≡ Some s → sum_of of_resolved (one r) (resolved_list us s) ≡ 1
  pub pending_rows : AllByRecursion (λ (e : UnresolvedReference). resolved_to us e.reference.0 ≡ None) us.pending
  pub root_rows : AllByRecursion (λ (k : RootReference). resolved_to us k.reference.0 ≡ None) us.root

abbrev pub Once : Type 0
Once = (setting : ℕ) (cs : List Call) → Placed (accepted cs (answers (fresh setting) cs)) (run (fresh setting) cs).names (run (fresh setting) cs).uses

-- what a resolving call answers

abbrev pub is_resolving : Call → Bool
is_resolving (EnterScope s) = false
is_resolving LeaveScope = false
is_resolving (Bind d) = false
is_resolving (DeclareReference r) = false
is_resolving (ResolveReferences start) = true
is_resolving ResolveAllReferences = true

-- the answer counts by how much the resolved lists and the root lists have grown, and what is pending
pub record CountsGrowth (old new : Machine) (a : Answer) : Type 0 where
  pub counts : Counts
  pub answered : a ≡ Ok (Counted counts)
  pub resolved : resolved_in_all new.names new.uses ≡ resolved_in_all old.names old.uses + counts.resolved
  pub root : listed_in_all new.uses ≡ listed_in_all old.uses + counts.root
  pub pending : length new.uses.pending ≡ counts.pending

abbrev pub CountsRight : Type 0
CountsRight = (setting : ℕ) (cs : List Call) (c : Call) → is_resolving c ≡ true → is_refusal (answer (run (fresh setting) cs) c) ≡ false
    → CountsGrowth (run (fresh setting) cs) (after (run (fresh setting) cs) c) (answer (run (fresh setting) cs) c)
