-- What `find` and `take_while` answer along a scope and its ancestors, in the words of the model.
use Rattle.std.proofs.Common.{◌≡◌, ℕ, suc, ◌+◌, ◌≤◌, Bool, true, false, cond, not, ◌||◌, List, [], ◌∷◌, length, take, Some, None, Option, refl, ap, ◌∙◌, arith}
use Rattle.std.proofs.lemmas.Iterator.{YieldsList}
use Rattle.std.proofs.lemmas.Iterator.Consumers.{YieldsList-from_first}
use Rattle.std.proofs.lemmas.Iterator.Search.{find_from_yields_List}
use denote.Param.Members.{Mut}
use denote.Ref.{Bor}
use Rattle.std.specs.Fn.{CalledAt}
use Rattle.std.specs.Iterator.{YieldsFirstBy, FindsItem}
use Rattle.std.specs.Option.{option_map, unwrap_or}
use Rattle.std.specs.List.{find, prefix_len, list_any}
use Rattle.tables.specs.declared.id.ScopeId.{ScopeId}
use Rattle.tables.specs.declared.row.ScopeRow.{ScopeRow}
use Rattle.model.specs.Basics.{first, before, any}
use Rattle.model.specs.Scopes.{chain}
use Rattle.model.proofs.Walks.{climb_short}
use Rattle.lookup.specs.declared.ancestors.Ancestors.{Ancestors}
use Rattle.lookup.specs.Ancestry.{ancestors_left}

-- the walk gives the list that it has left
pub climbs : {a : Ancestors} (xs : List ℕ) → ancestors_left a ≡ xs → YieldsList (YieldsFirstBy {A = ScopeId} (λ s. s.0) ancestors_left) (λ (s : ScopeId). s.0) a xs
climbs xs e = YieldsList-from_first (λ (s : ScopeId). s.0) ancestors_left xs e

pub chain_short : (rows : List ScopeRow) (s : ℕ) → length (chain rows s) ≤ suc s
unfolding chain
chain_short rows s = climb_short rows (suc s) s

first_found : (test : ℕ → Bool) (other : ℕ) (xs : List ℕ) → unwrap_or (find test xs) other ≡ first test other xs
first_found test other [] = refl
first_found test other (x ∷ xs) = or_else (test x) x other (find test xs) (first test other xs) (first_found test other xs)
  where
    or_else : (b : Bool) (x other : ℕ) (o : Option ℕ) (y : ℕ) → unwrap_or o other ≡ y → unwrap_or (cond b (Some x) o) other ≡ cond b x y
    or_else true x other o y e = refl
    or_else false x other o y e = e

number_or : (r : Option ScopeId) (other : ScopeId) → (unwrap_or r other).0 ≡ unwrap_or (option_map (λ s. s.0) r) other.0
number_or None other = refl
number_or (Some s) other = refl

-- `find` and then `unwrap_or`
pub nearest : {F : Type 0} {g : Mut F (Bor ScopeId × Unit {0}) Bool} {a : Ancestors} {f : F} (test : ℕ → Bool) (u : Ancestors) (r : Option ScopeId) (other : ScopeId) (xs : List ℕ)
    → FindsItem (YieldsFirstBy {A = ScopeId} (λ s. s.0) ancestors_left) g a f r u → ancestors_left a ≡ xs
    → ((x : ScopeId) (b : Bool) (q : F) → CalledAt g f x b q → (q ≡ f) × (b ≡ test x.0)) → (unwrap_or r other).0 ≡ first test other.0 xs
nearest {f = f} test u r other xs ran e k =
    number_or r other ∙ ap (λ o. unwrap_or o other.0) (find_from_yields_List test u f r ran (climbs xs e) k) ∙ first_found test other.0 xs

pub taken_before : (test : ℕ → Bool) (xs : List ℕ) → take (prefix_len (λ x. not (test x)) xs) xs ≡ before test xs
taken_before test [] = refl
taken_before test (x ∷ xs) = longer (test x) x xs (prefix_len (λ x. not (test x)) xs) (before test xs) (taken_before test xs)
  where
    longer : (b : Bool) (x : ℕ) (xs : List ℕ) (n : ℕ) (ys : List ℕ) → take n xs ≡ ys → take (cond (not b) (1 + n) 0) (x ∷ xs) ≡ cond b [] (x ∷ ys)
    longer true x xs n ys e = refl
    longer false x xs n ys e = let s : 1 + n ≡ suc n = omega arith in ap (λ k. take k (x ∷ xs)) s ∙ ap (λ zs. x ∷ zs) e

pub any_of_list : (test : ℕ → Bool) (xs : List ℕ) → list_any test xs ≡ any test xs
any_of_list test [] = refl
any_of_list test (x ∷ xs) = or_else (test x) (list_any test xs) (any test xs) (any_of_list test xs)
  where
    or_else : (b c d : Bool) → c ≡ d → b || c ≡ cond b true d
    or_else true c d e = refl
    or_else false c d e = e
