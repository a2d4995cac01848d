-- The numbers of the root unresolved lists.
use Rattle.std.proofs.Common.{◌≡◌, ℕ, suc, ◌+◌, ◌<◌, ◌≤◌, cond, eqb, List, [], ◌∷◌, ◌++◌, length, is_some, Some, None, Option, sym, refl, ap, ◌∙◌, subst, inl, inr, ⊎_elim, arith}
use Rattle.std.proofs.lemmas.Option.{none-some, same_Some}
use Rattle.std.proofs.lemmas.Bool.{cases_eq, eq-eqb, ne_eqb, cond-true, cond-false}
use Rattle.tables.specs.declared.id.Name.{Name}
use Rattle.tables.specs.declared.id.ReferenceId.{ReferenceId}
use Rattle.tables.specs.declared.row.RootReference.{RootReference}
use Rattle.stores.specs.Pairs.{Pairs, put}
use Rattle.stores.specs.Keys.{same_name}
use Rattle.model.specs.Basics.{maybe, the_name}
use Rattle.model.specs.Resolving.{list_number, with_list}
use Rattle.laws.specs.OnceLaw.{NumberedFrom, NumbersRight}

abbrev pub listing : ℕ → ReferenceId → RootReference
listing n r = record { list = n; reference = r }

-- a row in a list that is there, and one that opens the next
pub numbered_old : (k : RootReference) (n size : ℕ) (ks : List RootReference) → NumberedFrom n ks size → k.list < size → NumberedFrom n (ks ++ k ∷ []) size
numbered_old k n size [] h l = inl (omega arith, h)
numbered_old k n size (x ∷ ks) (inl h) l = inl (h.0, numbered_old k n size ks h.1 l)
numbered_old k n size (x ∷ ks) (inr h) l = inr (h.0, numbered_old k (suc n) size ks h.1 l)

pub numbered_new : (k : RootReference) (n size : ℕ) (ks : List RootReference) → NumberedFrom n ks size → k.list ≡ size → NumberedFrom n (ks ++ k ∷ []) (suc size)
numbered_new k n size [] h l = inr (l ∙ sym h, ap suc h)
numbered_new k n size (x ∷ ks) (inl h) l = inl (h.0, numbered_new k n size ks h.1 l)
numbered_new k n size (x ∷ ks) (inr h) l = inr (h.0, numbered_new k (suc n) size ks h.1 l)

-- each list has a row
pub numbered_few : (n size : ℕ) (ks : List RootReference) → NumberedFrom n ks size → size ≤ n + length ks
numbered_few n size [] h = omega arith
numbered_few n size (x ∷ ks) (inl h) = let a = numbered_few n size ks h.1 in omega arith
numbered_few n size (x ∷ ks) (inr h) = let a = numbered_few (suc n) size ks h.1 in omega arith

module _ (roots : Pairs Name) (name : ℕ) where
  abbrev opened : Pairs Name
  opened = put same_name roots (the_name name) roots.size

  -- the name has a list, or a new one is opened
  pub list_cases : (P : Pairs Name → ℕ → Type 0)
      → ((n : ℕ) → roots.get (the_name name) ≡ Some n → P roots n) → (roots.get (the_name name) ≡ None → P opened roots.size)
      → P (with_list roots name) (list_number roots name)
  list_cases P old new = go (roots.get (the_name name)) refl
    where
      go : (o : Option ℕ) → roots.get (the_name name) ≡ o → P (maybe o opened (λ n. roots)) (maybe o roots.size (λ n. n))
      go None e = new e
      go (Some n) e = old n e

  opened_here : (q : ℕ) → q ≡ name → opened.get (the_name q) ≡ Some roots.size
  opened_here q e = cond-true (eqb q name) (Some roots.size) (roots.get (the_name q)) (eq-eqb q name e)

  opened_other : (q : ℕ) → (q ≡ name → ⊥) → opened.get (the_name q) ≡ roots.get (the_name q)
  opened_other q e = cond-false (eqb q name) (Some roots.size) (roots.get (the_name q)) (ne_eqb q name e)

  pub listed_here : (with_list roots name).get (the_name name) ≡ Some (list_number roots name)
  listed_here = list_cases (λ p n. p.get (the_name name) ≡ Some n) (λ n e. e) (λ e. opened_here name refl)

  apart : (q n : ℕ) → roots.get (the_name name) ≡ None → roots.get (the_name q) ≡ Some n → q ≡ name → ⊥
  apart q n none e z = none-some n (sym (ap (λ x. roots.get (the_name x)) z ∙ none) ∙ e)

  -- other names keep their lists
  pub listed_still : (q n : ℕ) → roots.get (the_name q) ≡ Some n → (with_list roots name).get (the_name q) ≡ Some n
  listed_still q n e = list_cases (λ p _. p.get (the_name q) ≡ Some n) (λ _ _. e) (λ none. opened_other q (apart q n none e) ∙ e)

  pub numbers_listing : (root : List RootReference) (r : ReferenceId) → NumbersRight roots root
      → NumbersRight (with_list roots name) (root ++ listing (list_number roots name) r ∷ [])
  numbers_listing root r h =
      list_cases (λ p n. NumbersRight p (root ++ listing n r ∷ []))
      (λ n e. record {
        below = h.below;
        belongs = h.belongs;
        one_name = h.one_name;
        in_order = numbered_old (listing n r) 0 roots.size root h.in_order (h.below name n e);
      })
      (λ none.
      let size : opened.size ≡ suc roots.size = ap (λ o. cond (is_some o) roots.size (suc roots.size)) none in
      record {
        below = λ q n e. ⊎_elim
            (λ (z : q ≡ name). let a : roots.size ≡ n = same_Some roots.size n (sym (opened_here q z) ∙ e) in omega arith)
            (λ (z : q ≡ name → ⊥). let a = h.below q n (sym (opened_other q z) ∙ e) in omega arith)
            (cases_eq q name);
        belongs = λ n l. ⊎_elim
            (λ (z : n ≡ roots.size). (name, opened_here name refl ∙ ap Some (sym z)))
            (λ (z : n ≡ roots.size → ⊥). let b = h.belongs n (omega arith) in (b.0, opened_other b.0 (apart b.0 n none b.1) ∙ b.1))
            (cases_eq n roots.size);
        one_name = λ x y n e f. ⊎_elim
            (λ (z : x ≡ name). ⊎_elim
            (λ (t : y ≡ name). z ∙ sym t)
            (λ (t : y ≡ name → ⊥). let a : roots.size ≡ n = same_Some roots.size n (sym (opened_here x z) ∙ e) in let b = h.below y n (sym (opened_other y t) ∙ f) in absurd (omega arith))
            (cases_eq y name))
            (λ (z : x ≡ name → ⊥). ⊎_elim
            (λ (t : y ≡ name). let a : roots.size ≡ n = same_Some roots.size n (sym (opened_here y t) ∙ f) in let b = h.below x n (sym (opened_other x z) ∙ e) in absurd (omega arith))
            (λ (t : y ≡ name → ⊥). h.one_name x y n (sym (opened_other x z) ∙ e) (sym (opened_other y t) ∙ f))
            (cases_eq y name))
            (cases_eq x name);
        in_order = subst (NumberedFrom 0 (root ++ listing roots.size r ∷ [])) (sym size) (numbered_new (listing roots.size r) 0 roots.size root h.in_order refl);
      })
