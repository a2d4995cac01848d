-- The words on flags are the flag arithmetic.
use Rattle.std.proofs.Common.{◌≡◌, ℕ, ◌^◌, Bool, true, false, cond, not, ◌&&◌, ◌||◌, eqb, List, [], ◌∷◌, sym, refl, ap, ◌∙◌, subst, ap₂, ⊎_elim}
use lib.Bits.{bit_or}
use Rattle.std.proofs.Math.Bool.{and-true, or-false, or-true}
use Rattle.std.proofs.lemmas.Bool.{eqb-true, true≢false, and_parts, and_from, and_left, and_right, or_parts, or_left, or_right, or_from, or_cases, cond-true, cond-false}
use Rattle.tables.specs.Flags.{meets, less, Read, Write, TypeUse, ValueAsType, NamespaceUse, ValueUse, ByValue, ByType, ByValueAsType, ByNamespace, Import, TypeImport, RegularEnum, ConstEnum, Class, TypeAlias, Interface, EnumMember, TypeParameter, FunctionScopedVariable, Ambient, AsyncOrGenerator}
use Rattle.model.specs.Kinds.{Declare, Async, IfBody, Unique, kind_row}
use Rattle.model.specs.Resolving.{can_resolve, resolved_flags}
use Rattle.laws.specs.HasFlag.{has, has_one, among, IsFlag}
use Rattle.laws.specs.KindNames.{function_kind, parameter_kind}
use Rattle.laws.specs.Words.{is_value, is_type, has_typeof, has_members, uses_value, CanResolveTo, ResolvedFlags, LosesType, TypeAlone, Excluded, Given, NamesOfFlags, FlagsInWords}
use Rattle.laws.proofs.FlagBits.{meets_flag, meets_set, set_has, flag_has, less_has, or_has, nothing_has, flags_at, union}

-- can resolve to

reach : Bool → Bool → Bool → Bool → Bool → Bool → Bool → Bool → Bool
reach n t m v a y b c = (not n || t || m) && (v && a || y && b || t && c)

in_front : (n t m : Bool) → not (n && not t && not m) ≡ (not n || t || m)
in_front true true m = refl
in_front true false true = refl
in_front true false false = refl
in_front false t m = refl

any_way : (u s : ℕ) → can_resolve u s ≡ reach (has u NamespaceUse) (has u ValueAsType) (has_members s) (uses_value u) (is_value s) (has u TypeUse) (is_type s) (has_typeof s)
unfolding reach
any_way u s =
    let n : meets u NamespaceUse ≡ has u NamespaceUse = meets_flag u 4 in
    let t : meets u ValueAsType ≡ has u ValueAsType = meets_flag u 3 in
    let y : meets u TypeUse ≡ has u TypeUse = meets_flag u 2 in
    let v : meets u ValueUse ≡ uses_value u = meets_set u (0 ∷ 1 ∷ []) in
    let m : meets s ByNamespace ≡ has_members s = meets_set s (8 ∷ 9 ∷ 12 ∷ 13 ∷ []) in
    let a : meets s ByValue ≡ is_value s = meets_set s (0 ∷ 1 ∷ 3 ∷ 5 ∷ 12 ∷ 13 ∷ 14 ∷ 8 ∷ []) in
    let b : meets s ByType ≡ is_type s = meets_set s (3 ∷ 10 ∷ 11 ∷ 12 ∷ 13 ∷ 14 ∷ 15 ∷ 8 ∷ 9 ∷ []) in
    let c : meets s ByValueAsType ≡ has_typeof s = meets_set s (0 ∷ 1 ∷ 3 ∷ 5 ∷ 12 ∷ 13 ∷ 14 ∷ 8 ∷ 9 ∷ []) in
    ap₂ ◌&&◌
    (in_front (meets u NamespaceUse) (meets u ValueAsType) (meets s ByNamespace) ∙ λ i. not (n i) || t i || m i)
    (λ i. v i && a i || y i && b i || t i && c i)

-- the flags of one list are among those of another
inside : List ℕ → List ℕ → Bool
inside [] gs = true
inside (f ∷ fs) gs = among f gs && inside fs gs

has_among : (s f : ℕ) (gs : List ℕ) → among f gs ≡ true → has s f ≡ true → has_one s gs ≡ true
has_among s f [] e h = absurd (true≢false (sym e))
has_among s f (g ∷ gs) e h =
    ⊎_elim (λ q. or_left (has s g) (has_one s gs) (ap (has s) (sym (eqb-true f g q)) ∙ h))
    (λ q. or_right (has s g) (has_one s gs) (has_among s f gs q h))
    (or_cases (eqb f g) (among f gs) e)

has_inside : (s : ℕ) (fs gs : List ℕ) → inside fs gs ≡ true → has_one s fs ≡ true → has_one s gs ≡ true
unfolding inside
has_inside s [] gs e h = absurd (true≢false (sym h))
has_inside s (f ∷ fs) gs e h =
    let p = and_parts (among f gs) (inside fs gs) e in
    ⊎_elim (λ q. has_among s f gs p.0 q) (λ q. has_inside s fs gs p.1 q) (or_cases (has s f) (has_one s fs) h)

front_is_type : (s : ℕ) → has_members s ≡ true → is_type s ≡ true
unfolding inside
front_is_type s h =
    has_inside s (Import ∷ TypeImport ∷ RegularEnum ∷ ConstEnum ∷ [])
    (Class ∷ TypeAlias ∷ Interface ∷ RegularEnum ∷ ConstEnum ∷ EnumMember ∷ TypeParameter ∷ Import ∷ TypeImport ∷ []) refl h

pub can_resolve_to : CanResolveTo
unfolding reach
can_resolve_to =
    record {
      a_value = λ u s h. any_way u s ∙ (λ i. reach (h.not_in_front i) (h.no_typeof i) (has_members s) (h.uses i) (is_value s) (h.no_type i) (is_type s) (has_typeof s))
          ∙ or-false (is_value s || false) ∙ or-false (is_value s);
      a_type = λ u s h. any_way u s ∙ (λ i. reach (h.not_in_front i) (h.no_typeof i) (has_members s) (h.no_value i) (is_value s) (h.uses i) (is_type s) (has_typeof s))
          ∙ or-false (is_type s);
      a_typeof = λ u s h. any_way u s ∙ (λ i. reach (has u NamespaceUse) (h.uses i) (has_members s) (h.no_value i) (is_value s) (h.no_type i) (is_type s) (has_typeof s))
          ∙ ap (λ b. (b || has_members s) && has_typeof s) (or-true (not (has u NamespaceUse)));
      a_front_of_type = λ u s h y. any_way u s ∙ (λ i. reach (h.in_front i) (h.no_typeof i) (has_members s) (uses_value u) (is_value s) (y i) (is_type s) (has_typeof s))
          ∙ front (uses_value u && is_value s) (has_members s) (is_type s) (front_is_type s);
      a_front_of_value = λ u s h y v. any_way u s ∙ (λ i. reach (h.in_front i) (h.no_typeof i) (has_members s) (v i) (is_value s) (y i) (is_type s) (has_typeof s))
          ∙ ap (λ b. has_members s && b) (or-false (is_value s || false) ∙ or-false (is_value s));
      nothing = λ u s h. any_way u s ∙ (λ i. reach (has u NamespaceUse) (h.no_typeof i) (has_members s) (h.no_value i) (is_value s) (h.no_type i) (is_type s) (has_typeof s))
          ∙ and_right (not (has u NamespaceUse) || false || has_members s) false refl;
      any_way = any_way;
    }
  where
    front : (x m b : Bool) → (m ≡ true → b ≡ true) → (m && (x || b || false)) ≡ m
    front x false b f = refl
    front true true b f = refl
    front false true b f = or-false b ∙ f refl

-- the flags afterwards

loses_type : (u : ℕ) → LosesType u (less u TypeUse)
loses_type u flag (k, e) =
    subst (λ f. has (less u TypeUse) f ≡ (has u f && not (eqb f TypeUse))) (sym e)
    (less_has k u TypeUse ∙ ap (λ b. has u (2 ^ k) && not b) (flag_has 2 k))

type_alone : TypeAlone TypeUse
type_alone flag (k, e) = subst (λ f. has TypeUse f ≡ eqb f TypeUse) (sym e) (flag_has 2 k)

-- in terms of single flags
resolved_by : (u s : ℕ) → resolved_flags u s ≡ cond (uses_value u && is_value s) (less u TypeUse) (cond (has u NamespaceUse && has u Read) (less u TypeUse) TypeUse)
resolved_by u s =
    let n : meets u NamespaceUse ≡ has u NamespaceUse = meets_flag u 4 in
    let r : meets u Read ≡ has u Read = meets_flag u 0 in
    let v : meets u ValueUse ≡ uses_value u = meets_set u (0 ∷ 1 ∷ []) in
    let a : meets s ByValue ≡ is_value s = meets_set s (0 ∷ 1 ∷ 3 ∷ 5 ∷ 12 ∷ 13 ∷ 14 ∷ 8 ∷ []) in
    λ i. cond (v i && a i) (less u TypeUse) (cond (n i && r i) (less u TypeUse) TypeUse)

either_way : (P : ℕ → Type 0) (b c : Bool) (x y : ℕ) → c ≡ true → P x → P (cond b x (cond c x y))
either_way P true c x y e p = p
either_way P false c x y e p = subst P (sym (cond-true c x y e)) p

neither_way : (P : ℕ → Type 0) (b c : Bool) (x y : ℕ) → b ≡ false → c ≡ false → P y → P (cond b x (cond c x y))
neither_way P b c x y e f p = subst P (sym (cond-false b x (cond c x y) e ∙ cond-false c x y f)) p

pub flags_afterwards : ResolvedFlags
flags_afterwards =
    record {
      to_value = λ u s v a. subst (LosesType u) (sym (resolved_by u s ∙ cond-true (uses_value u && is_value s) (less u TypeUse) _ (and_from (uses_value u) (is_value s) v a))) (loses_type u);
      through_namespace = λ u s n r. subst (LosesType u) (sym (resolved_by u s))
          (either_way (LosesType u) (uses_value u && is_value s) (has u NamespaceUse && has u Read) (less u TypeUse) TypeUse (and_from (has u NamespaceUse) (has u Read) n r) (loses_type u));
      no_value_use = λ u s v. type_if u s (and_left (uses_value u) (is_value s) v) (and_right (has u NamespaceUse) (has u Read) (or_parts (has u Read) (has u Write || false) v).0);
      to_no_value = λ u s a n. type_if u s (and_right (uses_value u) (is_value s) a) (and_left (has u NamespaceUse) (has u Read) n);
      to_no_value_unread = λ u s a r. type_if u s (and_right (uses_value u) (is_value s) a) (and_right (has u NamespaceUse) (has u Read) r);
    }
  where
    type_if : (u s : ℕ) → (uses_value u && is_value s) ≡ false → (has u NamespaceUse && has u Read) ≡ false → TypeAlone (resolved_flags u s)
    type_if u s e f = subst TypeAlone (sym (resolved_by u s)) (neither_way TypeAlone (uses_value u && is_value s) (has u NamespaceUse && has u Read) (less u TypeUse) TypeUse e f type_alone)

-- what a declaration may not stand beside: each set by the places of its flags

pub excluded : Excluded
excluded =
    record {
      by_var = λ s modifiers typescript strict. meets_set s (1 ∷ 3 ∷ 12 ∷ 13 ∷ 14 ∷ []);
      by_let = λ s modifiers typescript strict. meets_set s (0 ∷ 1 ∷ 3 ∷ 5 ∷ 12 ∷ 13 ∷ 14 ∷ []);
      by_const = λ s modifiers typescript strict. meets_set s (0 ∷ 1 ∷ 3 ∷ 5 ∷ 12 ∷ 13 ∷ 14 ∷ []);
      by_class = λ s modifiers typescript strict. meets_set s (0 ∷ 1 ∷ 3 ∷ 10 ∷ 12 ∷ 13 ∷ 14 ∷ 15 ∷ []);
      by_function_in_typescript = λ s modifiers strict. meets_set s (0 ∷ 1 ∷ 12 ∷ 13 ∷ 14 ∷ []);
      by_function_strict = λ s modifiers. ap (λ b. meets s (cond b 0 (less (kind_row function_kind).excludes FunctionScopedVariable))) (and_right (meets modifiers IfBody) false refl) ∙ meets_set s (1 ∷ 12 ∷ 13 ∷ 14 ∷ []);
      by_function = λ s modifiers strict e. ap (λ b. meets s (cond (b && not strict) 0 (less (kind_row function_kind).excludes FunctionScopedVariable))) (meets_flag modifiers 2 ∙ e) ∙ meets_set s (1 ∷ 12 ∷ 13 ∷ 14 ∷ []);
      by_function_in_if = λ s modifiers e. ap (λ b. meets s (cond (b && true) 0 (less (kind_row function_kind).excludes FunctionScopedVariable))) (meets_flag modifiers 2 ∙ e) ∙ meets_set s [];
      by_function_expression_in_typescript = λ s modifiers strict. meets_set s (0 ∷ 1 ∷ 12 ∷ 13 ∷ 14 ∷ []);
      by_function_expression = λ s modifiers strict. meets_set s (1 ∷ 12 ∷ 13 ∷ 14 ∷ []);
      by_parameter = λ s modifiers typescript e. ap (λ b. meets s (cond b (bit_or (kind_row parameter_kind).excludes FunctionScopedVariable) (kind_row parameter_kind).excludes)) (or_from (meets modifiers Unique) false (meets_flag modifiers 3 ∙ e) refl) ∙ meets_set s (1 ∷ 3 ∷ 12 ∷ 13 ∷ 14 ∷ []);
      by_unique_parameter = λ s modifiers typescript strict e. ap (λ b. meets s (cond b (bit_or (kind_row parameter_kind).excludes FunctionScopedVariable) (kind_row parameter_kind).excludes)) (or_left (meets modifiers Unique) strict (meets_flag modifiers 3 ∙ e)) ∙ meets_set s (0 ∷ 1 ∷ 3 ∷ 12 ∷ 13 ∷ 14 ∷ []);
      by_strict_parameter = λ s modifiers typescript. ap (λ b. meets s (cond b (bit_or (kind_row parameter_kind).excludes FunctionScopedVariable) (kind_row parameter_kind).excludes)) (or_right (meets modifiers Unique) true refl) ∙ meets_set s (0 ∷ 1 ∷ 3 ∷ 12 ∷ 13 ∷ 14 ∷ []);
      by_catch_name = λ s modifiers typescript strict. meets_set s [];
      by_catch_pattern = λ s modifiers typescript strict. meets_set s (0 ∷ 1 ∷ 3 ∷ 5 ∷ 12 ∷ 13 ∷ 14 ∷ []);
      by_import = λ s modifiers typescript strict. meets_set s (8 ∷ 9 ∷ []);
      by_type_import = λ s modifiers typescript strict. meets_set s (8 ∷ 9 ∷ []);
      by_type_alias = λ s modifiers typescript strict. meets_set s (3 ∷ 10 ∷ 11 ∷ 12 ∷ 13 ∷ 14 ∷ 15 ∷ []);
      by_interface = λ s modifiers typescript strict. meets_set s (10 ∷ 12 ∷ 13 ∷ 14 ∷ 15 ∷ []);
      by_enum = λ s modifiers typescript strict. meets_set s (0 ∷ 1 ∷ 3 ∷ 5 ∷ 10 ∷ 11 ∷ 13 ∷ 14 ∷ 15 ∷ []);
      by_const_enum = λ s modifiers typescript strict. meets_set s (0 ∷ 1 ∷ 3 ∷ 5 ∷ 10 ∷ 11 ∷ 12 ∷ 14 ∷ 15 ∷ []);
      by_enum_member = λ s modifiers typescript strict. meets_set s (0 ∷ 1 ∷ 3 ∷ 5 ∷ 10 ∷ 11 ∷ 12 ∷ 13 ∷ 14 ∷ 15 ∷ []);
      by_type_parameter = λ s modifiers typescript strict. meets_set s (3 ∷ 10 ∷ 11 ∷ 12 ∷ 13 ∷ 14 ∷ []);
      by_infer = λ s modifiers typescript strict. meets_set s (3 ∷ 10 ∷ 11 ∷ 12 ∷ 13 ∷ 14 ∷ []);
    }

-- what a declaration gives its symbol

flag_if : (b : Bool) (j k : ℕ) → has (cond b (2 ^ j) 0) (2 ^ k) ≡ (eqb (2 ^ k) (2 ^ j) && b)
flag_if true j k = flag_has j k ∙ sym (and-true (eqb (2 ^ k) (2 ^ j)))
flag_if false j k = nothing_has k ∙ sym (and_right (eqb (2 ^ k) (2 ^ j)) false refl)

gives : (js : List ℕ) (modifiers flag : ℕ) → IsFlag flag
    → has (bit_or (bit_or (union (flags_at js)) (cond (meets modifiers Declare) Ambient 0)) (cond (meets modifiers Async) AsyncOrGenerator 0)) flag
    ≡ (among flag (flags_at js) || eqb flag Ambient && has modifiers Declare || eqb flag AsyncOrGenerator && has modifiers Async)
gives js modifiers flag (k, e) =
    let set = union (flags_at js) in
    let ambient = cond (meets modifiers Declare) Ambient 0 in
    let async = cond (meets modifiers Async) AsyncOrGenerator 0 in
    subst (λ f. has (bit_or (bit_or set ambient) async) f ≡ (among f (flags_at js) || eqb f Ambient && has modifiers Declare || eqb f AsyncOrGenerator && has modifiers Async)) (sym e)
    (or_has k (bit_or set ambient) async ∙ ap (λ b. b || has async (2 ^ k)) (or_has k set ambient)
    ∙ λ i. set_has k js i || (flag_if (meets modifiers Declare) 16 k ∙ ap (λ b. eqb (2 ^ k) Ambient && b) (meets_flag modifiers 0)) i
    || (flag_if (meets modifiers Async) 7 k ∙ ap (λ b. eqb (2 ^ k) AsyncOrGenerator && b) (meets_flag modifiers 1)) i)

pub given : Given
given =
    record {
      by_var = gives (0 ∷ []);
      by_let = gives (1 ∷ []);
      by_const = gives (1 ∷ 2 ∷ []);
      by_class = gives (3 ∷ []);
      by_function = gives (5 ∷ []);
      by_function_expression = gives (5 ∷ 6 ∷ []);
      by_parameter = gives (0 ∷ []);
      by_catch_name = gives (0 ∷ 4 ∷ []);
      by_catch_pattern = gives (1 ∷ 4 ∷ []);
      by_import = gives (8 ∷ []);
      by_type_import = gives (9 ∷ []);
      by_type_alias = gives (10 ∷ []);
      by_interface = gives (11 ∷ []);
      by_enum = gives (12 ∷ []);
      by_const_enum = gives (13 ∷ []);
      by_enum_member = gives (14 ∷ []);
      by_type_parameter = gives (15 ∷ []);
      by_infer = gives (15 ∷ []);
    }

pub names_of_flags : NamesOfFlags
names_of_flags =
    record {
      of_scopes = record { single = ((0, refl), ((1, refl), ((2, refl), ((3, refl), ((4, refl), ((5, refl), ((6, refl), ((7, refl), ((8, refl), ((9, refl), ((10, refl), ((11, refl), tt)))))))))))); apart = refl };
      of_references = record { single = ((0, refl), ((1, refl), ((2, refl), ((3, refl), ((4, refl), tt))))); apart = refl };
      of_symbols = record { single = ((0, refl), ((1, refl), ((2, refl), ((3, refl), ((4, refl), ((5, refl), ((6, refl), ((7, refl), ((8, refl), ((9, refl), ((10, refl), ((11, refl), ((12, refl), ((13, refl), ((14, refl), ((15, refl), ((16, refl), tt))))))))))))))))); apart = refl };
      of_modifiers = record { single = ((0, refl), ((1, refl), ((2, refl), ((3, refl), tt)))); apart = refl };
    }

pub flags_in_words : FlagsInWords
flags_in_words = record { names_of_flags = names_of_flags; can_resolve_to = can_resolve_to; resolved_to = flags_afterwards; excluded = excluded; given = given }
