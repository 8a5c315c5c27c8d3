-- Names that differ, as a set keeps them, and the signature of a name by the place of the name.
use Rattle.std.proofs.Common.{◌≡◌, ℕ, zero, suc, ◌+◌, ◌-◌, ◌≤◌, ◌<◌, Bool, true, false, cond, not, List, [], ◌∷◌, ◌++◌}
use Rattle.std.proofs.Common.{length, get_or, map, find, position, slice_get, nat_eq, All, None, Some, option_map, refl}
use Rattle.std.proofs.Common.{sym, ap, subst, ◌∙◌, append_assoc, append-nil, if◌then◌else◌, arith}
use Rattle.std.specs.List.{list_any, position_or_len, prefix_len}
use Rattle.std.specs.Cmp.Lexicographic.{pointwise, same_text, nat_list_eq_equiv}
use Rattle.std.proofs.lemmas.Bool.{false_from_ne_true, ltb-false}
use Rattle.std.proofs.lemmas.List.{length-append, length-map, map-append, get_or_append_left, get_or_at}
use Rattle.std.proofs.lemmas.List.Folds.{find_at, list_any_none}
use Rattle.std.proofs.lemmas.List.Sums.{fold-append}
use Rattle.std.proofs.lemmas.Option.{cond_some, slice_get-map, slice_get_past}
use Rattle.indexmap.specs.IndexSet.{insert_key, insert_all}
use Rattle.ssa_ir.specs.declared.func.Func.{Func}
use Rattle.ssa_ir.specs.declared.func.SsaUnit.{SsaUnit}
use Rattle.ssa_ir.specs.declared.types.Sig.{Sig}
use Rattle.ssa_ir.specs.Lookups.{func_sigs, sig_of, signatures}
use Rattle.ssa_ir.specs.WellFormed.{Differ}
use Rattle.ssa_tables.specs.SignatureTable.{names_of}

-- ---- names that differ

-- a name that differs from all before it isn't among them
absent : (done more : List (List ℕ)) (x : List ℕ) → Differ (done ++ x ∷ more)
    → list_any (pointwise nat_eq x) done ≡ false
absent done more x differ = list_any_none (pointwise nat_eq x) done apart
  where
    apart : All (λ y. pointwise nat_eq x y ≡ false) done
    apart k d lt = false_from_ne_true (pointwise nat_eq x (get_or done k d)) same
      where
        here : get_or (done ++ x ∷ more) (length done) d ≡ x
        here = get_or_at done x more d (length done) refl

        before : get_or (done ++ x ∷ more) k d ≡ get_or done k d
        before = get_or_append_left done (x ∷ more) d k lt

        within : length done < length (done ++ x ∷ more)
        within = omega (arith, length-append done (x ∷ more))

        same : pointwise nat_eq x (get_or done k d) ≡ true → ⊥
        same e = differ k (length done) d lt within (before ∙ sym (same_text x (get_or done k d) (sym e)) ∙ sym here)

-- names that differ are put in one behind the other
pub inserted : (done more : List (List ℕ)) → Differ (done ++ more)
    → insert_all (pointwise nat_eq) done more ≡ done ++ more
inserted done [] differ = sym (append-nil done)
inserted done (x ∷ more) differ =
    let next : insert_key (pointwise nat_eq) done x ≡ done ++ x ∷ []
    = ap (λ b. if b then done else done ++ x ∷ []) (absent done more x differ) in
    let joined : (done ++ x ∷ []) ++ more ≡ done ++ x ∷ more = append_assoc done (x ∷ []) more in
    ap (λ names. insert_all (pointwise nat_eq) names more) next
    ∙ inserted (done ++ x ∷ []) more (subst Differ (sym joined) differ)
    ∙ joined

names_of_funcs : (funcs : List Func) → map (λ s. s.name) (func_sigs funcs) ≡ map (λ f. f.sig.name) funcs
names_of_funcs [] = refl
names_of_funcs (f ∷ funcs) = ap (λ names. f.sig.name ∷ names) (names_of_funcs funcs)

-- the names of `sig` lines and then those of functions are all names
pub all_names : (u : SsaUnit) → Differ (names_of u)
    → insert_all (pointwise nat_eq) (insert_all (pointwise nat_eq) [] (map (λ s. s.name) u.sigs))
    (map (λ f. f.sig.name) u.funcs) ≡ names_of u
all_names u differ =
    let both : names_of u ≡ map (λ s. s.name) u.sigs ++ map (λ f. f.sig.name) u.funcs
    = map-append (λ (s : Sig). s.name) u.sigs (func_sigs u.funcs)
    ∙ ap (λ names. map (λ s. s.name) u.sigs ++ names) (names_of_funcs u.funcs) in
    sym (fold-append (insert_key (pointwise nat_eq)) [] (map (λ s. s.name) u.sigs) (map (λ f. f.sig.name) u.funcs))
    ∙ ap (insert_all (pointwise nat_eq) []) (sym both)
    ∙ inserted [] (names_of u) differ

-- ---- the signature of a name

prefix_len-map : {X Y : Type 0} (test : Y → Bool) (key : X → Y) (xs : List X)
    → prefix_len test (map key xs) ≡ prefix_len (λ x. test (key x)) xs
prefix_len-map test key [] = refl
prefix_len-map test key (x ∷ xs) = ap (λ n. cond (test (key x)) (1 + n) 0) (prefix_len-map test key xs)

-- what a look-up by key finds stands at the place of the key
found_at : {X Y : Type 0} (test : Y → Bool) (key : X → Y) (xs : List X)
    → find (λ x. test (key x)) xs ≡ slice_get xs (position_or_len test (map key xs))
found_at test key xs = find_at (λ x. test (key x)) xs
    ∙ ap (slice_get xs) (sym (prefix_len-map (λ y. not (test y)) key xs))

-- a look-up may have its name on either side
either_side : (u : SsaUnit) (name : List ℕ) → sig_of u name ≡ find (λ s. pointwise nat_eq name s.name) (signatures u)
either_side u name = λ i. find (λ (s : Sig). nat_list_eq_equiv.symm s.name name i) (signatures u)

cond_none : {A : Type 0} (b : Bool) (x : A) → cond b (Some x) None ≡ None → b ≡ false
cond_none true x e = cc
cond_none false x e = refl

-- where no name is the same, there is no signature
pub no_sig : (u : SsaUnit) (name : List ℕ) → position (pointwise nat_eq name) (names_of u) ≡ None
    → sig_of u name ≡ None
no_sig u name none =
    let past : length (names_of u) ≤ position_or_len (pointwise nat_eq name) (names_of u)
    = ltb-false _ _ (cond_none _ _ none) in
    either_side u name ∙ found_at (pointwise nat_eq name) (λ (s : Sig). s.name) (signatures u)
    ∙ slice_get_past (signatures u) _ (omega (arith, past, length-map (signatures u) (λ (s : Sig). s.name)))

-- where a name is the same, its place is that of the signature
pub sig_at : (u : SsaUnit) (name : List ℕ) (i : ℕ) → position (pointwise nat_eq name) (names_of u) ≡ Some i
    → sig_of u name ≡ slice_get (signatures u) i
sig_at u name i is =
    either_side u name ∙ found_at (pointwise nat_eq name) (λ (s : Sig). s.name) (signatures u)
    ∙ ap (slice_get (signatures u)) (cond_some _ _ i is).1

-- ---- places in two lists, one behind the other

slice_get-front : {X : Type 0} (xs ys : List X) (i : ℕ) → i < length xs → slice_get (xs ++ ys) i ≡ slice_get xs i
slice_get-front [] ys i lt = absurd (omega (arith, lt))
slice_get-front (x ∷ xs) ys zero lt = refl
slice_get-front (x ∷ xs) ys (suc i) lt = slice_get-front xs ys i (omega (arith, lt))

slice_get-behind : {X : Type 0} (xs ys : List X) (i : ℕ) → length xs ≤ i
    → slice_get (xs ++ ys) i ≡ slice_get ys (i - length xs)
slice_get-behind [] ys i le = ap (slice_get ys) (omega arith)
slice_get-behind (x ∷ xs) ys zero le = absurd (omega (arith, le))
slice_get-behind (x ∷ xs) ys (suc i) le =
    slice_get-behind xs ys i (omega (arith, le)) ∙ ap (slice_get ys) (omega arith)

module _ (u : SsaUnit) (name : List ℕ) (i : ℕ) (is : position (pointwise nat_eq name) (names_of u) ≡ Some i) where
  -- a place among the `sig` lines
  pub sig_in_front : i < length u.sigs → sig_of u name ≡ slice_get u.sigs i
  sig_in_front lt = sig_at u name i is ∙ slice_get-front u.sigs (func_sigs u.funcs) i lt

  -- a place among the functions
  pub sig_behind : length u.sigs ≤ i
      → sig_of u name ≡ option_map (λ (f : Func). f.sig) (slice_get u.funcs (i - length u.sigs))
  sig_behind le =
      sig_at u name i is ∙ slice_get-behind u.sigs (func_sigs u.funcs) i le
      ∙ slice_get-map (λ (f : Func). f.sig) u.funcs (i - length u.sigs)
