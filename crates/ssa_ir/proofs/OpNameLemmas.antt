-- Names of ops: what a search among ops in the order of their names says, and that each name is one op's.
use Rattle.std.proofs.Common.{◌≡◌, ◌≢◌, ℕ, zero, suc, ◌+◌, ◌<◌, ◌≤◌, Bool, true, false, cond, ◌&&◌, List, [], ◌∷◌}
use Rattle.std.proofs.Common.{length, get_or, Option, None, Some, MatchOption, Result, Ok, Err, Ordering, Less, Equal}
use Rattle.std.proofs.Common.{Greater, ltb, refl, sym, ap, ◌∙◌, subst, arith}
use Rattle.std.specs.Cmp.Lexicographic.{slice_cmp}
use Rattle.std.specs.List.{All, find}
use Rattle.std.specs.List.Sorted.{IsBinarySearchResult}
use Rattle.std.specs.Ordering.{nat_cmp, is_lt, is_eq, ordering_reverse}
use Rattle.std.specs.Result.{MatchResult}
use Rattle.std.specs.Str.{bytes_eq}
use Rattle.std.proofs.lemmas.Bool.Decides.{nat_tests}
use Rattle.std.proofs.lemmas.Cmp.{nat_list_cmp_total}
use Rattle.std.proofs.lemmas.List.Sorted.{searchable_from_sorted}
use Rattle.std.proofs.lemmas.Map.Text.{is_eq-slice_cmp}
use Rattle.std.proofs.lemmas.Slice.Eq.{bytes_eq-Decides}
use Rattle.ssa_ir.specs.declared.op.Op.{Op}
use Rattle.ssa_ir.specs.OpNames.{op_name, IsInNameOrder, IsNoneOf, IsNoOp, NamesDiffer}
use Rattle.ssa_ir.specs.AllOps.{all_ops, op_of_name}
use Rattle.ssa_ir.proofs.OwnNames.{own_name}

-- names that compare as equal are one name
same_name : (a b : List ℕ) → slice_cmp nat_cmp a b ≡ Equal → a ≡ b
same_name a b e = (bytes_eq-Decides a b).0 (sym (is_eq-slice_cmp a b) ∙ ap is_eq e)

-- names that don't compare as equal differ
other_name : (a b : List ℕ) (r : Ordering) → slice_cmp nat_cmp a b ≡ r → is_eq r ≡ false → a ≢ b
other_name a b r e differs same =
    let equal : is_eq (slice_cmp nat_cmp a b) ≡ true = is_eq-slice_cmp a b ∙ (bytes_eq-Decides a b).1 same in
    let other : is_eq (slice_cmp nat_cmp a b) ≡ false = ap is_eq e ∙ differs in
    cc

-- a place that was found has the name; where none was found among ops in order, none has it
pub searched : (ops : List Op) (name : List ℕ) (r : Result ℕ ℕ)
    → IsBinarySearchResult (λ op. slice_cmp nat_cmp (op_name op) name) ops r
    → MatchResult r (λ i. (d : Op) → op_name (get_or ops i d) ≡ name) (λ i. IsInNameOrder ops → IsNoneOf ops name)
searched ops name (Ok i) h = λ d. same_name _ _ (h d)
searched ops name (Err i) h = λ sorted k d lt.
    let parted = h (searchable_from_sorted nat_list_cmp_total op_name ops name sorted) in
    go k d lt parted.0 parted.1 (ltb k i) refl
  where
    go : (k : ℕ) (d : Op) → k < length ops
        → ((k : ℕ) (d : Op) → 0 ≤ k → k < i → slice_cmp nat_cmp (op_name (get_or ops k d)) name ≡ Less)
        → ((k : ℕ) (d : Op) → i ≤ k → k < length ops → slice_cmp nat_cmp (op_name (get_or ops k d)) name ≡ Greater)
        → (b : Bool) → ltb k i ≡ b → op_name (get_or ops k d) ≢ name
    go k d lt before behind true t = other_name _ _ Less (before k d (omega arith) (grind (arith, nat_tests))) refl
    go k d lt before behind false t = other_name _ _ Greater (behind k d (grind (arith, nat_tests)) lt) refl

and_left : (a b : Bool) → (a && b) ≡ true → a ≡ true
and_left true b h = refl
and_left false b h = h

and_right : (a b : Bool) → (a && b) ≡ true → b ≡ true
and_right true b h = h
and_right false b h = cc

-- whether each name stands behind the one before it
abbrev ascends_from : Op → List Op → Bool
ascends_from a [] = true
ascends_from a (b ∷ ops) = is_lt (slice_cmp nat_cmp (op_name a) (op_name b)) && ascends_from b ops

abbrev pub ascends : List Op → Bool
ascends [] = true
ascends (a ∷ ops) = ascends_from a ops

-- the next one's name isn't below the first one's
step_up : (a b : Op) → is_lt (slice_cmp nat_cmp (op_name a) (op_name b)) ≡ true
    → is_lt (slice_cmp nat_cmp (op_name b) (op_name a)) ≡ false
step_up a b h = go (slice_cmp nat_cmp (op_name a) (op_name b)) (nat_list_cmp_total.antisymm (op_name b) (op_name a)) h
  where
    go : (r : Ordering) → slice_cmp nat_cmp (op_name b) (op_name a) ≡ ordering_reverse r → is_lt r ≡ true
        → is_lt (slice_cmp nat_cmp (op_name b) (op_name a)) ≡ false
    go Less e t = ap is_lt e
    go Equal e t = cc
    go Greater e t = cc

ascends_from_in_order : (a : Op) (ops : List Op) → ascends_from a ops ≡ true → IsInNameOrder (a ∷ ops)
ascends_from_in_order a [] h k d low lt = absurd (omega arith)
ascends_from_in_order a (b ∷ ops) h zero d low lt =
    step_up a b (and_left (is_lt (slice_cmp nat_cmp (op_name a) (op_name b))) (ascends_from b ops) h)
ascends_from_in_order a (b ∷ ops) h (suc k) d low lt =
    let rest = and_right (is_lt (slice_cmp nat_cmp (op_name a) (op_name b))) (ascends_from b ops) h in
    let next : suc k + 1 ≡ suc (k + 1) = omega arith in
    subst (λ n. is_lt (slice_cmp nat_cmp (op_name (get_or (a ∷ b ∷ ops) n d)) (op_name (get_or (b ∷ ops) k d))) ≡ false)
    (sym next)
    (ascends_from_in_order b ops rest k d (omega arith) (omega arith))

-- ops whose names ascend are in order
pub in_order : (ops : List Op) → ascends ops ≡ true → IsInNameOrder ops
in_order [] h = λ k d low lt. absurd (omega arith)
in_order (a ∷ ops) h = ascends_from_in_order a ops h

found_by_test : (P : Op → Type 0) (test : Op → Bool) (a : Op) (ops : List Op) (op : Op)
    → find test (a ∷ ops) ≡ Some op → All P (a ∷ ops) → (find test ops ≡ Some op → All P ops → P op)
    → (b : Bool) → test a ≡ b → P op
found_by_test P test a ops op e h later true t =
    let here : Some a ≡ Some op = ap (λ b. cond b (Some a) (find test ops)) (sym t) ∙ e in
    let same : a ≡ op = cc in
    subst P same (h 0 a (omega arith))
found_by_test P test a ops op e h later false t =
    later (ap (λ b. cond b (Some a) (find test ops)) (sym t) ∙ e) (λ k d lt. h (suc k) d (omega arith))

-- what holds of all of a list holds of one that is found in it
found_holds : (P : Op → Type 0) (test : Op → Bool) (ops : List Op) (op : Op) → find test ops ≡ Some op → All P ops
    → P op
found_holds P test [] op e h = cc
found_holds P test (a ∷ ops) op e h = found_by_test P test a ops op e h (found_holds P test ops op) (test a) refl

-- an op's name is in no list of all ops that lacks it
pub none_of_all : (name : List ℕ) → IsNoneOf all_ops name → IsNoOp name
none_of_all name h op =
    found_holds (λ o. op_name o ≢ name) (λ o. bytes_eq (op_name o) (op_name op)) all_ops op (own_name op) h

-- the answer among all ops
pub named_among_all : (name : List ℕ) (found : Option Op)
    → MatchOption found (IsInNameOrder all_ops → IsNoneOf all_ops name) (λ op. op_name op ≡ name)
    → MatchOption found (IsNoOp name) (λ op. op_name op ≡ name)
named_among_all name None h = none_of_all name (h (in_order all_ops refl))
named_among_all name (Some op) h = h

passes_by_test : (test : Op → Bool) (a : Op) (ops : List Op) (op : Op) → find test (a ∷ ops) ≡ Some op
    → (find test ops ≡ Some op → test op ≡ true) → (b : Bool) → test a ≡ b → test op ≡ true
passes_by_test test a ops op e later true t =
    let here : Some a ≡ Some op = ap (λ b. cond b (Some a) (find test ops)) (sym t) ∙ e in
    let same : a ≡ op = cc in
    ap test (sym same) ∙ t
passes_by_test test a ops op e later false t = later (ap (λ b. cond b (Some a) (find test ops)) (sym t) ∙ e)

-- what is found passes the test
found_passes : (test : Op → Bool) (ops : List Op) (op : Op) → find test ops ≡ Some op → test op ≡ true
found_passes test [] op e = cc
found_passes test (a ∷ ops) op e = passes_by_test test a ops op e (found_passes test ops op) (test a) refl

-- the op of a name is the one that has it
pub op_of_its_name : (name : List ℕ) (found : Option Op) → MatchOption found (IsNoOp name) (λ op. op_name op ≡ name)
    → found ≡ op_of_name name
op_of_its_name name (Some op) h = sym (own_name op) ∙ ap op_of_name h
op_of_its_name name None h = go (op_of_name name) refl
  where
    go : (o : Option Op) → op_of_name name ≡ o → None ≡ op_of_name name
    go None e = sym e
    go (Some op) e =
        let test : Op → Bool = λ o. bytes_eq (op_name o) name in
        absurd (h op ((bytes_eq-Decides (op_name op) name).0 (found_passes test all_ops op e)))

-- no two ops have one name
pub names_differ : NamesDiffer
names_differ a b e =
    let same : Some a ≡ Some b = sym (own_name a) ∙ ap op_of_name e ∙ own_name b in
    cc
