-- Tests of a unit that is written out: where all answer true, it is well formed.
use Rattle.std.proofs.Common.{◌≡◌, ◌≢◌, ℕ, zero, suc, ◌≤◌, ◌+◌, ◌⊎◌, inl, inr, ℤ, pos, negsuc, Bool, true, false, not}
use Rattle.std.proofs.Common.{◌&&◌, ◌||◌, ◌==◌, nat_le, nat_lt, is_some, is_none, Decides, List, [], ◌∷◌, length}
use Rattle.std.proofs.Common.{get_or, map, All, sum_by, Option, Some, None, IfSome, bytes_eq, ap, refl, sym, arith}
use Rattle.std.specs.List.{list_all}
use Rattle.std.proofs.lemmas.Bool.{and_parts, leb-true, ltb-true, eqb-true}
use Rattle.std.proofs.lemmas.Bool.Decides.{Decides-eqb, Decides-not}
use Rattle.std.proofs.lemmas.List.Kept.{AllPairs-cons}
use Rattle.std.proofs.lemmas.List.Sums.{AllPass-from_list_all}
use Rattle.std.proofs.lemmas.Slice.Eq.{bytes_eq-Decides}
use Rattle.gossa_base.specs.declared.ids.ValueId.{ValueId}
use Rattle.gossa_base.specs.declared.ids.BlockId.{BlockId}
use Rattle.ssa_ir.specs.declared.limits.TheConstants.{MAX_ARGS, MAX_BLOCKS, MAX_BOUND, MAX_CASES, MAX_CASE_BYTES}
use Rattle.ssa_ir.specs.declared.limits.TheConstants.{MAX_FUNCTIONS, MAX_JUNK_WORDS, MAX_NUMBER, MAX_PARAMS}
use Rattle.ssa_ir.specs.declared.limits.TheConstants.{MAX_PIECE_BYTES, MAX_REPLIES, MAX_RESULTS, MAX_SIGS, MAX_VALUES}
use Rattle.ssa_ir.specs.declared.op.Op.{Op}
use Rattle.ssa_ir.specs.declared.op.AuxRule.{AuxRule}
use Rattle.ssa_ir.specs.declared.op.AuxRule.TheVariants.{Nothing, Int, Bool as TrueOrFalse, Sym, Elem, Dropped}
use Rattle.ssa_ir.specs.declared.types.Scalar.{Scalar}
use Rattle.ssa_ir.specs.declared.types.Sig.{Sig}
use Rattle.ssa_ir.specs.declared.types.Ty.{Ty}
use Rattle.ssa_ir.specs.declared.types.Ty.TheVariants.{One, Mem, Tuple, Flags, Void}
use Rattle.ssa_ir.specs.declared.func.Value.{Value}
use Rattle.ssa_ir.specs.declared.func.Kind.{Kind}
use Rattle.ssa_ir.specs.declared.func.Kind.TheVariants.{Plain, If, Ret, Exit, Cond, Bit}
use Rattle.ssa_ir.specs.declared.func.Block.{Block}
use Rattle.ssa_ir.specs.declared.func.Func.{Func}
use Rattle.ssa_ir.specs.declared.func.SsaUnit.{SsaUnit}
use Rattle.ssa_ir.specs.declared.case.Piece.{Piece}
use Rattle.ssa_ir.specs.declared.case.Reply.{Reply}
use Rattle.ssa_ir.specs.declared.case.Case.{Case}
use Rattle.ssa_ir.specs.Limits.{SigWithinLimits, ValueWithinLimits, FuncWithinLimits, ReplyWithinLimits}
use Rattle.ssa_ir.specs.Limits.{CaseWithinLimits, WithinLimits, tuple_words, bytes_in}
use Rattle.ssa_ir.specs.Lookups.{signatures, values_of, value_of, block_of}
use Rattle.ssa_ir.specs.Names.{IsName, has_name_bytes}
use Rattle.ssa_ir.specs.Ops.{row_of, is_machine}
use Rattle.ssa_ir.specs.WellFormed.{IsNumber, Differ, makes_tuple, CanBeWritten, HasItsNumber, HasItsSymbol, HasItsElem}
use Rattle.ssa_ir.specs.WellFormed.{WellFormedValue, HasItsSuccessors, HasItsControl, WellFormedBlock, WellFormedFunc}
use Rattle.ssa_ir.specs.WellFormed.{WellFormedCase, WellFormed}

-- ---- tests, and lists of them

abbrev all_true : List Bool → Bool
all_true tests = list_all (λ b. b) tests

-- where all of these tests answer true, so does number k of them
test_at : (tests : List Bool) → all_true tests ≡ true → (k : ℕ) → get_or tests k true ≡ true
test_at [] h k = refl
test_at (b ∷ tests) h zero = (and_parts _ _ h).0
test_at (b ∷ tests) h (suc k) = test_at tests (and_parts _ _ h).1 k

-- what a test shows of one, it shows of all of a list
pub all_tested : {X : Type 0} {test : X → Bool} {P : X → Type 0} → ((x : X) → test x ≡ true → P x)
    → (xs : List X) → list_all test xs ≡ true → All P xs
all_tested {test = test} sound xs h k d lt = sound (get_or xs k d) (AllPass-from_list_all test xs h k d lt)

abbrev if_some : {X : Type 0} → (X → Bool) → Option X → Bool
if_some test None = true
if_some test (Some x) = test x

if_some_tested : {X : Type 0} {test : X → Bool} {P : X → Type 0} → ((x : X) → test x ≡ true → P x)
    → (o : Option X) → if_some test o ≡ true → IfSome o P
if_some_tested sound None h = tt
if_some_tested sound (Some x) h = sound x h

-- whether each is unlike all later ones
abbrev differ : {X : Type 0} → (X → X → Bool) → List X → Bool
differ same [] = true
differ same (x ∷ xs) = list_all (λ y. not (same x y)) xs && differ same xs

pub differ_tested : {X : Type 0} (same : X → X → Bool) → ((a b : X) → Decides (same a b) (a ≡ b))
    → (xs : List X) → differ same xs ≡ true → Differ xs
differ_tested same decides [] h = λ i j d lt within. absurd (omega arith)
differ_tested same decides (x ∷ xs) h =
    let parts = and_parts (list_all (λ y. not (same x y)) xs) (differ same xs) h in
    let head = all_tested {P = λ y. x ≢ y} (λ y. (Decides-not (same x y) (decides x y)).0) xs parts.0 in
    AllPairs-cons (λ a b. a ≢ b) x xs head (differ_tested same decides xs parts.1)

false_tested : (b : Bool) → not b ≡ true → b ≡ false
false_tested true h = sym h
false_tested false h = refl

none_tested : {X : Type 0} (o : Option X) → is_none o ≡ true → o ≡ None
none_tested None h = refl
none_tested (Some x) h = cc

-- ---- limits

abbrev sig_limits : Sig → List Bool
sig_limits s = nat_le (length s.params) MAX_PARAMS ∷ nat_le (length s.results) MAX_RESULTS ∷ []

sig_limits_tested : (s : Sig) → all_true (sig_limits s) ≡ true → SigWithinLimits s
sig_limits_tested s h =
    let at = test_at (sig_limits s) h in record { params = leb-true _ _ (at 0); results = leb-true _ _ (at 1) }

abbrev value_limits : Value → List Bool
value_limits v = nat_le (length v.args) MAX_ARGS ∷ nat_le (length (tuple_words v.ty)) MAX_RESULTS ∷ []

value_limits_tested : (v : Value) → all_true (value_limits v) ≡ true → ValueWithinLimits v
value_limits_tested v h =
    let at = test_at (value_limits v) h in record { args = leb-true _ _ (at 0); results = leb-true _ _ (at 1) }

abbrev func_limits : Func → List Bool
func_limits f =
    nat_le (length (values_of f)) MAX_VALUES
    ∷ nat_le (length f.blocks) MAX_BLOCKS
    ∷ list_all (λ v. all_true (value_limits v)) (values_of f)
    ∷ list_all (λ (b : Block). nat_le (length b.preds) MAX_ARGS) f.blocks
    ∷ []

func_limits_tested : (f : Func) → all_true (func_limits f) ≡ true → FuncWithinLimits f
func_limits_tested f h = let at = test_at (func_limits f) h in record {
  values = leb-true _ _ (at 0);
  blocks = leb-true _ _ (at 1);
  each_value = all_tested value_limits_tested (values_of f) (at 2);
  preds = all_tested (λ b. leb-true (length b.preds) MAX_ARGS) f.blocks (at 3);
}

-- each piece stands on one line
abbrev on_lines : List Piece → Bool
on_lines pieces = list_all (λ p. nat_le (length p.bytes) MAX_PIECE_BYTES) pieces

on_lines_tested : (pieces : List Piece) → on_lines pieces ≡ true → All (λ p. length p.bytes ≤ MAX_PIECE_BYTES) pieces
on_lines_tested pieces h = all_tested (λ (p : Piece). leb-true (length p.bytes) MAX_PIECE_BYTES) pieces h

abbrev reply_limits : Reply → List Bool
reply_limits r = nat_le (length r.junk.words) MAX_JUNK_WORDS ∷ on_lines r.writes ∷ []

reply_limits_tested : (r : Reply) → all_true (reply_limits r) ≡ true → ReplyWithinLimits r
reply_limits_tested r h = let at = test_at (reply_limits r) h in record {
  junk = leb-true _ _ (at 0);
  writes = on_lines_tested r.writes (at 1);
}

abbrev bytes_of_case : Case → ℕ
bytes_of_case c = bytes_in c.mem + sum_by (λ (r : Reply). bytes_in r.writes) c.replies

abbrev case_limits : Case → List Bool
case_limits c =
    nat_le c.bound MAX_BOUND
    ∷ nat_le (length c.junk.words) MAX_JUNK_WORDS
    ∷ on_lines c.mem
    ∷ nat_le (bytes_of_case c) MAX_CASE_BYTES
    ∷ nat_le (length c.replies) MAX_REPLIES
    ∷ list_all (λ r. all_true (reply_limits r)) c.replies
    ∷ []

case_limits_tested : (c : Case) → all_true (case_limits c) ≡ true → CaseWithinLimits c
case_limits_tested c h = let at = test_at (case_limits c) h in record {
  bound = leb-true _ _ (at 0);
  junk = leb-true _ _ (at 1);
  mem = on_lines_tested c.mem (at 2);
  bytes = leb-true (bytes_of_case c) MAX_CASE_BYTES (at 3);
  replies = leb-true _ _ (at 4);
  each_reply = all_tested reply_limits_tested c.replies (at 5);
}

abbrev unit_limits : SsaUnit → List Bool
unit_limits u =
    nat_le (length u.funcs) MAX_FUNCTIONS
    ∷ nat_le (length u.sigs) MAX_SIGS
    ∷ nat_le (length u.cases) MAX_CASES
    ∷ list_all (λ s. all_true (sig_limits s)) (signatures u)
    ∷ list_all (λ f. all_true (func_limits f)) u.funcs
    ∷ list_all (λ c. all_true (case_limits c)) u.cases
    ∷ []

unit_limits_tested : (u : SsaUnit) → all_true (unit_limits u) ≡ true → WithinLimits u
unit_limits_tested u h = let at = test_at (unit_limits u) h in record {
  functions = leb-true _ _ (at 0);
  sigs = leb-true _ _ (at 1);
  cases = leb-true _ _ (at 2);
  each_signature = all_tested sig_limits_tested (signatures u) (at 3);
  each_function = all_tested func_limits_tested u.funcs (at 4);
  each_case = all_tested case_limits_tested u.cases (at 5);
}

-- ---- numbers and names

abbrev number_tests : ℕ → List Bool
number_tests n = nat_le 1 n ∷ nat_le n MAX_NUMBER ∷ []

number_tested : (n : ℕ) → all_true (number_tests n) ≡ true → IsNumber n
number_tested n h =
    let at = test_at (number_tests n) h in record { least = leb-true _ _ (at 0); greatest = leb-true _ _ (at 1) }

abbrev name_tests : List ℕ → List Bool
name_tests bytes = has_name_bytes bytes ∷ nat_le (length bytes) 100 ∷ []

name_tested : (bytes : List ℕ) → all_true (name_tests bytes) ≡ true → IsName bytes
name_tested bytes h = let at = test_at (name_tests bytes) h in record { form = at 0; few = leb-true _ _ (at 1) }

-- ---- values

abbrev can_be_written : Op → Ty → Bool
can_be_written op (One t) = true
can_be_written op Mem = not (makes_tuple op)
can_be_written op (Tuple []) = makes_tuple op
can_be_written op (Tuple (t ∷ types)) = true
can_be_written op Flags = false
can_be_written op Void = false

written_tested : (op : Op) (ty : Ty) → can_be_written op ty ≡ true → CanBeWritten op ty
written_tested op (One t) h = tt
written_tested op Mem h = false_tested (makes_tuple op) h
written_tested op (Tuple []) h = h
written_tested op (Tuple (t ∷ types)) h = tt
written_tested op Flags h = cc
written_tested op Void h = cc

-- whether a number is this one
abbrev is_number : ℕ → ℤ → Bool
is_number n (pos m) = m == n
is_number n (negsuc m) = false

is_number_tested : (n : ℕ) (aux : ℤ) → is_number n aux ≡ true → aux ≡ pos n
is_number_tested n (pos m) h = ap pos (eqb-true m n h)
is_number_tested n (negsuc m) h = cc

abbrev has_number : AuxRule → ℤ → Bool
has_number Int aux = true
has_number TrueOrFalse aux = is_number 0 aux || is_number 1 aux
has_number Nothing aux = is_number 0 aux
has_number Sym aux = is_number 0 aux
has_number Elem aux = is_number 0 aux
has_number Dropped aux = is_number 0 aux

either_tested : (a b : Bool) (aux : ℤ) → is_number 0 aux ≡ a → is_number 1 aux ≡ b → (a || b) ≡ true
    → (aux ≡ pos 0) ⊎ (aux ≡ pos 1)
either_tested true b aux zero_is one_is h = inl (is_number_tested 0 aux zero_is)
either_tested false true aux zero_is one_is h = inr (is_number_tested 1 aux one_is)
either_tested false false aux zero_is one_is h = cc

has_number_tested : (rule : AuxRule) (aux : ℤ) → has_number rule aux ≡ true → HasItsNumber rule aux
has_number_tested Int aux h = tt
has_number_tested TrueOrFalse aux h = either_tested (is_number 0 aux) (is_number 1 aux) aux refl refl h
has_number_tested Nothing aux h = is_number_tested 0 aux h
has_number_tested Sym aux h = is_number_tested 0 aux h
has_number_tested Elem aux h = is_number_tested 0 aux h
has_number_tested Dropped aux h = is_number_tested 0 aux h

abbrev has_symbol : AuxRule → Option (List ℕ) → Bool
has_symbol Sym sym = is_some sym
has_symbol Nothing sym = is_none sym
has_symbol Int sym = is_none sym
has_symbol TrueOrFalse sym = is_none sym
has_symbol Elem sym = is_none sym
has_symbol Dropped sym = is_none sym

has_symbol_tested : (rule : AuxRule) (sym : Option (List ℕ)) → has_symbol rule sym ≡ true → HasItsSymbol rule sym
has_symbol_tested Sym sym h = h
has_symbol_tested Nothing sym h = none_tested sym h
has_symbol_tested Int sym h = none_tested sym h
has_symbol_tested TrueOrFalse sym h = none_tested sym h
has_symbol_tested Elem sym h = none_tested sym h
has_symbol_tested Dropped sym h = none_tested sym h

abbrev has_elem : AuxRule → Option Scalar → Bool
has_elem Elem elem = is_some elem
has_elem Nothing elem = is_none elem
has_elem Int elem = is_none elem
has_elem TrueOrFalse elem = is_none elem
has_elem Sym elem = is_none elem
has_elem Dropped elem = is_none elem

has_elem_tested : (rule : AuxRule) (elem : Option Scalar) → has_elem rule elem ≡ true → HasItsElem rule elem
has_elem_tested Elem elem h = h
has_elem_tested Nothing elem h = none_tested elem h
has_elem_tested Int elem h = none_tested elem h
has_elem_tested TrueOrFalse elem h = none_tested elem h
has_elem_tested Sym elem h = none_tested elem h
has_elem_tested Dropped elem h = none_tested elem h

abbrev value_tests : Value → List Bool
value_tests v =
    not (is_machine v.op)
    ∷ can_be_written v.op v.ty
    ∷ has_number (row_of v.op).aux v.aux
    ∷ has_symbol (row_of v.op).aux v.sym
    ∷ has_elem (row_of v.op).aux v.elem
    ∷ if_some (λ bytes. all_true (name_tests bytes)) v.sym
    ∷ []

value_tested : (v : Value) → all_true (value_tests v) ≡ true → WellFormedValue v
value_tested v h = let at = test_at (value_tests v) h in record {
  generic = false_tested (is_machine v.op) (at 0);
  type = written_tested v.op v.ty (at 1);
  number = has_number_tested (row_of v.op).aux v.aux (at 2);
  symbol = has_symbol_tested (row_of v.op).aux v.sym (at 3);
  elem = has_elem_tested (row_of v.op).aux v.elem (at 4);
  name = if_some_tested name_tested v.sym (at 5);
}

-- ---- blocks

abbrev has_successors : Kind → ℕ → Bool
has_successors Plain n = n == 1
has_successors If n = n == 2
has_successors Ret n = n == 0
has_successors Exit n = n == 0
has_successors (Cond c) n = false
has_successors Bit n = false

has_successors_tested : (kind : Kind) (n : ℕ) → has_successors kind n ≡ true → HasItsSuccessors kind n
has_successors_tested Plain n h = eqb-true n 1 h
has_successors_tested If n h = eqb-true n 2 h
has_successors_tested Ret n h = eqb-true n 0 h
has_successors_tested Exit n h = eqb-true n 0 h
has_successors_tested (Cond c) n h = cc
has_successors_tested Bit n h = cc

abbrev has_control : Kind → Option ValueId → Bool
has_control Plain control = is_none control
has_control If control = is_some control
has_control Ret control = is_some control
has_control Exit control = is_some control
has_control (Cond c) control = false
has_control Bit control = false

has_control_tested : (kind : Kind) (control : Option ValueId) → has_control kind control ≡ true
    → HasItsControl kind control
has_control_tested Plain control h = none_tested control h
has_control_tested If control h = h
has_control_tested Ret control h = h
has_control_tested Exit control h = h
has_control_tested (Cond c) control h = cc
has_control_tested Bit control h = cc

abbrev block_tests : Block → List Bool
block_tests b = has_successors b.kind (length b.succs) ∷ has_control b.kind b.control ∷ []

block_tested : (b : Block) → all_true (block_tests b) ≡ true → WellFormedBlock b
block_tested b h = let at = test_at (block_tests b) h in record {
  successors = has_successors_tested b.kind (length b.succs) (at 0);
  control = has_control_tested b.kind b.control (at 1);
}

-- ---- functions and units

abbrev value_is_there : Func → ValueId → Bool
value_is_there f id = is_some (value_of f id)

abbrev block_is_there : Func → BlockId → Bool
block_is_there f id = is_some (block_of f id)

abbrev func_tests : Func → List Bool
func_tests f =
    list_all (λ (v : Value). all_true (number_tests v.id.0)) (values_of f)
    ∷ list_all (λ (b : Block). all_true (number_tests b.id.n)) f.blocks
    ∷ differ ◌==◌ (map (λ v. v.id.0) (values_of f))
    ∷ differ ◌==◌ (map (λ b. b.id.n) f.blocks)
    ∷ list_all (λ (b : Block). not b.id.split) f.blocks
    ∷ list_all (λ (v : Value). list_all (value_is_there f) v.args) (values_of f)
    ∷ list_all (λ (b : Block). if_some (value_is_there f) b.control) f.blocks
    ∷ list_all (λ (b : Block). list_all (block_is_there f) b.preds) f.blocks
    ∷ list_all (λ (b : Block). list_all (block_is_there f) b.succs) f.blocks
    ∷ list_all (λ v. all_true (value_tests v)) (values_of f)
    ∷ list_all (λ b. all_true (block_tests b)) f.blocks
    ∷ []

func_tested : (f : Func) → all_true (func_tests f) ≡ true → WellFormedFunc f
func_tested f h = let at = test_at (func_tests f) h in record {
  value_numbers = all_tested (λ (v : Value). number_tested v.id.0) (values_of f) (at 0);
  block_numbers = all_tested (λ (b : Block). number_tested b.id.n) f.blocks (at 1);
  values_differ = differ_tested ◌==◌ Decides-eqb (map (λ v. v.id.0) (values_of f)) (at 2);
  blocks_differ = differ_tested ◌==◌ Decides-eqb (map (λ b. b.id.n) f.blocks) (at 3);
  unsplit = all_tested (λ (b : Block). false_tested b.id.split) f.blocks (at 4);
  args_there = all_tested (λ (v : Value). all_tested (λ id there. there) v.args) (values_of f) (at 5);
  controls_there = all_tested (λ (b : Block). if_some_tested (λ id there. there) b.control) f.blocks (at 6);
  preds_there = all_tested (λ (b : Block). all_tested (λ id there. there) b.preds) f.blocks (at 7);
  succs_there = all_tested (λ (b : Block). all_tested (λ id there. there) b.succs) f.blocks (at 8);
  each_value = all_tested value_tested (values_of f) (at 9);
  each_block = all_tested block_tested f.blocks (at 10);
}

abbrev case_tests : SsaUnit → Case → List Bool
case_tests u c =
    nat_lt c.func (length u.funcs) ∷ list_all (λ (s : List ℕ × ℕ). all_true (name_tests s.0)) c.syms ∷ []

case_tested : (u : SsaUnit) (c : Case) → all_true (case_tests u c) ≡ true → WellFormedCase u c
case_tested u c h = let at = test_at (case_tests u c) h in record {
  function = ltb-true c.func (length u.funcs) (at 0);
  symbols = all_tested (λ (s : List ℕ × ℕ). name_tested s.0) c.syms (at 1);
}

abbrev pub unit_tests : SsaUnit → List Bool
unit_tests u =
    all_true (unit_limits u)
    ∷ list_all (λ (s : Sig). all_true (name_tests s.name)) (signatures u)
    ∷ differ bytes_eq (map (λ s. s.name) (signatures u))
    ∷ list_all (λ f. all_true (func_tests f)) u.funcs
    ∷ list_all (λ c. all_true (case_tests u c)) u.cases
    ∷ []

-- a unit of which all tests answer true is well formed
pub unit_tested : (u : SsaUnit) → all_true (unit_tests u) ≡ true → WellFormed u
unit_tested u h = let at = test_at (unit_tests u) h in record {
  limits = unit_limits_tested u (at 0);
  names = all_tested (λ (s : Sig). name_tested s.name) (signatures u) (at 1);
  names_differ = differ_tested bytes_eq bytes_eq-Decides (map (λ s. s.name) (signatures u)) (at 2);
  each_function = all_tested func_tested u.funcs (at 3);
  each_case = all_tested (case_tested u) u.cases (at 4);
}
